use Rattle.std.proofs.Common.{rules, ◌≡◌, ℕ, Some, None, length, slice_get, add-one, refl, sym, subst}
use Rattle.std.proofs.lemmas.Bool.{ltb-false, ltb-true}
use Rattle.std.proofs.lemmas.Option.{slice_get_past, slice_get_read}
use Rattle.lk_healing.proofs.Places.{found_in}
use Rattle.lk_healing.proofs.Waits.{HasWaited, has_begun, not_for_ever, prepare_there, waits_on}
use Rattle.lk_healing.proofs.waiting.begin_ballot.Goals as goal

pub asking_in-requires : goal.asking_in-requires
asking_in-requires g c =
    let i : ℕ = length c.datagrams-before.result.now in
    let found = c.in-Some.ensures.lookup in
    let at : slice_get c.tick.new.world.sent (length c.ticks.world.sent) ≡ Some c.in-Some.first.now =
    found_in c.datagrams.result.now c.tick.new.world.sent c.datagrams-before.result.now c.ticks.world.sent
    (Some c.in-Some.first.now) c.datagrams.ensures c.datagrams-before.ensures
    (slice_get_read c.datagrams.result.now (length c.datagrams.result.now) i c.in-Some.first.now refl
    (ltb-true i (length c.datagrams.result.now) (sym found.0)) found.1) in
    prepare_there g.M.Machine.meaning g.M.Machine.IsText c.args.node c.args.world.now c.ticks.world c.tick.new.world
    c.ticks.counter c.ticks.invariant c.in_ok-tick.ensures.ok c.in-Some.first.now at

pub returns-in-Some-clause-ok : goal.returns-in-Some-clause-ok
returns-in-Some-clause-ok g c =
    let i : ℕ = length c.datagrams-before.result.now in
    let found = c.in-Some.ensures.lookup in
    let at : slice_get c.tick.new.world.sent (length c.ticks.world.sent) ≡ Some c.in-Some.first.now =
    found_in c.datagrams.result.now c.tick.new.world.sent c.datagrams-before.result.now c.ticks.world.sent
    (Some c.in-Some.first.now) c.datagrams.ensures c.datagrams-before.ensures
    (slice_get_read c.datagrams.result.now (length c.datagrams.result.now) i c.in-Some.first.now refl
    (ltb-true i (length c.datagrams.result.now) (sym found.0)) found.1) in
    has_begun g.M.Machine.meaning g.M.Machine.IsText c.args.node c.args.world.now c.ticks.world c.tick.new.world
    c.ticks.counter c.ticks.invariant c.in_ok-tick.ensures.ok c.in-Some.first.now at c.asking_in.result
    (c.asking_in.ensures (prepare_there g.M.Machine.meaning g.M.Machine.IsText c.args.node c.args.world.now
    c.ticks.world c.tick.new.world c.ticks.counter c.ticks.invariant c.in_ok-tick.ensures.ok c.in-Some.first.now at))
    (search rules)

pub ticks-preserved : goal.ticks-preserved
ticks-preserved g c =
    let i : ℕ = length c.datagrams-before.result.now in
    let none : slice_get c.tick.new.world.sent (length c.ticks.world.sent) ≡ None =
    found_in c.datagrams.result.now c.tick.new.world.sent c.datagrams-before.result.now c.ticks.world.sent None
    c.datagrams.ensures c.datagrams-before.ensures
    (slice_get_past c.datagrams.result.now i
    (ltb-false i (length c.datagrams.result.now) (sym c.in_default.ensures.lookup.0))) in
    subst (λ (k : ℕ). HasWaited g.M.Machine.meaning g.M.Machine.IsText c.args.node c.args.world.now k
    c.tick.new.world) (sym (add-one c.ticks.counter))
    (waits_on g.M.Machine.meaning g.M.Machine.IsText c.args.node c.args.world.now c.ticks.world c.tick.new.world
    c.ticks.counter c.ticks.invariant c.in_ok-tick.ensures.ok none)

pub unreachable-requires : goal.unreachable-requires
unreachable-requires g c =
    not_for_ever g.M.Machine.meaning g.M.Machine.IsText c.args.node c.ticks_begin_a_ballot_in_a_world.ensures
    c.args.world.now c.ticks.world c.ticks.counter c.facts.ensures.keeps c.requires c.ticks.invariant c.ticks-test.false
