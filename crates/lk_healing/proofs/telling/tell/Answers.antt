use Rattle.std.proofs.Common.{◌≡◌, ℕ, Some, None, length, slice_get, refl, sym}
use Rattle.std.proofs.lemmas.Bool.{ltb-false, ltb-true}
use Rattle.std.proofs.lemmas.Option.{slice_get_past, slice_get_read}
use Rattle.lk_healing.proofs.Nudges.{first_told, has_told, something_told}
use Rattle.lk_healing.proofs.Places.{found_in}
use Rattle.lk_healing.proofs.telling.tell.Goals as goal

pub unreachable-requires : goal.unreachable-requires
unreachable-requires g c =
    let i : ℕ = length c.datagrams-before.result.now in
    let k = c.requires in
    something_told g.M.Machine.meaning g.M.Machine.IsText c.args.world.now c.nudge.new.world c.args.node k.replica k.up
    k.idle c.in_ok-nudge.ensures.ok k.other k.some k.apart k.named
    (found_in c.datagrams.result.now c.nudge.new.world.sent c.datagrams-before.result.now c.args.world.now.sent None
    c.datagrams.ensures c.datagrams-before.ensures
    (slice_get_past c.datagrams.result.now i
    (ltb-false i (length c.datagrams.result.now) (sym c.in_default.ensures.lookup.0))))

pub progress_in-requires : goal.progress_in-requires
progress_in-requires g c =
    let i : ℕ = length c.datagrams-before.result.now in
    let k = c.requires in
    let found = c.in-Some.ensures.lookup in
    first_told g.M.Machine.meaning g.M.Machine.IsText c.args.world.now c.nudge.new.world c.args.node k.replica k.up
    k.idle c.in_ok-nudge.ensures.ok c.in-Some.first.now
    (found_in c.datagrams.result.now c.nudge.new.world.sent c.datagrams-before.result.now c.args.world.now.sent
    (Some c.in-Some.first.now) c.datagrams.ensures c.datagrams-before.ensures
    (slice_get_read c.datagrams.result.now (length c.datagrams.result.now) i c.in-Some.first.now refl
    (ltb-true i (length c.datagrams.result.now) (sym found.0)) found.1))

pub returns-clause-ok : goal.returns-clause-ok
returns-clause-ok g c =
    let i : ℕ = length c.datagrams-before.result.now in
    let k = c.requires in
    let found = c.in-Some.ensures.lookup in
    let at : slice_get c.nudge.new.world.sent (length c.args.world.now.sent) ≡ Some c.in-Some.first.now =
    found_in c.datagrams.result.now c.nudge.new.world.sent c.datagrams-before.result.now c.args.world.now.sent
    (Some c.in-Some.first.now) c.datagrams.ensures c.datagrams-before.ensures
    (slice_get_read c.datagrams.result.now (length c.datagrams.result.now) i c.in-Some.first.now refl
    (ltb-true i (length c.datagrams.result.now) (sym found.0)) found.1) in
    has_told g.M.Machine.meaning g.M.Machine.IsText c.args.world.now c.nudge.new.world c.args.node k.replica k.up
    k.idle c.in_ok-nudge.ensures.ok c.in-Some.first.now at c.progress_in.result
    (c.progress_in.ensures
    (first_told g.M.Machine.meaning g.M.Machine.IsText c.args.world.now c.nudge.new.world c.args.node k.replica k.up
    k.idle c.in_ok-nudge.ensures.ok c.in-Some.first.now at))
