use Rattle.std.proofs.Common.{ℕ, Option, subst}
use Rattle.lk_healing.proofs.Gaps.{begins_going, goes_on, going_ends, gone, may_still}
use Rattle.lk_healing.specs.Gaps.{ClosesOrGains}
use Rattle.lk_healing.proofs.closing.close_gap.Goals as goal

pub gaps-init : goal.gaps-init
gaps-init g c k =
    begins_going g.M.Machine.meaning g.M.Machine.IsText c.args.behind c.args.ahead c.args.world.now k

pub gain-requires : goal.gain-requires
gain-requires g c =
    may_still g.M.Machine.meaning g.M.Machine.IsText c.args.behind c.args.ahead c.args.world.now c.requires
    c.gaps.counter c.gaps.world (c.gaps.invariant c.requires)

pub unreachable-requires : goal.unreachable-requires
unreachable-requires g c =
    going_ends g.M.Machine.meaning g.M.Machine.IsText c.args.behind c.args.ahead c.args.world.now c.requires
    c.gaps.counter c.gaps.world (c.gaps.invariant c.requires) c.gaps-test.false

pub returns-in-Some-clause-ok : goal.returns-in-Some-clause-ok
returns-in-Some-clause-ok g c k =
    let s = c.gaps.invariant k in
    let may = may_still g.M.Machine.meaning g.M.Machine.IsText c.args.behind c.args.ahead c.args.world.now k
    c.gaps.counter c.gaps.world s in
    gone g.M.Machine.meaning g.M.Machine.IsText c.args.behind c.args.ahead c.args.world.now k c.gaps.counter
    c.gaps.world c.gain.new.world c.in-Some.own s
    (subst (λ (o : Option ℕ). ClosesOrGains g.M.Machine.meaning g.M.Machine.IsText c.args.behind c.args.ahead
    c.gaps.world c.gain.new.world may o) c.in-Some.is (c.in_ok-own.ensures.ok may))

pub gaps-preserved : goal.gaps-preserved
gaps-preserved g c k =
    let s = c.gaps.invariant k in
    let may = may_still g.M.Machine.meaning g.M.Machine.IsText c.args.behind c.args.ahead c.args.world.now k
    c.gaps.counter c.gaps.world s in
    goes_on g.M.Machine.meaning g.M.Machine.IsText c.args.behind c.args.ahead c.args.world.now k c.gaps.counter
    c.gaps.world c.gain.new.world s
    (subst (λ (o : Option ℕ). ClosesOrGains g.M.Machine.meaning g.M.Machine.IsText c.args.behind c.args.ahead
    c.gaps.world c.gain.new.world may o) c.in_default.is (c.in_ok-own.ensures.ok may))
