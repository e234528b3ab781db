use Rattle.std.proofs.Common.{List, subst}
use Rattle.lk_types.specs.declared.vote.Vote.{Vote}
use Rattle.lk_agreement_laws.specs.Datagrams.{Datagram}
use Rattle.lk_healing.proofs.Filled.{begins_filling, ends_filling, filled_more, filled_so, offers}
use Rattle.lk_healing.proofs.filling.fill.Goals as goal
use Rattle.lk_healing.specs.Standing.{IsOffer}

pub positions-init : goal.positions-init
positions-init g c = begins_filling g.M.Machine.meaning g.M.Machine.IsText c.args.leader c.args.nodes.now
    c.args.asking.now
    c.args.world.now c.requires

pub fill_next-requires : goal.fill_next-requires
fill_next-requires g c = offers g.M.Machine.meaning g.M.Machine.IsText c.args.leader c.args.nodes.now c.args.asking.now
    c.args.world.now c.positions.world c.positions.counter c.positions.next c.positions.invariant c.in-Some.vote
    (subst (λ (ds : List Datagram). IsOffer ds c.args.leader c.args.asking.now c.positions.next c.in-Some.vote)
    c.datagrams.ensures c.in-Some.ensures.some)

pub returns-in_default-clause-ok : goal.returns-in_default-clause-ok
returns-in_default-clause-ok g c = filled_so g.M.Machine.meaning g.M.Machine.IsText c.args.leader c.args.nodes.now
    c.args.asking.now
    c.args.world.now c.positions.world c.positions.counter c.positions.next c.positions.invariant
    c.a_filling_leader_offers.ensures c.get.ensures.real c.get-in-positions.ensures.in_range
    (subst (λ (ds : List Datagram). (v : Vote) → IsOffer ds c.args.leader c.args.asking.now c.positions.next v → ⊥)
    c.datagrams.ensures (c.offer_at.ensures.none c.in_default.is))

pub positions-preserved : goal.positions-preserved
positions-preserved g c = filled_more g.M.Machine.meaning g.M.Machine.IsText c.args.leader c.args.nodes.now
    c.args.asking.now
    c.args.world.now c.positions.world c.positions.counter c.positions.next c.positions.invariant c.fill_next.new.world
    c.in_ok-next.next c.in-Some.vote.position (c.in-Some.ensures.some.2.position) c.in_ok-next.ensures.ok

pub unreachable-requires : goal.unreachable-requires
unreachable-requires g c = ends_filling g.M.Machine.meaning g.M.Machine.IsText c.args.leader c.args.nodes.now
    c.args.asking.now
    c.args.world.now c.positions.world c.positions.counter c.positions.next c.positions.invariant
    c.positions-test.false
