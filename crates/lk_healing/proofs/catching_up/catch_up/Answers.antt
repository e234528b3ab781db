use Rattle.std.proofs.Common.{rules, ◌≡◌, ◌+◌, ◌*◌, ◌<◌, ◌≤◌, ℕ, List, subst, sym}
use Rattle.std.proofs.lemmas.Result.{on_ok_weaker}
use Rattle.lk_types.specs.declared.vote.Vote.{Vote}
use Rattle.lk_messages.specs.declared.message.Content.TheVariants as content
use Rattle.lk_messages.specs.declared.message.NodeMessage.TheVariants as kinds
use Rattle.lk_agreement_laws.specs.Datagrams.{Datagram}
use Rattle.lk_world_progress.specs.Delivering.{HearsEach}
use Rattle.lk_world_leftovers.specs.Filling.{decided_by}
use Rattle.lk_healing.proofs.Catches.{behind_first, have_caught_up, is_offered, near_enough, told_on_their_way}
use Rattle.lk_healing.proofs.catching_up.catch_up.Goals as goal
use Rattle.lk_healing.specs.Halts.{AreOnTheirWay}
use Rattle.lk_healing.specs.Standing.{IsOffer}

pub returns-then-get-alpha-clause-ok : goal.returns-then-get-alpha-clause-ok
returns-then-get-alpha-clause-ok g c =
    let near : c.args.next < c.args.asking.now.first + 2 * c.args.world.now.genesis.alpha = search rules in
    near_enough g.M.Machine.meaning g.M.Machine.IsText c.args.world.now c.args.leader c.args.nodes.now
    c.args.asking.now c.args.next c.requires.filled near

pub unreachable-requires : goal.unreachable-requires
unreachable-requires g c =
    let far : c.args.asking.now.first + 2 * c.args.world.now.genesis.alpha ≤ c.args.next = search rules in
    is_offered g.M.Machine.meaning g.M.Machine.IsText c.args.world.now c.args.leader c.args.nodes.now
    c.args.asking.now c.args.next c.requires.filled far
    (subst (λ (ds : List Datagram). (v : Vote) → IsOffer ds c.args.leader c.args.asking.now c.args.asking.now.first v →
    ⊥)
    c.datagrams.ensures (c.offer_at.ensures.none c.in_default.is))

pub hand_each-requires-clause-each : goal.hand_each-requires-clause-each
hand_each-requires-clause-each g c =
    let far : c.args.asking.now.first + 2 * c.args.world.now.genesis.alpha ≤ c.args.next = search rules in
    let o : IsOffer c.args.world.now.sent c.args.leader c.args.asking.now c.args.asking.now.first c.in-Some.vote =
    subst (λ (ds : List Datagram). IsOffer ds c.args.leader c.args.asking.now c.args.asking.now.first c.in-Some.vote)
    c.datagrams.ensures c.in-Some.ensures.some in
    let is : c.message_of-decided.result ≡ record {
      cluster = c.args.asking.now.cluster;
      content = content.Node c.args.leader (kinds.Decided (decided_by c.in-Some.vote));
    } = search rules in
    subst (λ (ns : List ℕ). AreOnTheirWay c.args.world.now ns c.message_of-decided.result) (sym
    (behind_first c.args.nodes.now))
    (told_on_their_way g.M.Machine.meaning g.M.Machine.IsText c.args.world.now c.args.leader c.args.nodes.now
    c.args.asking.now c.args.next c.requires.filled far c.in-Some.vote o c.message_of-decided.result is)

pub returns-clause-ok : goal.returns-clause-ok
returns-clause-ok g c =
    let far : c.args.asking.now.first + 2 * c.args.world.now.genesis.alpha ≤ c.args.next = search rules in
    let o : IsOffer c.args.world.now.sent c.args.leader c.args.asking.now c.args.asking.now.first c.in-Some.vote =
    subst (λ (ds : List Datagram). IsOffer ds c.args.leader c.args.asking.now c.args.asking.now.first c.in-Some.vote)
    c.datagrams.ensures c.in-Some.ensures.some in
    let is : c.message_of-decided.result ≡ record {
      cluster = c.args.asking.now.cluster;
      content = content.Node c.args.leader (kinds.Decided (decided_by c.in-Some.vote));
    } = search rules in
    on_ok_weaker c.hand_each.result
    (λ hears. have_caught_up g.M.Machine.meaning g.M.Machine.IsText c.args.world.now c.args.leader c.args.nodes.now
    c.args.asking.now c.args.next c.requires.filled far c.in-Some.vote o c.message_of-decided.result is
    c.sent_commands_are_executed.ensures c.hand_each.new.world
    (subst (λ (ns : List ℕ). HearsEach g.M.Machine.meaning g.M.Machine.IsText c.message_of-decided.result.content ns
    c.args.world.now c.hand_each.new.world) (behind_first c.args.nodes.now) hears)) c.hand_each.ensures.ok
