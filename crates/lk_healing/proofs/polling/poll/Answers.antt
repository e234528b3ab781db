use Rattle.std.proofs.Common.{rules, ◌≡◌, ◌+◌, ◌++◌, [], ◌∷◌, ℕ, List, Some, length, slice_get, refl, sym, subst}
use Rattle.std.proofs.lemmas.Option.{slice_get_read}
use Rattle.lk_healing.proofs.Places.{contains_at}
use Rattle.lk_healing.proofs.Polls.{PollsEach, polled_one}
use Rattle.lk_healing.proofs.polling.poll.Goals as goal

pub hand-requires-clause-up : goal.hand-requires-clause-up
hand-requires-clause-up g c =
    let at : slice_get c.args.nodes.now c.nodes.i ≡ Some c.index-nodes-i.result =
    slice_get_read c.args.nodes.now (length c.args.nodes.now) c.nodes.i c.index-nodes-i.result refl
    (search rules) (search rules) in
    (c.nodes.invariant.1 c.index-nodes-i.result (contains_at c.args.nodes.now c.nodes.i c.index-nodes-i.result at)).0

pub hand-requires-clause-sent : goal.hand-requires-clause-sent
hand-requires-clause-sent g c =
    let at : slice_get c.args.nodes.now c.nodes.i ≡ Some c.index-nodes-i.result =
    slice_get_read c.args.nodes.now (length c.args.nodes.now) c.nodes.i c.index-nodes-i.result refl
    (search rules) (search rules) in
    (c.nodes.invariant.1 c.index-nodes-i.result (contains_at c.args.nodes.now c.nodes.i c.index-nodes-i.result at)).1

pub nodes-preserved : goal.nodes-preserved
nodes-preserved g c =
    let at : slice_get c.args.nodes.now c.nodes.i ≡ Some c.index-nodes-i.result =
    slice_get_read c.args.nodes.now (length c.args.nodes.now) c.nodes.i c.index-nodes-i.result refl
    (search rules) (search rules) in
    let place : ℕ = length c.datagrams.result.now + 1 in
    let is : length c.datagrams.result.now + 1 ≡ length c.nodes.world.sent + 1 = search rules in
    let joined : c.add_place.new.places.items ≡ c.nodes.places.items ++ place ∷ [] = search rules in
    subst (λ (ps : List ℕ). PollsEach g.M.Machine.meaning g.M.Machine.IsText c.args.message.now c.args.nodes.now
    c.args.world.now (c.nodes.i + 1) ps c.hand.new.world) (sym joined)
    (polled_one g.M.Machine.meaning g.M.Machine.IsText c.args.message.now c.args.nodes.now c.nodes.i
    c.index-nodes-i.result place c.nodes.places.items c.args.world.now c.nodes.world c.hand.new.world at is
    c.nodes.invariant c.in_ok-hand.ensures.ok)
