-- One vote more, where it is for the position.
use Rattle.std.proofs.Common.{◌≡◌, ◌∙◌, ◌<◌, ◌≤◌, ◌+◌, Option, List, ◌++◌, length, take, get_or, ap, sym, subst}
use Rattle.std.proofs.Common.{append_assoc, [], ◌∷◌}
use Rattle.std.proofs.lemmas.List.{take_all}
use Rattle.lk_types.specs.declared.vote.Vote.{Vote}
use Rattle.lk_leader.specs.Terms.{ReceivedPromise}
use Rattle.lk_leader.specs.Values.{PromisedVote, IsBest, promised_by}
use Rattle.lk_leader.proofs.BestLaws.{telling, told-more, told-same}
use Rattle.lk_leader.proofs.received_promise.ReceivedPromise.best_vote.Goals.{then-eq, else-eq}
use Rattle.lk_leader.proofs.received_promise.ReceivedPromise.best_vote.Goals as goal

pub loop-vote-preserved : goal.loop-vote-preserved
loop-vote-preserved c = λ ts first.
    let r : ReceivedPromise = c.args.self.now in
    let x : PromisedVote = record { node = r.node; vote = c.vote-item.result } in
    let votes : c.deref-vote-items.result.now ≡ r.votes = c.deref-vote-items.ensures.value
    ∙ ap (λ (q : ReceivedPromise). q.votes) c.self.view_is in
    let in' : c.loop-vote.vote-index < length r.votes =
    subst (λ (l : List Vote). c.loop-vote.vote-index < length l) votes c.loop-vote-test.true in
    let is : c.vote-item.result ≡ get_or r.votes c.loop-vote.vote-index c.vote-item.result =
    subst (λ (l : List Vote). c.vote-item.result ≡ get_or l c.loop-vote.vote-index c.vote-item.result) votes
    c.vote-item.is in
    let before : List PromisedVote = promised_by c.args.position (telling r (take c.loop-vote.vote-index r.votes)) in
    let best : IsBest (ts ++ before) c.loop-vote.best = c.loop-vote.invariant ts first in
    elim c.if-eq.branch [
      | then-eq w ↦
          (let more = told-more c.args.position r c.loop-vote.vote-index c.vote-item.result in' is
          (sym c.eq.ensures ∙ w.if-eq.true) in
          let node : c.self.inside.node ≡ r.node = ap (λ (q : ReceivedPromise). q.node) c.self.view_is in
          let next : IsBest ((ts ++ before) ++ x ∷ []) w.better-best.result =
          rw node at (w.better-best.ensures (ts ++ before) best) in
          subst (λ (o : Option PromisedVote). IsBest
          (ts ++ promised_by c.args.position (telling r (take (c.loop-vote.vote-index + 1) r.votes))) o) (sym w.best-is)
          (subst (λ (l : List PromisedVote). IsBest (ts ++ l) w.better-best.result) (sym more)
          (subst (λ (l : List PromisedVote). IsBest l w.better-best.result) (append_assoc ts before (x ∷ [])) next)))
      | else-eq w ↦
          (let same = told-same c.args.position r c.loop-vote.vote-index c.vote-item.result in' is
          (sym c.eq.ensures ∙ w.if-eq.false) in
          subst (λ (o : Option PromisedVote). IsBest
          (ts ++ promised_by c.args.position (telling r (take (c.loop-vote.vote-index + 1) r.votes))) o) (sym w.best-is)
          (subst (λ (l : List PromisedVote). IsBest (ts ++ l) c.loop-vote.best) (sym same) best))
    ]

pub returns : goal.returns
returns c = λ ts first.
    let r : ReceivedPromise = c.args.self.now in
    let votes : c.deref-vote-items.result.now ≡ r.votes = c.deref-vote-items.ensures.value
    ∙ ap (λ (q : ReceivedPromise). q.votes) c.self.view_is in
    let end : length r.votes ≤ c.loop-vote.vote-index =
    subst (λ (l : List Vote). length l ≤ c.loop-vote.vote-index) votes c.loop-vote-test.false in
    subst (λ (l : List Vote). IsBest (ts ++ promised_by c.args.position (telling r l)) c.loop-vote.best)
    (take_all c.loop-vote.vote-index r.votes end) (c.loop-vote.invariant ts first)
