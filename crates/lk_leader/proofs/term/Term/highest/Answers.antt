-- One promise more, where it speaks for the position.
use Rattle.std.proofs.Common.{◌≡◌, ◌∙◌, ◌<◌, ◌+◌, Option, List, length, take, get_or, ap, sym, subst}
use Rattle.lk_leader.specs.Terms.{ReceivedPromise, TermValue}
use Rattle.lk_leader.specs.Values.{PromisedVote, IsBest, promised_at, received_at}
use Rattle.lk_leader.proofs.BestLaws.{promised_at-more, promised_at-same}
use Rattle.lk_leader.proofs.term.Term.highest.Goals.{then-speaks_for, else-speaks_for}
use Rattle.lk_leader.proofs.term.Term.highest.Goals as goal

pub loop-promise-preserved : goal.loop-promise-preserved
loop-promise-preserved c =
    let rs : List ReceivedPromise = c.args.self.now.received in
    let received : c.deref-promise-items.result.now ≡ rs = c.deref-promise-items.ensures.value
    ∙ ap (λ (t : TermValue). t.received) c.self.view_is in
    let in' : c.loop-promise.promise-index < length rs =
    subst (λ (l : List ReceivedPromise). c.loop-promise.promise-index < length l) received c.loop-promise-test.true in
    let is : c.promise-item.result ≡ get_or rs c.loop-promise.promise-index c.promise-item.result =
    subst (λ (l : List ReceivedPromise). c.promise-item.result
    ≡ get_or l c.loop-promise.promise-index c.promise-item.result)
    received c.promise-item.is in
    let before : List PromisedVote =
    promised_at c.args.position (received_at c.args.set.now c.args.position (take c.loop-promise.promise-index rs)) in
    let best : IsBest before c.loop-promise.best = c.loop-promise.invariant in
    let after : List PromisedVote =
    promised_at c.args.position (received_at c.args.set.now c.args.position (take
    (c.loop-promise.promise-index + 1) rs)) in
    elim c.if-speaks_for.branch [
      | then-speaks_for w ↦
          (let more = promised_at-more c.args.set.now c.args.position rs c.loop-promise.promise-index
          c.promise-item.result
          in' is (sym c.speaks_for.ensures ∙ w.if-speaks_for.true) in
          subst (λ (o : Option PromisedVote). IsBest after o) (sym w.best-is)
          (subst (λ (l : List PromisedVote). IsBest l w.best_vote-best.result) (sym more)
          (w.best_vote-best.ensures before best)))
      | else-speaks_for w ↦
          (let same = promised_at-same c.args.set.now c.args.position rs c.loop-promise.promise-index
          c.promise-item.result
          in' is (sym c.speaks_for.ensures ∙ w.if-speaks_for.false) in
          subst (λ (o : Option PromisedVote). IsBest after o) (sym w.best-is)
          (subst (λ (l : List PromisedVote). IsBest l c.loop-promise.best) (sym same) best))
    ]
