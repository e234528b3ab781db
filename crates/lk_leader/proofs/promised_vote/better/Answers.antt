-- The vote comes last, and stays where it counts for more.
use Rattle.std.proofs.Common.{[], ◌∷◌, ◌++◌, sym, subst, Option}
use Rattle.lk_types.specs.declared.vote.Vote.{Vote}
use Rattle.lk_leader.specs.Values.{PromisedVote, IsBest, IsHighest}
use Rattle.lk_leader.proofs.BestLaws.{best-first, best-kept, best-raised}
use Rattle.lk_leader.proofs.promised_vote.better.Goals.{in-Some+else-not-is_below, in_default}
use Rattle.lk_leader.proofs.promised_vote.better.Goals as goal

pub returns-then-not-is_below : goal.returns-then-not-is_below
returns-then-not-is_below c = λ ts best.
    let x : PromisedVote = record { node = c.args.node; vote = c.args.vote.now } in
    subst (λ (o : Option PromisedVote). IsBest (ts ++ x ∷ []) o) (sym c.in-Some.is)
    (best-kept ts x c.in-Some.reported (subst (λ (o : Option PromisedVote). IsBest ts o) c.in-Some.is best)
    (c.is_below.ensures.above c.if-not-is_below.true))

pub returns : goal.returns
returns c = λ ts best.
    let x : PromisedVote = record { node = c.args.node; vote = c.args.vote.now } in
    subst (λ (v : Vote). IsHighest (ts ++ x ∷ []) (record { node = c.args.node; vote = v })) (sym c.copy.ensures)
    (elim c.match-best.branch [
      | in-Some+else-not-is_below w ↦
          best-raised ts x w.in-Some.reported (subst (λ (o : Option PromisedVote). IsBest ts o) w.in-Some.is best)
          (w.is_below.ensures.below w.if-not-is_below.false)
      | in_default w ↦ best-first ts x (subst (λ (o : Option PromisedVote). IsBest ts o) w.in_default.is best)
    ])
