-- The plain ways to keep votes in a list are allowed.
use Rattle.std.proofs.Common.{◌≡◌, ℕ, ◌<◌, ◌≤◌, ◌==◌, not, List, [], ◌∷◌, ◌++◌, Contains, filter, nat_lt, nat_le, ap}
use Rattle.std.proofs.Common.{sym, subst, inl, inr, ne_eqb, lt-ltb, le-leb}
use Rattle.std.proofs.lemmas.Bool.{cases_lt}
use Rattle.std.proofs.lemmas.List.Elements.{Contains-push, Contains-push_cases, Contains-append_left}
use Rattle.lk_messages.specs.Values.{PromiseValue}
use Rattle.lk_agreement_laws.specs.Datagrams.{Vote}
use Rattle.lk_agreement_laws.specs.Acceptors.{AcceptorState, AddsVote, ForgetsVotes}
use Rattle.lk_agreement_laws.specs.Nodes.{MayPromise}
use Rattle.lk_agreement_laws.proofs.Lists.{filter_has, filter_from}

has : (xs ys : List Vote) (x : Vote) → xs ≡ ys → Contains ys x → Contains xs x
has xs ys x e h = subst (λ l. Contains l x) (sym e) h

from : (xs ys : List Vote) (x : Vote) → xs ≡ ys → Contains xs x → Contains ys x
from xs ys x e h = subst (λ l. Contains l x) e h

pub pushed_takes_vote : (old new : AcceptorState) (x : Vote) → new.promised ≡ x.ballot
    → new.snapshot_position ≡ old.snapshot_position
    → new.votes ≡ filter (λ y. not (y.position == x.position)) old.votes ++ x ∷ [] → AddsVote old x new
pushed_takes_vote old new x promised snapshot votes = record {
  promised = promised;
  snapshot = snapshot;
  kept = has new.votes _ x votes (Contains-push _ x);
  others = λ y h ne. has new.votes _ y votes
      (Contains-append_left _ (x ∷ []) y
      (filter_has (λ (z : Vote). not (z.position == x.position)) old.votes y h
      (ap not (ne_eqb y.position x.position ne))));
  only = λ y h. elim (Contains-push_cases (filter (λ (z : Vote). not (z.position == x.position)) old.votes) x y
      (from new.votes _ y votes h)) [
        | inl before ↦ inr (filter_from (λ (z : Vote). not (z.position == x.position)) old.votes y before)
        | inr e ↦ inl (sym e)
      ];
}

pub filtered_takes_snapshot : (old new : AcceptorState) (i : ℕ) → old.snapshot_position ≤ i
    → new.promised ≡ old.promised → new.snapshot_position ≡ i
    → new.votes ≡ filter (λ y. nat_lt i y.position) old.votes → ForgetsVotes old i new
filtered_takes_snapshot old new i later promised snapshot votes = record {
  promised = promised;
  snapshot = snapshot;
  later = later;
  above = λ y h. elim (cases_lt i y.position) [
    | inl lt ↦ inr (has new.votes _ y votes
        (filter_has (λ (z : Vote). nat_lt i z.position) old.votes y h (lt-ltb i y.position lt)))
    | inr ge ↦ inl ge
  ];
  only = λ y h. filter_from (λ (z : Vote). nat_lt i z.position) old.votes y (from new.votes _ y votes h);
}

pub filtered_may_promise : (s : AcceptorState) (p : PromiseValue) → s.promised ≡ p.ballot
    → s.snapshot_position < p.first → p.votes ≡ filter (λ y. nat_le p.first y.position) s.votes → MayPromise s p
filtered_may_promise s p promised above votes = record {
  promised = promised;
  above = above;
  all = λ y h le. has p.votes _ y votes
      (filter_has (λ (z : Vote). nat_le p.first z.position) s.votes y h (le-leb p.first y.position le));
  only = λ y h. filter_from (λ (z : Vote). nat_le p.first z.position) s.votes y (from p.votes _ y votes h);
}
