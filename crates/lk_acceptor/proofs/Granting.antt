-- What the acceptor's tests tell.
use Rattle.std.proofs.Common.{◌≡◌, ℕ, ◌+◌, ◌*◌, ◌<◌, ◌≤◌, Bool, true, false, ltb, nat_lt, List, [], ◌∷◌, Contains, inl}
use Rattle.std.proofs.Common.{inr, refl, sym, subst, ◌∙◌, arith, IsTrue}
use Rattle.std.specs.List.{list_all}
use Rattle.std.proofs.lemmas.Bool.{and_parts, and_from, ltb-true, lt-ltb}
use Rattle.lk_types.specs.BallotValue.{BallotValue}
use Rattle.lk_types.specs.Ballots.{IsAtMost, is_below}
use Rattle.lk_types.specs.declared.vote.Vote.{Vote}
use Rattle.lk_types.proofs.Values.{at_most_by_test}
use Rattle.lk_agreement_laws.proofs.Histories.{cons_cases, contains_more}
use Rattle.lk_acceptor.proofs.Rising.{first}
use Rattle.lk_acceptor.specs.AcceptorValue.{AcceptorValue}
use Rattle.lk_acceptor.specs.Replies.{GrantsPrepare, GrantsAccept, Agrees}

pub all_below : (end : ℕ) (vs : List Vote) → list_all (λ v. nat_lt v.position end) vs ≡ true → (v : Vote)
    → Contains vs v → v.position < end
all_below end [] e v h = absurd (omega (arith, h.1))
all_below end (w ∷ ws) e v h =
    let b = and_parts (ltb w.position end) (list_all (λ (x : Vote). nat_lt x.position end) ws) e in
    elim (cons_cases w ws v h) [
      | inl same ↦ subst (λ (x : Vote). x.position < end) same (ltb-true w.position end b.0)
      | inr later ↦ all_below end ws b.1 v later
    ]

pub below_all : (end : ℕ) (vs : List Vote) → ((v : Vote) → Contains vs v → v.position < end)
    → list_all (λ v. nat_lt v.position end) vs ≡ true
below_all end [] all = refl
below_all end (w ∷ ws) all =
    and_from (ltb w.position end) (list_all (λ (x : Vote). nat_lt x.position end) ws)
    (lt-ltb w.position end (all w (first w ws))) (below_all end ws (λ v h. all v (contains_more w ws v h)))

-- the promised ballot is not above another, by a test of two that are equal to them
pub by_test : (b c d : BallotValue) (t : Bool) → t ≡ is_below d c → d ≡ b → t ≡ false → IsAtMost c b
by_test b c d t is same no' =
    at_most_by_test b c (subst (λ (x : BallotValue). is_below x c ≡ false) same (sym is ∙ no'))

-- where the other tests pass, the last one decides
pub prepare_by_last : (a : AcceptorValue) (b : BallotValue) (first end : ℕ) (vs : List Vote) (t : Bool)
    → IsAtMost a.state.promised b → a.state.snapshot_position < first
    → t ≡ list_all (λ v. nat_lt v.position end) vs → end ≡ first + 2 * a.alpha → vs ≡ a.state.votes
    → (IsTrue t → GrantsPrepare a b first) × (GrantsPrepare a b first → IsTrue t)
prepare_by_last a b first end vs t ballot above is far same = (
  λ yes'. record {
    ballot = ballot;
    above = above;
    near = λ v h. let k = all_below end vs (sym is ∙ yes') v (subst (λ (l : List Vote). Contains l v) (sym same) h) in
        omega (arith, k, far);
  },
  λ g. is ∙ below_all end vs
      (λ v h. let k = g.near v (subst (λ (l : List Vote). Contains l v) same h) in omega (arith, k, far)),
)

pub accept_by_last : (a : AcceptorValue) (e : ℕ) (x : Vote) (vs : List Vote) (t : Bool)
    → IsAtMost a.state.promised x.ballot → a.state.snapshot_position < x.position → x.position ≤ e + 2 * a.alpha
    → (IsTrue t → (v : Vote) → Contains vs v → Agrees v x) × (((v : Vote) → Contains vs v → Agrees v x) → IsTrue t)
    → vs ≡ a.state.votes → (IsTrue t → GrantsAccept a e x) × (GrantsAccept a e x → IsTrue t)
accept_by_last a e x vs t ballot above near is same = (
  λ yes'. record {
    ballot = ballot;
    above = above;
    near = near;
    agree = λ v h. is.0 yes' v (subst (λ (l : List Vote). Contains l v) (sym same) h);
  },
  λ g. is.1 (λ v h. g.agree v (subst (λ (l : List Vote). Contains l v) same h)),
)
