-- The leader's value, where there is none.
use Rattle.std.proofs.Common.{add-one, ◌≡◌, ℕ, zero, suc, ◌+◌, take, drop, ◌||◌, Bool, true, false, Some, List, []}
use Rattle.std.proofs.Common.{Contains, length, refl, ap, sym, subst, ◌∙◌, arith, true≢false, ◌∷◌, ◌++◌}
use Rattle.std.specs.Prelude.{MatchOption, slice_get}
use Rattle.std.specs.Bool.{then_some}
use Rattle.std.proofs.lemmas.List.Elements.{Contains-append_right}
use Rattle.lk_types.specs.declared.member.Member.{Member}
use Rattle.lk_members.specs.Effects.{Command, RequestValue, Noop, Request}
use Rattle.lk_members.specs.Windows.{RosterValue}
use Rattle.lk_leader.specs.Terms.{TermValue, ProposalValue}
use Rattle.lk_leader.specs.Values.{IsUnderWay, IsFirstNew, NoneIsNew, promised_at, received_at, has_vote_from}
use Rattle.lk_leader.specs.Values.{is_changing_at}
use Rattle.lk_leader.specs.Values.{IsLeadersValue, highest, first_new, fills}

module _ (t : TermValue) (waiting : List RequestValue) (roster : RosterValue) (set : List Member) (i : ℕ)
    (none : promised_at i (received_at set i t.received) ≡ [])
    (old : NoneIsNew roster.executed t.proposals waiting) where
  no_value : has_vote_from t.received i || is_changing_at roster i ≡ false → (v : Command)
      → IsLeadersValue t waiting roster set i v → ⊥
  no_value f v (highest h best) = absurd (omega (arith, best.among.1, ap length none))
  no_value f v (first_new q told first) =
      first.new (old q (subst (λ (l : List RequestValue). Contains l q) (sym first.parts)
      (Contains-append_right first.before (q ∷ first.behind) q (0, omega arith, refl))))
  no_value f v (fills told new gap) = true≢false (sym gap ∙ f)

  -- a gap is filled, and nothing else is proposed
  pub filled : (b : Bool) → b ≡ (has_vote_from t.received i || is_changing_at roster i)
      → MatchOption (then_some b Noop) ((v : Command) → IsLeadersValue t waiting roster set i v → ⊥)
      (λ v. IsLeadersValue t waiting roster set i v)
  filled true gap = fills none old (sym gap)
  filled false gap = no_value (sym gap)

split-at : (xs : List RequestValue) (k : ℕ) (q : RequestValue) → slice_get xs k ≡ Some q
    → xs ≡ take k xs ++ (q ∷ drop (suc k) xs)
split-at [] k q at = absurd (cc at)
split-at (x ∷ xs) zero q at = (let same : x ≡ q = cc at in ap (λ y. y ∷ xs) same)
split-at (x ∷ xs) (suc k) q at = ap (λ l. x ∷ l) (split-at xs k q at)

take-next : (xs : List RequestValue) (k : ℕ) (q : RequestValue) → slice_get xs k ≡ Some q
    → take (suc k) xs ≡ take k xs ++ q ∷ []
take-next [] k q at = absurd (cc at)
take-next (x ∷ xs) zero q at = (let same : x ≡ q = cc at in ap (λ y. y ∷ []) same)
take-next (x ∷ xs) (suc k) q at = ap (λ l. x ∷ l) (take-next xs k q at)

-- one request more
pub take-one : (xs : List RequestValue) (k : ℕ) (q : RequestValue) → slice_get xs k ≡ Some q
    → take (k + 1) xs ≡ take k xs ++ q ∷ []
take-one xs k q at = ap (λ n. take n xs) (add-one k) ∙ take-next xs k q at

-- where all before it are under way and it is not, it is the first
pub first-at : (executed : ℕ) (ps : List ProposalValue) (waiting : List RequestValue) (k : ℕ) (q : RequestValue)
    → slice_get waiting k ≡ Some q
    → ((r : RequestValue) → Contains (take k waiting) r → IsUnderWay executed ps (Request r))
    → (IsUnderWay executed ps (Request q) → ⊥) → IsFirstNew executed ps waiting q
first-at executed ps waiting k q at under_way new =
    record {
      before = take k waiting;
      behind = drop (suc k) waiting;
      parts = split-at waiting k q at;
      under_way = under_way;
      new = new;
    }
