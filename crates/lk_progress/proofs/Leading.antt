-- If nothing is left to propose, something is proposed at the next position: otherwise the leader could propose the
-- highest vote there, or else the first new request, or else a no-op.
use Rattle.std.proofs.Common.{◌≡◌, ◌∙◌, ◌⊎◌, inl, inr, ℕ, ◌+◌, ◌≤◌, Option, Some, None, List, [], ◌∷◌, ◌++◌, Contains}
use Rattle.std.proofs.Common.{refl, sym, subst, arith, append-nil, append_assoc}
use Rattle.std.proofs.lemmas.List.Elements.{Contains-append_cases}
use Rattle.lk_agreement_laws.proofs.Histories.{at_most_below, below_at_most, cons_cases, contains_more, only}
use Rattle.lk_leader.specs.Terms.{ProposalValue, TermValue, proposal_at}
use Rattle.lk_leader.specs.Values.{promised_at, received_at, IsNotAbove, IsUnderWay, IsFirstNew, NoneIsNew}
use Rattle.lk_leader.specs.Values.{IsLeadersValue, highest, first_new, fills}
use Rattle.lk_learner.specs.Learners.{executed}
use Rattle.lk_members.specs.Effects.{Command, RequestValue, Request, Noop}
use Rattle.lk_node.specs.Leading.{NothingToPropose}
use Rattle.lk_node.specs.NodeValue.{NodeValue}
use Rattle.lk_progress.proofs.Executing.{reaches_or_not}
use Rattle.lk_progress.proofs.Proposing.{some_set}
use Rattle.lk_progress.proofs.Rejecting.{above_or_not}
use Rattle.lk_progress.specs.Leading.{HasWork, IsLeading, LeaderHasProposed}
use Rattle.lk_types.specs.BallotValue.{BallotValue}
use Rattle.lk_types.specs.Ballots.{IsBelow}
use Rattle.lk_types.specs.declared.member.Member.{Member}

-- ---- a highest vote

empty_or : {X : Type 0} (xs : List X) → (xs ≡ []) ⊎ (xs ≡ [] → ⊥)
empty_or [] = inl refl
empty_or (x ∷ xs) = inr (λ e. cc e)

-- of some elements one is above all, in an order that is total and transitive
module _ {X : Type 0} (R : X → X → Type 0) (total : (x y : X) → R x y ⊎ R y x)
    (trans : (x y z : X) → R x y → R y z → R x z) where
  greatest : (x : X) (xs : List X) → (h : X) × Contains (x ∷ xs) h × ((u : X) → Contains (x ∷ xs) u → R u h)
  greatest x [] = (
    x,
    (0, omega arith, refl),
    λ u c. subst (λ (y : X). R y x) (only x u c) (self x),
  )
    where
      self : (y : X) → R y y
      self y = elim (total y y) [ inl r ↦ r | inr r ↦ r ]
  greatest x (y ∷ ys) =
      let rest = greatest y ys in
      elim (total x rest.0) [
        | inl below ↦ (
          rest.0,
          contains_more x (y ∷ ys) rest.0 rest.1,
          λ u c. elim (cons_cases x (y ∷ ys) u c)
              [ inl is ↦ subst (λ (z : X). R z rest.0) is below | inr later ↦ rest.2 u later ],
        )
        | inr above ↦ (
          x,
          (0, omega arith, refl),
          λ u c. elim (cons_cases x (y ∷ ys) u c) [
            | inl is ↦ subst (λ (z : X). R z x) is (elim (total x x) [ inl r ↦ r | inr r ↦ r ])
            | inr later ↦ trans u rest.0 x (rest.2 u later) above
          ],
        )
      ]

  some_greatest : (xs : List X) → (xs ≡ [] → ⊥) → (h : X) × Contains xs h × ((u : X) → Contains xs u → R u h)
  some_greatest [] some = absurd (some refl)
  some_greatest (x ∷ xs) some = greatest x xs

-- votes of promises: by their ballots, and of one ballot by the nodes that report them
total_votes : (b c : BallotValue) (n k : ℕ) → (IsBelow b c ⊎ ((b ≡ c) × (k ≤ n))) ⊎ (IsBelow c b ⊎ ((c ≡ b) × (n ≤ k)))
total_votes b c n k =
    elim (above_or_not b c) [
      | inl above ↦ inr (inl above)
      | inr (inl below) ↦ inl (inl below)
      | inr (inr same) ↦ elim (reaches_or_not k n)
          [ inl le ↦ inl (inr (same, le)) | inr less ↦ inr (inr (sym same, omega (arith, less))) ]
    ]

trans_votes : (b c d : BallotValue) (n k l : ℕ) → IsBelow b c ⊎ ((b ≡ c) × (k ≤ n)) → IsBelow c d ⊎ ((c ≡ d) × (l ≤ k))
    → IsBelow b d ⊎ ((b ≡ d) × (l ≤ n))
trans_votes b c d n k l (inl h) (inl j) = inl (below_at_most b c d h (inl j))
trans_votes b c d n k l (inl h) (inr j) = inl (below_at_most b c d h (inr j.0))
trans_votes b c d n k l (inr h) (inl j) = inl (at_most_below b c d (inr h.0) j)
trans_votes b c d n k l (inr h) (inr j) = inr (h.0 ∙ j.0, omega (arith, h.1, j.1))

-- ---- a first new request

-- not all that wait are under way, or else one of them is the first that is not
new_or_none : (e : ℕ) (ps : List ProposalValue) (waiting before behind : List RequestValue)
    → waiting ≡ before ++ behind → ((r : RequestValue) → Contains before r → IsUnderWay e ps (Request r))
    → ((q : RequestValue) → IsFirstNew e ps waiting q → ⊥) → (NoneIsNew e ps waiting → ⊥) → ⊥
new_or_none e ps waiting before [] parts under first none =
    none (λ r c. under r
    (subst (λ (rs : List RequestValue). Contains rs r) (parts ∙ append-nil before) c))
new_or_none e ps waiting before (q ∷ behind) parts under first none = first q (record {
  before = before;
  behind = behind;
  parts = parts;
  under_way = under;
  new = λ here. new_or_none e ps waiting (before ++ q ∷ []) behind (rw append_assoc parts)
      (λ r c. elim (Contains-append_cases before (q ∷ []) r c)
      [ inl old ↦ under r old | inr is ↦ subst (λ (x : RequestValue). IsUnderWay e ps (Request x)) (only q r is) here ])
      first none;
})

-- ---- the next position

module _ (node : NodeValue) (t : TermValue) (set : List Member) (k : IsLeading node t set)
    (nothing : NothingToPropose node) (none : proposal_at (executed node.learner + 1) t.proposals ≡ None) where
  propose : (v : Command)
      → IsLeadersValue t node.leader.waiting node.learner.whole.roster set (executed node.learner + 1) v → ⊥
  propose v value = nothing (executed node.learner + 1) v (
    t,
    k.current,
    record {
      next = record {
        above = omega arith;
        reaches = omega (arith, some_set node.learner.whole.roster set k.members);
        in_range = omega (arith, k.room);
        new = none;
        least = λ j above below. absurd (omega (arith, above, below));
      };
      set = set;
      members = k.members;
      promised = k.promised;
      value = value;
    },
  )

  unreported : promised_at (executed node.learner + 1) (received_at set (executed node.learner + 1) t.received) ≡ []
      → HasWork node t set → ⊥
  unreported no_vote work = by_work work
    where
      open_requests : (NoneIsNew (executed node.learner) t.proposals node.leader.waiting → ⊥) → ⊥
      open_requests all = new_or_none (executed node.learner) t.proposals node.leader.waiting [] node.leader.waiting
          refl
          (λ r c. absurd (omega (arith, c.1))) (λ q first. propose (Request q) (first_new q no_vote first)) all

      by_work : HasWork node t set → ⊥
      by_work (inl reported) = reported no_vote
      by_work (inr (inl new)) = open_requests (λ all. new.2 (all new.0 new.1))
      by_work (inr (inr why)) = open_requests (λ all. propose Noop (fills no_vote all why))

  cannot_wait : HasWork node t set → ⊥
  cannot_wait work =
      let i : ℕ = executed node.learner + 1 in
      elim (empty_or (promised_at i (received_at set i t.received))) [
        | inl no_vote ↦ unreported no_vote work
        | inr some ↦
            let h = some_greatest IsNotAbove (λ u x. total_votes u.vote.ballot x.vote.ballot u.node x.node)
            (λ u x y. trans_votes u.vote.ballot x.vote.ballot y.vote.ballot u.node x.node y.node)
            (promised_at i (received_at set i t.received)) some in
            propose h.0.vote.command (highest h.0 (record { among = h.1; above = h.2 }))
      ]

pub leader_has_proposed : LeaderHasProposed
leader_has_proposed node t set k work nothing = by_found (proposal_at (executed node.learner + 1) t.proposals) refl
  where
    by_found : (o : Option ProposalValue) → proposal_at (executed node.learner + 1) t.proposals ≡ o
        → (p : ProposalValue) × (proposal_at (executed node.learner + 1) t.proposals ≡ Some p)
    by_found (Some p) is = (p, is)
    by_found None is = absurd (cannot_wait node t set k nothing is work)
