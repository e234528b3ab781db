-- Whether a vote is for what a leader's term has proposed.
use Rattle.std.proofs.Common.{◌≡◌, ℕ, ◌⊎◌, inl, inr, List, [], ◌∷◌, Option, Some, None, refl, sym, ◌∙◌, ap, eqb}
use Rattle.std.proofs.Common.{eqb-true}
use Rattle.std.proofs.lemmas.Bool.{cases_Bool, eqb-false}
use Rattle.lk_types.specs.BallotValue.{BallotValue}
use Rattle.lk_types.specs.declared.member.Member.{Member}
use Rattle.lk_types.specs.declared.vote.Vote.{Vote}
use Rattle.lk_members.specs.Effects.{Command, RequestValue, Noop, Request}
use Rattle.lk_members.specs.Rosters.{Op, Table, Join, Leave, Raise}
use Rattle.lk_leader.specs.Proposing.{AreMembersAt}
use Rattle.lk_leader.specs.Terms.{TermValue, ProposalValue, proposal_at}
use Rattle.lk_node.specs.Deciding.{IsForProposal}
use Rattle.lk_node.specs.NodeValue.{NodeValue}

same_number : (i j : ℕ) → (i ≡ j) ⊎ (i ≡ j → ⊥)
same_number i j =
    elim (cases_Bool (eqb i j)) [ inl same ↦ inl (eqb-true i j same) | inr other ↦ inr (eqb-false i j other) ]

same_list : (xs ys : List ℕ) → (xs ≡ ys) ⊎ (xs ≡ ys → ⊥)
same_list [] [] = inl refl
same_list [] (y ∷ ys) = inr (λ e. cc e)
same_list (x ∷ xs) [] = inr (λ e. cc e)
same_list (x ∷ xs) (y ∷ ys) =
    elim (same_number x y) [
      | inl first ↦ elim (same_list xs ys) [
        | inl rest ↦ inl (λ k. first k ∷ rest k)
        | inr differ ↦ inr (λ e. differ (cc e))
      ]
      | inr differ ↦ inr (λ e. differ (cc e))
    ]

same_op : (a b : Op) → (a ≡ b) ⊎ (a ≡ b → ⊥)
same_op (Table x) (Table y) =
    elim (same_list x y) [ inl same ↦ inl (ap Table same) | inr differ ↦ inr (λ e. differ (cc e)) ]
same_op (Table x) (Join n p) = inr (λ e. cc e)
same_op (Table x) (Leave n) = inr (λ e. cc e)
same_op (Table x) Raise = inr (λ e. cc e)
same_op (Join n p) (Table y) = inr (λ e. cc e)
same_op (Join n p) (Join k q) =
    elim (same_number n k) [
      | inl node ↦ elim (same_number p q) [
        | inl port ↦ inl (λ i. Join (node i) (port i))
        | inr differ ↦ inr (λ e. differ (cc e))
      ]
      | inr differ ↦ inr (λ e. differ (cc e))
    ]
same_op (Join n p) (Leave k) = inr (λ e. cc e)
same_op (Join n p) Raise = inr (λ e. cc e)
same_op (Leave n) (Table y) = inr (λ e. cc e)
same_op (Leave n) (Join k q) = inr (λ e. cc e)
same_op (Leave n) (Leave k) =
    elim (same_number n k) [ inl same ↦ inl (ap Leave same) | inr differ ↦ inr (λ e. differ (cc e)) ]
same_op (Leave n) Raise = inr (λ e. cc e)
same_op Raise (Table y) = inr (λ e. cc e)
same_op Raise (Join k q) = inr (λ e. cc e)
same_op Raise (Leave k) = inr (λ e. cc e)
same_op Raise Raise = inl refl

same_request : (r q : RequestValue) → (r ≡ q) ⊎ (r ≡ q → ⊥)
same_request r q =
    elim (same_number r.client q.client) [
      | inl client ↦ elim (same_number r.number q.number) [
        | inl number ↦ elim (same_op r.op q.op) [
          | inl op ↦ inl (λ k. record { client = client k; number = number k; op = op k })
          | inr differ ↦ inr (λ e. differ (ap (λ (x : RequestValue). x.op) e))
        ]
        | inr differ ↦ inr (λ e. differ (ap (λ (x : RequestValue). x.number) e))
      ]
      | inr differ ↦ inr (λ e. differ (ap (λ (x : RequestValue). x.client) e))
    ]

same_command : (v w : Command) → (v ≡ w) ⊎ (v ≡ w → ⊥)
same_command Noop Noop = inl refl
same_command Noop (Request q) = inr (λ e. cc e)
same_command (Request r) Noop = inr (λ e. cc e)
same_command (Request r) (Request q) =
    elim (same_request r q) [ inl same ↦ inl (ap Request same) | inr differ ↦ inr (λ e. differ (cc e)) ]

same_ballot : (b c : BallotValue) → (b ≡ c) ⊎ (b ≡ c → ⊥)
same_ballot b c =
    elim (same_number b.round c.round) [
      | inl round ↦ elim (same_number b.node c.node) [
        | inl node ↦ inl (λ k. record { round = round k; node = node k })
        | inr differ ↦ inr (λ e. differ (ap (λ (x : BallotValue). x.node) e))
      ]
      | inr differ ↦ inr (λ e. differ (ap (λ (x : BallotValue). x.round) e))
    ]

some_term : (a b : TermValue) → Some a ≡ Some b → a ≡ b
some_term a b e = cc e

-- it is, or it is not
pub for_proposal_or_not : (node : NodeValue) (x : Vote) (set : List Member)
    → AreMembersAt node.learner.whole.roster x.position set → IsForProposal node x ⊎ (IsForProposal node x → ⊥)
for_proposal_or_not node x set at = by_term node.leader.term refl
  where
    by_proposal : (t : TermValue) → node.leader.term ≡ Some t → t.ballot ≡ x.ballot → (o : Option ProposalValue)
        → proposal_at x.position t.proposals ≡ o → IsForProposal node x ⊎ (IsForProposal node x → ⊥)
    by_proposal t current ballot None found =
        inr (λ k.
        let same : t ≡ k.term = some_term t k.term (sym current ∙ k.current) in
        let there : None ≡ Some k.proposal = sym found
        ∙ ap (λ (u : TermValue). proposal_at x.position u.proposals) same ∙ k.vote.proposal in
        cc there)
    by_proposal t current ballot (Some p) found =
        elim (same_command p.command x.command) [
          | inl command ↦ inl (record {
            term = t;
            current = current;
            set = set;
            proposal = p;
            vote = record { ballot = ballot; members = at; proposal = found; command = command };
          })
          | inr differ ↦ inr (λ k.
              let same : t ≡ k.term = some_term t k.term (sym current ∙ k.current) in
              let there : Some p ≡ Some k.proposal = sym found
              ∙ ap (λ (u : TermValue). proposal_at x.position u.proposals) same ∙ k.vote.proposal in
              let is : p ≡ k.proposal = cc there in
              differ (ap (λ (q : ProposalValue). q.command) is ∙ k.vote.command))
        ]

    by_term : (o : Option TermValue) → node.leader.term ≡ o → IsForProposal node x ⊎ (IsForProposal node x → ⊥)
    by_term None current = inr (λ k. let none : None ≡ Some k.term = sym current ∙ k.current in cc none)
    by_term (Some t) current =
        elim (same_ballot t.ballot x.ballot) [
          | inl ballot ↦ by_proposal t current ballot (proposal_at x.position t.proposals) refl
          | inr differ ↦ inr (λ k.
              let same : t ≡ k.term = some_term t k.term (sym current ∙ k.current) in
              differ (ap (λ (u : TermValue). u.ballot) same ∙ k.vote.ballot))
        ]
