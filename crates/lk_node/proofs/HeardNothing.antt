-- An acceptance that is heard brings nothing to propose.
use Rattle.std.proofs.Common.{◌≡◌, ◌∙◌, ℕ, ◌<◌, inl, inr, Bool, true, false, eqb, List, [], ◌∷◌, Option, Some, None}
use Rattle.std.proofs.Common.{refl, ap, sym, subst, arith}
use Rattle.std.specs.Prelude.{is_some}
use Rattle.std.proofs.lemmas.Bool.{cases_Bool}
use Rattle.lk_types.specs.declared.member.Member.{Member}
use Rattle.lk_members.specs.Effects.{Request}
use Rattle.lk_members.specs.Windows.{RosterValue}
use Rattle.lk_leader.specs.Acceptances.{heard, heard_at}
use Rattle.lk_leader.specs.Proposing.{IsNext, Proposes}
use Rattle.lk_leader.specs.Terms.{Command, ProposalValue, RequestValue, TermValue, LeaderValue, proposal_at}
use Rattle.lk_leader.specs.Terms.{with_proposals, with_term}
use Rattle.lk_leader.specs.Values.{IsUnderWay, IsLeadersValue, highest, first_new, fills}
use Rattle.lk_node.specs.Proposed.{ProposesNothing, ProposesNothingIf}
use Rattle.lk_node.proofs.Lists.{cons_cases, contains_more}

-- what the node remembers is so
pub is_known : (b : Bool) (l : LeaderValue) (r : RosterValue) → b ≡ true → ProposesNothingIf b l r
    → ProposesNothing l r
is_known true l r is none = none
is_known false l r is none = absurd (cc is)

free : (o : Option ProposalValue) → is_some o ≡ false → o ≡ None
free None e = refl
free (Some p) e = absurd (cc e)

module _ (set : List Member) (node i : ℕ) where
  -- the same positions are taken
  taken : (k : ℕ) (ps : List ProposalValue)
      → is_some (proposal_at k (heard_at set node i ps)) ≡ is_some (proposal_at k ps)
  taken k [] = refl
  taken k (p ∷ ps) =
      elim (cases_Bool (eqb p.position i)) [
        | inl t ↦ rw t (elim (cases_Bool (eqb p.position k)) [ inl u ↦ rw u refl | inr u ↦ rw u refl ])
        | inr f ↦ rw f (elim (cases_Bool (eqb p.position k)) [ inl u ↦ rw u refl | inr u ↦ rw u (taken k ps) ])
      ]

  -- and the same commands are under way
  goes_still : (e : ℕ) (v : Command) (ps : List ProposalValue) → IsUnderWay e ps v
      → IsUnderWay e (heard_at set node i ps) v
  goes_still e v [] u = u
  goes_still e v (p ∷ ps) (q, c, above, same) =
      elim (cases_Bool (eqb p.position i)) [
        | inl t ↦ rw t (elim (cons_cases p ps q c) [
          | inl is ↦ (
            heard set node p,
            (0, omega arith, refl),
            subst (λ (x : ProposalValue). e < x.position) (sym is) above,
            ap (λ (x : ProposalValue). x.command) is ∙ same,
          )
          | inr rest ↦ (q, contains_more (heard set node p) ps q rest, above, same)
        ])
        | inr f ↦ rw f (elim (cons_cases p ps q c) [
          | inl is ↦ (q, (0, omega arith, is), above, same)
          | inr rest ↦ (let u = goes_still e v ps (q, rest, above, same) in
              (u.0, contains_more p (heard_at set node i ps) u.0 u.1, u.2, u.3))
        ])
      ]

  went_before : (e : ℕ) (v : Command) (ps : List ProposalValue) → IsUnderWay e (heard_at set node i ps) v
      → IsUnderWay e ps v
  went_before e v [] u = u
  went_before e v (p ∷ ps) (q, c, above, same) =
      elim (cases_Bool (eqb p.position i)) [
        | inl t ↦ (elim (cons_cases (heard set node p) ps q (rw t at c)) [
          | inl is ↦ (
            p,
            (0, omega arith, refl),
            subst (λ (x : ProposalValue). e < x.position) (sym is) above,
            ap (λ (x : ProposalValue). x.command) is ∙ same,
          )
          | inr rest ↦ (q, contains_more p ps q rest, above, same)
        ])
        | inr f ↦ (elim (cons_cases p (heard_at set node i ps) q (rw f at c)) [
          | inl is ↦ (q, (0, omega arith, is), above, same)
          | inr rest ↦ (let u = went_before e v ps (q, rest, above, same) in
              (u.0, contains_more p ps u.0 u.1, u.2, u.3))
        ])
      ]

  -- so the next position and its command are the same
  next_before : (r : RosterValue) (ps : List ProposalValue) (j : ℕ) → IsNext r (heard_at set node i ps) j
      → IsNext r ps j
  next_before r ps j n = record {
    above = n.above;
    reaches = n.reaches;
    in_range = n.in_range;
    new = free (proposal_at j ps) (sym (taken j ps) ∙ ap is_some n.new);
    least = λ k low high. sym (taken k ps) ∙ n.least k low high;
  }

  value_before : (t : TermValue) (w : List RequestValue) (r : RosterValue) (s : List Member) (j : ℕ) (v : Command)
      → IsLeadersValue (with_proposals (heard_at set node i t.proposals) t) w r s j v → IsLeadersValue t w r s j v
  value_before t w r s j _ (highest h is) = highest h is
  value_before t w r s j _ (first_new q none is) =
      first_new q none (record {
        before = is.before;
        behind = is.behind;
        parts = is.parts;
        under_way = λ x c. went_before r.executed (Request x) t.proposals (is.under_way x c);
        new = λ u. is.new (goes_still r.executed (Request q) t.proposals u);
      })
  value_before t w r s j _ (fills none old gap) =
      fills none (λ x c. went_before r.executed (Request x) t.proposals (old x c)) gap

  pub heard_brings_nothing : (l : LeaderValue) (t : TermValue) (r : RosterValue) → l.term ≡ Some t
      → ProposesNothing l r → ProposesNothing (with_term (with_proposals (heard_at set node i t.proposals) t) l) r
  heard_brings_nothing l t r now none j v p =
      let is : with_proposals (heard_at set node i t.proposals) t ≡ p.0 = cc p.1 in
      let there : Proposes (with_proposals (heard_at set node i t.proposals) t) l.waiting r j v =
      subst (λ (u : TermValue). Proposes u l.waiting r j v) (sym is) p.2 in
      none j v (
        t,
        now,
        record {
          next = next_before r t.proposals j there.next;
          set = there.set;
          members = there.members;
          promised = there.promised;
          value = value_before t l.waiting r there.set j v there.value;
        },
      )
