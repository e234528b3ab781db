-- One more position, or none.
use Rattle.std.proofs.Common.{◌≡◌, ◌∙◌, ℕ, ◌+◌, ◌<◌, eqb, List, [], ◌∷◌, length, Contains, IsSome, ap, sym, refl}
use Rattle.std.proofs.Common.{inl, inr, arith, eq-eqb, true≢false}
use Rattle.std.proofs.lemmas.Bool.{cases_Bool, cases_lt}
use Rattle.lk_leader.specs.Terms.{ProposalValue, proposal_at}
use Rattle.lk_leader.proofs.Elements.{cons_cases}
use Rattle.lk_leader.proofs.term.taken_behind.Goals as goal
use Rattle.lk_leader.proofs.term.taken_behind.Goals.{then-get-taken, else-get-taken}

some-at : (i : ℕ) (ps : List ProposalValue) (p : ProposalValue) → Contains ps p → p.position ≡ i
    → IsSome (proposal_at i ps)
some-at i [] p h same = absurd (omega (arith, h.1))
some-at i (q ∷ qs) p h same =
    elim (cases_Bool (eqb q.position i)) [
      | inl t ↦ rw t refl
      | inr f ↦ elim (cons_cases q qs p h) [
        | inl is ↦
            absurd (true≢false (sym (eq-eqb q.position i (ap (λ (x : ProposalValue). x.position) is ∙ same)) ∙ f))
        | inr in' ↦ rw f (some-at i qs p in' same)
      ]
    ]

pub loop-proposal-preserved : goal.loop-proposal-preserved
loop-proposal-preserved c =
    let ps : List ProposalValue = c.args.proposals.now in
    let p : ProposalValue = c.proposal-item.result in
    let lt : c.loop-proposal.proposal-index < length ps = omega arith in
    let at : p.position ≡ c.proposal.inside.position =
    ap (λ (x : ProposalValue). x.position) (sym c.proposal.view_is) in
    elim c.if-get-taken.branch [
      | then-get-taken w ↦ record {
        few = omega (arith, w.taken-is);
        all = λ j above le. elim (cases_lt j (c.args.executed + c.loop-proposal.taken + 1)) [
          | inl less ↦ c.loop-proposal.invariant.all j above (omega (arith, less))
          | inr more ↦ some-at j ps p (c.loop-proposal.proposal-index, lt, sym c.proposal-item.is)
              (omega (
                arith,
                at,
                w.taken-is,
                w.if-get-taken.true,
                more,
                le,
                c.get.ensures.value,
                c.get-in-loop-proposal.ensures.value,
              ))
        ];
      }
      | else-get-taken w ↦ record {
        few = omega (arith, w.taken-is);
        all = λ j above le. c.loop-proposal.invariant.all j above (omega (arith, w.taken-is, le));
      }
    ]
