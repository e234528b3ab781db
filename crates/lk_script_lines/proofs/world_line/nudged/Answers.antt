use Rattle.std.proofs.Common.{List, ℕ, inl, inr, refl, sym, subst, arith}
use Rattle.lk_types.specs.Limits.{max_node}
use Rattle.lk_script_lines.specs.WorldLines.{SaysReason}
use Rattle.lk_script_lines.proofs.WordLaws.{leads_once, not_both}
use Rattle.lk_script_lines.proofs.world_line.nudged.Goals as goal

pub returns-in_err-reason-clause-none : goal.returns-in_err-reason-clause-none
returns-in_err-reason-clause-none c = λ _ o is. elim is [
  | inl once ↦ not_both 1 max_node 1 max_node once.0 c.in-Some.number c.in-Some.word.now c.args.words.now
      (omega arith) once.1 c.in-Some.ensures.some
  | inr more ↦
      let behind = leads_once 1 max_node c.in-Some.number more.0 c.in-Some.word.now more.2 c.args.words.now
      (omega arith) c.in-Some.ensures.some more.3 in
      c.in_err-reason.ensures.none refl more.1 (subst (λ (t : List ℕ). SaysReason more.1 t) (sym behind.1) more.4)
]
