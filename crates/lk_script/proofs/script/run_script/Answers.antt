use Rattle.std.proofs.Common.{rules, arith, inl, refl, subst, ℕ, List}
use Rattle.std.proofs.lemmas.List.{nil_from_length}
use Rattle.std.proofs.lemmas.Result.{err_from_is_err_and}
use Rattle.lk_script_lines.proofs.LineLaws.{took_nothing}
use Rattle.lk_script.proofs.ScriptLaws.{known_starts, known_ended, known_last, known_line, known_broke, known_failed}
use Rattle.lk_script.proofs.ScriptLaws.{known_skipped, known_taken}
use Rattle.lk_script.specs.Scripts.{Script, RunsLine, Refuses}
use Rattle.lk_script.specs.TableRuns.{Fits}
use Rattle.lk_script.proofs.script.run_script.Goals as goal
use Rattle.lk_script.proofs.script.run_script.Goals.{then-not-is_empty+in-Ok+in_ok-write_line-in-Ok, else-not-is_empty}

pub loop-number-init : goal.loop-number-init
loop-number-init g c = (
  omega arith,
  known_starts g.M.MemoryReplica.behaves (g.R.Read.remaining c.args.reader.now) (g.W.Write.contents c.args.writer.now),
)

pub returns-in_err-next_line-clause-err : goal.returns-in_err-next_line-clause-err
returns-in_err-next_line-clause-err g c =
    let p = err_from_is_err_and c.from_residual.result c.from_residual.ensures.1 in
    rw (p.1, p.2) (λ _. known_broke g.M.MemoryReplica.behaves c.in_err-next_line.field-0.0
    c.in_err-next_line.ensures.err (g.R.Read.remaining c.args.reader.now) (g.W.Write.contents c.args.writer.now)
    (g.W.Write.contents c.loop-number.writer)
    (g.R.Read.remaining c.loop-number.reader)
    (g.R.Read.remaining c.next_line.new.reader) c.loop-number.mode c.loop-number.number c.next_line.ensures.within
    c.loop-number.invariant.1)

pub returns-then-not-branch-clause-ok : goal.returns-then-not-branch-clause-ok
returns-then-not-branch-clause-ok g c =
    known_ended g.M.MemoryReplica.behaves (g.R.Read.remaining c.args.reader.now) (g.W.Write.contents c.args.writer.now)
    (g.W.Write.contents c.loop-number.writer) (g.W.Write.contents c.write_last.new.writer)
    (g.R.Read.remaining c.loop-number.reader) c.loop-number.mode c.loop-number.number c.loop-number.invariant.1
    (c.in_ok-next_line.ensures.end (search rules)) c.in_ok-write_last.ensures.ok

pub returns-in_err-write_last-clause-err : goal.returns-in_err-write_last-clause-err
returns-in_err-write_last-clause-err g c =
    let p = err_from_is_err_and c.from_residual-in_err-write_last.result c.from_residual-in_err-write_last.ensures.1 in
    rw (p.1, p.2) (λ not_write.
    known_last c.in_err-write_last.field-0.0 g.M.MemoryReplica.behaves (g.R.Read.remaining c.args.reader.now)
    (g.W.Write.contents c.args.writer.now) (g.W.Write.contents c.loop-number.writer)
    (g.W.Write.contents c.write_last.new.writer)
    (g.R.Read.remaining c.loop-number.reader)
    (g.R.Read.remaining c.next_line.new.reader) c.loop-number.mode c.loop-number.number c.in_err-write_last.ensures.err
    not_write c.next_line.ensures.within c.loop-number.invariant.1)

pub returns-in_err-write_line-in-Ok-clause-err : goal.returns-in_err-write_line-in-Ok-clause-err
returns-in_err-write_line-in-Ok-clause-err g c =
    let p = err_from_is_err_and c.from_residual-in_err-write_line-in-Ok.result
    c.from_residual-in_err-write_line-in-Ok.ensures.1 in
    rw (p.1, p.2) (λ not_write. known_line c.in_err-write_line-in-Ok.field-0.0 g.M.MemoryReplica.behaves c.in-Ok.ended
    (g.R.Read.remaining c.args.reader.now) (g.W.Write.contents c.args.writer.now)
    (g.W.Write.contents c.loop-number.writer) (g.W.Write.contents c.write_line.new.writer)
    (g.R.Read.remaining c.loop-number.reader)
    (g.R.Read.remaining c.next_line.new.reader) c.loop-number.mode c.loop-number.number c.deref.result.now
    c.next_line.new.line.items c.deref-in-Ok.result.now
    c.in_err-write_line-in-Ok.ensures.err not_write (search rules) (search rules)
    (c.in_ok-next_line.ensures.line (search rules))
    (λ r e. subst (λ (t : List ℕ). (s : Script g.row.M.Denot) → Fits s c.loop-number.mode
    → Refuses g.M.MemoryReplica.behaves s c.deref.result.now t r) (search rules)
    (c.run_line.ensures.refused r (search (rules, e)))) c.loop-number.invariant.1)

pub returns-in-Err-clause-err : goal.returns-in-Err-clause-err
returns-in-Err-clause-err g c =
    λ _. known_failed g.M.MemoryReplica.behaves c.in-Err.fault c.of_line.result c.loop-number.number c.of_line.ensures
    c.deref.result.now c.next_line.new.line.items (search rules) (search rules)
    (g.R.Read.remaining c.args.reader.now) (g.W.Write.contents c.args.writer.now)
    (g.W.Write.contents c.loop-number.writer) (g.R.Read.remaining c.loop-number.reader)
    (g.R.Read.remaining c.next_line.new.reader) c.loop-number.mode
    (c.in_ok-next_line.ensures.line (search rules)) c.next_line.ensures.within
    (λ e. c.in-Err.ensures.not_understood (search rules)) c.loop-number.invariant.1

pub loop-number-preserved : goal.loop-number-preserved
loop-number-preserved g c =
    let read = c.in_ok-next_line.ensures.line (search rules) in
    elim c.if-not-is_empty.branch [
      | then-not-is_empty+in-Ok+in_ok-write_line-in-Ok w ↦ rw (w.writer-is, w.mode-is) (
        omega (arith, w.run_line.ensures.paces, c.loop-number.invariant.0),
        known_taken g.M.MemoryReplica.behaves (g.R.Read.remaining c.args.reader.now)
            (g.W.Write.contents c.args.writer.now) (g.W.Write.contents c.loop-number.writer)
            (g.W.Write.contents w.write_line.new.writer)
            (g.R.Read.remaining c.loop-number.reader)
            (g.R.Read.remaining c.next_line.new.reader) c.loop-number.mode w.run_line.new.mode c.loop-number.number
            w.deref.result.now c.next_line.new.line.items w.deref-in-Ok.result.now
            (search rules) (search rules) read
            (subst (λ (t : List ℕ). (s : Script g.row.M.Denot) → Fits s c.loop-number.mode
            → (after : Script g.row.M.Denot) × RunsLine g.M.MemoryReplica.behaves s w.deref.result.now t after
            × Fits after w.run_line.new.mode) (search rules) (w.run_line.ensures.ok (search rules)))
            w.in_ok-write_line-in-Ok.ensures.ok.1 c.loop-number.invariant.1,
      )
      | else-not-is_empty w ↦ rw (w.writer-is, w.mode-is) (
        omega (arith, c.loop-number.invariant.0),
        known_skipped g.M.MemoryReplica.behaves (g.R.Read.remaining c.args.reader.now)
            (g.W.Write.contents c.args.writer.now) (g.W.Write.contents c.loop-number.writer)
            (g.R.Read.remaining c.loop-number.reader)
            (g.R.Read.remaining c.next_line.new.reader) c.loop-number.mode c.loop-number.number
            c.next_line.new.line.items
            (nil_from_length c.next_line.new.line.items (search rules)) read c.loop-number.invariant.1,
      )
    ]

pub returns-clause-err : goal.returns-clause-err
returns-clause-err g c =
    λ _. known_broke g.M.MemoryReplica.behaves _ (inl refl) (g.R.Read.remaining c.args.reader.now)
    (g.W.Write.contents c.args.writer.now) (g.W.Write.contents c.loop-number.writer)
    (g.R.Read.remaining c.loop-number.reader)
    (g.R.Read.remaining c.loop-number.reader) c.loop-number.mode c.loop-number.number
    (took_nothing (g.R.Read.remaining c.loop-number.reader)) c.loop-number.invariant.1
