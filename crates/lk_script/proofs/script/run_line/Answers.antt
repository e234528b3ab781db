use Rattle.std.proofs.Common.{rules, subst}
use Rattle.lk_script.specs.TableRuns.{Fits}
use Rattle.lk_script.proofs.ScriptLaws.{some_line, none_line, world_line, world_refusal, no_begin, no_bytes}
use Rattle.lk_script.proofs.ScriptLaws.{no_instruction}
use Rattle.lk_script.proofs.PrintLaws.{done_is}
use Rattle.lk_script.proofs.script.run_line.Goals as goal

pub returns-in_ok-mode-in-Unset-clause-ok : goal.returns-in_ok-mode-in-Unset-clause-ok
returns-in_ok-mode-in-Unset-clause-ok g c = λ _ s fits.
    none_line g.M.MemoryReplica.behaves s _ c.args.line.now _ (subst (Fits s) c.in-Unset.is fits)
    c.in_ok-mode-in-Unset.ensures.ok c.clear.ensures.items

pub returns-in_err-mode-in-Unset-clause-not_understood : goal.returns-in_err-mode-in-Unset-clause-not_understood
returns-in_err-mode-in-Unset-clause-not_understood g c = λ bad s fits.
    no_begin s c.args.line.now (subst (Fits s) c.in-Unset.is fits)
    (c.in_err-mode-in-Unset.ensures.not_understood (search rules))

pub returns-in_ok-print_line-in-Table-clause-ok : goal.returns-in_ok-print_line-in-Table-clause-ok
returns-in_ok-print_line-in-Table-clause-ok g c = λ _ s fits.
    some_line g.M.MemoryReplica.behaves s c.in-Table.server c.print_line.new.self c.args.line.now
    _ (subst (Fits s) c.in-Table.is fits) c.print_line.ensures.cluster c.in_ok-print_line-in-Table.ensures.ok

pub returns-in_err-print_line-in-Table-clause-not_understood :
    goal.returns-in_err-print_line-in-Table-clause-not_understood
returns-in_err-print_line-in-Table-clause-not_understood g c = λ bad s fits.
    no_bytes s c.in-Table.server c.args.line.now (subst (Fits s) c.in-Table.is fits)
    (c.in_err-print_line-in-Table.ensures.not_understood (search rules))

pub returns-in-World-clause-ok : goal.returns-in-World-clause-ok
returns-in-World-clause-ok g c = λ done s fits.
    world_line g.M.MemoryReplica.behaves s _ c.print_line-in-World.new.self c.args.line.now
    _ (subst (Fits s) c.in-World.is fits)
    (done_is c.print_line-in-World.result _ _ c.print_line-in-World.ensures.follows done)

pub returns-in-World-clause-refused : goal.returns-in-World-clause-refused
returns-in-World-clause-refused g c = λ r refused s fits.
    world_refusal g.M.MemoryReplica.behaves s _ c.print_line-in-World.new.self c.args.line.now _ r
    (subst (Fits s) c.in-World.is fits)
    (done_is c.print_line-in-World.result _ _ c.print_line-in-World.ensures.follows refused)
    (c.print_line-in-World.ensures.refused r refused)

pub returns-in-World-clause-not_understood : goal.returns-in-World-clause-not_understood
returns-in-World-clause-not_understood g c = λ bad s fits.
    no_instruction s _ c.args.line.now (subst (Fits s) c.in-World.is fits)
    (c.print_line-in-World.ensures.not_understood bad)
