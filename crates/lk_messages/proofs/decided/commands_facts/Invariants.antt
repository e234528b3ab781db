use Rattle.std.proofs.Common.{drop}
use Rattle.std.specs.List.{AllByRecursion}
use Rattle.lk_types.specs.Commands.{IsCommand}
use Rattle.lk_messages.proofs.decided.commands_facts.Given as goal

-- all are in range once those that are left are
abbrev pub invariant-loop-command : goal.invariant-loop-command
invariant-loop-command l =
    AllByRecursion IsCommand (drop l.command-index l.commands) → AllByRecursion IsCommand l.commands
