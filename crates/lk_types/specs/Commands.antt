-- The ranges of a command's parts.
use Rattle.lk_types.specs.Ranges.{IsNode, IsPort, IsCount, IsClient}
use Rattle.lk_types.specs.Payloads.{IsPayload}
use Rattle.lk_types.specs.declared.command.Op.{Op}
use Rattle.lk_types.specs.declared.command.Op.TheVariants.{Table, Join, Leave, Raise}
use Rattle.lk_types.specs.declared.command.Request.{Request as RequestValue}
use Rattle.lk_types.specs.declared.command.Command.{Command}
use Rattle.lk_types.specs.declared.command.Command.TheVariants.{Noop, Request}

abbrev pub IsOp : Op → Type 0
IsOp (Table payload) = IsPayload payload
IsOp (Join node port) = IsNode node × IsPort port
IsOp (Leave node) = IsNode node
IsOp Raise = Unit {0}

abbrev pub IsRequest : RequestValue → Type 0
IsRequest r = IsClient r.client × IsCount r.number × IsOp r.op

abbrev pub IsCommand : Command → Type 0
IsCommand Noop = Unit {0}
IsCommand (Request r) = IsRequest r
