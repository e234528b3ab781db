-- What a contract sees of requests and commands that are read in place.
use Rattle.std.specs.Prelude.{ℕ, List, []}
use Rattle.lk_types.specs.declared.command.Op.TheVariants.{Raise}
use Rattle.lk_types.specs.declared.command.Request.{Request}
use Rattle.lk_types.specs.declared.command.Command.{Command}
use Rattle.lk_types.specs.declared.command.Command.TheVariants.{Noop}
use Rattle.lk_codec.specs.Parser.{many}
use Rattle.lk_codec.specs.FieldReading.{read_request, read_command}
use Rattle.lk_messages.specs.Views.{IsAll, value_or}

-- the commands that the bytes spell, this many
abbrev pub commands_in : ℕ → List ℕ → List Command
commands_in count bytes = value_or [] (many read_command count bytes)

abbrev pub AreCommands : ℕ → List ℕ → Type 0
AreCommands count bytes = IsAll (many read_command count) (commands_in count bytes) bytes

-- the command that the bytes spell
abbrev pub command_in : List ℕ → Command
command_in bytes = value_or Noop (read_command bytes)

abbrev pub IsOneCommand : List ℕ → Type 0
IsOneCommand bytes = IsAll read_command (command_in bytes) bytes

-- the request that the bytes spell; if they spell none, it is any
abbrev pub request_in : List ℕ → Request
request_in bytes = value_or (record { client = 1; number = 1; op = Raise }) (read_request bytes)

abbrev pub IsOneRequest : List ℕ → Type 0
IsOneRequest bytes = IsAll read_request (request_in bytes) bytes
