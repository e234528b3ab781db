-- The names of the subcommands, and what follows them.
use Rattle.std.specs.Prelude.{◌≡◌, ℕ, List, Some, option_map, codes}
use Rattle.clap.specs.Words.{found_of, rows_of, subcommand_rows_of}
use Rattle.clap.specs.declared.parser.matches.ArgMatches.{ArgMatches}
use Rattle.lk_main.specs.declared.subcommand.Subcommand.{Subcommand}
use Rattle.lk_main.specs.declared.subcommand.Subcommand.TheVariants.{Sim, Fuzz, Node, Init, Ask, Demo, Dump, Inspect}
use Rattle.lk_main.specs.declared.subcommand.Subcommand.TheVariants.{ClientKey, Status, Seed, Scrub}

-- the word that names a subcommand
abbrev pub name_of : Subcommand → List ℕ
name_of Sim = codes "sim"
name_of Fuzz = codes "fuzz"
name_of Node = codes "node"
name_of Init = codes "init"
name_of Ask = codes "ask"
name_of Demo = codes "demo"
name_of Dump = codes "dump"
name_of Inspect = codes "inspect"
name_of Seed = codes "seed"
name_of Scrub = codes "scrub"
name_of ClientKey = codes "client-key"
name_of Status = codes "status"

-- these arguments are what was found in the words after the name of the subcommand
abbrev pub AreOfSubcommand : ArgMatches → ArgMatches → Type 0
AreOfSubcommand whole arguments = option_map (λ s. s.1) (subcommand_rows_of whole) ≡ Some (rows_of (found_of arguments))
