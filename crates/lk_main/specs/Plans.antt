-- What the subcommands are to do, by the words of their arguments.
use Rattle.std.specs.Prelude.{◌≡◌, ◌≤◌, ℕ, true, false, List, Option, None, Some, IfSome, IsSomeAnd, is_some}
use Rattle.std.specs.Prelude.{option_map, codes, slice_get}
use Rattle.std.specs.Net.Grammar.{IsIpText}
use Rattle.clap.specs.Matches.{found_of, first_value}
use Rattle.clap.specs.declared.parser.matches.ArgMatches.{ArgMatches}
use Rattle.log.specs.declared.level.Level.{Level}
use Rattle.log.specs.declared.level.Level.TheVariants.{Info, Debug}
use Rattle.lk_types.specs.Ranges.{IsClient, IsNode, IsPort}
use Rattle.lk_word_parsers.specs.Geneses.{SpellsGenesis}
use Rattle.lk_pacing.specs.declared.pace.Pace.{Pace}
use Rattle.lk_pacing.specs.declared.pace.Pace.TheVariants.{Clock, Datagrams}
use Rattle.lk_command_line.specs.Admins.{AreAdmins}
use Rattle.lk_command_line.specs.Arguments.{is_given, word_of, words_of, IsSet, IsUnset}
use Rattle.lk_command_line.specs.Questions.{AsksAs, IsWaitOf, SealsBy, WaitsFor}
use Rattle.lk_command_line.specs.Spellings.{IsNumber, Spells}
use Rattle.lk_command_line.specs.Targets.{AreTargetsOf}
use Rattle.lk_random_schedules.specs.declared.plan.Plan.{Plan}
use Rattle.lk_node_setup.specs.ClientKeys.{PrintsOf}
use Rattle.lk_node_setup.specs.declared.network.NetworkOptions.{NetworkOptions}
use Rattle.lk_node_setup.specs.declared.resources.NodePlan.{NodePlan}
use Rattle.lk_node_process.specs.declared.first_store.InitPlan.{InitPlan}
use Rattle.lk_main.specs.declared.plans.AskPlan.{AskPlan}

-- the files are those that the arguments name, and the address is the one that this argument spells
pub record OptionsAre (m : ArgMatches) (address : List ℕ) (o : NetworkOptions) : Type 0 where
  pub hosts : option_map (λ s. s.now) o.hosts ≡ first_value (found_of m) (codes "hosts")
  pub client_key : option_map (λ s. s.now) o.client_key ≡ first_value (found_of m) (codes "client-key")
  pub given : is_some o.bind ≡ is_given m address
  pub bind : IfSome o.bind (IsIpText (word_of m address))

-- ticks go by the clock if that is asked for or a key is given, and otherwise by datagrams
pub record PacesAs (m : ArgMatches) (p : Pace) : Type 0 where
  pub keyed : is_given m (codes "key") ≡ true → p ≡ Clock
  pub clock : first_value (found_of m) (codes "ticks") ≡ Some (codes "clock") → p ≡ Clock
  pub datagrams : is_given m (codes "key") ≡ false → first_value (found_of m) (codes "ticks") ≡ Some (codes "datagrams")
      → p ≡ Datagrams
  pub neither : is_given m (codes "key") ≡ false → first_value (found_of m) (codes "ticks") ≡ None → p ≡ Datagrams

-- each part of the plan is what the word of its argument spells, and the folder is that word itself
pub record PlansNode (m : ArgMatches) (p : NodePlan) : Type 0 where
  pub genesis : SpellsGenesis (word_of m (codes "genesis")) p.header.cluster p.header.alpha p.header.members
  pub node : Spells IsNode (word_of m (codes "number")) p.header.node
  pub port : Spells IsPort (word_of m (codes "port")) p.port
  pub pace : PacesAs m p.pace
  pub folder : p.folder.now ≡ word_of m (codes "dir")
  pub options : OptionsAre m (codes "bind") p.options
  pub key : option_map (λ s. s.now) p.options.key ≡ first_value (found_of m) (codes "key")
  pub admins : AreAdmins (first_value (found_of m) (codes "admin")) p.options.admins
  pub set : IsSet m (codes "existing") → p.existing ≡ true
  pub unset : IsUnset m (codes "existing") → p.existing ≡ false
  pub summing : IsSet m (codes "sums") → p.sums ≡ true
  pub without : IsUnset m (codes "sums") → p.sums ≡ false
  pub bundling : IsSet m (codes "bundle") → p.bundles ≡ true
  pub bare : IsUnset m (codes "bundle") → p.bundles ≡ false

-- a node logs at level debug if `--verbose` is given, at level info if `--log` alone is, and else at none
pub record LogsAt (m : ArgMatches) (level : Option Level) : Type 0 where
  pub verbose : IsSet m (codes "verbose") → level ≡ Some Debug
  pub logging : IsUnset m (codes "verbose") → IsSet m (codes "log") → level ≡ Some Info
  pub silent : IsUnset m (codes "verbose") → IsUnset m (codes "log") → level ≡ None

-- the store to begin is that of the node and the genesis that the words spell, the folder is its word, and the store
-- has sums if that is asked for
pub record PlansInit (m : ArgMatches) (p : InitPlan) : Type 0 where
  pub genesis : SpellsGenesis (word_of m (codes "genesis")) p.header.cluster p.header.alpha p.header.members
  pub node : Spells IsNode (word_of m (codes "number")) p.header.node
  pub folder : p.folder.now ≡ word_of m (codes "dir")
  pub summing : IsSet m (codes "sums") → p.sums ≡ true
  pub without : IsUnset m (codes "sums") → p.sums ≡ false

-- each part of the schedule is what its argument says
pub record PlansSchedule (m : ArgMatches) (p : Plan) : Type 0 where
  pub start : Spells IsNumber (word_of m (codes "start")) p.start
  pub count : Spells (λ n. n ≤ 20000) (word_of m (codes "events")) p.count
  pub grouping : IsSet m (codes "groups") → p.groups ≡ true
  pub alone : IsUnset m (codes "groups") → p.groups ≡ false
  pub nudging : IsSet m (codes "nudges") → p.nudges ≡ true
  pub waiting : IsUnset m (codes "nudges") → p.nudges ≡ false

-- the numbers of the question, the targets and the options are those of the arguments. The first target is asked first,
-- and all belong to the same cluster; probes name the client if its key is given. It waits so many seconds as the word
-- spells for the lock that the request asks for
pub record PlansAsk (m : ArgMatches) (p : AskPlan) : Type 0 where
  pub asks : AsksAs m p.question.request.op p.question.port p.question
  pub targets : AreTargetsOf (words_of m (codes "port")) p.inquiry.targets.items
  pub first : IsSomeAnd (slice_get p.inquiry.targets.items 0) (λ t. t.port ≡ p.question.port)
  pub cluster : p.inquiry.cluster ≡ p.question.cluster
  pub client : SealsBy m p.question.request.client p.inquiry.client
  pub forced : IsSet m (codes "force") → p.is_forced ≡ true
  pub looking : IsUnset m (codes "force") → p.is_forced ≡ false
  pub seconds : IsWaitOf (first_value (found_of m) (codes "wait")) (option_map (λ w. w.seconds) p.wait)
  pub lock : WaitsFor p.question.request.op p.wait
  pub options : OptionsAre m (codes "address") p.options

-- the file of masters is the one that is named, and the client is the one that the word spells
pub record PlansClientKey (m : ArgMatches) (master : List ℕ) (client : ℕ) : Type 0 where
  pub named : master ≡ word_of m (codes "master")
  pub spelled : Spells IsClient (word_of m (codes "client")) client

-- the keys of the client that these arguments name are printed, as the named file of masters gives them. `is_text` says
-- which bytes a file had
pub record PrintsClientKey (is_text : List ℕ → List ℕ → Type 0) (m : ArgMatches)
    (old new : Option (List ℕ)) : Type 0 where
  pub client : ℕ
  pub spelled : Spells IsClient (word_of m (codes "client")) client
  pub printed : PrintsOf is_text (word_of m (codes "master")) client old new
