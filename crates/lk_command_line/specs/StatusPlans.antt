-- What `locks status` is to do, by the words of its arguments.
use Rattle.std.specs.Prelude.{◌≡◌, ◌≤◌, ◌+◌, ◌/◌, ◌%◌, ◌==◌, min, ℕ, if◌then◌else◌}
use Rattle.std.specs.Prelude.{List, [], ◌∷◌, Option, None, Some, IsSomeAnd, codes}
use Rattle.std.specs.Fmt.{decimal}
use Rattle.lk_types.specs.Ranges.{IsClient}
use Rattle.clap.specs.Matches.{found_of, first_value}
use Rattle.clap.specs.declared.parser.matches.ArgMatches.{ArgMatches}
use Rattle.lk_status.specs.declared.target.Target.{Target}
use Rattle.lk_status_command.specs.declared.status.Plan.{Plan}
use Rattle.lk_command_line.specs.Arguments.{word_of, words_of}
use Rattle.lk_command_line.specs.Spellings.{IsNumber, Spells}
use Rattle.lk_command_line.specs.declared.argument_error.ArgumentError.{ArgumentError}

-- ---- how long silent nodes are waited for

-- at most a minute, in milliseconds
abbrev pub IsWait : ℕ → Type 0
IsWait n = n ≤ 60000

-- how many receives of 100 ms last as long, one at least
abbrev pub receives_of : ℕ → ℕ
receives_of wait = if wait == 0 then 1 else wait / 100 + min 1 (wait % 100)

-- how many receives may bring nothing: as many as last as long as the word spells
abbrev pub IsPatience : List ℕ → ℕ → Type 0
IsPatience word receives = (wait : ℕ) × Spells IsWait word wait × (receives ≡ receives_of wait)

-- the same, or five where no word is given
abbrev pub IsPatienceOf : Option (List ℕ) → ℕ → Type 0
IsPatienceOf None receives = receives ≡ 5
IsPatienceOf (Some word) receives = IsPatience word receives

-- ---- until when nodes have to be ready

-- from one second to a day
abbrev pub IsTime : ℕ → Type 0
IsTime n = (1 ≤ n) × (n ≤ 86400)

-- the words are `ready` and this number of seconds
abbrev pub SpellsReady : List (List ℕ) → ℕ → Type 0
SpellsReady words seconds = IsTime seconds × (words ≡ codes "ready" ∷ decimal seconds ∷ [])

-- how many seconds are waited, none if no words are given
abbrev pub IsTimeOf : Option (List (List ℕ)) → ℕ → Type 0
IsTimeOf None seconds = seconds ≡ 0
IsTimeOf (Some words) seconds = SpellsReady words seconds

-- words are given, and are not `ready` and seconds; the error names their argument
abbrev pub IsNoTime : Option (List (List ℕ)) → ArgumentError → Type 0
IsNoTime None e = ⊥
IsNoTime (Some words) e = ((seconds : ℕ) → SpellsReady words seconds → ⊥) × (e.argument.now ≡ codes "until")

-- ---- all of it

-- the client whose key is given, none where none is named
abbrev pub IsAsker : Option (List ℕ) → Option ℕ → Type 0
IsAsker None client = client ≡ None
IsAsker (Some word) client = IsSomeAnd client (Spells IsClient word)

-- the plan asks these targets, as the words say
pub record PlansFor (m : ArgMatches) (targets : List Target) (p : Plan) : Type 0 where
  pub cluster : Spells IsNumber (word_of m (codes "cluster")) p.inquiry.cluster
  pub of_targets : p.inquiry.targets.items ≡ targets
  pub patience : IsPatienceOf (first_value (found_of m) (codes "wait")) p.inquiry.patience
  pub seconds : IsTimeOf (words_of m (codes "until")) p.seconds
  pub client : IsAsker (first_value (found_of m) (codes "client")) p.inquiry.client
