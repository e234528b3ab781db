-- What `locks ask` is to send, by the words of its arguments.
use Rattle.std.specs.Prelude.{◌≡◌, ◌⊎◌, ℕ, List, Option, Some, None, IfSome, IsSomeAnd, codes, if◌then◌else◌}
use Rattle.lk_types.specs.Ranges.{IsClient, IsCount}
use Rattle.lk_types.specs.declared.command.Op.{Op}
use Rattle.clap.specs.declared.parser.matches.ArgMatches.{ArgMatches}
use Rattle.lk_client.specs.declared.question.Question.{Question}
use Rattle.lk_client.specs.Waits.{AsksFor}
use Rattle.lk_client.specs.declared.waiting.Wait.{Wait}
use Rattle.lk_command_line.specs.Arguments.{is_given, word_of}
use Rattle.lk_command_line.specs.Spellings.{IsNumber, Spells, IsRefused}
use Rattle.lk_command_line.specs.StatusPlans.{IsTime}
use Rattle.lk_command_line.specs.declared.argument_error.ArgumentError.{ArgumentError}

-- the word of an argument spells one of these
abbrev pub IsSpelled : (ℕ → Type 0) → ArgMatches → List ℕ → Type 0
IsSpelled Is m name = (n : ℕ) × Spells Is (word_of m name) n

-- the error is that of this argument
abbrev pub IsErrorOf : (ℕ → Type 0) → ArgMatches → List ℕ → ArgumentError → Type 0
IsErrorOf Is m name e = IsRefused Is name (word_of m name) e

-- each number of the question is the one that the word of its argument spells; op and port are these
pub record AsksAs (m : ArgMatches) (op : Op) (port : ℕ) (q : Question) : Type 0 where
  pub cluster : Spells IsNumber (word_of m (codes "cluster")) q.cluster
  pub first : q.port ≡ port
  pub client : Spells IsClient (word_of m (codes "client")) q.request.client
  pub number : Spells IsCount (word_of m (codes "request")) q.request.number
  pub operation : q.request.op ≡ op

-- the error is that of the first of the three whose word spells none
abbrev pub IsFirstError : ArgMatches → ArgumentError → Type 0
IsFirstError m e =
    IsErrorOf IsNumber m (codes "cluster") e
    ⊎ (IsSpelled IsNumber m (codes "cluster") × (IsErrorOf IsClient m (codes "client") e
    ⊎ (IsSpelled IsClient m (codes "client") × IsErrorOf IsCount m (codes "request") e)))

-- a client seals its probes if its key is given
abbrev pub SealsBy : ArgMatches → ℕ → Option ℕ → Type 0
SealsBy m client sealing = sealing ≡ (if is_given m (codes "client-key") then Some client else None)

-- the seconds to wait are those that the word spells, and none where no word is given
abbrev pub IsWaitOf : Option (List ℕ) → Option ℕ → Type 0
IsWaitOf None seconds = seconds ≡ None
IsWaitOf (Some word) seconds = IsSomeAnd seconds (Spells IsTime word)

-- what is waited for is the lock that the op asks for
abbrev pub WaitsFor : Op → Option Wait → Type 0
WaitsFor op wait = IfSome wait (λ (w : Wait). AsksFor op w.wanted.mode w.wanted.name)
