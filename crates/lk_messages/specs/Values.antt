-- What a contract sees of messages whose fields depend on one another.
use Rattle.std.specs.Prelude.{ℕ, ◌+◌, ◌<◌, ◌≤◌, ◌-◌, Bool, nat_le, ◌&&◌, List, length, IsTrue}
use Rattle.std.specs.List.{AllByRecursion}
use Rattle.lk_types.specs.Limits.{max_count, max_votes, max_commands, max_part, max_base}
use Rattle.lk_types.specs.Ranges.{IsCount, IsClient}
use Rattle.lk_types.specs.BallotValue.{BallotValue}
use Rattle.lk_types.specs.Ballots.{IsRealBallot}
use Rattle.lk_types.specs.Commands.{IsCommand}
use Rattle.lk_types.specs.Votes.{IsVote, are_votes_above}
use Rattle.lk_types.specs.declared.command.Command.{Command}
use Rattle.lk_types.specs.declared.vote.Vote.{Vote}

-- a promised ballot, and the votes kept at first and above
pub record PromiseValue : Type 0 where
  pub ballot : BallotValue
  pub first : ℕ
  pub votes : List Vote

-- at most 128 votes, strictly rising by position, all at first or above
abbrev pub are_votes_from : ℕ → List Vote → Bool
are_votes_from first vs = nat_le (length vs) max_votes && are_votes_above (first - 1) vs

abbrev pub IsPromise : PromiseValue → Type 0
IsPromise p =
    IsRealBallot p.ballot × IsCount p.first × AllByRecursion IsVote p.votes × IsTrue (are_votes_from p.first p.votes)

-- decided commands, for first and the positions after it
pub record DecidedValue : Type 0 where
  pub first : ℕ
  pub commands : List Command

-- this is a count of 1 to 16 commands, the last for a position of at most 2^48
abbrev pub is_run : ℕ → ℕ → Bool
is_run first count = nat_le 1 count && nat_le count max_commands && nat_le (first + count) (max_count + 1)

abbrev pub are_commands_from : ℕ → List Command → Bool
are_commands_from first cs = is_run first (length cs)

abbrev pub IsDecided : DecidedValue → Type 0
IsDecided d = IsCount d.first × AllByRecursion IsCommand d.commands × IsTrue (are_commands_from d.first d.commands)

-- what is wanted: commands from first on, or otherwise a snapshot from offset on
pub record WantValue : Type 0 where
  pub first : ℕ
  pub offset : ℕ

abbrev pub IsWant : WantValue → Type 0
IsWant w = IsCount w.first × (w.offset ≤ max_base)

-- a piece of the snapshot at a position, which has `total` bytes: those from the offset on
pub record PartValue : Type 0 where
  pub position : ℕ
  pub total : ℕ
  pub offset : ℕ
  pub bytes : List ℕ

-- 1 to 1,024 bytes after the offset are within the total, which is 1 to 65,536
abbrev pub LieWithin : ℕ → ℕ → ℕ → Type 0
LieWithin total offset n = (1 ≤ total) × (total ≤ max_base) × (1 ≤ n) × (n ≤ max_part) × (offset + n ≤ total)

-- it is within its total
abbrev pub IsWithin : PartValue → Type 0
IsWithin p = LieWithin p.total p.offset (length p.bytes)

abbrev pub IsPart : PartValue → Type 0
IsPart p = IsCount p.position × IsWithin p

-- a number that its client may no longer use, and its last number
pub record PassedValue : Type 0 where
  pub client : ℕ
  pub number : ℕ
  pub last : ℕ

abbrev pub IsPassed : PassedValue → Type 0
IsPassed p = IsClient p.client × IsCount p.number × IsCount p.last × (p.number < p.last)
