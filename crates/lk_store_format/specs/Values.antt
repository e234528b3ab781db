-- What a contract sees of a header, a standing and a Base.
use Rattle.std.specs.Prelude.{ℕ, List}
use Rattle.lk_types.specs.BallotValue.{BallotValue}
use Rattle.lk_types.specs.declared.command.Command.{Command}
use Rattle.lk_types.specs.declared.member.Member.{Member}
use Rattle.lk_types.specs.declared.vote.Vote.{Vote}

-- whose store it is: a node, and the genesis of its cluster
pub record HeaderValue : Type 0 where
  pub node : ℕ
  pub cluster : ℕ
  pub alpha : ℕ
  pub members : List Member

-- what a node remembers: the ballot that it promised, a snapshot and its position, and above it votes and decided
-- commands
pub record StandingValue : Type 0 where
  pub promised : BallotValue
  pub position : ℕ
  pub snapshot : List ℕ
  pub votes : List Vote
  pub pairs : List (ℕ × Command)

-- the first entry of a file
pub record BaseValue : Type 0 where
  pub generation : ℕ
  pub format : ℕ
  pub header : HeaderValue
  pub standing : StandingValue
