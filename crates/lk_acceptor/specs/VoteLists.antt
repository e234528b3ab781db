-- Parts of an acceptor's list of votes: those at, from or above a position.
use Rattle.std.specs.Prelude.{◌≡◌, ℕ, ◌≤◌, nat_lt, nat_le, List, Contains, filter}
use Rattle.lk_types.specs.declared.vote.Vote.{Vote}

-- it is one of the votes, and at the position
abbrev pub IsVoteAt : ℕ → List Vote → Vote → Type 0
IsVoteAt i votes v = Contains votes v × (v.position ≡ i)

-- the votes at a position and above it
abbrev pub votes_from : ℕ → List Vote → List Vote
votes_from i = filter (λ v. nat_le i v.position)

-- one of the votes is there
abbrev pub HasVoteFrom : ℕ → List Vote → Type 0
HasVoteFrom i votes = (v : Vote) × Contains votes v × (i ≤ v.position)

-- the votes above a position
abbrev pub votes_above : ℕ → List Vote → List Vote
votes_above i = filter (λ v. nat_lt i v.position)
