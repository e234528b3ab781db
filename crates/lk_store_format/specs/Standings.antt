-- The standing of a list of entries: the state that they add up to.
use Rattle.std.specs.Prelude.{◌≡◌, ℕ, suc, ◌<◌, nat_lt, ◌==◌, List, [], ◌∷◌, ◌++◌, Option, Some, None, map, IsTrue}
use Rattle.std.specs.Prelude.{if◌then◌else◌}
use Rattle.lk_types.specs.BallotValue.{BallotValue}
use Rattle.lk_types.specs.Ballots.{is_below, zero_ballot}
use Rattle.lk_types.specs.declared.command.Command.{Command}
use Rattle.lk_types.specs.declared.entry.Entry.{Entry}
use Rattle.lk_types.specs.declared.entry.Entry.TheVariants.{Promise, Vote, Decided}
use Rattle.lk_types.specs.declared.vote.Vote.{Vote as VoteValue}
use Rattle.lk_types.specs.Votes.{are_votes_above}
use Rattle.lk_store_format.specs.VoteLists.{votes_with}
use Rattle.lk_store_format.specs.Entries.{are_pairs_above}
use Rattle.lk_store_format.specs.Values.{HeaderValue, StandingValue, BaseValue}
use Rattle.lk_store_format.specs.declared.stored.Stored.{Stored}
use Rattle.lk_store_format.specs.declared.stored.Stored.TheVariants.{Base, Plain}

-- ---- ballots

-- the greater of two ballots
abbrev pub greater : BallotValue → BallotValue → BallotValue
greater a b = if is_below a b then b else a

-- the greatest of a ballot and others
abbrev pub greatest_of : BallotValue → List BallotValue → BallotValue
greatest_of b [] = b
greatest_of b (c ∷ cs) = greatest_of (greater b c) cs

abbrev pub ballot_of : VoteValue → BallotValue
ballot_of v = v.ballot

-- all ballots of an entry: the promised one of a Base, that of a Promise, and those of votes
abbrev pub ballots_in : Stored → List BallotValue
ballots_in (Base b) = b.standing.promised ∷ map ballot_of b.standing.votes
ballots_in (Plain (Promise b)) = b ∷ []
ballots_in (Plain (Vote v)) = v.ballot ∷ []
ballots_in (Plain (Decided position c)) = []

abbrev pub ballots : List Stored → List BallotValue
ballots [] = []
ballots (e ∷ es) = ballots_in e ++ ballots es

-- ---- votes and decided commands

abbrev pub votes_in : Stored → List VoteValue
votes_in (Base b) = b.standing.votes
votes_in (Plain (Promise b)) = []
votes_in (Plain (Vote v)) = v ∷ []
votes_in (Plain (Decided position c)) = []

abbrev pub all_votes : List Stored → List VoteValue
all_votes [] = []
all_votes (e ∷ es) = votes_in e ++ all_votes es

abbrev pub pairs_in : Stored → List (ℕ × Command)
pairs_in (Base b) = b.standing.pairs
pairs_in (Plain (Promise b)) = []
pairs_in (Plain (Vote v)) = []
pairs_in (Plain (Decided position c)) = (position, c) ∷ []

abbrev pub all_pairs : List Stored → List (ℕ × Command)
all_pairs [] = []
all_pairs (e ∷ es) = pairs_in e ++ all_pairs es

-- of the vote so far and a later one the one of greater ballot, the earlier if they are equal
abbrev pub better : Option VoteValue → VoteValue → Option VoteValue
better None v = Some v
better (Some w) v = if is_below w.ballot v.ballot then Some v else Some w

-- of the vote so far and the later ones at a position the one of greatest ballot, the earliest among equals
abbrev pub best_from : ℕ → Option VoteValue → List VoteValue → Option VoteValue
best_from i standing [] = standing
best_from i standing (v ∷ vs) = best_from i (if v.position == i then better standing v else standing) vs

-- the vote of greatest ballot at a position, the earliest among equals
abbrev pub best_vote : ℕ → List VoteValue → Option VoteValue
best_vote i = best_from i None

-- the first vote at a position
abbrev pub vote_at : ℕ → List VoteValue → Option VoteValue
vote_at i [] = None
vote_at i (v ∷ vs) = if v.position == i then Some v else vote_at i vs

-- the first decided command of a position
abbrev pub decided_at : ℕ → List (ℕ × Command) → Option Command
decided_at i [] = None
decided_at i (p ∷ ps) = if p.0 == i then Some p.1 else decided_at i ps

-- ---- the standing

-- the Base at the start and the standing have the same snapshot
abbrev pub HasSnapshot : List Stored → StandingValue → Type 0
HasSnapshot [] s = ⊥
HasSnapshot (Base b ∷ es) s = (s.position ≡ b.standing.position) × (s.snapshot ≡ b.standing.snapshot)
HasSnapshot (Plain e ∷ es) s = ⊥

-- the Base at the start names this node and this genesis
abbrev pub HasHeader : List Stored → HeaderValue → Type 0
HasHeader [] h = ⊥
HasHeader (Base b ∷ es) h = b.header ≡ h
HasHeader (Plain e ∷ es) h = ⊥

-- The standing of some entries: the snapshot of the Base, the greatest of all ballots, and for each position above the
-- snapshot the vote of greatest ballot and the first decided command, in order of position.
pub record StandsFor (es : List Stored) (s : StandingValue) : Type 0 where
  pub snapshot : HasSnapshot es s
  pub promised : s.promised ≡ greatest_of zero_ballot (ballots es)
  pub votes : (i : ℕ) → s.position < i → vote_at i s.votes ≡ best_vote i (all_votes es)
  pub votes_rise : IsTrue (are_votes_above s.position s.votes)
  pub pairs : (i : ℕ) → s.position < i → decided_at i s.pairs ≡ decided_at i (all_pairs es)
  pub pairs_rise : IsTrue (are_pairs_above s.position s.pairs)

-- ---- ordered lists

-- their positions rise strictly
abbrev pub ArePairsRising : List (ℕ × Command) → Type 0
ArePairsRising ps = (low : ℕ) × IsTrue (are_pairs_above low ps)

-- those of a standing rise above its snapshot
abbrev pub Rises : StandingValue → Type 0
Rises s = IsTrue (are_votes_above s.position s.votes) × IsTrue (are_pairs_above s.position s.pairs)

-- this many elements of smaller keys come first
abbrev pub below : {A : Type 0} → (A → ℕ) → ℕ → List A → ℕ
below key i [] = 0
below key i (x ∷ xs) = if nat_lt (key x) i then suc (below key i xs) else 0

abbrev pub pairs_below : ℕ → List (ℕ × Command) → ℕ
pairs_below = below (λ p. p.0)

-- the pairs with a later one, in order
abbrev pub with_pair : ℕ × Command → List (ℕ × Command) → List (ℕ × Command)
with_pair p [] = p ∷ []
with_pair p (q ∷ qs) =
    if nat_lt q.0 p.0 then q ∷ with_pair p qs
    else if q.0 == p.0 then q ∷ qs
    else p ∷ q ∷ qs

-- a standing with one more entry
abbrev pub with_plain : Entry → StandingValue → StandingValue
with_plain (Promise b) s = record s { promised = greater s.promised b }
with_plain (Vote v) s = record s {
  promised = greater s.promised v.ballot;
  votes = if nat_lt s.position v.position then votes_with v s.votes else s.votes;
}
with_plain (Decided position c) s =
    record s { pairs = if nat_lt s.position position then with_pair (position, c) s.pairs else s.pairs }

-- a standing with more entries, one after the other
abbrev pub with_all : List Entry → StandingValue → StandingValue
with_all [] s = s
with_all (e ∷ es) s = with_all es (with_plain e s)

-- the standing of a Base alone: the ballots of its votes count as promised
abbrev pub of_base : BaseValue → StandingValue
of_base b = record b.standing { promised = greatest_of b.standing.promised (map ballot_of b.standing.votes) }
