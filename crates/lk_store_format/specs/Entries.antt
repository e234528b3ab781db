-- The canonical spelling of each entry of a file, and which entries are valid.
use Rattle.std.specs.Prelude.{◌≡◌, ℕ, ◌+◌, ◌≤◌, Bool, true, nat_lt, ◌&&◌, List, [], ◌∷◌, ◌++◌, length, IsTrue}
use Rattle.std.specs.List.{flat_map, AllByRecursion}
use Rattle.lk_types.specs.Limits.{max_votes, max_base}
use Rattle.lk_types.specs.Ranges.{IsCount, IsTotal}
use Rattle.lk_types.specs.Ballots.{IsRealBallot, IsBallot}
use Rattle.lk_types.specs.Commands.{IsCommand}
use Rattle.lk_types.specs.Votes.{IsVote, are_votes_above}
use Rattle.lk_types.specs.declared.command.Command.{Command}
use Rattle.lk_types.specs.declared.entry.Entry.{Entry}
use Rattle.lk_types.specs.declared.entry.Entry.TheVariants.{Promise, Vote, Decided}
use Rattle.lk_types.specs.declared.vote.Vote.{Vote as VoteValue}
pub use Rattle.lk_codec.specs.Fields.{members}
use Rattle.lk_codec.specs.Fields.{one, two, four, eight, ballot, vote, pair}
use Rattle.lk_store_format.specs.Formats.{IsFormat}
use Rattle.lk_store_format.specs.Headers.{IsHeader}
use Rattle.lk_store_format.specs.Values.{HeaderValue, StandingValue, BaseValue}
use Rattle.lk_store_format.specs.declared.stored.Stored.{Stored}
use Rattle.lk_store_format.specs.declared.stored.Stored.TheVariants.{Base, Plain}

-- whose store it is
abbrev pub header : HeaderValue → List ℕ
header h = eight h.cluster ++ (four h.node ++ (one h.alpha ++ members h.members))

-- the length, and then the bytes
abbrev pub snapshot : List ℕ → List ℕ
snapshot text = four (length text) ++ text

abbrev pub votes : List VoteValue → List ℕ
votes vs = two (length vs) ++ flat_map vote vs

abbrev pub pairs : List (ℕ × Command) → List ℕ
pairs ps = two (length ps) ++ flat_map pair ps

abbrev pub standing : StandingValue → List ℕ
standing s = ballot s.promised ++ (eight s.position ++ (snapshot s.snapshot ++ (votes s.votes ++ pairs s.pairs)))

unfoldable pub base : BaseValue → List ℕ
base b = eight b.generation ++ (one b.format ++ (header b.header ++ standing b.standing))

abbrev pub kind : Stored → ℕ
kind (Base b) = 1
kind (Plain (Promise b)) = 2
kind (Plain (Vote v)) = 3
kind (Plain (Decided position c)) = 4

abbrev pub fields : Stored → List ℕ
fields (Base b) = base b
fields (Plain (Promise b)) = ballot b
fields (Plain (Vote v)) = vote v
fields (Plain (Decided position c)) = pair (position, c)

-- what follows the length
abbrev pub body : Stored → List ℕ
body e = kind e ∷ fields e

-- the number of the bytes after it, and then these
unfoldable pub spelling : Stored → List ℕ
spelling e = four (length (body e)) ++ body e

-- entries one after the other
abbrev pub spelling_of_all : List Stored → List ℕ
spelling_of_all [] = []
spelling_of_all (e ∷ es) = spelling e ++ spelling_of_all es

-- entries other than a Base, as entries of a file
abbrev pub plain : List Entry → List Stored
plain [] = []
plain (e ∷ es) = Plain e ∷ plain es

-- ---- validity

abbrev pub IsPair : ℕ × Command → Type 0
IsPair p = IsCount p.0 × IsCommand p.1

-- the positions rise strictly, the first above low
abbrev pub are_pairs_above : ℕ → List (ℕ × Command) → Bool
are_pairs_above low [] = true
are_pairs_above low (p ∷ ps) = nat_lt low p.0 && are_pairs_above p.0 ps

-- a snapshot, and above it at most 128 votes and at most 128 pairs, each strictly rising by position
abbrev pub IsStanding : StandingValue → Type 0
IsStanding s = IsBallot s.promised × IsTotal s.position
    × (1 ≤ length s.snapshot) × (length s.snapshot ≤ max_base)
    × (length s.votes ≤ max_votes) × AllByRecursion IsVote s.votes × IsTrue (are_votes_above s.position s.votes)
    × (length s.pairs ≤ max_votes) × AllByRecursion IsPair s.pairs × IsTrue (are_pairs_above s.position s.pairs)

abbrev pub IsBase : BaseValue → Type 0
IsBase b = IsCount b.generation × IsHeader b.header × IsStanding b.standing × IsFormat b.format

abbrev pub IsEntry : Entry → Type 0
IsEntry (Promise b) = IsRealBallot b
IsEntry (Vote v) = IsVote v
IsEntry (Decided position c) = IsCount position × IsCommand c

-- a whole Base has at most 65,536 bytes, including the four of its length
abbrev pub IsStored : Stored → Type 0
IsStored (Base b) = IsBase b × (4 + length (body (Base b)) ≤ max_base)
IsStored (Plain e) = IsEntry e

-- the grammar: the bytes are those of the entry
abbrev pub SpellsEntry : Stored → List ℕ → Type 0
SpellsEntry e bytes = IsStored e × (bytes ≡ spelling e)
