-- Votes in order of their positions.
use Rattle.std.specs.Prelude.{ℕ, suc, nat_lt, ◌==◌, List, [], ◌∷◌, IsTrue, if◌then◌else◌}
use Rattle.lk_types.specs.Ballots.{is_below}
use Rattle.lk_types.specs.declared.vote.Vote.{Vote}
use Rattle.lk_types.specs.Votes.{are_votes_above}

-- their positions rise strictly
abbrev pub AreRising : List Vote → Type 0
AreRising votes = (low : ℕ) × IsTrue (are_votes_above low votes)

-- this many votes of smaller positions come first
abbrev pub count_below : ℕ → List Vote → ℕ
count_below i [] = 0
count_below i (v ∷ vs) = if nat_lt v.position i then suc (count_below i vs) else 0

-- the votes with a later one, in order: of two at a position the one of greater ballot
abbrev pub votes_with : Vote → List Vote → List Vote
votes_with v [] = v ∷ []
votes_with v (w ∷ ws) =
    if nat_lt w.position v.position then w ∷ votes_with v ws
    else if w.position == v.position then (if is_below w.ballot v.ballot then v else w) ∷ ws
    else v ∷ w ∷ ws
