use Rattle.std.proofs.Common.{◌≡◌, map, drop}
use Rattle.lk_store_format.specs.Standings.{greatest_of, ballot_of}
use Rattle.lk_log.proofs.replaying.greatest_of.Given as goal

abbrev pub invariant-loop-vote : goal.invariant-loop-vote
invariant-loop-vote l =
    greatest_of l.greatest (map ballot_of (drop l.vote-index l.votes)) ≡ greatest_of l.fn.ballot (map ballot_of l.votes)
