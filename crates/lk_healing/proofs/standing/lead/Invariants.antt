use Rattle.lk_healing.proofs.Persists.{HasStood}
use Rattle.lk_healing.proofs.standing.lead.Given as goal

abbrev pub invariant-ballots : goal.invariant-ballots
invariant-ballots g l =
    HasStood g.M.Machine.meaning g.M.Machine.IsText l.fn.candidate l.fn.nodes l.fn.world l.counter l.world
