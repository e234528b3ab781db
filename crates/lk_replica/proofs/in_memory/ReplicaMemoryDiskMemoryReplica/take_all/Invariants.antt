use Rattle.lk_replica.proofs.TakenTogether.{TakenSoFar}
use Rattle.lk_replica.proofs.in_memory.ReplicaMemoryDiskMemoryReplica.take_all.Given as goal

abbrev pub invariant-inputs : goal.invariant-inputs
invariant-inputs g l = TakenSoFar g.M.Machine.meaning g.M.Machine.IsText l.fn.self l.fn.inputs.items l.self l.group
    l.steps.items l.input-iterator.rest.items
