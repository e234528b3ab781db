use Rattle.std.proofs.Common.{◌≡◌}
use Rattle.lk_node_interface.specs.Envelopes.{batch_of}
use Rattle.lk_replica.proofs.memory_post.datagrams.Given as goal

abbrev pub invariant-loop-envelope : goal.invariant-loop-envelope
invariant-loop-envelope l = l.datagrams.items ≡ batch_of l.node l.yielded
