-- The envelopes of the parts so far.
use Rattle.std.proofs.Common.{◌≡◌, ◌++◌, length, Contains}
use Rattle.std.specs.Vec.Iter.{into_iter_items, into_iter_len}
use Rattle.lk_messages.specs.Grammar.{IsMessage}
use Rattle.lk_messages.specs.Values.{PartValue}
use Rattle.lk_messages.specs.declared.message.NodeMessage.TheVariants as kinds
use Rattle.lk_node_interface.specs.Outboxes.{nothing}
use Rattle.lk_node_interface.specs.Saying.{saying}
use Rattle.lk_node.specs.CatchingUp.{sending_parts}
use Rattle.lk_node.proofs.node.Node.send_parts.Given as goal

abbrev pub invariant-parts : goal.invariant-parts
invariant-parts g l = (l.yielded ++ into_iter_items l.part-iterator ≡ into_iter_items l.initial.part-iterator)
    × (l.out ≡ sending_parts l.self l.other l.yielded nothing)
    × ((p : PartValue) → Contains l.yielded p → IsMessage (saying l.self.header (kinds.Part p)))
    × (into_iter_len l.part-iterator ≡ length (into_iter_items l.part-iterator))
