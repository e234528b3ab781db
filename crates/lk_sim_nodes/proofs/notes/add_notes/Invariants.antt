use Rattle.std.proofs.Common.{◌≡◌, ◌++◌, List, take}
use Rattle.lk_node_interface.specs.declared.note.Note.{Note}
use Rattle.lk_sim_nodes.specs.Told.{NotesReplies}
use Rattle.lk_sim_nodes.proofs.notes.add_notes.Given as goal

abbrev pub invariant-loop-datagram : goal.invariant-loop-datagram
invariant-loop-datagram l =
    (more : List Note) × (l.notes.items ≡ l.fn.notes.items ++ more) × NotesReplies (take l.datagram-index l.batch) more
