use Rattle.std.proofs.Common.{List, ◌++◌}
use Rattle.lk_node_interface.specs.declared.note.Note.{Note}
use Rattle.lk_replica.specs.Together.{parts_of}
use Rattle.lk_sim.specs.Groups.{AreNotesOf}
use Rattle.lk_sim.proofs.group.notes_of.Given as goal

-- with the notes of the steps that are still to come, they are those of all
abbrev pub invariant-steps : goal.invariant-steps
invariant-steps l = (more : List Note) → AreNotesOf (parts_of l.step-iterator.rest.items l.rest) more
    → AreNotesOf (parts_of l.fn.steps.items l.sent) (l.notes.items ++ more)
