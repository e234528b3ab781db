use Rattle.std.proofs.Common.{take}
use Rattle.lk_waiting.specs.ChangedNames.{AreChanged, names_in}
use Rattle.lk_waiting.proofs.changed_names.ChangedNames.note.Given as goal

-- those of the notes so far
abbrev pub invariant-loop-note : goal.invariant-loop-note
invariant-loop-note l = AreChanged (names_in (take l.note-index l.notes)) l.fn.self l.self
