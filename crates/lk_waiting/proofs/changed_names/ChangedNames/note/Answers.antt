use Rattle.std.proofs.Common.{◌≡◌, ◌∙◌, ◌+◌, List, [], ◌∷◌, ◌++◌, Some, length, take, refl, sym, ap, subst}
use Rattle.std.proofs.lemmas.List.{take_more}
use Rattle.std.proofs.lemmas.Option.{get_or_from_slice_get, slice_get_read}
use Rattle.std.specs.Prelude.{slice_get}
use Rattle.lk_node_interface.specs.declared.note.Note.{Note}
use Rattle.lk_waiting.specs.ChangedNames.{AreChanged, names_in}
use Rattle.lk_waiting.proofs.Changing.{noted_more}
use Rattle.lk_waiting.proofs.changed_names.ChangedNames.note.Goals as goal

pub loop-note-preserved : goal.loop-note-preserved
loop-note-preserved c =
    let notes : List Note = c.args.notes.now in
    let i = c.loop-note.note-index in
    let note : Note = c.note-item.result in
    let there : slice_get notes i ≡ Some note =
    slice_get_read notes (length notes) i note refl c.loop-note-test.true c.note-item.is in
    let more : take (i + 1) notes ≡ take i notes ++ note ∷ [] = take_more notes i note c.loop-note-test.true
    ∙ ap (λ (n : Note). take i notes ++ n ∷ []) (get_or_from_slice_get notes i note note there) in
    subst (λ (ns : List Note). AreChanged (names_in ns) c.args.self.now c.note_one.new.self) (sym more)
    (noted_more (take i notes) note c.args.self.now c.loop-note.self c.note_one.new.self c.loop-note.invariant
    c.note_one.ensures)
