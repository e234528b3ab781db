use Rattle.std.proofs.Common.{rules, ◌≡◌, ◌++◌, take, Some, slice_get, ap, sym, ◌∙◌, subst, append_assoc, add-one}
use Rattle.std.proofs.Common.{length, refl}
use Rattle.std.proofs.lemmas.Option.{slice_get_read}
use Rattle.lk_sim_nodes.specs.Told.{NotesReplies}
use Rattle.lk_sim_nodes.proofs.Tellings.{tells_next}
use Rattle.lk_sim_nodes.proofs.notes.add_notes.Goals as goal

pub loop-datagram-preserved : goal.loop-datagram-preserved
loop-datagram-preserved c =
    let i = c.loop-datagram.datagram-index in
    let old = c.loop-datagram.invariant in
    let now = c.in_ok-add_note.ensures in
    let at : slice_get c.args.batch.now i ≡ Some c.datagram-item.result =
    slice_get_read c.args.batch.now (length c.args.batch.now) i c.datagram-item.result refl
    (search rules) c.datagram-item.is in (
      old.0 ++ now.0,
      now.1 ∙ ap (λ l. l ++ now.0) old.1 ∙ append_assoc c.args.notes.now.items old.0 now.0,
      subst (λ k. NotesReplies (take k c.args.batch.now) (old.0 ++ now.0)) (sym (add-one i))
          (tells_next c.args.batch.now i c.datagram-item.result old.0 now.0 at old.2 now.2),
    )
