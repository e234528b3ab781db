use Rattle.std.proofs.Common.{◌≡◌, ◌++◌, ◌∷◌, ◌∙◌, [], List, length, take, drop, min, refl, sym, ap, subst}
use Rattle.std.proofs.Common.{append_assoc, append-nil, rules}
use Rattle.std.proofs.lemmas.List.{nil_from_length}
use Rattle.lk_node_interface.specs.declared.note.Note.{Note}
use Rattle.lk_node.specs.Histories.{Datagram}
use Rattle.lk_replica.specs.Together.{parts_of}
use Rattle.lk_replica.specs.declared.taken.Step.{Step}
use Rattle.lk_sim.specs.Groups.{AreNotesOf}
use Rattle.lk_sim_nodes.specs.Told.{NotesReplies}
use Rattle.lk_sim.proofs.GivenTogether.{take_min, drop_min}
use Rattle.lk_sim.proofs.group.notes_of.Goals as goal

pub steps-preserved : goal.steps-preserved
steps-preserved c more tells =
    let rest = c.steps.rest.now in
    let own = c.in-Some.step.notes.items in
    let told = c.in_ok-add_notes.ensures in
    let at : c.min.result ≡ min c.in-Some.step.sends (length rest) = search rules in
    let front : c.split_at.result.0.now ≡ take c.in-Some.step.sends rest = c.split_at.ensures.front
    ∙ ap (λ k. take k rest) at ∙ take_min c.in-Some.step.sends rest in
    let back : c.split_at.result.1.now ≡ drop c.in-Some.step.sends rest = c.split_at.ensures.back
    ∙ ap (λ k. drop k rest) at ∙ drop_min c.in-Some.step.sends rest in
    let those : AreNotesOf (parts_of (c.in-Some.step ∷ c.next.new.self.rest.items) rest) ((own ++ told.0) ++ more) = (
      told.0,
      more,
      subst (λ (l : List Datagram). NotesReplies l told.0) front told.2,
      refl,
      subst (λ (l : List Datagram). AreNotesOf (parts_of c.next.new.self.rest.items l) more) back tells,
    ) in
    let all = c.steps.invariant ((own ++ told.0) ++ more)
    (subst (λ (l : List Step). AreNotesOf (parts_of l rest) ((own ++ told.0) ++ more))
    (sym c.in-Some.ensures.steps.0) those) in
    let noted : c.append.new.self.items ≡ c.steps.notes.items ++ own = search rules in
    let is : c.steps.notes.items ++ ((own ++ told.0) ++ more) ≡ c.add_notes.new.notes.items ++ more =
    sym (append_assoc c.steps.notes.items (own ++ told.0) more)
    ∙ ap (λ l. l ++ more) (sym (append_assoc c.steps.notes.items own told.0)
    ∙ ap (λ l. l ++ told.0) (sym noted) ∙ sym told.1) in
    subst (λ (l : List Note). AreNotesOf (parts_of c.args.steps.items c.args.sent.now) l) is all

pub returns : goal.returns
returns c =
    let none : c.steps.step-iterator.rest.items ≡ [] =
    nil_from_length c.steps.step-iterator.rest.items
    (sym c.steps.step-iterator.rest.ok.0 ∙ c.in-None.ensures.steps.0) in
    subst (λ (l : List Note). AreNotesOf (parts_of c.args.steps.items c.args.sent.now) l)
    (append-nil c.steps.notes.items)
    (c.steps.invariant [] (subst (λ (l : List Step). AreNotesOf (parts_of l c.steps.rest.now) []) (sym none) refl))
