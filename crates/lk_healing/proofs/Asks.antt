-- Ticks and deliveries ask nothing.
use Rattle.std.proofs.Common.{◌≡◌, ◌∙◌, inl, inr, ℕ, zero, suc, ◌++◌, List, [], ◌∷◌, take, refl, ap, sym, subst}
use Rattle.std.proofs.Common.{arith, append_assoc, append-nil}
use Rattle.lk_types.specs.declared.command.Request.{Request as RequestValue}
use Rattle.lk_messages.specs.declared.message.Content.{Content}
use Rattle.lk_messages.specs.declared.message.Content.TheVariants as content
use Rattle.lk_messages.specs.declared.message.NodeMessage.{NodeMessage}
use Rattle.lk_messages.specs.declared.message.NodeMessage.TheVariants as kinds
use Rattle.lk_agreement_laws.proofs.Histories.{contains_more}
use Rattle.lk_agreement_laws.specs.Datagrams.{Datagram}
use Rattle.lk_state.specs.Meanings.{Meaning}
use Rattle.lk_node_interface.specs.declared.input.Input.{Input}
use Rattle.lk_node_interface.specs.declared.input.Input.TheVariants.{Tick, Nudge, Datagram as Heard}
use Rattle.lk_node_interface.specs.declared.nudge_reason.NudgeReason.TheVariants.{TicksWithheld}
use Rattle.lk_node_interface.specs.declared.note.Note.{Note}
use Rattle.lk_node_interface.specs.declared.note.Note.TheVariants as note
use Rattle.lk_node.specs.BorneOut.{IsOfNode}
use Rattle.lk_replica.specs.ReplicaValue.{ReplicaValue}
use Rattle.lk_sim.specs.Events.{AreOfNodes, IsGiven}
use Rattle.lk_sim.specs.WorldStates.{WorldState}
use Rattle.lk_sim.specs.Traces.{asked_by, asked_in}
use Rattle.lk_sim.specs.declared.event.Event.TheVariants as event
use Rattle.lk_sim_nodes.specs.Told.{NotesReplies, told_by, told_by_node}
use Rattle.lk_world_progress.proofs.Delivering.{heard_from}
use Rattle.lk_world_progress.proofs.Stepping.{event_steps}
use Rattle.lk_world_progress.specs.Delivering.{Hears, HearsEach, HearsInTurn}
use Rattle.lk_world_progress.specs.Stepping.{behaviour, GoesWell}
use Rattle.lk_world_leftovers.specs.Persisting.{WaitsIn}
pub use Rattle.lk_healing.specs.Contending.{AsksNothing}

-- ---- notes

pub asked_both : (xs ys : List Note) → asked_in (xs ++ ys) ≡ asked_in xs ++ asked_in ys
asked_both [] ys = refl
asked_both (x ∷ xs) ys =
    ap (λ (l : List RequestValue). asked_by x ++ l) (asked_both xs ys)
    ∙ sym (append_assoc (asked_by x) (asked_in xs) (asked_in ys))

own_note : (x : Note) → IsOfNode x → asked_by x ≡ []
own_note (note.Asked r) own = absurd own
own_note (note.Counted node i set v) own = refl
own_note (note.Ran node i v) own = refl
own_note (note.Answered node client number answer) own = refl
own_note (note.Told node client number last) own = refl

pub own_notes : (xs : List Note) → AreOfNodes xs → asked_in xs ≡ []
own_notes [] own = refl
own_notes (x ∷ xs) own =
    ap (λ (l : List RequestValue). l ++ asked_in xs) (own_note x (own x (0, omega arith, refl)))
    ∙ own_notes xs (λ y c. own y (contains_more x xs y c))

node_tells : (n : ℕ) (x : NodeMessage) → asked_in (told_by_node n x) ≡ []
node_tells n (kinds.Prepare b first) = refl
node_tells n (kinds.Promise p) = refl
node_tells n (kinds.Accept x) = refl
node_tells n (kinds.Accepted x) = refl
node_tells n (kinds.Nack k) = refl
node_tells n (kinds.Decided d) = refl
node_tells n (kinds.Want w) = refl
node_tells n (kinds.Part p) = refl
node_tells n (kinds.Answer a) = refl
node_tells n (kinds.Elsewhere e) = refl
node_tells n (kinds.Passed p) = refl
node_tells n (kinds.Lead b e) = refl

content_tells : (x : Content) → asked_in (told_by x) ≡ []
content_tells (content.Request r) = refl
content_tells (content.Node n x) = node_tells n x

pub replies_ask_nothing : (ds : List Datagram) (notes : List Note) → NotesReplies ds notes → asked_in notes ≡ []
replies_ask_nothing [] notes none = ap asked_in none
replies_ask_nothing (d ∷ ds) notes k =
    ap asked_in k.3 ∙ asked_both (told_by k.0.content) k.1
    ∙ ap (λ (l : List RequestValue). l ++ asked_in k.1) (content_tells k.0.content)
    ∙ replies_ask_nothing ds k.1 k.4

-- ---- events

pub asks_same : (w : WorldState ReplicaValue) → AsksNothing w w
asks_same w = record { asked = refl; genesis = refl }

pub asks_both : (old mid new : WorldState ReplicaValue) → AsksNothing old mid → AsksNothing mid new
    → AsksNothing old new
asks_both old mid new p q = record { asked = q.asked ∙ p.asked; genesis = q.genesis ∙ p.genesis }

module _ (m : Meaning) (IsText : List ℕ → Type 0) where
  given_asks : (old new : WorldState ReplicaValue) (n : ℕ) (i : Input) → IsGiven (behaviour m IsText) old new n i []
      → asked_in new.trace ≡ asked_in old.trace
  given_asks old new n i k = elim k.comes_to [
    | inl g ↦ by_notes g.notes g.told g.of_nodes (replies_ask_nothing g.batch g.told g.tells) g.adds.trace
    | inr (inl g) ↦ by_notes g.notes g.told g.of_nodes (replies_ask_nothing (take g.sends g.batch) g.told g.tells)
        g.adds.trace
    | inr (inr g) ↦ ap asked_in g.adds.trace ∙ asked_both old.trace [] ∙ append-nil (asked_in old.trace)
  ]
    where
      by_notes : (notes told : List Note) → AreOfNodes notes → asked_in told ≡ []
          → new.trace ≡ old.trace ++ (([] ++ notes) ++ told) → asked_in new.trace ≡ asked_in old.trace
      by_notes notes told own none trace =
          ap asked_in trace ∙ asked_both old.trace (notes ++ told)
          ∙ ap (λ (l : List RequestValue). asked_in old.trace ++ l)
          (asked_both notes told ∙ ap (λ (l : List RequestValue). l ++ asked_in told) (own_notes notes own) ∙ none)
          ∙ append-nil (asked_in old.trace)

  pub tick_asks : (old new : WorldState ReplicaValue) (n : ℕ) → GoesWell m IsText old (event.Tick n) new
      → AsksNothing old new
  tick_asks old new n goes = record {
    asked = given_asks old new n Tick goes.done.1;
    genesis = (event_steps m IsText old new (event.Tick n) n Tick goes (refl, refl)).genesis;
  }

  pub nudge_asks : (old new : WorldState ReplicaValue) (n : ℕ) → GoesWell m IsText old (event.Nudge n TicksWithheld) new
      → AsksNothing old new
  nudge_asks old new n goes = record {
    asked = given_asks old new n (Nudge TicksWithheld) goes.done.1;
    genesis =
        (event_steps m IsText old new (event.Nudge n TicksWithheld) n (Nudge TicksWithheld) goes (refl, refl)).genesis;
  }

  pub hears_asks : (n : ℕ) (x : Content) (old new : WorldState ReplicaValue) → Hears m IsText n x old new
      → AsksNothing old new
  hears_asks n x old new h = record {
    asked = given_asks old new h.goes.done.1.node (Heard h.goes.done.1.datagram.bytes) h.goes.done.1.given;
    genesis = (heard_from m IsText n x old new h).genesis;
  }

  pub each_asks : (x : Content) (ns : List ℕ) (old new : WorldState ReplicaValue) → HearsEach m IsText x ns old new
      → AsksNothing old new
  each_asks x [] old new same = subst (λ (w : WorldState ReplicaValue). AsksNothing old w) (sym same) (asks_same old)
  each_asks x (n ∷ ns) old new each =
      asks_both old each.0 new (hears_asks n x old each.0 each.1) (each_asks x ns each.0 new each.2)

  pub turn_asks : (n : ℕ) (xs : List Content) (old new : WorldState ReplicaValue) → HearsInTurn m IsText n xs old new
      → AsksNothing old new
  turn_asks n [] old new same = subst (λ (w : WorldState ReplicaValue). AsksNothing old w) (sym same) (asks_same old)
  turn_asks n (x ∷ xs) old new turn =
      asks_both old turn.0 new (hears_asks n x old turn.0 turn.1) (turn_asks n xs turn.0 new turn.2)

  pub waits_ask : (n k : ℕ) (old new : WorldState ReplicaValue) → WaitsIn m IsText n k old new → AsksNothing old new
  waits_ask n zero old new same = subst (λ (w : WorldState ReplicaValue). AsksNothing old w) (sym same) (asks_same old)
  waits_ask n (suc k) old new w =
      asks_both old w.0 new (tick_asks old w.0 n w.1) (waits_ask n k w.0 new w.3)
