-- A node of a world that is ahead sends commands, and one that is behind executes them.
use Rattle.std.proofs.Common.{◌≡◌, inl, inr, ℕ, ◌+◌, ◌≤◌, List, [], ◌∷◌, Contains, length, refl, sym}
use Rattle.std.proofs.Common.{subst, arith}
use Rattle.std.proofs.lemmas.List.Elements.{Contains-append_left}
use Rattle.lk_messages.specs.declared.message.Content.TheVariants as content
use Rattle.lk_messages.specs.declared.message.NodeMessage.{NodeMessage}
use Rattle.lk_messages.specs.declared.message.NodeMessage.TheVariants as kinds
use Rattle.lk_agreement_laws.proofs.Histories.{only}
use Rattle.lk_state.specs.Meanings.{Meaning}
use Rattle.lk_learner.specs.Learners.{alpha, decided_from, executed}
use Rattle.lk_node.specs.NodeValue.{NodeValue}
use Rattle.lk_node.specs.Telling.{envelope_to}
use Rattle.lk_node_interface.specs.Envelopes.{EnvelopeValue, batch_of}
use Rattle.lk_node_interface.specs.Outboxes.{OutboxValue}
use Rattle.lk_progress.specs.Feeding.{DecidedIsExecuted, LaggingNodeIsFed, Sends, WantIsAnswered}
use Rattle.lk_progress.specs.Hearing.{Takes}
use Rattle.lk_replica.specs.ReplicaValue.{ReplicaValue}
use Rattle.lk_sim.specs.WorldStates.{WorldState}
use Rattle.lk_world_feeding.proofs.Knowing.{has_window, may_serve}
use Rattle.lk_world_feeding.proofs.Taking.{IsAboutProgress, TakesFrom, taken_learner, takes_from}
use Rattle.lk_world_feeding.specs.Asking.{AskedNodesSend, ChangesOnly, Keeps, RejectedNodesSend, SendsIn}
use Rattle.lk_world_feeding.specs.Asking.{SentCommandsAreExecuted}
use Rattle.lk_world_progress.proofs.Balloting.{found_has}
use Rattle.lk_world_progress.proofs.Delivering.{among, still}
use Rattle.lk_world_progress.proofs.Sending.{sent_as}
use Rattle.lk_world_progress.proofs.Stepping.{has_header}
use Rattle.lk_world_progress.proofs.Waiting.{left_has}
use Rattle.lk_world_progress.specs.Balloting.{HasSentTo}
use Rattle.lk_world_progress.specs.Delivering.{DeliveriesAreTaken, Delivers, InstallsNothing, IsOtherThanPart}
use Rattle.lk_world_progress.specs.Delivering.{TakesContents}
use Rattle.lk_world_progress.specs.Stepping.{EventIsStep, IsUpAs}

-- ---- a rested node takes one datagram

module _ (m : Meaning) (IsText : List ℕ → Type 0) (law : DeliveriesAreTaken m IsText) (n from : ℕ) (x : NodeMessage)
    (other : IsOtherThanPart x) (about : IsAboutProgress x) (r : ReplicaValue) (old new : WorldState ReplicaValue)
    (up : IsUpAs old n r) (k : Delivers m IsText n (content.Node from x) old new) where
  all : TakesContents m IsText n (content.Node from x ∷ []) r old new
  all = law old new n (content.Node from x ∷ []) r k.hears.goes.before up
      (λ y c. subst InstallsNothing (only (content.Node from x) y c) other) (new, k, refl)

  pub record TakesOne : Type 0 where
    pub out : OutboxValue
    pub now : ReplicaValue
    pub is : IsUpAs new n now
    pub takes : Takes m IsText r.node (content.Node from x) now.node out
    pub learner : now.node.learner ≡ r.node.learner
    pub says : (j : ℕ) (y : NodeMessage) → Contains out.envelopes (envelope_to r.node y j) → HasSentTo new n j y
    pub only : ChangesOnly n old new

  pub takes_one : TakesOne
  takes_one =
      let each = all.takes in
      let takes : Takes m IsText r.node (content.Node from x) all.after.node each.1 =
      subst (λ (node : NodeValue). Takes m IsText r.node (content.Node from x) node each.1) (sym each.4.0) each.3 in
      record {
        out = each.1;
        now = all.after;
        is = all.is;
        takes = takes;
        learner = taken_learner m IsText r.node all.after.node from x each.1 about takes;
        says = λ j y c. sent_as old new n j r.node y (has_header m IsText old k.hears.goes.before n r up) all.genesis
            (among n all.envelopes old new all.sent (envelope_to r.node y j)
            (subst (λ (ls : List EnvelopeValue). Contains ls (envelope_to r.node y j)) (sym each.5)
            (Contains-append_left each.1.envelopes each.2 (envelope_to r.node y j) c)));
        only = record {
          others = all.others;
          sent = still old new (batch_of n all.envelopes) all.sent;
          genesis = all.genesis;
        };
      }

-- ---- it sends commands

module _ (m : Meaning) (IsText : List ℕ → Type 0) (law : DeliveriesAreTaken m IsText) where
  sends_in : (n other first offset : ℕ) (x : NodeMessage) (part : IsOtherThanPart x) (about : IsAboutProgress x)
      (r : ReplicaValue) (old new : WorldState ReplicaValue) (up : IsUpAs old n r) → Keeps r first
      → (k : Delivers m IsText n (content.Node other x) old new)
      → (t : TakesOne m IsText law n other x part about r old new up k) → Sends r.node other first offset t.out
      → SendsIn n other r first old new
  sends_in n other first offset x part about r old new up keeps k t (inl commands) = record {
    now = t.now;
    is = t.is;
    learner = t.learner;
    many = commands.many;
    sends = t.says other (kinds.Decided (decided_from first r.node.learner)) commands.told;
    only = t.only;
  }
  sends_in n other first offset x part about r old new up keeps k t (inr snapshot) =
      absurd (omega (arith, snapshot.replaced, keeps.above))

  pub asked_sends : WantIsAnswered m IsText → AskedNodesSend m IsText
  asked_sends answers old new n other r want up keeps k =
      let t : TakesOne m IsText law n other (kinds.Want want) tt tt r old new up k =
      takes_one m IsText law n other (kinds.Want want) tt tt r old new up k in
      sends_in n other want.first want.offset (kinds.Want want) tt tt r old new up keeps k t
      (answers r.node t.now.node other want t.out (may_serve m IsText old k.hears.goes.before n r up) t.takes
      keeps.there)

  pub rejected_sends : LaggingNodeIsFed m IsText → RejectedNodesSend m IsText
  rejected_sends feeds old new n other r nack up keeps k =
      let t : TakesOne m IsText law n other (kinds.Nack nack) tt tt r old new up k =
      takes_one m IsText law n other (kinds.Nack nack) tt tt r old new up k in
      sends_in n other (nack.executed + 1) 0 (kinds.Nack nack) tt tt r old new up keeps k t
      (feeds r.node t.now.node other nack t.out (may_serve m IsText old k.hears.goes.before n r up) t.takes
      (omega (arith, keeps.there)))

-- ---- it executes them

pub sent_executed : (m : Meaning) (IsText : List ℕ → Type 0) → EventIsStep m IsText → DecidedIsExecuted m IsText
    → SentCommandsAreExecuted m IsText
sent_executed m IsText law executes old new n from r d up near hears =
    let t : TakesFrom m IsText law n (content.Node from (kinds.Decided d)) r old new =
    takes_from m IsText law n (content.Node from (kinds.Decided d)) r old new up hears in
    let s = t.steps.step in
    let window : 1 ≤ alpha s.start.learner = found_has r s.start t.steps.found (λ node. 1 ≤ alpha node.learner)
    (λ e. e) (has_window m IsText old hears.goes.before n r up) in
    let here : d.first ≤ executed s.start.learner + 1 =
    found_has r s.start t.steps.found (λ node. d.first ≤ executed node.learner + 1) (λ e. e) near in record {
      now = s.after;
      is = s.is;
      reaches = left_has s.out s.last s.after (λ node. d.first + length d.commands ≤ executed node.learner + 1) (λ e. e)
          s.left (executes s.start s.last from d s.out window t.takes here);
      only = t.steps.only;
    }
