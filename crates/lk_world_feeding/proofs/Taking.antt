-- A node of a world takes a datagram or a nudge: its step, what that leaves of its learner, and what it has sent.
use Rattle.std.proofs.Common.{◌≡◌, ◌∙◌, inl, inr, ℕ, Bool, true, false, cond, List, Contains}
use Rattle.std.proofs.Common.{refl, ap, sym, subst}
use Rattle.lk_types.specs.BallotValue.{BallotValue}
use Rattle.lk_messages.specs.Grammar.{Spells}
use Rattle.lk_messages.specs.declared.message.Content.{Content}
use Rattle.lk_messages.specs.declared.message.Content.TheVariants as content
use Rattle.lk_messages.specs.declared.message.NodeMessage.{NodeMessage}
use Rattle.lk_messages.specs.declared.message.NodeMessage.TheVariants as kinds
use Rattle.lk_state.specs.Meanings.{Meaning}
use Rattle.lk_store_format.specs.Values.{HeaderValue}
use Rattle.lk_leader.specs.Terms.{is_term_below}
use Rattle.lk_node.specs.CatchingUp.{HandlesLead}
use Rattle.lk_node.specs.Leavings.{header_of}
use Rattle.lk_node.specs.NodeValue.{NodeValue}
use Rattle.lk_node.specs.Steps.{HandlesNode}
use Rattle.lk_node.specs.Telling.{envelope_to}
use Rattle.lk_node.specs.Yielding.{seeing, with_round, without_term}
use Rattle.lk_node_interface.specs.Envelopes.{batch_of}
use Rattle.lk_node_interface.specs.Outboxes.{OutboxValue}
use Rattle.lk_node_interface.specs.declared.input.Input.{Input}
use Rattle.lk_node_interface.specs.declared.input.Input.TheVariants.{Datagram as Heard}
use Rattle.lk_progress.proofs.Hearing.{Handled, handled, same_learner}
use Rattle.lk_progress.specs.Hearing.{Takes}
use Rattle.lk_replica.specs.ReplicaValue.{ReplicaValue}
use Rattle.lk_sim.specs.WorldStates.{WorldState}
use Rattle.lk_sim.specs.declared.event.Event.{Event}
use Rattle.lk_sim.specs.declared.event.Event.TheVariants as event
use Rattle.lk_world_feeding.specs.Asking.{ChangesOnly}
use Rattle.lk_world_progress.proofs.Balloting.{found_has}
use Rattle.lk_world_progress.proofs.Delivering.{among, still}
use Rattle.lk_world_progress.proofs.Sending.{sent_as}
use Rattle.lk_world_progress.proofs.Stepping.{has_header, one_replica}
use Rattle.lk_world_progress.specs.Balloting.{HasSentTo}
use Rattle.lk_world_progress.specs.Delivering.{Hears}
use Rattle.lk_world_progress.specs.Stepping.{EventIsStep, Gives, GoesWell, IsFound, IsUpAs, TakesStep}

pub then_only : (n : ℕ) (old mid new : WorldState ReplicaValue) → ChangesOnly n old mid → ChangesOnly n mid new
    → ChangesOnly n old new
then_only n old mid new a b = record {
  others = λ k run_state ne c. b.others k run_state ne (a.others k run_state ne c);
  sent = λ d c. b.sent d (a.sent d c);
  genesis = b.genesis ∙ a.genesis;
}

-- ---- messages that leave the learner

seeing_learner : (b : BallotValue) (node : NodeValue) → (seeing b node).learner ≡ node.learner
seeing_learner b node = by_test (is_term_below b node.leader.term)
  where
    by_test : (t : Bool)
        → (cond t (without_term (with_round b node)) (with_round b node)).learner ≡ node.learner
    by_test true = refl
    by_test false = refl

-- a rejection, a wish and a leader's notice
abbrev pub IsAboutProgress : NodeMessage → Type 0
IsAboutProgress (kinds.Nack k) = Unit {0}
IsAboutProgress (kinds.Want k) = Unit {0}
IsAboutProgress (kinds.Lead b k) = Unit {0}
IsAboutProgress _ = ⊥

lead_learner : (old new : NodeValue) (from : ℕ) (b : BallotValue) (theirs : ℕ) (out : OutboxValue)
    → HandlesLead old from b theirs new out → new.learner ≡ old.learner
lead_learner old new from b theirs out (inl refused) =
    ap (λ (node : NodeValue). node.learner) refused.1 ∙ seeing_learner b old
lead_learner old new from b theirs out (inr followed) =
    ap (λ (node : NodeValue). node.learner) followed.1 ∙ seeing_learner b old

handled_learner : (m : Meaning) (IsText : List ℕ → Type 0) (old new : NodeValue) (from : ℕ) (x : NodeMessage)
    (out : OutboxValue) → IsAboutProgress x → HandlesNode m IsText old from x new out → new.learner ≡ old.learner
handled_learner m IsText old new from (kinds.Nack k) out is h = ap (λ (node : NodeValue). node.learner) h.0
    ∙ seeing_learner k.promised (seeing k.ballot old) ∙ seeing_learner k.ballot old
handled_learner m IsText old new from (kinds.Want k) out is h = ap (λ (node : NodeValue). node.learner) h.0
handled_learner m IsText old new from (kinds.Lead b k) out is h = lead_learner old new from b k out h
handled_learner m IsText old new from (kinds.Prepare b k) out is h = absurd is
handled_learner m IsText old new from (kinds.Promise k) out is h = absurd is
handled_learner m IsText old new from (kinds.Accept k) out is h = absurd is
handled_learner m IsText old new from (kinds.Accepted k) out is h = absurd is
handled_learner m IsText old new from (kinds.Decided k) out is h = absurd is
handled_learner m IsText old new from (kinds.Part k) out is h = absurd is
handled_learner m IsText old new from (kinds.Answer k) out is h = absurd is
handled_learner m IsText old new from (kinds.Elsewhere k) out is h = absurd is
handled_learner m IsText old new from (kinds.Passed k) out is h = absurd is

-- a node that takes one of these keeps its learner
pub taken_learner : (m : Meaning) (IsText : List ℕ → Type 0) (old new : NodeValue) (from : ℕ) (x : NodeMessage)
    (out : OutboxValue) → IsAboutProgress x → Takes m IsText old (content.Node from x) new out
    → new.learner ≡ old.learner
taken_learner m IsText old new from x out is k =
    let h : Handled m IsText old (content.Node from x) new out = handled m IsText old (content.Node from x) new out k in
    same_learner m IsText old (content.Node from x) new out h
    ∙ handled_learner m IsText old h.mid from x h.first is h.handles

-- ---- a step of a node of a world

module _ (m : Meaning) (IsText : List ℕ → Type 0) (law : EventIsStep m IsText) where
  step_only : (n : ℕ) (i : Input) (old new : WorldState ReplicaValue) → TakesStep m IsText old n i new
      → ChangesOnly n old new
  step_only n i old new s = record {
    others = s.others;
    sent = still old new (batch_of n s.out.envelopes) s.sent;
    genesis = s.genesis;
  }

  -- a delivery changes nobody but whom it reaches
  pub delivery_only : (n : ℕ) (x : Content) (old new : WorldState ReplicaValue) → Hears m IsText n x old new
      → ChangesOnly n old new
  delivery_only n x old new k = step_only n (Heard k.datagram.bytes) old new
      (law old new (event.Deliver k.place) n (Heard k.datagram.bytes) k.goes (k.datagram, k.stands, k.bound, refl))

  -- the event is a step of this replica
  pub record StepsFrom (n : ℕ) (i : Input) (r : ReplicaValue) (old new : WorldState ReplicaValue) : Type 0 where
    pub step : TakesStep m IsText old n i new
    pub found : IsFound r step.start
    pub header : step.start.header ≡ header_of old.genesis n
    pub only : ChangesOnly n old new
    pub says : (k : ℕ) (y : NodeMessage) → Contains step.out.envelopes (envelope_to step.start y k)
        → HasSentTo new n k y

  pub steps_from : (n : ℕ) (i : Input) (e : Event) (r : ReplicaValue) (old new : WorldState ReplicaValue)
      → IsUpAs old n r
      → GoesWell m IsText old e new → Gives old e n i → StepsFrom n i r old new
  steps_from n i e r old new up goes gives = by_step (law old new e n i goes gives)
    where
      by_step : TakesStep m IsText old n i new → StepsFrom n i r old new
      by_step s =
          let found : IsFound r s.start = subst (λ (q : ReplicaValue). IsFound q s.start)
          (one_replica m IsText old goes.before n s.before r s.was up) s.found in
          let header : s.start.header ≡ header_of old.genesis n =
          found_has r s.start found (λ node. node.header ≡ header_of old.genesis n) (λ e. e)
          (has_header m IsText old goes.before n r up) in record {
            step = s;
            found = found;
            header = header;
            only = step_only n i old new s;
            says = λ k y c. sent_as old new n k s.start y header s.genesis
                (among n s.out.envelopes old new s.sent (envelope_to s.start y k) c);
          }

  -- a datagram that is delivered to the node
  pub record TakesFrom (n : ℕ) (x : Content) (r : ReplicaValue) (old new : WorldState ReplicaValue) : Type 0 where
    pub bytes : List ℕ
    pub steps : StepsFrom n (Heard bytes) r old new
    pub takes : Takes m IsText steps.step.start x steps.step.last steps.step.out

  pub takes_from : (n : ℕ) (x : Content) (r : ReplicaValue) (old new : WorldState ReplicaValue) → IsUpAs old n r
      → Hears m IsText n x old new → TakesFrom n x r old new
  takes_from n x r old new up hears = by_steps (steps_from n (Heard hears.datagram.bytes) (event.Deliver hears.place) r
      old new up hears.goes (hears.datagram, hears.stands, hears.bound, refl))
    where
      by_steps : StepsFrom n (Heard hears.datagram.bytes) r old new → TakesFrom n x r old new
      by_steps s = record {
        bytes = hears.datagram.bytes;
        steps = s;
        takes = record {
          bytes = hears.datagram.bytes;
          spells = subst (λ (h : HeaderValue). Spells (record { cluster = h.cluster; content = x })
              hears.datagram.bytes) (sym s.header) hears.spelled;
          step = s.step.steps;
        };
      }
