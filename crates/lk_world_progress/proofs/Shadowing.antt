-- What the nodes of a world would be if no store were rebased. They take what is delivered in the same way, and send
-- the same.
use Rattle.std.proofs.Common.{◌≡◌, ◌∙◌, inl, inr, ℕ, ◌≤◌, ◌++◌, List, [], ◌∷◌, None, Contains}
use Rattle.std.proofs.Common.{refl, ap, sym, subst, arith, append_assoc, append-nil}
use Rattle.lk_messages.specs.declared.message.Content.{Content}
use Rattle.lk_agreement_laws.proofs.Histories.{contains_more}
use Rattle.lk_agreement_laws.specs.Datagrams.{Datagram}
use Rattle.lk_state.specs.Meanings.{Meaning}
use Rattle.lk_learner.specs.Learners.{alpha, executed}
use Rattle.lk_node_interface.specs.Envelopes.{EnvelopeValue, batch_of}
use Rattle.lk_node_interface.specs.Outboxes.{OutboxValue}
use Rattle.lk_node.specs.NodeValue.{NodeValue}
use Rattle.lk_node.specs.Reminding.{Ticks}
use Rattle.lk_node.specs.Waiting.{ticked}
use Rattle.lk_progress.specs.Hearing.{Takes, TakesEach}
use Rattle.lk_rebases.proofs.Rebases.{begun_learner, fits_itself, fits_snapshot, idle_begins, taken, taken_learner}
use Rattle.lk_rebases.proofs.Rebases.{ticked_other}
use Rattle.lk_rebases.specs.Pasts.{Fits, IsPlain, IsStatic, Past, past_of, with_past}
use Rattle.lk_replica.specs.ReplicaValue.{ReplicaValue}
use Rattle.lk_sim.specs.WorldStates.{WorldState}
use Rattle.lk_sim_nodes.specs.declared.sim_node.RunState.{RunState}
use Rattle.lk_world_progress.proofs.Delivering.{HeardIt, TakesFrom, batch-append, found_as, heard_from, left_as}
use Rattle.lk_world_progress.proofs.Stepping.{found_is}
use Rattle.lk_world_progress.specs.Delivering.{HearsInTurn, InstallsNothing}
use Rattle.lk_world_progress.specs.Stepping.{Holds, IsFound, IsUpAs, Lives}

-- ---- shadows

-- the first node is what the second would be with an earlier past
pub record Shadows (shadow node : NodeValue) : Type 0 where
  pub past : Past
  pub fits : Fits past node
  pub is : shadow ≡ with_past past node

pub shadows_itself : (node : NodeValue) → 1 ≤ alpha node.learner
    → node.acceptor.state.snapshot_position ≤ executed node.learner → Shadows node node
shadows_itself node some own = record { past = past_of node; fits = fits_itself node some own; is = refl }

pub shadows_found : (shadow : NodeValue) (r : ReplicaValue) (start : NodeValue) → IsFound r start
    → Shadows shadow r.node
    → Shadows shadow start
shadows_found shadow r start found s = elim (found_is r start found) [
  | inl e ↦ subst (λ (node : NodeValue). Shadows shadow node) (sym e) s
  | inr e ↦ subst (λ (node : NodeValue). Shadows shadow node) (sym e)
      (record { past = s.past; fits = fits_snapshot s.past r.node s.fits; is = s.is })
]

pub shadow_header : (shadow node : NodeValue) → Shadows shadow node → shadow.header ≡ node.header
shadow_header shadow node s = ap (λ (n : NodeValue). n.header) s.is

-- ---- the first tick

pub record ShadowTicks (old new : NodeValue) (out : OutboxValue) : Type 0 where
  pub shadow : NodeValue
  pub shadows : Shadows shadow new
  pub ticks : Ticks old shadow out
  pub learner : shadow.learner ≡ old.learner

pub shadow_ticks : (node start new : NodeValue) (out : OutboxValue) → Shadows node start → node.leader.term ≡ None
    → Ticks start new out → ShadowTicks node new out
shadow_ticks node start new out s idle k =
    let was_idle : start.leader.term ≡ None = sym (ap (λ (n : NodeValue). n.leader.term) s.is) ∙ idle in
    let other = ticked_other s.past start new out s.fits was_idle k in
    let ticks : Ticks node (with_past s.past new) out =
    subst (λ (n : NodeValue). Ticks n (with_past s.past new) out) (sym s.is) other.1 in
    record {
      shadow = with_past s.past new;
      shadows = record { past = s.past; fits = other.0; is = refl };
      ticks = ticks;
      learner = begun_learner (ticked node) (with_past s.past new) out (idle_begins node _ out idle ticks);
    }

module _ (m : Meaning) (IsText : List ℕ → Type 0) where
  -- ---- a message

  -- the shadow takes the message too, and is the shadow of the node after it
  pub record ShadowTakes (shadow : NodeValue) (x : Content) (after : NodeValue) (out : OutboxValue) : Type 0 where
    pub shadow_after : NodeValue
    pub shadows : Shadows shadow_after after
    pub takes : Takes m IsText shadow x shadow_after out

  shadow_takes : (shadow start after : NodeValue) (x : Content) (out : OutboxValue) → Shadows shadow start
      → IsPlain (executed shadow.learner) x → Takes m IsText start x after out → ShadowTakes shadow x after out
  shadow_takes shadow start after x out s plain k =
      let taken_by = taken m IsText s.past x start after out s.fits
      (subst (λ (node : NodeValue). IsPlain (executed node.learner) x) s.is plain) k in
      record {
        shadow_after = with_past taken_by.0 after;
        shadows = record { past = taken_by.0; fits = taken_by.1; is = refl };
        takes = subst (λ (node : NodeValue). Takes m IsText node x (with_past taken_by.0 after) out) (sym s.is)
            taken_by.2;
      }

  pub shadow_hears : (shadow : NodeValue) (n : ℕ) (x : Content) (r : ReplicaValue) (new : WorldState ReplicaValue)
      (h : HeardIt m IsText n x r new) → Shadows shadow r.node → IsPlain (executed shadow.learner) x
      → ShadowTakes shadow x h.after.node h.out
  shadow_hears shadow n x r new h s plain =
      shadow_takes shadow h.start h.after.node x h.out (shadows_found shadow r h.start h.found s) plain h.takes

  pub shadow_from : (shadow : NodeValue) (n : ℕ) (x : Content) (old new : WorldState ReplicaValue) (r : ReplicaValue)
      → Holds m IsText old → IsUpAs old n r → InstallsNothing x → (s : TakesFrom m IsText n x old new)
      → Shadows shadow r.node → IsPlain (executed shadow.learner) x → ShadowTakes shadow x s.after.node s.out
  shadow_from shadow n x old new r holds up nothing s behind plain =
      shadow_takes shadow s.start s.after.node x s.out
      (shadows_found shadow r s.start (found_as m IsText n x old new r holds up s) behind) plain
      (left_as m IsText n x old new nothing s)

  -- ---- deliveries to one node

  -- what moves nothing on
  pub each_learner : (xs : List Content) (old new : NodeValue) (envelopes : List EnvelopeValue)
      → ((x : Content) → Contains xs x → IsStatic x) → TakesEach m IsText xs old new envelopes
      → new.learner ≡ old.learner
  each_learner [] old new envelopes static takes = ap (λ (n : NodeValue). n.learner) takes.0
  each_learner (x ∷ xs) old new envelopes static takes =
      each_learner xs takes.0 new takes.2 (λ y c. static y (contains_more x xs y c)) takes.4
      ∙ taken_learner m IsText x old takes.0 takes.1 (static x (0, omega arith, refl)) takes.3

  pub record ShadowTakesAll (n : ℕ) (xs : List Content) (shadow : NodeValue) (old new : WorldState ReplicaValue)
      : Type 0 where
    pub after : ReplicaValue
    pub is : IsUpAs new n after
    pub shadow_after : NodeValue
    pub shadows : Shadows shadow_after after.node
    pub envelopes : List EnvelopeValue
    pub takes : TakesEach m IsText xs shadow shadow_after envelopes
    pub sent : new.sent ≡ old.sent ++ batch_of n envelopes
    pub holds : Holds m IsText new
    pub others : (k : ℕ) (run_state : RunState ReplicaValue) → (k ≡ n → ⊥) → Lives old k run_state
        → Lives new k run_state
    pub genesis : new.genesis ≡ old.genesis

  module _ (n : ℕ) (x : Content) (xs : List Content) (shadow : NodeValue) (old mid new : WorldState ReplicaValue)
      (one : TakesFrom m IsText n x old mid)
      (first : ShadowTakes shadow x one.after.node one.out)
      (rest : ShadowTakesAll n xs first.shadow_after mid new) where
    took_both : ShadowTakesAll n (x ∷ xs) shadow old new
    took_both = record {
      after = rest.after;
      is = rest.is;
      shadow_after = rest.shadow_after;
      shadows = rest.shadows;
      envelopes = one.out.envelopes ++ rest.envelopes;
      takes = (first.shadow_after, one.out, rest.envelopes, first.takes, rest.takes, refl);
      sent = rest.sent ∙ ap (λ (l : List Datagram). l ++ batch_of n rest.envelopes) one.sent
          ∙ append_assoc old.sent (batch_of n one.out.envelopes) (batch_of n rest.envelopes)
          ∙ ap (λ (l : List Datagram). old.sent ++ l) (sym (batch-append n one.out.envelopes rest.envelopes));
      holds = rest.holds;
      others = λ k run_state ne c. rest.others k run_state ne (one.others k run_state ne c);
      genesis = rest.genesis ∙ one.genesis;
    }

  pub shadow_in_turn : (n : ℕ) (xs : List Content) (shadow : NodeValue) (old new : WorldState ReplicaValue)
      (before : ReplicaValue) → Holds m IsText old → IsUpAs old n before → Shadows shadow before.node
      → ((x : Content) → Contains xs x → InstallsNothing x) → ((x : Content) → Contains xs x → (e : ℕ) → IsPlain e x)
      → HearsInTurn m IsText n xs old new → ShadowTakesAll n xs shadow old new
  shadow_in_turn n [] shadow old new before holds up s each plain same = record {
    after = before;
    is = subst (λ (w : WorldState ReplicaValue). IsUpAs w n before) (sym same) up;
    shadow_after = shadow;
    shadows = s;
    envelopes = [];
    takes = (refl, refl);
    sent = ap (λ (w : WorldState ReplicaValue). w.sent) same ∙ sym (append-nil old.sent);
    holds = subst (λ (w : WorldState ReplicaValue). Holds m IsText w) (sym same) holds;
    others = λ k run_state ne c. subst (λ (w : WorldState ReplicaValue). Lives w k run_state) (sym same) c;
    genesis = ap (λ (w : WorldState ReplicaValue). w.genesis) same;
  }
  shadow_in_turn n (x ∷ xs) shadow old new before holds up s each plain d =
      let here : Contains (x ∷ xs) x = (0, omega arith, refl) in
      let one : TakesFrom m IsText n x old d.0 = heard_from m IsText n x old d.0 d.1 in
      let first : ShadowTakes shadow x one.after.node one.out =
      shadow_from shadow n x old d.0 before holds up (each x here) one s (plain x here (executed shadow.learner)) in
      took_both n x xs shadow old d.0 new one first
      (shadow_in_turn n xs first.shadow_after d.0 new one.after d.1.goes.after one.is first.shadows
      (λ y c. each y (contains_more x xs y c)) (λ y c. plain y (contains_more x xs y c)) d.2)
