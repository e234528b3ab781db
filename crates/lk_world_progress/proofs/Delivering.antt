-- A node of a world takes what is delivered to it, and what it sends joins the datagrams.
use Rattle.std.proofs.Common.{◌≡◌, ◌∙◌, inl, inr, ℕ, ◌++◌, List, [], ◌∷◌, Contains}
use Rattle.std.proofs.Common.{refl, ap, sym, subst, arith, append_assoc, append-nil}
use Rattle.std.proofs.lemmas.List.Elements.{Contains-append_left, Contains-append_right}
use Rattle.lk_messages.specs.Grammar.{Spells}
use Rattle.lk_messages.specs.declared.message.Content.{Content}
use Rattle.lk_agreement_laws.proofs.Histories.{cons_cases, contains_more}
use Rattle.lk_agreement_laws.specs.Datagrams.{Datagram}
use Rattle.lk_state.specs.Meanings.{Meaning}
use Rattle.lk_store_format.specs.Values.{HeaderValue}
use Rattle.lk_node_interface.specs.Envelopes.{EnvelopeValue, batch_of, datagram_of}
use Rattle.lk_node_interface.specs.Outboxes.{OutboxValue}
use Rattle.lk_node_interface.specs.declared.input.Input.TheVariants.{Datagram as Heard}
use Rattle.lk_node.proofs.Nodes.{map_has}
use Rattle.lk_node.specs.NodeValue.{NodeValue}
use Rattle.lk_progress.specs.Hearing.{Takes}
use Rattle.lk_replica.specs.ReplicaValue.{ReplicaValue}
use Rattle.lk_sim.specs.WorldStates.{WorldState}
use Rattle.lk_sim.specs.declared.event.Event.TheVariants as event
use Rattle.lk_sim_nodes.specs.declared.sim_node.RunState.{RunState}
use Rattle.lk_sim_nodes.specs.declared.sim_node.RunState.TheVariants.{Up}
use Rattle.lk_world_progress.proofs.Rebasing.{taken_rests}
use Rattle.lk_world_progress.proofs.Stepping.{event_steps, found_header, has_header, one_replica}
use Rattle.lk_world_progress.specs.Delivering.{AreDistinct, DeliveriesAreTaken, Delivers, DeliversInTurn, Hears}
use Rattle.lk_world_progress.specs.Delivering.{HearsEach, InstallsNothing, TakesContents}
use Rattle.lk_world_progress.specs.Stepping.{Holds, IsFound, IsLeft, IsUpAs, Lives, TakesStep}

pub batch-append : (n : ℕ) (xs ys : List EnvelopeValue) → batch_of n (xs ++ ys) ≡ batch_of n xs ++ batch_of n ys
batch-append n [] ys = refl
batch-append n (x ∷ xs) ys = ap (λ (l : List Datagram). datagram_of n x ∷ l) (batch-append n xs ys)

-- what joined the datagrams is among them
pub among : (n : ℕ) (envelopes : List EnvelopeValue) (old new : WorldState ReplicaValue)
    → new.sent ≡ old.sent ++ batch_of n envelopes → (l : EnvelopeValue) → Contains envelopes l
    → Contains new.sent (datagram_of n l)
among n envelopes old new e l c = subst (λ (ds : List Datagram). Contains ds (datagram_of n l)) (sym e)
    (Contains-append_right old.sent (batch_of n envelopes) (datagram_of n l) (map_has (datagram_of n) envelopes l c))

pub still : (old new : WorldState ReplicaValue) (more : List Datagram) → new.sent ≡ old.sent ++ more → (d : Datagram)
    → Contains old.sent d → Contains new.sent d
still old new more e d c =
    subst (λ (ds : List Datagram). Contains ds d) (sym e) (Contains-append_left old.sent more d c)

module _ (m : Meaning) (IsText : List ℕ → Type 0) where
  -- ---- one delivery

  -- the node took the content, as its step found it
  pub record TakesFrom (n : ℕ) (x : Content) (old new : WorldState ReplicaValue) : Type 0 where
    pub before : ReplicaValue
    pub was : IsUpAs old n before
    pub start : NodeValue
    pub found : IsFound before start
    pub last : NodeValue
    pub out : OutboxValue
    pub takes : Takes m IsText start x last out
    pub after : ReplicaValue
    pub left : IsLeft out last after
    pub is : IsUpAs new n after
    pub sent : new.sent ≡ old.sent ++ batch_of n out.envelopes
    pub others : (k : ℕ) (run_state : RunState ReplicaValue) → (k ≡ n → ⊥) → Lives old k run_state
        → Lives new k run_state
    pub genesis : new.genesis ≡ old.genesis

  module _ (n : ℕ) (x : Content) (old new : WorldState ReplicaValue) (k : Hears m IsText n x old new) where
    abbrev bytes : List ℕ
    bytes = k.datagram.bytes

    module _ (s : TakesStep m IsText old n (Heard bytes) new) where
      cluster_is : s.start.header.cluster ≡ old.genesis.cluster
      cluster_is = ap (λ (h : HeaderValue). h.cluster)
          (found_header s.before s.start s.found ∙ has_header m IsText old k.goes.before n s.before s.was)

      from_step : TakesFrom n x old new
      from_step = record {
        before = s.before;
        was = s.was;
        start = s.start;
        found = s.found;
        last = s.last;
        out = s.out;
        takes = record {
          bytes = bytes;
          spells = subst (λ (c : ℕ). Spells (record { cluster = c; content = x }) bytes) (sym cluster_is) k.spelled;
          step = s.steps;
        };
        after = s.after;
        left = s.left;
        is = s.is;
        sent = s.sent;
        others = s.others;
        genesis = s.genesis;
      }

    pub heard_from : TakesFrom n x old new
    heard_from = from_step (event_steps m IsText old new (event.Deliver k.place) n (Heard bytes) k.goes
        (k.datagram, k.stands, k.bound, refl))

  -- the same where no rebase is due
  pub record TakesContent (n : ℕ) (x : Content) (old new : WorldState ReplicaValue) : Type 0 where
    pub before : ReplicaValue
    pub was : IsUpAs old n before
    pub after : ReplicaValue
    pub is : IsUpAs new n after
    pub out : OutboxValue
    pub takes : Takes m IsText before.node x after.node out
    pub sent : new.sent ≡ old.sent ++ batch_of n out.envelopes
    pub others : (k : ℕ) (run_state : RunState ReplicaValue) → (k ≡ n → ⊥) → Lives old k run_state
        → Lives new k run_state
    pub genesis : new.genesis ≡ old.genesis

  module _ (n : ℕ) (x : Content) (old new : WorldState ReplicaValue) (nothing : InstallsNothing x)
      (k : Delivers m IsText n x old new) where
    rested : TakesFrom n x old new → TakesContent n x old new
    rested s = record {
      before = s.before;
      was = s.was;
      after = s.after;
      is = s.is;
      out = s.out;
      takes = subst (λ (node : NodeValue). Takes m IsText node x s.after.node s.out)
          (s.found.rests (k.rested s.before s.was))
          (subst (λ (node : NodeValue). Takes m IsText s.start x node s.out)
          (sym (s.left.rests (taken_rests m IsText s.start s.last x s.out nothing s.takes))) s.takes);
      sent = s.sent;
      others = s.others;
      genesis = s.genesis;
    }

    pub delivered : TakesContent n x old new
    delivered = rested (heard_from n x old new k.hears)

  -- ---- deliveries to one node

  module _ (n : ℕ) (x : Content) (xs : List Content) (old mid new : WorldState ReplicaValue) (before : ReplicaValue)
      (holds : Holds m IsText old) (up : IsUpAs old n before) (one : TakesContent n x old mid)
      (rest : TakesContents m IsText n xs one.after mid new) where
    took_both : TakesContents m IsText n (x ∷ xs) before old new
    took_both = record {
      after = rest.after;
      is = rest.is;
      envelopes = one.out.envelopes ++ rest.envelopes;
      takes = (
        one.after.node,
        one.out,
        rest.envelopes,
        subst (λ (r : ReplicaValue). Takes m IsText r.node x one.after.node one.out)
            (one_replica m IsText old holds n one.before before one.was up) one.takes,
        rest.takes,
        refl,
      );
      sent = rest.sent ∙ ap (λ (l : List Datagram). l ++ batch_of n rest.envelopes) one.sent
          ∙ append_assoc old.sent (batch_of n one.out.envelopes) (batch_of n rest.envelopes)
          ∙ ap (λ (l : List Datagram). old.sent ++ l) (sym (batch-append n one.out.envelopes rest.envelopes));
      others = λ k run_state ne c. rest.others k run_state ne (one.others k run_state ne c);
      genesis = rest.genesis ∙ one.genesis;
    }

  pub in_turn : (n : ℕ) (xs : List Content) (old new : WorldState ReplicaValue) (before : ReplicaValue)
      → Holds m IsText old → IsUpAs old n before → ((x : Content) → Contains xs x → InstallsNothing x)
      → DeliversInTurn m IsText n xs old new → TakesContents m IsText n xs before old new
  in_turn n [] old new before holds up each same = record {
    after = before;
    is = subst (λ (w : WorldState ReplicaValue). IsUpAs w n before) (sym same) up;
    envelopes = [];
    takes = (refl, refl);
    sent = ap (λ (w : WorldState ReplicaValue). w.sent) same ∙ sym (append-nil old.sent);
    others = λ k run_state ne c. subst (λ (w : WorldState ReplicaValue). Lives w k run_state) (sym same) c;
    genesis = ap (λ (w : WorldState ReplicaValue). w.genesis) same;
  }
  in_turn n (x ∷ xs) old new before holds up each d =
      let one : TakesContent n x old d.0 = delivered n x old d.0 (each x (0, omega arith, refl)) d.1 in
      took_both n x xs old d.0 new before holds up one
      (in_turn n xs d.0 new one.after d.1.hears.goes.after one.is (λ y c. each y (contains_more x xs y c)) d.2)

  pub deliveries_taken : DeliveriesAreTaken m IsText
  deliveries_taken old new n xs before holds up each d = in_turn n xs old new before holds up each d

  -- ---- one datagram, whether or not a rebase is due

  -- the node took the content, as its step found it, and is as the step left it
  pub record HeardIt (n : ℕ) (x : Content) (before : ReplicaValue) (new : WorldState ReplicaValue) : Type 0 where
    pub start : NodeValue
    pub found : IsFound before start
    pub after : ReplicaValue
    pub is : IsUpAs new n after
    pub out : OutboxValue
    pub takes : Takes m IsText start x after.node out
    pub sent : (l : EnvelopeValue) → Contains out.envelopes l → Contains new.sent (datagram_of n l)

  pub left_as : (n : ℕ) (x : Content) (old new : WorldState ReplicaValue) → InstallsNothing x
      → (s : TakesFrom n x old new) → Takes m IsText s.start x s.after.node s.out
  left_as n x old new nothing s = subst (λ (node : NodeValue). Takes m IsText s.start x node s.out)
      (sym (s.left.rests (taken_rests m IsText s.start s.last x s.out nothing s.takes))) s.takes

  pub found_as : (n : ℕ) (x : Content) (old new : WorldState ReplicaValue) (r : ReplicaValue) → Holds m IsText old
      → IsUpAs old n r → (s : TakesFrom n x old new) → IsFound r s.start
  found_as n x old new r holds up s =
      subst (λ (q : ReplicaValue). IsFound q s.start) (one_replica m IsText old holds n s.before r s.was up) s.found

  pub heard_it : (n : ℕ) (x : Content) (old new : WorldState ReplicaValue) (r : ReplicaValue) → InstallsNothing x
      → IsUpAs old n r → Hears m IsText n x old new → HeardIt n x r new
  heard_it n x old new r nothing up h =
      let s : TakesFrom n x old new = heard_from n x old new h in
      record {
        start = s.start;
        found = found_as n x old new r h.goes.before up s;
        after = s.after;
        is = s.is;
        out = s.out;
        takes = left_as n x old new nothing s;
        sent = among n s.out.envelopes old new s.sent;
      }

  -- ---- the same datagram to several nodes

  pub record EachHeard (x : Content) (ns : List ℕ) (old new : WorldState ReplicaValue) : Type 0 where
    pub holds : Holds m IsText new
    pub heard : (n : ℕ) (r : ReplicaValue) → Contains ns n → IsUpAs old n r → HeardIt n x r new
    pub grows : (d : Datagram) → Contains old.sent d → Contains new.sent d
    pub others : (k : ℕ) (run_state : RunState ReplicaValue) → (Contains ns k → ⊥) → Lives old k run_state
        → Lives new k run_state
    pub genesis : new.genesis ≡ old.genesis

  module _ (n : ℕ) (x : Content) (ns : List ℕ) (old mid new : WorldState ReplicaValue) (holds : Holds m IsText old)
      (nothing : InstallsNothing x) (distinct : AreDistinct (n ∷ ns)) (one : TakesFrom n x old mid)
      (rest : EachHeard x ns mid new) where
    here : (r : ReplicaValue) → IsUpAs old n r → HeardIt n x r new
    here r up = record {
      start = one.start;
      found = found_as n x old mid r holds up one;
      after = one.after;
      is = rest.others n (Up one.after) distinct.0 one.is;
      out = one.out;
      takes = left_as n x old mid nothing one;
      sent = λ l c. rest.grows (datagram_of n l) (among n one.out.envelopes old mid one.sent l c);
    }

    all_heard : EachHeard x (n ∷ ns) old new
    all_heard = record {
      holds = rest.holds;
      heard = λ k r c up. elim (cons_cases n ns k c) [
        | inl is ↦ subst (λ (j : ℕ). HeardIt j x r new) is
            (here r (subst (λ (j : ℕ). IsUpAs old j r) (sym is) up))
        | inr later ↦ rest.heard k r later
            (one.others k (Up r) (λ e. distinct.0 (subst (λ (j : ℕ). Contains ns j) e later)) up)
      ];
      grows = λ e c. rest.grows e (still old mid (batch_of n one.out.envelopes) one.sent e c);
      others = λ k run_state no c. rest.others k run_state (λ later. no (contains_more n ns k later))
          (one.others k run_state (λ e. no (0, omega arith, sym e)) c);
      genesis = rest.genesis ∙ one.genesis;
    }

  pub each_heard : (x : Content) (ns : List ℕ) (old new : WorldState ReplicaValue) → Holds m IsText old
      → InstallsNothing x
      → AreDistinct ns → HearsEach m IsText x ns old new → EachHeard x ns old new
  each_heard x [] old new holds nothing distinct same = record {
    holds = subst (λ (w : WorldState ReplicaValue). Holds m IsText w) (sym same) holds;
    heard = λ n r c up. absurd (omega (arith, c.1));
    grows = λ d c. subst (λ (w : WorldState ReplicaValue). Contains w.sent d) (sym same) c;
    others = λ k run_state no c. subst (λ (w : WorldState ReplicaValue). Lives w k run_state) (sym same) c;
    genesis = ap (λ (w : WorldState ReplicaValue). w.genesis) same;
  }
  each_heard x (n ∷ ns) old new holds nothing distinct d =
      all_heard n x ns old d.0 new holds nothing distinct (heard_from n x old d.0 d.1)
      (each_heard x ns d.0 new d.1.goes.after nothing distinct.1 d.2)
