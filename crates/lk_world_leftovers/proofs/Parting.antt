-- A node of a candidate's majority is sent parts of a snapshot, and all of them may contend as before.
use Rattle.std.proofs.Common.{◌≡◌, ◌∙◌, inl, inr, ℕ, ◌+◌, ◌<◌, ◌≤◌, eqb, List, [], Some, None, length}
use Rattle.std.proofs.Common.{Contains, Option, take, refl, ap, sym, subst, arith}
use Rattle.std.proofs.lemmas.Bool.{cases_Bool, eqb-false, eqb-true}
use Rattle.std.proofs.lemmas.Option.{slice_get-get_or}
use Rattle.std.specs.Prelude.{slice_get}
use Rattle.lk_types.specs.declared.vote.Vote.{Vote}
use Rattle.lk_messages.specs.Values.{PartValue, WantValue}
use Rattle.lk_messages.specs.declared.message.Content.TheVariants as content
use Rattle.lk_messages.specs.declared.message.NodeMessage.TheVariants as kinds
use Rattle.lk_agreement_laws.proofs.Histories.{cons_cases}
use Rattle.lk_state.specs.Meanings.{Meaning}
use Rattle.lk_state.specs.States.{WholeValue}
use Rattle.lk_acceptor.specs.AcceptorValue.{AcceptorValue}
use Rattle.lk_learner.specs.Gathering.{starts_text}
use Rattle.lk_learner.specs.Learners.{GatheredValue, LearnerValue, Pair, alpha, executed, gathered_bytes, wanted}
use Rattle.lk_learner.specs.Parts.{part_of}
use Rattle.lk_node_interface.specs.Outboxes.{OutboxValue}
use Rattle.lk_node.specs.Nearness.{AreNear}
use Rattle.lk_node.specs.NodeValue.{NodeValue}
use Rattle.lk_progress.specs.Gathering.{HasSoFar}
use Rattle.lk_progress.specs.Hearing.{Takes}
use Rattle.lk_rebases.proofs.Rebases.{Handled, handled}
use Rattle.lk_replica.specs.ReplicaValue.{ReplicaValue}
use Rattle.lk_sim.specs.WorldStates.{WorldState}
use Rattle.lk_sim_nodes.specs.declared.sim_node.RunState.TheVariants.{Up}
use Rattle.lk_world_feeding.proofs.Gathering.{TookParts, all_taken, parts_hold}
use Rattle.lk_world_feeding.proofs.Knowing.{may_serve}
use Rattle.lk_world_feeding.proofs.Taking.{taken_learner}
use Rattle.lk_world_feeding.specs.Gathering.{GainsParts, IsSentParts, NeedsSnapshot, PartsFeed, count_of, position_of}
use Rattle.lk_world_feeding.specs.Gathering.{text_of}
use Rattle.lk_world_progress.proofs.Balloting.{found_has}
use Rattle.lk_world_progress.proofs.Delivering.{HeardIt, TakesFrom, heard_from, heard_it}
use Rattle.lk_world_progress.proofs.Stepping.{event_steps, one_replica, shown}
use Rattle.lk_world_progress.specs.Stepping.{Holds, IsUpAs}
use Rattle.lk_world_leftovers.proofs.Asking.{want_lasts}
use Rattle.lk_world_leftovers.proofs.Feeding.{idle_proposes}
use Rattle.lk_world_leftovers.proofs.Installing.{Grows, IsIdle, IsResting, all_parts}
use Rattle.lk_world_leftovers.proofs.Lagging.{lag_lasts, nack_idle}
use Rattle.lk_world_leftovers.proofs.Lasting.{Lasts, lasts_found, lasts_itself, lasts_snapshot, lasts_trans}
use Rattle.lk_world_leftovers.proofs.Lasting.{nack_lasts, still_contends}
use Rattle.lk_world_leftovers.specs.Filling.{PairsUpTo}
use Rattle.lk_world_leftovers.specs.Lagging.{MayContend, MayLag}
use Rattle.lk_world_leftovers.specs.Snapshots.{HasTakenParts, PartsAreTaken, TakesParts}

-- without a term who is asked stays the same
want_same : (m : Meaning) (IsText : List ℕ → Type 0) (old new : NodeValue) (from : ℕ) (want : WantValue)
    (out : OutboxValue) → Takes m IsText old (content.Node from (kinds.Want want)) new out
    → old.leader.term ≡ None → new ≡ old
want_same m IsText old new from want out takes idle =
    by_handled (handled m IsText old (content.Node from (kinds.Want want)) new out takes)
  where
    by_handled : Handled m IsText old (content.Node from (kinds.Want want)) new out → new ≡ old
    by_handled h = idle_proposes h.proposes.0 h.mid new h.first out h.proposes.1
        (ap (λ (n : NodeValue). n.leader.term) h.handles.0 ∙ idle) ∙ h.handles.0

-- the first bytes of a text
abbrev first_of : ℕ → List ℕ → ℕ → GatheredValue
first_of position text count = record { position = position; total = length text; bytes = take count text }

module _ (m : Meaning) (IsText : List ℕ → Type 0) (law : PartsFeed m IsText) (last n other : ℕ)
    (old new : WorldState ReplicaValue) (holds : Holds m IsText old) (apart : n ≡ other → ⊥)
    (run : TakesParts m IsText n other old new) (lag : MayLag old last n) (lag_other : MayLag old last other) where
  same_behind : lag.replica ≡ run.behind
  same_behind = one_replica m IsText old holds n lag.replica run.behind lag.up run.up

  of_behind : (P : ReplicaValue → Type 0) → P lag.replica → P run.behind
  of_behind P p = subst P same_behind p

  other_within : executed run.ahead.node.learner ≤ last
  other_within = subst (λ (r : ReplicaValue). executed r.node.learner ≤ last)
      (one_replica m IsText old holds other lag_other.replica run.ahead lag_other.up run.other_up) lag_other.within

  -- its snapshot is executed
  position_low : position_of run.ahead ≤ last
  position_low = let s = may_serve m IsText old holds other run.ahead run.other_up in
      omega (arith, s.reaches, other_within)

  -- ---- the rejection

  told : HeardIt m IsText n (content.Node other (kinds.Nack run.nack)) run.behind run.told
  told = heard_it m IsText n (content.Node other (kinds.Nack run.nack)) old run.told run.behind tt run.up run.hears

  told_from : TakesFrom m IsText n (content.Node other (kinds.Nack run.nack)) old run.told
  told_from = heard_from m IsText n (content.Node other (kinds.Nack run.nack)) old run.told run.hears

  told_lasts : Lasts run.behind.node told.after.node
  told_lasts = lasts_trans run.behind.node told.start told.after.node (lasts_found run.behind told.start told.found)
      (nack_lasts m IsText told.start told.after.node other run.nack told.out told.takes).0

  told_rests : IsResting run.behind.node → IsResting told.after.node
  told_rests r = record {
    idle = record {
      term = nack_idle m IsText told.start told.after.node other run.nack told.out told.takes
          (found_has run.behind told.start told.found (λ node. node.leader.term ≡ None) (λ q. q) r.idle.term);
      waiting = (nack_lasts m IsText told.start told.after.node other run.nack told.out told.takes).1
          (found_has run.behind told.start told.found (λ node. node.leader.waiting ≡ []) (λ q. q) r.idle.waiting);
    };
    known = λ v c. r.known v (subst
        (λ (w : WholeValue). Contains run.behind.node.learner.pairs (w.roster.executed + 1, v)) told_lasts.whole
        (subst (λ (ps : List Pair). Contains ps (executed told.after.node.learner + 1, v)) told_lasts.pairs c));
  }

  -- ---- the other one is asked

  served : HeardIt m IsText other (content.Node n (kinds.Want (wanted run.behind.node.learner))) run.ahead run.served
  served = heard_it m IsText other (content.Node n (kinds.Want (wanted run.behind.node.learner))) run.told run.served
      run.ahead tt (told_from.others other (Up run.ahead) (λ is. apart (sym is)) run.other_up) run.serves.hears

  served_from : TakesFrom m IsText other (content.Node n (kinds.Want (wanted run.behind.node.learner))) run.told
      run.served
  served_from = heard_from m IsText other (content.Node n (kinds.Want (wanted run.behind.node.learner))) run.told
      run.served run.serves.hears

  served_lasts : Lasts run.ahead.node served.after.node
  served_lasts = lasts_trans run.ahead.node served.start served.after.node
      (lasts_found run.ahead served.start served.found)
      (want_lasts m IsText served.start served.after.node n (wanted run.behind.node.learner) served.out served.takes)

  served_idle : IsIdle run.ahead.node → IsIdle served.after.node
  served_idle i =
      let start : IsIdle served.start = found_has run.ahead served.start served.found IsIdle
      (λ q. record { term = q.term; waiting = q.waiting }) i in
      subst IsIdle (sym (want_same m IsText served.start served.after.node n (wanted run.behind.node.learner)
      served.out served.takes start.term)) start

  told_up : IsUpAs run.served n told.after
  told_up = served_from.others n (Up told.after) apart told.is

  -- ---- the parts

  needs : NeedsSnapshot m IsText old n other run.behind run.ahead
  needs = record {
    holds = holds;
    apart = apart;
    up = run.up;
    other_up = run.other_up;
    above = run.above;
    gathered = run.gathered;
  }

  abbrev exchange : IsSentParts m IsText n other run.behind run.ahead old new
  exchange = record {
    asked = run.told;
    comes = inl (inl (run.nack, run.tells, run.hears));
    served = run.served;
    serves = record {
      mid = run.told;
      rests = λ r up. (r, up, refl);
      other_rests = λ r up. (r, up, refl);
      genesis = refl;
      happens = run.serves;
    };
    parts = run.parts;
    are = run.are;
    takes = record {
      mid = run.served;
      rests = λ r up. (r, up, refl);
      other_rests = λ r up. (r, up, refl);
      genesis = refl;
      happens = run.takes;
    };
  }

  gained : GainsParts m IsText n other run.behind run.ahead old new exchange
  gained = law n other run.behind run.ahead old new needs exchange

  told_gathered : told.after.node.learner.gathered ≡ run.behind.node.learner.gathered
  told_gathered = ap (λ (l : LearnerValue). l.gathered)
      (taken_learner m IsText told.start told.after.node other (kinds.Nack run.nack) told.out tt told.takes)
      ∙ found_has run.behind told.start told.found
      (λ node. node.learner.gathered ≡ run.behind.node.learner.gathered) (λ q. q) refl

  behind_then : executed told.after.node.learner < position_of run.ahead
  behind_then = let e : executed told.after.node.learner ≡ executed run.behind.node.learner =
      ap (λ (w : WholeValue). w.roster.executed) told_lasts.whole in omega (arith, e, run.above)

  so_far : HasSoFar told.after.node.learner (position_of run.ahead) (text_of run.ahead) (count_of run.behind)
  so_far = elim run.gathered.1 [
    | inl none ↦ inl (
      ap gathered_bytes none,
      ap (λ (g : Option GatheredValue). starts_text g (part_of (position_of run.ahead) (text_of run.ahead) 0))
          (told_gathered ∙ none),
    )
    | inr has ↦ inr (told_gathered ∙ has)
  ]

  took : TookParts m IsText n other run.parts told.after run.served new
  took = all_taken m IsText (event_steps m IsText) n other (position_of run.ahead) (text_of run.ahead) run.parts
      (count_of run.behind) told.after run.served new gained.some told_up behind_then so_far run.are.each run.takes

  some_alpha : 1 ≤ alpha told.after.node.learner
  some_alpha =
      let told_by = (shown m IsText old holds n run.behind run.up).1.told.tells in
      let same : alpha told.after.node.learner ≡ alpha run.behind.node.learner =
      ap (λ (w : WholeValue). length w.roster.sets) told_lasts.whole in
      omega (arith, told_by.some, told_by.window, same)

  abbrev told_lag : MayLag run.told last n
  told_lag = record {
    replica = told.after;
    up = told.is;
    near = told_lasts.near (of_behind (λ r. AreNear r.node.acceptor r.node.learner) lag.near);
    within = subst (λ (w : WholeValue). w.roster.executed ≤ last) (sym told_lasts.whole)
        (of_behind (λ r. executed r.node.learner ≤ last) lag.within);
    pairs = subst (λ (ps : List Pair). (p : Pair) → Contains ps p → p.0 ≤ last) (sym told_lasts.pairs)
        (of_behind (λ r. PairsUpTo r.node last) lag.pairs);
    votes = λ v c. of_behind (λ r. (y : Vote) → Contains r.node.acceptor.state.votes y → y.position ≤ last) lag.votes v
        (told_lasts.votes v c);
  }

  begun : Grows told.after.node.acceptor (alpha told.after.node.learner) last told.after.node
  begun = record {
    acceptor = refl;
    reaches = record { width_is = refl; within = told_lag.within; pairs = told_lag.pairs };
    gathers = λ g is. elim run.gathered.1 [
      | inl none ↦ absurd (cc (sym (told_gathered ∙ none) ∙ is))
      | inr has ↦
          let one : Some (first_of (position_of run.ahead) (text_of run.ahead) (count_of run.behind)) ≡ Some g =
          sym (told_gathered ∙ has) ∙ is in
          let first : first_of (position_of run.ahead) (text_of run.ahead) (count_of run.behind) ≡ g = cc one in
          let same : position_of run.ahead ≡ g.position = ap (λ (o : GatheredValue). o.position) first in
          omega (arith, same, position_low)
    ];
  }

  low_parts : (p : PartValue) → Contains run.parts p → p.position ≤ last
  low_parts p c =
      let each = run.are.each c.0 p (at c) in
      let is : p.position ≡ position_of run.ahead = ap (λ (q : PartValue). q.position) each.0 in
      omega (arith, is, position_low)
    where
      at : (d : Contains run.parts p) → slice_get run.parts d.0 ≡ Some p
      at d = slice_get-get_or run.parts d.0 p d.1 ∙ ap Some d.2

  grown : Grows told.after.node.acceptor (alpha told.after.node.learner) last took.last
      × (IsResting told.after.node → IsResting took.last)
  grown = all_parts told.after.node.acceptor (alpha told.after.node.learner) last some_alpha m IsText other run.parts
      told.after.node took.last took.envelopes low_parts took.takes begun

  now_executed : executed took.now.node.learner ≡ executed took.last.learner
  now_executed = elim took.left [
    | inl is ↦ ap (λ (node : NodeValue). executed node.learner) is
    | inr is ↦ ap (λ (node : NodeValue). executed node.learner) is
  ]

  new_holds : Holds m IsText new
  new_holds = parts_hold m IsText n other run.parts run.served new gained.some run.takes

  -- it has executed no less
  grows : executed run.behind.node.learner ≤ executed took.now.node.learner
  grows =
      let same : executed gained.gains.0.node.learner ≡ executed took.now.node.learner =
      ap (λ (r : ReplicaValue). executed r.node.learner)
      (one_replica m IsText new new_holds n gained.gains.0 took.now gained.gains.1 took.is) in
      elim gained.gains.2 [
        | inl whole ↦ omega (arith, same, whole.1, run.above)
        | inr more ↦ (let e : executed gained.gains.0.node.learner ≡ executed run.behind.node.learner =
            ap (λ (w : WholeValue). w.roster.executed) more.2 in omega (arith, same, e))
      ]

  last_near : AreNear took.last.acceptor took.last.learner
  last_near = record {
    alpha_is = ap (λ (a : AcceptorValue). a.alpha) grown.0.acceptor ∙ told_lag.near.alpha_is
        ∙ sym grown.0.reaches.width_is;
    snapshot = omega (
      arith,
      ap (λ (a : AcceptorValue). a.state.snapshot_position) grown.0.acceptor,
      told_lag.near.snapshot,
      told_same,
      grows,
      now_executed,
    );
    votes = λ v c.
        let kept = told_lag.near.votes v
        (subst (λ (a : AcceptorValue). Contains a.state.votes v) grown.0.acceptor c) in
        omega (arith, kept, told_same, grows, now_executed, grown.0.reaches.width_is);
  }
    where
      told_same : executed told.after.node.learner ≡ executed run.behind.node.learner
      told_same = ap (λ (w : WholeValue). w.roster.executed) told_lasts.whole

  last_lasts : Lasts took.last took.now.node
  last_lasts = elim took.left [
    | inl is ↦ subst (Lasts took.last) (sym is) (lasts_itself took.last)
    | inr is ↦ subst (Lasts took.last) (sym is) (lasts_snapshot took.last)
  ]

  abbrev now_lag : MayLag new last n
  now_lag = record {
    replica = took.now;
    up = took.is;
    near = last_lasts.near last_near;
    within = omega (arith, now_executed, grown.0.reaches.within);
    pairs = subst (λ (ps : List Pair). (p : Pair) → Contains ps p → p.0 ≤ last) (sym last_lasts.pairs)
        grown.0.reaches.pairs;
    votes = λ v c. told_lag.votes v (subst (λ (a : AcceptorValue). Contains a.state.votes v) grown.0.acceptor
        (last_lasts.votes v c));
  }

  now_rests : IsResting run.behind.node → IsResting took.now.node
  now_rests r =
      let rests : IsResting took.last = grown.1 (told_rests r) in
      elim took.left [
        | inl is ↦ subst IsResting (sym is) rests
        | inr is ↦ subst IsResting (sym is) (record {
          idle = record { term = rests.idle.term; waiting = rests.idle.waiting };
          known = rests.known;
        })
      ]

  -- ---- the others

  other_up : IsUpAs new other served.after
  other_up = took.only.others other (Up served.after) (λ is. apart (sym is)) served.is

  rest_up : (j : ℕ) (r : ReplicaValue) → (j ≡ n → ⊥) → (j ≡ other → ⊥) → IsUpAs old j r → IsUpAs new j r
  rest_up j r one two up = took.only.others j (Up r) one (served_from.others j (Up r) two
      (told_from.others j (Up r) one up))

-- ---- the candidate takes them

module _ (m : Meaning) (IsText : List ℕ → Type 0) (law : PartsFeed m IsText) (x e n : ℕ) (others : List ℕ) (last : ℕ)
    (old new : WorldState ReplicaValue) (k : MayContend m IsText old x e others last) (there : Contains others n) where
  differs : n ≡ x → ⊥
  differs is = k.distinct.0 (subst (λ (j : ℕ). Contains others j) is there)

  abbrev own_lag : MayLag old last x
  own_lag = record {
    replica = k.candidate.candidate;
    up = k.candidate.up;
    near = k.candidate.near;
    within = omega (arith, k.candidate.reach, k.within);
    pairs = k.candidate.pairs;
    votes = k.candidate.votes;
  }

  own_rests : IsResting k.candidate.candidate.node
  own_rests = record {
    idle = record { term = k.candidate.idle; waiting = k.candidate.waiting };
    known = k.candidate.known;
  }

  not_candidate : (j : ℕ) → Contains others j → j ≡ x → ⊥
  not_candidate j c is = k.distinct.0 (subst (λ (i : ℕ). Contains others i) is c)

  module _ (run : TakesParts m IsText x n old new) where
    apart : x ≡ n → ⊥
    apart is = differs (sym is)

    abbrev now : ReplicaValue
    now = (took m IsText law last x n old new k.candidate.holds apart run own_lag (k.others_lag n there)).now

    abbrev own_now : MayLag new last x
    own_now = now_lag m IsText law last x n old new k.candidate.holds apart run own_lag (k.others_lag n there)

    rests : IsResting now.node
    rests = now_rests m IsText law last x n old new k.candidate.holds apart run own_lag (k.others_lag n there)
        (subst (λ (r : ReplicaValue). IsResting r.node)
        (same_behind m IsText law last x n old new k.candidate.holds apart run own_lag (k.others_lag n there))
        own_rests)

    abbrev voter : ReplicaValue
    voter = (served m IsText law last x n old new k.candidate.holds apart run own_lag (k.others_lag n there)).after

    rest : (j : ℕ) (r : ReplicaValue) → Contains others j → IsUpAs old j r
        → (q : ReplicaValue) × IsUpAs new j q × Lasts r.node q.node
    rest j r c up = elim (cases_Bool (eqb j n)) [
      | inl t ↦
          let is : j ≡ n = eqb-true j n t in
          let same : run.ahead ≡ r = one_replica m IsText old k.candidate.holds n run.ahead r run.other_up
          (subst (λ (i : ℕ). IsUpAs old i r) is up) in (
            voter,
            subst (λ (i : ℕ). IsUpAs new i voter) (sym is)
                (other_up m IsText law last x n old new k.candidate.holds apart run own_lag (k.others_lag n there)),
            subst (λ (y : ReplicaValue). Lasts y.node voter.node) same
                (served_lasts m IsText law last x n old new k.candidate.holds apart run own_lag (k.others_lag n there)),
          )
      | inr t ↦ (
        r,
        rest_up m IsText law last x n old new k.candidate.holds apart run own_lag (k.others_lag n there) j r
            (not_candidate j c) (eqb-false j n t) up,
        lasts_itself r.node,
      )
    ]

    candidate_takes : HasTakenParts m IsText x e x n others last old new run
    candidate_takes =
        let gain = gained m IsText law last x n old new k.candidate.holds apart run own_lag (k.others_lag n there) in
        let more : executed run.behind.node.learner ≤ executed now.node.learner =
        grows m IsText law last x n old new k.candidate.holds apart run own_lag (k.others_lag n there) in
        let led : executed run.behind.node.learner ≡ e =
        subst (λ (r : ReplicaValue). executed r.node.learner ≡ e)
        (same_behind m IsText law last x n old new k.candidate.holds apart run own_lag (k.others_lag n there))
        k.candidate.reach in
        record {
          asks = gain.asks;
          sends = gain.sends;
          gets_on = gain.gains;
          f = executed now.node.learner;
          grows = omega (arith, more, led);
          may = record {
            candidate = record {
              holds = new_holds m IsText law last x n old new k.candidate.holds apart run own_lag
                  (k.others_lag n there);
              candidate = now;
              up = own_now.up;
              reach = refl;
              idle = rests.idle.term;
              waiting = rests.idle.waiting;
              known = rests.known;
              near = own_now.near;
              pairs = own_now.pairs;
              votes = own_now.votes;
              others_may = λ j c. absurd (omega (arith, c.1));
              distinct = (λ c. absurd (omega (arith, c.1)), tt);
            };
            within = own_now.within;
            others_lag = λ j c.
                let one = rest j (k.others_lag j c).replica c (k.others_lag j c).up in
                lag_lasts m IsText x e others last old new j (k.others_lag j c) one.0 one.1 one.2;
            distinct = k.distinct;
          };
          nobody = record {
            keeps = λ j c r up. elim (cons_cases x others j c) [
              | inl is ↦ (
                now,
                subst (λ (i : ℕ). IsUpAs new i now) is own_now.up,
                (let same : executed run.behind.node.learner ≡ executed r.node.learner =
                    ap (λ (y : ReplicaValue). executed y.node.learner)
                    (one_replica m IsText old k.candidate.holds x run.behind r run.up
                    (subst (λ (i : ℕ). IsUpAs old i r) (sym is) up)) in omega (arith, more, same)),
              )
              | inr other ↦ (let one = rest j r other up in (
                one.0,
                one.1,
                (let same : executed one.0.node.learner ≡ executed r.node.learner =
                    ap (λ (w : WholeValue). w.roster.executed) one.2.whole in omega (arith, same)),
              ))
            ];
            rests = λ j c differs_from r q up later. elim (cons_cases x others j c) [
              | inl is ↦ absurd (differs_from (sym is))
              | inr other ↦ (let one = rest j r other up in
                  ap (λ (y : ReplicaValue). executed y.node.learner)
                  (one_replica m IsText new (new_holds m IsText law last x n old new k.candidate.holds apart run own_lag
                  (k.others_lag n there)) j q one.0 later one.1)
                  ∙ ap (λ (w : WholeValue). w.roster.executed) one.2.whole)
            ];
          };
        }

  -- ---- another one takes the candidate's

  module _ (run : TakesParts m IsText n x old new) where
    abbrev fed_now : ReplicaValue
    fed_now = (took m IsText law last n x old new k.candidate.holds differs run (k.others_lag n there) own_lag).now

    abbrev feeder : ReplicaValue
    feeder = (served m IsText law last n x old new k.candidate.holds differs run (k.others_lag n there) own_lag).after

    same_feeder : k.candidate.candidate ≡ run.ahead
    same_feeder = one_replica m IsText old k.candidate.holds x k.candidate.candidate run.ahead k.candidate.up
        run.other_up

    feeder_lasts : Lasts k.candidate.candidate.node feeder.node
    feeder_lasts = subst (λ (r : ReplicaValue). Lasts r.node feeder.node) (sym same_feeder)
        (served_lasts m IsText law last n x old new k.candidate.holds differs run (k.others_lag n there) own_lag)

    feeder_idle : IsIdle feeder.node
    feeder_idle = served_idle m IsText law last n x old new k.candidate.holds differs run (k.others_lag n there) own_lag
        (subst (λ (r : ReplicaValue). IsIdle r.node) same_feeder own_rests.idle)

    feeder_up : IsUpAs new x feeder
    feeder_up = other_up m IsText law last n x old new k.candidate.holds differs run (k.others_lag n there) own_lag

    after_holds : Holds m IsText new
    after_holds = new_holds m IsText law last n x old new k.candidate.holds differs run (k.others_lag n there) own_lag

    voter_takes : HasTakenParts m IsText x e n x others last old new run
    voter_takes =
        let gain = gained m IsText law last n x old new k.candidate.holds differs run (k.others_lag n there) own_lag in
        let more : executed run.behind.node.learner ≤ executed fed_now.node.learner =
        grows m IsText law last n x old new k.candidate.holds differs run (k.others_lag n there) own_lag in
        record {
          asks = gain.asks;
          sends = gain.sends;
          gets_on = gain.gains;
          f = e;
          grows = omega arith;
          may = record {
            candidate = still_contends m IsText old new x e e [] last k.candidate feeder after_holds feeder_up
                feeder_lasts feeder_idle.term feeder_idle.waiting (λ j c. absurd (omega (arith, c.1)));
            within = k.within;
            others_lag = λ j c. elim (cases_Bool (eqb j n)) [
              | inl t ↦ subst (MayLag new last) (sym (eqb-true j n t))
                  (now_lag m IsText law last n x old new k.candidate.holds differs run (k.others_lag n there) own_lag)
              | inr t ↦ (let l : MayLag old last j = k.others_lag j c in record {
                replica = l.replica;
                up = rest_up m IsText law last n x old new k.candidate.holds differs run (k.others_lag n there) own_lag
                    j l.replica (eqb-false j n t) (not_candidate j c) l.up;
                near = l.near;
                within = l.within;
                pairs = l.pairs;
                votes = l.votes;
              })
            ];
            distinct = k.distinct;
          };
          nobody = record {
            keeps = λ j c r up. elim (cons_cases x others j c) [
              | inl is ↦ (
                feeder,
                subst (λ (i : ℕ). IsUpAs new i feeder) is feeder_up,
                (let same : executed k.candidate.candidate.node.learner ≡ executed r.node.learner =
                    ap (λ (y : ReplicaValue). executed y.node.learner)
                    (one_replica m IsText old k.candidate.holds x k.candidate.candidate r k.candidate.up
                    (subst (λ (i : ℕ). IsUpAs old i r) (sym is) up)) in
                    let still : executed feeder.node.learner ≡ executed k.candidate.candidate.node.learner =
                    ap (λ (w : WholeValue). w.roster.executed) feeder_lasts.whole in omega (arith, same, still)),
              )
              | inr other ↦ elim (cases_Bool (eqb j n)) [
                | inl t ↦ (
                  fed_now,
                  subst (λ (i : ℕ). IsUpAs new i fed_now) (sym (eqb-true j n t))
                      (took m IsText law last n x old new k.candidate.holds differs run (k.others_lag n there)
                      own_lag).is,
                  (let same : executed run.behind.node.learner ≡ executed r.node.learner =
                      ap (λ (y : ReplicaValue). executed y.node.learner)
                      (one_replica m IsText old k.candidate.holds n run.behind r run.up
                      (subst (λ (i : ℕ). IsUpAs old i r) (eqb-true j n t) up)) in omega (arith, more, same)),
                )
                | inr t ↦ (
                  r,
                  rest_up m IsText law last n x old new k.candidate.holds differs run (k.others_lag n there) own_lag j r
                      (eqb-false j n t) (not_candidate j other) up,
                  omega arith,
                )
              ]
            ];
            rests = λ j c differs_from r q up later. elim (cons_cases x others j c) [
              | inl is ↦
                  let was : executed k.candidate.candidate.node.learner ≡ executed r.node.learner =
                  ap (λ (y : ReplicaValue). executed y.node.learner)
                  (one_replica m IsText old k.candidate.holds x k.candidate.candidate r k.candidate.up
                  (subst (λ (i : ℕ). IsUpAs old i r) (sym is) up)) in
                  let now : executed q.node.learner ≡ executed feeder.node.learner =
                  ap (λ (y : ReplicaValue). executed y.node.learner)
                  (one_replica m IsText new after_holds x q feeder
                  (subst (λ (i : ℕ). IsUpAs new i q) (sym is) later) feeder_up) in
                  now ∙ ap (λ (w : WholeValue). w.roster.executed) feeder_lasts.whole ∙ was
              | inr other ↦ ap (λ (y : ReplicaValue). executed y.node.learner)
                  (one_replica m IsText new after_holds j q r later
                  (rest_up m IsText law last n x old new k.candidate.holds differs run (k.others_lag n there) own_lag
                  j r differs_from (not_candidate j other) up))
            ];
          };
        }

pub parts_taken : (m : Meaning) (IsText : List ℕ → Type 0) → PartsFeed m IsText → PartsAreTaken m IsText
parts_taken m IsText law x e n others last old new k there = (
  λ run. candidate_takes m IsText law x e n others last old new k there run,
  λ run. voter_takes m IsText law x e n others last old new k there run,
)
