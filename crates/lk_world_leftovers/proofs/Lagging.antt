-- A voter that lags is fed by its rejection, and may contend for answering with the candidate as before.
use Rattle.std.proofs.Common.{◌≡◌, ◌∙◌, ◌⊎◌, inl, inr, ℕ, ◌+◌, ◌-◌, ◌<◌, ◌≤◌, Bool, true, false, cond, eqb}
use Rattle.std.proofs.Common.{List, [], None, length, drop, Contains, refl, ap, sym, subst, arith}
use Rattle.std.proofs.lemmas.Bool.{cases_Bool, eqb-false, eqb-true}
use Rattle.std.proofs.lemmas.List.{length-take, length-drop}
use Rattle.lk_types.specs.BallotValue.{BallotValue}
use Rattle.lk_types.specs.declared.vote.Vote.{Vote}
use Rattle.lk_messages.specs.Values.{DecidedValue}
use Rattle.lk_messages.specs.declared.message.Content.TheVariants as content
use Rattle.lk_messages.specs.declared.message.Nack.{Nack}
use Rattle.lk_messages.specs.declared.message.NodeMessage.TheVariants as kinds
use Rattle.lk_state.specs.Meanings.{Meaning}
use Rattle.lk_state.specs.States.{WholeValue}
use Rattle.lk_acceptor.specs.AcceptorValue.{AcceptorValue}
use Rattle.lk_leader.specs.Terms.{is_term_below}
use Rattle.lk_learner.specs.Learners.{LearnerValue, Pair, alpha, decided_from, executed, gathered_bytes}
use Rattle.lk_node_interface.specs.Outboxes.{OutboxValue, nothing}
use Rattle.lk_node_interface.specs.declared.input.Input.TheVariants.{Nudge}
use Rattle.lk_node_interface.specs.declared.nudge_reason.NudgeReason.{NudgeReason}
use Rattle.lk_node_interface.specs.declared.nudge_reason.NudgeReason.TheVariants.{Period, TicksWithheld, Fed}
use Rattle.lk_node.specs.Nearness.{AreNear}
use Rattle.lk_node.specs.Leading.{ProposesOpen}
use Rattle.lk_node.specs.NewBases.{with_snapshot}
use Rattle.lk_node.specs.NodeValue.{NodeValue}
use Rattle.lk_node.specs.Nudging.{Nudges, SeeksAfresh, refreshed, remembering, without_gathered}
use Rattle.lk_node.specs.Yielding.{seeing, with_round, without_term}
use Rattle.lk_progress.specs.Feeding.{MayServe}
use Rattle.lk_progress.specs.Hearing.{Takes}
use Rattle.lk_rebases.proofs.Rebases.{Handled, HasSame, handled, proposed_same}
use Rattle.lk_replica.specs.ReplicaValue.{ReplicaValue}
use Rattle.lk_sim.specs.WorldStates.{WorldState}
use Rattle.lk_sim.specs.declared.event.Event.TheVariants as event
use Rattle.lk_sim_nodes.specs.declared.sim_node.RunState.TheVariants.{Up}
use Rattle.lk_world_feeding.proofs.Knowing.{may_serve}
use Rattle.lk_world_feeding.specs.Asking.{AreEnough}
use Rattle.lk_world_feeding.specs.Feeding.{CanBeFed, GainsUnasked, IsFedUnasked, RejectionsFeed}
use Rattle.lk_world_progress.proofs.Balloting.{found_has}
use Rattle.lk_world_progress.proofs.Delivering.{HeardIt, TakesFrom, heard_from, heard_it}
use Rattle.lk_world_progress.proofs.Stepping.{event_steps, one_replica, shown}
use Rattle.lk_world_progress.proofs.Waiting.{left_has}
use Rattle.lk_world_progress.specs.Stepping.{GoesWell, IsFound, IsUpAs, TakesStep}
use Rattle.lk_world_leftovers.proofs.Feeding.{idle_proposes}
use Rattle.lk_world_leftovers.proofs.Lasting.{Lasts, lasts_found, lasts_itself, lasts_promise, lasts_snapshot}
use Rattle.lk_world_leftovers.proofs.Lasting.{lasts_trans, nack_lasts, still_contends}
use Rattle.lk_world_leftovers.proofs.Taking.{Gets, decided_gets}
use Rattle.lk_world_leftovers.specs.Filling.{PairsUpTo}
use Rattle.lk_world_leftovers.specs.Lagging.{AllLast, Feeds, IsFedIn, LaggingVoterIsFed, MayContend, MayLag}
use Rattle.lk_world_leftovers.specs.Lagging.{NudgedVoterLasts}
use Rattle.lk_world_leftovers.specs.Persisting.{Contends}

-- ---- the candidate takes a rejection

seeing_idle : (b : BallotValue) (node : NodeValue) → node.leader.term ≡ None → (seeing b node).leader.term ≡ None
seeing_idle b node idle = by_test (is_term_below b node.leader.term)
  where
    by_test : (t : Bool)
        → (cond t (without_term (with_round b node)) (with_round b node)).leader.term ≡ None
    by_test true = refl
    by_test false = idle

pub nack_idle : (m : Meaning) (IsText : List ℕ → Type 0) (old new : NodeValue) (from : ℕ) (nack : Nack)
    (out : OutboxValue) → Takes m IsText old (content.Node from (kinds.Nack nack)) new out → old.leader.term ≡ None
    → new.leader.term ≡ None
nack_idle m IsText old new from nack out takes idle =
    by_handled (handled m IsText old (content.Node from (kinds.Nack nack)) new out takes)
  where
    by_handled : Handled m IsText old (content.Node from (kinds.Nack nack)) new out → new.leader.term ≡ None
    by_handled h =
        let mid_idle : h.mid.leader.term ≡ None = ap (λ (n : NodeValue). n.leader.term) h.handles.0
        ∙ seeing_idle nack.promised (seeing nack.ballot old) (seeing_idle nack.ballot old idle) in
        ap (λ (n : NodeValue). n.leader.term) (idle_proposes h.proposes.0 h.mid new h.first out h.proposes.1 mid_idle)
        ∙ mid_idle

-- the commands that it then sends are of positions that it has executed
pub decided_within : (l : LearnerValue) (i : ℕ) → MayServe l → l.snapshot_position ≤ i → i < executed l
    → i + 1 + length (decided_from (i + 1) l).commands ≤ executed l + 1
decided_within l i f kept less =
    let k : ℕ = i + 1 - (l.snapshot_position + 1) in
    let rest = length-drop k l.retained in
    let len = length-take 16 (drop k l.retained) in
    grind (arith, rest, len, f.reaches, kept, less)

-- ---- one that is fed

module _ (m : Meaning) (IsText : List ℕ → Type 0) (feeds_law : RejectionsFeed m IsText) (x e : ℕ) (others : List ℕ)
    (last : ℕ) where
  module _ (n : ℕ) (old new : WorldState ReplicaValue) (k : MayContend m IsText old x e others last)
      (there : Contains others n) (run : Feeds m IsText x n old new) where
    abbrev own : Contends m IsText old x e e [] last
    own = k.candidate

    abbrev lag : MayLag old last n
    lag = k.others_lag n there

    apart : n ≡ x → ⊥
    apart is = k.distinct.0 (subst (λ (j : ℕ). Contains others j) is there)

    same_voter : lag.replica ≡ run.voter
    same_voter = one_replica m IsText old own.holds n lag.replica run.voter lag.up run.voter_up

    of_voter : (P : ReplicaValue → Type 0) → P lag.replica → P run.voter
    of_voter P p = subst P same_voter p

    reach : executed run.candidate.node.learner ≡ e
    reach = subst (λ (r : ReplicaValue). executed r.node.learner ≡ e)
        (one_replica m IsText old own.holds x own.candidate run.candidate own.up run.up) own.reach

    -- the candidate takes the rejection
    told : HeardIt m IsText x (content.Node n (kinds.Nack run.nack)) own.candidate run.told
    told = heard_it m IsText x (content.Node n (kinds.Nack run.nack)) old run.told own.candidate tt own.up
        run.hears.hears

    told_lasts : Lasts told.start told.after.node
        × (told.start.leader.waiting ≡ [] → told.after.node.leader.waiting ≡ [])
    told_lasts = nack_lasts m IsText told.start told.after.node n run.nack told.out told.takes

    still_idle : told.after.node.leader.term ≡ None
    still_idle = nack_idle m IsText told.start told.after.node n run.nack told.out told.takes
        (found_has own.candidate told.start told.found (λ node. node.leader.term ≡ None) (λ q. q) own.idle)

    none_waits : told.after.node.leader.waiting ≡ []
    none_waits = told_lasts.1
        (found_has own.candidate told.start told.found (λ node. node.leader.waiting ≡ []) (λ q. q) own.waiting)

    told_contends : Contends m IsText run.told x e e [] last
    told_contends = still_contends m IsText old run.told x e e [] last own told.after run.hears.hears.goes.after told.is
        (lasts_trans own.candidate.node told.start told.after.node
        (lasts_found own.candidate told.start told.found) told_lasts.0) still_idle none_waits
        (λ j c. absurd (omega (arith, c.1)))

    told_from : TakesFrom m IsText x (content.Node n (kinds.Nack run.nack)) old run.told
    told_from = heard_from m IsText x (content.Node n (kinds.Nack run.nack)) old run.told run.hears.hears

    voter_told : IsUpAs run.told n run.voter
    voter_told = told_from.others n (Up run.voter) apart run.voter_up

    -- the node takes the commands
    abbrev commands : DecidedValue
    commands = decided_from (run.nack.executed + 1) run.candidate.node.learner

    took : HeardIt m IsText n (content.Node x (kinds.Decided commands)) run.voter new
    took = heard_it m IsText n (content.Node x (kinds.Decided commands)) run.told new run.voter tt voter_told run.takes

    took_from : TakesFrom m IsText n (content.Node x (kinds.Decided commands)) run.told new
    took_from = heard_from m IsText n (content.Node x (kinds.Decided commands)) run.told new run.takes

    abbrev start : NodeValue
    start = took.start

    abbrev after : NodeValue
    after = took.after.node

    start_lasts : Lasts run.voter.node start
    start_lasts = lasts_found run.voter start took.found

    start_near : AreNear start.acceptor start.learner
    start_near = start_lasts.near (of_voter (λ r. AreNear r.node.acceptor r.node.learner) lag.near)

    start_reach : executed start.learner ≡ executed run.voter.node.learner
    start_reach = ap (λ (w : WholeValue). w.roster.executed) start_lasts.whole

    start_width : alpha start.learner ≡ alpha run.voter.node.learner
    start_width = ap (λ (w : WholeValue). length w.roster.sets) start_lasts.whole

    some : 1 ≤ alpha start.learner
    some =
        let told_by = (shown m IsText old own.holds n run.voter run.voter_up).1.told.tells in
        omega (arith, told_by.some, told_by.window, start_width)

    abbrev unasked : IsFedUnasked m IsText n x run.nack run.candidate old new
    unasked = record {
      served = run.told;
      serves = run.hears;
      takes = record {
        mid = run.told;
        rests = λ r up. (r, up, refl);
        other_rests = λ r up. (r, up, refl);
        genesis = refl;
        happens = run.takes;
      };
    }

    can : CanBeFed m IsText old n x run.voter run.candidate
    can = record {
      holds = own.holds;
      apart = apart;
      up = run.voter_up;
      other_up = run.up;
      kept = run.kept;
    }

    gained : GainsUnasked m IsText n x run.nack run.candidate old new unasked
    gained = feeds_law n x run.nack run.voter run.candidate old new can (omega (arith, run.kept, run.tells))
        (omega (arith, run.tells)) (omega (arith, run.less, run.tells)) unasked

    reaches : run.nack.executed + 1 + length commands.commands ≤ executed after.learner + 1
    reaches = subst
        (λ (r : ReplicaValue). run.nack.executed + 1 + length commands.commands ≤ executed r.node.learner + 1)
        (one_replica m IsText new run.takes.goes.after n gained.gains.0 took.after gained.gains.1 took.is)
        gained.gains.2

    serves : MayServe run.candidate.node.learner
    serves = may_serve m IsText old own.holds x run.candidate run.up

    within : run.nack.executed + 1 + length commands.commands ≤ e + 1
    within =
        let most = decided_within run.candidate.node.learner run.nack.executed serves
        (omega (arith, run.kept, run.tells)) (omega (arith, run.less, run.tells)) in omega (arith, most, reach)

    gets : Gets start.acceptor (alpha start.learner) last after
    gets = decided_gets m IsText start.acceptor (alpha start.learner) last start after x commands took.out some
        (omega (arith, within, k.within)) took.takes (record {
          acceptor = refl;
          reaches = record {
            width_is = refl;
            within = omega (arith, start_reach, of_voter (λ r. executed r.node.learner ≤ last) lag.within);
            pairs = subst (λ (ps : List Pair). (p : Pair) → Contains ps p → p.0 ≤ last) (sym start_lasts.pairs)
                (of_voter (λ r. PairsUpTo r.node last) lag.pairs);
          };
        })

    grows : executed start.learner ≤ executed after.learner
    grows = omega (arith, reaches, run.tells, start_reach)

    kept_votes : (v : Vote) → Contains after.acceptor.state.votes v → Contains start.acceptor.state.votes v
    kept_votes v c = subst (λ (y : AcceptorValue). Contains y.state.votes v) gets.acceptor c

    still_lags : MayLag new last n
    still_lags = record {
      replica = took.after;
      up = took.is;
      near = record {
        alpha_is = ap (λ (y : AcceptorValue). y.alpha) gets.acceptor ∙ start_near.alpha_is
            ∙ sym gets.reaches.width_is;
        snapshot = omega (
          arith,
          ap (λ (y : AcceptorValue). y.state.snapshot_position) gets.acceptor,
          start_near.snapshot,
          grows,
        );
        votes = λ v c.
            let near_one = start_near.votes v (kept_votes v c) in omega (arith, near_one, grows, gets.reaches.width_is);
      };
      within = gets.reaches.within;
      pairs = gets.reaches.pairs;
      votes = λ v c. of_voter (λ r. (y : Vote) → Contains r.node.acceptor.state.votes y → y.position ≤ last) lag.votes v
          (start_lasts.votes v (kept_votes v c));
    }

    -- the others
    stays_up : (j : ℕ) (r : ReplicaValue) → (j ≡ x → ⊥) → (j ≡ n → ⊥) → IsUpAs old j r → IsUpAs new j r
    stays_up j r other differs up = took_from.others j (Up r) differs (told_from.others j (Up r) other up)

    not_candidate : (j : ℕ) → Contains others j → j ≡ x → ⊥
    not_candidate j c is = k.distinct.0 (subst (λ (i : ℕ). Contains others i) is c)

    all_lag : (j : ℕ) → Contains others j → MayLag new last j
    all_lag j c = elim (cases_Bool (eqb j n)) [
      | inl t ↦ subst (MayLag new last) (sym (eqb-true j n t)) still_lags
      | inr f ↦ (let l : MayLag old last j = k.others_lag j c in record {
        replica = l.replica;
        up = stays_up j l.replica (not_candidate j c) (eqb-false j n f) l.up;
        near = l.near;
        within = l.within;
        pairs = l.pairs;
        votes = l.votes;
      })
    ]

    same_told : told_contends.candidate ≡ told.after
    same_told = one_replica m IsText run.told run.hears.hears.goes.after x told_contends.candidate told.after
        told_contends.up told.is

    still_may : MayContend m IsText new x e others last
    still_may = record {
      candidate = still_contends m IsText run.told new x e e [] last told_contends told.after run.takes.goes.after
          (took_from.others x (Up told.after) (λ is. apart (sym is)) told.is)
          (subst (λ (r : ReplicaValue). Lasts r.node told.after.node) (sym same_told) (lasts_itself told.after.node))
          still_idle none_waits (λ j c. absurd (omega (arith, c.1)));
      within = k.within;
      others_lag = all_lag;
      distinct = k.distinct;
    }

    by_many : AreEnough run.candidate (run.nack.executed + 1) commands
        → (executed run.candidate.node.learner ≤ executed after.learner)
        ⊎ (executed run.voter.node.learner + 16 ≤ executed after.learner)
    by_many (inl many) = inr (omega (arith, many, reaches, run.tells))
    by_many (inr all) = inl (omega (arith, all, reaches))

    moves : executed run.voter.node.learner < executed after.learner
    moves = omega (arith, gained.some, reaches, run.tells)

    one_fed : IsFedIn m IsText x e n others last old new run
    one_fed = record {
      sends = gained.sends;
      may = still_may;
      after = took.after;
      is = took.is;
      gains = (moves, by_many gained.many);
      rest = stays_up;
    }

pub lagging_voter_fed : (m : Meaning) (IsText : List ℕ → Type 0) → RejectionsFeed m IsText → LaggingVoterIsFed m IsText
lagging_voter_fed m IsText feeds_law x e n others last old new k there run =
    one_fed m IsText feeds_law x e others last n old new k there run

-- ---- what lasts

module _ (m : Meaning) (IsText : List ℕ → Type 0) (x e : ℕ) (others : List ℕ) (last : ℕ) where
  pub lag_lasts : (old new : WorldState ReplicaValue) (n : ℕ) (k : MayLag old last n) (q : ReplicaValue)
      → IsUpAs new n q
      → Lasts k.replica.node q.node → MayLag new last n
  lag_lasts old new n k q up l = record {
    replica = q;
    up = up;
    near = l.near k.near;
    within = subst (λ (w : WholeValue). w.roster.executed ≤ last) (sym l.whole) k.within;
    pairs = subst (λ (ps : List Pair). (p : Pair) → Contains ps p → p.0 ≤ last) (sym l.pairs) k.pairs;
    votes = λ v d. k.votes v (l.votes v d);
  }

  pub last_may : (old new : WorldState ReplicaValue) → MayContend m IsText old x e others last
      → AllLast m IsText x others old new → MayContend m IsText new x e others last
  last_may old new k all =
      let own = all.candidate_lasts k.candidate.candidate k.candidate.up in
      record {
        candidate = still_contends m IsText old new x e e [] last k.candidate own.0 all.holds own.1 own.2 own.3 own.4
            (λ j c. absurd (omega (arith, c.1)));
        within = k.within;
        others_lag = λ n c.
            let one = all.others_last n c (k.others_lag n c).replica (k.others_lag n c).up in
            lag_lasts old new n (k.others_lag n c) one.0 one.1 one.2;
        distinct = k.distinct;
      }

  -- a nudge of one of the others
  module _ (n : ℕ) (reason : NudgeReason) (old new : WorldState ReplicaValue) (k : MayContend m IsText old x
      e others last)
      (there : Contains others n) (goes : GoesWell m IsText old (event.Nudge n reason) new)
      (s : TakesStep m IsText old n (Nudge reason) new) where
    refreshed_lasts : Lasts s.start (refreshed s.start)
    refreshed_lasts = by_test (eqb (gathered_bytes s.start.learner.gathered) s.start.gathered_before)
      where
        by_test : (t : Bool)
            → Lasts s.start (cond t (remembering (without_gathered s.start)) (remembering s.start))
        by_test true = record {
          whole = refl;
          pairs = refl;
          votes = λ v d. d;
          near = λ near. record { alpha_is = near.alpha_is; snapshot = near.snapshot; votes = near.votes };
        }
        by_test false = record {
          whole = refl;
          pairs = refl;
          votes = λ v d. d;
          near = λ near. record { alpha_is = near.alpha_is; snapshot = near.snapshot; votes = near.votes };
        }

    proposed_lasts : (node : NodeValue) (before : OutboxValue) → ProposesOpen node s.last before s.out
        → Lasts node s.last
    proposed_lasts node before p =
        let same : HasSame node s.last = proposed_same p.0 node s.last before s.out p.1 in
        lasts_promise node s.last node.acceptor.state.promised same.learner same.acceptor

    unchanged_lasts : (node : NodeValue) → s.last ≡ node → Lasts node s.last
    unchanged_lasts node is = subst (λ (last : NodeValue). Lasts node last) (sym is) (lasts_itself node)

    afresh_lasts : (withheld : Bool) → SeeksAfresh withheld s.start s.last s.out → Lasts s.start s.last
    afresh_lasts withheld (inl a) = lasts_trans s.start (refreshed s.start) s.last refreshed_lasts
        (proposed_lasts (refreshed s.start) a.2.asked a.2.proposes)
    afresh_lasts withheld (inr t) = lasts_trans s.start (refreshed s.start) s.last refreshed_lasts
        (unchanged_lasts (refreshed s.start) t.1)

    step_lasts : (why : NudgeReason) → Nudges why s.start s.last s.out → Lasts s.start s.last
    step_lasts Period step = afresh_lasts false step
    step_lasts TicksWithheld step = afresh_lasts true step
    step_lasts Fed (inl proposes) = proposed_lasts s.start nothing proposes.2
    step_lasts Fed (inr asks) = unchanged_lasts s.start asks.1

    nudged_lasts : (r : ReplicaValue) → IsUpAs old n r → Lasts r.node s.after.node
    nudged_lasts r up =
        let found : IsFound r s.start = subst (λ (q : ReplicaValue). IsFound q s.start)
        (one_replica m IsText old goes.before n s.before r s.was up) s.found in
        let stepped : Lasts r.node s.last =
        lasts_trans r.node s.start s.last (lasts_found r s.start found) (step_lasts reason s.steps) in
        left_has s.out s.last s.after (λ node. Lasts r.node node)
        (λ l. lasts_trans r.node s.last (with_snapshot s.last) l (lasts_snapshot s.last)) s.left stepped

    all_nudged : AllLast m IsText x others old new
    all_nudged = record {
      holds = goes.after;
      candidate_lasts = λ r up.
          let same : k.candidate.candidate ≡ r =
          one_replica m IsText old goes.before x k.candidate.candidate r k.candidate.up up in (
            r,
            s.others x (Up r) (λ is. k.distinct.0 (subst (λ (j : ℕ). Contains others j) (sym is) there)) up,
            lasts_itself r.node,
            subst (λ (q : ReplicaValue). q.node.leader.term ≡ None) same k.candidate.idle,
            subst (λ (q : ReplicaValue). q.node.leader.waiting ≡ []) same k.candidate.waiting,
          );
      others_last = λ j c r up. elim (cases_Bool (eqb j n)) [
        | inl t ↦ (let is : j ≡ n = eqb-true j n t in (
          s.after,
          subst (λ (i : ℕ). IsUpAs new i s.after) (sym is) s.is,
          nudged_lasts r (subst (λ (i : ℕ). IsUpAs old i r) is up),
        ))
        | inr f ↦ (r, s.others j (Up r) (eqb-false j n f) up, lasts_itself r.node)
      ];
    }

pub nudged_voter_lasts : (m : Meaning) (IsText : List ℕ → Type 0) → NudgedVoterLasts m IsText
nudged_voter_lasts m IsText x e n others last reason old new k there goes =
    all_nudged m IsText x e others last n reason old new k there goes
    (event_steps m IsText old new (event.Nudge n reason) n (Nudge reason) goes (refl, refl))
