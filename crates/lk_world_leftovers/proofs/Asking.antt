-- A candidate that is behind one of the others is told so by its rejection, asks it, and is fed.
use Rattle.std.proofs.Common.{◌≡◌, ◌∙◌, ◌⊎◌, inl, inr, ℕ, ◌+◌, ◌≤◌, eqb, List, [], None, length, Contains, refl}
use Rattle.std.proofs.Common.{ap, sym, subst, arith}
use Rattle.std.proofs.lemmas.Bool.{cases_Bool, eqb-false, eqb-true}
use Rattle.lk_messages.specs.Values.{DecidedValue, WantValue}
use Rattle.lk_messages.specs.declared.message.Content.TheVariants as content
use Rattle.lk_messages.specs.declared.message.NodeMessage.TheVariants as kinds
use Rattle.lk_state.specs.Meanings.{Meaning}
use Rattle.lk_learner.specs.Learners.{decided_from, executed, wanted}
use Rattle.lk_node_interface.specs.Outboxes.{OutboxValue}
use Rattle.lk_node.specs.NodeValue.{NodeValue}
use Rattle.lk_progress.specs.Hearing.{Takes}
use Rattle.lk_rebases.proofs.Rebases.{Handled, HasSame, handled, proposed_same}
use Rattle.lk_replica.specs.ReplicaValue.{ReplicaValue}
use Rattle.lk_sim.specs.WorldStates.{WorldState}
use Rattle.lk_sim_nodes.specs.declared.sim_node.RunState.TheVariants.{Up}
use Rattle.lk_world_feeding.proofs.Knowing.{may_serve}
use Rattle.lk_world_feeding.specs.Asking.{AreEnough}
use Rattle.lk_world_feeding.specs.Feeding.{CanBeFed, ExchangesFeed, GainsCommands, IsFedOnce}
use Rattle.lk_world_progress.proofs.Balloting.{found_has}
use Rattle.lk_world_progress.proofs.Delivering.{HeardIt, TakesFrom, heard_from, heard_it}
use Rattle.lk_world_progress.proofs.Stepping.{one_replica}
use Rattle.lk_world_progress.specs.Stepping.{IsUpAs}
use Rattle.lk_world_leftovers.proofs.Lagging.{decided_within, lag_lasts, nack_idle}
use Rattle.lk_world_leftovers.proofs.Lasting.{Lasts, lasts_found, lasts_itself, lasts_promise, lasts_trans, nack_lasts}
use Rattle.lk_world_leftovers.proofs.Lasting.{still_contends}
use Rattle.lk_world_leftovers.specs.Lagging.{IsFedBy, IsFedByIn, LaggingCandidateIsFed, MayContend, MayLag}
use Rattle.lk_world_leftovers.specs.Persisting.{Contends, FedCandidateContends}

-- who is asked keeps what it has
pub want_lasts : (m : Meaning) (IsText : List ℕ → Type 0) (old new : NodeValue) (from : ℕ) (want : WantValue)
    (out : OutboxValue) → Takes m IsText old (content.Node from (kinds.Want want)) new out → Lasts old new
want_lasts m IsText old new from want out takes =
    by_handled (handled m IsText old (content.Node from (kinds.Want want)) new out takes)
  where
    by_handled : Handled m IsText old (content.Node from (kinds.Want want)) new out → Lasts old new
    by_handled h =
        let same : HasSame h.mid new = proposed_same h.proposes.0 h.mid new h.first out h.proposes.1 in
        lasts_promise old new old.acceptor.state.promised
        (same.learner ∙ ap (λ (n : NodeValue). n.learner) h.handles.0)
        (same.acceptor ∙ ap (λ (n : NodeValue). n.acceptor) h.handles.0)

module _ (m : Meaning) (IsText : List ℕ → Type 0) (law : ExchangesFeed m IsText)
    (fed_law : FedCandidateContends m IsText) (x e : ℕ) (others : List ℕ) (last n : ℕ)
    (old new : WorldState ReplicaValue)
    (k : MayContend m IsText old x e others last) (there : Contains others n)
    (run : IsFedBy m IsText x n old new) where
  abbrev own : Contends m IsText old x e e [] last
  own = k.candidate

  abbrev lag : MayLag old last n
  lag = k.others_lag n there

  apart : n ≡ x → ⊥
  apart is = k.distinct.0 (subst (λ (j : ℕ). Contains others j) is there)

  same_voter : lag.replica ≡ run.voter
  same_voter = one_replica m IsText old own.holds n lag.replica run.voter lag.up run.voter_up

  voter_within : executed run.voter.node.learner ≤ last
  voter_within = subst (λ (r : ReplicaValue). executed r.node.learner ≤ last) same_voter lag.within

  reach : executed run.candidate.node.learner ≡ e
  reach = subst (λ (r : ReplicaValue). executed r.node.learner ≡ e)
      (one_replica m IsText old own.holds x own.candidate run.candidate own.up run.up) own.reach

  -- ---- the candidate takes the rejection

  told : HeardIt m IsText x (content.Node n (kinds.Nack run.nack)) own.candidate run.told
  told = heard_it m IsText x (content.Node n (kinds.Nack run.nack)) old run.told own.candidate tt own.up run.hears

  told_from : TakesFrom m IsText x (content.Node n (kinds.Nack run.nack)) old run.told
  told_from = heard_from m IsText x (content.Node n (kinds.Nack run.nack)) old run.told run.hears

  told_lasts : Lasts told.start told.after.node × (told.start.leader.waiting ≡ [] → told.after.node.leader.waiting ≡ [])
  told_lasts = nack_lasts m IsText told.start told.after.node n run.nack told.out told.takes

  still_idle : told.after.node.leader.term ≡ None
  still_idle = nack_idle m IsText told.start told.after.node n run.nack told.out told.takes
      (found_has own.candidate told.start told.found (λ node. node.leader.term ≡ None) (λ q. q) own.idle)

  none_waits : told.after.node.leader.waiting ≡ []
  none_waits = told_lasts.1
      (found_has own.candidate told.start told.found (λ node. node.leader.waiting ≡ []) (λ q. q) own.waiting)

  -- ---- the other one is asked

  served : HeardIt m IsText n (content.Node x (kinds.Want (wanted run.asking.node.learner))) run.voter run.served
  served = heard_it m IsText n (content.Node x (kinds.Want (wanted run.asking.node.learner))) run.told run.served
      run.voter tt (told_from.others n (Up run.voter) apart run.voter_up) run.serves.hears

  served_from : TakesFrom m IsText n (content.Node x (kinds.Want (wanted run.asking.node.learner))) run.told run.served
  served_from = heard_from m IsText n (content.Node x (kinds.Want (wanted run.asking.node.learner))) run.told run.served
      run.serves.hears

  served_lasts : Lasts run.voter.node served.after.node
  served_lasts = lasts_trans run.voter.node served.start served.after.node
      (lasts_found run.voter served.start served.found)
      (want_lasts m IsText served.start served.after.node x (wanted run.asking.node.learner) served.out served.takes)

  served_contends : Contends m IsText run.served x e e [] last
  served_contends = still_contends m IsText old run.served x e e [] last own told.after
      run.serves.hears.goes.after (served_from.others x (Up told.after) (λ is. apart (sym is)) told.is)
      (lasts_trans own.candidate.node told.start told.after.node
      (lasts_found own.candidate told.start told.found) told_lasts.0) still_idle none_waits
      (λ j c. absurd (omega (arith, c.1)))

  -- ---- the candidate takes the commands

  abbrev commands : DecidedValue
  commands = decided_from (executed run.candidate.node.learner + 1) run.voter.node.learner

  low : executed run.candidate.node.learner + 1 + length commands.commands ≤ last + 1
  low =
      let most = decided_within run.voter.node.learner (executed run.candidate.node.learner)
      (may_serve m IsText old own.holds n run.voter run.voter_up) run.kept run.less in omega (arith, most, voter_within)

  took_from : TakesFrom m IsText x (content.Node n (kinds.Decided commands)) run.served new
  took_from = heard_from m IsText x (content.Node n (kinds.Decided commands)) run.served new run.takes

  taken : (g : ℕ) × (e ≤ g) × (g ≤ last) × Contends m IsText new x g e [] last
  taken = fed_law x e e [] last n commands run.served new served_contends k.within low run.takes

  abbrev after : ReplicaValue
  after = taken.3.candidate

  abbrev f : ℕ
  f = executed after.node.learner

  after_contends : Contends m IsText new x f f [] last
  after_contends = record {
    holds = taken.3.holds;
    candidate = taken.3.candidate;
    up = taken.3.up;
    reach = refl;
    idle = taken.3.idle;
    waiting = taken.3.waiting;
    known = taken.3.known;
    near = taken.3.near;
    pairs = taken.3.pairs;
    votes = taken.3.votes;
    others_may = λ j c. absurd (omega (arith, c.1));
    distinct = taken.3.distinct;
  }

  -- ---- what it gains

  can : CanBeFed m IsText old x n run.candidate run.voter
  can = record {
    holds = own.holds;
    apart = λ is. apart (sym is);
    up = run.up;
    other_up = run.voter_up;
    kept = run.kept;
  }

  abbrev once : IsFedOnce m IsText x n run.candidate run.voter old new
  once = record {
    asked = run.told;
    comes = inl (inl (inl (run.nack, run.tells, run.hears)));
    asking = run.asking;
    up = run.asks;
    served = run.served;
    serves = record {
      mid = run.told;
      rests = λ r up. (r, up, refl);
      other_rests = λ r up. (r, up, refl);
      genesis = refl;
      happens = run.serves;
    };
    takes = record {
      mid = run.served;
      rests = λ r up. (r, up, refl);
      other_rests = λ r up. (r, up, refl);
      genesis = refl;
      happens = run.takes;
    };
  }

  gained : GainsCommands m IsText x n run.candidate run.voter old new once
  gained = law x n run.candidate run.voter old new can run.less once

  reaches : executed run.candidate.node.learner + 1 + length commands.commands ≤ f + 1
  reaches = subst (λ (r : ReplicaValue). executed run.candidate.node.learner + 1 + length commands.commands
      ≤ executed r.node.learner + 1)
      (one_replica m IsText new run.takes.goes.after x gained.gains.0 after gained.gains.1 taken.3.up) gained.gains.2

  by_many : AreEnough run.voter (executed run.candidate.node.learner + 1) commands
      → (executed run.voter.node.learner ≤ f) ⊎ (executed run.candidate.node.learner + 16 ≤ f)
  by_many (inl many) = inr (omega (arith, many, reaches))
  by_many (inr all) = inl (omega (arith, all, reaches))

  -- ---- the others

  rest : (j : ℕ) (r : ReplicaValue) → Contains others j → IsUpAs old j r
      → (q : ReplicaValue) × IsUpAs new j q × Lasts r.node q.node
  rest j r c up = elim (cases_Bool (eqb j n)) [
    | inl t ↦
        let is : j ≡ n = eqb-true j n t in
        let same : run.voter ≡ r =
        one_replica m IsText old own.holds n run.voter r run.voter_up (subst (λ (i : ℕ). IsUpAs old i r) is up) in (
          served.after,
          subst (λ (i : ℕ). IsUpAs new i served.after) (sym is)
              (took_from.others n (Up served.after) apart served.is),
          subst (λ (y : ReplicaValue). Lasts y.node served.after.node) same served_lasts,
        )
    | inr t ↦ (
      r,
      took_from.others j (Up r) (not_candidate j c)
          (served_from.others j (Up r) (eqb-false j n t) (told_from.others j (Up r) (not_candidate j c) up)),
      lasts_itself r.node,
    )
  ]
    where
      not_candidate : (i : ℕ) → Contains others i → i ≡ x → ⊥
      not_candidate i d is = k.distinct.0 (subst (λ (y : ℕ). Contains others y) is d)

  fed_by : IsFedByIn m IsText x n others last old new run
  fed_by = record {
    asks = gained.asks;
    sends = gained.sends;
    after = after;
    is = taken.3.up;
    gains = (omega (arith, gained.some, reaches), by_many gained.many);
    may = record {
      candidate = after_contends;
      within = omega (arith, taken.2, taken.3.reach);
      others_lag = λ j c.
          let one = rest j (k.others_lag j c).replica c (k.others_lag j c).up in
          lag_lasts m IsText x e others last old new j (k.others_lag j c) one.0 one.1 one.2;
      distinct = k.distinct;
    };
    rest = rest;
  }

pub lagging_candidate_fed : (m : Meaning) (IsText : List ℕ → Type 0) → ExchangesFeed m IsText
    → FedCandidateContends m IsText → LaggingCandidateIsFed m IsText
lagging_candidate_fed m IsText law fed_law x e n others last old new k there run =
    fed_by m IsText law fed_law x e others last n old new k there run
