-- A candidate that is behind takes decided commands.
use Rattle.std.proofs.Common.{◌≡◌, ◌∙◌, inl, inr, ℕ, ◌+◌, ◌<◌, ◌≤◌, Bool, true, false, cond, List, [], ◌∷◌, Some}
use Rattle.std.proofs.Common.{None, length, Contains, refl, ap, sym, subst, arith, Option}
use Rattle.std.proofs.lemmas.Option.{slice_get_within}
use Rattle.lk_types.specs.declared.command.Request.{Request as RequestValue}
use Rattle.lk_types.specs.declared.vote.Vote.{Vote}
use Rattle.lk_messages.specs.Values.{DecidedValue}
use Rattle.lk_messages.specs.declared.message.Content.TheVariants as content
use Rattle.lk_messages.specs.declared.message.NodeMessage.TheVariants as kinds
use Rattle.lk_members.specs.Effects.{Command}
use Rattle.lk_state.specs.Meanings.{Meaning}
use Rattle.lk_state.specs.Runs.{run_answer}
use Rattle.lk_state.specs.States.{WholeValue}
use Rattle.lk_state.specs.declared.session.Session.{Session}
use Rattle.lk_acceptor.specs.AcceptorValue.{AcceptorValue}
use Rattle.lk_leader.specs.Waits.{left_by}
use Rattle.lk_learner.proofs.Learnerships.{ran_moves}
use Rattle.lk_learner.specs.Learners.{Pair, alpha, executed}
use Rattle.lk_node_interface.specs.KeptReplies.{session_by}
use Rattle.lk_node_interface.specs.Outboxes.{OutboxValue, nothing}
use Rattle.lk_node.specs.DecidedPairs.{LearnsPairs, none_yet, one_more}
use Rattle.lk_node.specs.Executing.{NothingToRun, EndsWaitIfAny, Runs, goes_on, is_outside, stays}
use Rattle.lk_node.specs.Executing.{without_term_if_outside}
use Rattle.lk_node.specs.Leading.{ProposesAll}
use Rattle.lk_node.specs.Learning.{Learns}
use Rattle.lk_node.specs.Nearness.{AreNear}
use Rattle.lk_node.specs.NodeValue.{NodeValue}
use Rattle.lk_node.specs.Yielding.{without_term}
use Rattle.lk_progress.specs.Hearing.{Takes}
use Rattle.lk_rebases.proofs.Rebases.{Handled, handled}
use Rattle.lk_leftovers.proofs.Offering.{Reaches, learned_reaches, runs_reach}
use Rattle.lk_replica.specs.ReplicaValue.{ReplicaValue}
use Rattle.lk_sim.specs.WorldStates.{WorldState}
use Rattle.lk_sim_nodes.specs.declared.sim_node.RunState.TheVariants.{Up}
use Rattle.lk_world_progress.proofs.Balloting.{found_has}
use Rattle.lk_world_progress.proofs.Delivering.{heard_from, TakesFrom, found_as, left_as}
use Rattle.lk_world_progress.proofs.Stepping.{shown}
use Rattle.lk_world_progress.specs.Delivering.{Hears}
use Rattle.lk_world_progress.specs.Stepping.{IsFound}
use Rattle.lk_world_leftovers.proofs.Lasting.{Lasts, lasts_found, lasts_itself, may_vote}
use Rattle.lk_world_leftovers.specs.Persisting.{Contends, FedCandidateContends}

-- ---- a Decided

-- the node's acceptor is this one, it has no term, nothing waits, and it has executed at least so much
record HasBeenFed (a : AcceptorValue) (e : ℕ) (node : NodeValue) : Type 0 where
  acceptor : node.acceptor ≡ a
  idle : node.leader.term ≡ None
  waiting : node.leader.waiting ≡ []
  grows : e ≤ executed node.learner

module _ (a : AcceptorValue) (e width last : ℕ) (some : 1 ≤ width) where
  none_left : (client number : ℕ) (rs : List RequestValue) → rs ≡ [] → left_by client number rs ≡ []
  none_left client number [] is = refl
  none_left client number (r ∷ rs) is = absurd (cc is)

  waited_fed : (o : Option Session) (old new : NodeValue) (before after : OutboxValue)
      → EndsWaitIfAny o old before new after → HasBeenFed a e old → HasBeenFed a e new
  waited_fed None old new before after ends f = subst (HasBeenFed a e) (sym ends.0) f
  waited_fed (Some s) old new before after ends f = subst (HasBeenFed a e) (sym ends.becomes) (record {
    acceptor = f.acceptor;
    idle = f.idle;
    waiting = none_left s.client s.number old.leader.waiting f.waiting;
    grows = f.grows;
  })

  inside_fed : (node : NodeValue) → HasBeenFed a e node → HasBeenFed a e (without_term_if_outside node)
  inside_fed node f = by_test (is_outside node)
    where
      by_test : (t : Bool) → HasBeenFed a e (cond t (without_term node) node)
      by_test true = record { acceptor = f.acceptor; idle = refl; waiting = refl; grows = f.grows }
      by_test false = f

  runs_fed : (m : Meaning) (old : NodeValue) (before : OutboxValue) (new : NodeValue) (after : OutboxValue)
      → Runs m old before new after → Reaches width last old → HasBeenFed a e old → HasBeenFed a e new
  runs_fed m old before _ _ stays r f = f
  runs_fed m old before new after (goes_on {mid = mid} {between = between} so_far x) r f =
      let earlier : HasBeenFed a e mid = runs_fed m old before mid between so_far r f in
      let reached : Reaches width last mid = runs_reach width last some m old before mid between so_far r in
      let moves = ran_moves m x.command mid.learner.whole (omega (arith, some, reached.width_is)) in
      subst (HasBeenFed a e) (sym x.becomes) (inside_fed x.mid
      (waited_fed (session_by x.command (run_answer m x.command mid.learner.whole)) _ x.mid _ after x.ends_wait
      (record {
        acceptor = earlier.acceptor;
        idle = earlier.idle;
        waiting = earlier.waiting;
        grows = omega (arith, earlier.grows, moves.0);
      })))

  learned_fed : (p : Pair) (old new : NodeValue) (before after : OutboxValue) → Learns p old before new after
      → HasBeenFed a e old → HasBeenFed a e new
  learned_fed p old new before after (inl kept) f = subst (HasBeenFed a e) (sym kept.1)
      (record { acceptor = f.acceptor; idle = f.idle; waiting = f.waiting; grows = f.grows })
  learned_fed p old new before after (inr left) f = subst (HasBeenFed a e) (sym left.1) f

  record Feeds (node : NodeValue) : Type 0 where
    fed : HasBeenFed a e node
    reaches : Reaches width last node
    known : NothingToRun node

  pairs_feed : (m : Meaning) (first : ℕ) (commands : List Command) (old : NodeValue) (before : OutboxValue) (k : ℕ)
      (new : NodeValue) (after : OutboxValue) → first + length commands ≤ last + 1
      → LearnsPairs m first commands old before k new after → Feeds old → Feeds new
  pairs_feed m first commands old before _ _ _ low none_yet f = f
  pairs_feed m first commands old before _ new after low
      (one_more {k = j} {mid = mid} {between = between} v so_far at l) f =
      let earlier : Feeds mid = pairs_feed m first commands old before j mid between low so_far f in
      let within : j < length commands = slice_get_within commands j v at in
      let learned : Reaches width last l.learned = learned_reaches width last some (first + j, v) mid l.learned between
      l.written l.learns (omega (arith, within, low)) earlier.reaches in
      record {
        fed = runs_fed m l.learned l.written new after l.runs.0 learned
            (learned_fed (first + j, v) mid l.learned between l.written l.learns earlier.fed);
        reaches = runs_reach width last some m l.learned l.written new after l.runs.0 learned;
        known = l.runs.1;
      }

-- without a term nothing is proposed
pub idle_proposes : (xs : List Vote) (old new : NodeValue) (before out : OutboxValue)
    → ProposesAll xs old new before out → old.leader.term ≡ None → new ≡ old
idle_proposes [] old new before out p idle = p.1
idle_proposes (x ∷ xs) old new before out p idle = absurd (cc (sym idle ∙ p.0.current))

module _ (m : Meaning) (IsText : List ℕ → Type 0) (x e top : ℕ) (others : List ℕ) (last from : ℕ)
    (told : DecidedValue) (old new : WorldState ReplicaValue) (k : Contends m IsText old x e top others last)
    (low : told.first + length told.commands ≤ last + 1) (within : e ≤ last)
    (hears : Hears m IsText x (content.Node from (kinds.Decided told)) old new) where
  fed_from : TakesFrom m IsText x (content.Node from (kinds.Decided told)) old new
  fed_from = heard_from m IsText x (content.Node from (kinds.Decided told)) old new hears

  fed_found : IsFound k.candidate fed_from.start
  fed_found = found_as m IsText x (content.Node from (kinds.Decided told)) old new k.candidate hears.goes.before k.up
      fed_from

  fed_takes : Takes m IsText fed_from.start (content.Node from (kinds.Decided told)) fed_from.after.node fed_from.out
  fed_takes = left_as m IsText x (content.Node from (kinds.Decided told)) old new tt fed_from

  abbrev fed_start : NodeValue
  fed_start = fed_from.start

  start_lasts : Lasts k.candidate.node fed_start
  start_lasts = lasts_found k.candidate fed_start fed_found

  start_near : AreNear fed_start.acceptor fed_start.learner
  start_near = start_lasts.near k.near

  start_reach : executed fed_start.learner ≡ e
  start_reach = ap (λ (w : WholeValue). w.roster.executed) start_lasts.whole ∙ k.reach

  some_alpha : 1 ≤ alpha fed_start.learner
  some_alpha =
      let told_by = (shown m IsText old k.holds x k.candidate k.up).1.told.tells in
      let same : alpha fed_start.learner ≡ alpha k.candidate.node.learner =
      ap (λ (w : WholeValue). length w.roster.sets) start_lasts.whole in
      omega (arith, told_by.some, told_by.window, same)

  before_feeding : Feeds fed_start.acceptor e (alpha fed_start.learner) last some_alpha fed_start
  before_feeding = record {
    fed = record {
      acceptor = refl;
      idle = found_has k.candidate fed_start fed_found (λ node. node.leader.term ≡ None) (λ q. q) k.idle;
      waiting = found_has k.candidate fed_start fed_found (λ node. node.leader.waiting ≡ []) (λ q. q) k.waiting;
      grows = omega (arith, start_reach);
    };
    reaches = record {
      width_is = refl;
      within = omega (arith, start_reach, within);
      pairs = subst (λ (ps : List Pair). (p : Pair) → Contains ps p → p.0 ≤ last) (sym start_lasts.pairs) k.pairs;
    };
    known = found_has k.candidate fed_start fed_found NothingToRun (λ q. q) k.known;
  }

  module _ (h : Handled m IsText fed_start (content.Node from (kinds.Decided told)) fed_from.after.node
      fed_from.out) where
    mid_feeds : Feeds fed_start.acceptor e (alpha fed_start.learner) last some_alpha h.mid
    mid_feeds = pairs_feed fed_start.acceptor e (alpha fed_start.learner) last some_alpha m told.first told.commands
        fed_start nothing (length told.commands) h.mid h.first low h.handles before_feeding

    fed_after_is : fed_from.after.node ≡ h.mid
    fed_after_is = idle_proposes h.proposes.0 h.mid fed_from.after.node h.first fed_from.out h.proposes.1
        mid_feeds.fed.idle

    after_feeds : Feeds fed_start.acceptor e (alpha fed_start.learner) last some_alpha fed_from.after.node
    after_feeds = subst (Feeds fed_start.acceptor e (alpha fed_start.learner) last some_alpha) (sym fed_after_is)
        mid_feeds

    abbrev fed_after : NodeValue
    fed_after = fed_from.after.node

    fed_kept : (v : Vote) → Contains fed_after.acceptor.state.votes v → Contains fed_start.acceptor.state.votes v
    fed_kept v c = subst (λ (y : AcceptorValue). Contains y.state.votes v) after_feeds.fed.acceptor c

    fed_contends : (f : ℕ) × (e ≤ f) × (f ≤ last) × Contends m IsText new x f top others last
    fed_contends = (
      executed fed_after.learner,
      after_feeds.fed.grows,
      after_feeds.reaches.within,
      record {
        holds = hears.goes.after;
        candidate = fed_from.after;
        up = fed_from.is;
        reach = refl;
        idle = after_feeds.fed.idle;
        waiting = after_feeds.fed.waiting;
        known = after_feeds.known;
        near = record {
          alpha_is = ap (λ (y : AcceptorValue). y.alpha) after_feeds.fed.acceptor ∙ start_near.alpha_is
              ∙ sym after_feeds.reaches.width_is;
          snapshot = omega (
            arith,
            ap (λ (y : AcceptorValue). y.state.snapshot_position) after_feeds.fed.acceptor,
            start_near.snapshot,
            start_reach,
            after_feeds.fed.grows,
          );
          votes = λ v c.
              let near_one = start_near.votes v (fed_kept v c) in
              omega (arith, near_one, start_reach, after_feeds.fed.grows, after_feeds.reaches.width_is);
        };
        pairs = after_feeds.reaches.pairs;
        votes = λ v c. k.votes v (start_lasts.votes v (fed_kept v c));
        others_may = λ n c. may_vote old new top last n (k.others_may n c) (k.others_may n c).replica
            (fed_from.others n (Up (k.others_may n c).replica)
            (λ is. k.distinct.0 (subst (λ (j : ℕ). Contains others j) is c)) (k.others_may n c).up)
            (lasts_itself (k.others_may n c).replica.node);
        distinct = k.distinct;
      },
    )

pub fed_candidate_contends : (m : Meaning) (IsText : List ℕ → Type 0) → FedCandidateContends m IsText
fed_candidate_contends m IsText x e top others last from told old new k within low hears =
    fed_contends m IsText x e top others last from told old new k low within hears
    (handled m IsText _ (content.Node from (kinds.Decided told)) _ _
    (fed_takes m IsText x e top others last from told old new k low within hears))
