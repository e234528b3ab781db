-- A majority that is restarted may level, and once all of it has executed as much, it may contend.
use Rattle.std.proofs.Common.{◌≡◌, ◌∙◌, inl, inr, ℕ, ◌+◌, ◌*◌, ◌<◌, ◌≤◌, ◌++◌, true, List, [], ◌∷◌, length, Contains}
use Rattle.std.proofs.Common.{refl, ap, sym, subst, arith, append-nil}
use Rattle.std.proofs.lemmas.Bool.{cases_lt}
use Rattle.lk_types.specs.declared.command.Request.{Request as RequestValue}
use Rattle.lk_types.specs.declared.genesis.Genesis.{Genesis}
use Rattle.lk_agreement_laws.proofs.Histories.{cons_cases, contains_more}
use Rattle.lk_agreement_laws.specs.Chosen.{Chosen, Command}
use Rattle.lk_agreement_laws.specs.Datagrams.{Datagram}
use Rattle.lk_members.proofs.Memberships.{majority_lies_within}
use Rattle.lk_members.specs.Majorities.{IsMajority}
use Rattle.lk_members.specs.Rosters.{is_member}
use Rattle.lk_state.specs.Meanings.{Meaning}
use Rattle.lk_state.specs.States.{WholeValue}
use Rattle.lk_leader.specs.Terms.{LeaderValue}
use Rattle.lk_learner.specs.Learners.{executed}
use Rattle.lk_node.specs.Beginning.{greatest_round}
use Rattle.lk_replica.specs.ReplicaValue.{ReplicaValue}
use Rattle.lk_sim.specs.Events.{ComesUp, GoesDown, IsBack}
use Rattle.lk_sim.specs.WorldStates.{WorldState}
use Rattle.lk_sim.specs.Traces.{asked_in}
use Rattle.lk_sim.specs.declared.event.Event.TheVariants as event
use Rattle.lk_world_feeding.proofs.Knowing.{window_alpha}
use Rattle.lk_world_progress.proofs.Stepping.{one_replica, up_fits}
use Rattle.lk_world_progress.specs.Delivering.{AreDistinct}
use Rattle.lk_world_progress.specs.Restarting.{HaveRestarted, NodeRestarts, NodesRestart, RestartInTurn}
use Rattle.lk_world_progress.specs.Restarting.{StopsAndRestarts}
use Rattle.lk_world_progress.specs.Stepping.{behaviour, GoesWell, Holds, IsUpAs}
use Rattle.lk_world_leftovers.specs.Persisting.{Contends, MayVote}
use Rattle.lk_world_leftovers.specs.Restarted.{EndsBy, RestartedNodesEnd}
use Rattle.lk_healing.proofs.Asks.{asked_both, own_notes}
use Rattle.lk_healing.proofs.Feeds.{nobody_changes}
use Rattle.lk_healing.proofs.Gains.{round_low}
use Rattle.lk_healing.proofs.Lengths.{chosen_is_short}
use Rattle.lk_healing.proofs.Promises.{all_promised, turn_holds}
use Rattle.lk_healing.proofs.Questions.{state_executed}
use Rattle.lk_healing.proofs.Stands.{header_valid}
use Rattle.lk_healing.specs.Contending.{MayContendFor, MayStand}
use Rattle.lk_healing.specs.Feeds.{MayGain}
use Rattle.lk_healing.specs.Heals.{MayHeal}
use Rattle.lk_healing.specs.Levels.{AreEqual, MayLevel}

-- ---- restarts ask nothing

module _ (m : Meaning) (IsText : List ℕ → Type 0) where
  restart_asks : (old new : WorldState ReplicaValue) (n : ℕ) → GoesWell m IsText old (event.Restart n) new
      → asked_in new.trace ≡ asked_in old.trace
  restart_asks old new n goes = by_result k.comes
    where
      k : IsBack (behaviour m IsText) old new n
      k = goes.done.1

      by_result : ComesUp (behaviour m IsText) old new k.next k.device → asked_in new.trace ≡ asked_in old.trace
      by_result (inl r) = ap asked_in r.adds.trace ∙ asked_both old.trace r.notes
          ∙ ap (λ (l : List RequestValue). asked_in old.trace ++ l) (own_notes r.notes r.of_nodes)
          ∙ append-nil (asked_in old.trace)
      by_result (inr fault) = absurd (cc (sym goes.alive ∙ fault.ended))

  stop_asks : (old new : WorldState ReplicaValue) (n x y : ℕ) → GoesDown (behaviour m IsText) old new n x y
      → asked_in new.trace ≡ asked_in old.trace
  stop_asks old new n x y k = ap asked_in (k.adds.trace ∙ append-nil old.trace)

  turn_asks_nothing : (ns : List ℕ) (old new : WorldState ReplicaValue) → RestartInTurn m IsText ns old new
      → asked_in new.trace ≡ asked_in old.trace
  turn_asks_nothing [] old new same = ap (λ (w : WorldState ReplicaValue). asked_in w.trace) same
  turn_asks_nothing (n ∷ ns) old new turn = turn_asks_nothing ns turn.0 new turn.2 ∙ one turn.1
    where
      one : StopsAndRestarts m IsText n old turn.0 → asked_in turn.0.trace ≡ asked_in old.trace
      one (inl goes) = restart_asks old turn.0 n goes
      one (inr stops) = restart_asks stops.2 turn.0 n stops.4
          ∙ stop_asks old stops.2 n stops.0 stops.1 stops.3.done.1

-- ---- whoever has executed most

-- the node is up, and has executed so many positions
abbrev Reaches : WorldState ReplicaValue → ℕ → ℕ → Type 0
Reaches w n e = (r : ReplicaValue) × IsUpAs w n r × (executed r.node.learner ≡ e)

-- one of these nodes has executed as many as any
record HasTop (w : WorldState ReplicaValue) (ns : List ℕ) : Type 0 where
  top : ℕ
  most : ℕ
  among : Contains ns top
  reaches : Reaches w top most
  above : (n e : ℕ) → Contains ns n → Reaches w n e → e ≤ most

module _ (m : Meaning) (IsText : List ℕ → Type 0) (w : WorldState ReplicaValue) (holds : Holds m IsText w) where
  as_far : (n e d : ℕ) → Reaches w n e → Reaches w n d → e ≡ d
  as_far n e d r q = sym r.2 ∙ ap (λ (y : ReplicaValue). executed y.node.learner)
      (one_replica m IsText w holds n r.0 q.0 r.1 q.1) ∙ q.2

  top_of : (n : ℕ) (ns : List ℕ) → ((j : ℕ) → Contains (n ∷ ns) j → (e : ℕ) × Reaches w j e) → HasTop w (n ∷ ns)
  top_of n [] each =
      let own = each n (0, omega arith, refl) in record {
        top = n;
        most = own.0;
        among = (0, omega arith, refl);
        reaches = own.1;
        above = λ j e c at. elim (cons_cases n [] j c) [
          | inl is ↦ omega (arith, as_far n e own.0 (subst (λ (i : ℕ). Reaches w i e) (sym is) at) own.1)
          | inr none ↦ absurd (omega (arith, none.1))
        ];
      }
  top_of n (k ∷ ns) each =
      let own = each n (0, omega arith, refl) in
      let rest : HasTop w (k ∷ ns) = top_of k ns (λ j c. each j (contains_more n (k ∷ ns) j c)) in
      elim (cases_lt rest.most own.0) [
        | inl more ↦ record {
          top = n;
          most = own.0;
          among = (0, omega arith, refl);
          reaches = own.1;
          above = λ j e c at. elim (cons_cases n (k ∷ ns) j c) [
            | inl is ↦ omega (arith, as_far n e own.0 (subst (λ (i : ℕ). Reaches w i e) (sym is) at) own.1)
            | inr later ↦ (let low = rest.above j e later at in omega (arith, low, more))
          ];
        }
        | inr less ↦ record {
          top = rest.top;
          most = rest.most;
          among = contains_more n (k ∷ ns) rest.top rest.among;
          reaches = rest.reaches;
          above = λ j e c at. elim (cons_cases n (k ∷ ns) j c) [
            | inl is ↦ omega (arith, as_far n e own.0 (subst (λ (i : ℕ). Reaches w i e) (sym is) at) own.1, less)
            | inr later ↦ rest.above j e later at
          ];
        }
      ]

-- ---- after the restarts

module _ (m : Meaning) (IsText : List ℕ → Type 0) (node_law : NodeRestarts m IsText) (law : NodesRestart m IsText)
    (ends_law : RestartedNodesEnd m IsText) (x : ℕ) (nodes : List ℕ) (request : RequestValue)
    (start now : WorldState ReplicaValue) (holds : Holds m IsText start) (k : MayHeal start x nodes request)
    (turn : RestartInTurn m IsText nodes start now) where
  now_holds : Holds m IsText now
  now_holds = turn_holds m IsText node_law nodes start now holds turn

  has : HaveRestarted nodes start now
  has = law start now nodes k.distinct turn

  asked : asked_in now.trace ≡ asked_in start.trace
  asked = turn_asks_nothing m IsText nodes start now turn

  in_nodes : (n : ℕ) → Contains (x ∷ k.others) n → Contains nodes n
  in_nodes n c = subst (λ (l : List ℕ). Contains l n) (sym k.are) c

  tops : HasTop now (x ∷ k.others)
  tops = top_of m IsText now now_holds x k.others (λ j c.
      let one = has.each j (in_nodes j c) in (executed one.0.node.learner, (one.0, one.1, refl)))

  abbrev last : ℕ
  last = tops.most + 2 * now.genesis.alpha

  ends : (n : ℕ) → Contains nodes n → (r : ReplicaValue) → IsUpAs now n r → EndsBy r.node last
  ends n c r up = ends_law nodes tops.most start now has now_holds (λ j d q at. tops.above j (executed q.node.learner)
      (subst (λ (l : List ℕ). Contains l j) k.are d) (q, at, refl)) n c r up

  member : (n : ℕ) → Contains nodes n → is_member n now.genesis.members ≡ true
  member n c = subst (λ (g : Genesis). is_member n g.members ≡ true) (sym has.genesis)
      (majority_lies_within start.genesis.members (x ∷ k.others) n k.fixed.majority
      (subst (λ (l : List ℕ). Contains l n) k.are c))

  gains : (n : ℕ) → Contains nodes n → (r : ReplicaValue) × MayGain m IsText now last n r
  gains n c =
      let one = has.each n c in
      let end : EndsBy one.0.node last = ends n c one.0 one.1 in (
        one.0,
        record {
          holds = now_holds;
          member = member n c;
          up = one.1;
          idle = ap (λ (l : LeaderValue). l.term) one.2.leader;
          waiting = ap (λ (l : LeaderValue). l.waiting) one.2.leader;
          known = one.2.runs;
          near = one.2.near;
          within = end.within;
          pairs = end.pairs;
          votes = end.votes;
          round = round_low one.0.node.acceptor.state.promised one.0.node.rounds 281474976710656
              (all_promised m IsText node_law law nodes start now k.distinct k.started k.rounds turn now_holds n c one.0
              one.1) (omega (arith, one.2.rounds));
        },
      )

  top_reach : (c : Contains nodes tops.top) → tops.most ≡ executed (gains tops.top c).0.node.learner
  top_reach c = as_far m IsText now now_holds tops.top tops.most (executed (gains tops.top c).0.node.learner)
      tops.reaches
      ((gains tops.top c).0, (gains tops.top c).1.up, refl)

  pub restarted_level : MayLevel m IsText now x nodes
  restarted_level = record {
    others = k.others;
    are = k.are;
    distinct = k.distinct;
    changes = nobody_changes start now asked k.fixed.changes;
    last = last;
    each = gains;
    top = tops.top;
    among = in_nodes tops.top tops.among;
    near = omega (arith, top_reach (in_nodes tops.top tops.among));
  }

  -- positions are left after the last one, as each executed command was accepted in a datagram of its own
  last_low : length start.sent ≤ 99000 → last < 281474976710656
  last_low few =
      let u = up_fits m IsText now now_holds tops.top tops.reaches.0 tops.reaches.1 in
      let done : List Command = u.holding.paxos.done in
      let reach : executed tops.reaches.0.node.learner ≡ length done =
      ap (λ (y : WholeValue). y.roster.executed) u.shown.held.follows.sums ∙ state_executed m now.genesis done in
      let chosen : Chosen start.genesis start.sent done =
      subst (λ (g : Genesis). Chosen g start.sent done) has.genesis
      (subst (λ (ds : List Datagram). Chosen now.genesis ds done) has.sent u.fits.paxos.stems.done) in
      let short = chosen_is_short start.genesis start.sent done chosen in
      let valid = header_valid m IsText now now_holds tops.top tops.reaches.0 tops.reaches.1 in
      omega (arith, short, few, reach, tops.reaches.2, valid.2.1)

  -- ---- once all have executed as much

  module _ (new : WorldState ReplicaValue) (e : AreEqual m IsText x nodes now new restarted_level) where
    all_asked : asked_in new.trace ≡ asked_in start.trace
    all_asked = e.asked ∙ asked

    genesis : new.genesis ≡ start.genesis
    genesis = e.genesis ∙ has.genesis

    abbrev most : ℕ
    most = restarted_level.last

    is_last : restarted_level.last ≡ last
    unfolding restarted_level
    is_last = refl

    own : (r : ReplicaValue) × MayGain m IsText new restarted_level.last x r × (executed r.node.learner ≡ e.e)
    own = e.each x (in_nodes x (0, omega arith, refl))

    other : (n : ℕ) → Contains k.others n
        → (r : ReplicaValue) × MayGain m IsText new restarted_level.last n r × (executed r.node.learner ≡ e.e)
    other n c = e.each n (in_nodes n (contains_more x k.others n c))

    votes : (n : ℕ) → Contains k.others n → MayVote new e.e restarted_level.last n
    votes n c =
        let one = other n c in
        let width = window_alpha m IsText new one.1.holds n one.0 one.1.up in record {
          replica = one.0;
          up = one.1.up;
          near = one.1.near;
          behind = omega (arith, one.2);
          reaches = omega (arith, e.near, one.2, width);
          pairs = one.1.pairs;
          votes = one.1.votes;
        }

    contends : Contends m IsText new x e.e e.e k.others restarted_level.last
    contends = record {
      holds = own.1.holds;
      candidate = own.0;
      up = own.1.up;
      reach = own.2;
      idle = own.1.idle;
      waiting = own.1.waiting;
      known = own.1.known;
      near = own.1.near;
      pairs = own.1.pairs;
      votes = own.1.votes;
      others_may = votes;
      distinct = subst AreDistinct k.are k.distinct;
    }

    stands : length start.sent ≤ 99000 → MayStand m IsText new x nodes
    stands few = record {
      others = k.others;
      are = k.are;
      e = e.e;
      last = restarted_level.last;
      contends = contends;
      within = omega (arith, own.1.within, own.2);
      level = λ n c q up. as_far m IsText new own.1.holds n (executed q.node.learner) e.e (q, up, refl)
          ((other n c).0, (other n c).1.up, (other n c).2);
      rounds = λ n c q up. subst (λ (y : ReplicaValue). greatest_round y.node < 281474976710656)
          (one_replica m IsText new own.1.holds n (e.each n c).0 q (e.each n c).1.up up) (e.each n c).1.round;
      fixed = record {
        changes = nobody_changes start new all_asked k.fixed.changes;
        named = subst (λ (g : Genesis). is_member x g.members ≡ true) (sym genesis) k.fixed.named;
        majority = subst (λ (g : Genesis). IsMajority (x ∷ k.others) g.members) (sym genesis) k.fixed.majority;
      };
      room = omega (arith, is_last, last_low few);
    }

    pub may_contend : length start.sent ≤ 99000 → MayContendFor m IsText new x nodes request
    may_contend few = record {
      stands = stands few;
      fresh = λ q c same. k.fresh q (subst (λ (l : List RequestValue). Contains l q) all_asked c) same;
    }

    pub alpha_still : (a : ℕ) → a ≡ start.genesis.alpha → a ≡ new.genesis.alpha
    alpha_still a is = is ∙ ap (λ (g : Genesis). g.alpha) (sym genesis)
