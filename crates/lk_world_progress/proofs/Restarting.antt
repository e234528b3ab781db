-- A restart leaves a node as its disks tell.
use Rattle.std.proofs.Common.{◌≡◌, ◌∙◌, ◌⊎◌, inl, inr, ℕ, zero, suc, ◌+◌, ◌*◌, ◌<◌, ◌≤◌, ◌++◌, Bool, true, false}
use Rattle.std.proofs.Common.{List, [], ◌∷◌, Contains, length, drop, cond, eqb, nat_lt}
use Rattle.std.proofs.Common.{refl, ap, sym, subst, arith, append-nil}
use Rattle.std.proofs.lemmas.Bool.{and_parts, ltb-true, eqb-true, eqb-false}
use Rattle.std.specs.List.{AllByRecursion}
use Rattle.lk_types.specs.declared.genesis.Genesis.{Genesis}
use Rattle.lk_types.specs.declared.vote.Vote.{Vote}
use Rattle.lk_memory_disk.specs.Memory.{disk_of}
use Rattle.lk_store_format.specs.Entries.{IsStored, are_pairs_above}
use Rattle.lk_store_format.specs.Formats.{format}
use Rattle.lk_store_format.specs.Standings.{HasHeader}
use Rattle.lk_store_format.specs.Values.{HeaderValue, StandingValue}
use Rattle.lk_store_format.specs.declared.stored.Stored.{Stored}
use Rattle.lk_store_format.specs.declared.stored.Stored.TheVariants.{Base, Plain}
use Rattle.lk_agreement_laws.proofs.Histories.{cons_cases, contains_more}
use Rattle.lk_state.specs.Meanings.{Meaning}
use Rattle.lk_state.specs.Runs.{ran}
use Rattle.lk_state.specs.States.{WholeValue}
use Rattle.lk_learner.proofs.Learnerships.{ran_moves}
use Rattle.lk_learner.specs.Learners.{Command, Pair, alpha, executed}
use Rattle.lk_node.specs.Executing.{NothingToRun}
use Rattle.lk_node.specs.Leavings.{header_of}
use Rattle.lk_node.specs.Nearness.{AreNear}
use Rattle.lk_node.specs.NewBases.{with_snapshot}
use Rattle.lk_node.specs.NodeValue.{NodeValue}
use Rattle.lk_recovery.specs.Revivals.{RestartsAs, Restores, all_ran, reached, revived, run_from}
use Rattle.lk_replica.specs.ReplicaValue.{ReplicaValue}
use Rattle.lk_replica.specs.Revived.{Revives}
use Rattle.lk_sim.specs.Events.{ComesUp, GoesDown, IsBack, IsRevived}
use Rattle.lk_sim.specs.WorldStates.{WorldState}
use Rattle.lk_sim.specs.declared.event.Event.TheVariants as event
use Rattle.lk_sim_nodes.specs.declared.sim_node.RunState.{RunState}
use Rattle.lk_sim_nodes.specs.declared.sim_node.RunState.TheVariants.{Up, Down}
use Rattle.lk_world_progress.proofs.Balloting.{near_snapshot}
use Rattle.lk_world_progress.proofs.Stepping.{is_there, shown, stay_there, was_there}
use Rattle.lk_world_progress.specs.Restarting.{IsRestarted, NodeRestarts, NodesRestart}
use Rattle.lk_world_progress.specs.Restarting.{RestartsIn, StopsAndRestarts}
use Rattle.lk_world_progress.specs.Stepping.{GoesWell, IsUpAs, Lives, behaviour}

-- ---- the node of a standing

-- each command moves the state one position on, and the window keeps its size
all_moves : (m : Meaning) (vs : List Command) (w : WholeValue) → 1 ≤ length w.roster.sets
    → ((all_ran m vs w).roster.executed ≡ w.roster.executed + length vs)
    × (length (all_ran m vs w).roster.sets ≡ length w.roster.sets)
all_moves m [] w some = (omega arith, refl)
all_moves m (v ∷ vs) w some =
    let one = ran_moves m v w some in
    let rest = all_moves m vs (ran m v w) (omega (arith, one.1, some)) in
    (omega (arith, rest.0, one.0), rest.1 ∙ one.1)

near_revived : (m : Meaning) (IsText : List ℕ → Type 0) (whose : HeaderValue) (s : StandingValue) (node : NodeValue)
    (k : (w : WholeValue) × (node ≡ revived m whose s w)) → 1 ≤ whose.alpha → length k.0.roster.sets ≡ whose.alpha
    → k.0.roster.executed ≡ s.position
    → ((v : Vote) → Contains s.votes v → v.position ≤ reached s.position s.pairs + 2 * whose.alpha)
    → AreNear node.acceptor node.learner
near_revived m IsText whose s node k some sets position votes =
    subst (λ (n : NodeValue). AreNear n.acceptor n.learner) (sym k.1) (record {
      alpha_is = sym (moves.1 ∙ sets);
      snapshot = omega (arith, moves.0, position);
      votes = λ v c. omega (arith, votes v c, moves.0, moves.1, sets, position, length_is);
    })
  where
    moves : ((all_ran m (run_from k.0.roster.executed s.pairs) k.0).roster.executed
        ≡ k.0.roster.executed + length (run_from k.0.roster.executed s.pairs))
        × (length (all_ran m (run_from k.0.roster.executed s.pairs) k.0).roster.sets ≡ length k.0.roster.sets)
    moves = all_moves m (run_from k.0.roster.executed s.pairs) k.0 (omega (arith, sets, some))

    length_is : length (run_from k.0.roster.executed s.pairs) ≡ length (run_from s.position s.pairs)
    length_is = ap (λ (e : ℕ). length (run_from e s.pairs)) position

dropped : (k : ℕ) (ps : List Pair) (p : Pair) → Contains (drop k ps) p → Contains ps p
dropped zero ps p c = c
dropped (suc k) [] p c = c
dropped (suc k) (q ∷ ps) p c = contains_more q ps p (dropped k ps p c)

-- its pairs are near too
near_pairs : (m : Meaning) (whose : HeaderValue) (s : StandingValue) (node : NodeValue)
    (k : (w : WholeValue) × (node ≡ revived m whose s w)) → 1 ≤ whose.alpha → length k.0.roster.sets ≡ whose.alpha
    → k.0.roster.executed ≡ s.position
    → ((p : Pair) → Contains s.pairs p → p.0 ≤ reached s.position s.pairs + 2 * whose.alpha)
    → (p : Pair) → Contains node.learner.pairs p → p.0 ≤ executed node.learner + 2 * alpha node.learner
near_pairs m whose s node k some sets position pairs = subst
    (λ (n : NodeValue). (p : Pair) → Contains n.learner.pairs p → p.0 ≤ executed n.learner + 2 * alpha n.learner)
    (sym k.1) (λ p c.
    let near = pairs p (dropped (length (run_from k.0.roster.executed s.pairs)) s.pairs p c) in
    omega (arith, near, moves.0, moves.1, sets, position, length_is))
  where
    moves : ((all_ran m (run_from k.0.roster.executed s.pairs) k.0).roster.executed
        ≡ k.0.roster.executed + length (run_from k.0.roster.executed s.pairs))
        × (length (all_ran m (run_from k.0.roster.executed s.pairs) k.0).roster.sets ≡ length k.0.roster.sets)
    moves = all_moves m (run_from k.0.roster.executed s.pairs) k.0 (omega (arith, sets, some))

    length_is : length (run_from k.0.roster.executed s.pairs) ≡ length (run_from s.position s.pairs)
    length_is = ap (λ (e : ℕ). length (run_from e s.pairs)) position

-- ---- the pairs that a standing leaves

pairs_parts : (low : ℕ) (p : Pair) (ps : List Pair) → are_pairs_above low (p ∷ ps) ≡ true
    → (low < p.0) × (are_pairs_above p.0 ps ≡ true)
pairs_parts low p ps e = let b = and_parts (nat_lt low p.0) (are_pairs_above p.0 ps) e in (ltb-true low p.0 b.0, b.1)

all_above : (low : ℕ) (ps : List Pair) → are_pairs_above low ps ≡ true → (p : Pair) → Contains ps p → low < p.0
all_above low [] rise p c = absurd (omega (arith, c.1))
all_above low (q ∷ qs) rise p c =
    let b = pairs_parts low q qs rise in
    elim (cons_cases q qs p c) [
      | inl same ↦ subst (λ (x : Pair). low < x.0) same b.0
      | inr later ↦ (let k = all_above q.0 qs b.1 p later in omega (arith, b.0, k))
    ]

-- what a run has not taken does not begin with the next position
none_next : (e : ℕ) (ps : List Pair) → are_pairs_above e ps ≡ true → (v : Command)
    → Contains (drop (length (run_from e ps)) ps) (e + length (run_from e ps) + 1, v) → ⊥
none_next e [] rise v c = absurd (omega (arith, c.1))
none_next e (p ∷ ps) rise v c = by_test (λ r. none_next (e + 1) ps r v) (eqb p.0 (e + 1)) refl c
  where
    parts : (e < p.0) × (are_pairs_above p.0 ps ≡ true)
    parts = pairs_parts e p ps rise

    by_test : (are_pairs_above (e + 1) ps ≡ true
        → Contains (drop (length (run_from (e + 1) ps)) ps) (e + 1 + length (run_from (e + 1) ps) + 1, v) → ⊥)
        → (t : Bool) → eqb p.0 (e + 1) ≡ t
        → Contains (drop (length (cond t (p.1 ∷ run_from (e + 1) ps) [])) (p ∷ ps))
        (e + length (cond t (p.1 ∷ run_from (e + 1) ps) []) + 1, v) → ⊥
    by_test rest true is d =
        let next : p.0 ≡ e + 1 = eqb-true p.0 (e + 1) is in
        rest (subst (λ (j : ℕ). are_pairs_above j ps ≡ true) next parts.1)
        (subst (λ (j : ℕ). Contains (drop (length (run_from (e + 1) ps)) ps) (j, v)) (omega arith) d)
    by_test rest false is d =
        let other : p.0 ≡ e + 1 → ⊥ = eqb-false p.0 (e + 1) is in
        elim (cons_cases p ps (e + 0 + 1, v) d) [
          | inl same ↦ other (ap (λ (x : Pair). x.0) same ∙ omega arith)
          | inr later ↦ (let k = all_above p.0 ps parts.1 (e + 0 + 1, v) later in omega (arith, parts.0, k))
        ]

-- nothing is left to execute
runs_revived : (m : Meaning) (IsText : List ℕ → Type 0) (whose : HeaderValue) (s : StandingValue) (node : NodeValue)
    (k : (w : WholeValue) × (node ≡ revived m whose s w)) → 1 ≤ length k.0.roster.sets
    → k.0.roster.executed ≡ s.position → are_pairs_above s.position s.pairs ≡ true → NothingToRun node
runs_revived m IsText whose s node k some position rise = subst NothingToRun (sym k.1) nothing_left
  where
    e : ℕ
    e = k.0.roster.executed

    moves : ((all_ran m (run_from e s.pairs) k.0).roster.executed ≡ e + length (run_from e s.pairs))
        × (length (all_ran m (run_from e s.pairs) k.0).roster.sets ≡ length k.0.roster.sets)
    moves = all_moves m (run_from e s.pairs) k.0 some

    nothing_left : NothingToRun (revived m whose s k.0)
    nothing_left v c = none_next e s.pairs (subst (λ (j : ℕ). are_pairs_above j s.pairs ≡ true) (sym position) rise) v
        (subst (λ (j : ℕ). Contains (drop (length (run_from e s.pairs)) s.pairs) (j + 1, v)) moves.0 c)

two_formats : (es : List Stored) (h : HeaderValue) → HasHeader es h → AllByRecursion IsStored (es ++ [])
    → (format es ≡ 1) ⊎ (format es ≡ 2)
two_formats [] h has all = absurd has
two_formats (Plain e ∷ es) h has all = absurd has
two_formats (Base b ∷ es) h has all = one_of b.format all.0.0.3.0 all.0.0.3.1
  where
    one_of : (f : ℕ) → 1 ≤ f → f ≤ 2 → (f ≡ 1) ⊎ (f ≡ 2)
    one_of zero low high = absurd (omega (arith, low))
    one_of (suc zero) low high = inl refl
    one_of (suc (suc f)) low high = inr (omega (arith, high))

module _ (m : Meaning) (IsText : List ℕ → Type 0) where
  -- ---- one restart

  module _ (old new : WorldState ReplicaValue) (n : ℕ) (goes : GoesWell m IsText old (event.Restart n) new)
      (k : IsBack (behaviour m IsText) old new n) (r : IsRevived (behaviour m IsText) old new k.next k.device)
      (v : Revives m IsText (disk_of k.device) (header_of old.genesis k.next.number) r.replica r.notes) where
    abbrev whose : HeaderValue
    whose = header_of old.genesis n

    number : k.next.number ≡ n
    number = k.replaces.number ∙ k.number

    restores : RestartsAs m IsText (disk_of k.device) whose v.node v.store r.notes
    restores = subst
        (λ (j : ℕ). RestartsAs m IsText (disk_of k.device) (header_of old.genesis j) v.node v.store r.notes)
        number v.restarts

    up : IsUpAs new n r.replica
    up = is_there old new n k.sim_node k.next k.number k.replaces (Up r.replica) r.up

    same : ((v.store.format ≡ 2) × (r.replica.node ≡ v.node))
        ⊎ ((v.store.format ≡ 1) × (r.replica.node ≡ with_snapshot v.node))
    same = elim (two_formats restores.opens.entries whose restores.opens.header restores.opens.holds.fit) [
      | inl one ↦ inr (restores.opens.format_is ∙ one, (v.renews.rebases (restores.opens.format_is ∙ one)).becomes)
      | inr two ↦ inl (restores.opens.format_is ∙ two, (v.renews.rests (restores.opens.format_is ∙ two)).0)
    ]

    some : 1 ≤ whose.alpha
    some = subst (λ (g : Genesis). 1 ≤ g.alpha) r.adds.genesis
        (shown m IsText new goes.after n r.replica up).1.told.tells.some

    restored : (s : Restores m IsText whose restores.standing v.node r.notes) → IsRestarted v.node
    restored s = record {
      leader = ap (λ (node : NodeValue). node.leader) s.node_is;
      ticks = ap (λ (node : NodeValue). node.ticks) s.node_is;
      rounds = ap (λ (node : NodeValue). node.rounds) s.node_is;
      known = ap (λ (node : NodeValue). node.known) s.node_is;
      gathered = ap (λ (node : NodeValue). node.learner.gathered) s.node_is;
      near = near_revived m IsText whose restores.standing v.node (s.whole, s.node_is) some s.may.unpacks.sets
          s.may.unpacks.executed s.may.votes;
      pairs = near_pairs m whose restores.standing v.node (s.whole, s.node_is) some s.may.unpacks.sets
          s.may.unpacks.executed s.may.pairs;
      runs = runs_revived m IsText whose restores.standing v.node (s.whole, s.node_is)
          (omega (arith, s.may.unpacks.sets, some)) s.may.unpacks.executed restores.opens.stands.pairs_rise;
    }

    snapshot_restarted : IsRestarted v.node → IsRestarted (with_snapshot v.node)
    snapshot_restarted i = record {
      leader = i.leader;
      ticks = i.ticks;
      rounds = i.rounds;
      known = i.known;
      gathered = i.gathered;
      near = near_snapshot v.node i.near;
      pairs = i.pairs;
      runs = i.runs;
    }

    one_restarts : RestartsIn m IsText n old new
    one_restarts = record {
      device = k.device;
      was = was_there old new n k.sim_node k.next k.number k.replaces (Down k.device) k.down;
      after = r.replica;
      is = up;
      node = v.node;
      store = v.store;
      notes = r.notes;
      restores = restores;
      same = same;
      restarted = elim same [
        | inl e ↦ subst IsRestarted (sym e.1) (restored restores.restores)
        | inr e ↦ subst IsRestarted (sym e.1) (snapshot_restarted (restored restores.restores))
      ];
      sent = r.adds.sent ∙ append-nil old.sent;
      others = stay_there old new n k.sim_node k.next k.number k.replaces;
      genesis = r.adds.genesis;
    }

  pub restarts : NodeRestarts m IsText
  restarts old new n goes = by_result k.comes
    where
      k : IsBack (behaviour m IsText) old new n
      k = goes.done.1

      by_result : ComesUp (behaviour m IsText) old new k.next k.device → RestartsIn m IsText n old new
      by_result (inl r) = one_restarts old new n goes k r r.revives.0
      by_result (inr fault) = absurd (cc (sym goes.alive ∙ fault.ended))

  -- ---- several

  -- what a restart leaves, after a stop or without one
  record Restarted (n : ℕ) (old new : WorldState ReplicaValue) : Type 0 where
    after : ReplicaValue
    is : IsUpAs new n after
    restarted : IsRestarted after.node
    sent : new.sent ≡ old.sent
    others : (k : ℕ) (run_state : RunState ReplicaValue) → (k ≡ n → ⊥) → Lives old k run_state → Lives new k run_state
    genesis : new.genesis ≡ old.genesis

  one : (old new : WorldState ReplicaValue) (n : ℕ) → StopsAndRestarts m IsText n old new → Restarted n old new
  one old new n (inl goes) =
      let k = restarts old new n goes in
      record {
        after = k.after;
        is = k.is;
        restarted = k.restarted;
        sent = k.sent;
        others = k.others;
        genesis = k.genesis;
      }
  one old new n (inr stops) =
      let off = stops.2 in
      let down : GoesDown (behaviour m IsText) old off n stops.0 stops.1 = stops.3.done.1 in
      let k = restarts off new n stops.4 in
      record {
        after = k.after;
        is = k.is;
        restarted = k.restarted;
        sent = k.sent ∙ down.adds.sent ∙ append-nil old.sent;
        others = λ j run_state ne c. k.others j run_state ne
            (stay_there old off n down.sim_node down.next down.number down.replaces j run_state ne c);
        genesis = k.genesis ∙ down.adds.genesis;
      }

  pub all_restart : NodesRestart m IsText
  all_restart old new [] distinct same = record {
    each = λ n c. absurd (omega (arith, c.1));
    sent = ap (λ (w : WorldState ReplicaValue). w.sent) same;
    others = λ k run_state no c. subst (λ (w : WorldState ReplicaValue). Lives w k run_state) (sym same) c;
    genesis = ap (λ (w : WorldState ReplicaValue). w.genesis) same;
  }
  all_restart old new (n ∷ ns) distinct d =
      let first = one old d.0 n d.1 in
      let rest = all_restart d.0 new ns distinct.1 d.2 in
      record {
        each = λ k c. elim (cons_cases n ns k c) [
          | inl is ↦ (
            first.after,
            subst (λ (j : ℕ). IsUpAs new j first.after) is
                (rest.others n (Up first.after) distinct.0 first.is),
            first.restarted,
          )
          | inr later ↦ rest.each k later
        ];
        sent = rest.sent ∙ first.sent;
        others = λ k run_state no c. rest.others k run_state (λ later. no (contains_more n ns k later))
            (first.others k run_state (λ e. no (0, omega arith, sym e)) c);
        genesis = rest.genesis ∙ first.genesis;
      }
