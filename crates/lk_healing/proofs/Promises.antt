-- A node that is stopped and restarted has promised what it had promised before.
use Rattle.std.proofs.Common.{◌≡◌, ◌∙◌, inl, inr, ℕ, zero, suc, ◌<◌, ◌++◌, List, [], ◌∷◌, take, Contains}
use Rattle.std.proofs.Common.{refl, ap, sym, subst, arith, append-nil, append_assoc}
use Rattle.std.specs.List.{AllByRecursion}
use Rattle.lk_types.specs.BallotValue.{BallotValue}
use Rattle.lk_types.specs.Ballots.{zero_ballot}
use Rattle.lk_types.specs.declared.entry.Entry.{Entry}
use Rattle.lk_types.specs.declared.entry.Entry.TheVariants.{Promise, Vote, Decided}
use Rattle.lk_types.specs.declared.genesis.Genesis.{Genesis}
use Rattle.lk_disk.specs.Disk.{Disk, MayLeave, after_stop, contents}
use Rattle.lk_disk.specs.declared.device.Side.TheVariants.{A, B}
use Rattle.lk_memory_disk.specs.Memory.{Memory, disk_of}
use Rattle.lk_store_format.specs.Entries.{plain}
use Rattle.lk_store_format.specs.Standings.{ballots, ballots_in, greatest_of}
use Rattle.lk_store_format.specs.Values.{HeaderValue, StandingValue}
use Rattle.lk_store_format.specs.declared.stored.Stored.{Stored}
use Rattle.lk_log.proofs.StoreLaws.{found_live, holds_keeps, keeps_some}
use Rattle.lk_log.specs.Images.{Image, IsLive, MayLeaveBoth, seen}
use Rattle.lk_log.specs.StoreValue.{StoreValue, disks}
use Rattle.lk_agreement_laws.proofs.Histories.{cons_cases, contains_more}
use Rattle.lk_agreement_laws.specs.Acceptors.{AcceptorState}
use Rattle.lk_state.specs.Meanings.{Meaning}
use Rattle.lk_node.specs.BorneOut.{text}
use Rattle.lk_node.specs.Keeping.{IsDecidedEntry, StoreKeeps}
use Rattle.lk_node.specs.Leavings.{StandsAs, header_of}
use Rattle.lk_node.specs.NodeValue.{NodeValue}
use Rattle.lk_replica.specs.ReplicaValue.{ReplicaValue, device_of}
use Rattle.lk_sim.specs.Events.{GoesDown}
use Rattle.lk_sim.specs.WorldStates.{WorldState}
use Rattle.lk_sim_nodes.specs.SimNodes.{stopped_on}
use Rattle.lk_sim_nodes.specs.declared.sim_node.RunState.{RunState}
use Rattle.lk_sim_nodes.specs.declared.sim_node.RunState.TheVariants.{Up, Down}
use Rattle.lk_world_progress.proofs.Stepping.{is_there, one_run_state, one_replica, shown, stay_there, was_there}
use Rattle.lk_world_progress.specs.Delivering.{AreDistinct}
use Rattle.lk_world_progress.specs.Restarting.{HaveRestarted, NodeRestarts, NodesRestart, RestartInTurn, RestartsIn}
use Rattle.lk_world_progress.specs.Restarting.{StopsAndRestarts}
use Rattle.lk_world_progress.specs.Stepping.{behaviour, Holds, IsUpAs, Lives}
use Rattle.lk_healing.proofs.Carrying.{lives_of}
use Rattle.lk_healing.proofs.Restarts.{sits_of}
use Rattle.lk_healing.specs.Heals.{HasRoundOnDisks}
use Rattle.lk_healing.specs.Restarts.{AreStarted}

same_down : (d e : Memory) → ◌≡◌ {A = RunState ReplicaValue} (Down d) (Down e) → d ≡ e
same_down d e is = cc is

-- ---- what is not synced has no ballot

no_ballots : (k : ℕ) (es : List Entry) → AllByRecursion IsDecidedEntry es → ballots (plain (take k es)) ≡ []
no_ballots zero es all = refl
no_ballots (suc k) [] all = refl
no_ballots (suc k) (Promise b ∷ es) all = absurd all.0
no_ballots (suc k) (Vote v ∷ es) all = absurd all.0
no_ballots (suc k) (Decided i c ∷ es) all = no_ballots k es all.1

ballots_both : (xs ys : List Stored) → ballots (xs ++ ys) ≡ ballots xs ++ ballots ys
ballots_both [] ys = refl
ballots_both (x ∷ xs) ys =
    ap (λ (l : List BallotValue). ballots_in x ++ l) (ballots_both xs ys)
    ∙ sym (append_assoc (ballots_in x) (ballots xs) (ballots ys))

-- ---- a stop

side_left : (n : ℕ) (d : Disk) → MayLeave d (contents (after_stop n d))
side_left n d = (n, append-nil (d.synced ++ take n d.unsynced))

stop_left : (x y : ℕ) (s : StoreValue) → MayLeaveBoth (disks s) (seen (disk_of (stopped_on x y (device_of s))))
stop_left x y s A = side_left x (disks s A)
stop_left x y s B = side_left y (disks s B)

-- whatever it leaves unsynced, the disks tell of the same promise
stop_keeps : (whose : HeaderValue) (zero_text : List ℕ) (x y : ℕ) (store : StoreValue) (state : AcceptorState)
    → StoreKeeps whose store state → (s : StandingValue)
    → StandsAs whose zero_text (seen (disk_of (stopped_on x y (device_of store)))) s → s.promised ≡ state.promised
stop_keeps whose zero_text x y store state kept s tells =
    let image : Image = seen (disk_of (stopped_on x y (device_of store))) in
    let live : (k : ℕ) × IsLive image (kept.entries ++ plain (take k kept.loose)) =
    keeps_some store kept.entries kept.loose (holds_keeps store kept.entries (plain kept.loose) kept.holds) image
    (stop_left x y store) in
    let are : tells.entries ≡ kept.entries ++ plain (take live.0 kept.loose) =
    found_live image whose zero_text tells.entries (kept.entries ++ plain (take live.0 kept.loose))
    live.1 tells.found in
    let same : ballots tells.entries ≡ ballots kept.entries =
    ap ballots are ∙ ballots_both kept.entries (plain (take live.0 kept.loose))
    ∙ ap (λ (l : List BallotValue). ballots kept.entries ++ l) (no_ballots live.0 kept.loose kept.decided)
    ∙ append-nil (ballots kept.entries) in
    tells.stands.promised ∙ ap (λ (l : List BallotValue). greatest_of zero_ballot l) same
    ∙ sym kept.stands.promised ∙ ap (λ (a : AcceptorState). a.promised) kept.remembers

module _ (m : Meaning) (IsText : List ℕ → Type 0) (law : NodeRestarts m IsText) where
  -- ---- a restart

  -- the node has promised what its disks tell
  disks_tell : (old new : WorldState ReplicaValue) (n : ℕ) (r : RestartsIn m IsText n old new)
      → (zero_text : List ℕ) × (s : StandingValue)
      × StandsAs (header_of old.genesis n) zero_text (seen (disk_of r.device)) s
      × (r.after.node.acceptor.state.promised ≡ s.promised)
  disks_tell old new n r = (
    text m r.restores.genesis [],
    r.restores.standing,
    record {
      entries = r.restores.opens.entries;
      found = r.restores.opens.found;
      header = r.restores.opens.header;
      stands = r.restores.opens.stands;
    },
    promised,
  )
    where
      node_promised : r.node.acceptor.state.promised ≡ r.restores.standing.promised
      node_promised = ap (λ (node : NodeValue). node.acceptor.state.promised) r.restores.restores.node_is

      promised : r.after.node.acceptor.state.promised ≡ r.restores.standing.promised
      promised = elim r.same [
        | inl is ↦ ap (λ (node : NodeValue). node.acceptor.state.promised) is.1 ∙ node_promised
        | inr is ↦ ap (λ (node : NodeValue). node.acceptor.state.promised) is.1 ∙ node_promised
      ]

  one_promised : (old new : WorldState ReplicaValue) (n : ℕ) → HasRoundOnDisks old n → StopsAndRestarts m
      IsText n old new
      → (r : ReplicaValue) → IsUpAs new n r → r.node.acceptor.state.promised.round < 281474976710656
  one_promised old new n round (inl goes) r up =
      let back : RestartsIn m IsText n old new = law old new n goes in
      let tells = disks_tell old new n back in
      subst (λ (y : ReplicaValue). y.node.acceptor.state.promised.round < 281474976710656)
      (one_replica m IsText new goes.after n back.after r back.is up)
      (subst (λ (b : BallotValue). b.round < 281474976710656) (sym tells.3)
      (round.down back.device back.was tells.0 tells.1 tells.2))
  one_promised old new n round (inr stops) r up =
      let off = stops.2 in
      let down : GoesDown (behaviour m IsText) old off n stops.0 stops.1 = stops.3.done.1 in
      let back : RestartsIn m IsText n off new = law off new n stops.4 in
      let tells = disks_tell off new n back in
      let was : IsUpAs old n down.replica =
      was_there old off n down.sim_node down.next down.number down.replaces (Up down.replica) down.up in
      let device : back.device ≡ stopped_on stops.0 stops.1 (device_of down.replica.store) =
      same_down back.device (stopped_on stops.0 stops.1 (device_of down.replica.store))
      (one_run_state m IsText off stops.3.after n (Down back.device)
      (Down (stopped_on stops.0 stops.1 (device_of down.replica.store))) back.was
      (is_there old off n down.sim_node down.next down.number down.replaces
      (Down (stopped_on stops.0 stops.1 (device_of down.replica.store))) down.down)) in
      let kept : StoreKeeps (header_of old.genesis n) down.replica.store down.replica.node.acceptor.state =
      (shown m IsText old stops.3.before n down.replica was).1.keeps in
      let genesis : off.genesis ≡ old.genesis = down.adds.genesis in
      let promised : tells.1.promised ≡ down.replica.node.acceptor.state.promised =
      stop_keeps (header_of old.genesis n) tells.0 stops.0 stops.1 down.replica.store
      down.replica.node.acceptor.state kept tells.1
      (subst (λ (d : Memory). StandsAs (header_of old.genesis n) tells.0 (seen (disk_of d)) tells.1)
      device (subst (λ (g : Genesis). StandsAs (header_of g n) tells.0 (seen (disk_of back.device)) tells.1) genesis
      tells.2)) in
      subst (λ (y : ReplicaValue). y.node.acceptor.state.promised.round < 281474976710656)
      (one_replica m IsText new stops.4.after n back.after r back.is up)
      (subst (λ (b : BallotValue). b.round < 281474976710656) (sym (tells.3 ∙ promised))
      (round.up down.replica was))

  -- ---- several

  -- another node is as before
  other_stays : (old new : WorldState ReplicaValue) (n j : ℕ) → (j ≡ n → ⊥) → StopsAndRestarts m IsText n old new
      → (run_state : RunState ReplicaValue) → Lives old j run_state → Lives new j run_state
  other_stays old new n j ne (inl goes) run_state c = (law old new n goes).others j run_state ne c
  other_stays old new n j ne (inr stops) run_state c =
      let down : GoesDown (behaviour m IsText) old stops.2 n stops.0 stops.1 = stops.3.done.1 in
      (law stops.2 new n stops.4).others j run_state ne
      (stay_there old stops.2 n down.sim_node down.next down.number down.replaces j run_state ne c)

  same_genesis : (old new : WorldState ReplicaValue) (n : ℕ) → StopsAndRestarts m IsText n old new
      → new.genesis ≡ old.genesis
  same_genesis old new n (inl goes) = (law old new n goes).genesis
  same_genesis old new n (inr stops) =
      let down : GoesDown (behaviour m IsText) old stops.2 n stops.0 stops.1 = stops.3.done.1 in
      (law stops.2 new n stops.4).genesis ∙ down.adds.genesis

  after_holds : (old new : WorldState ReplicaValue) (n : ℕ) → StopsAndRestarts m IsText n old new → Holds m IsText new
  after_holds old new n (inl goes) = goes.after
  after_holds old new n (inr stops) = stops.4.after

  pub turn_holds : (ns : List ℕ) (old new : WorldState ReplicaValue) → Holds m IsText old → RestartInTurn m
      IsText ns old new
      → Holds m IsText new
  turn_holds [] old new holds same = subst (λ (w : WorldState ReplicaValue). Holds m IsText w) (sym same) holds
  turn_holds (n ∷ ns) old new holds turn = turn_holds ns turn.0 new (after_holds old turn.0 n turn.1) turn.2

  round_stays : (old new : WorldState ReplicaValue) (n j : ℕ) (run_state : RunState ReplicaValue)
      → Lives old j run_state → (j ≡ n → ⊥)
      → StopsAndRestarts m IsText n old new → HasRoundOnDisks old j → HasRoundOnDisks new j
  round_stays old new n j run_state c ne k round = record {
    up = λ r up.
        let is : run_state ≡ Up r = one_run_state m IsText new (after_holds old new n k) j run_state (Up r)
        (other_stays old new n j ne k run_state c) up in
        round.up r (subst (λ (l : RunState ReplicaValue). Lives old j l) is c);
    down = λ d at zero_text s tells.
        let is : run_state ≡ Down d = one_run_state m IsText new (after_holds old new n k) j run_state (Down d)
        (other_stays old new n j ne k run_state c) at in
        round.down d (subst (λ (l : RunState ReplicaValue). Lives old j l) is c) zero_text s
        (subst (λ (g : Genesis). StandsAs (header_of g j) zero_text (seen (disk_of d)) s)
        (same_genesis old new n k) tells);
  }

  pub all_promised : NodesRestart m IsText → (ns : List ℕ) (old new : WorldState ReplicaValue) → AreDistinct ns
      → AreStarted old ns → ((n : ℕ) → Contains ns n → HasRoundOnDisks old n) → RestartInTurn m IsText ns old new
      → Holds m IsText new
      → (n : ℕ) → Contains ns n → (r : ReplicaValue) → IsUpAs new n r
      → r.node.acceptor.state.promised.round < 281474976710656
  all_promised all [] old new distinct started rounds turn holds n c r up = absurd (omega (arith, c.1))
  all_promised all (j ∷ ns) old new distinct started rounds turn holds n c r up =
      let rest : HaveRestarted ns turn.0 new = all turn.0 new ns distinct.1 turn.2 in
      elim (cons_cases j ns n c) [
        | inl is ↦
            let back = law_up turn.0 in
            let mine : IsUpAs turn.0 j back.0 = back.1 in
            let same : back.0 ≡ r = one_replica m IsText new holds j back.0 r
            (rest.others j (Up back.0) distinct.0 mine) (subst (λ (i : ℕ). IsUpAs new i r) (sym is) up) in
            subst (λ (y : ReplicaValue). y.node.acceptor.state.promised.round < 281474976710656) same
            (one_promised old turn.0 j (rounds j (0, omega arith, refl)) turn.1 back.0 mine)
        | inr later ↦ all_promised all ns turn.0 new distinct.1
            (λ i d. (
              (started i (contains_more j ns i d)).0,
              sits_of turn.0 i (started i (contains_more j ns i d)).0
                  (other_stays old turn.0 j i (differs i d) turn.1 (started i (contains_more j ns i d)).0
                  (lives_of old i (started i (contains_more j ns i d)).0 (started i (contains_more j ns i d)).1)),
            ))
            (λ i d. round_stays old turn.0 j i (started i (contains_more j ns i d)).0
            (lives_of old i (started i (contains_more j ns i d)).0 (started i (contains_more j ns i d)).1) (differs i d)
            turn.1 (rounds i (contains_more j ns i d)))
            turn.2 holds n later r up
      ]
    where
      differs : (i : ℕ) → Contains ns i → i ≡ j → ⊥
      differs i d is = distinct.0 (subst (λ (y : ℕ). Contains ns y) is d)

      law_up : (mid : WorldState ReplicaValue) → (q : ReplicaValue) × IsUpAs turn.0 j q
      law_up mid = by_case turn.1
        where
          by_case : StopsAndRestarts m IsText j old turn.0 → (q : ReplicaValue) × IsUpAs turn.0 j q
          by_case (inl goes) = let b = law old turn.0 j goes in (b.after, b.is)
          by_case (inr stops) = let b = law stops.2 turn.0 j stops.4 in (b.after, b.is)
