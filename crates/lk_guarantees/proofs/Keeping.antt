-- What the disks of the nodes keep, in the words of the guarantee.
use Rattle.std.proofs.Common.{◌≡◌, ℕ, List, [], Some, Contains, refl, subst, sym, ◌∙◌, inl, inr}
use Rattle.lk_types.specs.declared.genesis.Genesis.{Genesis}
use Rattle.lk_disk.specs.Disk.{Disk}
use Rattle.lk_memory_disk.specs.Memory.{disk_of}
use Rattle.lk_disk.specs.declared.device.Side.{Side}
use Rattle.lk_disk.specs.declared.device.Side.TheVariants.{A, B}
use Rattle.lk_store_format.specs.Values.{StandingValue}
use Rattle.lk_log.specs.Images.{Image, MayLeaveBoth}
use Rattle.lk_messages.specs.declared.message.NodeMessage.{NodeMessage}
use Rattle.lk_messages.specs.declared.message.NodeMessage.TheVariants as message
use Rattle.lk_agreement_laws.specs.Acceptors.{CoversSent, Covers}
use Rattle.lk_agreement_laws.specs.Chosen.{Command, command_at, Chosen}
use Rattle.lk_agreement_laws.specs.Datagrams.{Datagram}
use Rattle.lk_locks.specs.Meaning.{table_meaning}
use Rattle.lk_node.specs.Leavings.{header_of, acceptor_of, StandsAs}
use Rattle.lk_node.specs.BorneOut.{text}
use Rattle.lk_replica.specs.ReplicaValue.{ReplicaValue, device_of}
use Rattle.lk_sim_nodes.specs.SimNodes.{disks_of, At}
use Rattle.lk_sim.specs.Kept.{EveryStanding, CoversAll, KeepsCommand, IsKeptBy}
use Rattle.lk_sim.specs.Packed.{HasPackedState}
use Rattle.lk_sim_nodes.specs.Rooms as lengths
use Rattle.lk_sim.specs.WorldStates.{WorldState}
use Rattle.lk_sim.specs.States.{IsPackedList, KeepsPacked, SumsUpChosen}
use Rattle.lk_sim_nodes.specs.declared.sim_node.SimNode.{SimNode}
use Rattle.lk_sim_nodes.specs.declared.sim_node.RunState.{RunState}
use Rattle.lk_sim_nodes.specs.declared.sim_node.RunState.TheVariants.{Up, Down}
use Rattle.lk_guarantees.specs.Guarantee as guarantee
use Rattle.lk_guarantees.specs.Disks.{IsSnapshot}
use Rattle.lk_guarantees.specs.Guarantee.{device_in, IsShort, MayRemainOf, Remembers, EachImage, HasSnapshot, IsNear}
use Rattle.lk_guarantees.specs.Guarantee.{IsCovered, IsRemembered, Says, IsPrefix}
use Rattle.lk_guarantees.proofs.Executing.{is_snapshot}
use Rattle.lk_guarantees.proofs.Explaining.{all_fit}
use Rattle.lk_guarantees.proofs.Nearness.{is_near}
use Rattle.lk_guarantees.proofs.Quorums.{at_is, members_are, has_sent, is_chosen, chosen_is, stands_in, stood, begins}

abbrev disks_in : ReplicaValue → Side → Disk
disks_in r = disk_of (device_of r.store)

may_leave : (run_state : RunState ReplicaValue) (image : Image) → MayRemainOf run_state image
    → MayLeaveBoth (disks_of disks_in run_state) image
may_leave (Up r) image m A = m.0
may_leave (Up r) image m B = m.1
may_leave (Down d) image m A = m.0
may_leave (Down d) image m B = m.1

remembers : (genesis : Genesis) (n : ℕ) (image : Image) (x : StandingValue)
    → StandsAs (header_of genesis n) (text table_meaning genesis []) image x → Remembers genesis n image x
remembers genesis n image x s = record {
  entries = s.entries;
  stand_for = s.stands;
  of_node = s.header;
  live = elim s.found [
    | inl live ↦ inl live
    | inr none ↦
        inr (none.0, (text table_meaning genesis [], is_snapshot genesis [] tt, none.1))
  ];
}

each_image : (genesis : Genesis) (s : SimNode ReplicaValue) (P Q : StandingValue → Type 0)
    → ((x : StandingValue) → P x → Q x) → EveryStanding disks_in table_meaning genesis s P → EachImage genesis s Q
each_image genesis s P Q so every image remains =
    let x = every image (may_leave s.run_state image remains) in
    (x.0, remembers genesis s.number image x.0 x.1, so x.0 x.2)

is_covered : (x : StandingValue) (m : NodeMessage) → Covers (acceptor_of x) m → IsCovered x m
is_covered x (message.Prepare b first) c = c
is_covered x (message.Promise p) c = c
is_covered x (message.Accept v) c = c
is_covered x (message.Accepted v) c = c
is_covered x (message.Nack v) c = tt
is_covered x (message.Decided v) c = tt
is_covered x (message.Want v) c = tt
is_covered x (message.Part v) c = tt
is_covered x (message.Answer v) c = tt
is_covered x (message.Elsewhere v) c = tt
is_covered x (message.Passed v) c = tt
is_covered x (message.Lead b n) c = tt

pub covered : (genesis : Genesis) (sim_nodes : List (SimNode ReplicaValue)) (sent : List Datagram)
    → ((k : ℕ) (s : SimNode ReplicaValue) → At sim_nodes k s → CoversAll disks_in table_meaning genesis sent s)
    → guarantee.AreCovered genesis sim_nodes sent
covered genesis sim_nodes sent all s here =
    each_image genesis s (λ x. CoversSent genesis sent s.number (acceptor_of x))
    (λ x. (m : NodeMessage) → Says genesis sent s.number m → IsCovered x m)
    (λ x c m says. is_covered x m (c m (has_sent genesis sent s.number m says))) (all here.0 s (here.1, here.2))

-- ---- how long the files are

shorts : (run_state : RunState ReplicaValue) → lengths.AreShort (disks_of disks_in run_state)
    → IsShort (device_in run_state).a × IsShort (device_in run_state).b
shorts (Up r) are = (are A, are B)
shorts (Down d) are = (are A, are B)

pub short : (sim_nodes : List (SimNode ReplicaValue))
    → ((k : ℕ) (s : SimNode ReplicaValue) → At sim_nodes k s → lengths.AreShort (disks_of disks_in s.run_state))
    → guarantee.AreShort sim_nodes
short sim_nodes all s here = shorts s.run_state (all here.0 s (here.1, here.2))

-- ---- snapshots

snapshot_of : (genesis : Genesis) (sent : List Datagram) (L : List Command) (bytes : List ℕ) → Chosen genesis sent L
    → bytes ≡ text table_meaning genesis L → IsSnapshot genesis L bytes
snapshot_of genesis sent L bytes chosen e =
    subst (IsSnapshot genesis L) (sym e) (is_snapshot genesis L (all_fit genesis sent L chosen))

has_snapshot : (genesis : Genesis) (sent : List Datagram) (x : StandingValue)
    → IsPackedList table_meaning genesis sent x → HasSnapshot genesis sent x
has_snapshot genesis sent x p =
    (p.0, is_chosen genesis sent p.0 p.1, p.2, snapshot_of genesis sent p.0 x.snapshot p.1 p.3)

-- a node may restart from it
abbrev MayRestart : Genesis → List Datagram → StandingValue → Type 0
MayRestart genesis sent x = HasSnapshot genesis sent x × IsNear genesis x

keeps_packed : (genesis : Genesis) (sent : List Datagram) (n : ℕ) (run_state : RunState ReplicaValue) (image : Image)
    → KeepsPacked table_meaning genesis sent n (disks_of disks_in run_state) → MayRemainOf run_state image
    → (x : StandingValue) × Remembers genesis n image x × MayRestart genesis sent x
keeps_packed genesis sent n run_state image keeps remains =
    let x = keeps image (may_leave run_state image remains) in (
      x.0,
      remembers genesis n image x.0 x.1,
      (has_snapshot genesis sent x.0 x.2, is_near genesis x.0 x.1.stands.pairs_rise x.3),
    )

pub has_snapshots : (genesis : Genesis) (sent : List Datagram) (s : SimNode ReplicaValue)
    → SumsUpChosen (λ r. r.node.learner.whole) disks_in table_meaning genesis sent s
    → EachImage genesis s (MayRestart genesis sent)
has_snapshots genesis sent s sums image remains = by_run_state s.run_state refl
  where
    by_run_state : (run_state : RunState ReplicaValue) → s.run_state ≡ run_state
        → (x : StandingValue) × Remembers genesis s.number image x × MayRestart genesis sent x
    by_run_state (Up r) e = keeps_packed genesis sent s.number (Up r) image (sums.kept r e)
        (subst (λ (l : RunState ReplicaValue). MayRemainOf l image) e remains)
    by_run_state (Down d) e = keeps_packed genesis sent s.number (Down d) image (sums.left d e)
        (subst (λ (l : RunState ReplicaValue). MayRemainOf l image) e remains)

pub compacted : (w : WorldState ReplicaValue) (n : ℕ) → HasPackedState (λ r. r.node.learner.whole) disks_in
    table_meaning w n
    → (s : SimNode ReplicaValue) × (replica : ReplicaValue) × Contains w.sim_nodes s × (s.number ≡ n)
    × (s.run_state ≡ Up replica)
    × EachImage w.genesis s (λ x. (x.position ≡ replica.node.learner.whole.roster.executed)
    × HasSnapshot w.genesis w.sent x)
compacted w n k = (
  k.sim_node,
  k.replica,
  (k.index, k.at.0, k.at.1),
  k.number,
  k.up,
  each_image w.genesis k.sim_node
      (λ x. (x.position ≡ k.replica.node.learner.whole.roster.executed)
      × IsPackedList table_meaning w.genesis w.sent x)
      (λ x. (x.position ≡ k.replica.node.learner.whole.roster.executed) × HasSnapshot w.genesis w.sent x)
      (λ x c. (c.0, has_snapshot w.genesis w.sent x c.1)) k.stands,
)

-- ---- commands of chosen lists

is_remembered : (genesis : Genesis) (sent : List Datagram) (L : List Command) (i : ℕ) (v : Command) (x : StandingValue)
    → KeepsCommand table_meaning genesis sent L i v x → IsRemembered genesis sent L i v x
is_remembered genesis sent L i v x (inl p) =
    let h = p.1 in
    inl (
      p.0,
      (
        h.under,
        is_chosen genesis sent h.under h.chosen,
        h.position,
        snapshot_of genesis sent h.under x.snapshot h.chosen h.snapshot,
        elim h.agrees [
          | inl b ↦ inl (begins h.under L b)
          | inr b ↦ inr (begins L h.under b)
        ],
      ),
    )
is_remembered genesis sent L i v x (inr y) = inr y

after_stop : (genesis : Genesis) (sim_nodes : List (SimNode ReplicaValue)) (sent : List Datagram)
    (L : List Command) (i : ℕ)
    (v : Command) → IsKeptBy disks_in table_meaning genesis sim_nodes sent L i v
    → guarantee.IsKeptBy genesis sim_nodes sent L i v
after_stop genesis sim_nodes sent L i v k = record {
  among = stands_in k.nodes;
  more_than_half = rw (members_are genesis L i) k.majority.more_than_half;
  each = λ m within e.
      let s = k.keep m.node (stood k.nodes m.node e) in (
        s.1,
        (s.0, s.2.0, s.2.1),
        s.3,
        each_image genesis s.1 (KeepsCommand table_meaning genesis sent L i v) (IsRemembered genesis sent L i v)
            (is_remembered genesis sent L i v) s.4,
      );
}

pub kept : (genesis : Genesis) (sim_nodes : List (SimNode ReplicaValue)) (sent : List Datagram)
    → ((L : List Command) (i : ℕ) (v : Command) → Chosen genesis sent L → command_at L i ≡ Some v
    → IsKeptBy disks_in table_meaning genesis sim_nodes sent L i v) → guarantee.AreKept genesis sim_nodes sent
kept genesis sim_nodes sent all L i v chosen e =
    after_stop genesis sim_nodes sent L i v (all L i v (chosen_is genesis sent L chosen) (sym (at_is L i) ∙ e))
