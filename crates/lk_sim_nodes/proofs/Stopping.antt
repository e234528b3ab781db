-- A node that stops in the middle of what it sends.
use Rattle.std.proofs.Common.{◌≡◌, ℕ, zero, suc, ◌-◌, List, [], length, take, drop, Option, Some, None, Contains, refl}
use Rattle.std.proofs.Common.{ap, sym, ◌∙◌, subst, inl, inr, arith}
use Rattle.std.proofs.lemmas.Bool.{cases_lt}
use Rattle.std.proofs.lemmas.List.{take-take, take_all, length-take, take-append-drop}
use Rattle.std.proofs.lemmas.List.Elements.{Contains-append_left}
use Rattle.lk_disk.specs.Disk.{Disk}
use Rattle.lk_memory_disk.specs.Memory.{Memory}
use Rattle.lk_disk.specs.declared.device.Side.{Side}
use Rattle.lk_disk.specs.declared.device.Side.TheVariants.{A, B}
use Rattle.lk_disk.specs.declared.trap.Trap.{Trap}
use Rattle.lk_disk.specs.declared.trap.Trap.TheVariants.{Off, Fail, Arm}
use Rattle.lk_state.specs.Meanings.{Meaning}
use Rattle.lk_agreement_laws.specs.Nodes.{PaxosState}
use Rattle.lk_node_interface.specs.declared.note.Note.{Note}
use Rattle.lk_node.specs.Histories.{History, Genesis, Datagram, later}
use Rattle.lk_node.specs.Holdings.{Holding}
use Rattle.lk_node.specs.Leavings.{DisksFit}
use Rattle.lk_node.specs.Calls.{LeavesFit}
use Rattle.lk_replica.specs.Behaviours.{Behaviour, TrapsAlone, disks_by}
use Rattle.lk_sim_nodes.specs.Sends.{SentUpTo, counting}
use Rattle.lk_sim_nodes.specs.Outcomes.{StopsIfArmed}
use Rattle.lk_sim_nodes.specs.Rooms.{AreShort}
use Rattle.lk_sim_nodes.specs.SimNodes.{UpFits, stopped_on, fallen_on, rested_on, device_in}
use Rattle.lk_sim_nodes.specs.declared.sim_node.SimNode.{SimNode}
use Rattle.lk_sim_nodes.specs.declared.sim_node.RunState.{RunState}
use Rattle.lk_sim_nodes.specs.declared.sim_node.RunState.TheVariants.{Down}
use Rattle.lk_sim_nodes.proofs.Fitting.{same_disks}
use Rattle.lk_sim_nodes.proofs.Shortness.{same_short}

in_front : {X : Type 0} (k : ℕ) (xs : List X) (x : X) → Contains (take k xs) x → Contains xs x
in_front k xs x c = subst (λ l. Contains l x) (take-append-drop k xs) (Contains-append_left (take k xs) (drop k xs) x c)

front_of_front : {X : Type 0} (j k : ℕ) (xs : List X) → (i : ℕ) × (take j (take k xs) ≡ take i xs)
front_of_front j k xs = elim (cases_lt k j) [
  | inl less ↦ (k, take_all j (take k xs) (omega (arith, length-take k xs)))
  | inr most ↦ (j, take-take j k xs most)
]

module _ (m : Meaning) (h : History) (n : ℕ) (Shows : Holding → Type 0) (disks : Side → Disk) (notes : List Note) where
  -- what a call leaves with its datagrams it leaves with a beginning of them
  pub goes_before : (k : ℕ) (all : List Datagram) → LeavesFit m h n Shows disks notes all
      → LeavesFit m h n Shows disks notes (take k all)
  goes_before k all g = record {
    holding = g.holding;
    shown = g.shown;
    fits = g.fits;
    may = λ d c. g.may d (in_front k all d c);
    noted = g.noted;
    left = λ j. let i = front_of_front j k all in subst (λ l. DisksFit m (later h l) n disks) (sym i.1) (g.left i.0);
  }

-- what a call leaves with its datagrams it leaves with those that went out, once they are counted
module _ {R : Type 0} (b : Behaviour R) (alone : TrapsAlone b) (Shows : R → Genesis → ℕ → Holding → Type 0)
    (shows_on : (t : Trap) (r : R) (genesis : Genesis) (n : ℕ) (x : Holding) → Shows r genesis n x
    → Shows (b.with_trap t r) genesis n x) where
  trapped_disks : (t : Trap) (r : R) (s : Side) → disks_by b (b.with_trap t r) s ≡ disks_by b r s
  trapped_disks t r A = ap (λ (m : Memory). m.a) (alone t r)
  trapped_disks t r B = ap (λ (m : Memory). m.b) (alone t r)

  module _ (m : Meaning) (h : History) (n : ℕ) (notes : List Note) where
    trapped_goes : (t : Trap) (r : R) (sent : List Datagram)
        → LeavesFit m h n (Shows r h.genesis n) (disks_by b r) notes sent
        → LeavesFit m h n (Shows (b.with_trap t r) h.genesis n) (disks_by b (b.with_trap t r)) notes sent
    trapped_goes t r sent g = record {
      holding = g.holding;
      shown = shows_on t r h.genesis n g.holding g.shown;
      fits = g.fits;
      may = g.may;
      noted = g.noted;
      left = λ j. same_disks m (later h (take j sent)) n (disks_by b r) (disks_by b (b.with_trap t r))
          (trapped_disks t r) (g.left j);
    }

    pub counted_goes : (t : Trap) (sends : ℕ) (r : R) (sent : List Datagram)
        → LeavesFit m h n (Shows r h.genesis n) (disks_by b r) notes sent
        → LeavesFit m h n (Shows (counting b t sends r) h.genesis n) (disks_by b (counting b t sends r)) notes sent
    counted_goes Off sends r sent g = g
    counted_goes (Fail count) sends r sent g = g
    counted_goes (Arm count bytes) sends r sent g = trapped_goes (Arm (count - sends) bytes) r sent g

    pub goes_up_to : (stop : Option ℕ) (r q : R) (all sent : List Datagram) → SentUpTo b stop r q all sent
        → LeavesFit m h n (Shows r h.genesis n) (disks_by b r) notes all
        → LeavesFit m h n (Shows q h.genesis n) (disks_by b q) notes sent
    goes_up_to None r q all sent up g =
        subst (λ l. LeavesFit m h n (Shows q h.genesis n) (disks_by b q) notes l) (sym up.2)
        (subst (λ z. LeavesFit m h n (Shows z h.genesis n) (disks_by b z) notes all) (sym up.1)
        (counted_goes (b.memory r).meter.trap (length all) r all g))
    goes_up_to (Some bytes) r q all sent up g =
        subst (λ l. LeavesFit m h n (Shows q h.genesis n) (disks_by b q) notes l) (sym up.3)
        (subst (λ z. LeavesFit m h n (Shows z h.genesis n) (disks_by b z) notes (take up.0 all)) (sym up.2)
        (goes_before m h n (Shows r h.genesis n) (disks_by b r) notes up.0 all g))

  -- a node whose trap is set fits as it did
  pub trapped_fits : (m : Meaning) (h : History) (w : PaxosState) (n : ℕ) (t : Trap) (r : R)
      → UpFits Shows (disks_by b) m h w n r → UpFits Shows (disks_by b) m h w n (b.with_trap t r)
  trapped_fits m h w n t r u = record {
    holding = u.holding;
    paxos = u.paxos;
    shown = shows_on t r h.genesis n u.holding u.shown;
    fits = u.fits;
    left = same_disks m h n (disks_by b r) (disks_by b (b.with_trap t r)) (trapped_disks t r) u.left;
    room = same_short (disks_by b r) (disks_by b (b.with_trap t r)) (trapped_disks t r) u.room;
  }

  pub counted_disks : (t : Trap) (sends : ℕ) (r : R) (s : Side) → disks_by b (counting b t sends r) s ≡ disks_by b r s
  counted_disks Off sends r s = refl
  counted_disks (Fail count) sends r s = refl
  counted_disks (Arm count bytes) sends r s = trapped_disks (Arm (count - sends) bytes) r s

  counted_short : (t : Trap) (sends : ℕ) (r : R) → AreShort (disks_by b r)
      → AreShort (disks_by b (counting b t sends r))
  counted_short Off sends r short = short
  counted_short (Fail count) sends r short = short
  counted_short (Arm count bytes) sends r short =
      same_short (disks_by b r) (disks_by b (b.with_trap (Arm (count - sends) bytes) r))
      (trapped_disks (Arm (count - sends) bytes) r) short

  -- sends lengthen no file
  pub sent_short : (stop : Option ℕ) (r q : R) (all sent : List Datagram) → SentUpTo b stop r q all sent
      → AreShort (disks_by b r) → AreShort (disks_by b q)
  sent_short None r q all sent up short =
      subst (λ z. AreShort (disks_by b z)) (sym up.1) (counted_short (b.memory r).meter.trap (length all) r short)
  sent_short (Some bytes) r q all sent up short = subst (λ z. AreShort (disks_by b z)) (sym up.2) short

-- of nothing nothing goes out
pub nothing_sent : {R : Type 0} (b : Behaviour R) (stop : Option ℕ) (r q : R) (all sent : List Datagram)
    → SentUpTo b stop r q all sent → all ≡ [] → sent ≡ []
nothing_sent b None r q all sent up none = up.2 ∙ none
nothing_sent b (Some bytes) r q all sent up none = up.3 ∙ ap (take up.0) none ∙ empty up.0
  where
    empty : (k : ℕ) → ◌≡◌ {A = List Datagram} (take k []) []
    empty zero = refl
    empty (suc k) = refl

-- a device of which a stop leaves no unsynced byte forgets its trap
module _ {R : Type 0} (b : Behaviour R) (alone : TrapsAlone b) where
  stopped_same : (t : Trap) (sends : ℕ) (r : R)
      → stopped_on 0 0 (b.memory (counting b t sends r)) ≡ stopped_on 0 0 (b.memory r)
  stopped_same Off sends r = refl
  stopped_same (Fail count) sends r = refl
  stopped_same (Arm count bytes) sends r = ap (stopped_on 0 0) (alone (Arm (count - sends) bytes) r)

  pub stopped_sent : (stop : Option ℕ) (r q : R) (all sent : List Datagram) → SentUpTo b stop r q all sent
      → stopped_on 0 0 (b.memory q) ≡ stopped_on 0 0 (b.memory r)
  stopped_sent None r q all sent up =
      ap (λ z. stopped_on 0 0 (b.memory z)) up.1 ∙ stopped_same (b.memory r).meter.trap (length all) r
  stopped_sent (Some bytes) r q all sent up = ap (λ z. stopped_on 0 0 (b.memory z)) up.2

-- the device of a node that has come to rest
pub rested : {R : Type 0} (b : Behaviour R) (stop : Option ℕ) (t next : SimNode R) (left : Memory)
    → t.run_state ≡ Down (fallen_on left) → StopsIfArmed b stop t next → next.run_state ≡ Down (rested_on stop left)
rested b None t next left down r = ap (λ (z : SimNode _). z.run_state) r ∙ down
rested b (Some bytes) t next left down r =
    r ∙ ap (λ (z : RunState _). Down (stopped_on bytes bytes (device_in b z))) down
