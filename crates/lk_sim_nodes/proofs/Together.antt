-- A node that takes several inputs together, up to an armed stop at one of its sends.
use Rattle.std.proofs.Common.{◌≡◌, ℕ, zero, suc, List, [], ◌∷◌, ◌++◌, length, take, drop, Option, Some, None, Result}
use Rattle.std.proofs.Common.{Ok, Err, OnErr, refl, ap, sym, ◌∙◌, subst}
use Rattle.lk_disk.specs.Disk.{Disk}
use Rattle.lk_disk.specs.declared.device.Side.{Side}
use Rattle.lk_disk.specs.declared.trap.Trap.{Trap}
use Rattle.lk_log.specs.Rooms.{StaysWithin}
use Rattle.lk_log.proofs.Room.{within_same, within_still}
use Rattle.lk_state.specs.Meanings.{Meaning}
use Rattle.lk_node_interface.specs.declared.input.Input.{Input}
use Rattle.lk_node.specs.Calls.{LeavesFit}
use Rattle.lk_node.specs.Histories.{History, Genesis, Datagram}
use Rattle.lk_node.specs.Holdings.{Holding}
use Rattle.lk_node.specs.Leavings.{DisksFit}
use Rattle.lk_replica.specs.Behaviours.{Behaviour, TrapsAlone, disks_by}
use Rattle.lk_replica.specs.Together.{Said, sent_of, parts_of, EachLeavesFit}
use Rattle.lk_replica.specs.declared.taken.Step.{Step}
use Rattle.lk_sim_nodes.specs.Sends.{SentUpTo, after_sends, counting, left_over, cut_short}
use Rattle.lk_sim_nodes.proofs.Fitting.{same_disks}
use Rattle.lk_sim_nodes.proofs.Stopping.{goes_before, counted_goes, counted_disks}

take_both : {X : Type 0} (k : ℕ) (xs ys : List X) → take k xs ++ take (left_over k xs) ys ≡ take k (xs ++ ys)
take_both k [] ys = nothing k
  where
    nothing : (k : ℕ) → take k [] ++ take k ys ≡ take k ys
    nothing zero = refl
    nothing (suc k) = refl
take_both zero (x ∷ xs) ys = refl
take_both (suc k) (x ∷ xs) ys = ap (λ l. x ∷ l) (take_both k xs ys)

pub cut_sent : (k : ℕ) (said : List Said) → sent_of (cut_short k said) ≡ take k (sent_of said)
cut_sent k [] = nothing k
  where
    nothing : (k : ℕ) → sent_of [] ≡ take k (sent_of [])
    nothing zero = refl
    nothing (suc k) = refl
cut_sent k (x ∷ xs) = ap (λ l. take k x.1 ++ l) (cut_sent (left_over k x.1) xs) ∙ take_both k x.1 (sent_of xs)

-- goes on so too, with all of its notes: each step may send less than it said
pub cut_goes : {R : Type 0} (Shows : R → Genesis → ℕ → Holding → Type 0) (disks : R → Side → Disk) (m : Meaning)
    (n : ℕ) (is : List Input) (r q : R) (said : List Said) (k : ℕ)
    → EachLeavesFit Shows disks m n r is q said → EachLeavesFit Shows disks m n r is q (cut_short k said)
cut_goes Shows disks m n [] r q said k goes = (ap (cut_short k) goes.0, goes.1, goes.2)
cut_goes Shows disks m n (x ∷ is) r q said k goes = (
  goes.0,
  (goes.1.0, take k goes.1.1),
  cut_short (left_over k goes.1.1) goes.2,
  ap (cut_short k) goes.3,
  λ h f heard. goes_before m h n (Shows goes.0 h.genesis n) (disks goes.0) goes.1.0 k goes.1.1 (goes.4 h f heard),
  goes.5,
  cut_goes Shows disks m n is goes.0 q goes.2 (left_over k goes.1.1) goes.6,
)

-- ---- the steps, of what was sent in front of a stop

take_nothing : {X : Type 0} (k : ℕ) → let none : List X = [] in take k none ≡ none
take_nothing zero = refl
take_nothing (suc k) = refl

take_swap : {X : Type 0} (j k : ℕ) (xs : List X) → take j (take k xs) ≡ take k (take j xs)
take_swap zero k xs = sym (take_nothing k)
take_swap (suc j) zero xs = refl
take_swap (suc j) (suc k) [] = refl
take_swap (suc j) (suc k) (x ∷ xs) = ap (λ l. x ∷ l) (take_swap j k xs)

drop_cut : {X : Type 0} (j k : ℕ) (xs : List X) → drop j (take k xs) ≡ take (left_over k (take j xs)) (drop j xs)
drop_cut zero k xs = refl
drop_cut (suc j) zero [] = refl
drop_cut (suc j) (suc k) [] = refl
drop_cut (suc j) zero (x ∷ xs) = refl
drop_cut (suc j) (suc k) (x ∷ xs) = drop_cut j k xs

pub parts_cut : (steps : List Step) (all : List Datagram) (k : ℕ)
    → parts_of steps (take k all) ≡ cut_short k (parts_of steps all)
parts_cut [] all k = refl
parts_cut (s ∷ steps) all k =
    let own = take_swap s.sends k all in
    let rest = ap (parts_of steps) (drop_cut s.sends k all)
    ∙ parts_cut steps (drop s.sends all) (left_over k (take s.sends all)) in
    λ i. (s.notes.items, own i) ∷ rest i

-- all that was sent is of the steps, up to a stop
pub still_whole : {R : Type 0} (b : Behaviour R) (stop : Option ℕ) (r q : R) (steps : List Step)
    (all sent : List Datagram) → SentUpTo b stop r q all sent → all ≡ sent_of (parts_of steps all)
    → sent ≡ sent_of (parts_of steps sent)
still_whole b None r q steps all sent up whole =
    subst (λ (l : List Datagram). l ≡ sent_of (parts_of steps l)) (sym up.2) whole
still_whole b (Some bytes) r q steps all sent up whole =
    subst (λ (l : List Datagram). l ≡ sent_of (parts_of steps l)) (sym up.3)
    (ap (take up.0) whole ∙ sym (cut_sent up.0 (parts_of steps all)) ∙ ap sent_of (sym (parts_cut steps all up.0)))

-- ---- the replica, once its sends are counted

-- it goes on so too by one that does as much
goes_all_on : {R : Type 0} (Shows : R → Genesis → ℕ → Holding → Type 0) (disks : R → Side → Disk) (m : Meaning) (n : ℕ)
    (is : List Input) (r q p : R) (said : List Said)
    → ((h : History) → LeavesFit m h n (Shows q h.genesis n) (disks q) [] []
    → LeavesFit m h n (Shows p h.genesis n) (disks p) [] []) → StaysWithin 0 (disks q) (disks p)
    → EachLeavesFit Shows disks m n r is q said → EachLeavesFit Shows disks m n r is p said
goes_all_on Shows disks m n [] r q p said on short goes =
    (goes.0, λ h f. on h (goes.1 h f), within_still 132704 (disks r) (disks q) (disks p) goes.2 short)
goes_all_on Shows disks m n (x ∷ is) r q p said on short goes =
    (goes.0, goes.1, goes.2, goes.3, goes.4, goes.5, goes_all_on Shows disks m n is goes.0 q p goes.2 on short goes.6)

module _ {R : Type 0} (b : Behaviour R) (alone : TrapsAlone b) (Shows : R → Genesis → ℕ → Holding → Type 0)
    (shows_on : (t : Trap) (r : R) (genesis : Genesis) (n : ℕ) (x : Holding) → Shows r genesis n x
    → Shows (b.with_trap t r) genesis n x) where
  pub goes_up_to_all : (m : Meaning) (n : ℕ) (is : List Input) (first r q : R) (steps : List Step) (stop : Option ℕ)
      (all sent : List Datagram) → SentUpTo b stop r q all sent
      → EachLeavesFit Shows (disks_by b) m n first is r (parts_of steps all)
      → EachLeavesFit Shows (disks_by b) m n first is q (parts_of steps sent)
  goes_up_to_all m n is first r q steps None all sent up goes =
      let t = (b.memory r).meter.trap in
      let counted = goes_all_on Shows (disks_by b) m n is first r (counting b t (length all) r) (parts_of steps all)
      (λ h g. counted_goes b alone Shows shows_on m h n [] t (length all) r [] g)
      (within_same 0 (disks_by b r) (disks_by b (counting b t (length all) r))
      (λ s. counted_disks b alone Shows shows_on t (length all) r s)) goes in
      subst (λ (l : List Datagram). EachLeavesFit Shows (disks_by b) m n first is q (parts_of steps l)) (sym up.2)
      (subst (λ (z : R). EachLeavesFit Shows (disks_by b) m n first is z (parts_of steps all)) (sym up.1) counted)
  goes_up_to_all m n is first r q steps (Some bytes) all sent up goes =
      subst (λ (l : List Datagram). EachLeavesFit Shows (disks_by b) m n first is q (parts_of steps l)) (sym up.3)
      (subst (λ (l : List Said). EachLeavesFit Shows (disks_by b) m n first is q l) (sym (parts_cut steps all up.0))
      (subst (λ (z : R). EachLeavesFit Shows (disks_by b) m n first is z (cut_short up.0 (parts_of steps all)))
      (sym up.2)
      (cut_goes Shows (disks_by b) m n is first r (parts_of steps all) up.0 goes)))

  -- and whatever a stop may leave of it fits as it did
  pub left_up_to : (m : Meaning) (h : History) (n : ℕ) (stop : Option ℕ) (r q : R) (all sent : List Datagram)
      → SentUpTo b stop r q all sent → DisksFit m h n (disks_by b r) → DisksFit m h n (disks_by b q)
  left_up_to m h n None r q all sent up left =
      subst (λ (z : R). DisksFit m h n (disks_by b z)) (sym up.1)
      (same_disks m h n (disks_by b r) (disks_by b (after_sends b (length all) r))
      (λ s. counted_disks b alone Shows shows_on (b.memory r).meter.trap (length all) r s) left)
  left_up_to m h n (Some bytes) r q all sent up left = subst (λ (z : R). DisksFit m h n (disks_by b z)) (sym up.2) left

-- what holds after any exit holds after a refusal
pub on_err_of : {T E : Type 0} {P : Type 0} (r : Result T E) → P → OnErr r P
on_err_of (Ok x) p = tt
on_err_of (Err e) p = p
