-- In a reachable world each number is that of one node.
use Rattle.std.proofs.Common.{◌≡◌, ℕ, zero, suc, List, [], ◌∷◌, ◌++◌, set, slice_get, Some, Contains, refl, ap, sym}
use Rattle.std.proofs.Common.{◌∙◌, subst, inl, inr, arith}
use Rattle.std.proofs.lemmas.Option.{slice_get-get_or, slice_get_within, get_or_from_slice_get}
use Rattle.lk_types.specs.declared.genesis.Genesis.{Genesis}
use Rattle.lk_memory_disk.specs.Memory.{Memory}
use Rattle.lk_replica.specs.ReplicaValue.{ReplicaValue}
use Rattle.lk_sim.specs.WorldStates.{WorldState}
use Rattle.lk_sim_nodes.specs.SimNodes.{At}
use Rattle.lk_sim.specs.declared.event.Event.{Event}
use Rattle.lk_sim_nodes.specs.declared.refused.Refused.{Refused}
use Rattle.lk_sim_nodes.specs.declared.sim_node.SimNode.{SimNode}
use Rattle.lk_sim_nodes.specs.declared.sim_node.RunState.TheVariants.{Up, Down}
use Rattle.lk_sim.proofs.Networks.{at_set, at_push}
use Rattle.lk_guarantees.specs.Events.{IsStarted, IsUp, ChangesOnly, FallsDown, IsDone, IsRefused, Happens, HappenAll}
use Rattle.lk_guarantees.specs.Events.{IsReachable, nothing}

-- ---- places

pub same_some : {X : Type 0} (x y : X) → Some x ≡ Some y → x ≡ y
same_some x y e = cc e

pub at_place : {X : Type 0} (xs : List X) (k : ℕ) (x : X) → slice_get xs k ≡ Some x → At xs k x
at_place xs k x e = (slice_get_within xs k x e, get_or_from_slice_get xs k x x e)

pub is_there : {X : Type 0} (xs : List X) (k : ℕ) (x : X) → slice_get xs k ≡ Some x → Contains xs x
is_there xs k x e = (k, slice_get_within xs k x e, get_or_from_slice_get xs k x x e)

pub read_there : {X : Type 0} (xs : List X) (x : X) (c : Contains xs x) → slice_get xs c.0 ≡ Some x
read_there xs x c = slice_get-get_or xs c.0 x c.1 ∙ ap Some c.2

pub get_set_here : {X : Type 0} (xs : List X) (k : ℕ) (x y : X) → slice_get xs k ≡ Some x
    → slice_get (set xs k y) k ≡ Some y
get_set_here [] k x y e = absurd (cc e)
get_set_here (z ∷ xs) zero x y e = refl
get_set_here (z ∷ xs) (suc k) x y e = get_set_here xs k x y e

pub set_same : {X : Type 0} (xs : List X) (k : ℕ) (x : X) → slice_get xs k ≡ Some x → set xs k x ≡ xs
set_same [] k x e = absurd (cc e)
set_same (z ∷ xs) zero x e = ap (λ y. y ∷ xs) (sym (same_some z x e))
set_same (z ∷ xs) (suc k) x e = ap (λ l. z ∷ l) (set_same xs k x e)

-- ---- numbers

abbrev pub Apart : List (SimNode ReplicaValue) → Type 0
Apart sim_nodes = (i j : ℕ) (s t : SimNode ReplicaValue) → At sim_nodes i s → At sim_nodes j t → s.number
    ≡ t.number → i ≡ j

pub one_place : (sim_nodes : List (SimNode ReplicaValue)) → Apart sim_nodes → (i j : ℕ) (s t : SimNode ReplicaValue)
    → slice_get sim_nodes i ≡ Some s → slice_get sim_nodes j ≡ Some t → s.number ≡ t.number → i ≡ j
one_place sim_nodes apart i j s t here there same =
    apart i j s t (at_place sim_nodes i s here) (at_place sim_nodes j t there) same

pub one_sim_node : (sim_nodes : List (SimNode ReplicaValue)) → Apart sim_nodes → (i j : ℕ) (s t : SimNode ReplicaValue)
    → slice_get sim_nodes i ≡ Some s → slice_get sim_nodes j ≡ Some t → s.number ≡ t.number → s ≡ t
one_sim_node sim_nodes apart i j s t here there same =
    let index : i ≡ j = one_place sim_nodes apart i j s t here there same in
    same_some s t (sym here ∙ ap (λ (k : ℕ). slice_get sim_nodes k) index ∙ there)

-- a node that is down is not up
pub not_up : (sim_nodes : List (SimNode ReplicaValue)) → Apart sim_nodes → (n index : ℕ) (device : Memory)
    → slice_get sim_nodes index ≡ Some (record { number = n; run_state = Down device }) → IsUp sim_nodes n → ⊥
not_up sim_nodes apart n index device here up =
    let down : SimNode ReplicaValue = record { number = n; run_state = Down device } in
    let same : up.0 ≡ down =
    one_sim_node sim_nodes apart up.2.0 index up.0 down (read_there sim_nodes up.0 up.2) here up.3 in
    lives up.1 device (sym up.4 ∙ ap (λ (s : SimNode ReplicaValue). s.run_state) same)
  where
    lives : (replica : ReplicaValue) (device : Memory) → Up replica ≡ Down device → ⊥
    lives replica device e = cc e

-- ---- a node changes, or is added

module _ (old : List (SimNode ReplicaValue)) (apart : Apart old) where
  module _ (index : ℕ) (s t : SimNode ReplicaValue) (here : slice_get old index ≡ Some s)
      (number : t.number ≡ s.number) where
    -- who was at a place
    was : (k : ℕ) (x : SimNode ReplicaValue) → At (set old index t) k x
        → (y : SimNode ReplicaValue) × At old k y × (x.number ≡ y.number)
    was k x at = elim (at_set old index t k x at) [
      | inl e ↦ (
        s,
        subst (λ (i : ℕ). At old i s) (sym e.0) (at_place old index s here),
        ap (λ (u : SimNode ReplicaValue). u.number) (sym e.1) ∙ number,
      )
      | inr ne ↦ (x, ne.1, refl)
    ]

    set_apart : Apart (set old index t)
    set_apart i j u v at_i at_j same =
        let p = was i u at_i in
        let q = was j v at_j in
        apart i j p.0 q.0 p.1 q.1 (sym p.2 ∙ same ∙ q.2)

  push_apart : (n : ℕ) (s : SimNode ReplicaValue) → (IsStarted old n → ⊥) → s.number ≡ n → Apart (old ++ s ∷ [])
  push_apart n s unused number i j u v at_i at_j same =
      let is : (x : SimNode ReplicaValue) → s ≡ x
      → x.number ≡ n = λ x e. ap (λ (y : SimNode ReplicaValue). y.number) (sym e) ∙ number in
      elim (at_push old s i u at_i) [
        | inl p ↦ elim (at_push old s j v at_j) [
          | inl q ↦ apart i j u v p q same
          | inr q ↦ absurd (unused (u, (i, p.0, p.1), same ∙ is v q.1))
        ]
        | inr p ↦ elim (at_push old s j v at_j) [
          | inl q ↦ absurd (unused (v, (j, q.0, q.1), sym same ∙ is u p.1))
          | inr q ↦ p.0 ∙ sym q.0
        ]
      ]

  changes_apart : (n : ℕ) (new : List (SimNode ReplicaValue)) → ChangesOnly n old new → Apart new
  changes_apart n new changes = elim changes [
    | inl same ↦ subst Apart (sym same) apart
    | inr (inl k) ↦ subst Apart (sym k.6) (set_apart k.0 k.1 k.2 k.3 (k.5 ∙ sym k.4))
    | inr (inr k) ↦ subst Apart (sym k.1.2) (push_apart n k.1.0 k.0 k.1.1)
  ]

  falls_apart : (n : ℕ) (new : List (SimNode ReplicaValue)) → FallsDown n old new → Apart new
  falls_apart n new k = subst Apart (sym k.5) (set_apart k.0 k.1 (record {
    number = n;
    run_state =
        Down k.2;
  }) k.3 (sym k.4))

-- ---- whatever happens

pub done_apart : (old new : WorldState ReplicaValue) (e : Event) → IsDone old e new → Apart old.sim_nodes
    → Apart new.sim_nodes
done_apart old new e done apart = changes_apart old.sim_nodes apart done.only.0 new.sim_nodes done.only.2

refused_apart : (old new : WorldState ReplicaValue) (e : Event) (why : Refused) → IsRefused old e why new
    → Apart old.sim_nodes → Apart new.sim_nodes
refused_apart old new e why refused apart = elim refused.only [
  | inl same ↦ subst Apart (sym same) apart
  | inr falls ↦ falls_apart old.sim_nodes apart falls.0 new.sim_nodes falls.2
]

happens_apart : (old new : WorldState ReplicaValue) → Happens old new → Apart old.sim_nodes → Apart new.sim_nodes
happens_apart old new h apart =
    elim h.1 [
      | inl done ↦ done_apart old new h.0 done apart
      | inr refused ↦
          refused_apart old new h.0 refused.0 refused.1 apart
    ]

all_apart : (worlds : List (WorldState ReplicaValue)) (first last : WorldState ReplicaValue)
    → HappenAll first worlds last
    → Apart first.sim_nodes → Apart last.sim_nodes
all_apart [] first last same apart = subst (λ (w : WorldState ReplicaValue). Apart w.sim_nodes) (sym same) apart
all_apart (next ∷ worlds) first last all apart = all_apart worlds next last all.1 (happens_apart first next all.0 apart)

none_apart : Apart []
none_apart i j s t at_i at_j same = absurd (omega (arith, at_i.0))

pub reachable_apart : (genesis : Genesis) (world : WorldState ReplicaValue) → IsReachable genesis world
    → Apart world.sim_nodes
reachable_apart genesis world reached = all_apart reached.0 (nothing genesis) world reached.1 none_apart
