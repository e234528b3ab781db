-- The fences at which a name is granted rise along a list.
use Rattle.std.proofs.Common.{◌≡◌, ℕ, zero, suc, ◌+◌, ◌-◌, ◌<◌, ◌≤◌, ◌⊎◌, Bool, true, false, cond, ltb, leb, eqb, not}
use Rattle.std.proofs.Common.{◌&&◌, List, [], ◌∷◌, ◌++◌, length, take, drop, fold, filter, slice_get, Option, Some}
use Rattle.std.proofs.Common.{None, Contains, refl, ap, sym, ◌∙◌, subst, inl, inr, arith}
use Rattle.std.specs.List.{list_any}
use Rattle.std.specs.FinMap as map
use Rattle.std.specs.Cmp.{eq_by_cmp_equiv}
use Rattle.std.specs.Cmp.Lexicographic.{slice_cmp, nat_list_cmp_total}
use Rattle.std.specs.Ordering.{nat_cmp, eq_by_cmp, is_eq}
use Rattle.std.specs.declared.cmp.Ordering.{Ordering}
use Rattle.std.specs.declared.cmp.Ordering.TheVariants.{Less, Equal, Greater}
use Rattle.std.proofs.lemmas.Bool.{cases_Bool, eqb-true, ltb-true, ltb-false, leb-true, and_parts}
use Rattle.std.proofs.lemmas.List.{take-append-drop, take-take}
use Rattle.lk_types.specs.declared.answer.Answer.{Answer}
use Rattle.lk_types.specs.declared.answer.Answer.TheVariants.{Granted, Busy, Released, NotHeld, Valid, Stale, NoRoom}
use Rattle.lk_types.specs.declared.answer.Answer.TheVariants.{Spent, Shared, Broken, Joined, Used, Full, Left}
use Rattle.lk_types.specs.declared.answer.Answer.TheVariants.{NotMember, Last, Raised, AlreadyRaised}
use Rattle.lk_types.specs.declared.command.Command.{Command}
use Rattle.lk_types.specs.declared.command.Command.TheVariants.{Noop, Request}
use Rattle.lk_types.specs.declared.command.Op.{Op}
use Rattle.lk_types.specs.declared.command.Op.TheVariants.{Table, Join, Leave, Raise}
use Rattle.lk_types.specs.declared.command.Request.{Request as Asking}
use Rattle.lk_types.specs.declared.genesis.Genesis.{Genesis}
use Rattle.lk_agreement_laws.proofs.Histories.{cons_cases}
use Rattle.lk_locks.specs.Bodies.{body_of}
use Rattle.lk_locks.specs.declared.body.Body.{Body}
use Rattle.lk_locks.specs.declared.body.Body.TheVariants.{Acquire, Release, Ask, Check, Share, Break}
use Rattle.lk_locks.specs.declared.lock_entry.Holders.{Holders}
use Rattle.lk_locks.specs.declared.lock_entry.Holders.TheVariants.{Nobody, ExclusiveHold, SharedHold}
use Rattle.lk_locks.specs.declared.lock_entry.LockEntry.{LockEntry as Lock}
use Rattle.lk_agreement_laws.specs.Datagrams.{Datagram}
use Rattle.lk_node_interface.specs.declared.note.Note.{Note}
use Rattle.lk_node_interface.specs.declared.note.Note.TheVariants as note
use Rattle.lk_guarantees.specs.Guarantee.{IsExplained}
use Rattle.lk_guarantees.specs.Guarded.{Write, accepted, IsUnder, FencesRise, IsGuarded, IsListed, AreListed}
use Rattle.lk_guarantees.specs.Plain.{Locks, State, hold, give_again, give_first, acquire_known, acquire, adding_client}
use Rattle.lk_guarantees.specs.Plain.{share_known, share, is_held_by, is_free, is_held_at, release, without, break_lock}
use Rattle.lk_guarantees.specs.Plain.{first, told_of, asks, use_locks, begin, execute, join, leave, raise, takes_effect}
use Rattle.lk_guarantees.specs.Plain.{after_one, after, at}
use Rattle.lk_guarantees.proofs.Locking.{join_agrees, leave_agrees}
use Rattle.lk_guarantees.proofs.Placing.{IsPlaced, placed}
use Rattle.lk_guarantees.proofs.Quorums.{at_is}

abbrev fence_of : Option Lock → ℕ
fence_of None = 0
fence_of (Some lock) = lock.fence

-- the last fence of a name
abbrev fence_in : Locks → List ℕ → ℕ
fence_in locks name = fence_of (map.get locks name)

equal : (o : Ordering) → is_eq o ≡ true → o ≡ Equal
equal Less e = absurd cc
equal Equal e = refl
equal Greater e = absurd cc

same_or_not : (q name : List ℕ)
    → ((eq_by_cmp (slice_cmp nat_cmp) q name ≡ true) × (q ≡ name)) ⊎ (eq_by_cmp (slice_cmp nat_cmp) q name ≡ false)
same_or_not q name = elim (cases_Bool (eq_by_cmp (slice_cmp nat_cmp) q name)) [
  | inl e ↦
      inl (e, map.slice_cmp-IsAntisymmetric map.nat_cmp-IsAntisymmetric q name (equal (slice_cmp nat_cmp q name) e))
  | inr e ↦ inr e
]

get_hold : (name : List ℕ) (fence : ℕ) (holders : Holders) (locks : Locks) (q : List ℕ)
    → map.get (hold name fence holders locks) q
    ≡ cond (eq_by_cmp (slice_cmp nat_cmp) q name) (Some (record { fence = fence; holders = holders })) (map.get locks q)
get_hold name fence holders locks q =
    map.get-insert nat_list_cmp_total locks name (record { fence = fence; holders = holders }) q

hold_grows : (name : List ℕ) (fence : ℕ) (holders : Holders) (locks : Locks) (q : List ℕ) → fence_in locks name ≤ fence
    → fence_in locks q ≤ fence_in (hold name fence holders locks) q
hold_grows name fence holders locks q le = elim (same_or_not q name) [
  | inl e ↦
      rw (get_hold name fence holders locks q, e.0) (subst (λ (n : List ℕ). fence_in locks n ≤ fence) (sym e.1) le)
  | inr e ↦ rw (get_hold name fence holders locks q, e) (omega arith)
]

hold_here : (name : List ℕ) (fence : ℕ) (holders : Holders) (locks : Locks)
    → fence_in (hold name fence holders locks) name ≡ fence
hold_here name fence holders locks =
    rw (get_hold name fence holders locks name, (eq_by_cmp_equiv nat_list_cmp_total).refl name) refl

abbrev Grows : Locks → Answer × Locks → List ℕ → Type 0
Grows locks came q = fence_in locks q ≤ fence_in came.1 q

still : (locks : Locks) (q : List ℕ) → fence_in locks q ≤ fence_in locks q
still locks q = omega arith

again_grows : (given : ℕ → Answer) (holders : Holders) (name : List ℕ) (last : ℕ) (locks : Locks) (q : List ℕ)
    → fence_in locks name ≡ last → Grows locks (give_again given holders name last locks) q
again_grows given holders name last locks q e = elim (cases_Bool (ltb last 281474976710656)) [
  | inl f ↦ rw f (hold_grows name (last + 1) holders locks q (omega (arith, e)))
  | inr f ↦ rw f (still locks q)
]

first_grows : (given : ℕ → Answer) (holders : Holders) (name : List ℕ) (locks : Locks) (q : List ℕ)
    → fence_in locks name ≡ 0 → Grows locks (give_first given holders name locks) q
first_grows given holders name locks q e = elim (cases_Bool (ltb (map.len locks) 512)) [
  | inl f ↦ rw f (hold_grows name 1 holders locks q (omega (arith, e)))
  | inr f ↦ rw f (still locks q)
]

known_grows : (client : ℕ) (name : List ℕ) (last : ℕ) (holders : Holders) (locks : Locks) (q : List ℕ)
    → fence_in locks name ≡ last → Grows locks (acquire_known client name last holders locks) q
known_grows client name last Nobody locks q e = again_grows Granted (ExclusiveHold client) name last locks q e
known_grows client name last (ExclusiveHold holder) locks q e = still locks q
known_grows client name last (SharedHold clients) locks q e = still locks q

acquire_grows : (client : ℕ) (name : List ℕ) (o : Option Lock) (locks : Locks) (q : List ℕ) → map.get locks name ≡ o
    → Grows locks (acquire client name o locks) q
acquire_grows client name None locks q e = first_grows Granted (ExclusiveHold client) name locks q (ap fence_of e)
acquire_grows client name (Some lock) locks q e =
    known_grows client name lock.fence lock.holders locks q (ap fence_of e)

shared_grows : (client : ℕ) (name : List ℕ) (last : ℕ) (holders : Holders) (locks : Locks) (q : List ℕ)
    → fence_in locks name ≡ last → Grows locks (share_known client name last holders locks) q
shared_grows client name last Nobody locks q e = again_grows Shared (SharedHold (client ∷ [])) name last locks q e
shared_grows client name last (ExclusiveHold holder) locks q e = still locks q
shared_grows client name last (SharedHold clients) locks q e =
    elim (cases_Bool (list_any (λ c. eqb c client) clients)) [
      | inl f ↦ rw f (still locks q)
      | inr f ↦ rw f (elim (cases_Bool (ltb (length clients) 8)) [
        | inl g ↦ rw g (hold_grows name last (SharedHold (adding_client client clients)) locks q (omega (arith, e)))
        | inr g ↦ rw g (still locks q)
      ])
    ]

share_grows : (client : ℕ) (name : List ℕ) (o : Option Lock) (locks : Locks) (q : List ℕ) → map.get locks name ≡ o
    → Grows locks (share client name o locks) q
share_grows client name None locks q e = first_grows Shared (SharedHold (client ∷ [])) name locks q (ap fence_of e)
share_grows client name (Some lock) locks q e = shared_grows client name lock.fence lock.holders locks q (ap fence_of e)

release_grows : (client : ℕ) (name : List ℕ) (fence : ℕ) (o : Option Lock) (locks : Locks) (q : List ℕ)
    → map.get locks name ≡ o → Grows locks (release client name fence o locks) q
release_grows client name fence None locks q e = still locks q
release_grows client name fence (Some lock) locks q e =
    elim (cases_Bool (is_held_by client lock.holders && eqb lock.fence fence)) [
      | inl f ↦ rw f (hold_grows name fence (without client lock.holders) locks q
          (let is = eqb-true lock.fence fence (and_parts (is_held_by client lock.holders) (eqb lock.fence fence) f).1 in
          omega (arith, ap fence_of e, is)))
      | inr f ↦ rw f (still locks q)
    ]

break_grows : (name : List ℕ) (fence : ℕ) (o : Option Lock) (locks : Locks) (q : List ℕ) → map.get locks name ≡ o
    → Grows locks (break_lock name fence o locks) q
break_grows name fence None locks q e = still locks q
break_grows name fence (Some lock) locks q e = elim (cases_Bool (not (is_free lock.holders) && eqb lock.fence fence)) [
  | inl f ↦ rw f (hold_grows name fence Nobody locks q
      (let is = eqb-true lock.fence fence (and_parts (not (is_free lock.holders)) (eqb lock.fence fence) f).1 in
      omega (arith, ap fence_of e, is)))
  | inr f ↦ rw f (still locks q)
]

use_grows : (client : ℕ) (raised : Bool) (o : Option Body) (locks : Locks) (q : List ℕ)
    → Grows locks (use_locks client raised o locks) q
use_grows client raised None locks q = still locks q
use_grows client raised (Some (Acquire name)) locks q = acquire_grows client name (map.get locks name) locks q refl
use_grows client raised (Some (Release name fence)) locks q =
    release_grows client name fence (map.get locks name) locks q refl
use_grows client raised (Some (Ask name)) locks q = still locks q
use_grows client raised (Some (Check name fence)) locks q = still locks q
use_grows client true (Some (Share name)) locks q = share_grows client name (map.get locks name) locks q refl
use_grows client false (Some (Share name)) locks q = still locks q
use_grows client true (Some (Break name fence)) locks q = break_grows name fence (map.get locks name) locks q refl
use_grows client false (Some (Break name fence)) locks q = still locks q

raise_keeps : (s : State) → (raise s).1.locks ≡ s.locks
raise_keeps s = elim (cases_Bool s.raised) [ inl e ↦ rw e refl | inr e ↦ rw e refl ]

same_grows : (old new : Locks) (q : List ℕ) → new ≡ old → fence_in old q ≤ fence_in new q
same_grows old new q e = subst (λ (l : Locks). fence_in old q ≤ fence_in l q) (sym e) (still old q)

serve_grows : (client : ℕ) (op : Op) (s : State) (q : List ℕ)
    → fence_in s.locks q ≤ fence_in (execute client op s).1.locks q
serve_grows client (Table body) s q = use_grows client s.raised (body_of body) s.locks q
serve_grows client (Join node port) s q =
    same_grows s.locks (join node port s).1.locks q (join_agrees node port s).locks
serve_grows client (Leave node) s q = same_grows s.locks (leave node s).1.locks q (leave_agrees node s).locks
serve_grows client Raise s q = same_grows s.locks (raise s).1.locks q (raise_keeps s)

one_grows : (c : Command) (s : State) (q : List ℕ) → fence_in s.locks q ≤ fence_in (after_one s c).locks q
one_grows Noop s q = still s.locks q
one_grows (Request r) s q =
    elim (cases_Bool (takes_effect s r))
    [ inl e ↦ rw e (serve_grows r.client r.op s q) | inr e ↦ rw e (still s.locks q) ]

all_grow : (L : List Command) (s : State) (q : List ℕ) → fence_in s.locks q ≤ fence_in (fold after_one s L).locks q
all_grow [] s q = still s.locks q
all_grow (c ∷ L) s q = omega (arith, one_grows c s q, all_grow L (after_one s c) q)

-- ---- what is granted is above all that was

abbrev Grants : Locks → List ℕ → ℕ → Answer × Locks → Type 0
Grants locks name fence came = (fence_in locks name < fence) × (fence_in came.1 name ≡ fence)

one_fence : (a b : ℕ) → Granted a ≡ Granted b → a ≡ b
one_fence a b e = cc e

first_grants : (client : ℕ) (name : List ℕ) (locks : Locks) (fence : ℕ) → fence_in locks name ≡ 0
    → (give_first Granted (ExclusiveHold client) name locks).0 ≡ Granted fence
    → Grants locks name fence (give_first Granted (ExclusiveHold client) name locks)
first_grants client name locks fence e = elim (cases_Bool (ltb (map.len locks) 512)) [
  | inl f ↦
      rw f (λ g. let is = one_fence 1 fence g in (
        omega (arith, e, is),
        hold_here name 1
            (ExclusiveHold client) locks ∙ is,
      ))
  | inr f ↦ rw f (λ g. absurd (cc g))
]

again_grants : (client : ℕ) (name : List ℕ) (last : ℕ) (locks : Locks) (fence : ℕ) → fence_in locks name ≡ last
    → (give_again Granted (ExclusiveHold client) name last locks).0 ≡ Granted fence
    → Grants locks name fence (give_again Granted (ExclusiveHold client) name last locks)
again_grants client name last locks fence e = elim (cases_Bool (ltb last 281474976710656)) [
  | inl f ↦ rw f (λ g. let is = one_fence (last + 1) fence g in
      (omega (arith, e, is), hold_here name (last + 1) (ExclusiveHold client) locks ∙ is))
  | inr f ↦ rw f (λ g. absurd (cc g))
]

known_grants : (client : ℕ) (name : List ℕ) (last : ℕ) (holders : Holders) (locks : Locks) (fence : ℕ)
    → fence_in locks name ≡ last → (acquire_known client name last holders locks).0 ≡ Granted fence
    → Grants locks name fence (acquire_known client name last holders locks)
known_grants client name last Nobody locks fence e g = again_grants client name last locks fence e g
known_grants client name last (ExclusiveHold holder) locks fence e g = absurd (cc g)
known_grants client name last (SharedHold clients) locks fence e g = absurd (cc g)

acquire_grants : (client : ℕ) (name : List ℕ) (o : Option Lock) (locks : Locks) (fence : ℕ) → map.get locks name ≡ o
    → (acquire client name o locks).0 ≡ Granted fence → Grants locks name fence (acquire client name o locks)
acquire_grants client name None locks fence e g = first_grants client name locks fence (ap fence_of e) g
acquire_grants client name (Some lock) locks fence e g =
    known_grants client name lock.fence lock.holders locks fence (ap fence_of e) g

-- ---- along a list

-- up to a position and on
one_further : (L : List Command) (i : ℕ) (c : Command) → at L i ≡ Some c → take i L ≡ take (i - 1) L ++ c ∷ []
one_further L zero c e = absurd (cc e)
one_further L (suc i) c e =
    let less : suc i - 1 ≡ i = omega arith in
    next L i c (sym (at_is L (suc i)) ∙ e) ∙ ap (λ (n : ℕ). take n L ++ c ∷ []) (sym less)
  where
    next : (xs : List Command) (k : ℕ) (x : Command) → slice_get xs k ≡ Some x → take (suc k) xs ≡ take k xs ++ x ∷ []
    next [] k x h = absurd (cc h)
    next (y ∷ xs) zero x h = let is : y ≡ x = cc h in ap (λ z. z ∷ []) is
    next (y ∷ xs) (suc k) x h = ap (λ l. y ∷ l) (next xs k x h)

pub fold-append : (s : State) (L K : List Command) → fold after_one s (L ++ K) ≡ fold after_one (fold after_one s L) K
fold-append s [] K = refl
fold-append s (c ∷ L) K = fold-append (after_one s c) L K

module _ (genesis : Genesis) (L : List Command) (name : List ℕ) where
  abbrev fences : ℕ → ℕ
  fences k = fence_in (after genesis (take k L)).locks name

  rises : (j k : ℕ) → j ≤ k → fences j ≤ fences k
  unfolding after
  rises j k le =
      let front : take j (take k L) ≡ take j L = take-take j k L le in
      let parts : take j L ++ drop j (take k L) ≡ take k L =
      ap (λ (l : List Command). l ++ drop j (take k L)) (sym front) ∙ take-append-drop j (take k L) in
      subst (λ (s : State). fences j ≤ fence_in s.locks name)
      (sym (fold-append (begin genesis) (take j L) (drop j (take k L)))
      ∙ ap (λ (l : List Command). fold after_one (begin genesis) l) parts)
      (all_grow (drop j (take k L)) (fold after_one (begin genesis) (take j L)) name)

  -- what is granted at a position is above all that was granted before, and is the last fence then
  grants_at : (w : Write) (i : ℕ) → (u : IsUnder genesis L name w i) → (fences (i - 1) < w.fence) × (fences i ≡ w.fence)
  unfolding after
  grants_at w i u =
      let s = fold after_one (begin genesis) (take (i - 1) L) in
      let served : (use_locks u.request.client s.raised (body_of u.body) s.locks).0 ≡ Granted w.fence =
      ap (λ (op : Op). (execute u.request.client op s).0) (sym u.asks) ∙ u.granted in
      let known : (use_locks u.request.client s.raised (Some (Acquire name)) s.locks).0 ≡ Granted w.fence =
      ap (λ (o : Option Body). (use_locks u.request.client s.raised o s.locks).0) (sym u.acquires) ∙ served in
      let g = acquire_grants u.request.client name (map.get s.locks name) s.locks w.fence refl known in
      let stepped : (after_one s (Request u.request)).locks ≡ (execute u.request.client u.request.op s).1.locks =
      of_step (takes_effect s u.request) u.is_effective.1 in
      let locks : (after_one s (Request u.request)).locks
      ≡ (acquire u.request.client name (map.get s.locks name) s.locks).1 =
      stepped ∙ ap (λ (op : Op). (execute u.request.client op s).1.locks) u.asks
      ∙ ap (λ (o : Option Body). (use_locks u.request.client s.raised o s.locks).1) u.acquires in
      let now : fold after_one (begin genesis) (take i L) ≡ after_one s (Request u.request) =
      ap (λ (l : List Command). fold after_one (begin genesis) l) (one_further L i (Request u.request) u.is_effective.0)
      ∙ fold-append (begin genesis) (take (i - 1) L) (Request u.request ∷ []) in
      (g.0, ap (λ (t : State). fence_in t.locks name) now ∙ ap (λ (l : Locks). fence_in l name) locks ∙ g.1)
    where
      of_step : (b : Bool) → takes_effect (fold after_one (begin genesis) (take (i - 1) L)) u.request ≡ true
          → (after_one (fold after_one (begin genesis) (take (i - 1) L)) (Request u.request)).locks
          ≡ (execute u.request.client u.request.op (fold after_one (begin genesis) (take (i - 1) L))).1.locks
      of_step b e = rw e refl

  later_above : (v w : Write) (i j : ℕ) → IsUnder genesis L name v i → IsUnder genesis L name w j
      → i < j → v.fence < w.fence
  later_above v w i j a b lt =
      let before = grants_at v i a in
      let after_it = grants_at w j b in
      let rise = rises i (j - 1) (omega (arith, lt)) in
      omega (arith, before.1, after_it.0, rise)

  one : (v w : Write) (i j : ℕ) → IsUnder genesis L name v i → IsUnder genesis L name w j → v.fence ≡ w.fence → i ≡ j
  one v w i j a b e = elim (cases_Bool (ltb i j)) [
    | inl lower ↦ (let lt = later_above v w i j a b (ltb-true i j lower) in absurd (omega (arith, lt, e)))
    | inr not_lower ↦ elim (cases_Bool (ltb j i)) [
      | inl greater ↦ (let lt = later_above w v j i b a (ltb-true j i greater) in absurd (omega (arith, lt, e)))
      | inr not_greater ↦
          (let le = ltb-false i j not_lower in let ge = ltb-false j i not_greater in omega (arith, le, ge))
    ]
  ]

  same_write : (v w : Write) → v.client ≡ w.client → v.number ≡ w.number → v.fence ≡ w.fence → v ≡ w
  same_write v w client number fence =
      ap (λ (c : ℕ). of_parts c v.number v.fence) client ∙ ap (λ (n : ℕ). of_parts w.client n v.fence) number
      ∙ ap (λ (f : ℕ). of_parts w.client w.number f) fence
    where
      of_parts : ℕ → ℕ → ℕ → Write
      of_parts client number fence = record { client = client; number = number; fence = fence }

  one_request : (v w : Write) (i j : ℕ) (a : IsUnder genesis L name v i) (b : IsUnder genesis L name w j) → i ≡ j
      → a.request ≡ b.request
  one_request v w i j a b e =
      let here : Some (Request a.request) ≡ Some (Request b.request) =
      sym a.is_effective.0 ∙ ap (λ (n : ℕ). at L n) e ∙ b.is_effective.0 in
      cc here

  once : (v w : Write) (i j : ℕ) → IsUnder genesis L name v i → IsUnder genesis L name w j → v.fence ≡ w.fence
      → (i ≡ j) × (v ≡ w)
  once v w i j a b e =
      let here = one v w i j a b e in
      let request = one_request v w i j a b here in (
        here,
        same_write v w (sym a.of_client ∙ ap (λ (r : Asking). r.client) request ∙ b.of_client)
            (sym a.of_number ∙ ap (λ (r : Asking). r.number) request ∙ b.of_number) e,
      )

  ordered : (v w : Write) (i j : ℕ) → IsUnder genesis L name v i → IsUnder genesis L name w j
      → v.fence ≤ w.fence → i ≤ j
  ordered v w i j a b le = elim (cases_Bool (ltb j i)) [
    | inl greater ↦ (let lt = later_above w v j i b a (ltb-true j i greater) in absurd (omega (arith, lt, le)))
    | inr not_greater ↦ ltb-false j i not_greater
  ]

-- ---- what is accepted is at or above what was seen, and rises

above : (writes : List Write) (highest : ℕ) (w : Write) → Contains (accepted highest writes) w → highest ≤ w.fence
above [] highest w c = absurd (omega (arith, c.1))
above (x ∷ writes) highest w c = elim (cases_Bool (leb highest x.fence)) [
  | inl e ↦
      let here : Contains (x ∷ accepted x.fence writes) w = rw e at c in
      let low = leb-true highest x.fence e in
      elim (cons_cases x (accepted x.fence writes) w here) [
        | inl is ↦ omega (arith, low, ap (λ (z : Write). z.fence) is)
        | inr later ↦ omega (arith, low, above writes x.fence w later)
      ]
  | inr e ↦ (let there : Contains (accepted highest writes) w = rw e at c in above writes highest w there)
]

no_more : (front back : List Write) (v : Write) → ◌≡◌ {A = List Write} [] (front ++ v ∷ back) → ⊥
no_more [] back v e = cc e
no_more (y ∷ front) back v e = cc e

after_first : (x : Write) (rest front back : List Write) (v w : Write) → x ∷ rest ≡ front ++ v ∷ back → Contains back w
    → ((u : Write) → Contains rest u → x.fence ≤ u.fence)
    → ((f : List Write) → rest ≡ f ++ v ∷ back → v.fence ≤ w.fence) → v.fence ≤ w.fence
after_first x rest [] back v w e c low again =
    let is : x ≡ v = cc e in
    let same : rest ≡ back = cc e in
    let le = low w (subst (λ (l : List Write). Contains l w) (sym same) c) in
    omega (arith, le, ap (λ (z : Write). z.fence) is)
after_first x rest (y ∷ front) back v w e c low again = again front (cc e)

sorted : (writes : List Write) (highest : ℕ) (front back : List Write) (v w : Write)
    → accepted highest writes ≡ front ++ v ∷ back → Contains back w → v.fence ≤ w.fence
sorted [] highest front back v w e c = absurd (no_more front back v e)
sorted (x ∷ writes) highest front back v w e c = elim (cases_Bool (leb highest x.fence)) [
  | inl f ↦ (let here : x ∷ accepted x.fence writes ≡ front ++ v ∷ back = rw f at e in
      after_first x (accepted x.fence writes) front back v w here c (λ u d. above writes x.fence u d)
      (λ g d. sorted writes x.fence g back v w d c))
  | inr f ↦ (let there : accepted highest writes ≡ front ++ v ∷ back = rw f at e in
      sorted writes highest front back v w there c)
]

pub fences_rise : (genesis : Genesis) (L : List Command) (name : List ℕ) → FencesRise genesis L name
fences_rise genesis L name = record { later = later_above genesis L name; once = once genesis L name }

pub guarded : (genesis : Genesis) (L : List Command) (name : List ℕ) (writes : List Write)
    → IsGuarded genesis L name writes
guarded genesis L name writes = record {
  one_grant = one genesis L name;
  in_order = λ front back v w i j e c a b. ordered genesis L name v w i j a b (sorted writes 0 front back v w e c);
}

-- ---- what is granted was acquired

record IsAcquired (op : Op) : Type 0 where
  body : List ℕ
  name : List ℕ
  is : op ≡ Table body
  acquires : body_of body ≡ Some (Acquire name)

no_grant_told : (last : ℕ) (holders : Holders) (fence : ℕ) → told_of last holders ≡ Granted fence → ⊥
no_grant_told last Nobody fence g = cc g
no_grant_told last (ExclusiveHold holder) fence g = cc g
no_grant_told last (SharedHold clients) fence g = cc g

no_grant_asked : (o : Option Lock) (fence : ℕ) → asks o ≡ Granted fence → ⊥
no_grant_asked None fence g = cc g
no_grant_asked (Some lock) fence g = no_grant_told lock.fence lock.holders fence g

no_grant_checked : (b : Bool) (fence : ℕ) → cond b Valid Stale ≡ Granted fence → ⊥
no_grant_checked true fence g = cc g
no_grant_checked false fence g = cc g

no_grant_of : (b : Bool) (x y : Answer × Locks) (fence : ℕ) → (x.0 ≡ Granted fence → ⊥) → (y.0 ≡ Granted fence → ⊥)
    → (cond b x y).0 ≡ Granted fence → ⊥
no_grant_of true x y fence a b g = a g
no_grant_of false x y fence a b g = b g

no_grant_shared : (client : ℕ) (name : List ℕ) (last : ℕ) (holders : Holders) (locks : Locks) (fence : ℕ)
    → (share_known client name last holders locks).0 ≡ Granted fence → ⊥
no_grant_shared client name last Nobody locks fence g =
    no_grant_of (ltb last 281474976710656) (Shared (last + 1), hold name (last + 1) (SharedHold (client ∷ [])) locks)
    (Spent, locks) fence (λ e. cc e) (λ e. cc e) g
no_grant_shared client name last (ExclusiveHold holder) locks fence g = cc g
no_grant_shared client name last (SharedHold clients) locks fence g =
    no_grant_of (list_any (λ c. eqb c client) clients) (Shared last, locks)
    (cond (ltb (length clients) 8) (Shared last, hold name last (SharedHold (adding_client client clients)) locks)
    (Busy (first clients) last, locks)) fence (λ e. cc e)
    (no_grant_of (ltb (length clients) 8) (
      Shared last,
      hold name last
          (SharedHold (adding_client client clients)) locks,
    )
    (Busy (first clients) last, locks) fence (λ e. cc e) (λ e. cc e)) g

no_grant_share : (client : ℕ) (name : List ℕ) (o : Option Lock) (locks : Locks) (fence : ℕ)
    → (share client name o locks).0 ≡ Granted fence → ⊥
no_grant_share client name None locks fence g =
    no_grant_of (ltb (map.len locks) 512) (Shared 1, hold name 1 (SharedHold (client ∷ [])) locks) (NoRoom, locks) fence
    (λ e. cc e) (λ e. cc e) g
no_grant_share client name (Some lock) locks fence g = no_grant_shared client name lock.fence lock.holders locks fence g

no_grant_release : (client : ℕ) (name : List ℕ) (at_fence : ℕ) (o : Option Lock) (locks : Locks) (fence : ℕ)
    → (release client name at_fence o locks).0 ≡ Granted fence → ⊥
no_grant_release client name at_fence None locks fence g = cc g
no_grant_release client name at_fence (Some lock) locks fence g =
    no_grant_of (is_held_by client lock.holders && eqb lock.fence at_fence)
    (Released, hold name at_fence (without client lock.holders) locks) (NotHeld, locks) fence (λ e. cc e) (λ e. cc e) g

no_grant_break : (name : List ℕ) (at_fence : ℕ) (o : Option Lock) (locks : Locks) (fence : ℕ)
    → (break_lock name at_fence o locks).0 ≡ Granted fence → ⊥
no_grant_break name at_fence o locks fence g =
    no_grant_of (is_held_at at_fence o) (Broken, hold name at_fence Nobody locks) (Stale, locks) fence
    (λ e. cc e) (λ e. cc e) g

acquired_by : (client : ℕ) (raised : Bool) (bytes : List ℕ) (o : Option Body) (locks : Locks) (fence : ℕ)
    → body_of bytes ≡ o → (use_locks client raised o locks).0 ≡ Granted fence → IsAcquired (Table bytes)
acquired_by client raised bytes None locks fence e g = absurd (cc g)
acquired_by client raised bytes (Some (Acquire name)) locks fence e g =
    record { body = bytes; name = name; is = refl; acquires = e }
acquired_by client raised bytes (Some (Release name at_fence)) locks fence e g =
    absurd (no_grant_release client name at_fence (map.get locks name) locks fence g)
acquired_by client raised bytes (Some (Ask name)) locks fence e g = absurd (no_grant_asked (map.get locks name) fence g)
acquired_by client raised bytes (Some (Check name at_fence)) locks fence e g =
    absurd (no_grant_checked (is_held_at at_fence (map.get locks name)) fence g)
acquired_by client true bytes (Some (Share name)) locks fence e g =
    absurd (no_grant_share client name (map.get locks name) locks fence g)
acquired_by client false bytes (Some (Share name)) locks fence e g = absurd (cc g)
acquired_by client true bytes (Some (Break name at_fence)) locks fence e g =
    absurd (no_grant_break name at_fence (map.get locks name) locks fence g)
acquired_by client false bytes (Some (Break name at_fence)) locks fence e g = absurd (cc g)

no_grant_state : (b : Bool) (x y : Answer × State) (fence : ℕ) → (x.0 ≡ Granted fence → ⊥) → (y.0 ≡ Granted fence → ⊥)
    → (cond b x y).0 ≡ Granted fence → ⊥
no_grant_state true x y fence a b g = a g
no_grant_state false x y fence a b g = b g

acquired : (client : ℕ) (op : Op) (s : State) (fence : ℕ) → (execute client op s).0 ≡ Granted fence → IsAcquired op
acquired client (Table bytes) s fence g = acquired_by client s.raised bytes (body_of bytes) s.locks fence refl g
acquired client (Join node port) s fence g = absurd (elim (cases_Bool (leb node s.greatest)) [
  | inl e ↦ (let d : Used ≡ Granted fence = rw e at g in cc d)
  | inr e ↦ elim (cases_Bool (leb 7 (length s.members))) [
    | inl f ↦ (let d : Full ≡ Granted fence = rw (e, f) at g in cc d)
    | inr f ↦ (let d : Joined ≡ Granted fence = rw (e, f) at g in cc d)
  ]
])
acquired client (Leave node) s fence g = absurd (elim (cases_Bool (list_any (λ m. eqb m.node node) s.members)) [
  | inl e ↦ elim (cases_Bool (eqb (length (filter (λ m. not (eqb m.node node)) s.members)) 0)) [
    | inl f ↦ (let d : Last ≡ Granted fence = rw (e, f) at g in cc d)
    | inr f ↦ (let d : Left ≡ Granted fence = rw (e, f) at g in cc d)
  ]
  | inr e ↦ (let d : NotMember ≡ Granted fence = rw e at g in cc d)
])
acquired client Raise s fence g = absurd (elim (cases_Bool s.raised) [
  | inl e ↦ (let d : AlreadyRaised ≡ Granted fence = rw e at g in cc d)
  | inr e ↦ (let d : Raised ≡ Granted fence = rw e at g in cc d)
])

listed : (genesis : Genesis) (trace : List Note) (L : List Command)
    → ((i : ℕ) (r : Asking) → at L i ≡ Some (Request r) → Contains trace (note.Asked r)) → (client number fence : ℕ)
    → IsPlaced genesis L client number (Granted fence)
    → IsListed genesis trace L (record { client = client; number = number; fence = fence })
listed genesis trace L asked client number fence p =
    let before : State = after genesis (take (p.position - 1) L) in
    let served : (execute p.request.client p.request.op before).0 ≡ Granted fence =
    ap (λ (c : ℕ). (execute c p.request.op before).0) p.of_client ∙ p.answered in
    let k = acquired p.request.client p.request.op before fence served in (
      k.name,
      p.position,
      record {
        request = p.request;
        is_effective = p.is_effective;
        of_client = p.of_client;
        of_number = p.of_number;
        body = k.body;
        asks = k.is;
        acquires = k.acquires;
        granted = served;
      },
      λ one r there of_client of_number.
          one p.request r (asked p.position p.request p.is_effective.0) there p.of_client of_client p.of_number
          of_number,
    )

pub are_listed : (genesis : Genesis) (sent : List Datagram) (trace : List Note) → IsExplained genesis sent trace
    → AreListed genesis sent trace
are_listed genesis sent trace e = (
  e.0,
  e.1,
  λ node client number fence c. listed genesis trace e.0 e.2.asked client number fence
      (placed genesis e.0 client number (Granted fence) (e.2.answered node client number (Granted fence) c)),
)
