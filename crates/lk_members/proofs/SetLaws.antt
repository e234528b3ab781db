-- What a set of members is once one joined or left, and a window once a set came.
use Rattle.std.proofs.Common.{◌≡◌, ℕ, zero, suc, ◌-◌, ◌<◌, ◌≤◌, max, Bool, true, false, not, eqb, nat_le, nat_lt, List}
use Rattle.std.proofs.Common.{[], ◌∷◌, ◌++◌, length, drop, get_or, filter, refl, ap, sym, ◌∙◌, inl, inr, arith}
use Rattle.std.proofs.Common.{length-append}
use Rattle.std.specs.List.{list_all, AllByRecursion}
use Rattle.std.proofs.lemmas.Bool.{and_parts, and_from, cases_Bool, ltb-true, lt-ltb, leb-true, le-leb}
use Rattle.std.proofs.lemmas.List.Folds.{list_all-append}
use Rattle.lk_types.specs.Limits.{max_window}
use Rattle.lk_types.specs.Ranges.{IsTotal, IsNode}
use Rattle.lk_types.specs.Rosters.{members_rise, AreMembers}
use Rattle.lk_members.specs.Rosters.{Member, greatest_node, others, is_nobody}
use Rattle.lk_members.specs.Sets.{IsSet, IsWindow, are_at_most, newest}
use Rattle.lk_members.specs.Windows.{RosterValue, IsRoster}

module _ {X : Type 0} where
  list_all-weaker : (p q : X → Bool) → ((x : X) → p x ≡ true → q x ≡ true) → (xs : List X)
      → list_all p xs ≡ true → list_all q xs ≡ true
  list_all-weaker p q to [] h = refl
  list_all-weaker p q to (x ∷ xs) h =
      let parts = and_parts (p x) (list_all p xs) h in
      and_from (q x) (list_all q xs) (to x parts.0) (list_all-weaker p q to xs parts.1)

  list_all-behind : (p : X → Bool) (xs : List X) → list_all p xs ≡ true → list_all p (drop 1 xs) ≡ true
  list_all-behind p [] h = refl
  list_all-behind p (x ∷ xs) h = (and_parts (p x) (list_all p xs) h).1

  list_all-filter : (p q : X → Bool) (xs : List X) → list_all p xs ≡ true → list_all p (filter q xs) ≡ true
  list_all-filter p q [] h = refl
  list_all-filter p q (x ∷ xs) h =
      let parts = and_parts (p x) (list_all p xs) h in
      let rest = list_all-filter p q xs parts.1 in
      elim (cases_Bool (q x)) [
        | inl t ↦
            rw t (and_from (p x) (list_all p (filter q xs)) parts.0 rest)
        | inr f ↦ rw f rest
      ]

  pub AllByRecursion-push : (P : X → Type 0) (xs : List X) (y : X) → AllByRecursion P xs → P y
      → AllByRecursion P (xs ++ y ∷ [])
  AllByRecursion-push P [] y all here = (here, tt)
  AllByRecursion-push P (x ∷ xs) y all here = (all.0, AllByRecursion-push P xs y all.1 here)

  AllByRecursion-behind : (P : X → Type 0) (xs : List X) → AllByRecursion P xs → AllByRecursion P (drop 1 xs)
  AllByRecursion-behind P [] all = tt
  AllByRecursion-behind P (x ∷ xs) all = all.1

at_most-weaker : (low high : ℕ) → low ≤ high → (set : List Member) → list_all (λ m. nat_le m.node low) set ≡ true
    → list_all (λ m. nat_le m.node high) set ≡ true
at_most-weaker low high le set h =
    list_all-weaker (λ (m : Member). nat_le m.node low) (λ (m : Member). nat_le m.node high)
    (λ m e. le-leb _ _ (omega (arith, leb-true m.node low e))) set h

pub are_at_most-weaker : (low high : ℕ) → low ≤ high → (sets : List (List Member)) → are_at_most low sets ≡ true
    → are_at_most high sets ≡ true
are_at_most-weaker low high le sets h =
    list_all-weaker (λ (s : List Member). list_all (λ m. nat_le m.node low) s)
    (λ (s : List Member). list_all (λ m. nat_le m.node high) s) (at_most-weaker low high le) sets h

pub are_at_most-push : (greatest : ℕ) (sets : List (List Member)) (set : List Member)
    → are_at_most greatest sets ≡ true → list_all (λ m. nat_le m.node greatest) set ≡ true
    → are_at_most greatest (sets ++ set ∷ []) ≡ true
are_at_most-push greatest sets set all here =
    list_all-append (λ (s : List Member). list_all (λ m. nat_le m.node greatest) s) sets (set ∷ [])
    ∙ and_from (are_at_most greatest sets)
    (are_at_most greatest (set ∷ []))
    all (and_from (list_all (λ (m : Member). nat_le m.node greatest) set) true here refl)

length-behind : {X : Type 0} (xs : List X) → length (drop 1 xs) ≤ length xs - 1
length-behind [] = omega arith
length-behind (x ∷ xs) = omega arith

pub IsWindow-push : (sets : List (List Member)) (set : List Member) → length sets < max_window → IsWindow sets
    → IsSet set → IsWindow (sets ++ set ∷ [])
IsWindow-push sets set room h members =
    (simp length-append (omega arith), AllByRecursion-push IsSet sets set h.1 members)

pub IsWindow-moved : (sets : List (List Member)) (set : List Member) → 0 < length sets → IsWindow sets → IsSet set
    → IsWindow (drop 1 sets ++ set ∷ [])
IsWindow-moved sets set some h members =
    let few = h.0 in
    IsWindow-push (drop 1 sets) set (omega (arith, length-behind sets))
    (omega (arith, length-behind sets), AllByRecursion-behind IsSet sets h.1) members

-- the window that one set left and one entered
pub IsRoster-moved : (v : RosterValue) (executed greatest changed : ℕ) (set : List Member) → IsRoster v
    → IsTotal executed → IsSet set → list_all (λ m. nat_le m.node greatest) set ≡ true
    → v.greatest ≤ greatest → IsNode greatest → IsTotal changed
    → IsRoster (record {
      executed = executed;
      sets = drop 1 v.sets ++ set ∷ [];
      greatest = greatest;
      changed = changed;
    })
IsRoster-moved v executed greatest changed set r total members below rises node at =
    let some = r.some_set in
    record {
      executed = total;
      sets = IsWindow-moved v.sets set some r.sets members;
      some_set = simp length-append (omega arith);
      greatest = node;
      bound = are_at_most-push greatest (drop 1 v.sets) set
          (list_all-behind (λ (s : List Member). list_all (λ m. nat_le m.node greatest) s) v.sets
          (are_at_most-weaker v.greatest greatest rises v.sets r.bound)) below;
      changed = at;
    }

at_most-get_or : (greatest : ℕ) (sets : List (List Member)) (k : ℕ) → are_at_most greatest sets ≡ true
    → list_all (λ m. nat_le m.node greatest) (get_or sets k []) ≡ true
at_most-get_or greatest [] k h = refl
at_most-get_or greatest (s ∷ sets) zero h =
    (and_parts (list_all (λ (m : Member). nat_le m.node greatest) s) (are_at_most greatest sets) h).0
at_most-get_or greatest (s ∷ sets) (suc k) h =
    at_most-get_or greatest sets k
    (and_parts (list_all (λ (m : Member). nat_le m.node greatest) s) (are_at_most greatest sets) h).1

-- no member of the last known set is above the greatest number
pub newest-at_most : (v : RosterValue) → IsRoster v → list_all (λ m. nat_le m.node v.greatest) (newest v.sets) ≡ true
newest-at_most v r = at_most-get_or v.greatest v.sets (length v.sets - 1) r.bound

rising-weaker : (low high : ℕ) → low ≤ high → (ms : List Member) → members_rise high ms ≡ true
    → members_rise low ms ≡ true
rising-weaker low high le [] h = refl
rising-weaker low high le (m ∷ ms) h =
    let parts = and_parts (nat_lt high m.node) (members_rise m.node ms) h in
    and_from (nat_lt low m.node) (members_rise m.node ms)
    (lt-ltb low m.node (omega (arith, ltb-true high m.node parts.0))) parts.1

-- a member above all others stands at the end
pub rising-push : (low greatest : ℕ) (ms : List Member) (m : Member) → members_rise low ms ≡ true
    → list_all (λ m. nat_le m.node greatest) ms ≡ true → low ≤ greatest → greatest < m.node
    → members_rise low (ms ++ m ∷ []) ≡ true
rising-push low greatest [] m rises below le lt =
    and_from (nat_lt low m.node) true (lt-ltb low m.node (omega arith)) refl
rising-push low greatest (x ∷ ms) m rises below le lt =
    let parts = and_parts (nat_lt low x.node) (members_rise x.node ms) rises in
    let fits = and_parts (nat_le x.node greatest) (list_all (λ (m : Member). nat_le m.node greatest) ms) below in
    and_from (nat_lt low x.node) (members_rise x.node (ms ++ m ∷ [])) parts.0
    (rising-push x.node greatest ms m parts.1 fits.1 (leb-true x.node greatest fits.0) lt)

rising-others : (low node : ℕ) (ms : List Member) → members_rise low ms ≡ true
    → members_rise low (others node ms) ≡ true
rising-others low node [] h = refl
rising-others low node (m ∷ ms) h =
    let parts = and_parts (nat_lt low m.node) (members_rise m.node ms) h in
    let rest = rising-others m.node node ms parts.1 in
    let lt = ltb-true low m.node parts.0 in
    elim (cases_Bool (not (eqb m.node node))) [
      | inl t ↦ rw t (and_from (nat_lt low m.node) (members_rise m.node (others node ms)) parts.0 rest)
      | inr f ↦ rw f (rising-weaker low m.node (omega arith) (others node ms) rest)
    ]

length-others : (node : ℕ) (ms : List Member) → length (others node ms) ≤ length ms
length-others node [] = omega arith
length-others node (m ∷ ms) =
    let rest = length-others node ms in
    elim (cases_Bool (not (eqb m.node node))) [ inl t ↦ rw t (omega arith) | inr f ↦ rw f (omega arith) ]

pub nodes_below-others : (greatest node : ℕ) (ms : List Member) → list_all (λ m. nat_le m.node greatest) ms ≡ true
    → list_all (λ m. nat_le m.node greatest) (others node ms) ≡ true
nodes_below-others greatest node ms h =
    list_all-filter (λ (m : Member). nat_le m.node greatest) (λ (m : Member). not (eqb m.node node)) ms h

some_left : (ms : List Member) → is_nobody ms ≡ false → 1 ≤ length ms
some_left [] e = absurd cc
some_left (m ∷ ms) e = omega arith

is_left : (ms : List Member) → 1 ≤ length ms → is_nobody ms ≡ false
is_left [] h = absurd (omega arith)
is_left (m ∷ ms) h = refl

-- without one of them they are a set where somebody is left
pub AreMembers-others : (node : ℕ) (ms : List Member) → AreMembers ms → is_nobody (others node ms) ≡ false
    → AreMembers (others node ms)
AreMembers-others node ms h left =
    (some_left (others node ms) left, (omega (arith, length-others node ms, h.1)), rising-others 0 node ms h.2)

pub others-AreMembers : (node : ℕ) (ms : List Member) → AreMembers (others node ms) → is_nobody (others node ms) ≡ false
others-AreMembers node ms h = is_left (others node ms) h.0

pub AreMembers-push : (greatest : ℕ) (ms : List Member) (m : Member) → AreMembers ms → length ms < 7
    → list_all (λ m. nat_le m.node greatest) ms ≡ true → greatest < m.node → members_rise 0 (ms ++ m ∷ []) ≡ true
AreMembers-push greatest ms m h room below lt = rising-push 0 greatest ms m h.2 below (omega arith) lt

pub nodes_below-push : (greatest : ℕ) (ms : List Member) (m : Member)
    → list_all (λ m. nat_le m.node greatest) ms ≡ true → greatest < m.node
    → list_all (λ x. nat_le x.node m.node) (ms ++ m ∷ []) ≡ true
nodes_below-push greatest ms m h lt =
    list_all-append (λ (x : Member). nat_le x.node m.node) ms (m ∷ [])
    ∙ and_from (list_all (λ (x : Member). nat_le x.node m.node) ms)
    (list_all (λ (x : Member). nat_le x.node m.node) (m ∷ [])) (at_most-weaker greatest m.node (omega arith) ms h)
    (and_from (nat_le m.node m.node) true (le-leb m.node m.node (omega arith)) refl)

-- the last of a list
last_from : List Member → Member → Member
last_from [] d = d
last_from (m ∷ ms) d = last_from ms m

get_or-last : (m : Member) (ms : List Member) (d : Member) → get_or (m ∷ ms) (length ms) d ≡ last_from ms m
unfolding last_from
get_or-last m [] d = refl
get_or-last m (n ∷ ms) d = get_or-last n ms d

rising_last : (m : Member) (ms : List Member) → members_rise m.node ms ≡ true
    → (greatest_node (m ∷ ms) ≡ (last_from ms m).node) × (m.node ≤ greatest_node (m ∷ ms))
unfolding last_from
rising_last m [] h = (omega arith, omega arith)
rising_last m (n ∷ ms) h =
    let parts = and_parts (nat_lt m.node n.node) (members_rise n.node ms) h in
    let above = ltb-true m.node n.node parts.0 in
    let rest = rising_last n ms parts.1 in
    let bound = rest.1 in
    let same : max m.node (greatest_node (n ∷ ms)) ≡ greatest_node (n ∷ ms) = omega arith in
    (same ∙ rest.0, omega arith)

-- the last of a set has the greatest number
pub greatest_node-last : (ms : List Member) (d : Member) → AreMembers ms
    → greatest_node ms ≡ (get_or ms (length ms - 1) d).node
greatest_node-last [] d h = absurd (omega (arith, h.0))
greatest_node-last (m ∷ ms) d h =
    let parts = and_parts (nat_lt 0 m.node) (members_rise m.node ms) h.2 in
    let len : length (m ∷ ms) - 1 ≡ length ms = omega arith in
    (rising_last m ms parts.1).0 ∙ ap (λ (x : Member). x.node) (sym (get_or-last m ms d))
    ∙ ap (λ (k : ℕ). (get_or (m ∷ ms) k d).node) (sym len)

pub at_most_greatest : (ms : List Member) → list_all (λ m. nat_le m.node (greatest_node ms)) ms ≡ true
at_most_greatest [] = refl
at_most_greatest (m ∷ ms) =
    and_from (nat_le m.node (greatest_node (m ∷ ms)))
    (list_all (λ (x : Member). nat_le x.node (greatest_node (m ∷ ms))) ms)
    (le-leb m.node (greatest_node (m ∷ ms)) (omega arith))
    (at_most-weaker (greatest_node ms) (greatest_node (m ∷ ms)) (omega arith) ms (at_most_greatest ms))
