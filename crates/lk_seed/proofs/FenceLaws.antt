-- What is wanted, and what a table has.
use Rattle.std.proofs.Common.{◌≡◌, ◌∙◌, ◌+◌, ◌<◌, ◌≤◌, ◌++◌, ◌∷◌, [], ℕ, List, false, get_or, length, take}
use Rattle.std.proofs.Common.{refl, ap, subst, sym, true≢false, append_assoc}
use Rattle.std.proofs.lemmas.List.{map_more}
use Rattle.std.specs.Prelude.{Contains, map}
use Rattle.lk_locks.specs.Holders.{is_held}
use Rattle.lk_locks.specs.declared.lock_entry.Holders.{Holders}
use Rattle.lk_locks.specs.declared.lock_entry.Holders.TheVariants.{Nobody, ExclusiveHold, SharedHold}
use Rattle.lk_locks.specs.declared.lock_entry.LockEntry.{LockEntry}
use Rattle.lk_seed.specs.Fences.{HasFence, all_wanted_past, wanted_past}
use Rattle.lk_seed.specs.Histories.{IsWanted}
use Rattle.lk_seed.specs.declared.wanted.Wanted.{Wanted}

pub nobody : (h : Holders) → is_held h ≡ false → h ≡ Nobody
nobody Nobody none = refl
nobody (ExclusiveHold client) none = absurd (true≢false none)
nobody (SharedHold clients) none = absurd (true≢false none)

-- what stands at an index of what is wanted is wanted
pub is_wanted : (wanted : List Wanted) (i : ℕ) (w : Wanted) → i < length wanted → w ≡ get_or wanted i w
    → IsWanted wanted w.name
is_wanted wanted i w within is = (w, (i, within, sym is), refl)

-- the name that stands at an index has the fence
pub has_at : (names : List (List ℕ × LockEntry)) (w : Wanted) (i : ℕ) (n : List ℕ × LockEntry) → i < length names
    → n ≡ get_or names i n → n.0 ≡ w.name → w.fence ≤ n.1.fence → is_held n.1.holders ≡ false → HasFence names w
has_at names w i n within is named above free = record {
  lock_entry = n.1;
  has = subst (λ (name : List ℕ). Contains names (name, n.1)) named (i, within, sym is);
  free = nobody n.1.holders free;
  fence = above;
}

-- what is wanted of one more name was appended
pub wanted_more : (past : ℕ) (names : List (List ℕ × LockEntry)) (i : ℕ) (n : List ℕ × LockEntry) (w : Wanted)
    (old so_far new : List Wanted) → i < length names → n ≡ get_or names i n → w ≡ wanted_past past n
    → so_far ≡ old ++ all_wanted_past past (take i names) → new ≡ so_far ++ w ∷ []
    → new ≡ old ++ all_wanted_past past (take (i + 1) names)
wanted_more past names i n w old so_far new within is wanted so pushed =
    let first : List Wanted = all_wanted_past past (take i names) in
    pushed ∙ ap (λ (l : List Wanted). l ++ w ∷ []) so ∙ append_assoc old first (w ∷ [])
    ∙ ap (λ (l : List Wanted). old ++ l) (ap (λ (v : Wanted). first ++ v ∷ []) (wanted ∙ ap (wanted_past past) is)
    ∙ sym (map_more (wanted_past past) names i n within))
