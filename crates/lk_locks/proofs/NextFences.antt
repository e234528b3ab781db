-- A name that nobody holds is given at the fence after all that were given before, and it is granted to one only where
-- nobody holds it.
use Rattle.std.proofs.Common.{◌≡◌, ℕ, ◌+◌, ◌⊎◌, Bool, true, false, cond, ltb, eqb, List, [], ◌∷◌, ◌++◌, length, Option}
use Rattle.std.proofs.Common.{Some, None, refl, sym, ap, subst, ◌∙◌, inl, inr, arith}
use Rattle.std.proofs.lemmas.Bool.{eq-eqb, ne_eqb}
use Rattle.std.specs.FinMap as map
use Rattle.std.specs.Ordering.{nat_cmp}
use Rattle.std.specs.Cmp.Lexicographic.{slice_cmp}
use Rattle.lk_types.specs.declared.answer.Answer.{Answer}
use Rattle.lk_types.specs.declared.answer.Answer.TheVariants.{Granted, Shared}
use Rattle.lk_members.specs.Effects.{Command, effects}
use Rattle.lk_locks.specs.declared.body.Body.{Body}
use Rattle.lk_locks.specs.declared.body.Body.TheVariants.{Acquire, Release, Ask, Check, Share, Break}
use Rattle.lk_locks.specs.declared.lock_entry.Holders.{Holders}
use Rattle.lk_locks.specs.declared.lock_entry.Holders.TheVariants.{Nobody, ExclusiveHold, SharedHold}
use Rattle.lk_locks.specs.declared.lock_entry.LockEntry.{LockEntry}
use Rattle.lk_locks.specs.Bodies.{body_of, name_of, is_known, known}
use Rattle.lk_locks.specs.Free.{IsFree}
use Rattle.lk_locks.specs.Holders.{is_held, left_by}
use Rattle.lk_locks.specs.Sharers.{is_among}
use Rattle.lk_locks.specs.Plain.{Names, Table, empty, transition, answer_to, answer, given, fence_after, first_fence}
use Rattle.lk_locks.specs.Plain.{acquired_at, acquired, shared_with, shared_at, shared, left_at, released, is_held_at}
use Rattle.lk_locks.specs.Plain.{broken, asked, checked}
use Rattle.lk_locks.specs.Meaning.{next_by_task, task_answer}
use Rattle.lk_locks.specs.PackedLaws.{decided}
use Rattle.lk_locks.specs.NextLaws.{tested}
use Rattle.lk_locks.specs.Lists.{table_of}
use Rattle.lk_locks.specs.Grants.{Call, asks_for, fences, fences_from, once_behind, calls_of, grants_in}
use Rattle.lk_locks.proofs.GrantLaws.{last_fence, Goes, task_goes, behind, behind_calls, ask_goes, check_goes}

-- ---- the last fence of a name counts those that were given

count : (q : List ℕ) (t : Table) (calls : List Call)
    → last_fence (map.get (behind t calls).names q)
    ≡ last_fence (map.get t.names q) + length (once_behind (last_fence (map.get t.names q)) (fences_from q t calls))
count q t [] = omega arith
count q t (call ∷ calls) =
    joined_up _ _ _ _ _ (task_goes call.0 call.1 t q) (count q (next_by_task call.0 call.1 t) calls)
  where
    joined_up : (last old new : ℕ) (told rest : List ℕ) → Goes old new told
        → last ≡ new + length (once_behind new rest) → last ≡ old + length (once_behind old (told ++ rest))
    joined_up last old new told rest (inl g) e =
        rw g.0 (subst (λ (n : ℕ). last ≡ n + length (once_behind n rest)) g.1 e)
    joined_up last old new told rest (inr (inl g)) e =
        let other : eqb (old + 1) old ≡ false = ne_eqb (old + 1) old (λ is. omega (arith, is)) in
        let behind : last ≡ old + 1 + length (once_behind (old + 1) rest) =
        subst (λ (n : ℕ). last ≡ n + length (once_behind n rest)) g.1 e in
        rw (g.0, other) (omega (arith, behind))
    joined_up last old new told rest (inr (inr g)) e =
        let same : eqb old old ≡ true = eq-eqb old old refl in
        rw (g.0, same) (subst (λ (n : ℕ). last ≡ n + length (once_behind n rest)) g.1 e)

-- ---- what is given of a name that nobody holds

-- nothing is given, or the fence after that
abbrev GivesNext : ℕ → List ℕ → Type 0
GivesNext old told = (told ≡ []) ⊎ (told ≡ (old + 1) ∷ [])

after_gives : (told : ℕ → Answer) (h : Holders) (fence : ℕ) → ((n : ℕ) → fences (told n) ≡ n ∷ [])
    → GivesNext fence (fences (given told h (fence_after fence)).answer)
after_gives told h fence tells =
    elim (decided (ltb fence 281474976710656)) [ inl e ↦ rw e (inr (tells (fence + 1))) | inr e ↦ rw e (inl refl) ]

first_gives : (told : ℕ → Answer) (h : Holders) (names : ℕ) → ((n : ℕ) → fences (told n) ≡ n ∷ [])
    → GivesNext 0 (fences (given told h (first_fence names)).answer)
first_gives told h names tells =
    elim (decided (ltb names 512)) [ inl e ↦ rw e (inr (tells 1)) | inr e ↦ rw e (inl refl) ]

release_gives : (client fence : ℕ) (s : Option LockEntry) → fences (released client fence s).answer ≡ []
release_gives client fence None = refl
release_gives client fence (Some s) =
    elim (decided (eqb s.fence fence)) [ inl e ↦ rw e (by (left_by client s.holders)) | inr e ↦ rw e refl ]
  where
    by : (o : Option Holders) → fences (left_at fence o).answer ≡ []
    by None = refl
    by (Some h) = refl

break_gives : (fence : ℕ) (s : Option LockEntry) → fences (broken fence s).answer ≡ []
break_gives fence s = elim (decided (is_held_at fence s)) [ inl e ↦ rw e refl | inr e ↦ rw e refl ]

free_gives : (client : ℕ) (body : Body) (s : Option LockEntry) (names : ℕ) → IsFree s
    → GivesNext (last_fence s) (fences (transition client body s names).answer)
free_gives client (Acquire name) None names free = first_gives Granted (ExclusiveHold client) names (λ n. refl)
free_gives client (Acquire name) (Some s) names free =
    rw free (after_gives Granted (ExclusiveHold client) s.fence (λ n. refl))
free_gives client (Share name) None names free = first_gives Shared (SharedHold (client ∷ [])) names (λ n. refl)
free_gives client (Share name) (Some s) names free =
    rw free (after_gives Shared (SharedHold (client ∷ [])) s.fence (λ n. refl))
free_gives client (Release name fence) s names free = inl (release_gives client fence s)
free_gives client (Ask name) s names free = inl (ask_goes s)
free_gives client (Check name fence) s names free = inl (check_goes fence s)
free_gives client (Break name fence) s names free = inl (break_gives fence s)

-- an answer that gives no fence does not grant
not_given : {a : Answer} {fence : ℕ} → fences a ≡ [] → a ≡ Granted fence → ⊥
not_given none e = let given = sym none ∙ ap fences e in cc

-- what a client's bytes are answered is what their transition says, or nothing is given
answer_is : (client : ℕ) (bytes : List ℕ) (t : Table) (body : Body) → body_of bytes ≡ Some body
    → (answer client bytes t ≡ (transition client body (map.get t.names (name_of body)) (map.len t.names)).answer)
    ⊎ (fences (answer client bytes t) ≡ [])
answer_is client bytes t body asks = elim (decided (is_known t.raised body)) [
  | inl e ↦ inl (ap (λ (b : Option Body). answer_to client (known t.raised b) t.names) asks ∙ rw e refl)
  | inr e ↦ inr (ap (λ (b : Option Body). fences (answer_to client (known t.raised b) t.names)) asks ∙ rw e refl)
]

pub next_of_free : (client : ℕ) (bytes : List ℕ) (body : Body) (fence : ℕ) (L : List Command)
    → body_of bytes ≡ Some body → IsFree (map.get (table_of L).names (name_of body))
    → fences (answer client bytes (table_of L)) ≡ fence ∷ [] → fence ≡ length (grants_in (name_of body) L) + 1
unfolding table_of
next_of_free client bytes body fence L asks free told =
    let q : List ℕ = name_of body in
    let table : table_of L ≡ behind empty (calls_of L) = behind_calls (effects L) empty in
    let none : last_fence (map.get empty.names q) ≡ 0 = ap last_fence (map.get-empty (slice_cmp nat_cmp) q) in
    let counted : last_fence (map.get (table_of L).names q)
    ≡ 0 + length (once_behind 0 (fences_from q empty (calls_of L))) =
    ap (λ (t : Table). last_fence (map.get t.names q)) table
    ∙ subst (λ (n : ℕ). last_fence (map.get (behind empty (calls_of L)).names q)
    ≡ n + length (once_behind n (fences_from q empty (calls_of L)))) none (count q empty (calls_of L)) in
    elim (answer_is client bytes (table_of L) body asks) [
      | inl is ↦ next _ _ _ (free_gives client body (map.get (table_of L).names q) (map.len (table_of L).names) free)
          (sym (ap fences is) ∙ told) counted
      | inr is ↦ absurd (never (sym is ∙ told))
    ]
  where
    never : {fence : ℕ} → [] ≡ fence ∷ [] → ⊥
    never e = cc

    one : (a b : ℕ) → a ∷ [] ≡ b ∷ [] → a ≡ b
    one a b e = cc

    next : (told : List ℕ) (last n : ℕ) → GivesNext last told → told ≡ fence ∷ [] → last ≡ 0 + n → fence ≡ n + 1
    next told last n (inl g) e counted = absurd (never (sym g ∙ e))
    next told last n (inr g) e counted = let is : last + 1 ≡ fence = one (last + 1) fence (sym g ∙ e) in
        omega (arith, is, counted)

-- ---- granted to one

-- the transition grants the name to one client alone only where nobody holds it
granted_free : (client : ℕ) (body : Body) (s : Option LockEntry) (names : ℕ) (fence : ℕ)
    → (transition client body s names).answer ≡ Granted fence → IsFree s
granted_free client body None names fence e = tt
granted_free client (Acquire name) (Some s) names fence e = by s.holders e
  where
    by : (h : Holders) → (acquired_at client s.fence h).answer ≡ Granted fence → h ≡ Nobody
    by Nobody e = refl
    by (ExclusiveHold holder) e = cc
    by (SharedHold clients) e = cc
granted_free client (Share name) (Some s) names fence e = absurd (by s.holders e)
  where
    joined_not : (clients : List ℕ) → (shared_with client s.fence clients).answer ≡ Granted fence → ⊥
    joined_not clients e = elim (decided (is_among client clients)) [
      | inl a ↦ let no = rw a at e in cc
      | inr a ↦ elim (decided (ltb (length clients) 8))
          [ inl b ↦ let no = rw (a, b) at e in cc | inr b ↦ let no = rw (a, b) at e in cc ]
    ]

    by : (h : Holders) → (shared_at client s.fence h).answer ≡ Granted fence → ⊥
    by Nobody e = elim (decided (ltb s.fence 281474976710656))
        [ inl a ↦ let no = rw a at e in cc | inr a ↦ let no = rw a at e in cc ]
    by (ExclusiveHold holder) e = cc
    by (SharedHold clients) e = joined_not clients e
granted_free client (Release name f) (Some s) names fence e = absurd (not_given (release_gives client f (Some s)) e)
granted_free client (Ask name) (Some s) names fence e = absurd (not_given (ask_goes (Some s)) e)
granted_free client (Check name f) (Some s) names fence e = absurd (not_given (check_goes f (Some s)) e)
granted_free client (Break name f) (Some s) names fence e = absurd (not_given (break_gives f (Some s)) e)

pub granted_where_free : (client : ℕ) (bytes : List ℕ) (body : Body) (fence : ℕ) (t : Table)
    → body_of bytes ≡ Some body → answer client bytes t ≡ Granted fence → IsFree (map.get t.names (name_of body))
granted_where_free client bytes body fence t asks e = elim (answer_is client bytes t body asks) [
  | inl is ↦ granted_free client body (map.get t.names (name_of body)) (map.len t.names) fence (sym is ∙ e)
  | inr is ↦ absurd (not_given is e)
]
