-- The fences at which a name is given are 1, 2, 3 and so on, and which calls they answer.
use Rattle.std.proofs.Common.{◌≡◌, ℕ, ◌+◌, ◌⊎◌, Bool, true, false, cond, ltb, eqb, ◌&&◌, List, [], ◌∷◌, ◌++◌, length}
use Rattle.std.proofs.Common.{Option, Some, None, fold, refl, sym, ap, subst, ◌∙◌, inl, inr, arith, append_assoc}
use Rattle.std.proofs.Common.{append-nil}
use Rattle.std.specs.Prelude.{IsTrue, ◌↔◌}
use Rattle.std.specs.List.{flat_map}
use Rattle.std.proofs.lemmas.Bool.{eqb-true, eq-eqb, ne_eqb}
use Rattle.std.proofs.lemmas.Cmp.{eq_by_cmp_equiv}
use Rattle.std.proofs.lemmas.List.Concat.{flat_map-cons, flat_map-append}
use Rattle.std.specs.Ordering.{nat_cmp, eq_by_cmp, is_eq}
use Rattle.std.specs.declared.cmp.Ordering.{Ordering}
use Rattle.std.specs.declared.cmp.Ordering.TheVariants.{Less, Equal, Greater}
use Rattle.std.specs.Cmp.Lexicographic.{slice_cmp, nat_list_cmp_total}
use Rattle.std.specs.FinMap as map
use Rattle.lk_types.specs.declared.answer.Answer.{Answer}
use Rattle.lk_types.specs.declared.answer.Answer.TheVariants.{Granted, Shared, Valid, Stale, Broken}
use Rattle.lk_types.specs.declared.command.Op.{Op}
use Rattle.lk_types.specs.declared.command.Op.TheVariants.{Table as TableOp, Join, Leave, Raise}
use Rattle.lk_members.specs.Effects.{Command, RequestValue, Request, in_effect, effects}
use Rattle.lk_members.proofs.Memberships.{added, effects-push}
use Rattle.lk_state.specs.Meanings.{Task, Running, Raising}
use Rattle.lk_locks.specs.declared.body.Body.{Body}
use Rattle.lk_locks.specs.declared.body.Body.TheVariants.{Acquire, Release, Ask, Check, Share, Break}
use Rattle.lk_locks.specs.declared.transition.Transition.{Transition}
use Rattle.lk_locks.specs.declared.lock_entry.Holders.{Holders}
use Rattle.lk_locks.specs.declared.lock_entry.Holders.TheVariants.{Nobody, ExclusiveHold, SharedHold}
use Rattle.lk_locks.specs.declared.lock_entry.LockEntry.{LockEntry}
use Rattle.lk_locks.specs.Bodies.{body_of, name_of, is_known, known}
use Rattle.lk_locks.specs.Holders.{is_held, left_by}
use Rattle.lk_locks.specs.Sharers.{is_among}
use Rattle.lk_locks.specs.Plain.{Names, Table, empty, transition, transition_in, changed, answer_to, answer, next_by}
use Rattle.lk_locks.specs.Plain.{next, raised}
use Rattle.lk_locks.specs.Plain.{given, fence_after, first_fence, acquired_at, acquired, shared_with, shared_at, shared}
use Rattle.lk_locks.specs.Plain.{left_at, released, is_held_at, broken, asked, asked_at, checked}
use Rattle.lk_locks.specs.Meaning.{next_by_task, task_answer}
use Rattle.lk_locks.specs.PackedLaws.{decided}
use Rattle.lk_locks.specs.NextLaws.{tested}
use Rattle.lk_locks.specs.Lists.{table_after, table_of}
use Rattle.lk_locks.specs.Grants.{Call, is_for, asks_for, fences, fences_from, once_behind, grants, call_of, calls_of}
use Rattle.lk_locks.specs.Grants.{fences_in, numbers_from}

-- the last fence of a name
abbrev pub last_fence : Option LockEntry → ℕ
last_fence None = 0
last_fence (Some s) = s.fence

-- what a name has after a transition
abbrev after : Option LockEntry → Option LockEntry → Option LockEntry
after s None = s
after s (Some t) = Some t

-- nothing is given and the last fence stays, or the next one is given, or the last one is told to one more who shares
-- it
abbrev pub Goes : ℕ → ℕ → List ℕ → Type 0
Goes old new told =
    ((told ≡ []) × (new ≡ old)) ⊎ (((told ≡ (old + 1) ∷ []) × (new ≡ old + 1)) ⊎ ((told ≡ old ∷ []) × (new ≡ old)))

stays : (n : ℕ) (told : List ℕ) → told ≡ [] → Goes n n told
stays n told e = inl (e, refl)

abbrev RowGoes : Option LockEntry → Transition → Type 0
RowGoes s r = Goes (last_fence s) (last_fence (after s r.change)) (fences r.answer)

-- ---- each kind of body, at its own name

-- what is given is the next fence, and is told so
after_goes : (told : ℕ → Answer) (h : Holders) (s : LockEntry) → ((fence : ℕ) → fences (told fence) ≡ fence ∷ [])
    → RowGoes (Some s) (given told h (fence_after s.fence))
after_goes told h s tells =
    elim (decided (ltb s.fence 281474976710656)) [
      | inl e ↦ rw e (inr (inl (tells (s.fence + 1), refl)))
      | inr e ↦ rw e (stays s.fence [] refl)
    ]

first_goes : (told : ℕ → Answer) (h : Holders) (names : ℕ) → ((fence : ℕ) → fences (told fence) ≡ fence ∷ [])
    → RowGoes None (given told h (first_fence names))
first_goes told h names tells =
    elim (decided (ltb names 512)) [
      | inl e ↦ rw e (inr (inl (tells 1, refl)))
      | inr e ↦ rw e (stays 0 [] refl)
    ]

acquire_goes : (client : ℕ) (s : Option LockEntry) (names : ℕ) → RowGoes s (acquired client s names)
acquire_goes client None names = first_goes Granted (ExclusiveHold client) names (λ fence. refl)
acquire_goes client (Some s) names = by s.holders
  where
    by : (h : Holders) → RowGoes (Some s) (acquired_at client s.fence h)
    by Nobody = after_goes Granted (ExclusiveHold client) s (λ fence. refl)
    by (ExclusiveHold holder) = stays s.fence [] refl
    by (SharedHold clients) = stays s.fence [] refl

share_goes : (client : ℕ) (s : Option LockEntry) (names : ℕ) → RowGoes s (shared client s names)
share_goes client None names = first_goes Shared (SharedHold (client ∷ [])) names (λ fence. refl)
share_goes client (Some s) names = by s.holders
  where
    joined_goes : (clients : List ℕ) → RowGoes (Some s) (shared_with client s.fence clients)
    joined_goes clients = elim (decided (is_among client clients)) [
      | inl e ↦ rw e (inr (inr (refl, refl)))
      | inr new ↦ elim (decided (ltb (length clients) 8))
          [ inl e ↦ rw (new, e) (inr (inr (refl, refl))) | inr e ↦ rw (new, e) (stays s.fence [] refl) ]
    ]

    by : (h : Holders) → RowGoes (Some s) (shared_at client s.fence h)
    by Nobody = after_goes Shared (SharedHold (client ∷ [])) s (λ fence. refl)
    by (ExclusiveHold holder) = stays s.fence [] refl
    by (SharedHold clients) = joined_goes clients

release_goes : (client fence : ℕ) (s : Option LockEntry) → RowGoes s (released client fence s)
release_goes client fence None = stays 0 [] refl
release_goes client fence (Some s) =
    elim (decided (eqb s.fence fence)) [
      | inl e ↦ rw e (by (left_by client s.holders) (eqb-true s.fence fence e))
      | inr e ↦ rw e (stays s.fence [] refl)
    ]
  where
    by : (o : Option Holders) → s.fence ≡ fence → RowGoes (Some s) (left_at fence o)
    by None is = stays s.fence [] refl
    by (Some h) is = inl (refl, sym is)

break_goes : (fence : ℕ) (s : Option LockEntry) → RowGoes s (broken fence s)
break_goes fence None = stays 0 [] refl
break_goes fence (Some s) =
    elim (tested (is_held s.holders) s.fence fence) [
      | inl h ↦ rw h.0 (inl (refl, sym h.1))
      | inr h ↦ rw h (stays s.fence [] refl)
    ]

pub ask_goes : (s : Option LockEntry) → fences (asked s) ≡ []
ask_goes None = refl
ask_goes (Some s) = by s.fence s.holders
  where
    by : (fence : ℕ) (h : Holders) → fences (asked_at fence h) ≡ []
    by fence Nobody = refl
    by fence (ExclusiveHold holder) = refl
    by fence (SharedHold clients) = refl

pub check_goes : (fence : ℕ) (s : Option LockEntry) → fences (checked fence s) ≡ []
check_goes fence s = elim (is_held_at fence s) as (λ b. fences (cond b Valid Stale) ≡ []) [ true ↦ refl | false ↦ refl ]

row_goes : (client : ℕ) (body : Body) (s : Option LockEntry) (names : ℕ) → RowGoes s (transition client body s names)
row_goes client (Acquire name) s names = acquire_goes client s names
row_goes client (Release name fence) s names = release_goes client fence s
row_goes client (Ask name) s names = stays _ _ (ask_goes s)
row_goes client (Check name fence) s names = stays _ _ (check_goes fence s)
row_goes client (Share name) s names = share_goes client s names
row_goes client (Break name fence) s names = break_goes fence s

-- ---- any name

equal : (o : Ordering) → is_eq o ≡ true → o ≡ Equal
equal Less e = absurd cc
equal Equal e = refl
equal Greater e = absurd cc

same_or_not : (q name : List ℕ)
    → ((eq_by_cmp (slice_cmp nat_cmp) q name ≡ true) × (q ≡ name)) ⊎ (eq_by_cmp (slice_cmp nat_cmp) q name ≡ false)
same_or_not q name =
    elim (decided (eq_by_cmp (slice_cmp nat_cmp) q name)) [
      | inl e ↦
          inl (e, map.slice_cmp-IsAntisymmetric map.nat_cmp-IsAntisymmetric q name (equal (slice_cmp nat_cmp q name) e))
      | inr e ↦ inr e
    ]

-- what a name has in the table after a change of another or of itself
get-changed : (name : List ℕ) (change : Option LockEntry) (m : Names) (q : List ℕ)
    → map.get (changed name change m) q
    ≡ cond (eq_by_cmp (slice_cmp nat_cmp) q name) (after (map.get m name) change) (map.get m q)
get-changed name None m q = elim (same_or_not q name) [
  | inl e ↦ rw e.0 (ap (map.get m) e.1)
  | inr e ↦ rw e refl
]
get-changed name (Some s) m q = map.get-insert nat_list_cmp_total m name s q

one_goes : (client : ℕ) (body : Option Body) (m : Names) (q : List ℕ)
    → Goes (last_fence (map.get m q)) (last_fence (map.get (next_by client body m) q))
    (cond (is_for q body) (fences (answer_to client body m)) [])
one_goes client None m q = stays _ _ refl
one_goes client (Some body) m q =
    let now = get-changed (name_of body) (transition_in client body m).change m q in
    elim (same_or_not q (name_of body)) [
      | inl e ↦ rw (now, e.0) (subst
          (λ (x : List ℕ). Goes (last_fence (map.get m x))
          (last_fence (after (map.get m (name_of body)) (transition_in client body m).change))
          (fences (transition_in client body m).answer)) (sym e.1)
          (row_goes client body (map.get m (name_of body)) (map.len m)))
      | inr e ↦ rw (now, e) (stays _ _ refl)
    ]

-- a body that the table does not know gives nothing, whatever it is for
known_goes : (q : List ℕ) (raised_now : Bool) (client : ℕ) (body : Option Body) (m : Names)
    → Goes (last_fence (map.get m q)) (last_fence (map.get (next_by client (known raised_now body) m) q))
    (cond (is_for q body) (fences (answer_to client (known raised_now body) m)) [])
known_goes q raised_now client None m = stays _ _ refl
known_goes q raised_now client (Some body) m = elim (decided (is_known raised_now body)) [
  | inl e ↦ rw e (one_goes client (Some body) m q)
  | inr e ↦ rw e (stays _ _ (nothing (is_for q (Some body))))
]
  where
    nothing : (b : Bool) → cond b (fences (answer_to client None m)) [] ≡ []
    nothing true = refl
    nothing false = refl

pub task_goes : (client : ℕ) (task : Task) (t : Table) (q : List ℕ)
    → Goes (last_fence (map.get t.names q)) (last_fence (map.get (next_by_task client task t).names q))
    (cond (asks_for q task) (fences (task_answer client task t)) [])
task_goes client (Running bytes) t q = known_goes q t.raised client (body_of bytes) t.names
task_goes client Raising t q = stays _ _ refl

-- ---- all calls

rise : (q : List ℕ) (t : Table) (calls : List Call)
    → let all : List ℕ = once_behind (last_fence (map.get t.names q)) (fences_from q t calls) in
    all ≡ numbers_from (last_fence (map.get t.names q) + 1) (length all)
rise q t [] = refl
rise q t (call ∷ calls) = joined_up _ _ _ _ (task_goes call.0 call.1 t q) (rise q (next_by_task call.0 call.1 t) calls)
  where
    joined_up : (old new : ℕ) (told rest : List ℕ) → Goes old new told
        → once_behind new rest ≡ numbers_from (new + 1) (length (once_behind new rest))
        → once_behind old (told ++ rest) ≡ numbers_from (old + 1) (length (once_behind old (told ++ rest)))
    joined_up old new told rest (inl g) e =
        rw g.0 (subst (λ (n : ℕ). once_behind n rest ≡ numbers_from (n + 1) (length (once_behind n rest))) g.1 e)
    joined_up old new told rest (inr (inl g)) e =
        let other : eqb (old + 1) old ≡ false = ne_eqb (old + 1) old (λ is. omega (arith, is)) in
        let behind : once_behind (old + 1) rest ≡ numbers_from (old + 1 + 1) (length (once_behind (old + 1) rest)) =
        subst (λ (n : ℕ). once_behind n rest ≡ numbers_from (n + 1) (length (once_behind n rest))) g.1 e in
        rw (g.0, other) (ap (λ (l : List ℕ). (old + 1) ∷ l) behind)
    joined_up old new told rest (inr (inr g)) e =
        let same : eqb old old ≡ true = eq-eqb old old refl in
        rw (g.0, same) (subst (λ (n : ℕ). once_behind n rest ≡ numbers_from (n + 1) (length (once_behind n rest))) g.1
        e)

pub grants_count_up : (name : List ℕ) (calls : List Call)
    → grants name calls ≡ numbers_from 1 (length (grants name calls))
grants_count_up name calls =
    let none : last_fence (map.get empty.names name) ≡ 0 = ap last_fence (map.get-empty (slice_cmp nat_cmp) name) in
    subst (λ (n : ℕ). once_behind n (fences_from name empty calls)
    ≡ numbers_from (n + 1) (length (once_behind n (fences_from name empty calls)))) none (rise name empty calls)

-- ---- what is for a name

-- a body is for a name exactly where it names it
pub is_for_its_name : (name : List ℕ) (body : Body) → IsTrue (is_for name (Some body)) ↔ (name_of body ≡ name)
is_for_its_name name body = (
  to,
  λ e. subst (λ (n : List ℕ). eq_by_cmp (slice_cmp nat_cmp) n (name_of body) ≡ true) e
      ((eq_by_cmp_equiv nat_list_cmp_total).refl (name_of body)),
)
  where
    to : eq_by_cmp (slice_cmp nat_cmp) name (name_of body) ≡ true → name_of body ≡ name
    to e = elim (same_or_not name (name_of body)) [ inl same ↦ sym same.1 | inr other ↦ let no = other in absurd cc ]

-- the table after some calls
abbrev pub behind : Table → List Call → Table
behind t [] = t
behind t (call ∷ calls) = behind (next_by_task call.0 call.1 t) calls

fences_from-append : (q : List ℕ) (t : Table) (calls more : List Call)
    → fences_from q t (calls ++ more) ≡ fences_from q t calls ++ fences_from q (behind t calls) more
fences_from-append q t [] more = refl
fences_from-append q t (call ∷ calls) more =
    let here : List ℕ = cond (asks_for q call.1) (fences (task_answer call.0 call.1 t)) [] in
    ap (λ (l : List ℕ). here ++ l) (fences_from-append q (next_by_task call.0 call.1 t) calls more)
    ∙ sym (append_assoc here (fences_from q (next_by_task call.0 call.1 t) calls)
    (fences_from q (behind (next_by_task call.0 call.1 t) calls) more))

pub behind_calls : (rs : List RequestValue) (t : Table)
    → fold (λ (t : Table) (r : RequestValue). table_after r.client r.op t) t rs
    ≡ behind t (flat_map (λ (r : RequestValue). call_of r r.op) rs)
behind_calls [] t = refl
behind_calls (r ∷ rs) t = rw (flat_map-cons (λ (r : RequestValue). call_of r r.op) r rs) (by_op r.op (behind_calls rs))
  where
    by_op : (op : Op) → ((t : Table)
        → fold (λ (t : Table) (r : RequestValue). table_after r.client r.op t) t rs
        ≡ behind t (flat_map (λ (r : RequestValue). call_of r r.op) rs))
        → fold (λ (t : Table) (r : RequestValue). table_after r.client r.op t) (table_after r.client op t) rs
        ≡ behind t (call_of r op ++ flat_map (λ (r : RequestValue). call_of r r.op) rs)
    by_op (TableOp body) rest = rest (next r.client body t)
    by_op (Join node port) rest = rest t
    by_op (Leave node) rest = rest t
    by_op Raise rest = rest (raised t)

calls_of-push : (L : List Command) (r : RequestValue) → in_effect L (Request r) ≡ Some r
    → calls_of (L ++ Request r ∷ []) ≡ calls_of L ++ call_of r r.op
calls_of-push L r counts =
    let calls : RequestValue → List Call = λ r. call_of r r.op in
    ap (flat_map calls) (effects-push L (Request r) ∙ ap (λ (o : Option RequestValue). effects L ++ added o) counts)
    ∙ flat_map-append calls (effects L) (r ∷ [])
    ∙ ap (λ (l : List Call). flat_map calls (effects L) ++ l) (flat_map-cons calls r [] ∙ append-nil (call_of r r.op))

-- a request that takes effect and is given a name adds its fence to those of the name
pub each_fence_is_listed : (name : List ℕ) (L : List Command) (r : RequestValue) (bytes : List ℕ) (body : Body)
    (fence : ℕ) → in_effect L (Request r) ≡ Some r → r.op ≡ TableOp bytes
    → body_of bytes ≡ Some body → name_of body ≡ name → fences (answer r.client bytes (table_of L)) ≡ fence ∷ []
    → fences_in name (L ++ Request r ∷ []) ≡ fences_in name L ++ fence ∷ []
unfolding table_of
each_fence_is_listed name L r bytes body fence counts of_table asks is told =
    let call : Call = (r.client, Running bytes) in
    let calls : calls_of (L ++ Request r ∷ []) ≡ calls_of L ++ call ∷ [] = calls_of-push L r counts
    ∙ ap (λ (op : Op). calls_of L ++ call_of r op) of_table in
    let table : table_of L ≡ behind empty (calls_of L) = behind_calls (effects L) empty in
    let told_so : fences (answer r.client bytes (behind empty (calls_of L))) ≡ fence ∷ [] =
    ap (λ (t : Table). fences (answer r.client bytes t)) (sym table) ∙ told in
    let mine : is_for name (body_of bytes) ≡ true = ap (is_for name) asks ∙ (is_for_its_name name body).1 is in
    let last : fences_from name (behind empty (calls_of L)) (call ∷ []) ≡ fence ∷ [] = rw (mine, told_so) refl in
    ap (fences_from name empty) calls ∙ fences_from-append name empty (calls_of L) (call ∷ [])
    ∙ ap (λ (l : List ℕ). fences_in name L ++ l) last

-- ---- Check

abbrev HeldAt : ℕ → Option LockEntry → Type 0
HeldAt fence o =
    (holders : Holders) × (is_held holders ≡ true) × (o ≡ Some (record { fence = fence; holders = holders }))

held_at : (fence : ℕ) (o : Option LockEntry) → is_held_at fence o ≡ true → HeldAt fence o
held_at fence None e = absurd cc
held_at fence (Some s) e = elim (tested (is_held s.holders) s.fence fence) [
  | inl h ↦ (
    s.holders,
    is_and (is_held s.holders) (eqb s.fence fence) e,
    ap (λ (n : ℕ). let t : LockEntry = record { fence = n; holders = s.holders } in Some t) h.1,
  )
  | inr h ↦ let no : true ≡ false = sym e ∙ h in absurd cc
]
  where
    is_and : (a b : Bool) → (a && b) ≡ true → a ≡ true
    is_and true b e = refl
    is_and false b e = absurd cc

valid_where_held : (fence : ℕ) (o : Option LockEntry) → checked fence o ≡ Valid → HeldAt fence o
valid_where_held fence o e = elim (decided (is_held_at fence o)) [
  | inl h ↦ held_at fence o h
  | inr h ↦ let no : Stale ≡ Valid = rw h at e in absurd cc
]

held_is_valid : (fence : ℕ) (o : Option LockEntry) → HeldAt fence o → checked fence o ≡ Valid
held_is_valid fence o h = ap (checked fence) h.2 ∙ rw (h.1, eq-eqb fence fence refl) refl

-- a Check is valid exactly where the name is held at that fence, in either mode; else it is stale
pub checks_tell_who_holds : (client : ℕ) (bytes name : List ℕ) (fence : ℕ) (t : Table)
    → body_of bytes ≡ Some (Check name fence)
    → ((answer client bytes t ≡ Valid)
    ↔ ((holders : Holders) × (is_held holders ≡ true)
    × (map.get t.names name ≡ Some (record { fence = fence; holders = holders }))))
    × ((answer client bytes t ≡ Valid) ⊎ (answer client bytes t ≡ Stale))
checks_tell_who_holds client bytes name fence t asks =
    let told : answer client bytes t ≡ checked fence (map.get t.names name) =
    ap (λ (b : Option Body). answer_to client (known t.raised b) t.names) asks in (
      (
        λ e. valid_where_held fence (map.get t.names name) (sym told ∙ e),
        λ held. told ∙ held_is_valid fence (map.get t.names name) held,
      ),
      one_of (map.get t.names name) told,
    )
  where
    one_of : (o : Option LockEntry) → answer client bytes t ≡ checked fence o
        → (answer client bytes t ≡ Valid) ⊎ (answer client bytes t ≡ Stale)
    one_of o told =
        elim (decided (is_held_at fence o)) [ inl e ↦ inl (told ∙ rw e refl) | inr e ↦ inr (told ∙ rw e refl) ]

-- a Break that is served frees the name of all who hold it, and the fence stays
pub breaks_free_all : (client : ℕ) (bytes name : List ℕ) (fence : ℕ) (t : Table) (holders : Holders) → t.raised ≡ true
    → body_of bytes ≡ Some (Break name fence) → is_held holders ≡ true
    → map.get t.names name ≡ Some (record { fence = fence; holders = holders })
    → map.get (next client bytes t).names name ≡ Some (record { fence = fence; holders = Nobody })
breaks_free_all client bytes name fence t holders is_raised asks held at =
    let what : known t.raised (body_of bytes) ≡ Some (Break name fence) = ap (known t.raised) asks
    ∙ rw is_raised refl in
    let row_is : broken fence (map.get t.names name)
    ≡ record { answer = Broken; change = Some (record { fence = fence; holders = Nobody }) } =
    ap (broken fence) at ∙ rw (held, eq-eqb fence fence refl) refl in
    ap (λ (b : Option Body). map.get (next_by client b t.names) name) what
    ∙ ap (λ (r : Transition). map.get (changed name r.change t.names) name) row_is
    ∙ map.get-insert nat_list_cmp_total t.names name (record { fence = fence; holders = Nobody }) name
    ∙ rw ((eq_by_cmp_equiv nat_list_cmp_total).refl name) refl
