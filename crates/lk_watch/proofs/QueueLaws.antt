-- The bounds of a queue are kept.
use Rattle.std.proofs.Common.{◌≡◌, ℕ, suc, ◌+◌, ◌<◌, ◌≤◌, Bool, true, false, cond, eqb, ltb, ◌&&◌, List, []}
use Rattle.std.proofs.Common.{◌∷◌, ◌++◌, length, take, drop, map, get_or, Option, Some, refl, sym, ap, subst, ◌∙◌}
use Rattle.std.proofs.Common.{subst₂, arith, inl, inr}
use Rattle.std.specs.Prelude.{slice_get, slice_set, filter}
use Rattle.std.specs.Cmp.Lexicographic.{pointwise}
use Rattle.std.specs.List.{All, count_by, position_or_len, remove}
use Rattle.std.proofs.lemmas.Bool.{cases_lt, eqb-true, ltb-true, ltb-false}
use Rattle.std.proofs.lemmas.Bool.Decides.{nat_tests}
use Rattle.std.proofs.lemmas.List.{length-append, length-take, length-drop, length-map, length-set}
use Rattle.std.proofs.lemmas.List.Elements.{All-append, All-set, All-push, All-take, All-drop, All-map, All-weaker}
use Rattle.std.proofs.lemmas.List.Elements.{All-filter, filter_passes, All-get_or, All-head, All-tail}
use Rattle.std.proofs.lemmas.List.Sums.{sum_by-cons, sum_by_push, sum_by-set, sum_by-remove, count_by-le-length}
use Rattle.std.proofs.lemmas.List.Sums.{length-filter, passes_at_first}
use Rattle.std.proofs.lemmas.Option.{slice_get_within, slice_get-get_or, get_or_from_slice_get}
use Rattle.std.proofs.lemmas.Slice.Eq.{bytes_eq-Decides}
use Rattle.lk_watch.specs.Standings.{opening, serves}
use Rattle.lk_watch.specs.Waiters.{is_named, is_client, is_of, is_due, told, refreshed, newcomer, renewed, IsWaiter}
use Rattle.lk_watch.specs.Queues.{QueueValue, IsQueue, position, has_room, without, renewed_in, is_alive, lived}
use Rattle.lk_watch.specs.Queues.{Table, is_due_in, is_due_at, NoneDueBefore, envelope_to, TellsFirst}
use Rattle.lk_watch.specs.declared.standing.Standing.{Standing}
use Rattle.lk_watch.specs.declared.ticket.Ticket.{Ticket}
use Rattle.lk_watch.specs.declared.watch.Watch.{Watch}
use Rattle.lk_watch.specs.declared.waiter.Waiter.{Waiter}
use Rattle.lk_watch.specs.declared.waiter.Envelope.{Envelope}
use Rattle.std.specs.declared.net.socket_addr.SocketAddr.{SocketAddr}

-- a queue with these waiters
abbrev pub with_waiters : List Waiter → ℕ → QueueValue
with_waiters ws n = record { waiters = ws; left = n }

both_are : (a b : Bool) → (a && b) ≡ true → (a ≡ true) × (b ≡ true)
both_are true b e = (refl, e)
both_are false b e = absurd cc

-- what an element adds to a count
abbrev counted : Bool → ℕ
counted b = cond b 1 0

module _ {X : Type 0} where
  -- an element takes the place of another one, and both are counted, or neither is
  count_set : (p : X → Bool) (xs : List X) (i : ℕ) (x y : X) → slice_get xs i ≡ Some x → p y ≡ p x
      → count_by p (slice_set xs i y) ≡ count_by p xs
  count_set p xs i x y is same =
      let within = slice_get_within xs i x is in
      let there : get_or xs i x ≡ x = get_or_from_slice_get xs i x x is in
      let alike : counted (p y) ≡ counted (p (get_or xs i x)) = ap counted (same ∙ ap p (sym there)) in
      omega (arith, sum_by-set (λ z. cond (p z) 1 0) xs i y x within, alike)

  count_push : (p : X → Bool) (xs : List X) (y : X) (most : ℕ) → (p y ≡ true → count_by p xs < most)
      → count_by p xs ≤ most → count_by p (xs ++ y ∷ []) ≤ most
  count_push p xs y most room few = by (p y) refl
    where
      by : (b : Bool) → p y ≡ b → count_by p (xs ++ y ∷ []) ≤ most
      by true e = let one : counted (p y) ≡ 1 = rw e refl in
          omega (arith, sum_by_push (λ z. cond (p z) 1 0) xs y, one, room e)
      by false e = let none : counted (p y) ≡ 0 = rw e refl in
          omega (arith, sum_by_push (λ z. cond (p z) 1 0) xs y, none, few)

  count_remove : (p : X → Bool) (xs : List X) (i : ℕ) (x : X) → slice_get xs i ≡ Some x
      → count_by p (remove xs i) ≤ count_by p xs
  count_remove p xs i x is =
      omega (arith, sum_by-remove (λ z. cond (p z) 1 0) xs i x (slice_get_within xs i x is))

  count_filter : (p q : X → Bool) (xs : List X) → count_by p (filter q xs) ≤ count_by p xs
  count_filter p q [] = omega arith
  count_filter p q (x ∷ xs) = by (q x) refl (count_filter p q xs)
    where
      by : (b : Bool) → q x ≡ b → count_by p (filter q xs) ≤ count_by p xs
          → count_by p (filter q (x ∷ xs)) ≤ count_by p (x ∷ xs)
      by true e fewer = rw e (omega (
        arith,
        sum_by-cons (λ z. cond (p z) 1 0) x (filter q xs),
        sum_by-cons (λ z. cond (p z) 1 0) x xs,
        fewer,
      ))
      by false e fewer = rw e (omega (arith, sum_by-cons (λ z. cond (p z) 1 0) x xs, fewer))

  count_map : (p : X → Bool) (f : X → X) → ((x : X) → p (f x) ≡ p x) → (xs : List X)
      → count_by p (map f xs) ≡ count_by p xs
  count_map p f same [] = refl
  count_map p f same (x ∷ xs) =
      let alike : counted (p (f x)) ≡ counted (p x) = ap counted (same x) in
      omega (
        arith,
        sum_by-cons (λ z. cond (p z) 1 0) (f x) (map f xs),
        sum_by-cons (λ z. cond (p z) 1 0) x xs,
        alike,
        count_map p f same xs,
      )

  -- an element goes that is counted
  count_remove_one : (p : X → Bool) (xs : List X) (i : ℕ) (x : X) → slice_get xs i ≡ Some x → p x ≡ true
      → count_by p (remove xs i) + 1 ≡ count_by p xs
  count_remove_one p xs i x is counts =
      let there : get_or xs i x ≡ x = get_or_from_slice_get xs i x x is in
      let one : counted (p (get_or xs i x)) ≡ 1 = ap counted (ap p there ∙ counts) in
      omega (arith, sum_by-remove (λ z. cond (p z) 1 0) xs i x (slice_get_within xs i x is), one)

  -- none is counted if the first that is lies behind all
  count_none : (p : X → Bool) (xs : List X) → length xs ≤ position_or_len p xs → count_by p xs ≡ 0
  count_none p [] behind = refl
  count_none p (x ∷ xs) behind = by (count_none p xs) (p x) refl
    where
      by : (length xs ≤ position_or_len p xs → count_by p xs ≡ 0) → (b : Bool) → p x ≡ b → count_by p (x ∷ xs) ≡ 0
      by rest true e =
          let first : position_or_len p (x ∷ xs) ≡ 0 = rw e refl in
          absurd (omega (arith, behind, first))
      by rest false e =
          let next : position_or_len p (x ∷ xs) ≡ 1 + position_or_len p xs = rw e refl in
          let none : counted (p x) ≡ 0 = rw e refl in
          omega (arith, sum_by-cons (λ z. cond (p z) 1 0) x xs, none, rest (omega (arith, behind, next)))

-- ---- the changes of a queue

same_owner : (c : ℕ) (m : List ℕ) (w v : Waiter) → v.ticket.client ≡ w.ticket.client
    → v.ticket.name ≡ w.ticket.name → is_of c m v ≡ is_of c m w
same_owner c m w v client name = rw (client, name) refl

-- without the entry of a ticket's client and name there is none
pub none_without : (t : Ticket) (ws : List Waiter) (n : ℕ) (d : Waiter) → IsQueue (with_waiters ws n)
    → count_by (is_of t.client t.name) (without (position t ws) ws) ≡ 0
none_without t ws n d h = by (ltb (position t ws) (length ws)) refl
  where
    by : (b : Bool) → ltb (position t ws) (length ws) ≡ b
        → count_by (is_of t.client t.name) (without (position t ws) ws) ≡ 0
    by true e =
        let within : position t ws < length ws = ltb-true _ _ e in
        let there = slice_get-get_or ws (position t ws) d within in
        let own = passes_at_first (is_of t.client t.name) ws d within in
        rw e (omega (
          arith,
          h.one t.client t.name,
          count_remove_one (is_of t.client t.name) ws (position t ws) (get_or ws (position t ws) d) there own,
        ))
    by false e = rw e (count_none (is_of t.client t.name) ws (ltb-false _ _ e))

pub set_fits : (ws : List Waiter) (n i : ℕ) (w v : Waiter) → IsQueue (with_waiters ws n) → slice_get ws i ≡ Some w
    → v.ticket.client ≡ w.ticket.client → v.ticket.name ≡ w.ticket.name → IsWaiter v
    → IsQueue (with_waiters (slice_set ws i v) n)
set_fits ws n i w v h is client name fits = record {
  few = omega (arith, h.few, length-set ws i v);
  one = λ c m. omega (
    arith,
    h.one c m,
    count_set (is_of c m) ws i w v is (same_owner c m w v client name),
  );
  of_client = λ c. omega (
    arith,
    h.of_client c,
    count_set (is_client c) ws i w v is (ap (λ (m : ℕ). eqb m c) client),
  );
  of_name = λ m. omega (
    arith,
    h.of_name m,
    count_set (is_named m) ws i w v is (ap (λ (b : List ℕ). pointwise eqb b m) name),
  );
  each = All-set IsWaiter ws i v fits h.each;
  left = h.left;
}

pub push_fits : (ws : List Waiter) (n : ℕ) (v : Waiter) → IsQueue (with_waiters ws n) → has_room v.ticket ws ≡ true
    → count_by (is_of v.ticket.client v.ticket.name) ws ≡ 0 → IsWaiter v
    → IsQueue (with_waiters (ws ++ v ∷ []) n)
push_fits ws n v h room fresh fits =
    let first = both_are _ _ room in
    let second = both_are _ _ first.0 in
    let short : length ws < 1024 = ltb-true _ _ second.0 in
    let clients : count_by (is_client v.ticket.client) ws < 4 = ltb-true _ _ second.1 in
    let names : count_by (is_named v.ticket.name) ws < 256 = ltb-true _ _ first.1 in
    record {
      few = omega (arith, short, length-append ws (v ∷ []));
      one = λ c m. count_push (is_of c m) ws v 1 (λ e.
          let own = both_are _ _ e in
          let none : count_by (is_of c m) ws ≡ 0 =
          subst₂ (λ (d : ℕ) (b : List ℕ). count_by (is_of d b) ws ≡ 0) (eqb-true _ _ own.0)
          ((bytes_eq-Decides v.ticket.name m).0 own.1) fresh in
          omega (arith, none)) (h.one c m);
      of_client = λ c. count_push (is_client c) ws v 4
          (λ e. subst (λ (d : ℕ). count_by (is_client d) ws < 4) (eqb-true _ _ e) clients) (h.of_client c);
      of_name = λ m. count_push (is_named m) ws v 256
          (λ e. subst (λ (b : List ℕ). count_by (is_named b) ws < 256) ((bytes_eq-Decides v.ticket.name m).0 e) names)
          (h.of_name m);
      each = All-push IsWaiter ws v h.each fits;
      left = h.left;
    }

pub remove_fits : (ws : List Waiter) (n i : ℕ) (w : Waiter) → IsQueue (with_waiters ws n) → slice_get ws i ≡ Some w
    → IsQueue (with_waiters (remove ws i) n)
remove_fits ws n i w h is = record {
  few = omega (
    arith,
    h.few,
    length-append (take i ws) (drop (suc i) ws),
    length-take i ws,
    length-drop (suc i) ws,
    slice_get_within ws i w is,
  );
  one = λ c m. omega (arith, h.one c m, count_remove (is_of c m) ws i w is);
  of_client = λ c. omega (arith, h.of_client c, count_remove (is_client c) ws i w is);
  of_name = λ m. omega (arith, h.of_name m, count_remove (is_named m) ws i w is);
  each = All-append IsWaiter (take i ws) (drop (suc i) ws) (All-take IsWaiter i ws h.each)
      (All-drop IsWaiter (suc i) ws h.each);
  left = h.left;
}

abbrev IsOld : Waiter → Type 0
IsOld w = (w.periods ≤ 20) × (w.sent ≤ 4)

pub lived_fits : (holds : ℕ → List ℕ → Bool) (count : ℕ) (ws : List Waiter) (n : ℕ) → IsQueue (with_waiters ws n)
    → IsQueue (with_waiters (lived holds count ws) n)
lived_fits holds count ws n h =
    let f : Waiter → Waiter = refreshed holds count in
    let older : All IsOld (filter is_alive (map f ws)) =
    All-filter is_alive IsOld (map f ws)
    (All-map IsOld f ws
    (All-weaker IsWaiter (λ (w : Waiter). IsOld (f w)) (λ w k. (omega (arith, k.expires), k.sent)) ws h.each)) in
    let alive = filter_passes is_alive (map f ws) in
    record {
      few = omega (
        arith,
        h.few,
        length-filter is_alive (map f ws),
        count_by-le-length is_alive (map f ws),
        length-map ws f,
      );
      one = λ c m. omega (
        arith,
        h.one c m,
        count_filter (is_of c m) is_alive (map f ws),
        count_map (is_of c m) f (λ w. refl) ws,
      );
      of_client = λ c. omega (
        arith,
        h.of_client c,
        count_filter (is_client c) is_alive (map f ws),
        count_map (is_client c) f (λ w. refl) ws,
      );
      of_name = λ m. omega (
        arith,
        h.of_name m,
        count_filter (is_named m) is_alive (map f ws),
        count_map (is_named m) f (λ w. refl) ws,
      );
      each = λ k d lt. record {
        lives = ltb-true _ _ (alive k d lt);
        expires = (older k d lt).0;
        sent = (older k d lt).1;
      };
      left = h.left;
    }

filter_whole : {X : Type 0} (p : X → Bool) (xs : List X) → All (λ (x : X). p x ≡ true) xs → filter p xs ≡ xs
filter_whole p [] h = refl
filter_whole {X} p (x ∷ xs) h =
    let first : p x ≡ true = All-head (λ (y : X). p y ≡ true) x xs h in
    rw first (ap (λ (ys : List X). x ∷ ys) (filter_whole p xs (All-tail (λ (y : X). p y ≡ true) x xs h)))

-- where no period passes nobody expires
pub lived_now : (holds : ℕ → List ℕ → Bool) (ws : List Waiter) (n : ℕ) → IsQueue (with_waiters ws n)
    → lived holds 0 ws ≡ map (refreshed holds 0) ws
lived_now holds ws n h =
    let f : Waiter → Waiter = refreshed holds 0 in
    filter_whole is_alive (map f ws)
    (All-map (λ (w : Waiter). is_alive w ≡ true) f ws
    (All-weaker IsWaiter (λ (w : Waiter). is_alive (f w) ≡ true) (λ w k. grind (arith, nat_tests, k.lives)) ws h.each))

-- one of the waiters
pub is_waiter : (ws : List Waiter) (n i : ℕ) (w : Waiter) → IsQueue (with_waiters ws n) → slice_get ws i ≡ Some w
    → IsWaiter w
is_waiter ws n i w h is =
    subst IsWaiter (get_or_from_slice_get ws i w w is)
    (All-get_or IsWaiter ws i w (slice_get_within ws i w is) h.each)

pub without_fits : (ws : List Waiter) (n at : ℕ) (d : Waiter) → IsQueue (with_waiters ws n)
    → IsQueue (with_waiters (without at ws) n)
without_fits ws n at d h = by (ltb at (length ws)) refl
  where
    by : (b : Bool) → ltb at (length ws) ≡ b → IsQueue (with_waiters (without at ws) n)
    by true e = rw e (remove_fits ws n at (get_or ws at d) h (slice_get-get_or ws at d (ltb-true _ _ e)))
    by false e = rw e h

-- ---- each waiter

pub newcomer_fits : (watch : Watch) (from : SocketAddr) → 0 < watch.periods → IsWaiter (newcomer watch from)
newcomer_fits watch from lives = record {
  lives = omega (arith, lives);
  expires = omega arith;
  sent = omega arith;
}

pub renewed_fits : (watch : Watch) (w : Waiter) → IsWaiter w → IsWaiter (renewed watch w)
renewed_fits watch w h = record {
  lives = grind (arith, nat_tests, h.lives);
  expires = grind (arith, nat_tests, h.expires);
  sent = omega arith;
}

-- who is to be told was sent three datagrams at most
pub due_sent : (s : Standing) (before : List Waiter) (w : Waiter) → is_due s before w ≡ true → w.sent < 4
due_sent s before w due =
    let first = both_are _ _ due in
    let second = both_are _ _ first.0 in
    let third = both_are _ _ second.0 in ltb-true _ _ third.1

pub due_serves : (s : Standing) (before : List Waiter) (w : Waiter) → is_due s before w ≡ true
    → serves s w.ticket ≡ true
due_serves s before w due =
    let first = both_are _ _ due in
    let second = both_are _ _ first.0 in second.1

pub told_fits : (opening : ℕ) (w : Waiter) → IsWaiter w → w.sent < 4 → IsWaiter (told opening w)
told_fits opening w h few = record { lives = h.lives; expires = h.expires; sent = omega (arith, few) }

-- ---- what the code has done is what is said

pub renewed_is : (ws : List Waiter) (at : ℕ) (watch : Watch) (w : Waiter) → at ≡ position watch.ticket ws
    → slice_get ws at ≡ Some w → slice_set ws at (renewed watch w) ≡ renewed_in watch ws
renewed_is ws at watch w e there = rw (sym e, there) (ap (λ (i : ℕ). slice_set ws i (renewed watch w)) e)

-- whom the test at an index found is due
pub due_there : (table : Table) (ws : List Waiter) (i : ℕ) (w : Waiter) → slice_get ws i ≡ Some w
    → is_due_at table ws i ≡ true → is_due (table w.ticket.name) (take i ws) w ≡ true
due_there table ws i w is due =
    subst (λ (o : Option Waiter). is_due_in table (take i ws) o ≡ true) is due

pub is_due_there : (table : Table) (ws : List Waiter) (i : ℕ) (w : Waiter) (s : Standing) → slice_get ws i ≡ Some w
    → s ≡ table w.ticket.name → is_due s (take i ws) w ≡ true → is_due_at table ws i ≡ true
is_due_there table ws i w s is same due =
    rw is (subst (λ (t : Standing). is_due t (take i ws) w ≡ true) same due)

pub not_due_there : (table : Table) (ws : List Waiter) (i : ℕ) (w : Waiter) (s : Standing) → slice_get ws i ≡ Some w
    → s ≡ table w.ticket.name → is_due s (take i ws) w ≡ false → is_due_at table ws i ≡ false
not_due_there table ws i w s is same due =
    rw is (subst (λ (t : Standing). is_due t (take i ws) w ≡ false) same due)

-- one more is not to be told
pub none_more : (table : Table) (ws : List Waiter) (i : ℕ) → NoneDueBefore table ws i
    → is_due_at table ws i ≡ false → NoneDueBefore table ws (i + 1)
none_more table ws i none this k lt = elim (cases_lt k i) [
  | inl before ↦ none k before
  | inr behind ↦ let same : k ≡ i = omega (arith, lt, behind) in rw same this
]

pub fewer_left : (ws : List Waiter) (n m : ℕ) → IsQueue (with_waiters ws n) → m ≤ n → IsQueue (with_waiters ws m)
fewer_left ws n m h fewer = record {
  few = h.few;
  one = h.one;
  of_client = h.of_client;
  of_name = h.of_name;
  each = h.each;
  left = omega (arith, h.left, fewer);
}

pub tells : (table : Table) (ws vs : List Waiter) (n m i : ℕ) (w : Waiter) (envelope : Envelope)
    → slice_get ws i ≡ Some w → is_due_at table ws i ≡ true → NoneDueBefore table ws i → envelope ≡ envelope_to ws i w
    → vs ≡ slice_set ws i (told (opening (table w.ticket.name)) w) → m + 1 ≡ n
    → TellsFirst table (with_waiters ws n) envelope (with_waiters vs m)
tells table ws vs n m i w envelope is due first sent becomes counted = record {
  index = i;
  waiter = w;
  is = is;
  due = due_there table ws i w is due;
  first = first;
  sent = sent;
  becomes = becomes;
  counted = counted;
}
