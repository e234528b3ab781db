-- A watch changes no entry but that of its client and name.
use Rattle.std.proofs.Common.{◌≡◌, ℕ, zero, suc, Bool, true, false, not, cond, eqb, ltb, List, [], ◌∷◌, ◌++◌, length}
use Rattle.std.proofs.Common.{get_or, Option, Some, None, refl, sym, ap, ◌∙◌, arith}
use Rattle.std.specs.Prelude.{slice_get, slice_set, filter}
use Rattle.std.specs.List.{remove}
use Rattle.std.specs.declared.net.socket_addr.SocketAddr.{SocketAddr}
use Rattle.std.proofs.lemmas.Bool.{ltb-true}
use Rattle.std.proofs.lemmas.Bool.Decides.{nat_tests}
use Rattle.std.proofs.lemmas.List.{append-nil}
use Rattle.std.proofs.lemmas.List.Elements.{filter-append}
use Rattle.std.proofs.lemmas.List.Sums.{passes_at_first}
use Rattle.std.proofs.lemmas.Option.{slice_get_within, slice_get-get_or, get_or_from_slice_get}
use Rattle.std.proofs.lemmas.Slice.Eq.{bytes_eq-Decides}
use Rattle.lk_watch.specs.Waiters.{is_of, newcomer, renewed}
use Rattle.lk_watch.specs.Queues.{position, entry, has_room, without, entered_for, renewed_by, renewed_in, heard}
use Rattle.lk_watch.specs.Queues.{is_ignored_by, is_waiting, is_kept, is_other, others}
use Rattle.lk_watch.specs.declared.standing.Standing.{Standing}
use Rattle.lk_watch.specs.declared.ticket.Ticket.{Ticket}
use Rattle.lk_watch.specs.declared.watch.Watch.{Watch}
use Rattle.lk_watch.specs.declared.waiter.Waiter.{Waiter}

module _ {X : Type 0} where
  -- an element that is passed over takes the place of another one
  filter_set : (q : X → Bool) (xs : List X) (i : ℕ) (x y : X) → slice_get xs i ≡ Some x → q x ≡ false → q y ≡ false
      → filter q (slice_set xs i y) ≡ filter q xs
  filter_set q [] i x y is none other = absurd (cc is)
  filter_set q (z ∷ xs) zero x y is none other =
      let same : q z ≡ false = ap q (some is) ∙ none in rw (other, same) refl
    where
      some : {X : Type 0} {x y : X} → ◌≡◌ {A = Option X} (Some x) (Some y) → x ≡ y
      some e = cc e
  filter_set q (z ∷ xs) (suc i) x y is none other =
      ap (λ (r : List X). cond (q z) (z ∷ r) r) (filter_set q xs i x y is none other)

  -- an element that is passed over goes
  filter_remove : (q : X → Bool) (xs : List X) (i : ℕ) (x : X) → slice_get xs i ≡ Some x → q x ≡ false
      → filter q (remove xs i) ≡ filter q xs
  filter_remove q [] i x is none = absurd (cc is)
  filter_remove q (z ∷ xs) zero x is none = let same : q z ≡ false = ap q (some is) ∙ none in rw same refl
    where
      some : {X : Type 0} {x y : X} → ◌≡◌ {A = Option X} (Some x) (Some y) → x ≡ y
      some e = cc e
  filter_remove q (z ∷ xs) (suc i) x is none =
      ap (λ (r : List X). cond (q z) (z ∷ r) r) (filter_remove q xs i x is none)

  filter_push : (q : X → Bool) (xs : List X) (y : X) → q y ≡ false → filter q (xs ++ y ∷ []) ≡ filter q xs
  filter_push q xs y none =
      let nothing : filter q (y ∷ []) ≡ [] = rw none refl in
      filter-append q xs (y ∷ []) ∙ ap (λ (r : List X). filter q xs ++ r) nothing ∙ append-nil (filter q xs)

-- the entry of a ticket is no other's
entry_is_own : (t : Ticket) (ws : List Waiter) (w : Waiter) → entry t ws ≡ Some w → is_other t w ≡ false
entry_is_own t ws w is =
    let at = position t ws in
    let own = passes_at_first (is_of t.client t.name) ws w (slice_get_within ws at w is) in
    let there : get_or ws at w ≡ w = get_or_from_slice_get ws at w w is in
    ap not (ap (is_of t.client t.name) (sym there) ∙ own)

same_number : (n : ℕ) → eqb n n ≡ true
same_number n = grind (arith, nat_tests)

newcomer_is_own : (watch : Watch) (from : SocketAddr) → is_other watch.ticket (newcomer watch from) ≡ false
newcomer_is_own watch from =
    rw (same_number watch.ticket.client, (bytes_eq-Decides watch.ticket.name watch.ticket.name).1 refl) refl

-- whichever way a test goes
either : (t : Ticket) (b : Bool) (us vs ws : List Waiter) → others t us ≡ others t ws → others t vs ≡ others t ws
    → others t (cond b us vs) ≡ others t ws
either t true us vs ws first second = first
either t false us vs ws first second = second

others_renewed : (watch : Watch) (ws : List Waiter) (o : Option Waiter) → entry watch.ticket ws ≡ o
    → others watch.ticket (renewed_by watch ws o) ≡ others watch.ticket ws
others_renewed watch ws None is = refl
others_renewed watch ws (Some w) is =
    let own = entry_is_own watch.ticket ws w is in
    filter_set (is_other watch.ticket) ws (position watch.ticket ws) w (renewed watch w) is own own

others_without : (t : Ticket) (ws : List Waiter) (d : Waiter) → others t (without (position t ws) ws) ≡ others t ws
others_without t ws d = by (ltb (position t ws) (length ws)) refl
  where
    by : (b : Bool) → ltb (position t ws) (length ws) ≡ b → others t (without (position t ws) ws) ≡ others t ws
    by true e =
        let there = slice_get-get_or ws (position t ws) d (ltb-true _ _ e) in
        rw e (filter_remove (is_other t) ws (position t ws) (get_or ws (position t ws) d) there
        (entry_is_own t ws (get_or ws (position t ws) d) there))
    by false e = rw e refl

others_entered : (watch : Watch) (from : SocketAddr) (ws : List Waiter)
    → others watch.ticket (entered_for watch from ws) ≡ others watch.ticket ws
others_entered watch from ws =
    let t = watch.ticket in
    let rest : List Waiter = without (position t ws) ws in
    let v : Waiter = newcomer watch from in
    either t (has_room t rest) (rest ++ v ∷ []) rest rest
    (filter_push (is_other t) rest v (newcomer_is_own watch from)) refl
    ∙ others_without t ws v

pub others_heard : (watch : Watch) (from : SocketAddr) (s : Standing) (ws : List Waiter)
    → others watch.ticket (heard watch from s ws) ≡ others watch.ticket ws
others_heard watch from s ws =
    let t = watch.ticket in
    either t (is_ignored_by watch from (entry t ws)) ws _ ws refl
    (either t (is_waiting (entry t ws)) (renewed_in watch ws) _ ws (others_renewed watch ws (entry t ws) refl)
    (either t (is_kept watch s ws) (entered_for watch from ws) ws ws (others_entered watch from ws) refl))
