-- What a queue is shown of a lock table, of all names at once.
use Rattle.std.proofs.Common.{◌≡◌, ◌∙◌, ℕ, Bool, true, false, List, [], Option, Some, None, get_or, refl, ap, arith}
use Rattle.std.specs.Prelude.{slice_get, nat_lt}
use Rattle.std.specs.List.{list_any, position_or_len}
use Rattle.std.proofs.lemmas.Bool.{ltb-false}
use Rattle.std.proofs.lemmas.List.Folds.{list_any_at}
use Rattle.std.proofs.lemmas.Option.{slice_get_within, get_or_from_slice_get}
use Rattle.lk_watch.specs.Seen.{is_seen, seen_at, standing_shown, standing_seen, holds_shown, holds_seen, holds_some}
use Rattle.lk_watch.specs.Seen.{some_open}
use Rattle.lk_watch.specs.Standings.{places, HasNoPlace}
use Rattle.lk_watch.specs.Tables.{standing_of, is_holder_of}
use Rattle.lk_watch.specs.declared.seen.SeenName.{SeenName}
use Rattle.lk_watch.specs.declared.standing.Standing.{Standing}
use Rattle.lk_watch.specs.declared.standing.Standing.TheVariants.{Free, ExclusiveHold, SharedHold}
use Rattle.lk_watch.specs.declared.ticket.Mode.{Mode}
use Rattle.lk_watch.specs.declared.ticket.Mode.TheVariants.{Exclusive, Share}

none_at : {X : Type 0} (p : X → Bool) (xs : List X) (i : ℕ) (x : X) → list_any p xs ≡ false
    → slice_get xs i ≡ Some x → p x ≡ false
none_at {X} p xs i x none is = by (p x) refl
  where
    by : (b : Bool) → p x ≡ b → p x ≡ false
    by true e =
        let there : get_or xs i x ≡ x = get_or_from_slice_get xs i x x is in
        let some : list_any p xs ≡ true = list_any_at p xs i x (slice_get_within xs i x is) (ap p there ∙ e) in
        absurd (cc (some, none))
    by false e = e

-- who holds none of them does not hold that one
pub held_by_none : (client : ℕ) (seen : List SeenName) (name : List ℕ) → holds_some client seen ≡ false
    → holds_seen seen client name ≡ false
held_by_none client seen name none = by (seen_at seen name) refl
  where
    by : (o : Option SeenName) → seen_at seen name ≡ o → holds_shown client o ≡ false
    by None e = refl
    by (Some s) e =
        none_at (λ (z : SeenName). is_holder_of client z.lock_entry) seen (position_or_len (is_seen name) seen) s none e

no_place : (s : Standing) (mode : Mode) → nat_lt 0 (places Share s) ≡ false → places mode s ≡ 0
no_place (Free fence) mode none = absurd cc
no_place (ExclusiveHold fence) Exclusive none = refl
no_place (ExclusiveHold fence) Share none = refl
no_place (SharedHold fence count) Exclusive none = refl
no_place (SharedHold fence count) Share none = omega (arith, ltb-false _ _ none)

-- where none has a place for a sharer, none has one
pub none_open : (seen : List SeenName) → some_open seen ≡ false → HasNoPlace (standing_seen seen)
none_open seen none name mode = by (seen_at seen name) refl
  where
    alone : (m : Mode) → places m (ExclusiveHold 0) ≡ 0
    alone Exclusive = refl
    alone Share = refl

    by : (o : Option SeenName) → seen_at seen name ≡ o → places mode (standing_shown o) ≡ 0
    by None e = alone mode
    by (Some s) e =
        no_place (standing_of s.lock_entry) mode
        (none_at (λ (z : SeenName). nat_lt 0 (places Share (standing_of z.lock_entry)))
        seen (position_or_len (is_seen name) seen) s none e)
