-- Positioned entries, which of them take effect, and the last request of a client.
use Rattle.std.proofs.Common.{◌≡◌, zero, suc, ℕ, Bool, true, ◌&&◌, List, [], ◌∷◌, ◌++◌, Some, None, refl, ap, sym, ◌∙◌}
use Rattle.std.proofs.Common.{inl, inr, append_assoc, append-nil, arith}
use Rattle.std.specs.Prelude.{Contains}
use Rattle.std.specs.List.{list_all}
use Rattle.std.proofs.lemmas.Bool.{and_parts, and_from, cases_Bool}
use Rattle.std.proofs.lemmas.List.Folds.{list_all-append}
use Rattle.std.proofs.lemmas.List.Elements.{Contains-append_left, Contains-push}
use Rattle.lk_members.specs.Effects.{Command, RequestValue, Noop, Request, PositionedEntry, is_older, in_effect}
use Rattle.lk_members.specs.Effects.{positioned_after}
use Rattle.lk_members.specs.Effects.{positioned, is_of_another, is_at_most, IsLast}

stands_behind : (before entries : List Command) (p : PositionedEntry) → Contains (positioned_after before entries) p
    → (rest : List Command) × (before ++ entries ≡ p.before ++ (p.entry ∷ rest))
stands_behind before [] p (k, lt, is) = absurd (omega arith)
stands_behind before (c ∷ entries) p (zero, lt, is) =
    (entries, ap (λ (q : PositionedEntry). q.before ++ (q.entry ∷ entries)) is)
stands_behind before (c ∷ entries) p (suc k, lt, is) =
    let later = stands_behind (before ++ c ∷ []) entries p (k, omega arith, is) in
    (later.0, sym (append_assoc before (c ∷ []) entries) ∙ later.1)

-- what stands before a positioned entry is a beginning of the list, and the entry comes next
pub entries_follow_their_predecessors : (L : List Command) (p : PositionedEntry) → Contains (positioned L) p
    → (rest : List Command) × (L ≡ p.before ++ (p.entry ∷ rest))
unfolding positioned
entries_follow_their_predecessors L p here = stands_behind [] L p here

-- ---- an entry that takes effect

-- what a request that takes effect stands after
pub in_effect_after : (before : List Command) (c : Command) (r : RequestValue) → in_effect before c ≡ Some r
    → (c ≡ Request r) × (list_all (is_older r) before ≡ true)
in_effect_after before Noop r e = absurd cc
in_effect_after before (Request s) r e =
    elim (cases_Bool (list_all (is_older s) before)) [
      | inl all ↦ let now : Some s ≡ Some r = rw all at e in let same : s ≡ r = cc in (ap Request same, rw (← same) all)
      | inr some ↦ let none : None ≡ Some r = rw some at e in absurd cc
    ]

begins_behind : (before entries : List Command) (p : PositionedEntry) → Contains (positioned_after before entries) p
    → (front : List Command) × (p.before ≡ before ++ front)
begins_behind before [] p (k, lt, is) = absurd (omega arith)
begins_behind before (c ∷ entries) p (zero, lt, is) =
    ([], ap (λ (q : PositionedEntry). q.before) (sym is) ∙ sym (append-nil before))
begins_behind before (c ∷ entries) p (suc k, lt, is) =
    let later = begins_behind (before ++ c ∷ []) entries p (k, omega arith, is) in
    (c ∷ later.0, later.1 ∙ append_assoc before (c ∷ []) later.0)

not_the_same : (r s : RequestValue) → r.client ≡ s.client → r.number ≡ s.number → is_older s (Request r) ≡ true → ⊥
not_the_same r s client number older = grind arith

-- of two entries for one number the later does not take effect
first_takes_effect : (before entries : List Command) (c : Command) (p : PositionedEntry) (r s : RequestValue)
    → in_effect before c ≡ Some r → Contains (positioned_after (before ++ c ∷ []) entries) p
    → in_effect p.before p.entry ≡ Some s → r.client ≡ s.client → r.number ≡ s.number → ⊥
first_takes_effect before entries c p r s first later counts client number =
    let front = begins_behind (before ++ c ∷ []) entries p later in
    let all : list_all (is_older s) ((before ++ c ∷ []) ++ front.0) ≡ true = ap (list_all (is_older s)) (sym front.1)
    ∙ (in_effect_after p.before p.entry s counts).1 in
    let upto = and_parts (list_all (is_older s) (before ++ c ∷ [])) (list_all (is_older s) front.0)
    (sym (list_all-append (is_older s) (before ++ c ∷ []) front.0) ∙ all) in
    let here = and_parts (list_all (is_older s) before) (is_older s c && true)
    (sym (list_all-append (is_older s) before (c ∷ [])) ∙ upto.0) in
    let older = and_parts (is_older s c) true here.1 in
    not_the_same r s client number (rw (in_effect_after before c r first).0 at older.0)

once_behind : (before entries : List Command) (p q : PositionedEntry) (r s : RequestValue)
    → Contains (positioned_after before entries) p → Contains (positioned_after before entries) q
    → in_effect p.before p.entry ≡ Some r → in_effect q.before q.entry ≡ Some s → r.client ≡ s.client
    → r.number ≡ s.number → p ≡ q
once_behind before [] p q r s (j, lt, is) there counts takes_effect_too client number = absurd (omega arith)
once_behind before (c ∷ entries) p q r s (zero, lt, is) (zero, lt_too, is_too) counts takes_effect_too client number =
    sym is ∙ is_too
once_behind before (c ∷ entries) p q r s (zero, lt, is) (suc k, lt_too, is_too) counts takes_effect_too client number =
    absurd (first_takes_effect before entries c q r s
    (ap (λ (x : PositionedEntry). in_effect x.before x.entry) is ∙ counts)
    (k, omega arith, is_too) takes_effect_too client number)
once_behind before (c ∷ entries) p q r s (suc j, lt, is) (zero, lt_too, is_too) counts takes_effect_too client number =
    absurd (first_takes_effect before entries c p s r
    (ap (λ (x : PositionedEntry). in_effect x.before x.entry) is_too ∙ takes_effect_too) (j, omega arith, is) counts
    (sym client) (sym number))
once_behind before (c ∷ entries) p q r s (suc j, lt, is) (suc k, lt_too, is_too) counts takes_effect_too client number =
    once_behind (before ++ c ∷ []) entries p q r s (j, omega arith, is)
    (k, omega arith, is_too) counts takes_effect_too client number

-- at most one entry takes effect for a client's number
pub numbers_take_effect_once : (L : List Command) (p q : PositionedEntry) (r s : RequestValue)
    → Contains (positioned L) p → Contains (positioned L) q
    → in_effect p.before p.entry ≡ Some r → in_effect q.before q.entry ≡ Some s → r.client ≡ s.client
    → r.number ≡ s.number → p ≡ q
unfolding positioned
numbers_take_effect_once L = once_behind [] L

-- ---- one entry more

all-push : (test : Command → Bool) (L : List Command) (c : Command) → list_all test L ≡ true → test c ≡ true
    → list_all test (L ++ c ∷ []) ≡ true
all-push test L c all here =
    list_all-append test L (c ∷ []) ∙ and_from (list_all test L) (test c && true) all (and_from (test c) true here refl)

pub all_of_another-push : (client : ℕ) (L : List Command) (c : Command) → list_all (is_of_another client) L ≡ true
    → is_of_another client c ≡ true → list_all (is_of_another client) (L ++ c ∷ []) ≡ true
all_of_another-push client = all-push (is_of_another client)

-- an entry with no greater number leaves the client's last one
pub IsLast-push : (L : List Command) (c : Command) (client number : ℕ) → IsLast L client number
    → is_at_most client number c ≡ true → IsLast (L ++ c ∷ []) client number
IsLast-push L c client number last here = record {
  request = last.request;
  used = Contains-append_left L (c ∷ []) (Request last.request) last.used;
  of_client = last.of_client;
  of_number = last.of_number;
  greatest = all-push (is_at_most client number) L c last.greatest here;
}

older_at_most : (r : RequestValue) (L : List Command) → list_all (is_older r) L ≡ true
    → list_all (is_at_most r.client r.number) L ≡ true
older_at_most r [] h = refl
older_at_most r (c ∷ L) h =
    let parts = and_parts (is_older r c) (list_all (is_older r) L) h in
    and_from (is_at_most r.client r.number c) (list_all (is_at_most r.client r.number) L) (one c parts.0)
    (older_at_most r L parts.1)
  where
    one : (c : Command) → is_older r c ≡ true → is_at_most r.client r.number c ≡ true
    one Noop older = refl
    one (Request s) older = grind arith

-- a request that takes effect is its client's last one
pub IsLast-new : (L : List Command) (r : RequestValue) → list_all (is_older r) L ≡ true
    → IsLast (L ++ Request r ∷ []) r.client r.number
IsLast-new L r all = record {
  request = r;
  used = Contains-push L (Request r);
  of_client = refl;
  of_number = refl;
  greatest = all-push (is_at_most r.client r.number) L (Request r) (older_at_most r L all) (itself r);
}
  where
    itself : (r : RequestValue) → is_at_most r.client r.number (Request r) ≡ true
    itself r = grind arith
