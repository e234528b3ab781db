-- The entries of a chosen list that take effect are a legal sequential history.
use Rattle.std.proofs.Common.{◌≡◌, ℕ, zero, suc, ◌+◌, ◌-◌, ◌<◌, ◌≤◌, Bool, true, false, cond, nat_le, List, [], ◌∷◌}
use Rattle.std.proofs.Common.{◌++◌, length, take, fold, filter, not, slice_get, eqb, Some, Contains, refl, ap, sym, ◌∙◌}
use Rattle.std.proofs.Common.{subst, inl, inr, append_assoc, arith}
use Rattle.std.specs.List.{list_any}
use Rattle.std.proofs.lemmas.Bool.{cases_Bool}
use Rattle.std.proofs.lemmas.List.{length-append}
use Rattle.std.proofs.lemmas.List.Elements.{Contains-append_right}
use Rattle.lk_types.specs.declared.answer.Answer.{Answer}
use Rattle.lk_types.specs.declared.command.Command.{Command}
use Rattle.lk_types.specs.declared.command.Command.TheVariants.{Noop, Request}
use Rattle.lk_types.specs.declared.command.Op.{Op}
use Rattle.lk_types.specs.declared.command.Op.TheVariants.{Table, Join, Leave, Raise}
use Rattle.lk_types.specs.declared.command.Request.{Request as Asking}
use Rattle.lk_types.specs.declared.genesis.Genesis.{Genesis}
use Rattle.lk_agreement_laws.specs.Datagrams.{Datagram}
use Rattle.lk_agreement_laws.proofs.Histories.{cons_cases}
use Rattle.lk_node_interface.specs.declared.note.Note.{Note}
use Rattle.lk_node_interface.specs.declared.note.Note.TheVariants as note
use Rattle.lk_guarantees.specs.Linear.{Object, object, alone, Sequence, IsLegal, Linearizes, IsLinearizable}
use Rattle.lk_guarantees.specs.Plain.{State, begin, execute, takes_effect, used, after_one, after, at, GivesAnswer}
use Rattle.lk_guarantees.specs.Plain.{TakesEffectAt}
use Rattle.lk_guarantees.specs.Guarantee.{IsChosen, Explains, IsExplained, IsOrdered, StandsForOne}
use Rattle.lk_guarantees.proofs.Once.{once}
use Rattle.lk_guarantees.proofs.Placing.{get_middle, take_front}
use Rattle.lk_guarantees.proofs.Quorums.{at_is}

-- ---- the object by itself answers as the state does

abbrev Agrees : ℕ → Op → State → Type 0
Agrees client op s = ((alone client op (object s)).0 ≡ (execute client op s).0)
    × ((alone client op (object s)).1 ≡ object (execute client op s).1)

agrees : (client : ℕ) (op : Op) (s : State) → Agrees client op s
agrees client (Table body) s = (refl, refl)
agrees client (Join node port) s = elim (cases_Bool (nat_le node s.greatest)) [
  | inl e ↦ rw e ((refl, refl))
  | inr e ↦ rw e (elim (cases_Bool (nat_le 7 (length s.members)))
      [ inl f ↦ rw f ((refl, refl)) | inr f ↦ rw f ((refl, refl)) ])
]
agrees client (Leave node) s = elim (cases_Bool (list_any (λ m. eqb m.node node) s.members)) [
  | inl e ↦ rw e (elim (cases_Bool (eqb (length (filter (λ m. not (eqb m.node node)) s.members)) 0))
      [ inl f ↦ rw f ((refl, refl)) | inr f ↦ rw f ((refl, refl)) ])
  | inr e ↦ rw e ((refl, refl))
]
agrees client Raise s = elim (cases_Bool s.raised) [ inl e ↦ rw e ((refl, refl)) | inr e ↦ rw e ((refl, refl)) ]

-- ---- the entries that take effect

abbrev entry_by : Bool → State → Asking → Sequence
entry_by true s r = (r, (execute r.client r.op s).0) ∷ []
entry_by false s r = []

abbrev entry : State → Command → Sequence
entry s Noop = []
entry s (Request r) = entry_by (takes_effect s r) s r

abbrev effective : State → List Command → Sequence
effective s [] = []
effective s (c ∷ L) = entry s c ++ effective (after_one s c) L

effective-append : (s : State) (L K : List Command)
    → effective s (L ++ K) ≡ effective s L ++ effective (fold after_one s L) K
effective-append s [] K = refl
effective-append s (c ∷ L) K =
    ap (λ (h : Sequence). entry s c ++ h) (effective-append (after_one s c) L K)
    ∙ sym (append_assoc (entry s c) (effective (after_one s c) L) (effective (fold after_one (after_one s c) L) K))

-- what stands after a request, by whether that takes effect
abbrev after_by : Bool → State → Asking → State
after_by b s r = record (cond b (used r (execute r.client r.op s).1) s) { position = s.position + 1 }

legal_by : (b : Bool) (s : State) (r : Asking) (L : List Command)
    → IsLegal (object (after_by b s r)) (effective (after_by b s r) L)
    → IsLegal (object s) (entry_by b s r ++ effective (after_by b s r) L)
legal_by true s r L rest =
    let a = agrees r.client r.op s in
    (a.0, subst (λ (o : Object). IsLegal o (effective (after_by true s r) L)) (sym a.1) rest)
legal_by false s r L rest = rest

legal : (s : State) (L : List Command) → IsLegal (object s) (effective s L)
legal s [] = tt
legal s (Noop ∷ L) = legal (after_one s Noop) L
legal s (Request r ∷ L) = legal_by (takes_effect s r) s r L (legal (after_one s (Request r)) L)

-- ---- where an entry of the history stands in the list

record Split (s : State) (L : List Command) (front : Sequence) (x : Asking × Answer) : Type 0 where
  before : List Command
  later : List Command
  stands : L ≡ before ++ (Request x.0 ∷ later)
  is_front : effective s before ≡ front
  is_effective : takes_effect (fold after_one s before) x.0 ≡ true

none_empty : (front : Sequence) (x : Asking × Answer) (back : Sequence) → ◌≡◌ {A = Sequence} [] (front ++ x ∷ back) → ⊥
none_empty [] x back e = cc e
none_empty (y ∷ front) x back e = cc e

one_more : (s : State) (c : Command) (L : List Command) (front : Sequence) (x : Asking × Answer)
    → (k : Split (after_one s c) L front x) → Split s (c ∷ L) (entry s c ++ front) x
one_more s c L front x k = record {
  before = c ∷ k.before;
  later = k.later;
  stands = ap (λ (l : List Command). c ∷ l) k.stands;
  is_front = ap (λ (h : Sequence). entry s c ++ h) k.is_front;
  is_effective = k.is_effective;
}

split_by : (b : Bool) (s : State) (r : Asking) (L : List Command) (front : Sequence) (x : Asking × Answer)
    (back : Sequence) → takes_effect s r ≡ b
    → entry_by b s r ++ effective (after_one s (Request r)) L ≡ front ++ x ∷ back
    → ((f : Sequence) → effective (after_one s (Request r)) L ≡ f ++ x ∷ back → Split (after_one s (Request r)) L f x)
    → Split s (Request r ∷ L) front x
split_by true s r L [] x back is e again =
    let here : (r, (execute r.client r.op s).0) ≡ x = cc e in
    record {
      before = [];
      later = L;
      stands = ap (λ (y : Asking × Answer). Request y.0 ∷ L) here;
      is_front = refl;
      is_effective = subst (λ (y : Asking × Answer). takes_effect s y.0 ≡ true) here is;
    }
split_by true s r L (y ∷ front) x back is e again =
    let here : (r, (execute r.client r.op s).0) ≡ y = cc e in
    let rest : effective (after_one s (Request r)) L ≡ front ++ x ∷ back = cc e in
    let whole : entry s (Request r) ++ front ≡ y ∷ front = ap (λ (b : Bool). entry_by b s r ++ front) is
    ∙ ap (λ (z : Asking × Answer). z ∷ front) here in
    subst (λ (f : Sequence). Split s (Request r ∷ L) f x) whole (one_more s (Request r) L front x (again front rest))
split_by false s r L front x back is e again =
    let whole : entry s (Request r) ++ front ≡ front = ap (λ (b : Bool). entry_by b s r ++ front) is in
    subst (λ (f : Sequence). Split s (Request r ∷ L) f x) whole (one_more s (Request r) L front x (again front e))

split : (s : State) (L : List Command) (front : Sequence) (x : Asking × Answer) (back : Sequence)
    → effective s L ≡ front ++ x ∷ back → Split s L front x
split s [] front x back e = absurd (none_empty front x back e)
split s (Noop ∷ L) front x back e = one_more s Noop L front x (split (after_one s Noop) L front x back e)
split s (Request r ∷ L) front x back e =
    split_by (takes_effect s r) s r L front x back refl e (λ f d. split (after_one s (Request r)) L f x back d)

-- ---- lists

get_front : {X : Type 0} (xs ys : List X) (k : ℕ) (x : X) → slice_get (xs ++ ys) k ≡ Some x → k < length xs
    → slice_get xs k ≡ Some x
get_front [] ys k x e lt = absurd (omega (arith, lt))
get_front (y ∷ xs) ys zero x e lt = e
get_front (y ∷ xs) ys (suc k) x e lt = get_front xs ys k x e (omega (arith, lt))

take_before : {X : Type 0} (k : ℕ) (xs ys : List X) → k ≤ length xs → take k (xs ++ ys) ≡ take k xs
take_before zero xs ys le = none xs (xs ++ ys)
  where
    none : {X : Type 0} (xs ys : List X) → take 0 ys ≡ take 0 xs
    none [] [] = refl
    none [] (y ∷ ys) = refl
    none (x ∷ xs) [] = refl
    none (x ∷ xs) (y ∷ ys) = refl
take_before (suc k) [] ys le = absurd (omega (arith, le))
take_before (suc k) (x ∷ xs) ys le = ap (λ l. x ∷ l) (take_before k xs ys (omega (arith, le)))

cut_at : {X : Type 0} (xs : List X) (k : ℕ) (x : X) → slice_get xs k ≡ Some x
    → (later : List X) × (xs ≡ take k xs ++ (x ∷ later))
cut_at [] k x e = absurd cc
cut_at (y ∷ xs) zero x e = let is : y ≡ x = cc e in (xs, ap (λ z. z ∷ xs) is)
cut_at (y ∷ xs) (suc k) x e = let r = cut_at xs k x e in (r.0, ap (λ l. y ∷ l) r.1)

cut_where : {X : Type 0} (xs : List X) (x : X) → Contains xs x → (front back : List X) × (xs ≡ front ++ (x ∷ back))
cut_where [] x c = absurd (omega (arith, c.1))
cut_where (y ∷ xs) x c = elim (cons_cases y xs x c) [
  | inl here ↦ ([], xs, ap (λ z. z ∷ xs) here)
  | inr later ↦ (let r = cut_where xs x later in (y ∷ r.0, r.1, ap (λ l. y ∷ l) r.2))
]

-- ---- a list of the guarantee

module _ (genesis : Genesis) where
  abbrev first : State
  first = begin genesis

  -- an entry of the history takes effect where it stands
  effect_at : (L : List Command) (front : Sequence) (x : Asking × Answer) → (k : Split first L front x)
      → TakesEffectAt genesis L (length k.before + 1) x.0
  unfolding after
  effect_at L front x k =
      let next : length k.before + 1 ≡ suc (length k.before) = omega arith in
      let less : (length k.before + 1) - 1 ≡ length k.before = omega arith in (
        ap (λ (n : ℕ). at L n) next ∙ at_is L (suc (length k.before))
            ∙ ap (λ (l : List Command). slice_get l (length k.before)) k.stands
            ∙ get_middle k.before (Request x.0) k.later,
        subst (λ (n : ℕ). takes_effect (after genesis (take n L)) x.0 ≡ true) (sym less)
            (subst (λ (l : List Command). takes_effect (after genesis l) x.0 ≡ true)
            (sym (ap (λ (l : List Command). take (length k.before) l) k.stands
            ∙ take_front k.before (Request x.0 ∷ k.later))) k.is_effective),
      )

  -- what takes effect stands in the history
  stands_in : (before : List Command) (r : Asking) (later : List Command)
      → takes_effect (after genesis before) r ≡ true
      → Contains (effective first (before ++ (Request r ∷ later))) (r, (execute r.client r.op (after genesis before)).0)
  unfolding after
  stands_in before r later is_effective =
      let state = fold after_one first before in
      let here : Contains (entry state (Request r) ++ effective (after_one state (Request r)) later)
      (r, (execute r.client r.op state).0) =
      subst (λ (b : Bool). Contains (entry_by b state r ++ effective (after_one state (Request r)) later)
      (r, (execute r.client r.op state).0)) (sym is_effective) (0, omega arith, refl) in
      subst (λ (h : Sequence). Contains h (r, (execute r.client r.op state).0))
      (sym (effective-append first before (Request r ∷ later)))
      (Contains-append_right (effective first before)
      (entry state (Request r) ++ effective (after_one state (Request r)) later)
      (r, (execute r.client r.op state).0) here)

  -- what takes effect in front of an entry of the history stands in front of it there
  in_front : (L : List Command) (front : Sequence) (x : Asking × Answer) → (k : Split first L front x)
      → (j : ℕ) (q : Asking) → j < length k.before + 1 → TakesEffectAt genesis L j q
      → (b : Answer) × Contains front (q, b)
  in_front L front x k zero q lt t = absurd (cc t.0)
  in_front L front x k (suc j) q lt t =
      let less : suc j - 1 ≡ j = omega arith in
      let there : slice_get (k.before ++ (Request x.0 ∷ k.later)) j ≡ Some (Request q) =
      sym (ap (λ (l : List Command). slice_get l j) k.stands) ∙ sym (at_is L (suc j)) ∙ t.0 in
      let here = get_front k.before (Request x.0 ∷ k.later) j (Request q) there (omega (arith, lt)) in
      let cut = cut_at k.before j (Request q) here in
      let same : take (suc j - 1) L ≡ take j k.before = ap (λ (n : ℕ). take n L) less
      ∙ ap (λ (l : List Command). take j l) k.stands
      ∙ take_before j k.before (Request x.0 ∷ k.later) (omega (arith, lt)) in
      let is_effective = subst (λ (l : List Command). takes_effect (after genesis l) q ≡ true) same t.1 in
      let found = stands_in (take j k.before) q cut.0 is_effective in (
        (execute q.client q.op (after genesis (take j k.before))).0,
        subst (λ (h : Sequence). Contains h (q, (execute q.client q.op (after genesis (take j k.before))).0))
            (ap (λ (l : List Command). effective first l) (sym cut.1) ∙ k.is_front) found,
      )

  module _ (sent : List Datagram) (trace : List Note) (L : List Command) (chosen : IsChosen genesis sent L)
      (x : Explains genesis sent trace L) (ordered : IsOrdered genesis sent trace) where
    completes : (client number : ℕ) (answer : Answer) → GivesAnswer genesis L client number answer
        → (r : Asking) × (r.client ≡ client) × (r.number ≡ number) × Contains (effective first L) (r, answer)
    completes client number answer a = (
      a.request,
      a.of_client,
      a.of_number,
      subst (λ (l : List Command). Contains (effective first l) (a.request, answer)) (sym a.stands)
          (subst (λ (z : Answer). Contains (effective first (a.before ++ (Request a.request ∷ a.later)))
          (a.request, z)) (ap (λ (c : ℕ). (execute c a.request.op (after genesis a.before)).0) a.of_client ∙ a.answered)
          (stands_in a.before a.request a.later a.is_effective)),
    )

    invoked : (r : Asking) (answer : Answer) → Contains (effective first L) (r, answer) → Contains trace (note.Asked r)
    invoked r answer c =
        let cut = cut_where (effective first L) (r, answer) c in
        let k = split first L cut.0 (r, answer) cut.1 cut.2 in
        x.asked (length k.before + 1) r (effect_at L cut.0 (r, answer) k).0

    -- the one operation that the client has asked under the number
    its_own : (client number : ℕ) (answer : Answer) → GivesAnswer genesis L client number answer
        → StandsForOne trace client number → (r : Asking) → Contains trace (note.Asked r) → r.client ≡ client
        → r.number ≡ number → Contains (effective first L) (r, answer)
    its_own client number answer a one r asked of_client of_number =
        let k = completes client number answer a in
        subst (λ (q : Asking). Contains (effective first L) (q, answer))
        (one k.0 r (invoked k.0 answer k.3) asked k.1 of_client k.2 of_number) k.3

    only_once : (front back : Sequence) (r q : Asking) (a b : Answer) → effective first L ≡ front ++ (r, a) ∷ back
        → Contains front (q, b) → q.client ≡ r.client → q.number ≡ r.number → ⊥
    only_once front back r q a b e c client number =
        let k = split first L front (r, a) back e in
        let cut = cut_where front (q, b) c in
        let j = split first k.before cut.0 (q, b) cut.1 (k.is_front ∙ cut.2) in
        let whole : L ≡ j.before ++ (Request q ∷ (j.later ++ (Request r ∷ k.later))) = k.stands
        ∙ ap (λ (l : List Command). l ++ (Request r ∷ k.later)) j.stands
        ∙ append_assoc j.before (Request q ∷ j.later) (Request r ∷ k.later) in
        let again : Split first L cut.0 (q, b) =
        record {
          before = j.before;
          later = j.later ++ (Request r ∷ k.later);
          stands = whole;
          is_front = j.is_front;
          is_effective = j.is_effective;
        } in
        let same = once genesis L (length j.before + 1) (length k.before + 1) q r (effect_at L cut.0 (q, b) again)
        (effect_at L front (r, a) k) client number in
        let long : length k.before ≡ length (j.before ++ (Request q ∷ j.later)) = ap length j.stands in
        omega (arith, same, long, length-append j.before (Request q ∷ j.later))

    in_time : (before later : List Note) → trace ≡ before ++ later → (node client number : ℕ) (answer : Answer)
        → Contains before (note.Answered node client number answer) → (r : Asking)
        → (Contains before (note.Asked r) → ⊥)
        → (front back : Sequence) (a : Answer) → effective first L ≡ front ++ (r, a) ∷ back
        → (q : Asking) × (b : Answer) × (q.client ≡ client) × (q.number ≡ number) × Contains front (q, b)
    in_time before later parts node client number answer there r new front back a e =
        let k = split first L front (r, a) back e in
        let o = ordered before later parts node client number answer there r new L (length k.before + 1) chosen
        (effect_at L front (r, a) k) in
        let f = in_front L front (r, a) k o.0 o.1 o.2 o.5 in
        (o.1, f.0, o.3, o.4, f.1)

    linearizes : Linearizes genesis trace (effective first L)
    linearizes = record {
      legal = legal first L;
      completes =
          λ node client number answer c. completes client number answer (x.answered node client number answer c);
      its_own =
          λ node client number answer c. its_own client number answer (x.answered node client number answer c);
      invoked = invoked;
      once = only_once;
      in_time = in_time;
    }

pub linearizable : (genesis : Genesis) (sent : List Datagram) (trace : List Note) → IsExplained genesis sent trace
    → IsOrdered genesis sent trace → IsLinearizable genesis trace
linearizable genesis sent trace e ordered =
    (effective (begin genesis) e.0, linearizes genesis sent trace e.0 e.1 e.2 ordered)
