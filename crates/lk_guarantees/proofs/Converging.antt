-- What is kept of a list is determined by the list.
use Rattle.std.proofs.Common.{◌≡◌, ℕ, zero, suc, ◌+◌, ◌-◌, ◌<◌, List, [], ◌∷◌, ◌++◌, length, take, slice_get, Some}
use Rattle.std.proofs.Common.{Contains, refl, ap, sym, ◌∙◌, subst, inl, inr, append-nil, length-append, arith}
use Rattle.lk_types.specs.declared.answer.Answer.{Answer}
use Rattle.lk_types.specs.declared.command.Command.{Command}
use Rattle.lk_types.specs.declared.command.Command.TheVariants.{Request}
use Rattle.lk_types.specs.declared.command.Request.{Request as Asking}
use Rattle.lk_types.specs.declared.genesis.Genesis.{Genesis}
use Rattle.lk_types.specs.declared.member.Member.{Member}
use Rattle.lk_agreement_laws.proofs.Histories.{cons_cases, contains_more}
use Rattle.lk_replica.specs.ReplicaValue.{ReplicaValue}
use Rattle.lk_sim.specs.WorldStates.{WorldState}
use Rattle.lk_state.specs.declared.session.Session.{Session}
use Rattle.lk_guarantees.specs.Converging.{Converges}
use Rattle.lk_guarantees.specs.Disks.{kept_text, IsSnapshot}
use Rattle.lk_guarantees.specs.Plain.{after, at, execute, GivesAnswer, Kept, IsKeptOf}
use Rattle.lk_guarantees.specs.Guarantee.{IsChosen, IsPrefix, kept_by_replica, MeetsGuarantee}
use Rattle.lk_guarantees.proofs.Once.{once}
use Rattle.lk_guarantees.proofs.Placing.{placed}
use Rattle.lk_guarantees.proofs.Rising.{Rise}

-- ---- lists

no_more : {X : Type 0} (rest : List X) (n : ℕ) → n ≡ n + length rest → rest ≡ []
no_more [] n e = refl
no_more (x ∷ rest) n e = absurd (omega (arith, e))

same_length : (L K : List Command) → IsPrefix L K → length L ≡ length K → L ≡ K
same_length L K b e = sym (append-nil L)
    ∙ ap (λ (l : List Command). L ++ l) (sym (no_more b.0 (length L) (e ∙ ap length b.1 ∙ length-append L b.0)))
    ∙ sym b.1

same_items : {X : Type 0} (n : ℕ) (xs ys : List X) → length xs ≡ n → length ys ≡ n
    → ((k : ℕ) → k < n → slice_get xs k ≡ slice_get ys k) → xs ≡ ys
same_items n [] [] e f same = refl
same_items n [] (y ∷ ys) e f same = absurd (omega (arith, e, f))
same_items n (x ∷ xs) [] e f same = absurd (omega (arith, e, f))
same_items zero (x ∷ xs) (y ∷ ys) e f same = absurd (omega (arith, e))
same_items (suc n) (x ∷ xs) (y ∷ ys) e f same =
    let head : x ≡ y = cc (same zero (omega arith)) in
    let tail : xs ≡ ys = same_items n xs ys (omega (arith, e)) (omega (arith, f))
    (λ k lt. same (suc k) (omega (arith, lt))) in
    cc (head, tail)

-- ---- sessions that rise

rise_tail : (x : Session) (xs : List Session) → Rise (x ∷ xs) → Rise xs
rise_tail x xs h k s t e f =
    let next : suc (k + 1) ≡ suc k + 1 = omega arith in
    h (suc k) s t e (subst (λ (n : ℕ). slice_get (x ∷ xs) n ≡ Some t) next f)

above : (x : Session) (xs : List Session) → Rise (x ∷ xs) → (s : Session) → Contains xs s → x.client < s.client
above x [] h s c = absurd (omega (arith, c.1))
above x (y ∷ xs) h s c =
    let next : x.client < y.client = h zero x y refl refl in
    elim (cons_cases y xs s c) [
      | inl here ↦ subst (λ (z : Session). x.client < z.client) here next
      | inr later ↦ omega (arith, next, above y xs (rise_tail x (y ∷ xs) h) s later)
    ]

abbrev AreAmong : List Session → List Session → Type 0
AreAmong xs ys = (s : Session) → Contains xs s → Contains ys s

first_is : (x y : Session) (xs ys : List Session) → Rise (x ∷ xs) → Rise (y ∷ ys) → AreAmong (x ∷ xs) (y ∷ ys)
    → AreAmong (y ∷ ys) (x ∷ xs) → x ≡ y
first_is x y xs ys h g there back = elim (cons_cases y ys x (there x (0, omega arith, refl))) [
  | inl e ↦ sym e
  | inr c ↦ elim (cons_cases x xs y (back y (0, omega arith, refl))) [
    | inl e ↦ e
    | inr d ↦ absurd (omega (arith, above y ys g x c, above x xs h y d))
  ]
]

rest_among : (x : Session) (xs ys : List Session) → Rise (x ∷ xs) → AreAmong (x ∷ xs) (x ∷ ys) → AreAmong xs ys
rest_among x xs ys h there s c = elim (cons_cases x ys s (there s (contains_more x xs s c))) [
  | inl here ↦ absurd (omega (arith, above x xs h s c, ap (λ (z : Session). z.client) here))
  | inr later ↦ later
]

same_sessions : (xs ys : List Session) → Rise xs → Rise ys → AreAmong xs ys → AreAmong ys xs → xs ≡ ys
same_sessions [] [] h g there back = refl
same_sessions [] (y ∷ ys) h g there back = absurd (let c = back y (0, omega arith, refl) in omega (arith, c.1))
same_sessions (x ∷ xs) [] h g there back = absurd (let c = there x (0, omega arith, refl) in omega (arith, c.1))
same_sessions (x ∷ xs) (y ∷ ys) h g there back =
    let first : x ≡ y = first_is x y xs ys h g there back in
    let forth : AreAmong (x ∷ xs) (x ∷ ys) = subst (λ (z : Session). AreAmong (x ∷ xs) (z ∷ ys)) (sym first) there in
    let home : AreAmong (x ∷ ys) (x ∷ xs) = subst (λ (z : Session). AreAmong (z ∷ ys) (x ∷ xs)) (sym first) back in
    let rises : Rise (x ∷ ys) = subst (λ (z : Session). Rise (z ∷ ys)) (sym first) g in
    ap (λ (z : Session). z ∷ xs) first ∙ ap (λ (l : List Session). y ∷ l)
    (same_sessions xs ys (rise_tail x xs h) (rise_tail y ys g) (rest_among x xs ys h forth)
    (rest_among x ys xs rises home))

-- ---- what is kept

module _ (genesis : Genesis) (L : List Command) where
  -- a number of a client has one answer
  one_answer : (client number : ℕ) (a b : Answer) → GivesAnswer genesis L client number a
      → GivesAnswer genesis L client number b → a ≡ b
  one_answer client number a b x y =
      let p = placed genesis L client number a x in
      let q = placed genesis L client number b y in
      let same : p.position ≡ q.position =
      once genesis L p.position q.position p.request q.request p.is_effective q.is_effective (p.of_client
      ∙ sym q.of_client)
      (p.of_number ∙ sym q.of_number) in
      let one : Some (Request p.request) ≡ Some (Request q.request) = sym p.is_effective.0
      ∙ ap (λ (n : ℕ). at L n) same ∙ q.is_effective.0 in
      let equal : p.request ≡ q.request = cc one in
      sym p.answered ∙ ap (λ (n : ℕ). (execute client p.request.op (after genesis (take (n - 1) L))).0) same
      ∙ ap (λ (r : Asking). (execute client r.op (after genesis (take (q.position - 1) L))).0) equal ∙ q.answered

  -- it stands in the list
  stands : (client number : ℕ) (a : Answer) → GivesAnswer genesis L client number a
      → (r : Asking) × Contains L (Request r) × (r.client ≡ client) × (r.number ≡ number)
  stands client number a x = (
    x.request,
    subst (λ (l : List Command). Contains l (Request x.request)) (sym x.stands) (middle x.before x.later),
    x.of_client,
    x.of_number,
  )
    where
      middle : (before later : List Command) → Contains (before ++ (Request x.request ∷ later)) (Request x.request)
      middle [] later = (0, omega arith, refl)
      middle (c ∷ before) later =
          contains_more c (before ++ (Request x.request ∷ later)) (Request x.request) (middle before later)

  abbrev session : ℕ → ℕ → Answer → Session
  session client number answer = record { client = client; number = number; answer = answer }

  among : (k j : Kept) → IsKeptOf genesis L k → IsKeptOf genesis L j → AreAmong k.sessions j.sessions
  among k j x y s c =
      let used = stands s.client s.number s.answer (x.answers s c) in
      let t = y.clients used.0 used.1 in
      let of_client : t.0.client ≡ s.client = t.2 ∙ used.2 in
      let back = stands t.0.client t.0.number t.0.answer (y.answers t.0 t.1) in
      let most = y.last t.0 t.1 used.0 used.1 (sym t.2) in
      let least = x.last s c back.0 back.1 (back.2 ∙ of_client) in
      let of_number : t.0.number ≡ s.number = omega (arith, most, least, used.3, back.3) in
      let there : GivesAnswer genesis L s.client s.number t.0.answer =
      subst (λ (n : ℕ). GivesAnswer genesis L s.client n t.0.answer) of_number
      (subst (λ (n : ℕ). GivesAnswer genesis L n t.0.number t.0.answer) of_client (y.answers t.0 t.1)) in
      let of_answer : t.0.answer ≡ s.answer = one_answer s.client s.number t.0.answer s.answer there (x.answers s c) in
      let same : t.0 ≡ s = ap (λ (n : ℕ). session n t.0.number t.0.answer) of_client
      ∙ ap (λ (n : ℕ). session s.client n t.0.answer) of_number
      ∙ ap (λ (a : Answer). session s.client s.number a) of_answer in
      subst (λ (z : Session). Contains j.sessions z) same t.1

  abbrev kept : ℕ → List (List Member) → ℕ → ℕ → List Session → List ℕ → Kept
  kept executed incoming greatest changed sessions locks =
      record {
        executed = executed;
        incoming = incoming;
        greatest = greatest;
        changed = changed;
        sessions = sessions;
        locks = locks;
      }

  one_kept : (k j : Kept) → IsKeptOf genesis L k → IsKeptOf genesis L j → k ≡ j
  one_kept k j x y =
      let executed : k.executed ≡ j.executed = x.executed ∙ sym y.executed in
      let incoming : k.incoming ≡ j.incoming =
      same_items genesis.alpha k.incoming j.incoming x.as_many y.as_many
      (λ n lt. x.incoming n lt ∙ sym (y.incoming n lt)) in
      let greatest : k.greatest ≡ j.greatest = x.greatest ∙ sym y.greatest in
      let changed : k.changed ≡ j.changed = x.changed ∙ sym y.changed in
      let sessions : k.sessions ≡ j.sessions =
      same_sessions k.sessions j.sessions x.rise y.rise (among k j x y) (among j k y x) in
      let locks : k.locks ≡ j.locks = x.locks ∙ sym y.locks in
      ap (λ n. kept n k.incoming k.greatest k.changed k.sessions k.locks) executed
      ∙ ap (λ l. kept j.executed l k.greatest k.changed k.sessions k.locks) incoming
      ∙ ap (λ n. kept j.executed j.incoming n k.changed k.sessions k.locks) greatest
      ∙ ap (λ n. kept j.executed j.incoming j.greatest n k.sessions k.locks) changed
      ∙ ap (λ l. kept j.executed j.incoming j.greatest j.changed l k.locks) sessions
      ∙ ap (λ l. kept j.executed j.incoming j.greatest j.changed j.sessions l) locks

-- so a list has one snapshot
pub one_snapshot : (genesis : Genesis) (L : List Command) (a b : List ℕ) → IsSnapshot genesis L a
    → IsSnapshot genesis L b → a ≡ b
one_snapshot genesis L a b x y = x.2 ∙ ap kept_text (one_kept genesis L x.0 y.0 x.1 y.1) ∙ sym y.2

-- chosen lists of one length are one
module _ (world : WorldState ReplicaValue) (p : MeetsGuarantee world) where
  one_list : (K L : List Command) → IsChosen world.genesis world.sent K → IsChosen world.genesis world.sent L
      → length K ≡ length L → K ≡ L
  one_list K L k l e = elim (p.agree K L k l) [
    | inl b ↦ same_length K L b e
    | inr b ↦ sym (same_length L K b (sym e))
  ]

  same_kept : (K L : List Command) → IsChosen world.genesis world.sent K → IsChosen world.genesis world.sent L
      → length K ≡ length L → (a b : Kept) → IsKeptOf world.genesis K a → IsKeptOf world.genesis L b → a ≡ b
  same_kept K L k l e a b x y =
      one_kept world.genesis L a b (subst (λ (m : List Command). IsKeptOf world.genesis m a) (one_list K L k l e) x) y

  pub converges : Converges world
  converges = record {
    nodes = λ s t here there q r is_up up.
        let x = p.executed s here q is_up in
        let y = p.executed t there r up in
        λ as_much.
        let same = same_kept x.0 y.0 x.1 y.1 (sym x.2.executed ∙ as_much ∙ y.2.executed)
        (kept_by_replica q) (kept_by_replica r) x.2 y.2 in
        (same, ap kept_text same);
    snapshots = λ K L k l e a b x y. x.2 ∙ ap kept_text (same_kept K L k l e x.0 y.0 x.1 y.1) ∙ sym y.2;
  }
