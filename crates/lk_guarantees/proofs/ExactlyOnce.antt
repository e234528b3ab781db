-- A client that follows the rule is served exactly once.
use Rattle.std.proofs.Common.{◌≡◌, ℕ, ◌-◌, ◌<◌, ◌⊎◌, List, [], ◌∷◌, ◌++◌, take, Contains, refl, ap, sym, ◌∙◌, subst}
use Rattle.std.proofs.Common.{inl, inr, append_assoc, arith}
use Rattle.std.proofs.lemmas.Bool.{cases_eq}
use Rattle.std.proofs.lemmas.List.Elements.{Contains-append_cases, Contains-append_left, Contains-append_right}
use Rattle.std.proofs.lemmas.List.Elements.{Contains-push_cases}
use Rattle.lk_types.specs.declared.answer.Answer.{Answer}
use Rattle.lk_types.specs.declared.command.Command.{Command}
use Rattle.lk_types.specs.declared.command.Request.{Request as Asking}
use Rattle.lk_types.specs.declared.genesis.Genesis.{Genesis}
use Rattle.lk_agreement_laws.specs.Datagrams.{Datagram}
use Rattle.lk_agreement_laws.proofs.Histories.{cons_cases}
use Rattle.lk_node_interface.specs.declared.note.Note.{Note}
use Rattle.lk_node_interface.specs.declared.note.Note.TheVariants as note
use Rattle.lk_guarantees.specs.ExactlyOnce.{IsAskedBy, WasAnswered, AsksAfter, FollowsRule, IsExactlyOnce}
use Rattle.lk_guarantees.specs.ExactlyOnce.{AreExactlyOnce}
use Rattle.lk_guarantees.specs.Plain.{after, execute, TakesEffectAt}
use Rattle.lk_guarantees.specs.Guarantee.{Explains, IsExplained, AreToldInTime}
use Rattle.lk_guarantees.proofs.Once.{once, smaller_first}
use Rattle.lk_guarantees.proofs.Placing.{placed}

-- ---- where a client asks a number for the first time

record IsFirst (client number : ℕ) (notes : List Note) : Type 0 where
  before : List Note
  request : Asking
  later : List Note
  parts : notes ≡ before ++ note.Asked request ∷ later
  of_client : request.client ≡ client
  of_number : request.number ≡ number
  none : (q : Asking) → Contains before (note.Asked q) → q.client ≡ client → q.number ≡ number → ⊥

abbrev IsNone : ℕ → ℕ → List Note → Type 0
IsNone client number notes = (q : Asking) → Contains notes (note.Asked q) → q.client ≡ client → q.number ≡ number → ⊥

abbrev IsAsked : ℕ → ℕ → Note → Type 0
IsAsked client number x = (r : Asking) × (x ≡ note.Asked r) × (r.client ≡ client) × (r.number ≡ number)

same_asked : (q r : Asking) → note.Asked q ≡ note.Asked r → q ≡ r
same_asked q r e = cc e

is_asked : (client number : ℕ) (x : Note) → IsAsked client number x ⊎ (IsAsked client number x → ⊥)
is_asked client number (note.Asked r) = elim (cases_eq r.client client) [
  | inl of_client ↦ elim (cases_eq r.number number) [
    | inl of_number ↦ inl (r, refl, of_client, of_number)
    | inr ne ↦ inr (λ k. ne (ap (λ (x : Asking). x.number) (same_asked r k.0 k.1) ∙ k.3))
  ]
  | inr ne ↦ inr (λ k. ne (ap (λ (x : Asking). x.client) (same_asked r k.0 k.1) ∙ k.2))
]
is_asked client number (note.Counted node i set v) = inr (λ k. cc k.1)
is_asked client number (note.Ran node i v) = inr (λ k. cc k.1)
is_asked client number (note.Answered node c n answer) = inr (λ k. cc k.1)
is_asked client number (note.Told node c n last) = inr (λ k. cc k.1)

none_more : (client number : ℕ) (x : Note) (notes : List Note) → (IsAsked client number x → ⊥)
    → IsNone client number notes → IsNone client number (x ∷ notes)
none_more client number x notes not_here none q c of_client of_number = elim (cons_cases x notes (note.Asked q) c) [
  | inl here ↦ not_here (q, here, of_client, of_number)
  | inr later ↦ none q later of_client of_number
]

-- it does so at one place, or never
first_asked : (client number : ℕ) (notes : List Note) → IsFirst client number notes ⊎ IsNone client number notes
first_asked client number [] = inr (λ q c of_client of_number. omega (arith, c.1))
first_asked client number (x ∷ notes) = elim (is_asked client number x) [
  | inl k ↦ inl (record {
    before = [];
    request = k.0;
    later = notes;
    parts = ap (λ (z : Note). z ∷ notes) k.1;
    of_client = k.2;
    of_number = k.3;
    none = λ q c of_client of_number. omega (arith, c.1);
  })
  | inr not_here ↦ elim (first_asked client number notes) [
    | inl f ↦ inl (record {
      before = x ∷ f.before;
      request = f.request;
      later = f.later;
      parts = ap (λ (l : List Note). x ∷ l) f.parts;
      of_client = f.of_client;
      of_number = f.of_number;
      none = none_more client number x f.before not_here f.none;
    })
    | inr none ↦ inr (none_more client number x notes not_here none)
  ]
]

module _ (genesis : Genesis) (L : List Command) (sent : List Datagram) (trace : List Note)
    (x : Explains genesis sent trace L) (in_time : AreToldInTime trace) (client : ℕ)
    (rule : FollowsRule trace client) where
  -- ---- what takes effect

  asked : (r : Asking) (i : ℕ) → TakesEffectAt genesis L i r → r.client ≡ client → IsAskedBy trace client r
  asked r i is_effective of_client = (x.asked i r is_effective.0, of_client)

  takes_effect : (r : Asking) (node : ℕ) (answer : Answer) → IsAskedBy trace client r
      → Contains trace (note.Answered node client r.number answer)
      → (i : ℕ) × TakesEffectAt genesis L i r × ((execute client r.op (after genesis (take (i - 1) L))).0 ≡ answer)
  takes_effect r node answer asks told =
      let p = placed genesis L client r.number answer (x.answered node client r.number answer told) in
      let same : p.request ≡ r =
      rule.one_operation p.request r (asked p.request p.position p.is_effective p.of_client) asks p.of_number in
      subst (λ (q : Asking). (i : ℕ) × TakesEffectAt genesis L i q
      × ((execute client q.op (after genesis (take (i - 1) L))).0 ≡ answer)) same
      (p.position, p.is_effective, p.answered)

  in_order : (before : List Note) (q r : Asking) (i j : ℕ) → AsksAfter trace client before q r
      → TakesEffectAt genesis L i q → TakesEffectAt genesis L j r → i < j
  in_order before q r i j a first second =
      smaller_first genesis L i j q r first second (a.earlier.1 ∙ sym a.of_client) (rule.rises before q r a)

  -- ---- a pass

  module _ (before later : List Note) (r : Asking) (node last : ℕ)
      (parts : trace ≡ before ++ note.Told node client r.number last ∷ later) (asks : IsAskedBy before client r) where
    abbrev told : Note
    told = note.Told node client r.number last

    greater : r.number < last
    greater = (x.told node client r.number last
        (subst (λ (l : List Note). Contains l told) (sym parts)
        (Contains-append_right before (told ∷ later) told (0, omega arith, refl)))).0

    -- the greater number was asked
    by_then : (q : Asking) × (q.client ≡ client) × (q.number ≡ last) × Contains before (note.Asked q)
    by_then =
        let k = in_time (before ++ told ∷ []) later
        (parts ∙ sym (append_assoc before (told ∷ []) later)) node client r.number last
        (Contains-append_right before (told ∷ []) told (0, omega arith, refl)) in (
          k.0,
          k.1,
          k.2,
          elim (Contains-push_cases before told (note.Asked k.0) k.3)
              [ inl c ↦ c | inr e ↦ absurd (cc e) ],
        )

    earlier_part : (front back : List Note) → before ≡ front ++ back → (y : Note) → Contains front y → Contains before y
    earlier_part front back e y c =
        subst (λ (l : List Note). Contains l y) (sym e) (Contains-append_left front back y c)

    in_trace : (y : Note) → Contains before y → Contains trace y
    in_trace y c = subst (λ (l : List Note). Contains l y) (sym parts) (Contains-append_left before (told ∷ later) y c)

    -- where it is first asked, this one was answered
    answered_at : (front back : List Note) (q : Asking) → before ≡ front ++ note.Asked q ∷ back → q.client ≡ client
        → (Contains front (note.Asked q) → ⊥) → IsAskedBy front client r → WasAnswered before client r.number
    answered_at front back q e of_client first earlier =
        let whole : trace ≡ front ++ note.Asked q ∷ (back ++ told ∷ later) = parts
        ∙ ap (λ (l : List Note). l ++ told ∷ later) e ∙ append_assoc front (note.Asked q ∷ back) (told ∷ later) in
        let a = rule.waits front r q
        (record {
          later = back ++ told ∷ later;
          here = whole;
          of_client = of_client;
          first = first;
          earlier = earlier;
        }) in
        (a.0, a.1, earlier_part front (note.Asked q ∷ back) e (note.Answered a.0 client r.number a.1) a.2)

    module _ (f : IsFirst client r.number before) where
      same : f.request ≡ r
      same = rule.one_operation f.request r (
        in_trace (note.Asked f.request)
            (subst (λ (l : List Note). Contains l (note.Asked f.request)) (sym f.parts)
            (Contains-append_right f.before (note.Asked f.request ∷ f.later) (note.Asked f.request)
            (0, omega arith, refl))),
        f.of_client,
      )
          (in_trace (note.Asked r) asks.0, asks.1) f.of_number

      here : before ≡ f.before ++ note.Asked r ∷ f.later
      here = f.parts ∙ ap (λ (q : Asking). f.before ++ note.Asked q ∷ f.later) same

      -- the greater number was not asked in front of this one
      not_before : IsNone client last f.before
      not_before q c of_client of_number =
          let whole : trace ≡ f.before ++ note.Asked r ∷ (f.later ++ told ∷ later) = parts
          ∙ ap (λ (l : List Note). l ++ told ∷ later) here
          ∙ append_assoc f.before (note.Asked r ∷ f.later) (told ∷ later) in
          let rises = rule.rises f.before q r
          (record {
            later = f.later ++ told ∷ later;
            here = whole;
            of_client = asks.1;
            first = λ k. f.none r k asks.1 refl;
            earlier = (c, of_client);
          }) in
          omega (arith, rises, of_number, greater)

      is_later : Contains f.later (note.Asked by_then.0)
      is_later = elim (Contains-append_cases f.before (note.Asked r ∷ f.later) (note.Asked by_then.0)
          (subst (λ (l : List Note). Contains l (note.Asked by_then.0)) here by_then.3)) [
            | inl front ↦ absurd (not_before by_then.0 front by_then.1 by_then.2)
            | inr rest ↦ elim (cons_cases (note.Asked r) f.later (note.Asked by_then.0) rest) [
              | inl is ↦
                  absurd (omega (arith, ap (λ (q : Asking). q.number) (same_asked r by_then.0 is), by_then.2, greater))
              | inr c ↦ c
            ]
          ]

      answered_by : (g : IsFirst client last f.later) → WasAnswered before client r.number
      answered_by g =
          let front = f.before ++ note.Asked r ∷ g.before in
          answered_at front g.later g.request
          (here ∙ ap (λ (l : List Note). f.before ++ note.Asked r ∷ l) g.parts
          ∙ sym (append_assoc f.before (note.Asked r ∷ g.before) (note.Asked g.request ∷ g.later))) g.of_client
          (λ c. elim (Contains-append_cases f.before (note.Asked r ∷ g.before) (note.Asked g.request) c) [
            | inl first ↦ not_before g.request first g.of_client g.of_number
            | inr rest ↦ elim (cons_cases (note.Asked r) g.before (note.Asked g.request) rest) [
              | inl is ↦ omega (arith, ap (λ (q : Asking). q.number) (same_asked r g.request is), g.of_number, greater)
              | inr second ↦ g.none g.request second g.of_client g.of_number
            ]
          ])
          (Contains-append_right f.before (note.Asked r ∷ g.before) (note.Asked r) (0, omega arith, refl), asks.1)

      answered_then : WasAnswered before client r.number
      answered_then = elim (first_asked client last f.later) [
        | inl g ↦ answered_by g
        | inr none ↦ absurd (none by_then.0 is_later by_then.1 by_then.2)
      ]

    not_passed : WasAnswered before client r.number
    not_passed = elim (first_asked client r.number before) [
      | inl f ↦ answered_then f
      | inr none ↦ absurd (none r asks.0 asks.1 refl)
    ]

  served : IsExactlyOnce genesis L trace client
  served = record {
    takes_effect = takes_effect;
    once = λ r i j first second of_client. once genesis L i j r r first second refl refl;
    asked = asked;
    in_order = in_order;
    not_passed = not_passed;
  }

pub served_once : (genesis : Genesis) (sent : List Datagram) (trace : List Note) → IsExplained genesis sent trace
    → AreToldInTime trace → AreExactlyOnce genesis sent trace
served_once genesis sent trace e in_time =
    (e.0, e.1, λ client rule. served genesis e.0 sent trace e.2 in_time client rule)
