-- The number of a node that joins is above those of all members so far.
use Rattle.std.proofs.Common.{◌≡◌, ℕ, ◌-◌, ◌<◌, ◌≤◌, leb, eqb, not}
use Rattle.std.proofs.Common.{List, [], ◌∷◌, ◌++◌, length, take, drop, fold, filter, Contains, ap, sym, ◌∙◌}
use Rattle.std.proofs.Common.{subst, inl, inr, arith}
use Rattle.std.specs.List.{list_any}
use Rattle.std.proofs.lemmas.Bool.{cases_Bool, leb-false}
use Rattle.std.proofs.lemmas.List.{take-append-drop, take-take}
use Rattle.std.proofs.lemmas.List.Elements.{Contains-push_cases}
use Rattle.lk_types.specs.declared.answer.Answer.TheVariants.{Joined, Used}
use Rattle.lk_types.specs.declared.command.Command.{Command}
use Rattle.lk_types.specs.declared.command.Command.TheVariants.{Noop, Request}
use Rattle.lk_types.specs.declared.command.Op.{Op}
use Rattle.lk_types.specs.declared.command.Op.TheVariants.{Table, Join, Leave, Raise}
use Rattle.lk_types.specs.declared.genesis.Genesis.{Genesis}
use Rattle.lk_types.specs.declared.member.Member.{Member}
use Rattle.lk_agreement_laws.proofs.Histories.{cons_cases, filter_from}
use Rattle.lk_guarantees.specs.Joining.{JoinsOnce}
use Rattle.lk_guarantees.specs.Plain.{State, greatest_of, begin, execute, join, leave, raise, takes_effect}
use Rattle.lk_guarantees.specs.Plain.{after_one, after}
use Rattle.lk_guarantees.proofs.Guarded.{fold-append}

-- no member's number is above the greatest
abbrev IsBounded : State → Type 0
IsBounded s = (m : Member) → Contains s.members m → m.node ≤ s.greatest

-- and the greatest number never falls
abbrev Climbs : State → State → Type 0
Climbs old new = IsBounded new × (old.greatest ≤ new.greatest)

greatest_bounds : (members : List Member) (m : Member) → Contains members m → m.node ≤ greatest_of members
greatest_bounds [] m c = absurd (omega (arith, c.1))
greatest_bounds (x ∷ members) m c = elim (cons_cases x members m c) [
  | inl is ↦ omega (arith, ap (λ (y : Member). y.node) is)
  | inr later ↦ omega (arith, greatest_bounds members m later)
]

stays : (s : State) → IsBounded s → Climbs s s
stays s bounded = (bounded, omega arith)

join_climbs : (node port : ℕ) (s : State) → IsBounded s → Climbs s (join node port s).1
join_climbs node port s bounded = elim (cases_Bool (leb node s.greatest)) [
  | inl e ↦ rw e (stays s bounded)
  | inr e ↦ elim (cases_Bool (leb 7 (length s.members))) [
    | inl f ↦ rw (e, f) (stays s bounded)
    | inr f ↦ rw (e, f) (
      λ m c. elim (Contains-push_cases s.members (record { node = node; port = port }) m c) [
        | inl before ↦ (let low = leb-false node s.greatest e in omega (arith, low, bounded m before))
        | inr is ↦ omega (arith, ap (λ (y : Member). y.node) is)
      ],
      (let low = leb-false node s.greatest e in omega (arith, low)),
    )
  ]
]

leave_climbs : (node : ℕ) (s : State) → IsBounded s → Climbs s (leave node s).1
leave_climbs node s bounded = elim (cases_Bool (list_any (λ m. eqb m.node node) s.members)) [
  | inl e ↦ elim (cases_Bool (eqb (length (filter (λ m. not (eqb m.node node)) s.members)) 0)) [
    | inl f ↦ rw (e, f) (stays s bounded)
    | inr f ↦ rw (e, f)
        (λ m c. bounded m (filter_from (λ (x : Member). not (eqb x.node node)) s.members m c), omega arith)
  ]
  | inr e ↦ rw e (stays s bounded)
]

raise_climbs : (s : State) → IsBounded s → Climbs s (raise s).1
raise_climbs s bounded =
    elim (cases_Bool s.raised) [ inl e ↦ rw e (stays s bounded) | inr e ↦ rw e (bounded, omega arith) ]

serve_climbs : (client : ℕ) (op : Op) (s : State) → IsBounded s → Climbs s (execute client op s).1
serve_climbs client (Table body) s bounded = (bounded, omega arith)
serve_climbs client (Join node port) s bounded = join_climbs node port s bounded
serve_climbs client (Leave node) s bounded = leave_climbs node s bounded
serve_climbs client Raise s bounded = raise_climbs s bounded

one_climbs : (s : State) (c : Command) → IsBounded s → Climbs s (after_one s c)
one_climbs s Noop bounded = (bounded, omega arith)
one_climbs s (Request r) bounded =
    elim (cases_Bool (takes_effect s r))
    [ inl e ↦ rw e (serve_climbs r.client r.op s bounded) | inr e ↦ rw e (bounded, omega arith) ]

all_climb : (L : List Command) (s : State) → IsBounded s → Climbs s (fold after_one s L)
all_climb [] s bounded = stays s bounded
all_climb (c ∷ L) s bounded =
    let one = one_climbs s c bounded in
    let rest = all_climb L (after_one s c) one.0 in
    (rest.0, omega (arith, one.1, rest.1))

-- who joins is above all members so far
joined_above : (node port : ℕ) (s : State) → (join node port s).0 ≡ Joined → s.greatest < node
joined_above node port s e = elim (cases_Bool (leb node s.greatest)) [
  | inl f ↦ (let no : Used ≡ Joined = rw f at e in absurd (cc no))
  | inr f ↦ leb-false node s.greatest f
]

module _ (genesis : Genesis) (L : List Command) where
  -- what an earlier entry leaves, seen from a later one
  climbs : (k j : ℕ) → k ≤ j
      → Climbs (fold after_one (begin genesis) (take k L)) (fold after_one (begin genesis) (take j L))
  climbs k j le =
      let front : take k (take j L) ≡ take k L = take-take k j L le in
      let parts : take k L ++ drop k (take j L) ≡ take j L =
      ap (λ (l : List Command). l ++ drop k (take j L)) (sym front) ∙ take-append-drop k (take j L) in
      let bounded = (all_climb (take k L) (begin genesis) (greatest_bounds genesis.members)).0 in
      subst (λ (s : State). Climbs (fold after_one (begin genesis) (take k L)) s)
      (sym (fold-append (begin genesis) (take k L) (drop k (take j L)))
      ∙ ap (λ (l : List Command). fold after_one (begin genesis) l) parts)
      (all_climb (drop k (take j L)) (fold after_one (begin genesis) (take k L)) bounded)

  pub joins_once : JoinsOnce genesis L
  unfolding after
  joins_once node i k joins before m c is =
      let s = fold after_one (begin genesis) (take (i - 1) L) in
      let told : (join node joins.port s).0 ≡ Joined =
      ap (λ (op : Op). (execute joins.request.client op s).0) (sym joins.asks) ∙ joins.granted in
      let above = joined_above node joins.port s told in
      let low = (all_climb (take k L) (begin genesis) (greatest_bounds genesis.members)).0 m c in
      let climb = (climbs k (i - 1) (omega (arith, before))).1 in
      omega (arith, above, low, climb, is)
