-- Chosen lists, in the words of the guarantee and in those of the crates below: the same.
use Rattle.std.proofs.Common.{◌≡◌, ℕ, zero, suc, ◌+◌, ◌-◌, ◌≤◌, ◌⊎◌, Bool, true, false, cond, eqb, List, [], ◌∷◌, take}
use Rattle.std.proofs.Common.{map, filter, fold, count_by, Contains, refl, ap, subst, sym, ◌∙◌, inl, inr, arith}
use Rattle.std.specs.List.{list_any, list_all}
use Rattle.std.proofs.lemmas.Bool.{cases_Bool, eqb-true, and_from}
use Rattle.lk_types.specs.declared.genesis.Genesis.{Genesis}
use Rattle.lk_types.specs.declared.member.Member.{Member}
use Rattle.lk_types.specs.BallotValue.{BallotValue}
use Rattle.lk_messages.specs.declared.message.NodeMessage.{NodeMessage}
use Rattle.lk_members.specs.Rosters.{PlainRoster, is_member, members}
use Rattle.lk_agreement_laws.specs.Datagrams.{Datagram, HasSent, Accepted}
use Rattle.lk_agreement_laws.specs.Chosen.{Command, command_at, Chosen, IsAcceptedIn, IsPrefix as IsBeginning}
use Rattle.lk_agreement_laws.proofs.Histories.{cons_cases, contains_more, filter_from, filter_passes_at}
use Rattle.lk_guarantees.specs.Guarantee as guarantee
use Rattle.lk_guarantees.specs.Plain as plainly
use Rattle.lk_guarantees.specs.Plain.{after, at}
use Rattle.lk_guarantees.specs.Chosen.{Says, IsAcceptedBy, IsChosen, IsPrefix}
use Rattle.lk_guarantees.proofs.Effects.{leaves}

-- ---- positions

pub at_is : (L : List Command) (i : ℕ) → at L i ≡ command_at L i
at_is L zero = refl
at_is [] (suc i) = refl
at_is (c ∷ L) (suc zero) = refl
at_is (c ∷ L) (suc (suc i)) = at_is L (suc i)

-- ---- members

pub members_are : (genesis : Genesis) (L : List Command) (i : ℕ) → plainly.members genesis L i ≡ members genesis L i
unfolding members
members_are genesis L i = sym (ap (λ (x : PlainRoster). x.members) (leaves genesis (take (i - genesis.alpha) L)).roster)

-- ---- what was sent

pub says : (genesis : Genesis) (sent : List Datagram) (n : ℕ) (m : NodeMessage)
    → HasSent genesis sent n m → Says genesis sent n m
says genesis sent n m h = record { datagram = h.datagram; is_sent = h.listed; by_node = h.from; in_words = h.spelled }

pub has_sent : (genesis : Genesis) (sent : List Datagram) (n : ℕ) (m : NodeMessage) → Says genesis sent n m
    → HasSent genesis sent n m
has_sent genesis sent n m s =
    record { datagram = s.datagram; listed = s.is_sent; from = s.by_node; spelled = s.in_words }

-- ---- majorities

-- a node's number stands among these
abbrev pub stands_in : List ℕ → Member → Bool
stands_in nodes m = list_any (λ n. eqb n m.node) nodes

pub stood : (nodes : List ℕ) (k : ℕ) → list_any (λ n. eqb n k) nodes ≡ true → Contains nodes k
stood [] k e = absurd cc
stood (n ∷ nodes) k e = elim (cases_Bool (eqb n k)) [
  | inl here ↦ (0, omega arith, eqb-true _ _ here)
  | inr there ↦ contains_more n nodes k (stood nodes k (rw there at e))
]

stands : (nodes : List ℕ) (k : ℕ) → Contains nodes k → list_any (λ n. eqb n k) nodes ≡ true
stands [] k h = absurd (omega (arith, h.1))
stands (n ∷ nodes) k h = elim (cases_Bool (eqb n k)) [
  | inl here ↦ rw here refl
  | inr there ↦ elim (cons_cases n nodes k h) [
    | inl same ↦ absurd (grind (arith, same, there))
    | inr later ↦ rw there (stands nodes k later)
  ]
]

pub accepted_by : (genesis : Genesis) (sent : List Datagram) (set : List Member) (b : BallotValue) (i : ℕ)
    (v : Command) → IsAcceptedIn genesis sent set b i v → IsAcceptedBy genesis sent set i v b
accepted_by genesis sent set b i v a = record {
  among = stands_in a.nodes;
  more_than_half = a.majority.more_than_half;
  each = λ m within e. says genesis sent m.node (Accepted (record { position = i; ballot = b; command = v }))
      (a.accepted m.node (stood a.nodes m.node e));
}

-- the numbers of those that are such
abbrev numbers : (Member → Bool) → List Member → List ℕ
numbers among set = map (λ m. m.node) (filter among set)

numbered : (ms : List Member) (n : ℕ) → Contains (map (λ (m : Member). m.node) ms) n
    → (m : Member) × Contains ms m × (m.node ≡ n)
numbered [] n h = absurd (omega (arith, h.1))
numbered (m ∷ ms) n h = elim (cons_cases m.node (map (λ (m : Member). m.node) ms) n h) [
  | inl same ↦ (m, (0, omega arith, refl), same)
  | inr later ↦ let x = numbered ms n later in (x.0, contains_more m ms x.0 x.1, x.2)
]

numbers_of : (ms : List Member) (m : Member) → Contains ms m → Contains (map (λ (x : Member). x.node) ms) m.node
numbers_of [] m h = absurd (omega (arith, h.1))
numbers_of (x ∷ ms) m h = elim (cons_cases x ms m h) [
  | inl same ↦ (0, omega arith, ap (λ (y : Member). y.node) same)
  | inr later ↦ contains_more x.node (map (λ (x : Member). x.node) ms) m.node (numbers_of ms m later)
]

is_within : (set : List Member) (m : Member) → Contains set m → is_member m.node set ≡ true
is_within [] m h = absurd (omega (arith, h.1))
is_within (x ∷ set) m h = elim (cases_Bool (eqb x.node m.node)) [
  | inl here ↦ rw here refl
  | inr there ↦ elim (cons_cases x set m h) [
    | inl same ↦ absurd (grind (arith, ap (λ (y : Member). y.node) same, there))
    | inr later ↦ rw there (is_within set m later)
  ]
]

all_of : {X : Type 0} (p : X → Bool) (xs : List X) → ((x : X) → Contains xs x → p x ≡ true) → list_all p xs ≡ true
all_of p [] h = refl
all_of p (x ∷ xs) h =
    and_from (p x) (list_all p xs) (h x (0, omega arith, refl)) (all_of p xs (λ y c. h y (contains_more x xs y c)))

has_filtered : {X : Type 0} (p : X → Bool) (xs : List X) (x : X) → Contains xs x → p x ≡ true → Contains (filter p xs) x
has_filtered p [] x h e = absurd (omega (arith, h.1))
has_filtered p (y ∷ ys) x h e = elim (cons_cases y ys x h) [
  | inl same ↦ rw (same, e) (0, omega arith, refl)
  | inr later ↦ elim (cases_Bool (p y)) [
    | inl yes_it ↦ rw yes_it (contains_more y (filter p ys) x (has_filtered p ys x later e))
    | inr no_it ↦ rw no_it (has_filtered p ys x later e)
  ]
]

-- where one test implies the other, as many at least pass the other
counts_from : {X : Type 0} (p q : X → Bool) (xs : List X) (n m : ℕ) → n ≤ m
    → ((x : X) → Contains xs x → p x ≡ true → q x ≡ true)
    → fold (λ (a : ℕ) (x : X). a + cond (p x) 1 0) n xs ≤ fold (λ (a : ℕ) (x : X). a + cond (q x) 1 0) m xs
counts_from p q [] n m le h = le
counts_from {X} p q (x ∷ xs) n m le h =
    counts_from p q xs (n + cond (p x) 1 0) (m + cond (q x) 1 0) (here (p x) (q x) (h x (0, omega arith, refl)))
    (λ y c. h y (contains_more x xs y c))
  where
    here : (a b : Bool) → (a ≡ true → b ≡ true) → n + cond a 1 0 ≤ m + cond b 1 0
    here true true so = omega (arith, le)
    here true false so = let bad = so refl in absurd cc
    here false true so = omega (arith, le)
    here false false so = omega (arith, le)

counts_more : {X : Type 0} (p q : X → Bool) (xs : List X) → ((x : X) → Contains xs x → p x ≡ true → q x ≡ true)
    → count_by p xs ≤ count_by q xs
counts_more p q xs h = counts_from p q xs 0 0 (omega arith) h

pub accepted_in : (genesis : Genesis) (sent : List Datagram) (set : List Member) (b : BallotValue) (i : ℕ)
    (v : Command) → IsAcceptedBy genesis sent set i v b → IsAcceptedIn genesis sent set b i v
accepted_in genesis sent set b i v a =
    let nodes = numbers a.among set in
    record {
      nodes = nodes;
      majority = record {
        within = all_of (λ n. is_member n set) nodes (λ n c.
            let m = numbered (filter a.among set) n c in
            subst (λ (k : ℕ). is_member k set ≡ true) m.2 (is_within set m.0 (filter_from a.among set m.0 m.1)));
        more_than_half =
            let more = counts_more a.among (stands_in nodes) set
            (λ m c e. stands nodes m.node (numbers_of (filter a.among set) m (has_filtered a.among set m c e))) in
            omega (arith, more, a.more_than_half);
      };
      accepted = λ n c.
          let m = numbered (filter a.among set) n c in
          let sent_it = a.each m.0 (filter_from a.among set m.0 m.1) (filter_passes_at a.among set m.0 m.1) in
          subst (λ (k : ℕ). HasSent genesis sent k (Accepted (record { position = i; ballot = b; command = v }))) m.2
          (has_sent genesis sent m.0.node (Accepted (record { position = i; ballot = b; command = v })) sent_it);
    }

-- ---- chosen lists

pub is_chosen : (genesis : Genesis) (sent : List Datagram) (L : List Command) → Chosen genesis sent L
    → IsChosen genesis sent L
unfolding Chosen IsChosen
is_chosen genesis sent L chosen i v e =
    let c = chosen i v (sym (at_is L i) ∙ e) in (
      c.0,
      subst (λ (set : List Member). IsAcceptedBy genesis sent set i v c.0) (sym (members_are genesis L i))
          (accepted_by genesis sent (members genesis L i) c.0 i v c.1),
    )

pub chosen_is : (genesis : Genesis) (sent : List Datagram) (L : List Command)
    → IsChosen genesis sent L → Chosen genesis sent L
unfolding Chosen IsChosen
chosen_is genesis sent L chosen i v e =
    let c = chosen i v (at_is L i ∙ e) in (
      c.0,
      subst (λ (set : List Member). IsAcceptedIn genesis sent set c.0 i v) (members_are genesis L i)
          (accepted_in genesis sent (plainly.members genesis L i) c.0 i v c.1),
    )

pub begins : (L K : List Command) → IsBeginning L K → IsPrefix L K
begins L K b = (b.0, sym b.1)

pub agreed : (genesis : Genesis) (sent : List Datagram)
    → ((L K : List Command) → Chosen genesis sent L → Chosen genesis sent K → IsBeginning L K ⊎ IsBeginning K L)
    → guarantee.Agree genesis sent
agreed genesis sent agree L K l k = elim (agree L K (chosen_is genesis sent L l) (chosen_is genesis sent K k)) [
  | inl b ↦ inl (begins L K b)
  | inr b ↦ inr (begins K L b)
]
