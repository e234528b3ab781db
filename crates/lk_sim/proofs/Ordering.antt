-- What was answered before a request was asked takes effect before it.
use Rattle.std.proofs.Common.{◌≡◌, ℕ, zero, suc, ◌-◌, ◌<◌, ◌≤◌, ◌⊎◌, Bool, ◌&&◌, eqb, List, [], ◌∷◌, ◌++◌, length, take}
use Rattle.std.proofs.Common.{Option, Some, None, slice_get, Contains, refl, ap, sym, ◌∙◌, subst, inl, inr, arith}
use Rattle.std.proofs.Common.{append-nil, length-append, eqb-true}
use Rattle.std.specs.Prelude.{find}
use Rattle.std.specs.List.{list_all}
use Rattle.std.specs.Option.{option_map, option_or}
use Rattle.std.proofs.Math.Seq.{take-append_seam}
use Rattle.std.proofs.lemmas.Bool.{and_parts, cases_Bool, cases_lt}
use Rattle.std.proofs.lemmas.List.{take-append-le}
use Rattle.std.proofs.lemmas.List.Elements.{Contains-append_cases, Contains-append_left}
use Rattle.std.proofs.lemmas.List.Folds.{find-append}
use Rattle.lk_types.specs.declared.answer.Answer.{Answer}
use Rattle.lk_members.specs.Effects.{is_older, in_effect, positioned}
use Rattle.lk_members.specs.Rosters.{roster_of}
use Rattle.lk_state.specs.Meanings.{Meaning}
use Rattle.lk_state.specs.declared.session.Session.{Session}
use Rattle.lk_state.specs.States.{session_in, text_of, ledger, reply}
use Rattle.lk_state.proofs.Wholes.{by_pushes, ledger-push}
use Rattle.lk_agreement_laws.specs.Chosen.{command_at, Chosen, IsPrefix}
use Rattle.lk_agreement_laws.specs.Soundness.{Sound}
use Rattle.lk_agreement_laws.proofs.Histories.{command_within, entry_chosen, one_chosen, chosen_agree, still_chosen}
use Rattle.lk_node_interface.specs.declared.note.Note.{Note}
use Rattle.lk_node_interface.specs.declared.note.Note.TheVariants as note
use Rattle.lk_node.specs.Histories.{Genesis, Datagram, Command, Noop, Request, RequestValue}
use Rattle.lk_sim.specs.Traces.{asked_in}
use Rattle.lk_sim.specs.Orders.{IsEffectiveAt, IsEffectiveBefore, InOrder, ToldInTime, IsAnsweredBy, RestsOn, InTime}
use Rattle.lk_sim.proofs.Lists.{asked_among}
use Rattle.lk_sim.proofs.Bearing.{command_longer}

-- ---- a request that is replied takes effect at a place

-- so it does in a longer list
effective_longer : (L rest : List Command) (i : ℕ) (r : RequestValue) → IsEffectiveAt L i r
    → IsEffectiveAt (L ++ rest) i r
effective_longer L rest i r c = (
  command_longer L rest i (Request r) c.0,
  ap (λ l. in_effect l (Request r)) (take-append-le (i - 1) L rest (omega (arith, command_within L i (Request r) c.0)))
      ∙ c.1,
)

get_last : {X : Type 0} (xs : List X) (x : X) → slice_get (xs ++ x ∷ []) (length xs) ≡ Some x
get_last [] x = refl
get_last (y ∷ xs) x = get_last xs x

abbrev is_asked : ℕ → ℕ → Session → Bool
is_asked client number s = eqb s.client client && eqb s.number number

less_one : (n : ℕ) → suc n - 1 ≡ n
less_one n = omega arith

-- a session that was entered
abbrev entered : Option Session → List Session
entered None = []
entered (Some s) = s ∷ []

abbrev AreInEffect : Meaning → Genesis → List Command → Type 0
AreInEffect m genesis L =
    (client number : ℕ) (a : Answer) → reply m genesis L client number ≡ Some a
    → IsEffectiveBefore L (suc (length L)) client number

nothing_in_effect : (m : Meaning) (genesis : Genesis) → AreInEffect m genesis []
unfolding ledger positioned
nothing_in_effect m genesis client number a e = absurd cc

module _ (m : Meaning) (genesis : Genesis) (L : List Command) (client number : ℕ) where
  -- the last request
  last_takes_effect : (r : RequestValue) (a : Answer)
      → option_map (λ (s : Session). s.answer)
      (find (is_asked client number)
      (entered (session_in m (roster_of genesis L) (text_of m L) (in_effect L (Request r))))) ≡ Some a
      → IsEffectiveBefore (L ++ Request r ∷ []) (suc (length (L ++ Request r ∷ []))) client number
  last_takes_effect r a e = elim (cases_Bool (list_all (is_older r) L)) [
    | inr some ↦ (let none : None ≡ Some a = rw some at e in absurd (cc none))
    | inl all ↦ elim (cases_Bool (eqb r.client client && eqb r.number number)) [
      | inr other ↦ (let none : None ≡ Some a = rw (all, other) at e in absurd (cc none))
      | inl mine ↦ (let parts = and_parts (eqb r.client client) (eqb r.number number) mine in
          record {
            index = suc (length L);
            request = r;
            before = omega (arith, length-append L (Request r ∷ []));
            of_client = eqb-true r.client client parts.0;
            of_number = eqb-true r.number number parts.1;
            effective = (
              get_last L (Request r),
              ap (λ k. in_effect (take k (L ++ Request r ∷ [])) (Request r)) (less_one (length L))
                  ∙ ap (λ l. in_effect l (Request r)) (take-append_seam L (Request r ∷ [])) ∙ rw all refl,
            );
          })
    ]
  ]

  effect_found : (c : Command) (o : Option Session) (a : Answer)
      → ((b : Answer) → option_map (λ (s : Session). s.answer) o ≡ Some b
      → IsEffectiveBefore L (suc (length L)) client number)
      → option_map (λ (s : Session). s.answer)
      (option_or o (find (is_asked client number)
      (entered (session_in m (roster_of genesis L) (text_of m L) (in_effect L c))))) ≡ Some a
      → IsEffectiveBefore (L ++ c ∷ []) (suc (length (L ++ c ∷ []))) client number
  effect_found c (Some s) a earlier e =
      let k = earlier s.answer refl in
      record {
        index = k.index;
        request = k.request;
        before = omega (arith, k.before, length-append L (c ∷ []));
        of_client = k.of_client;
        of_number = k.of_number;
        effective = effective_longer L (c ∷ []) k.index k.request k.effective;
      }
  effect_found Noop None a earlier e = absurd cc
  effect_found (Request r) None a earlier e = last_takes_effect r a e

effective_more : (m : Meaning) (genesis : Genesis) (L : List Command) (c : Command) → AreInEffect m genesis L
    → AreInEffect m genesis (L ++ c ∷ [])
effective_more m genesis L c so_far client number a e =
    effect_found m genesis L client number c
    (find (is_asked client number) (ledger m genesis L)) a (so_far client number)
    (sym (ap (λ (l : List Session). option_map (λ (s : Session). s.answer) (find (is_asked client number) l))
    (ledger-push m genesis L c)
    ∙ ap (option_map (λ (s : Session). s.answer))
    (find-append (is_asked client number) (ledger m genesis L)
    (entered (session_in m (roster_of genesis L) (text_of m L) (in_effect L c))))) ∙ e)

-- what is replied takes effect at some place of the list
pub reply_takes_effect : (m : Meaning) (genesis : Genesis) (L : List Command) → AreInEffect m genesis L
reply_takes_effect m genesis =
    by_pushes (AreInEffect m genesis) (nothing_in_effect m genesis) (effective_more m genesis)

-- ---- order

there_is : (K : List Command) (i : ℕ) → 1 ≤ i → i ≤ length K → (u : Command) × (command_at K i ≡ Some u)
there_is K zero some le = absurd (omega arith)
there_is [] (suc k) some le = absurd (omega arith)
there_is (x ∷ K) (suc zero) some le = (x, refl)
there_is (x ∷ K) (suc (suc k)) some le = there_is K (suc k) (omega arith) (omega arith)

first_is_some : (L : List Command) (i : ℕ) (v : Command) → command_at L i ≡ Some v → 1 ≤ i
first_is_some L zero v e = absurd cc
first_is_some L (suc k) v e = omega arith

has_entry : (K : List Command) (i : ℕ) (v : Command) → command_at K i ≡ Some v → Contains K v
has_entry K zero v e = absurd cc
has_entry [] (suc k) v e = absurd cc
has_entry (x ∷ K) (suc zero) v e = (0, omega arith, cc e)
has_entry (x ∷ K) (suc (suc k)) v e = let c = has_entry K (suc k) v e in (suc c.0, omega (arith, c.1), c.2)

module _ (m : Meaning) (genesis : Genesis) (sent : List Datagram) (sound : Sound genesis sent) (trace : List Note)
    (in_time : InTime m genesis sent trace)
    (noted : (front : List Note) (r : RequestValue) → Contains (asked_in front) r → Contains front (note.Asked r)) where
  module _ (K L : List Command) (k : Chosen genesis sent K) (l : Chosen genesis sent L) (i : ℕ) (r : RequestValue)
      (at : command_at L i ≡ Some (Request r)) (unasked : Contains K (Request r) → ⊥) where
    -- the list ends in front of the request
    ends_before : length K < i
    ends_before = elim (cases_lt (length K) i) [
      | inl less ↦ less
      | inr most ↦ (
          let u = there_is K i (first_is_some L i (Request r) at) most in
          let same : u.0 ≡ Request r =
          one_chosen genesis sent sound i u.0 (Request r) (entry_chosen genesis sent K k i u.0 u.1)
          (entry_chosen genesis sent L l i (Request r) at) in
          absurd (unasked (has_entry K i (Request r) (u.1 ∙ ap Some same))))
    ]

    begins : IsPrefix K L
    begins = elim (chosen_agree genesis sent sound K L k l) [
      | inl b ↦ b
      | inr b ↦ absurd (omega (
        arith,
        ends_before,
        command_within L i (Request r) at,
        sym (length-append L b.0) ∙ ap length b.1,
      ))
    ]

  pub in_order : InOrder genesis sent trace
  in_order front back parted n client number a answered r unasked L i l c =
      let p : IsAnsweredBy m genesis sent front client number a =
      in_time front back parted (note.Answered n client number a) answered in
      let none : Contains p.under (Request r) → ⊥ = λ has. unasked (noted front r (p.asked r has)) in
      let b = begins p.under L p.chosen l i r c.0 none in
      let k = reply_takes_effect m genesis p.under client number a p.replied in
      record {
        index = k.index;
        request = k.request;
        before = omega (arith, k.before, ends_before p.under L p.chosen l i r c.0 none);
        of_client = k.of_client;
        of_number = k.of_number;
        effective = subst (λ z. IsEffectiveAt z k.index k.request) b.1
            (effective_longer p.under b.0 k.index k.request k.effective);
      }

  -- what is replied was asked
  pub told_in_time : ToldInTime trace
  told_in_time front back parted n client number last told =
      let p : (a : Answer) × IsAnsweredBy m genesis sent front client last a =
      in_time front back parted (note.Told n client number last) told in
      let k = reply_takes_effect m genesis p.1.under client last p.0 p.1.replied in (
        k.request,
        k.of_client,
        k.of_number,
        noted front k.request (p.1.asked k.request (has_entry p.1.under k.index (Request k.request) k.effective.0)),
      )

-- ---- it stays so

-- where two lists that were joined are separated
parted_at : {X : Type 0} (xs ys front back : List X) → xs ++ ys ≡ front ++ back
    → ((rest : List X) × (xs ≡ front ++ rest)) ⊎ ((more : List X) × (front ≡ xs ++ more) × (ys ≡ more ++ back))
parted_at [] ys front back e = inr (front, refl, e)
parted_at (x ∷ xs) ys [] back e = inl (x ∷ xs, refl)
parted_at {X} (x ∷ xs) ys (y ∷ front) back e =
    elim (parted_at xs ys front back (tail e)) [
      | inl a ↦ inl (a.0, cons (head e) a.1)
      | inr b ↦ inr (b.0, sym (cons (head e) (sym b.1)), b.2)
    ]
  where
    head : x ∷ (xs ++ ys) ≡ y ∷ (front ++ back) → x ≡ y
    head f = cc f

    tail : x ∷ (xs ++ ys) ≡ y ∷ (front ++ back) → xs ++ ys ≡ front ++ back
    tail f = cc f

    cons : {us vs : List X} → x ≡ y → us ≡ vs → x ∷ us ≡ y ∷ vs
    cons f g = cc (f, g)

module _ (m : Meaning) (genesis : Genesis) (sent more : List Datagram) (trace notes : List Note)
    (in_time : InTime m genesis sent trace)
    (fresh : (x : Note) → Contains notes x → RestsOn m genesis sent trace x) where
  still_answered : (front later : List Note) (client number : ℕ) (a : Answer)
      → IsAnsweredBy m genesis sent front client number a
      → IsAnsweredBy m genesis (sent ++ more) (front ++ later) client number a
  still_answered front later client number a p = record {
    under = p.under;
    chosen = still_chosen genesis sent more p.under p.chosen;
    replied = p.replied;
    asked = λ r c. asked_among front later r (p.asked r c);
  }

  still : (front later : List Note) (x : Note) → RestsOn m genesis sent front x
      → RestsOn m genesis (sent ++ more) (front ++ later) x
  still front later (note.Asked r) p = tt
  still front later (note.Counted node i set v) p = tt
  still front later (note.Ran node i v) p = tt
  still front later (note.Answered node client number a) p = still_answered front later client number a p
  still front later (note.Told node client number last) p = (p.0, still_answered front later client last p.0 p.1)

  pub still_in_time : InTime m genesis (sent ++ more) (trace ++ notes)
  still_in_time front back parted x c = elim (parted_at trace notes front back parted) [
    | inl old ↦ subst (λ l. RestsOn m genesis (sent ++ more) l x) (append-nil front)
        (still front [] x (in_time front old.0 old.1 x c))
    | inr new ↦ subst (λ l. RestsOn m genesis (sent ++ more) l x) (sym new.1) (still trace new.0 x
        (elim (Contains-append_cases trace new.0 x (subst (λ l. Contains l x) new.1 c)) [
          | inl before ↦ in_time trace [] (sym (append-nil trace)) x before
          | inr now ↦ fresh x (subst (λ l. Contains l x) (sym new.2) (Contains-append_left new.0 back x now))
        ]))
  ]
