-- Envelopes of which some are lost.
use Rattle.std.proofs.Common.{◌≡◌, ℕ, zero, suc, ◌≢◌, ◌+◌, ◌<◌, inl, inr, Bool, true, false, List, [], ◌∷◌, ◌++◌}
use Rattle.std.proofs.Common.{length, take, get_or, Contains, refl, sym, ap, ◌∙◌, subst, append_assoc, append-nil}
use Rattle.std.proofs.Common.{arith}
use Rattle.std.proofs.lemmas.Bool.{false≢true}
use Rattle.lk_disk.specs.Disk.{one_more}
use Rattle.lk_agreement_laws.specs.Datagrams.{Datagram}
use Rattle.lk_node_interface.specs.Envelopes.{EnvelopeValue, datagram_of, batch_of}
use Rattle.lk_replica.specs.Posts.{AreOf, Thins, SendsBut, SendsWhether, TellsSends, more_by}
use Rattle.lk_node.proofs.Nodes.{cons_cases, contains_more, map_contains, map_has}

nil_push : (l : EnvelopeValue) (kept : List EnvelopeValue) → kept ≡ [] → kept ++ l ∷ [] ≡ l ∷ []
nil_push l kept e = ap (λ (k : List EnvelopeValue). k ++ l ∷ []) e

-- one more that is sent
pub thins_kept : (envelopes : List EnvelopeValue) (lost : ℕ) (kept : List EnvelopeValue) (l : EnvelopeValue)
    → Thins envelopes lost kept → Thins (envelopes ++ l ∷ []) lost (kept ++ l ∷ [])
thins_kept [] lost kept l t = inr ([], nil_push l kept t.1, (t.0, refl))
thins_kept (x ∷ xs) lost kept l (inl gone) = inl (gone.0, gone.1, thins_kept xs gone.0 kept l gone.2)
thins_kept (x ∷ xs) lost kept l (inr sent) =
    inr (sent.0 ++ l ∷ [], ap (λ (k : List EnvelopeValue). k ++ l ∷ []) sent.1, thins_kept xs lost sent.0 l sent.2)

-- one more that is lost
pub thins_lost : (envelopes : List EnvelopeValue) (lost : ℕ) (kept : List EnvelopeValue) (l : EnvelopeValue)
    → Thins envelopes lost kept → Thins (envelopes ++ l ∷ []) (lost + 1) kept
thins_lost [] lost kept l t = inl (lost, refl, t)
thins_lost (x ∷ xs) lost kept l (inl gone) =
    inl (lost, refl, subst (λ (k : ℕ). Thins (xs ++ l ∷ []) k kept) (sym gone.1) (thins_lost xs gone.0 kept l gone.2))
thins_lost (x ∷ xs) lost kept l (inr sent) = inr (sent.0, sent.1, thins_lost xs lost sent.0 l sent.2)

pub sends_kept : (lost : ℕ) (envelopes old new newer : List EnvelopeValue) (l : EnvelopeValue)
    → SendsBut lost envelopes old new → newer ≡ new ++ l ∷ [] → SendsBut lost (envelopes ++ l ∷ []) old newer
sends_kept lost envelopes old new newer l s e = (
  s.0 ++ l ∷ [],
  thins_kept envelopes lost s.0 l s.1,
  e ∙ ap (λ (k : List EnvelopeValue). k ++ l ∷ []) s.2 ∙ append_assoc old s.0 (l ∷ []),
)

pub sends_lost : (lost : ℕ) (envelopes old new newer : List EnvelopeValue) (l : EnvelopeValue)
    → SendsBut lost envelopes old new → newer ≡ new → SendsBut (lost + 1) (envelopes ++ l ∷ []) old newer
sends_lost lost envelopes old new newer l s e = (s.0, thins_lost envelopes lost s.0 l s.1, e ∙ s.2)

-- where none is lost all are sent
pub none_lost : (envelopes kept : List EnvelopeValue) → Thins envelopes 0 kept → kept ≡ envelopes
none_lost [] kept t = t.1
none_lost (x ∷ xs) kept (inl gone) = absurd (omega (arith, gone.1))
none_lost (x ∷ xs) kept (inr sent) = sent.1 ∙ ap (λ (k : List EnvelopeValue). x ∷ k) (none_lost xs sent.0 sent.2)

-- what is left is of the envelopes
pub thins_are_of : (envelopes : List EnvelopeValue) (lost : ℕ) (kept : List EnvelopeValue)
    → Thins envelopes lost kept → AreOf kept envelopes
thins_are_of [] lost kept t l c = subst (λ (k : List EnvelopeValue). Contains k l) t.1 c
thins_are_of (x ∷ xs) lost kept (inl gone) l c = contains_more x xs l (thins_are_of xs gone.0 kept gone.2 l c)
thins_are_of (x ∷ xs) lost kept (inr sent) l c =
    elim (cons_cases x sent.0 l (subst (λ (k : List EnvelopeValue). Contains k l) sent.1 c)) [
      | inl same ↦ (0, omega arith, same)
      | inr later ↦ contains_more x xs l (thins_are_of xs lost sent.0 sent.2 l later)
    ]

-- so each datagram of them is one of the batch
pub batch_among : (n : ℕ) (some envelopes : List EnvelopeValue) → AreOf some envelopes → (d : Datagram)
    → Contains (batch_of n some) d → Contains (batch_of n envelopes) d
batch_among n some envelopes among d c =
    let l = map_contains (datagram_of n) some d c in
    subst (Contains (batch_of n envelopes)) l.2 (map_has (datagram_of n) envelopes l.0 (among l.0 l.1))

-- ---- one envelope after another

take_suc : (envelopes : List EnvelopeValue) (i : ℕ) (x : EnvelopeValue) → i < length envelopes → x
    ≡ get_or envelopes i x
    → take (suc i) envelopes ≡ take i envelopes ++ x ∷ []
take_suc [] i x lt is = absurd (omega (arith, lt))
take_suc (y ∷ ys) zero x lt is = ap (λ (z : EnvelopeValue). z ∷ []) (sym is)
take_suc (y ∷ ys) (suc i) x lt is = ap (λ (l : List EnvelopeValue). y ∷ l) (take_suc ys i x (omega (arith, lt)) is)

pub take_one_more : (envelopes : List EnvelopeValue) (i : ℕ) (x : EnvelopeValue) → i < length envelopes
    → x ≡ get_or envelopes i x → take (i + 1) envelopes ≡ take i envelopes ++ x ∷ []
take_one_more envelopes i x lt is = let e : i + 1 ≡ suc i = omega arith in
    ap (λ (k : ℕ). take k envelopes) e ∙ take_suc envelopes i x lt is

-- what stands once the first envelopes were tried: how many were lost, and whether none was
pub record Delivers (Telling : Type 0) (front old new : List EnvelopeValue) (before now : ℕ) (all : Bool) : Type 0 where
  pub count : ℕ
  pub sends : Telling → SendsBut count front old new
  pub counted : now ≡ more_by count before
  pub none : all ≡ true → count ≡ 0
  pub some : all ≡ false → count ≢ 0

pub delivers_none : (Telling : Type 0) (old : List EnvelopeValue) (before : ℕ) (all : Bool) → all ≡ true
    → Delivers Telling [] old old before before all
delivers_none Telling old before all is = record {
  count = 0;
  sends = λ telling. ([], (refl, refl), sym (append-nil old));
  counted = refl;
  none = λ e. refl;
  some = λ e. absurd (false≢true (sym e ∙ is));
}

module _ (Telling : Type 0) (envelopes : List EnvelopeValue) (i : ℕ) (x : EnvelopeValue)
    (old new newer : List EnvelopeValue)
    (before mid now : ℕ) (was all : Bool) (more : take (i + 1) envelopes ≡ take i envelopes ++ x ∷ []) where
  pub after_lost : all ≡ false → Delivers Telling (take i envelopes) old new before mid was → (Telling → newer ≡ new)
      → now ≡ one_more mid → Delivers Telling (take (i + 1) envelopes) old newer before now all
  after_lost is d e counted = record {
    count = d.count + 1;
    sends = λ telling. subst (λ (front : List EnvelopeValue). SendsBut (d.count + 1) front old newer) (sym more)
        (sends_lost d.count (take i envelopes) old new newer x (d.sends telling) (e telling));
    counted = let k : d.count + 1 ≡ suc d.count = omega arith in
        counted ∙ ap one_more d.counted ∙ ap (λ (j : ℕ). more_by j before) (sym k);
    none = λ none. absurd (false≢true (sym is ∙ none));
    some = λ _ none. omega (arith, none);
  }

  pub after_sent : all ≡ was → Delivers Telling (take i envelopes) old new before mid was
      → (Telling → newer ≡ new ++ x ∷ []) → now ≡ mid
      → Delivers Telling (take (i + 1) envelopes) old newer before now all
  after_sent is d e counted = record {
    count = d.count;
    sends = λ telling. subst (λ (front : List EnvelopeValue). SendsBut d.count front old newer) (sym more)
        (sends_kept d.count (take i envelopes) old new newer x (d.sends telling) (e telling));
    counted = counted ∙ d.counted;
    none = λ none. d.none (sym is ∙ none);
    some = λ some. d.some (sym is ∙ some);
  }

-- so once all were tried
module _ (Telling : Type 0) (envelopes front old new : List EnvelopeValue) (before now : ℕ) (whole : front
    ≡ envelopes) where
  pub sends_whether : (all : Bool) → Delivers Telling front old new before now all → Telling
      → SendsWhether all envelopes old new before now
  sends_whether true d telling =
      let s = d.sends telling in
      s.2 ∙ ap (λ (k : List EnvelopeValue). old ++ k)
      (none_lost front s.0 (subst (λ (j : ℕ). Thins front j s.0) (d.none refl) s.1) ∙ whole)
  sends_whether false d telling =
      (d.count, subst (λ (l : List EnvelopeValue). SendsBut d.count l old new) whole (d.sends telling), d.counted)

  pub tells_sends : (all : Bool) → Delivers Telling front old new before now all → TellsSends all before now
  tells_sends true d = d.counted ∙ ap (λ (k : ℕ). more_by k before) (d.none refl)
  tells_sends false d = (d.count, d.some refl, d.counted)
