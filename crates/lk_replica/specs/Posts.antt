-- What was given to a post, and what it has sent of that.
use Rattle.std.specs.Prelude.{◌≡◌, ◌≢◌, ℕ, zero, suc, ◌+◌, ◌⊎◌, Bool, true, false, Result, Ok, Err, List, [], ◌∷◌, ◌++◌}
use Rattle.std.specs.Prelude.{Contains}
use Rattle.lk_disk.specs.Disk.{one_more}
use Rattle.lk_node_interface.specs.Envelopes.{EnvelopeValue}

-- these envelopes were given to a post one after another, in order, and nothing else was. `Carries` is the effect of
-- one envelope: the post before, the envelope, whether that was sent, and the post after
abbrev pub CarriesAll : {P : Type 0} → (P → EnvelopeValue → Bool → P → Type 0) → P → List EnvelopeValue → P → Type 0
CarriesAll {P} Carries old [] new = new ≡ old
CarriesAll {P} Carries old (l ∷ envelopes) new =
    (is_sent : Bool) × (mid : P) × Carries old l is_sent mid × CarriesAll Carries mid envelopes new

-- envelopes with this property were given to it
pub record GivesEnvelopes {P : Type 0} (Carries : P → EnvelopeValue → Bool → P → Type 0) (old new : P)
    (Holds : List EnvelopeValue → Type 0) : Type 0 where
  pub envelopes : List EnvelopeValue
  pub carried : CarriesAll Carries old envelopes new
  pub holds : Holds envelopes

-- the first envelopes are some of the others
abbrev pub AreOf : List EnvelopeValue → List EnvelopeValue → Type 0
AreOf some envelopes = (l : EnvelopeValue) → Contains some l → Contains envelopes l

-- these envelopes without this many of them, in the same order
abbrev pub Thins : List EnvelopeValue → ℕ → List EnvelopeValue → Type 0
Thins [] lost kept = (lost ≡ 0) × (kept ≡ [])
Thins (l ∷ envelopes) lost kept =
    ((fewer : ℕ) × (lost ≡ fewer + 1) × Thins envelopes fewer kept)
    ⊎ ((rest : List EnvelopeValue) × (kept ≡ l ∷ rest) × Thins envelopes lost rest)

-- a count that increased this many times, and stays at its maximum
abbrev pub more_by : ℕ → ℕ → ℕ
more_by zero n = n
more_by (suc k) n = one_more (more_by k n)

-- all but this many of them were sent after what was sent before, in order
abbrev pub SendsBut : ℕ → List EnvelopeValue → List EnvelopeValue → List EnvelopeValue → Type 0
SendsBut lost envelopes old new = (kept : List EnvelopeValue) × Thins envelopes lost kept × (new ≡ old ++ kept)

-- each of them was tried: as many were lost as sends failed, and the others were sent in order
abbrev pub SendsSome : List EnvelopeValue → (old new : List EnvelopeValue) → (before now : ℕ) → Type 0
SendsSome envelopes old new before now = (lost : ℕ) × SendsBut lost envelopes old new × (now ≡ more_by lost before)

-- at Ok all of them were sent in order, and after an error all but as many as sends failed
abbrev pub SendsAs : {T E : Type 0} → Result T E → List EnvelopeValue → (old new : List EnvelopeValue)
    → (before now : ℕ) → Type 0
SendsAs (Ok _) envelopes old new before now = new ≡ old ++ envelopes
SendsAs (Err _) envelopes old new before now = SendsSome envelopes old new before now

-- the same, by whether all of them were sent
abbrev pub SendsWhether : Bool → List EnvelopeValue → (old new : List EnvelopeValue) → (before now : ℕ) → Type 0
SendsWhether true envelopes old new before now = new ≡ old ++ envelopes
SendsWhether false envelopes old new before now = SendsSome envelopes old new before now

-- whether all of them were sent, by the count of failures: if some were not, that many sends have failed
abbrev pub TellsSends : Bool → (before now : ℕ) → Type 0
TellsSends true before now = now ≡ before
TellsSends false before now = (lost : ℕ) × (lost ≢ 0) × (now ≡ more_by lost before)

-- These envelopes were given to a post in order, each once, and nothing else was. `all` tells whether all of them were
-- sent, by its count of failures; and a post that tells what it has sent has sent all but as many as sends failed.
pub record IsDelivered {P : Type 0} (Carries : P → EnvelopeValue → Bool → P → Type 0) (sent : P → List EnvelopeValue)
    (failures : P → ℕ) (Observable : Type 0) (envelopes : List EnvelopeValue) (all : Bool) (old new : P) : Type 0 where
  pub carried : CarriesAll Carries old envelopes new
  pub sends : Observable → SendsWhether all envelopes (sent old) (sent new) (failures old) (failures new)
  pub tells : TellsSends all (failures old) (failures new)

-- an error of this number has given nothing to the post, except 15, after which some of the sends have failed
pub record RefusesSends {P : Type 0} (number : ℕ) (old new : P) (before now : ℕ) : Type 0 where
  pub silent : (number ≡ 15 → ⊥) → new ≡ old
  pub some_fail : number ≡ 15 → (lost : ℕ) × (lost ≢ 0) × (now ≡ more_by lost before)

-- the envelopes that were kept, and how many were not
pub record MemoryPostValue : Type 0 where
  pub envelopes : List EnvelopeValue
  pub failures : ℕ

-- a post that keeps envelopes has this one after the others, or was out of memory for it, which is counted
abbrev pub KeepsEnvelope : MemoryPostValue → EnvelopeValue → Bool → MemoryPostValue → Type 0
KeepsEnvelope old envelope true new = new ≡ record {
  envelopes = old.envelopes ++ envelope ∷ [];
  failures =
      old.failures;
}
KeepsEnvelope old envelope false new = new ≡ record { envelopes = old.envelopes; failures = one_more old.failures }
