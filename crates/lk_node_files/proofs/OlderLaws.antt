-- Of which generation a file is.
use Rattle.std.proofs.Common.{◌≡◌, ◌∙◌, ℕ, ◌<◌, ◌≤◌, false, List, [], ◌∷◌, ◌++◌, sym, ap, subst, arith}
use Rattle.std.proofs.Common.{append_assoc}
use Rattle.std.proofs.lemmas.Bool.{true≢false}
use Rattle.lk_disk.specs.Disk.{Disk, other}
use Rattle.lk_disk.specs.declared.device.Side.{Side}
use Rattle.lk_store_format.specs.Bases.{has_base, generation}
use Rattle.lk_store_format.specs.Entries.{spelling, spelling_of_all, IsStored}
use Rattle.lk_store_format.specs.Files.{AreWholeEntries}
use Rattle.lk_store_format.specs.declared.stored.Stored.{Stored}
use Rattle.lk_store_format.specs.declared.stored.Stored.TheVariants.{Base}
use Rattle.lk_store_format.proofs.Spelling.{same_front}
use Rattle.lk_node_files.specs.Older.{BeginsWith, HasGeneration, IsOlder}

-- whole entries that begin with a Base have its generation
pub generation_is : (bytes : List ℕ) (es : List Stored) (g : ℕ) → AreWholeEntries bytes es → BeginsWith g bytes
    → generation es ≡ g
generation_is bytes [] g whole begins =
    absurd (whole.ends (Base begins.base) begins.rest begins.fits (sym whole.is ∙ begins.is))
generation_is bytes (e ∷ es) g whole begins =
    let same = same_front e (Base begins.base) (spelling_of_all es ++ whole.rest) begins.rest whole.fit.0 begins.fits
    (sym (append_assoc (spelling e) (spelling_of_all es) whole.rest) ∙ sym whole.is ∙ begins.is) in
    ap (λ (x : Stored). generation (x ∷ es)) same.0 ∙ begins.generation_is

-- bytes begin with one entry only
pub not_plain : (bytes : List ℕ) (x : Stored) (rest : List ℕ) → has_base (x ∷ []) ≡ false → IsStored x
    → bytes ≡ spelling x ++ rest → (g : ℕ) → BeginsWith g bytes → ⊥
not_plain bytes x rest plain fits is g begins =
    let same = same_front x (Base begins.base) rest begins.rest fits begins.fits (sym is ∙ begins.is) in
    true≢false (sym (ap (λ (y : Stored). has_base (y ∷ [])) same.0) ∙ plain)

pub one_generation : (g h : ℕ) (bytes : List ℕ) → BeginsWith g bytes → BeginsWith h bytes → g ≡ h
one_generation g h bytes a b =
    let same = same_front (Base a.base) (Base b.base) a.rest b.rest a.fits b.fits (sym a.is ∙ b.is) in
    sym a.generation_is ∙ ap (λ (x : Stored). generation (x ∷ [])) same.0 ∙ b.generation_is

pub alike : (d e : Side → Disk) → ((s : Side) → d s ≡ e s) → d ≡ e
alike d e same = λ i s. same s i

-- ---- what two readings of a device say, of which neither changes it: `d` is before the first, `e` after it

pub moved : (d e : Side → Disk) (s t : Side) (g : ℕ) → ((u : Side) → e u ≡ d u) → t ≡ other s
    → HasGeneration e t g → HasGeneration d (other s) g
moved d e s t g unchanged is has =
    subst (λ (u : Side). HasGeneration d u g) is
    (subst (λ (x : Side → Disk). HasGeneration x t g) (alike e d unchanged) has)

pub unknown : (d e : Side → Disk) (s t : Side) → ((u : Side) → e u ≡ d u) → t ≡ other s
    → ((g : ℕ) → HasGeneration e t g → ⊥) → (g : ℕ) → HasGeneration d (other s) g → ⊥
unknown d e s t unchanged is none g has =
    none g (subst (λ (x : Side → Disk). HasGeneration x t g) (sym (alike e d unchanged))
    (subst (λ (u : Side). HasGeneration d u g) (sym is) has))

pub is_older : (d e : Side → Disk) (s t : Side) (own newer : ℕ) → ((u : Side) → e u ≡ d u) → t ≡ other s
    → HasGeneration d s own → HasGeneration e t newer → own < newer → IsOlder d s
is_older d e s t own newer unchanged is has_own has_newer less =
    let there = moved d e s t newer unchanged is has_newer in (
      has_own.0,
      there.0,
      record { own = own; newer = newer; has_own = has_own.1; has_newer = there.1; less = less },
    )

pub not_older : (d e : Side → Disk) (s t : Side) (own newer : ℕ) → ((u : Side) → e u ≡ d u) → t ≡ other s
    → HasGeneration d s own → HasGeneration e t newer → newer ≤ own → IsOlder d s → ⊥
not_older d e s t own newer unchanged is has_own has_newer more older =
    let there = moved d e s t newer unchanged is has_newer in
    absurd (omega (
      arith,
      more,
      older.2.less,
      one_generation own older.2.own _ has_own.1 older.2.has_own,
      one_generation newer older.2.newer _ there.1 older.2.has_newer,
    ))

pub not_known : (d e : Side → Disk) (s t : Side) → ((u : Side) → e u ≡ d u) → t ≡ other s
    → ((g : ℕ) → HasGeneration e t g → ⊥) → IsOlder d s → ⊥
not_known d e s t unchanged is none older =
    unknown d e s t unchanged is none older.2.newer (older.1, older.2.has_newer)
