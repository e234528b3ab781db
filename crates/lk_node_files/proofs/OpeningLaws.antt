-- What is opened where a file is damaged.
use Rattle.std.proofs.Common.{◌≡◌, ◌∙◌, Bool, true, Option, Some, None, is_some, Result, Ok, Err, IfOk}
use Rattle.std.proofs.Common.{refl, sym, ap, subst}
use Rattle.std.proofs.lemmas.Bool.{true≢false, false≢true}
use Rattle.lk_disk.specs.Disk.{Disk}
use Rattle.lk_disk.specs.declared.device.Side.{Side}
use Rattle.lk_disk.specs.declared.device.Side.TheVariants.{A, B}
use Rattle.lk_summed_disk.specs.Hiding.{without}
use Rattle.lk_summed_disk.specs.Opened.{IsSoundOn}
use Rattle.lk_summed_disk.specs.Options.{OpensAs, is_on, decodes}
use Rattle.lk_summed_disk.specs.declared.optional_sums.OptionalSums.{OptionalSums}
use Rattle.lk_summed_disk.specs.declared.optional_sums.OptionalSums.TheVariants.{Without, With}
use Rattle.lk_node_files.specs.Older.{IsOlder, IsReplaced, OpensFiles}

pub alike : (d e : Side → Disk) → ((s : Side) → d s ≡ e s) → d ≡ e
alike d e same = λ i s. same s i

-- ---- what a call returns

pub one_ok : {T E : Type 0} {P Q : T → Type 0} (r : Result T E) → ((x : T) → P x → Q x) → IfOk r P → IfOk r Q
one_ok (Ok x) f p = f x p
one_ok (Err e) f p = tt

pub both_ok : {T E : Type 0} {P Q R : T → Type 0} (r : Result T E) → ((x : T) → P x → Q x → R x) → IfOk r P
    → IfOk r Q → IfOk r R
both_ok (Ok x) f p q = f x p q
both_ok (Err e) f p q = tt

pub same_error : {T E : Type 0} (e f : E) → ◌≡◌ {A = Result T E} (Err e) (Err f) → e ≡ f
same_error e f is = cc is

pub some_hidden : (hidden : Option Side) (s : Side) → hidden ≡ Some s → hidden ≡ None → ⊥
some_hidden hidden s some none = true≢false (ap is_some (sym some ∙ none))

-- ---- a file is not hidden

-- the file that is damaged is not older: so neither is needless
pub not_older_needed : (disks : Side → Disk) (side : Side) → (IsSoundOn disks side → ⊥) → (IsOlder disks side → ⊥)
    → (s : Side) → IsReplaced disks s → ⊥
not_older_needed disks A damaged newer A replaced = newer replaced.0
not_older_needed disks A damaged newer B replaced = damaged replaced.1
not_older_needed disks B damaged newer A replaced = damaged replaced.1
not_older_needed disks B damaged newer B replaced = newer replaced.0

-- ---- a file is hidden

sound_without_a : (disks : Side → Disk) → IsSoundOn disks B → (s : Side) → IsSoundOn (without A disks) s
sound_without_a disks sound A = tt
sound_without_a disks sound B = sound

sound_without_b : (disks : Side → Disk) → IsSoundOn disks A → (s : Side) → IsSoundOn (without B disks) s
sound_without_b disks sound A = sound
sound_without_b disks sound B = tt

-- the other one is damaged too
pub both_needed : (disks : Side → Disk) (side : Side) → (IsSoundOn disks side → ⊥)
    → (((s : Side) → IsSoundOn (without side disks) s) → ⊥) → (s : Side) → IsReplaced disks s → ⊥
both_needed disks A damaged wrong A replaced = wrong (sound_without_a disks replaced.1)
both_needed disks A damaged wrong B replaced = damaged replaced.1
both_needed disks B damaged wrong A replaced = damaged replaced.1
both_needed disks B damaged wrong B replaced = wrong (sound_without_b disks replaced.1)

on_decodes : {D : Type 0} (o : OptionalSums D) → is_on o ≡ true → decodes o ≡ true
on_decodes (Without d) on = absurd (false≢true on)
on_decodes (With v) on = refl

-- the other one is sound, as it was opened with its sums
pub opens_without : {D : Type 0} (disk : D → Side → Disk) (asked : Bool) (disks : Side → Disk) (side : Side)
    (o : OptionalSums D) → (IsSoundOn disks side → ⊥) → IsOlder disks side
    → OpensAs disk asked (without side disks) o → OpensFiles disk asked disks o (Some side)
opens_without disk asked disks A o damaged older opens =
    (opens, (older, opens.sound (on_decodes o (opens.by_file B older.1)) B), damaged)
opens_without disk asked disks B o damaged older opens =
    (opens, (older, opens.sound (on_decodes o (opens.by_file A older.1)) A), damaged)

-- the same, as a device is opened: `e` is what it shows after the files were compared, and `h` with one of them hidden
pub opens_hiding : {D : Type 0} (disk : D → Side → Disk) (asked : Bool) (d e h : Side → Disk) (side : Side)
    (o : OptionalSums D) (hidden : Option Side) → ((s : Side) → e s ≡ d s) → ((s : Side) → h s ≡ without side e s)
    → (IsSoundOn d side → ⊥) → IsOlder d side → OpensAs disk asked h o → hidden ≡ Some side
    → OpensFiles disk asked d o hidden
opens_hiding disk asked d e h side o hidden unchanged hides damaged older opens is =
    let same : h ≡ without side d = alike h (without side e) hides ∙ ap (without side) (alike e d unchanged) in
    subst (λ (x : Option Side). OpensFiles disk asked d o x) (sym is)
    (opens_without disk asked d side o damaged older
    (subst (λ (x : Side → Disk). OpensAs disk asked x o) same opens))

pub hiding_needed : (d e h : Side → Disk) (side : Side) → ((s : Side) → e s ≡ d s)
    → ((s : Side) → h s ≡ without side e s) → (IsSoundOn d side → ⊥) → (((s : Side) → IsSoundOn h s) → ⊥)
    → (s : Side) → IsReplaced d s → ⊥
hiding_needed d e h side unchanged hides damaged wrong =
    let same : h ≡ without side d = alike h (without side e) hides ∙ ap (without side) (alike e d unchanged) in
    both_needed d side damaged (subst (λ (x : Side → Disk). ((s : Side) → IsSoundOn x s) → ⊥) same wrong)
