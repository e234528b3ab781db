-- Which file is outdated, and what a cut of it does.
use Rattle.std.proofs.Common.{◌≡◌, ◌∙◌, ◌⊎◌, inl, inr, ℕ, ◌<◌, ◌≤◌, List, sym, ap, subst}
use Rattle.std.proofs.Common.{arith, Result, Ok, Err, OnErr}
use Rattle.std.proofs.lemmas.List.{append-nil}
use Rattle.lk_disk.specs.Disk.{Disk, contents, fully_synced, other}
use Rattle.lk_disk.specs.declared.device.Side.{Side}
use Rattle.lk_disk.specs.declared.device.Side.TheVariants.{A, B}
use Rattle.lk_summed_disk.specs.Hiding.{nothing}
use Rattle.lk_summed_disk.specs.Opened.{IsSoundOn}
use Rattle.lk_summed_disk.specs.Readers.{fresh, read, IsSound}
use Rattle.lk_node_files.specs.Older.{BeginsWith, HasGeneration, IsReplaced}
use Rattle.lk_node_files.specs.Outdated.{AreKept, CutsOutdated, CutsSome, IsCut, IsOutdated}
use Rattle.lk_node_files.proofs.CutLaws.{begins_zero, no_sums}
use Rattle.lk_node_files.proofs.OlderLaws.{alike, moved, one_generation, unknown}

-- ---- what readings of a device say that do not change it: `d` is before the first, `e` and `f` after it

pub is_outdated : (d e f : Side → Disk) (s t : Side) (own newer : ℕ) → ((u : Side) → e u ≡ d u)
    → ((u : Side) → f u ≡ e u) → t ≡ other s → BeginsWith own (contents (d s)) → HasGeneration e t newer → own < newer
    → IsSoundOn f t → IsOutdated d s
is_outdated d e f s t own newer first second is has_own has_newer less sound =
    let there = moved d e s t newer first is has_newer in
    let begins = begins_zero own (contents (d s)) has_own in
    record {
      no_sums = no_sums s (contents (d s)) begins.0 begins.1;
      sums = there.0;
      sound = subst (IsSoundOn d) is
          (subst (λ (x : Side → Disk). IsSoundOn x t) (alike f e second ∙ alike e d first) sound);
      below = record { own = own; newer = newer; has_own = has_own; has_newer = there.1; less = less };
    }

pub not_below : (d e : Side → Disk) (s t : Side) (own newer : ℕ) → ((u : Side) → e u ≡ d u) → t ≡ other s
    → BeginsWith own (contents (d s)) → HasGeneration e t newer → newer ≤ own → IsOutdated d s → ⊥
not_below d e s t own newer unchanged is has_own has_newer more outdated =
    let there = moved d e s t newer unchanged is has_newer in
    absurd (omega (
      arith,
      more,
      outdated.below.less,
      one_generation own outdated.below.own _ has_own outdated.below.has_own,
      one_generation newer outdated.below.newer _ there.1 outdated.below.has_newer,
    ))

pub none_newer : (d e : Side → Disk) (s t : Side) → ((u : Side) → e u ≡ d u) → t ≡ other s
    → ((g : ℕ) → HasGeneration e t g → ⊥) → IsOutdated d s → ⊥
none_newer d e s t unchanged is none outdated =
    unknown d e s t unchanged is none outdated.below.newer (outdated.sums, outdated.below.has_newer)

-- ---- a cut that fails: `d` is before the readings, `e` after them, and `f` after the calls

pub on_err : {T E P : Type 0} (r : Result T E) → P → OnErr r P
on_err (Ok x) p = tt
on_err (Err e) p = p

pub cuts_some : (d e f : Side → Disk) (s : Side) → ((u : Side) → e u ≡ d u) → IsOutdated d s
    → IsCut e f s ⊎ AreKept e f → CutsSome d f
cuts_some d e f s unchanged outdated (inl cut) =
    inl (s, outdated, subst (λ (x : Side → Disk). IsCut x f s) (alike e d unchanged) cut)
cuts_some d e f s unchanged outdated (inr kept) = inr (λ u. kept u ∙ unchanged u)

-- ---- what is opened then

sound_synced : (s : Side) (d e : Disk) → e ≡ fully_synced d → IsSound (read (fresh s) (contents d))
    → IsSound (read (fresh s) (contents e))
sound_synced s d e is =
    subst (λ (l : List ℕ). IsSound (read (fresh s) l)) (sym (ap contents is ∙ append-nil (contents d)))

sound_empty : (s : Side) (e : Disk) → e ≡ nothing → IsSound (read (fresh s) (contents e))
sound_empty s e is = subst (λ (d : Disk). IsSound (read (fresh s) (contents d))) (sym is) tt

-- a cut leaves no damage
sound_after : (d e : Side → Disk) (s : Side) → IsSoundOn d (other s) → e (other s) ≡ fully_synced (d (other s))
    → e s ≡ nothing → (t : Side) → IsSoundOn e t
sound_after d e A sound synced empty A = sound_empty A (e A) empty
sound_after d e A sound synced empty B = sound_synced B (d B) (e B) synced sound
sound_after d e B sound synced empty A = sound_synced A (d A) (e A) synced sound
sound_after d e B sound synced empty B = sound_empty B (e B) empty

pub needed_before : (d e : Side → Disk) → CutsOutdated d e → (((s : Side) → IsSoundOn e s) → ⊥)
    → ((s : Side) → IsReplaced e s → ⊥) → (s : Side) → IsReplaced d s → ⊥
needed_before d e (inl cut) damaged needed s replaced =
    damaged (sound_after d e cut.0 cut.1.sound cut.2.1 cut.3)
needed_before d e (inr kept) damaged needed s replaced =
    needed s (subst (λ (x : Side → Disk). IsReplaced x s) (sym (alike e d kept.1)) replaced)
