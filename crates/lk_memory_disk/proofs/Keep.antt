-- What a stop keeps of a file in memory.
use Rattle.std.proofs.Common.{◌≡◌, ℕ, ◌+◌, ◌-◌, ◌≤◌, min, max, List, ◌++◌, length, take, drop, arith, sym, ◌∙◌, ap}
use Rattle.std.proofs.Common.{append_assoc, length-drop, Option, Some, None}
use Rattle.std.proofs.Math.Seq.{take-add, take-append-add, take-length}
use Rattle.std.proofs.lemmas.List.{take_min, take_all, drop_all, append-nil, take-append-drop, length-take-le}
use Rattle.lk_disk.specs.Disk.{Disk, MayLeave, AppendsSome, CutShort, contents, appended, after_stop}
use Rattle.lk_disk.specs.Files.{left_of}
use Rattle.lk_disk.proofs.Devices.{cut_length}
use Rattle.lk_memory_disk.specs.Memory.{cut_within}
use Rattle.lk_memory_disk.specs.CountedFile.{file_showing}

keep_front : (n s : ℕ) (b : List ℕ) → take (s + min n (length b - s)) b ≡ take s b ++ take n (drop s b)
keep_front n s b =
    take-add s (min n (length b - s)) b
    ∙ ap (λ (l : List ℕ). take s b ++ l)
    (ap (λ (k : ℕ). take (min n k) (drop s b)) (sym (length-drop s b)) ∙ take_min n (drop s b))

-- the file that is cut there, all of it synced
pub kept_front : (n s m : ℕ) (b l : List ℕ) → l ≡ take (s + min n (length b - s)) b → m ≡ length l
    → record { synced = take m l; unsynced = drop m l } ≡ after_stop n (record {
      synced = take s b;
      unsynced =
          drop s b;
    })
kept_front n s m b l cut size =
    (λ i. record {
      synced = (take_all m l (omega arith) ∙ cut ∙ keep_front n s b) i;
      unsynced = drop_all m l (omega arith) i;
    })

-- what a stop keeps is what a stop may leave
pub keeps_image : (n : ℕ) (d : Disk) → MayLeave d (contents (after_stop n d))
keeps_image n d = (n, append-nil (d.synced ++ take n d.unsynced))

-- also of a file that was truncated, whose synced bytes after that place need not be left
pub keeps_image_of : (n : ℕ) (shown : Option ℕ) (d : Disk)
    → MayLeave (left_of (file_showing shown d)) (contents (after_stop n d))
keeps_image_of n None d = keeps_image n d
keeps_image_of n (Some k) d = (
  length (drop k d.synced) + n,
  append-nil (d.synced ++ take n d.unsynced)
      ∙ ap (λ (l : List ℕ). l ++ take n d.unsynced) (sym (take-append-drop k d.synced))
      ∙ append_assoc (take k d.synced) (drop k d.synced) (take n d.unsynced)
      ∙ ap (λ (l : List ℕ). take k d.synced ++ l) (sym (take-append-add (drop k d.synced) d.unsynced n)),
)

-- a stop inside a cut leaves what a failed cut may leave
pub cut_short : (n bytes : ℕ) (d : Disk) → n ≤ length (contents d) → CutShort n d (cut_within n bytes d)
cut_short n bytes d le =
    let k : ℕ = min (max bytes n) (length (contents d)) in
    let reaches : k ≤ length (contents d) = omega arith in
    record {
      front = append-nil (take k (contents d)) ∙ ap (λ j. take j (contents d)) (cut_length k d reaches);
      kept = omega (arith, length-take-le k (contents d) reaches, le);
    }

-- a whole piece is a beginning of itself
pub appends_all : (piece : List ℕ) (old new : Disk) → new ≡ appended old piece → AppendsSome piece old new
appends_all piece old new e = (length piece, e ∙ ap (appended old) (sym (take-length piece)))
