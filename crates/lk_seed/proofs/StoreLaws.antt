-- A store that was copied, and inspected.
use Rattle.std.proofs.Common.{◌≡◌, ◌∙◌, ◌++◌, List, [], ℕ, Some, length, ap, subst, sym, append_assoc}
use Rattle.std.proofs.lemmas.List.{nil_from_length}
use Rattle.lk_disk.specs.Disk.{Disk, appended, contents, fully_synced}
use Rattle.lk_disk.specs.declared.device.Side.{Side}
use Rattle.lk_disk.specs.declared.device.Side.TheVariants.{A, B}
use Rattle.lk_memory_disk.specs.Memory.{Memory, disk_of}
use Rattle.lk_store_format.specs.Values.{HeaderValue}
use Rattle.lk_log.specs.Images.{seen}
use Rattle.lk_inspect.specs.Inspections.{Finds}
use Rattle.lk_inspect.specs.declared.inspection.Inspection.{Inspection}
use Rattle.lk_seed.specs.Fences.{HasFences}
use Rattle.lk_seed.specs.Seedings.{AreCopied, AreLeftBy, HasSynced, HasWanted, IsSeeded}
use Rattle.lk_seed.specs.declared.wanted.Wanted.{Wanted}

-- an empty disk has a piece, once that was appended and synced
pub is_synced : (old mid new : Disk) (piece : List ℕ) → length (contents old) ≡ 0 → mid ≡ appended old piece
    → new ≡ fully_synced mid → HasSynced new piece
is_synced old mid new piece none put synced =
    let all : old.synced ++ (old.unsynced ++ piece) ≡ piece =
    sym (append_assoc old.synced old.unsynced piece)
    ∙ ap (λ (l : List ℕ). l ++ piece) (nil_from_length (contents old) none) in
    synced ∙ ap fully_synced put
    ∙ ap (λ (l : List ℕ). let d : Disk = record { synced = l; unsynced = [] } in d) all

-- one disk was copied after the other
pub are_copied : (old mid : Memory) (first last : Side → Disk) → HasSynced (first A) (contents (disk_of old A))
    → last A ≡ first A → disk_of mid B ≡ disk_of old B → HasSynced (last B) (contents (disk_of mid B))
    → AreCopied old last
are_copied old mid first last a still same b A = still ∙ a
are_copied old mid first last a still same b B =
    subst (λ (d : Disk). HasSynced (last B) (contents d)) same b

pub has_wanted : (wanted : List Wanted) (old new : Side → Disk) (i : Inspection) → ((s : Side) → new s ≡ old s)
    → Finds (seen old) (Some i) → HasFences wanted i.names.items → HasWanted wanted new
has_wanted wanted old new i same finds has = record {
  image = seen old;
  are = λ s. ap contents (sym (same s));
  inspection = i;
  finds = finds;
  has = has;
}

pub is_seeded : (header : HeaderValue) (wanted : List Wanted) (from : Memory) (mid new : Side → Disk)
    → AreLeftBy header wanted from → AreCopied from mid → ((s : Side) → new s ≡ mid s) → HasWanted wanted new
    → IsSeeded header wanted new
is_seeded header wanted from mid new left copied same has = record {
  from = from;
  left = left;
  copied = λ s. same s ∙ copied s;
  fenced = has;
}
