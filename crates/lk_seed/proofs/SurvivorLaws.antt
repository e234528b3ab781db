-- What is found in a folder of the lost cluster.
use Rattle.std.proofs.Common.{◌≡◌, ◌∙◌, ◌++◌, ℕ, List, Option, Some, None, inl, inr, refl, subst, sym}
use Rattle.std.specs.Prelude.{IfSome}
use Rattle.lk_disk.specs.Disk.{Disk, contents}
use Rattle.lk_disk.specs.declared.device.Side.{Side}
use Rattle.lk_disk.specs.declared.device.Side.TheVariants.{A, B}
use Rattle.lk_store_format.specs.Entries.{spelling, IsStored}
use Rattle.lk_store_format.specs.Values.{BaseValue, HeaderValue}
use Rattle.lk_store_format.specs.declared.stored.Stored.TheVariants.{Base, Plain}
use Rattle.lk_types.specs.declared.entry.Entry.{Entry}
use Rattle.lk_log.specs.Images.{Image, seen}
use Rattle.lk_inspect.specs.Inspections.{Finds}
use Rattle.lk_inspect.specs.declared.inspection.Inspection.{Inspection}
use Rattle.lk_seed.specs.Fences.{all_wanted_past}
use Rattle.lk_seed.specs.Survivors.{IsFileOf, IsFoundOf, IsOfLost, Keeps, TakesOver, TellsHeader}
use Rattle.lk_seed.specs.declared.lost.LostCluster.{LostCluster}
use Rattle.lk_seed.specs.declared.wanted.Wanted.{Wanted}
use Rattle.lk_seed.proofs.LostLaws.{stays}

pub base_of : (b : BaseValue) (h : HeaderValue) (bytes rest : List ℕ) → IsStored (Base b)
    → bytes ≡ spelling (Base b) ++ rest → h ≡ b.header → TellsHeader bytes (Some h)
base_of b h bytes rest fits is same = record { base = b; rest = rest; fits = fits; is = is; of_header = sym same }

pub no_base : (e : Entry) (bytes rest : List ℕ) → IsStored (Plain e) → bytes ≡ spelling (Plain e) ++ rest
    → TellsHeader bytes None
no_base e bytes rest fits is = inr (record { entry = e; rest = rest; fits = fits; is = is })

-- a file that begins with such a header, or with none
pub told_file : (lost : LostCluster) (header : HeaderValue) (bytes file : List ℕ) → bytes ≡ file
    → TellsHeader bytes (Some header) → IsOfLost lost header → IsFileOf lost file
told_file lost header bytes file same tells is = record {
  header = Some header;
  tells = subst (λ (b : List ℕ). TellsHeader b (Some header)) same tells;
  of_lost = is;
}

pub plain_file : (lost : LostCluster) (bytes file : List ℕ) → bytes ≡ file → TellsHeader bytes None
    → IsFileOf lost file
plain_file lost bytes file same tells = record {
  header = None;
  tells = subst (λ (b : List ℕ). TellsHeader b None) same tells;
  of_lost = tt;
}

-- a file of the lost cluster stays one
all_stay : (old new : LostCluster) (header : Option HeaderValue) → Keeps old new → IfSome header (IsOfLost old)
    → IfSome header (IsOfLost new)
all_stay old new None keeps is = tt
all_stay old new (Some h) keeps is = stays old new h keeps is

file_stays : (old new : LostCluster) (bytes : List ℕ) → Keeps old new → IsFileOf old bytes → IsFileOf new bytes
file_stays old new bytes keeps is = record {
  header = is.header;
  tells = is.tells;
  of_lost = all_stay old new is.header keeps is.of_lost;
}

-- both files are of the lost cluster
pub both_files : (lost_mid lost_new : LostCluster) (old mid : Side → Disk) → IsFileOf lost_mid (contents (old A))
    → Keeps lost_mid lost_new → ((s : Side) → mid s ≡ old s) → IsFileOf lost_new (contents (mid B))
    → (s : Side) → IsFileOf lost_new (contents (old s))
both_files lost_mid lost_new old mid a keeps same b A = file_stays lost_mid lost_new (contents (old A)) keeps a
both_files lost_mid lost_new old mid a keeps same b B =
    subst (λ (d : Disk). IsFileOf lost_new (contents d)) (same B) b

pub found_of : (lost : LostCluster) (old mid : Side → Disk) (i : Inspection) → Finds (seen old) (Some i)
    → ((s : Side) → mid s ≡ old s) → ((s : Side) → IsFileOf lost (contents (mid s))) → IsFoundOf lost (seen old) i
found_of lost old mid i finds same files = record {
  finds = finds;
  of_lost = λ s. subst (λ (d : Disk). IsFileOf lost (contents d)) (same s) (files s);
}

pub takes_over : (past : ℕ) (image : Image) (lost : LostCluster) (i : Inspection) (old new : List Wanted)
    → IsFoundOf lost image i → new ≡ old ++ all_wanted_past past i.names.items → TakesOver past image lost old new
takes_over past image lost i old new found adds = record { inspection = i; found = found; adds = adds }
