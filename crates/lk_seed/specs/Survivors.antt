-- What is taken over from the folders of the lost cluster.
use Rattle.std.specs.Prelude.{◌≡◌, ◌≢◌, ◌⊎◌, ℕ, List, ◌++◌, Option, Some, None, IfSome}
use Rattle.lk_disk.specs.declared.device.Side.{Side}
use Rattle.lk_store_format.specs.Entries.{spelling, IsStored}
use Rattle.lk_store_format.specs.Files.{NoEntryNext}
use Rattle.lk_store_format.specs.Values.{BaseValue, HeaderValue}
use Rattle.lk_store_format.specs.declared.stored.Stored.{Stored}
use Rattle.lk_store_format.specs.declared.stored.Stored.TheVariants.{Base, Plain}
use Rattle.lk_types.specs.declared.entry.Entry.{Entry}
use Rattle.lk_log.specs.Images.{Image}
use Rattle.lk_inspect.specs.Inspections.{Finds}
use Rattle.lk_inspect.specs.declared.inspection.Inspection.{Inspection}
use Rattle.lk_seed.specs.Fences.{all_wanted_past}
use Rattle.lk_seed.specs.declared.lost.LostCluster.{LostCluster}
use Rattle.lk_seed.specs.declared.wanted.Wanted.{Wanted}

-- ---- the cluster that was lost

-- the two are of the same cluster: it has the same number, and began with the same members
pub record IsSameCluster (one other : HeaderValue) : Type 0 where
  pub cluster : other.cluster ≡ one.cluster
  pub alpha : other.alpha ≡ one.alpha
  pub members : other.members ≡ one.members

-- the first one's node in the other one's cluster
abbrev pub moved : HeaderValue → HeaderValue → HeaderValue
moved one other = record {
  node = one.node;
  cluster = other.cluster;
  alpha = other.alpha;
  members = other.members;
}

-- it is of the cluster of the first header, and there is one
abbrev pub IsOfFirst : Option HeaderValue → HeaderValue → Type 0
IsOfFirst None header = ⊥
IsOfFirst (Some first) header = IsSameCluster first header

-- it is of that cluster, or the first itself
abbrev pub MayBeOf : Option HeaderValue → HeaderValue → Type 0
MayBeOf None header = Unit {0}
MayBeOf (Some first) header = IsSameCluster first header

-- the first of the two
abbrev pub first_of : Option HeaderValue → HeaderValue → Option HeaderValue
first_of None next = Some next
first_of (Some first) next = Some first

-- it is of the lost cluster, and not of the new one
pub record IsOfLost (lost : LostCluster) (header : HeaderValue) : Type 0 where
  pub others : header.cluster ≢ lost.new_cluster
  pub same : IsOfFirst lost.first header

-- the first header stays the first
abbrev pub KeepsFirst : Option HeaderValue → Option HeaderValue → Type 0
KeepsFirst None new = Unit {0}
KeepsFirst (Some first) new = new ≡ Some first

-- the new cluster and the first header stay the same
abbrev pub Keeps : LostCluster → LostCluster → Type 0
Keeps old new = (new.new_cluster ≡ old.new_cluster) × KeepsFirst old.first new.first

-- ---- what its files say

-- the file begins with a Base of this header
pub record BeginsWith (bytes : List ℕ) (header : HeaderValue) : Type 0 where
  pub base : BaseValue
  pub rest : List ℕ
  pub fits : IsStored (Base base)
  pub is : bytes ≡ spelling (Base base) ++ rest
  pub of_header : base.header ≡ header

-- the file begins with an entry that is no Base
pub record BeginsPlain (bytes : List ℕ) : Type 0 where
  pub entry : Entry
  pub rest : List ℕ
  pub fits : IsStored (Plain entry)
  pub is : bytes ≡ spelling (Plain entry) ++ rest

-- the header of the Base with which a file begins, or that it begins with none
abbrev pub TellsHeader : List ℕ → Option HeaderValue → Type 0
TellsHeader bytes None = NoEntryNext bytes ⊎ BeginsPlain bytes
TellsHeader bytes (Some header) = BeginsWith bytes header

-- if the file begins with a Base, its header is of the lost cluster
pub record IsFileOf (lost : LostCluster) (bytes : List ℕ) : Type 0 where
  pub header : Option HeaderValue
  pub tells : TellsHeader bytes header
  pub of_lost : IfSome header (IsOfLost lost)

-- this was found in a store, and both files are of the lost cluster
pub record IsFoundOf (lost : LostCluster) (image : Image) (inspection : Inspection) : Type 0 where
  pub finds : Finds image (Some inspection)
  pub of_lost : (s : Side) → IsFileOf lost (image s)

-- of each name of a store of the lost cluster, its last fence and so many more were added to what is wanted
pub record TakesOver (past : ℕ) (image : Image) (lost : LostCluster) (old new : List Wanted) : Type 0 where
  pub inspection : Inspection
  pub found : IsFoundOf lost image inspection
  pub adds : new ≡ old ++ all_wanted_past past inspection.names.items
