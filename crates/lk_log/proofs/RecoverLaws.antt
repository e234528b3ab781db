-- What holds of disks that were read before, and of what a call answered.
use Rattle.std.proofs.Common.{◌≡◌, ◌↔◌, IsTrue, inl, inr, ℕ, Bool, true, false, List, length, Result, Ok, Err, IfOk}
use Rattle.std.proofs.Common.{sym, ap, subst, ◌∙◌}
use Rattle.lk_disk.specs.Disk.{Disk, other, contents}
use Rattle.lk_disk.specs.declared.device.Side.{Side}
use Rattle.lk_store_format.specs.Files.{IsFile}
use Rattle.lk_store_format.specs.Bases.{generation}
use Rattle.lk_store_format.specs.Values.{HeaderValue, StandingValue}
use Rattle.lk_store_format.specs.declared.stored.Stored.{Stored}
use Rattle.lk_log.specs.Images.{IsLive, IsEmpty, seen}
use Rattle.lk_log.specs.Stores.{FoundLive, IsOlder, OpensOn, Found}
use Rattle.lk_log.specs.declared.verdict.Verdict.TheVariants.{Empty, Live}
use Rattle.lk_log.proofs.ImageLaws.{means_same}

pub ok_then : {T E : Type 0} (r : Result T E) (P Q : T → Type 0) → ((x : T) → P x → Q x) → IfOk r P → IfOk r Q
ok_then (Ok x) P Q then_so h = then_so x h
ok_then (Err e) P Q then_so h = tt

-- what is true and what holds, and what is false and what does not
pub both : {b : Bool} {P : Type 0} → b ≡ true → P → IsTrue b ↔ P
both is p = (λ t. p, λ q. is)

pub neither : {b : Bool} {P : Type 0} → (P → ⊥) → b ≡ false → IsTrue b ↔ P
neither not is = (λ t. absurd (cc (t, is)), λ q. absurd (not q))

-- the disks are as they were
module _ (old mid : Side → Disk) (same : (s : Side) → mid s ≡ old s) where
  pub found_after : (live : Side) (es : List Stored) (end size : ℕ) → FoundLive old live es end size
      → FoundLive mid live es end size
  found_after live es end size f = record {
    file = subst (λ (d : Disk). IsFile (contents d) es false) (sym (same live)) f.file;
    base_first = f.base_first;
    older = subst (λ (d : Disk). IsOlder d (generation es)) (sym (same (other live))) f.older;
    ends = f.ends;
    sized = f.sized ∙ ap (λ (d : Disk). length (contents d)) (sym (same live));
  }

  pub empty_after : IsEmpty (seen old) → IsEmpty (seen mid)
  empty_after e = (e.0, means_same (seen old) (seen mid) Empty e.0 (λ s. ap contents (sym (same s))) e.1)

  live_before : (es : List Stored) → IsLive (seen mid) es → IsLive (seen old) es
  live_before es l = record {
    side = l.side;
    entries = l.entries;
    means = means_same (seen mid) (seen old) (Live l.side) l.entries (λ s. ap contents (same s)) l.means;
    are = l.are;
  }

  empty_before : IsEmpty (seen mid) → IsEmpty (seen old)
  empty_before e = (e.0, means_same (seen mid) (seen old) Empty e.0 (λ s. ap contents (same s)) e.1)

  found_before : (h : HeaderValue) (zero : List ℕ) (es : List Stored) → Found (seen mid) h zero es
      → Found (seen old) h zero es
  found_before h zero es (inl l) = inl (live_before es l)
  found_before h zero es (inr e) = inr (empty_before e.0, e.1)

  pub opens_before : (h : HeaderValue) (zero : List ℕ) (d o : Disk) (n f : ℕ) (s : StandingValue)
      → OpensOn (seen mid) h zero d o n f s → OpensOn (seen old) h zero d o n f s
  opens_before h zero d o n told s f = record {
    entries = f.entries;
    found = found_before h zero f.entries f.found;
    holds = f.holds;
    header = f.header;
    generation_is = f.generation_is;
    format_is = f.format_is;
    stands = f.stands;
  }
