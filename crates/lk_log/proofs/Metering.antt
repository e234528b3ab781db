-- Which calls of a device are made.
use Rattle.std.proofs.Common.{◌≡◌, ℕ, ◌+◌, ◌<◌, ◌≤◌, Bool, true, false, Result, Ok, Err, IsErrAnd, List, [], ◌∷◌, ◌++◌}
use Rattle.std.proofs.Common.{length, refl, sym, ap, ◌∙◌, subst, inr, arith}
use Rattle.std.proofs.lemmas.Bool.Decides.{nat_tests}
use Rattle.lk_disk.specs.Disk.{Disk}
use Rattle.lk_disk.specs.Meters.{CallsSucceed, start, Breaks, Calls, is_failing, called}
use Rattle.lk_disk.specs.declared.device.Side.{Side}
use Rattle.lk_disk.specs.declared.meter.Meter.{Meter}
use Rattle.lk_disk.proofs.Devices.{passes_on, call_passes, call_breaks}
use Rattle.lk_store_format.specs.Entries.{spelling, spelling_of_all, plain}
use Rattle.lk_store_format.proofs.Spelling.{spelled_long}
use Rattle.lk_store_format.specs.declared.stored.Stored.{Stored}
use Rattle.lk_store_format.specs.declared.stored.Stored.TheVariants.{Plain}
use Rattle.lk_log.specs.Causes.{ComesBy, IsRefusedBy, IsMetered, calls_for, put_calls}
use Rattle.lk_log.specs.Images.{seen}
use Rattle.lk_log.specs.Stores.{cut_calls, OpensBy, FoundLive}
use Rattle.lk_log.proofs.ImageLaws.{found_is_live}
use Rattle.lk_types.specs.declared.entry.Entry.{Entry}
use Rattle.lk_log.specs.declared.fault.StoreFault.{StoreFault}

-- no call was made
pub none_made : (m : Meter) (k : ℕ) → k ≡ 0 → CallsSucceed m m k
none_made m k e = subst (λ (j : ℕ). CallsSucceed m m j) (sym e) start

-- one was made
pub one_made : (m n : Meter) (k : ℕ) → k ≡ 1 → (is_failing m ≡ false) × (n ≡ called m) → CallsSucceed m n k
one_made m n k e passed = subst (λ (j : ℕ). CallsSucceed m n j) (sym e) (call_passes m n passed)

-- whatever came of it
pub one_comes : {T E : Type 0} (m n : Meter) (k : ℕ) (r : Result T E) → k ≡ 1 → Calls m n r → ComesBy m n k r
one_comes m n k (Ok x) e passed = one_made m n k e passed
one_comes m n k (Err x) e broke = call_breaks m n broke

-- a call of the device has failed
pub broken : {T E : Type 0} (m n : Meter) (k : ℕ) (r : Result T E) (Why : E → Type 0) → IsErrAnd r Why
    → Breaks m n → ComesBy m n k r
broken m n k (Ok x) Why is b = absurd is
broken m n k (Err e) Why is b = b

-- it was refused so
pub refused : {T : Type 0} (m n : Meter) (k : ℕ) (r : Result T StoreFault) (f : StoreFault) → IsErrAnd r (λ e. e ≡ f)
    → IsRefusedBy m n f → IsMetered m n k r
refused m n k (Ok x) f is by = absurd is
refused m n k (Err e) f is by = subst (IsRefusedBy m n) (sym is) by

-- ---- how many

pub no_call_for : (xs : List ℕ) → length xs ≡ 0 → calls_for xs ≡ 0
no_call_for [] e = refl
no_call_for (x ∷ xs) e = absurd (omega (arith, e))

pub one_call_for : (xs : List ℕ) → (length xs ≡ 0 → ⊥) → calls_for xs ≡ 1
one_call_for [] some = absurd (some refl)
one_call_for (x ∷ xs) some = refl

long : (a b : List ℕ) → 0 < length a → calls_for (a ++ b) ≡ 1
long [] b lt = absurd (omega (arith, lt))
long (x ∷ xs) b lt = refl

-- bytes are written exactly where entries are
pub calls_for_entries : (es : List Entry) → calls_for (spelling_of_all (plain es)) ≡ calls_for es
calls_for_entries [] = refl
calls_for_entries (e ∷ es) = long (spelling (Plain e)) (spelling_of_all (plain es)) (spelled_long (Plain e))

pub no_cut : (end size : ℕ) → size ≤ end → cut_calls end size ≡ 0
no_cut end size le = grind (arith, nat_tests)

pub one_cut : (end size : ℕ) → end < size → cut_calls end size ≡ 1
one_cut end size lt = grind (arith, nat_tests)

-- ---- rows of calls

-- entries were put, without a sync
pub put_unsynced : (m n : Meter) (es : List Entry) (bytes : List ℕ) (sync : Bool) → bytes ≡ spelling_of_all (plain es)
    → sync ≡ false → CallsSucceed m n (calls_for bytes) → CallsSucceed m n (put_calls es sync)
put_unsynced m n es bytes sync spelled unasked p =
    let k : calls_for bytes ≡ put_calls es sync = ap (λ (l : List ℕ). calls_for l) spelled ∙ calls_for_entries es
    ∙ rw unasked (omega arith) in
    subst (λ (j : ℕ). CallsSucceed m n j) k p

-- and with one
pub put_synced : (l m n : Meter) (es : List Entry) (bytes : List ℕ) (sync : Bool) → bytes ≡ spelling_of_all (plain es)
    → sync ≡ true → CallsSucceed l m (calls_for bytes) → CallsSucceed m n 1 → CallsSucceed l n (put_calls es sync)
put_synced l m n es bytes sync spelled asked p q =
    let k : calls_for bytes + 1 ≡ put_calls es sync = ap (λ (l : List ℕ). calls_for l + 1) spelled
    ∙ ap (λ (j : ℕ). j + 1) (calls_for_entries es) ∙ rw asked refl in
    subst (λ (j : ℕ). CallsSucceed l n j) k (passes_on (calls_for bytes) p 1 q)

pub found_opens : (disks : Side → Disk) (live : Side) (es : List Stored) (end size : ℕ)
    → FoundLive disks live es end size → OpensBy (seen disks) (cut_calls end size + 1)
found_opens disks live es end size f =
    inr (
      live,
      es,
      found_is_live disks live es end size f,
      f.file,
      ap (λ (k : ℕ). cut_calls k size + 1) f.ends
          ∙ ap (λ (k : ℕ). cut_calls (length (spelling_of_all es)) k + 1) f.sized,
    )
