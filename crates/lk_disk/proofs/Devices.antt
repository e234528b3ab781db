-- What lemmas of other crates rest on: what a read returns is one of the images that a stop may leave, a cut leaves as
-- many bytes as it names, and calls follow calls.
use Rattle.std.proofs.Common.{◌≡◌, ◌∙◌, ℕ, ◌+◌, ◌≤◌, List, [], length, take, ◌++◌, ap, sym, subst, true, false, ◌⊎◌}
use Rattle.std.proofs.Common.{inl, inr, arith}
use Rattle.std.proofs.Math.Seq.{take-length}
use Rattle.std.proofs.lemmas.List.{append-nil, length-take-le}
use Rattle.lk_disk.specs.Disk.{Disk, MayLeave, contents, cut_to}
use Rattle.lk_disk.specs.Meters.{CallsSucceed, start, call, read, Breaks, is_failing, called}
use Rattle.lk_disk.specs.Meters.{starving, is_unread, asked}
use Rattle.lk_disk.specs.declared.meter.Meter.{Meter}

pub contents_may_be_left : (d : Disk) → MayLeave d (contents d)
contents_may_be_left d = (length d.unsynced, ap (λ l. d.synced ++ l) (sym (take-length d.unsynced)))

length-front : (k : ℕ) (l : List ℕ) → k ≤ length l → length (take k l ++ []) ≡ k
length-front k l le = ap length (append-nil (take k l)) ∙ length-take-le k l le

-- a cut leaves as many bytes as it names
pub cut_length : (n : ℕ) (d : Disk) → n ≤ length (contents d) → n ≡ length (contents (cut_to n d))
cut_length n d le = sym (length-front n (contents d) le)

-- calls that passed, after calls that passed
pub passes_on : {l m : Meter} (j : ℕ) → CallsSucceed l m j → {n : Meter} (k : ℕ) → CallsSucceed m n k
    → CallsSucceed l n (j + k)
passes_on {l} {m} j before _ start = let e : j ≡ j + 0 = omega arith in subst (λ (x : ℕ). CallsSucceed l m x) e before
passes_on {l} j before _ (call {n} {k} after passed) =
    let e : j + k + 1 ≡ j + (k + 1) = omega arith in
    subst (λ (x : ℕ). CallsSucceed l (called n) x) e (call (passes_on j before k after) passed)
passes_on j before _ (read {n} {k} after passed) = read (passes_on j before k after) passed

-- a call that failed, after calls that passed
pub breaks_on : {l m n : Meter} (j : ℕ) → CallsSucceed l m j → Breaks m n → Breaks l n
breaks_on j before b =
    record {
      count = j + b.count;
      last = b.last;
      calls_succeed = passes_on j before b.count b.calls_succeed;
      broke =
          b.broke;
    }

-- a changing call that passed
pub call_passes : (m n : Meter) → (is_failing m ≡ false) × (n ≡ called m) → CallsSucceed m n 1
call_passes m n (passed, e) = subst (λ (x : Meter). CallsSucceed m x 1) (sym e) (call start passed)

-- and one that failed
pub call_breaks : (m n : Meter) → ((is_failing m ≡ true) × (n ≡ called m)) ⊎ (n ≡ starving m) → Breaks m n
call_breaks m n (inl failed) = record { count = 0; last = m; calls_succeed = start; broke = inl failed }
call_breaks m n (inr starved) = record { count = 0; last = m; calls_succeed = start; broke = inr (inl starved) }

-- a reading call that passed
pub read_passes : (m n : Meter) → (is_unread m ≡ false) × (n ≡ asked m) → CallsSucceed m n 0
read_passes m n (passed, e) = subst (λ (x : Meter). CallsSucceed m x 0) (sym e) (read start passed)

-- and one that failed
pub read_breaks : (m n : Meter) → (is_unread m ≡ true) × (n ≡ asked m) → Breaks m n
read_breaks m n failed = record { count = 0; last = m; calls_succeed = start; broke = inr (inr failed) }
