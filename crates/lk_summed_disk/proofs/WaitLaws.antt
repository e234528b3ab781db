-- What waits, and what the device below has, call by call.
use Rattle.std.proofs.Common.{◌≡◌, ◌∙◌, ℕ, ◌+◌, ◌-◌, ◌≤◌, true, false, List, [], ◌++◌, length, take, refl}
use Rattle.std.proofs.Common.{sym, ap, subst, arith, append-nil, append_assoc, length-append, length-take, take_all}
use Rattle.std.proofs.lemmas.List.{take-append-le}
use Rattle.lk_disk.specs.Disk.{Disk, AppendsSome, CutShort, contents, appended, fully_synced, cut_to}
use Rattle.lk_disk.specs.Buffers.{front}
use Rattle.lk_disk.specs.declared.device.Side.{Side}
use Rattle.lk_disk.specs.declared.device.Side.TheVariants.{A, B}
use Rattle.lk_summed_disk.specs.GatheredValue.{GatheredValue, gathered_at}
use Rattle.lk_summed_disk.specs.Waits.{gathered, Waits}
use Rattle.lk_summed_disk.specs.declared.waiting.Waiting.{Waiting}

pub front_all : (k : ℕ) (d : Disk) → length (contents d) ≤ k → front k d ≡ d
front_all k d le =
    let both = length-append d.synced d.unsynced in
    (λ i. record {
      synced = take_all k d.synced (omega (arith, both, le)) i;
      unsynced = take_all (k - length d.synced) d.unsynced (omega (arith, both, le)) i;
    })

-- what counts of a disk that has grown is what it had
pub front_grown : (d : Disk) (piece : List ℕ) → front (length (contents d)) (appended d piece) ≡ d
front_grown d piece =
    let both = length-append d.synced d.unsynced in
    (λ i. record {
      synced = take_all (length (contents d)) d.synced (omega (arith, both)) i;
      unsynced = (take-append-le (length (contents d) - length d.synced) d.unsynced piece (omega (arith, both))
          ∙ take_all (length (contents d) - length d.synced) d.unsynced (omega (arith, both))) i;
    })

appended_none : (d : Disk) → appended d [] ≡ d
appended_none d = (λ i. record { synced = d.synced; unsynced = append-nil d.unsynced i })

some_none : (piece : List ℕ) (d : Disk) → AppendsSome piece d d
some_none piece d = (0, sym (appended_none d))

-- where nothing waits and all bytes count
pub gathered_none : (w : Waiting) (d : Disk) → w.bytes.items ≡ [] → length (contents d) ≤ w.size → gathered w d ≡ d
gathered_none w d none le =
    ap (λ (x : Disk). appended x w.bytes.items) (front_all w.size d le) ∙ ap (appended d) none ∙ appended_none d

-- where no call has failed
pub gathered_all : (w : Waiting) (d : Disk) → Waits w d → w.failed ≡ false → gathered w d ≡ appended d w.bytes.items
gathered_all w d waits alive =
    ap (λ (x : Disk). appended x w.bytes.items) (front_all w.size d (omega (arith, waits.counted alive)))

pub gathered_length : (w : Waiting) (d : Disk) → Waits w d → w.failed ≡ false
    → length (contents (gathered w d)) ≡ w.size + length w.bytes.items
gathered_length w d waits alive =
    ap (λ (x : Disk). length (contents x)) (gathered_all w d waits alive)
    ∙ (let both = length-append d.synced (d.unsynced ++ w.bytes.items) in
    let more = length-append d.unsynced w.bytes.items in
    let less = length-append d.synced d.unsynced in
    omega (arith, both, more, less, waits.counted alive))

-- nothing was added
pub appends_none : (piece : List ℕ) (d e : Disk) → e ≡ d → AppendsSome piece d e
appends_none piece d e same = (0, same ∙ sym (appended_none d))

-- a count does not matter
pub counted_at : (v : GatheredValue) (n : ℕ) (s : Side) → gathered_at (record v { failures = n }) s ≡ gathered_at v s
counted_at v n A = refl
counted_at v n B = refl

-- bytes that wait follow those of the file
pub waits_kept : (w v : Waiting) (d : Disk) (piece : List ℕ) → Waits w d → w.failed ≡ false
    → v.bytes.items ≡ w.bytes.items ++ piece → v.size ≡ w.size → v.failed ≡ w.failed → Waits v d
waits_kept w v d piece waits alive bytes size failed = record {
  counted = λ on. size ∙ waits.counted alive;
  no_more = subst (λ (x : Disk). AppendsSome v.bytes.items x d)
      (sym (front_all v.size d (omega (arith, size, waits.counted alive)))) (some_none v.bytes.items d);
}

-- a piece follows what waits
pub appended_kept : (w v : Waiting) (d : Disk) (piece : List ℕ) → v.bytes.items ≡ w.bytes.items ++ piece
    → v.size ≡ w.size → gathered v d ≡ appended (gathered w d) piece
appended_kept w v d piece bytes size =
    ap (λ (n : ℕ). appended (front n d) v.bytes.items) size ∙ ap (appended (front w.size d)) bytes
    ∙ (λ i. record {
      synced = (front w.size d).synced;
      unsynced = sym (append_assoc (front w.size d).unsynced w.bytes.items piece) i;
    })

-- nothing waits, and all bytes count
pub waits_none : (w : Waiting) (d : Disk) → length (contents d) ≤ w.size
    → (w.failed ≡ false → w.size ≡ length (contents d)) → Waits w d
waits_none w d le counted = record {
  counted = counted;
  no_more = subst (λ (x : Disk). AppendsSome w.bytes.items x d) (sym (front_all w.size d le))
      (some_none w.bytes.items d);
}

-- ---- a hand-over

-- it has failed
pub waits_failed : (w v : Waiting) (d e : Disk) → Waits w d → w.failed ≡ false → v.bytes.items ≡ w.bytes.items
    → v.size ≡ w.size → v.failed ≡ true → AppendsSome w.bytes.items d e → Waits v e
waits_failed w v d e waits alive bytes size failed some =
    let counts : front v.size e ≡ d = ap (λ (n : ℕ). front n e) (size ∙ waits.counted alive)
    ∙ ap (front (length (contents d))) some.1 ∙ front_grown d (take some.0 w.bytes.items) in
    record {
      counted = λ on. absurd (cc (on, failed));
      no_more = subst (λ (x : Disk). AppendsSome v.bytes.items x e) (sym counts)
          (subst (λ (l : List ℕ). AppendsSome l d e) (sym bytes) some);
    }

pub gathered_failed : (w v : Waiting) (d e : Disk) → Waits w d → w.failed ≡ false → v.bytes.items ≡ w.bytes.items
    → v.size ≡ w.size → AppendsSome w.bytes.items d e → gathered v e ≡ gathered w d
gathered_failed w v d e waits alive bytes size some =
    let counts : front v.size e ≡ d = ap (λ (n : ℕ). front n e) (size ∙ waits.counted alive)
    ∙ ap (front (length (contents d))) some.1 ∙ front_grown d (take some.0 w.bytes.items) in
    ap (λ (x : Disk). appended x v.bytes.items) counts ∙ ap (appended d) bytes ∙ sym (gathered_all w d waits alive)

-- it has succeeded
pub handed_length : (w : Waiting) (d e : Disk) → Waits w d → w.failed ≡ false → e ≡ appended d w.bytes.items
    → length (contents e) ≡ w.size + length w.bytes.items
handed_length w d e waits alive is =
    ap (λ (x : Disk). length (contents x)) (is ∙ sym (gathered_all w d waits alive)) ∙ gathered_length w d waits alive

-- ---- a sync and a cut, once nothing waits

pub synced_length : (d : Disk) → length (contents (fully_synced d)) ≡ length (contents d)
synced_length d = ap length (append-nil (contents d))

pub cut_length : (n : ℕ) (d : Disk) → n ≤ length (contents d) → length (contents (cut_to n d)) ≡ n
cut_length n d le =
    ap length (append-nil (take n (contents d))) ∙ omega (arith, length-take n (contents d), le)

pub short_length : (n : ℕ) (d e : Disk) → CutShort n d e → length (contents e) ≤ length (contents d)
short_length n d e short =
    omega (arith, ap length short.front, length-take (length (contents e)) (contents d))
