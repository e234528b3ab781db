-- What can be read of a file with sums.
use Rattle.std.proofs.Common.{◌≡◌, ◌∙◌, ◌↔◌, ◌<◌, ℕ, Bool, true, false, List, [], ◌++◌, length, take, drop}
use Rattle.std.proofs.Common.{sym, ap, arith}
use Rattle.std.specs.Str.{bytes_eq}
use Rattle.std.proofs.lemmas.Bool.{false≢true}
use Rattle.std.proofs.lemmas.List.{take_at, take-append-drop, append-nil}
use Rattle.std.proofs.lemmas.Slice.Eq.{bytes_eq-Decides}
use Rattle.lk_disk.specs.declared.device.Side.{Side}
use Rattle.lk_summed_disk.specs.Frames.{magic, is_frame, HasSums}
use Rattle.lk_summed_disk.specs.Readers.{Reader, fresh, text}
use Rattle.lk_summed_disk.proofs.PlaceLaws.{length-magic}
use Rattle.lk_summed_disk.proofs.ReaderLaws.{text-append, no_frames}
use Rattle.lk_summed_disk.proofs.ParseLaws.{At, sums_long}

-- ---- a file has sums if it begins with the magic

sums_of_magic : (s : Side) (bytes : List ℕ) → take 8 bytes ≡ magic s → HasSums s bytes
sums_of_magic s bytes begins =
    (drop 8 bytes, sym (take-append-drop 8 bytes) ∙ ap (λ (l : List ℕ). l ++ drop 8 bytes) begins)

magic_of_sums : (s : Side) (bytes : List ℕ) → HasSums s bytes → take 8 bytes ≡ magic s
magic_of_sums s bytes has = ap (take 8) has.1 ∙ take_at (magic s) has.0 8 (length-magic s)

-- what a comparison of the first eight bytes says
same_magic : (s : Side) (bytes known : List ℕ) (r : Bool) → known ≡ magic s → r ≡ bytes_eq (take 8 bytes) known
    → (r ≡ true ↔ take 8 bytes ≡ magic s)
same_magic s bytes known r is test = (
  λ on. (bytes_eq-Decides (take 8 bytes) known).0 (sym test ∙ on) ∙ is,
  λ same. test ∙ (bytes_eq-Decides (take 8 bytes) known).1 (same ∙ sym is),
)

pub says_sums : (s : Side) (bytes known : List ℕ) (r : Bool) → known ≡ magic s
    → r ≡ bytes_eq (take 8 bytes) known → (r ≡ true ↔ HasSums s bytes)
says_sums s bytes known r is test =
    let both = same_magic s bytes known r is test in
    (λ on. sums_of_magic s bytes (both.0 on), λ has. both.1 (magic_of_sums s bytes has))

pub says_magic : (s : Side) (bytes known : List ℕ) (r : Bool) → known ≡ magic s
    → r ≡ bytes_eq (take 8 bytes) known → r ≡ true → take 8 bytes ≡ magic s
says_magic s bytes known r is test on = (same_magic s bytes known r is test).0 on

pub too_short : (s : Side) (bytes : List ℕ) → length bytes < 8 → (false ≡ true ↔ HasSums s bytes)
too_short s bytes short =
    (λ on. absurd (false≢true on), λ has. absurd (omega (arith, short, sums_long s bytes has)))

-- ---- where the text ends

-- after whole frames, bytes that no frame begins add no text
pub at_wrong : (s : Side) (bytes so_far chain rest : List ℕ) → At s bytes so_far chain rest
    → ((n : ℕ) → is_frame chain (take n rest) ≡ false) → so_far ≡ text (fresh s) bytes
at_wrong s bytes so_far chain rest at none =
    sym (ap (text (fresh s)) at.is ∙ text-append (fresh s) at.front rest
    ∙ ap (λ (r : Reader). text (fresh s) at.front ++ text r rest) at.reads
    ∙ ap (λ (l : List ℕ). text (fresh s) at.front ++ l) (no_frames chain [] rest none).0
    ∙ append-nil (text (fresh s) at.front) ∙ at.text_is)
