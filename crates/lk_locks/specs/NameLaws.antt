-- Laws: a name that was written is read back.
use Rattle.std.proofs.Common.{◌≡◌, ℕ, ◌<◌, ◌≤◌, Bool, true, false, leb, ◌&&◌, List, [], ◌∷◌, length, refl, arith}
use Rattle.std.proofs.lemmas.Bool.{leb-true}
use Rattle.lk_codec.specs.Parser.{read_byte, sized}
use Rattle.lk_codec.proofs.Spellings.{Reads, byte_reads, fitting, tested_reads, sized_reads}
use Rattle.lk_locks.specs.Names.{IsName, is_name}
use Rattle.lk_locks.specs.Bodies.{lock_name, read_name}

-- a name is short
pub name_length : (name : List ℕ) → IsName name → (1 ≤ length name) × (length name ≤ 32)
name_length name fits = by (leb 1 (length name)) (leb (length name) 32) _ refl refl fits
  where
    by : (a b c : Bool) → leb 1 (length name) ≡ a → leb (length name) 32 ≡ b → (a && b && c) ≡ true
        → (1 ≤ length name) × (length name ≤ 32)
    by true true c low high e = (leb-true _ _ low, leb-true _ _ high)
    by true false c low high e = absurd cc
    by false b c low high e = absurd cc

pub name_reads : Reads read_name lock_name IsName
unfolding read_name
name_reads = fitting read_name lock_name (λ (name : List ℕ). (length name < 256) × (is_name name ≡ true)) IsName
    (λ name f. f.1) (λ name f. (omega (arith, name_length name f), f))
    (tested_reads is_name (sized read_byte) lock_name (λ (name : List ℕ). length name < 256)
    (sized_reads read_byte (λ (n : ℕ). n ∷ []) (λ (n : ℕ). n < 256) byte_reads))
