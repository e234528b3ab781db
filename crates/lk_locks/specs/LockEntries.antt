-- The encoding of a lock entry, by which two lock entries, or two tables, are compared.
use Rattle.std.proofs.Common.{◌≡◌, ◌⊎◌, inl, inr, ℕ, List, Option, Some, None, refl, ap}
use Rattle.std.specs.Coded.{Coded, code_by, coded×, coded⊎, coded_ℕ, coded_list, coded_option}
use Rattle.lk_locks.specs.declared.lock_entry.Holders.{Holders}
use Rattle.lk_locks.specs.declared.lock_entry.Holders.TheVariants.{Nobody, ExclusiveHold, SharedHold}
use Rattle.lk_locks.specs.declared.lock_entry.LockEntry.{LockEntry}

abbrev pub holders_code : Holders → Option (ℕ ⊎ List ℕ)
holders_code Nobody = None
holders_code (ExclusiveHold client) = Some (inl client)
holders_code (SharedHold clients) = Some (inr clients)

abbrev pub holders_decoded : Option (ℕ ⊎ List ℕ) → Holders
holders_decoded None = Nobody
holders_decoded (Some (inl client)) = ExclusiveHold client
holders_decoded (Some (inr clients)) = SharedHold clients

abbrev pub holders_again : (h : Holders) → holders_decoded (holders_code h) ≡ h
holders_again Nobody = refl
holders_again (ExclusiveHold client) = refl
holders_again (SharedHold clients) = refl

-- a lock entry is stored as its fence and who holds it
abbrev pub lock_entry_code : Coded LockEntry
lock_entry_code = code_by (ℕ × Option (ℕ ⊎ List ℕ))
    (coded× coded_ℕ (coded_option (coded⊎ coded_ℕ (coded_list coded_ℕ))))
    (λ s. (s.fence, holders_code s.holders)) (λ p. record { fence = p.0; holders = holders_decoded p.1 })
    (λ s. ap (λ (h : Holders). let t : LockEntry = record {
      fence = s.fence;
      holders =
          h;
    } in t) (holders_again s.holders))
