-- Where the datagrams stand that a node has just sent to another one.
use Rattle.std.proofs.Common.{◌≡◌, ◌∙◌, ℕ, zero, suc, ◌+◌, ◌-◌, ◌++◌, List, [], ◌∷◌, length}
use Rattle.std.proofs.Common.{slice_get, refl, ap, sym, subst, arith, append_assoc}
use Rattle.std.proofs.lemmas.List.{length-append}
use Rattle.lk_messages.specs.Grammar.{Spells}
use Rattle.lk_messages.specs.declared.message.Content.{Content}
use Rattle.lk_agreement_laws.specs.Datagrams.{Datagram}
use Rattle.lk_agreement_laws.specs.declared.party.Party.TheVariants as party
use Rattle.lk_replica.specs.ReplicaValue.{ReplicaValue}
use Rattle.lk_sim.specs.WorldStates.{WorldState}
use Rattle.lk_healing.proofs.Places.{at_end}
use Rattle.lk_healing.specs.Feeds.{places_from}
use Rattle.lk_healing.specs.Polls.{StandAt}

-- these datagrams have these contents, in order, and are addressed to the node
abbrev pub Carry : WorldState ReplicaValue → ℕ → List Datagram → List Content → Type 0
Carry w n [] [] = Unit {0}
Carry w n [] (x ∷ xs) = ⊥
Carry w n (d ∷ ds) [] = ⊥
Carry w n (d ∷ ds) (x ∷ xs) =
    (d.to ≡ party.Node n) × Spells (record { cluster = w.genesis.cluster; content = x }) d.bytes
    × Carry w n ds xs

-- so they stand at the places after those that were there before
stand_after : (w : WorldState ReplicaValue) (n : ℕ) (ds before : List Datagram) (xs : List Content)
    → w.sent ≡ before ++ ds → Carry w n ds xs → StandAt w n (places_from (length before) (length ds)) xs
stand_after w n [] before [] is carry = tt
stand_after w n [] before (x ∷ xs) is carry = absurd carry
stand_after w n (d ∷ ds) before [] is carry = absurd carry
stand_after w n (d ∷ ds) before (x ∷ xs) is carry = (
  (
    d,
    ap (λ (l : List Datagram). slice_get l (length before)) is ∙ at_end before d ds,
    carry.0,
    carry.1,
  ),
  subst (λ (i : ℕ). StandAt w n (places_from i (length ds)) xs) longer
      (stand_after w n ds (before ++ d ∷ []) xs (is ∙ sym (append_assoc before (d ∷ []) ds)) carry.2),
)
  where
    longer : length (before ++ d ∷ []) ≡ suc (length before)
    longer = omega (arith, length-append before (d ∷ []))

pub all_stand : (w : WorldState ReplicaValue) (n : ℕ) (ds before : List Datagram) (xs : List Content)
    → w.sent ≡ before ++ ds → Carry w n ds xs
    → StandAt w n (places_from (length before) (length w.sent - length before)) xs
all_stand w n ds before xs is carry = subst (λ (k : ℕ). StandAt w n (places_from (length before) k) xs)
    (omega (arith, ap length is, length-append before ds)) (stand_after w n ds before xs is carry)

-- one more place
pub one_place_more : (i k : ℕ) → places_from i (suc k) ≡ places_from i k ++ suc (i + k) ∷ []
one_place_more i zero = let e : i + zero ≡ i = omega arith in rw e refl
one_place_more i (suc k) =
    let e : suc i + k ≡ i + suc k = omega arith in
    ap (λ (l : List ℕ). suc i ∷ l) (one_place_more (suc i) k
    ∙ ap (λ (j : ℕ). places_from (suc i) k ++ suc j ∷ []) e)
