-- Slices of the texts of chosen lists of one length are slices of one text.
use Rattle.std.proofs.Common.{◌≡◌, ℕ, List, [], ◌∷◌, ◌++◌, length, take, drop, refl, ap, ap₂, sym, ◌∙◌, subst, inl, inr}
use Rattle.std.proofs.Common.{◌≤◌, arith, append-nil, length-append, take_all}
use Rattle.std.proofs.lemmas.List.{length-take}
use Rattle.std.proofs.Math.Seq.{take-add}
use Rattle.lk_agreement_laws.specs.Datagrams.{Genesis, Datagram}
use Rattle.lk_agreement_laws.specs.Chosen.{Command, Chosen, IsPrefix}
use Rattle.lk_agreement_laws.specs.Soundness.{Sound}
use Rattle.lk_agreement_laws.specs.Snapshots.{IsSlice}
use Rattle.lk_agreement_laws.proofs.Agree.{chosen_agree}
use Rattle.lk_agreement_laws.proofs.Grow.{still_chosen, chosen_take}

same_length : (L K : List Command) → IsPrefix L K → length L ≡ length K → L ≡ K
same_length L K b e = sym (append-nil L)
    ∙ ap (λ r. L ++ r) (sym (none b.0 (omega (arith, ap length (sym b.1) ∙ length-append L b.0)))) ∙ b.1
  where
    none : (r : List Command) → length r ≡ 0 → r ≡ []
    none [] h = refl
    none (x ∷ r) h = absurd (omega arith)

-- chosen lists of one length are one
pub same_length_same : (genesis : Genesis) (sent : List Datagram) → Sound genesis sent → (L K : List Command)
    → Chosen genesis sent L → Chosen genesis sent K → length L ≡ length K → L ≡ K
same_length_same genesis sent sound L K l k e =
    elim (chosen_agree genesis sent sound L K l k)
    [ inl b ↦ same_length L K b e | inr b ↦ sym (same_length K L b (sym e)) ]

-- a slice goes on what was gathered
pub slices_concatenate : (genesis : Genesis) (sent : List Datagram) → Sound genesis sent
    → (text : List Command → List ℕ) (position total : ℕ) (gathered bytes : List ℕ)
    → IsSlice genesis sent text position total 0 gathered
    → IsSlice genesis sent text position total (length gathered) bytes
    → IsSlice genesis sent text position total 0 (gathered ++ bytes)
slices_concatenate genesis sent sound text position total gathered bytes p q =
    let same : q.under ≡ p.under =
    same_length_same genesis sent sound q.under p.under q.chosen p.chosen (q.position_is ∙ sym p.position_is) in
    let next : bytes ≡ take (length bytes) (drop (length gathered) (text p.under)) =
    subst (λ L. bytes ≡ take (length bytes) (drop (length gathered) (text L))) same q.slice in
    record {
      under = p.under;
      chosen = p.chosen;
      position_is = p.position_is;
      total_is = p.total_is;
      slice = ap₂ (λ x y. x ++ y) p.slice next ∙ sym (take-add (length gathered) (length bytes) (text p.under))
          ∙ ap (λ n. take n (text p.under)) (sym (length-append gathered bytes));
    }

-- what is whole is the text of a chosen list
pub whole_slice : (genesis : Genesis) (sent : List Datagram) (text : List Command → List ℕ) (position total : ℕ)
    (bytes : List ℕ) → IsSlice genesis sent text position total 0 bytes
    → length bytes ≡ total → (L : List Command) × Chosen genesis sent L × (length L ≡ position) × (bytes ≡ text L)
whole_slice genesis sent text position total bytes p e =
    (p.under, p.chosen, p.position_is, p.slice ∙ take_all (length bytes) (text p.under) (omega (arith, p.total_is)))

pub still_slice : (genesis : Genesis) (sent new : List Datagram) (text : List Command → List ℕ)
    (position total offset : ℕ) (bytes : List ℕ) → IsSlice genesis sent text position total offset bytes
    → IsSlice genesis (sent ++ new) text position total offset bytes
still_slice genesis sent new text position total offset bytes p =
    record {
      under = p.under;
      chosen = still_chosen genesis sent new p.under p.chosen;
      position_is = p.position_is;
      total_is = p.total_is;
      slice = p.slice;
    }

-- what is sent of the text of a beginning
pub prefix_slice : (genesis : Genesis) (sent : List Datagram) (text : List Command → List ℕ) (L : List Command)
    (position offset : ℕ) (bytes : List ℕ) → Chosen genesis sent L
    → position ≤ length L → bytes ≡ take (length bytes) (drop offset (text (take position L)))
    → IsSlice genesis sent text position (length (text (take position L))) offset bytes
prefix_slice genesis sent text L position offset bytes chosen within slice =
    record {
      under = take position L;
      chosen = chosen_take genesis sent L position chosen;
      position_is = omega (arith, within, length-take position L);
      total_is = refl;
      slice = slice;
    }
