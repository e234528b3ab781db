-- What is chosen was accepted, and is in its range.
use Rattle.std.proofs.Common.{◌≡◌, ℕ, zero, suc, ◌≤◌, List, [], ◌∷◌, length, Some, slice_get, refl, arith}
use Rattle.lk_types.specs.Ranges.{IsCount}
use Rattle.lk_types.specs.Commands.{IsCommand}
use Rattle.lk_types.specs.Votes.{IsVote}
use Rattle.lk_agreement_laws.specs.Ballots.{BallotValue}
use Rattle.lk_agreement_laws.specs.Datagrams.{Genesis, Datagram, Accepted, HasSent}
use Rattle.lk_agreement_laws.specs.Chosen.{Command, command_at, Chosen, ChosenAt}
use Rattle.lk_agreement_laws.proofs.Agree.{entry_chosen, accepted_once}
use Rattle.lk_agreement_laws.proofs.Lists.{entry_at}

module _ (genesis : Genesis) (sent : List Datagram) where
  -- some node has sent it as accepted
  pub chosen_was_accepted : (i : ℕ) (v : Command) → ChosenAt genesis sent i v
      → (n : ℕ) × (b : BallotValue)
      × HasSent genesis sent n (Accepted (record { position = i; ballot = b; command = v }))
  chosen_was_accepted i v c = let n = accepted_once genesis sent c.under i c.ballot v c.accepted in (n.0, c.ballot, n.1)

  pub chosen_at_fits : (i : ℕ) (v : Command) → ChosenAt genesis sent i v → IsCount i × IsCommand v
  chosen_at_fits i v c =
      let n = accepted_once genesis sent c.under i c.ballot v c.accepted in
      let vote : IsVote (record { position = i; ballot = c.ballot; command = v }) = n.1.spelled.0.1.1 in
      (vote.0, vote.2)

  pub chosen_fits : (L : List Command) → Chosen genesis sent L → (i : ℕ) (v : Command) → command_at L i ≡ Some v
      → IsCount i × IsCommand v
  chosen_fits L chosen i v at = chosen_at_fits i v (entry_chosen genesis sent L chosen i v at)

  pub chosen_short : (L : List Command) → Chosen genesis sent L → length L ≤ 281474976710656
  chosen_short L chosen = by_length (length L) refl
    where
      by_length : (k : ℕ) → length L ≡ k → k ≤ 281474976710656
      by_length zero e = omega arith
      by_length (suc k) e = let v = entry_at L k (omega (arith, e)) in (chosen_fits L chosen (suc k) v.0 v.1).0.1
