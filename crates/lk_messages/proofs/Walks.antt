-- Parts of a datagram that are read alone, and votes and commands that are stepped over.
use Rattle.std.proofs.Common.{◌≡◌, ℕ, Bool, true, false, ltb, ◌&&◌, ◌+◌, ◌-◌, ◌<◌, List, [], ◌∷◌, ◌++◌, length, take}
use Rattle.std.proofs.Common.{Option, Some, refl, sym, ap, subst, ◌∙◌, append_assoc, arith}
use Rattle.std.specs.List.{flat_map, AllByRecursion}
use Rattle.std.proofs.Math.Seq.{take-append_seam}
use Rattle.std.proofs.lemmas.List.{append-nil, length-append}
use Rattle.lk_types.specs.Votes.{IsVote, are_votes_above}
use Rattle.lk_types.specs.Commands.{IsCommand}
use Rattle.lk_types.specs.declared.command.Command.{Command}
use Rattle.lk_types.specs.declared.vote.Vote.{Vote}
use Rattle.lk_codec.specs.Fields.{vote, command}
use Rattle.lk_codec.specs.FieldReading.{read_command, read_vote}
use Rattle.lk_codec.specs.Parser.{many, made}
use Rattle.lk_codec.specs.Parser.{past}
use Rattle.lk_messages.specs.Views.{IsAll, value_or}
use Rattle.lk_codec.proofs.Spellings.{IsBytes, Reads, bind_ok, some_is, command_reads, vote_reads, with_front, goes_on}
use Rattle.lk_codec.proofs.Spellings.{many_takes, many_again}

module _ {X : Type 0} where
  -- what a reader took from the front is read alone as the same
  alone : (p : List ℕ → Option (X × List ℕ)) (s : X → List ℕ) (F : X → Type 0) → Reads p s F
      → (bytes : List ℕ) (x : X) (rest : List ℕ) → IsBytes bytes → p bytes ≡ Some (x, rest)
      → p (take (length bytes - length rest) bytes) ≡ Some (x, [])
  alone p s F r bytes x rest h e =
      let t = r.takes bytes x rest h e in
      let long : length bytes ≡ length (s x) + length rest = ap (λ (w : List ℕ). length w) t.parts
      ∙ length-append (s x) rest in
      let n : length bytes - length rest ≡ length (s x) = omega (arith, long) in
      let front : take (length bytes - length rest) bytes ≡ s x = ap (λ (k : ℕ). take k bytes) n
      ∙ ap (λ (w : List ℕ). take (length (s x)) w) t.parts ∙ take-append_seam (s x) rest in
      ap p (front ∙ sym (append-nil (s x))) ∙ r.again x [] t.fits

  -- bytes that are this value and nothing else spell it
  pub spelled : (p : List ℕ → Option (X × List ℕ)) (s : X → List ℕ) (F : X → Type 0) → Reads p s F
      → (bytes : List ℕ) (x : X) → IsBytes bytes → p bytes ≡ Some (x, []) → (bytes ≡ s x) × F x
  spelled p s F r bytes x h e = let t = r.takes bytes x [] h e in (t.parts ∙ append-nil (s x), t.fits)

  -- a value that was stepped over is read
  pub stepped : (p : List ℕ → Option (X × List ℕ)) (bytes rest : List ℕ) → past p bytes ≡ Some rest
      → (x : X) × (p bytes ≡ Some (x, rest))
  stepped p bytes rest e =
      let a = bind_ok (p bytes) (λ a. Some a.1) rest e in
      (a.0.0, a.1 ∙ ap (λ (w : List ℕ). Some (a.0.0, w)) (some_is a.0.1 rest a.2))

  -- a slice of what a reader took is this value and nothing else
  pub cut : (p : List ℕ → Option (X × List ℕ)) (s : X → List ℕ) (F : X → Type 0) → Reads p s F
      → (other x : X) (bytes rest slice : List ℕ) → IsBytes bytes → p bytes ≡ Some (x, rest)
      → slice ≡ take (length bytes - length rest) bytes
      → IsAll p (value_or other (p slice)) slice × (p bytes ≡ Some (value_or other (p slice), rest))
      × (value_or other (p slice) ≡ x)
  cut p s F r other x bytes rest slice h e is =
      let read : p slice ≡ Some (x, []) = ap p is ∙ alone p s F r bytes x rest h e in
      let same : value_or other (p slice) ≡ x = ap (value_or other) read in
      (read ∙ ap (λ (z : X). Some (z, [])) (sym same), e ∙ ap (λ (z : X). Some (z, rest)) (sym same), same)

  pub many_reads : (p : List ℕ → Option (X × List ℕ)) (s : X → List ℕ) (F : X → Type 0) → Reads p s F → (n : ℕ)
      → Reads (many p n) (flat_map s) (λ (xs : List X). (length xs ≡ n) × AllByRecursion F xs)
  many_reads p s F r n = record {
    takes = many_takes p s F r n;
    again = λ xs rest fits. subst (λ (k : ℕ). many p k (flat_map s xs ++ rest) ≡ Some (xs, rest)) fits.0
        (many_again p s F r xs rest fits.1);
  }

module _ {X Y : Type 0} where
  pub unmade : (f : X → Y) (p : List ℕ → Option (X × List ℕ)) (bytes : List ℕ) (y : Y) (rest : List ℕ)
      → made f p bytes ≡ Some (y, rest) → (x : X) × (p bytes ≡ Some (x, rest)) × (f x ≡ y)
  unmade f p bytes y rest e =
      let a = bind_ok (p bytes) (λ a. Some (f a.0, a.1)) (y, rest) e in
      let m : Y × List ℕ = (f a.0.0, a.0.1) in
      let is = some_is m (y, rest) a.2 in (
        a.0.0,
        a.1 ∙ ap (λ (w : List ℕ). Some (a.0.0, w)) (ap (λ (z : Y × List ℕ). z.1) is),
        ap (λ (z : Y × List ℕ). z.0) is,
      )

-- so many votes, and so many commands
pub votes_read : (n : ℕ)
    → Reads (many read_vote n) (flat_map vote) (λ (vs : List Vote). (length vs ≡ n) × AllByRecursion IsVote vs)
votes_read = many_reads read_vote vote IsVote vote_reads

pub commands_read : (n : ℕ)
    → Reads (many read_command n) (flat_map command)
    (λ (cs : List Command). (length cs ≡ n) × AllByRecursion IsCommand cs)
commands_read = many_reads read_command command IsCommand command_reads

-- ---- votes that rise

together : (a b c : Bool) → (a && (b && c)) ≡ ((a && b) && c)
together true b c = refl
together false b c = refl

-- one vote more is passed
pub passed : (low0 low position count i : ℕ) (rest after : List ℕ) (front : List Vote) (rising next : Bool)
    (total : Option (List Vote × List ℕ)) → i < count
    → made (λ (v : Vote). v.position) read_vote rest ≡ Some (position, after) → next ≡ (rising && ltb low position)
    → with_front front (many read_vote (count - i) rest) ≡ total
    → ((more : List Vote) → are_votes_above low0 (front ++ more) ≡ (rising && are_votes_above low more))
    → (x : List Vote) × (with_front x (many read_vote (count - (i + 1)) after) ≡ total)
    × ((more : List Vote) → are_votes_above low0 (x ++ more) ≡ (next && are_votes_above position more))
passed low0 low position count i rest after front rising next total lt h is so_far above =
    let a = unmade (λ (v : Vote). v.position) read_vote rest position after h in (
      front ++ a.0 ∷ [],
      goes_on read_vote front count i rest a.0 after total lt a.1 so_far,
      λ more. ap (are_votes_above low0) (append_assoc front (a.0 ∷ []) more) ∙ above (a.0 ∷ more)
          ∙ ap (λ (n : ℕ). rising && (ltb low n && are_votes_above n more)) a.2
          ∙ together rising (ltb low position) (are_votes_above position more)
          ∙ ap (λ (b : Bool). b && are_votes_above position more) (sym is),
    )
