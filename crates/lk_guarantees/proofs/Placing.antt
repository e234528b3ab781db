-- Where a request that was answered takes effect.
use Rattle.std.proofs.Common.{◌≡◌, ℕ, suc, ◌+◌, ◌-◌, true, List, [], ◌∷◌, ◌++◌, length, take, slice_get, Some, refl, ap}
use Rattle.std.proofs.Common.{sym, ◌∙◌, subst, arith}
use Rattle.lk_types.specs.declared.answer.Answer.{Answer}
use Rattle.lk_types.specs.declared.command.Command.{Command}
use Rattle.lk_types.specs.declared.command.Command.TheVariants.{Request}
use Rattle.lk_types.specs.declared.command.Request.{Request as Asking}
use Rattle.lk_types.specs.declared.genesis.Genesis.{Genesis}
use Rattle.lk_guarantees.specs.Plain.{execute, takes_effect, after, at, GivesAnswer, TakesEffectAt}
use Rattle.lk_guarantees.proofs.Quorums.{at_is}

pub get_middle : {X : Type 0} (xs : List X) (x : X) (ys : List X) → slice_get (xs ++ x ∷ ys) (length xs) ≡ Some x
get_middle [] x ys = refl
get_middle (y ∷ xs) x ys = get_middle xs x ys

pub take_front : {X : Type 0} (xs ys : List X) → take (length xs) (xs ++ ys) ≡ xs
take_front [] ys = none ys
  where
    none : {X : Type 0} (ys : List X) → take 0 ys ≡ []
    none [] = refl
    none (y ∷ ys) = refl
take_front (x ∷ xs) ys = ap (λ l. x ∷ l) (take_front xs ys)

-- the request takes effect at this position, and is answered so there
pub record IsPlaced (genesis : Genesis) (L : List Command) (client number : ℕ) (answer : Answer) : Type 0 where
  pub position : ℕ
  pub request : Asking
  pub of_client : request.client ≡ client
  pub of_number : request.number ≡ number
  pub is_effective : TakesEffectAt genesis L position request
  pub answered : (execute client request.op (after genesis (take (position - 1) L))).0 ≡ answer

pub placed : (genesis : Genesis) (L : List Command) (client number : ℕ) (answer : Answer)
    → GivesAnswer genesis L client number answer → IsPlaced genesis L client number answer
placed genesis L client number answer a =
    let index : ℕ = length a.before in
    let next : index + 1 ≡ suc index = omega arith in
    let less : (index + 1) - 1 ≡ index = omega arith in
    let front : take ((index + 1) - 1) L ≡ a.before = ap (λ (n : ℕ). take n L) less
    ∙ ap (λ (l : List Command). take index l) a.stands ∙ take_front a.before (Request a.request ∷ a.later) in
    let stands : at L (index + 1) ≡ Some (Request a.request) = ap (λ (n : ℕ). at L n) next ∙ at_is L (suc index)
    ∙ ap (λ (l : List Command). slice_get l index) a.stands ∙ get_middle a.before (Request a.request) a.later in
    record {
      position = index + 1;
      request = a.request;
      of_client = a.of_client;
      of_number = a.of_number;
      is_effective = (
        stands,
        subst (λ (l : List Command). takes_effect (after genesis l) a.request
            ≡ true) (sym front) a.is_effective,
      );
      answered =
          subst (λ (l : List Command). (execute client a.request.op (after genesis l)).0 ≡ answer) (sym front)
          a.answered;
    }
