-- Which addresses are those of strangers, and what is let in from them.
use Rattle.std.proofs.Common.{◌≡◌, ◌<◌, ℕ, zero, suc, Bool, ◌||◌, List, [], ◌∷◌, length, Option, Some, None, refl, ap}
use Rattle.std.proofs.Common.{sym, ◌∙◌, arith}
use Rattle.std.specs.Prelude.{slice_get, slice_index_or, slice_set}
use Rattle.std.specs.List.{list_any}
use Rattle.std.specs.declared.net.socket_addr.SocketAddr.{SocketAddr}
use Rattle.lk_probe.specs.Neighbours.{Entries, is_at, is_stranger, is_stranger_at, if_other, having_asked, having_met}
use Rattle.lk_probe.specs.declared.neighbours.Knowledge.{Knowledge}
use Rattle.lk_probe.specs.declared.neighbours.Knowledge.TheVariants.{Unknown, Asked, AskedTwice, Same, Other}
use Rattle.lk_probe.specs.declared.neighbours.Neighbour.{Neighbour}

-- an element takes the place of one of which the same holds
any_set : {X : Type 0} (P : X → Bool) (xs : List X) (at : ℕ) (x y : X) → slice_get xs at ≡ Some x → P y ≡ P x
    → list_any P (slice_set xs at y) ≡ list_any P xs
any_set P [] at x y is same = absurd (cc is)
any_set P (z ∷ xs) zero x y is same = ap (λ b. b || list_any P xs) (same ∙ ap P (some (sym is)))
  where
    some : {X : Type 0} {x y : X} → ◌≡◌ {A = Option X} (Some x) (Some y) → x ≡ y
    some e = cc e
any_set P (z ∷ xs) (suc at) x y is same = ap (λ b. P z || b) (any_set P xs at x y is same)

-- what is read there stands there
pub read_there : {X : Type 0} (xs : List X) (at : ℕ) (x y : X) → at < length xs → x ≡ slice_index_or xs at y
    → slice_get xs at ≡ Some x
read_there [] at x y within is = absurd (omega (arith, within))
read_there (z ∷ xs) zero x y within is = ap Some (sym is)
read_there (z ∷ xs) (suc at) x y within is = read_there xs at x y (omega (arith, within)) is

-- an entry takes the place of one that is a stranger's at the same address, or at none
same_strangers : (es : Entries) (at : ℕ) (e f : Option Neighbour) → slice_get es at ≡ Some e
    → ((address : SocketAddr) → is_stranger_at address f ≡ is_stranger_at address e)
    → is_stranger (slice_set es at f) ≡ is_stranger es
unfolding is_stranger
same_strangers es at e f is same = λ i address. any_set (is_stranger_at address) es at e f is (same address) i

-- a node has written
pub met_strangers : (es : Entries) (at : ℕ) (e : Option Neighbour) (address : SocketAddr) (binds : Bool)
    → slice_get es at ≡ Some e → is_stranger (slice_set es at (Some (having_met address binds e))) ≡ is_stranger es
met_strangers es at None address binds is = same_strangers es at None (Some (having_met address binds None)) is
    (λ p. refl)
met_strangers es at (Some n) address binds is =
    same_strangers es at (Some n) (Some (having_met address binds (Some n))) is (λ p. refl)

still_other : (k : Knowledge) (now : ℕ) (so : Bool) → if_other (having_asked now k) so ≡ if_other k so
still_other Unknown now so = refl
still_other (Asked ticks) now so = refl
still_other AskedTwice now so = refl
still_other Same now so = refl
still_other (Other origin) now so = refl

-- a node is asked
pub asked_strangers : (es : Entries) (at : ℕ) (n : Neighbour) (now : ℕ) → slice_get es at ≡ Some (Some n)
    → is_stranger (slice_set es at (Some (record n { knowledge = having_asked now n.knowledge }))) ≡ is_stranger es
asked_strangers es at n now is =
    same_strangers es at (Some n) (Some (record n { knowledge = having_asked now n.knowledge })) is
    (λ p. still_other n.knowledge now (is_at n.address p))
