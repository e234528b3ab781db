-- The parts of a frame.
use Rattle.std.proofs.Common.{◌≡◌, ◌⊎◌, inl, inr, nat_eq, ◌+◌, ℕ, List, ◌++◌, take, drop, length, arith, refl, sym, ap}
use Rattle.std.proofs.Common.{◌∙◌, Bool, true, false, Some, None}
use Rattle.std.proofs.lemmas.List.{take-append-le, drop-append-le, take_all, drop_all, drop-drop, length-append}
use Rattle.std.proofs.lemmas.List.{take-append-drop}
use Rattle.std.specs.Cmp.Lexicographic.{pointwise}
use lib.Pointwise.{bytes_decides}
use Rattle.sha2.proofs.Facts256.{length-sha256}
use Rattle.lk_auth.specs.Hmac.{hmac_by}
use Rattle.lk_auth.specs.Frames.{head, front, seal_tag, sealed, opened}
use Rattle.lk_auth.specs.declared.frame.Scope.{Scope}

pub length-tag : (key : List ℕ) (s : Scope) (d : List ℕ) → length (seal_tag key s d) ≡ 32
unfolding seal_tag hmac_by
length-tag key s d = length-sha256 _

-- 36 bytes stand in front of the datagram
pub length-sealed : (key : List ℕ) (s : Scope) (d : List ℕ) → length (sealed key s d) ≡ 36 + length d
unfolding sealed
length-sealed key s d = omega (arith, length-append (seal_tag key s d) d, length-tag key s d)

pub drop-more : (m n : ℕ) (l : List ℕ) → drop (n + m) l ≡ drop m (drop n l)
drop-more m n l = sym (drop-drop m n l)

pub behind : (tag d : List ℕ) → length tag ≡ 32 → drop 32 (tag ++ d) ≡ d
behind tag d long =
    drop-append-le 32 tag d (omega (arith, long)) ∙ ap (λ (l : List ℕ). l ++ d) (drop_all 32 tag (omega (arith, long)))

pub before : (tag d : List ℕ) → length tag ≡ 32 → take 32 (tag ++ d) ≡ tag
before tag d long = take-append-le 32 tag d (omega (arith, long)) ∙ take_all 32 tag (omega (arith, long))

pub drop-sealed : (key : List ℕ) (s : Scope) (d : List ℕ) → drop 36 (sealed key s d) ≡ d
unfolding sealed
drop-sealed key s d = drop-more 32 4 (sealed key s d) ∙ behind (seal_tag key s d) d (length-tag key s d)

pub head-sealed : (key : List ℕ) (s : Scope) (d : List ℕ) → take 4 (sealed key s d) ≡ head s.purpose
unfolding sealed
head-sealed key s d = refl

pub tag-sealed : (key : List ℕ) (s : Scope) (d : List ℕ) → take 32 (drop 4 (sealed key s d)) ≡ seal_tag key s d
unfolding sealed
tag-sealed key s d = before (seal_tag key s d) d (length-tag key s d)

-- a frame is its three parts
pub frame-parts : (key : List ℕ) (s : Scope) (frame : List ℕ) → take 4 frame ≡ head s.purpose
    → take 32 (drop 4 frame) ≡ seal_tag key s (drop 36 frame) → frame ≡ sealed key s (drop 36 frame)
unfolding sealed
frame-parts key s frame front tag =
    let rest : drop 4 frame ≡ seal_tag key s (drop 36 frame) ++ drop 36 frame =
    sym (take-append-drop 32 (drop 4 frame)) ∙ ap (λ (l : List ℕ). l ++ drop 32 (drop 4 frame)) tag
    ∙ ap (λ (l : List ℕ). seal_tag key s (drop 36 frame) ++ l) (sym (drop-more 32 4 frame)) in
    sym (take-append-drop 4 frame) ∙ ap (λ (l : List ℕ). l ++ drop 4 frame) front
    ∙ ap (λ (l : List ℕ). head s.purpose ++ l) rest

-- the frame of a datagram opens to it
pub opens : (key : List ℕ) (s : Scope) (frame d : List ℕ) → frame ≡ sealed key s d → opened key s frame ≡ Some d
unfolding opened
opens key s frame d e =
    let behind : drop 36 frame ≡ d = ap (drop 36) e ∙ drop-sealed key s d in
    let is : pointwise nat_eq frame (sealed key s (drop 36 frame)) ≡ true =
    (bytes_decides frame (sealed key s (drop 36 frame))).1 (e ∙ ap (sealed key s) (sym behind)) in
    rw is (ap Some behind)

pub either_way : (b : Bool) → (b ≡ true) ⊎ (b ≡ false)
either_way true = inl refl
either_way false = inr refl

-- what does not is the frame of none
pub opens_not : (key : List ℕ) (s : Scope) (frame : List ℕ) → ((d : List ℕ) → frame ≡ sealed key s d → ⊥)
    → opened key s frame ≡ None
unfolding opened
opens_not key s frame none = elim (either_way (pointwise nat_eq frame (sealed key s (drop 36 frame)))) [
  | inl is ↦ absurd (none (drop 36 frame) ((bytes_decides frame (sealed key s (drop 36 frame))).0 is))
  | inr differs ↦ rw differs refl
]
