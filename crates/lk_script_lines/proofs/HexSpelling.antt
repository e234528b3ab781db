-- Reading a line of hex from its front.
use Rattle.std.proofs.Common.{◌≡◌, ◌≢◌, ℕ, true, false, eqb, length, zero, suc, ◌+◌, ◌*◌, ◌<◌, ◌⊎◌, inl, inr, List, []}
use Rattle.std.proofs.Common.{◌∷◌, ◌++◌, replicate, slice_index, drop, refl, sym, ap, subst, ◌∙◌, append_assoc, arith}
use Rattle.std.proofs.lemmas.List.{nil_from_length}
use Rattle.std.proofs.lemmas.Bool.{eqb-true}
use Rattle.std.specs.Char.{digit_value}
use Rattle.lk_script_lines.specs.HexLines.{SpellsByte, SpellsBytes}
use Rattle.lk_script_lines.specs.HexLines.SpellsBytes.{one, more}

-- the line's bytes are those so far, and then those of what is left
pub record GoesOn (line bytes rest : List ℕ) : Type 0 where
  pub sound : (tail : List ℕ) → SpellsBytes rest tail → SpellsBytes line (bytes ++ tail)
  pub complete : (all : List ℕ) → SpellsBytes line all → (tail : List ℕ) × (all ≡ bytes ++ tail) × SpellsBytes rest tail

pub begins : (line : List ℕ) → GoesOn line [] line
begins line = record { sound = λ tail s. s; complete = λ all s. (all, refl, s) }

-- no digit is a space
no_space : (c : ℕ) → digit_value c < 16 → c ≢ 32
no_space c h e = let k : digit_value 32 < 16 = subst (λ (d : ℕ). digit_value d < 16) e h in absurd (omega (arith, k))

pub front_no_space : (line bytes : List ℕ) → SpellsBytes line bytes → slice_index line 0 ≢ 32
front_no_space _ _ (one high low byte p) = no_space high p.0
front_no_space _ _ (more high low byte spaces line bytes p s) = no_space high p.0

-- what stands after all spaces stands there in one way
same_behind : (m n : ℕ) (a b : List ℕ) → replicate m 32 ++ a ≡ replicate n 32 ++ b → slice_index a 0 ≢ 32
    → slice_index b 0 ≢ 32 → a ≡ b
same_behind zero zero a b e ha hb = e
same_behind zero (suc n) a b e ha hb = absurd (ha (ap (λ (l : List ℕ). slice_index l 0) e))
same_behind (suc m) zero a b e ha hb = absurd (hb (ap (λ (l : List ℕ). slice_index l 0) (sym e)))
same_behind (suc m) (suc n) a b e ha hb =
    let tails : replicate m 32 ++ a ≡ replicate n 32 ++ b = ap (λ (l : List ℕ). drop 1 l) e in
    same_behind m n a b tails ha hb

-- the two ways in which a line begins
record Behind (byte : ℕ) (behind all : List ℕ) : Type 0 where
  spaces : ℕ
  line : List ℕ
  tail : List ℕ
  behind_is : behind ≡ replicate spaces 32 ++ line
  all_is : all ≡ byte ∷ tail
  spelled : SpellsBytes line tail

same_pair : (h l b h' l' b' : ℕ) → SpellsByte h l b → SpellsByte h' l' b' → h' ≡ h → l' ≡ l → b' ≡ b
same_pair h l b h' l' b' p q eh el =
    q.2 ∙ ap (λ (x : ℕ). digit_value x * 16 + digit_value l') eh
    ∙ ap (λ (x : ℕ). digit_value h * 16 + digit_value x) el ∙ sym p.2

front : (text all : List ℕ) → SpellsBytes text all → (h l b : ℕ) (behind : List ℕ) → text ≡ h ∷ l ∷ behind
    → SpellsByte h l b → ((behind ≡ []) × (all ≡ b ∷ [])) ⊎ Behind b behind all
front _ _ (one h' l' b' q) h l b behind e p =
    let eh : h' ≡ h = cc in let el : l' ≡ l = cc in let eb : behind ≡ [] = cc in
    inl (eb, ap (λ (x : ℕ). x ∷ []) (same_pair h l b h' l' b' p q eh el))
front _ _ (more h' l' b' spaces line bytes q s) h l b behind e p =
    let eh : h' ≡ h = cc in let el : l' ≡ l = cc in let eb : behind ≡ replicate spaces 32 ++ line = cc in
    inr (record {
      spaces = spaces;
      line = line;
      tail = bytes;
      behind_is = eb;
      all_is = ap (λ (x : ℕ). x ∷ bytes) (same_pair h l b h' l' b' p q eh el);
      spelled = s;
    })

-- what spells bytes is not empty, also after spaces
not_empty : (n : ℕ) (line bytes : List ℕ) → SpellsBytes line bytes → replicate n 32 ++ line ≡ [] → ⊥
not_empty zero _ _ (one high low byte p) e = absurd cc
not_empty zero _ _ (more high low byte spaces line bytes p s) e = absurd cc
not_empty (suc n) line bytes s e = absurd cc

-- a line spells one row of bytes
pub same_bytes : (line a b : List ℕ) → SpellsBytes line a → SpellsBytes line b → a ≡ b
same_bytes _ _ b (one high low byte p) t =
    elim (front (high ∷ low ∷ []) b t high low byte [] refl p) [
      | inl last ↦ sym last.1
      | inr on ↦ absurd (not_empty on.spaces on.line on.tail on.spelled (sym on.behind_is))
    ]
same_bytes _ _ b (more high low byte spaces line bytes p s) t =
    elim (front (high ∷ low ∷ (replicate spaces 32 ++ line)) b t high low byte (replicate spaces 32 ++ line) refl p) [
      | inl last ↦ absurd (not_empty spaces line bytes s last.0)
      | inr on ↦
          let same : on.line ≡ line =
          same_behind on.spaces spaces on.line line (sym on.behind_is) (front_no_space on.line on.tail on.spelled)
          (front_no_space line bytes s) in
          ap (λ (x : List ℕ). byte ∷ x)
          (same_bytes line bytes on.tail s (subst (λ (x : List ℕ). SpellsBytes x on.tail) same on.spelled))
          ∙ sym on.all_is
    ]

-- a line begins with a byte
needs_byte : (text all : List ℕ) → SpellsBytes text all
    → (h : ℕ) × (l : ℕ) × (rest : List ℕ) × (b : ℕ) × (text ≡ h ∷ l ∷ rest) × SpellsByte h l b
needs_byte _ _ (one h l b p) = (h, l, [], b, refl, p)
needs_byte _ _ (more h l b spaces line bytes p s) = (h, l, replicate spaces 32 ++ line, b, refl, p)

pub no_byte : (text rest : List ℕ) (high low : ℕ) → text ≡ high ∷ low ∷ rest → ((b : ℕ) → SpellsByte high low b → ⊥)
    → (bytes : List ℕ) → SpellsBytes text bytes → ⊥
no_byte text rest high low e none bytes s =
    let n = needs_byte text bytes s in
    let both : n.0 ∷ n.1 ∷ n.2 ≡ high ∷ low ∷ rest = sym n.4 ∙ e in
    let eh : n.0 ≡ high = cc both in
    let el : n.1 ≡ low = cc both in
    none n.3 (subst (λ (x : ℕ). SpellsByte x low n.3) eh (subst (λ (x : ℕ). SpellsByte n.0 x n.3) el n.5))

-- the last byte
pub ends : (line bytes rest behind : List ℕ) (h l b : ℕ) → GoesOn line bytes rest → rest ≡ h ∷ l ∷ behind
    → SpellsByte h l b → eqb (length behind) 0 ≡ true → SpellsBytes line (bytes ++ b ∷ [])
ends line bytes rest behind h l b g e p last =
    let empty : behind ≡ [] = nil_from_length behind (eqb-true (length behind) 0 last) in
    g.sound (b ∷ []) (subst (λ (t : List ℕ). SpellsBytes t (b ∷ []))
    (sym (e ∙ ap (λ (t : List ℕ). h ∷ l ∷ t) empty)) (one h l b p))

-- a byte with more after it
pub goes_on : (line bytes rest behind next : List ℕ) (h l b n : ℕ) → GoesOn line bytes rest → rest ≡ h ∷ l ∷ behind
    → SpellsByte h l b → eqb (length behind) 0 ≡ false
    → behind ≡ replicate n 32 ++ next → slice_index next 0 ≢ 32 → GoesOn line (bytes ++ b ∷ []) next
goes_on line bytes rest behind next h l b n g e p filled spaces digit = record {
  sound = λ tail s. subst (SpellsBytes line) (sym (append_assoc bytes (b ∷ []) tail))
      (g.sound (b ∷ tail) (subst (λ (t : List ℕ). SpellsBytes t (b ∷ tail))
      (sym (e ∙ ap (λ (t : List ℕ). h ∷ l ∷ t) spaces)) (more h l b n next tail p s)));
  complete = λ all s.
      let here = g.complete all s in
      elim (front rest here.0 here.2 h l b behind e p) [
        | inl h ↦ let last : eqb (length behind) 0 ≡ true = ap (λ (t : List ℕ). eqb (length t) 0) h.0 in absurd (cc)
        | inr k ↦
            let same : k.line ≡ next =
            same_behind k.spaces n k.line next (sym k.behind_is ∙ spaces)
            (front_no_space k.line k.tail k.spelled) digit in (
              k.tail,
              here.1 ∙ ap (λ (t : List ℕ). bytes ++ t) k.all_is ∙ sym (append_assoc bytes (b ∷ []) k.tail),
              subst (λ (t : List ℕ). SpellsBytes t k.tail) same k.spelled,
            )
      ];
}

slide : (n : ℕ) (behind : List ℕ) → replicate n 32 ++ (32 ∷ behind) ≡ replicate (suc n) 32 ++ behind
slide zero behind = refl
slide (suc n) behind = ap (λ (t : List ℕ). 32 ∷ t) (slide n behind)

-- one more space was passed
pub one_more_space : (text rest behind : List ℕ) → (n : ℕ) × (text ≡ replicate n 32 ++ rest) → rest ≡ 32 ∷ behind
    → (n : ℕ) × (text ≡ replicate n 32 ++ behind)
one_more_space text rest behind h e = (suc h.0, h.1 ∙ ap (λ (t : List ℕ). replicate h.0 32 ++ t) e ∙ slide h.0 behind)
