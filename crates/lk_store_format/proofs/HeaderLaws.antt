-- Headers are equal where their parts are.
use Rattle.std.proofs.Common.{◌≡◌, Bool, true, false, not, ◌&&◌, eqb, nat_eq, ℕ, List, ap, arith}
use Rattle.std.specs.Bool.{Decides}
use Rattle.std.specs.Cmp.Lexicographic.{pointwise, pointwise_decides}
use Rattle.std.proofs.lemmas.Bool.Decides.{nat_tests}
use Rattle.lk_types.specs.declared.member.Member.{Member}
use Rattle.lk_store_format.specs.Values.{HeaderValue}

pub same_header : (h g : HeaderValue) → h.node ≡ g.node → h.cluster ≡ g.cluster → h.alpha ≡ g.alpha
    → h.members ≡ g.members → h ≡ g
same_header h g n c a m = λ i. record { node = n i; cluster = c i; alpha = a i; members = m i }

abbrev same_member : Member → Member → Bool
same_member a b = nat_eq a.node b.node && nat_eq a.port b.port

both_same : (a b x y : ℕ) → (nat_eq a b && nat_eq x y) ≡ true → (a ≡ b) × (x ≡ y)
both_same a b x y e = grind (arith, nat_tests)

same_both : (a b x y : ℕ) → a ≡ b → x ≡ y → (nat_eq a b && nat_eq x y) ≡ true
same_both a b x y e f = grind (arith, nat_tests)

member_decides : (a b : Member) → Decides (same_member a b) (a ≡ b)
member_decides a b = (
  λ e. let s = both_same a.node b.node a.port b.port e in λ i. record { node = s.0 i; port = s.1 i },
  λ e. same_both a.node b.node a.port b.port (ap (λ (m : Member). m.node) e) (ap (λ (m : Member). m.port) e),
)

pub members_decide : (a b : List Member) → Decides (pointwise same_member a b) (a ≡ b)
members_decide = pointwise_decides member_decides

pub told_same : (r : Bool) (a b : ℕ) → r ≡ false → r ≡ not (eqb a b) → a ≡ b
told_same r a b f e = grind (arith, nat_tests)
