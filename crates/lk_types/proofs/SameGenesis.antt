-- A genesis is its cluster, its alpha and its members: that alpha is in range adds nothing.
use Rattle.std.proofs.Common.{◌≡◌, ℕ, ◌∙◌}
use Rattle.std.proofs.Math.Bridge.{le_prop}
use Rattle.std.proofs.Math.Path.{path_j}
use Rattle.lk_types.specs.Ranges.{IsAlpha}
use Rattle.lk_types.specs.declared.genesis.Genesis.{Genesis}

same_range : (a : ℕ) (r s : IsAlpha a) → r ≡ s
same_range a r s = λ i. (le_prop r.0 s.0 i, le_prop r.1 s.1 i)

same_at : (g : Genesis) (a : ℕ) (e : g.alpha ≡ a) (r : IsAlpha a)
    → g ≡ record { cluster = g.cluster; alpha = a; members = g.members; in_range = r }
same_at g a e = path_j (λ (b : ℕ) (p : g.alpha ≡ b). (r : IsAlpha b)
    → g ≡ record { cluster = g.cluster; alpha = b; members = g.members; in_range = r })
    (λ r i. record {
      cluster = g.cluster;
      alpha = g.alpha;
      members = g.members;
      in_range = same_range g.alpha g.in_range r i;
    }) e

-- two geneses of one cluster, alpha and members are equal
pub same_genesis : (g h : Genesis) → g.cluster ≡ h.cluster → g.alpha ≡ h.alpha → g.members ≡ h.members → g ≡ h
same_genesis g h cluster alpha members =
    same_at g h.alpha alpha h.in_range
    ∙ (λ i. record { cluster = cluster i; alpha = h.alpha; members = members i; in_range = h.in_range })
