-- What the headers of the lost cluster's stores have in common.
use Rattle.std.proofs.Common.{◌≡◌, ◌∙◌, ℕ, List, Option, Some, None, ap, eqb, false, eq-eqb}
use Rattle.std.proofs.Common.{refl, subst, sym, true≢false}
use Rattle.std.specs.Prelude.{◌≢◌}
use Rattle.lk_store_format.specs.Values.{HeaderValue}
use Rattle.lk_seed.specs.Survivors.{IsOfFirst, IsOfLost, IsSameCluster, Keeps, KeepsFirst, MayBeOf, first_of, moved}
use Rattle.lk_seed.specs.declared.lost.LostCluster.{LostCluster}

-- a header with the node of another one is that one exactly if both are of the same cluster
pub of_moved : (one other : HeaderValue) → moved one other ≡ one → IsSameCluster one other
of_moved one other same = record {
  cluster = ap (λ (h : HeaderValue). h.cluster) same;
  alpha = ap (λ (h : HeaderValue). h.alpha) same;
  members = ap (λ (h : HeaderValue). h.members) same;
}

pub to_moved : (one other : HeaderValue) → IsSameCluster one other → moved one other ≡ one
to_moved one other same =
    λ i. record { node = one.node; cluster = same.cluster i; alpha = same.alpha i; members = same.members i }

-- the first of two stays the first, and the second is of its cluster if it may be
keeps_first : (first : Option HeaderValue) (next : HeaderValue) → KeepsFirst first (first_of first next)
keeps_first None next = tt
keeps_first (Some first) next = refl

of_first : (first : Option HeaderValue) (header : HeaderValue) → MayBeOf first header
    → IsOfFirst (first_of first header) header
of_first None header may = record { cluster = refl; alpha = refl; members = refl }
of_first (Some first) header may = may

pub keeps_added : (old new : LostCluster) (next : HeaderValue) → new.new_cluster ≡ old.new_cluster
    → new.first ≡ first_of old.first next → Keeps old new
keeps_added old new next same is = (
  same,
  subst (λ (f : Option HeaderValue). KeepsFirst old.first f) (sym is) (keeps_first old.first next),
)

pub of_added : (old new : LostCluster) (header : HeaderValue) → new.first ≡ first_of old.first header
    → MayBeOf old.first header → IsOfFirst new.first header
of_added old new header is may =
    subst (λ (f : Option HeaderValue). IsOfFirst f header) (sym is) (of_first old.first header may)

-- what does not change keeps the first header
same_first : (first : Option HeaderValue) → KeepsFirst first first
same_first None = tt
same_first (Some first) = refl

pub keeps_same : (lost : LostCluster) → Keeps lost lost
keeps_same lost = (refl, same_first lost.first)

-- a header that is not of the new cluster, and of that of the first one
pub of_lost : (old new : LostCluster) (header : HeaderValue) → eqb header.cluster old.new_cluster ≡ false
    → Keeps old new → IsOfFirst new.first header → IsOfLost new header
of_lost old new header differs keeps same = record {
  others = λ is. true≢false (sym (eq-eqb header.cluster old.new_cluster (is ∙ keeps.0)) ∙ differs);
  same = same;
}

-- what keeps twice, keeps
first_both : (old mid new : Option HeaderValue) → KeepsFirst old mid → KeepsFirst mid new
    → KeepsFirst old new
first_both None mid new a b = tt
first_both (Some first) mid new a b =
    subst (λ (m : Option HeaderValue). KeepsFirst m new) a b

pub keeps_both : (old mid new : LostCluster) → Keeps old mid → Keeps mid new → Keeps old new
keeps_both old mid new a b = (b.0 ∙ a.0, first_both old.first mid.first new.first a.1 b.1)

-- a header of the lost cluster stays one
stays_first : (old new : Option HeaderValue) (h : HeaderValue) → KeepsFirst old new → IsOfFirst old h
    → IsOfFirst new h
stays_first None new h keeps same = absurd same
stays_first (Some first) new h keeps same =
    subst (λ (m : Option HeaderValue). IsOfFirst m h) (sym keeps) same

pub stays : (old new : LostCluster) (h : HeaderValue) → Keeps old new → IsOfLost old h → IsOfLost new h
stays old new h keeps is = record {
  others = subst (λ (n : ℕ). h.cluster ≢ n) (sym keeps.0) is.others;
  same = stays_first old.first new.first h keeps.1 is.same;
}
