-- Lists whose members agree, one by one, are the same.
use Rattle.std.proofs.Common.{◌≡◌, ◌∙◌, ◌&&◌, true, eqb, eqb-true, List, [], ◌∷◌, refl, sym}
use Rattle.std.proofs.lemmas.Bool.{and_parts}
use Rattle.std.specs.Cmp.Lexicographic.{pointwise}
use Rattle.lk_members.specs.Rosters.{Member}
use Rattle.lk_members.proofs.set.are_same.Goals as goal

member_same : (x y : Member) → eqb x.node y.node && eqb x.port y.port ≡ true → x ≡ y
member_same x y h =
    let parts = and_parts (eqb x.node y.node) (eqb x.port y.port) h in
    (λ i. record { node = eqb-true x.node y.node parts.0 i; port = eqb-true x.port y.port parts.1 i })

all_same : (xs ys : List Member) → pointwise (λ x y. eqb x.node y.node && eqb x.port y.port) xs ys ≡ true → xs ≡ ys
all_same [] [] h = refl
all_same [] (y ∷ ys) h = absurd (cc h)
all_same (x ∷ xs) [] h = absurd (cc h)
all_same (x ∷ xs) (y ∷ ys) h =
    let parts = and_parts (eqb x.node y.node && eqb x.port y.port)
    (pointwise (λ x y. eqb x.node y.node && eqb x.port y.port) xs ys) h in
    (λ i. member_same x y parts.0 i ∷ all_same xs ys parts.1 i)

pub returns : goal.returns
returns c = λ is. all_same c.args.a.now c.args.b.now (sym c.eq.ensures ∙ is)
