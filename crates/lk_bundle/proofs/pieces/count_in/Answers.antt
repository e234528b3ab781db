use Rattle.std.proofs.Common.{rules, ◌≡◌, ◌++◌, List, ℕ, take, drop, ap, sym, ◌∙◌, take-append-drop}
use Rattle.std.specs.List.{flat_map}
use Rattle.lk_bundle.specs.Bundles.{head, piece}
use Rattle.lk_bundle.proofs.PieceLaws.{are_pieces, bundles_these, not_one}
use Rattle.lk_bundle.proofs.pieces.count_in.Goals as goal

pub returns-then-count-lt2-clause-none : goal.returns-then-count-lt2-clause-none
returns-then-count-lt2-clause-none c _ es b =
    let some = c.in_ok-count.ensures.some in
    not_one some.0 es c.in_ok-count.count c.args.payload.now some.1 c.if-count-lt2.true some.2
    (sym c.split_at.ensures.back ∙ some.3) b

pub returns-clause-pieces : goal.returns-clause-pieces
returns-clause-pieces c =
    let some = c.in_ok-count.ensures.some in
    (are_pieces some.0 c.in_ok-count.count (drop 4 c.args.payload.now) some.1 some.2
    (sym c.split_at.ensures.back ∙ some.3)).0

pub returns-clause-some : goal.returns-clause-some
returns-clause-some c =
    let some = c.in_ok-count.ensures.some in
    let front : take 4 c.args.payload.now ≡ head = search rules in
    let whole : c.args.payload.now ≡ head ++ flat_map piece some.0 =
    sym (take-append-drop 4 c.args.payload.now)
    ∙ ap (λ (w : List ℕ). w ++ drop 4 c.args.payload.now) front
    ∙ ap (λ (w : List ℕ). head ++ w) (sym c.split_at.ensures.back ∙ some.3) in
    bundles_these some.0 c.in_ok-count.count c.args.payload.now some.1 c.if-count-lt2.false some.2 whole
