use Rattle.std.proofs.Common.{rules, ◌≡◌, ◌∙◌, inl, inr, ℕ, suc, ◌+◌, ◌-◌, ◌≤◌, ◌++◌, List, [], ◌∷◌, length, ap}
use Rattle.std.proofs.Common.{sym, arith}
use Rattle.lk_healing.proofs.Posts.{one_place_more}
use Rattle.lk_healing.specs.Feeds.{places_from}
use Rattle.lk_healing.proofs.feeding.places_after.Goals as goal

pub places-preserved : goal.places-preserved
places-preserved c =
    let count : ℕ = c.args.count in
    let i : ℕ = c.places.i in
    let within : count ≤ i = search rules in
    let joined : c.add_place.new.places.items ≡ c.places.places.items ++ (i + 1) ∷ [] = search rules in
    let here : suc (count + (i - count)) ≡ i + 1 = omega (arith, within) in
    let more : suc (i - count) ≡ i + 1 - count = omega (arith, within) in (
      joined ∙ ap (λ (l : List ℕ). l ++ (i + 1) ∷ []) c.places.invariant.0
          ∙ ap (λ (j : ℕ). places_from count (i - count) ++ j ∷ []) (sym here)
          ∙ sym (one_place_more count (i - count))
          ∙ ap (λ (k : ℕ). places_from count k) more,
      inr (search rules),
    )

pub places-init : goal.places-init
places-init c = (search rules, inl (search rules))

pub returns : goal.returns
returns c =
    let count : ℕ = c.args.count in
    let past : length c.args.sent.now ≤ c.places.i = search rules in
    let low : count ≤ c.places.i = search rules in
    let same : c.places.i - count ≡ length c.args.sent.now - count = elim c.places.invariant.1 [
      | inl first ↦ omega (arith, first, past)
      | inr last ↦ omega (arith, last, past)
    ] in
    c.places.invariant.0 ∙ ap (λ (k : ℕ). places_from count k) same
