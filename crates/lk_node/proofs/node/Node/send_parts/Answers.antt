use Rattle.std.proofs.Common.{ℕ, ◌≡◌, ◌∙◌, ◌∷◌, [], ◌++◌, List, length, map, Contains, refl, sym, ap, subst, inl, inr}
use Rattle.std.proofs.Common.{append_assoc, append-nil, arith}
use Rattle.std.specs.Vec.Iter.{into_iter_items}
use Rattle.std.proofs.lemmas.List.Elements.{Contains-push_cases}
use Rattle.lk_messages.specs.Grammar.{IsMessage}
use Rattle.lk_messages.specs.Values.{PartValue}
use Rattle.lk_messages.specs.declared.message.NodeMessage.TheVariants as kinds
use Rattle.lk_node_interface.specs.Envelopes.{EnvelopeValue}
use Rattle.lk_node_interface.specs.Outboxes.{nothing, with_envelope, with_envelopes}
use Rattle.lk_node_interface.specs.Saying.{saying}
use Rattle.lk_node.specs.CatchingUp.{sending_parts}
use Rattle.lk_node.specs.NodeValue.{NodeValue}
use Rattle.lk_node.specs.Telling.{envelope_to}
use Rattle.lk_node.proofs.node.Node.send_parts.Goals as goal

map_push : {X Y : Type 0} (f : X → Y) (xs : List X) (x : X) → map f xs ++ f x ∷ [] ≡ map f (xs ++ x ∷ [])
map_push f [] x = refl
map_push f (y ∷ xs) x = ap (λ l. f y ∷ l) (map_push f xs x)

-- with one more of them
sent_more : (node : NodeValue) (other : ℕ) (ps : List PartValue) (p : PartValue)
    → with_envelope (envelope_to node (kinds.Part p) other) (sending_parts node other ps nothing)
    ≡ sending_parts node other (ps ++ p ∷ []) nothing
sent_more node other ps p =
    ap (λ (ls : List EnvelopeValue). with_envelopes ls nothing)
    (map_push (λ (q : PartValue). envelope_to node (kinds.Part q) other) ps p)

nothing_left : (l : List PartValue) → length l ≡ 0 → l ≡ []
nothing_left [] h = refl
nothing_left (x ∷ xs) h = absurd (omega arith)

pub parts-preserved : goal.parts-preserved
parts-preserved g c =
    let at = c.parts in
    let x : PartValue = c.in-Some.part in
    let steps : into_iter_items at.part-iterator ≡ x ∷ into_iter_items c.next.new.self = c.in-Some.ensures.steps.0 in (
      append_assoc at.yielded (x ∷ []) _ ∙ rw (← steps) at.invariant.0,
      c.in_ok-send_to_node.ensures.said
          ∙ ap (with_envelope (envelope_to c.args.self.now (kinds.Part x) c.args.other)) at.invariant.1
          ∙ sent_more c.args.self.now c.args.other at.yielded x,
      λ p h. elim (Contains-push_cases at.yielded x p h) [
        | inl old ↦ at.invariant.2 p old
        | inr is ↦ subst (λ (q : PartValue). IsMessage (saying c.args.self.now.header (kinds.Part q))) is
            c.in_ok-send_to_node.ensures.fits
      ],
      let was = at.invariant.3 in
          let gone = c.in-Some.ensures.steps.1 in
          let short = ap length steps in
          omega arith,
    )

pub returns-clause-fits : goal.returns-clause-fits
returns-clause-fits g c =
    let at = c.parts in
    let none = c.in-None.ensures.steps in
    let empty : into_iter_items at.part-iterator ≡ [] = nothing_left _ (sym at.invariant.3 ∙ none.0) in
    let all = sym (append-nil at.yielded) ∙ rw empty at at.invariant.0
    ∙ c.into_iter-part-iterator.ensures.into_iter_gives.0 in
    λ p h. at.invariant.2 p (subst (λ (l : List PartValue). Contains l p) (sym all) h)
