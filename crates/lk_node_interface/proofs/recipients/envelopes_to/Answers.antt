-- The envelope to the last node follows those to the others.
use Rattle.std.proofs.Common.{◌≡◌, ◌∙◌, ℕ, ◌≤◌, List, [], ◌∷◌, ◌++◌, length, map, take, ap, sym, arith}
use Rattle.std.proofs.lemmas.List.{map_push, take_all}
use Rattle.lk_node_interface.specs.Envelopes.{EnvelopeValue}
use Rattle.lk_node_interface.specs.Recipients.{to_node}
use Rattle.lk_node_interface.specs.declared.to.To.{To}
use Rattle.lk_node_interface.proofs.recipients.envelopes_to.Goals as goal

told_last : (to : ℕ → To) (bytes spelled : List ℕ) (others nodes : List ℕ) (last k : ℕ)
    (envelopes all : List EnvelopeValue) (l : EnvelopeValue) → bytes ≡ spelled → nodes ≡ others ++ last ∷ []
    → length others ≤ k → envelopes ≡ map (λ n. record { to = to n; bytes = bytes }) (take k others)
    → l ≡ record { to = to last; bytes = bytes } → all ≡ envelopes ++ l ∷ []
    → all ≡ map (λ n. record { to = to n; bytes = spelled }) nodes
told_last to bytes spelled others nodes last k envelopes all l is parts end so one more =
    let f : ℕ → EnvelopeValue = λ (n : ℕ). record { to = to n; bytes = bytes } in
    more ∙ ap (λ (ls : List EnvelopeValue). ls ++ l ∷ []) (so ∙ ap (λ (ns : List ℕ). map f ns) (take_all k others end))
    ∙ ap (λ (x : EnvelopeValue). map f others ++ x ∷ []) one
    ∙ sym (map_push f others last)
    ∙ ap (λ (ns : List ℕ). map f ns) (sym parts)
    ∙ ap (λ (bs : List ℕ). map (λ (n : ℕ). record { to = to n; bytes = bs }) nodes) is

pub returns-clause-envelopes : goal.returns-clause-envelopes
returns-clause-envelopes c =
    let end : length c.in-Some.others.now ≤ c.nodes.node-index = omega arith in
    told_last (to_node c.args.roster.now.sets) c.in_ok-bytes.bytes.items _ c.in-Some.others.now c.args.nodes.now
    c.in-Some.last.now c.nodes.node-index c.nodes.envelopes.items c.push-2.new.self.items c.envelope_to-2.result
    c.in_ok-bytes.ensures.bytes c.in-Some.ensures.cases.0 end c.nodes.invariant c.envelope_to-2.ensures
    c.in_ok-push-2.ensures.items
