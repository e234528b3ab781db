-- Envelopes to several nodes.
use Rattle.std.proofs.Common.{◌≡◌, ℕ, true, List, [], ◌∷◌, ◌++◌, map, refl, sym, ap, subst}
use Rattle.lk_types.specs.declared.entry.Entry.{Entry}
use Rattle.lk_messages.specs.Grammar.{IsMessage}
use Rattle.lk_messages.specs.declared.message.NodeMessage.{NodeMessage}
use Rattle.lk_agreement_laws.specs.Acceptors.{Covers}
use Rattle.lk_agreement_laws.specs.Nodes.{MaySend}
use Rattle.lk_state.specs.Meanings.{Meaning}
use Rattle.lk_node_interface.specs.Envelopes.{EnvelopeValue}
use Rattle.lk_node_interface.specs.Outboxes.{OutboxValue, with_envelope}
use Rattle.lk_node_interface.specs.Saying.{saying}
use Rattle.lk_node.specs.Histories.{History}
use Rattle.lk_node.specs.NodeValue.{NodeValue}
use Rattle.lk_node.specs.Saying.{to_node}
use Rattle.lk_node.specs.BorneOut.{MessageIsBorneOut}
use Rattle.lk_node.specs.SafeSteps.{IsNeitherPromiseNorVote, IsSafeStep, ActsSafely}
use Rattle.lk_node.specs.Telling.{envelope_to, telling}
use Rattle.lk_node.proofs.SafeSteps.{rests_here, then_goes_on, says}

envelopes_behind : (xs ys zs : List EnvelopeValue) → (xs ++ ys) ++ zs ≡ xs ++ (ys ++ zs)
envelopes_behind [] ys zs = refl
envelopes_behind (x ∷ xs) ys zs = ap (λ (ls : List EnvelopeValue). x ∷ ls) (envelopes_behind xs ys zs)

no_envelopes : (xs : List EnvelopeValue) → xs ++ [] ≡ xs
no_envelopes [] = refl
no_envelopes (x ∷ xs) = ap (λ (ls : List EnvelopeValue). x ∷ ls) (no_envelopes xs)

abbrev pub enveloped : OutboxValue → List EnvelopeValue → OutboxValue
enveloped out ls =
    record { rebase = out.rebase; entries = out.entries; sync = out.sync; notes = out.notes; envelopes = ls }

-- envelopes to several nodes of a message that the node may send, and that its acceptor covers
pub says_all : (m : Meaning) (Heard : History → Type 0) (node : NodeValue) (out : OutboxValue) (nodes : List ℕ)
    (message : NodeMessage) → IsMessage (saying node.header message) → Covers node.acceptor.state message
    → (out.rebase ≡ true → IsNeitherPromiseNorVote message)
    → ((o : OutboxValue) (h : History) (n : ℕ) (loose : List Entry) (s : IsSafeStep m h n loose node o) → Heard h
    → MaySend h.genesis h.sent s.holding.paxos message × MessageIsBorneOut m h message)
    → ActsSafely m Heard node node out (telling node nodes message out)
says_all m Heard node out [] message fits covers neither may =
    subst (λ (ls : List EnvelopeValue). ActsSafely m Heard node node out (enveloped out ls))
    (sym (no_envelopes out.envelopes))
    (rests_here m Heard node out)
says_all m Heard node out (k ∷ nodes) message fits covers neither may =
    subst (λ (ls : List EnvelopeValue). ActsSafely m Heard node node out (enveloped out ls))
    (envelopes_behind out.envelopes (envelope_to node message k ∷ []) (map (envelope_to node message) nodes))
    (then_goes_on m Heard node node node out (with_envelope (envelope_to node message k) out)
    (telling node nodes message (with_envelope (envelope_to node message k) out))
    (says m Heard node out (to_node node k) message fits covers neither (may out))
    (says_all m Heard node (with_envelope (envelope_to node message k) out) nodes message fits covers neither may))
