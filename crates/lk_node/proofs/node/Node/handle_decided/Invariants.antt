use Rattle.std.proofs.Common.{◌≡◌, ℕ, drop}
use Rattle.lk_messages.specs.declared.message.NodeMessage.TheVariants as kinds
use Rattle.lk_agreement_laws.specs.Datagrams.{HasSent}
use Rattle.lk_node_interface.specs.Outboxes.{nothing}
use Rattle.lk_node.specs.DecidedPairs.{LearnsPairs}
use Rattle.lk_node.specs.SafeSteps.{ActsSafely}
use Rattle.lk_node.proofs.node.Node.handle_decided.Given as goal

abbrev pub invariant-pairs : goal.invariant-pairs
invariant-pairs g l =
    LearnsPairs g.M.Machine.meaning l.decided.first l.decided.commands l.fn.self nothing l.index l.self l.out
    × ((from : ℕ) → ActsSafely g.M.Machine.meaning
    (λ h. HasSent h.genesis h.sent from (kinds.Decided l.decided)) l.fn.self l.self nothing l.out)
    × (l.rest ≡ drop l.index l.decided.commands)
