-- Which reply of an acceptor grants what was asked.
use Rattle.std.specs.Prelude.{Bool, true, false}
use Rattle.lk_messages.specs.declared.message.NodeMessage.{NodeMessage}
use Rattle.lk_messages.specs.declared.message.NodeMessage.TheVariants as kinds

-- a reply of an acceptor that is no rejection
abbrev pub is_granted : NodeMessage → Bool
is_granted (kinds.Nack k) = false
is_granted _ = true
