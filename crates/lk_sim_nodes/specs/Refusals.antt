-- The numbers of the reasons for which an event is rejected, and the reasons that lie in whether its node is up.
use Rattle.std.specs.Prelude.{ℕ, List}
use Rattle.lk_sim_nodes.specs.SimNodes.{IsUp, IsDown, HasNo}
use Rattle.lk_sim_nodes.specs.declared.refused.Refused.{Refused}
use Rattle.lk_sim_nodes.specs.declared.refused.Refused.TheVariants.{NoSuchNode, NotUp, AlreadyUp, NoSuchDatagram}
use Rattle.lk_sim_nodes.specs.declared.refused.Refused.TheVariants.{Forged, WorldFull, WorldMemory}
use Rattle.lk_sim_nodes.specs.declared.sim_node.SimNode.{SimNode}

abbrev pub refusal_number : Refused → ℕ
refusal_number NoSuchNode = 16
refusal_number NotUp = 17
refusal_number AlreadyUp = 18
refusal_number NoSuchDatagram = 19
refusal_number Forged = 20
refusal_number WorldFull = 21
refusal_number WorldMemory = 22

-- the node must be up: why it is not
abbrev pub NoneUp : {R : Type 0} → List (SimNode R) → ℕ → Refused → Type 0
NoneUp sim_nodes n NoSuchNode = HasNo sim_nodes n
NoneUp sim_nodes n NotUp = IsDown sim_nodes n
NoneUp sim_nodes n _ = ⊥

-- the node must be down: why it is not
abbrev pub NoRestart : {R : Type 0} → List (SimNode R) → ℕ → Refused → Type 0
NoRestart sim_nodes n NoSuchNode = HasNo sim_nodes n
NoRestart sim_nodes n AlreadyUp = IsUp sim_nodes n
NoRestart sim_nodes n _ = ⊥
