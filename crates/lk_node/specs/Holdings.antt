-- What a running node holds, and when that fits a history.
use Rattle.std.specs.Prelude.{◌≡◌, ℕ, List, Contains, Option, Some}
use Rattle.lk_state.specs.Meanings.{Meaning}
use Rattle.lk_agreement_laws.specs.Nodes.{Term, PaxosState, PaxosFits}
use Rattle.lk_agreement_laws.specs.Snapshots.{IsSlice}
use Rattle.lk_learner.specs.Learners.{GatheredValue}
use Rattle.lk_node.specs.Histories.{History, Command, RequestValue, WasAsked}
use Rattle.lk_node.specs.BorneOut.{text}

-- a Paxos state, the requests that wait for the node to propose them, and a snapshot being gathered
pub record Holding : Type 0 where
  pub paxos : PaxosState
  pub waiting : List RequestValue
  pub gathered : Option GatheredValue

-- all of it fits what happened
pub record HoldingFits (m : Meaning) (h : History) (n : ℕ) (x : Holding) : Type 0 where
  pub paxos : PaxosFits h.genesis h.sent n x.paxos
  pub waiting : (r : RequestValue) → Contains x.waiting r → Contains h.asked r
  pub proposals : (t : Term) → x.paxos.term ≡ Some t → (i : ℕ) (v : Command) → Contains t.proposals (i, v)
      → WasAsked h v
  pub gathered : (g : GatheredValue) → x.gathered ≡ Some g
      → IsSlice h.genesis h.sent (text m h.genesis) g.position g.total 0 g.bytes
