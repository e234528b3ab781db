-- When a leader's state agrees with a term of the history.
use Rattle.std.specs.Prelude.{◌≡◌, ℕ, ◌+◌, ◌<◌, ◌≤◌, Contains}
use Rattle.lk_agreement_laws.specs.Nodes.{Term}
use Rattle.lk_leader.specs.Terms.{Command, ReceivedPromise, ProposalValue, TermValue}

-- a leader that keeps this much leads the term, with this many executed positions and a window of this size. The
-- term lists everything that was ever proposed and heard; what is kept is among these, with each proposal that is not
-- executed
pub record AgreesWithTerm (executed alpha : ℕ) (t : Term) (k : TermValue) : Type 0 where
  pub ballot : t.ballot ≡ k.ballot
  pub received : (r : ReceivedPromise) → Contains k.received r → Contains t.received r
  pub proposals : (p : ProposalValue) → Contains k.proposals p → Contains t.proposals (p.position, p.command)
  pub kept : (i : ℕ) (v : Command) → Contains t.proposals (i, v) → executed < i
      → (p : ProposalValue) × Contains k.proposals p × (p.position ≡ i) × (p.command ≡ v)
  pub within : (i : ℕ) (v : Command) → Contains t.proposals (i, v) → i ≤ executed + alpha
  pub accepted : (p : ProposalValue) (n : ℕ) → Contains k.proposals p → Contains p.accepted n
      → Contains t.accepted (record { node = n; position = p.position; command = p.command })
