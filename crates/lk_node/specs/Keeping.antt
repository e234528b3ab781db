-- The invariant between what a replica holds in memory and its store.
use Rattle.std.specs.Prelude.{◌≡◌, ◌⊎◌, ℕ, ◌≤◌, List, length, Some, Contains}
use Rattle.std.specs.List.{AllByRecursion}
use Rattle.lk_types.specs.declared.entry.Entry.{Entry}
use Rattle.lk_types.specs.declared.entry.Entry.TheVariants.{Promise, Vote, Decided}
use Rattle.lk_store_format.specs.Standings.{HasHeader, StandsFor}
use Rattle.lk_store_format.specs.Entries.{plain}
use Rattle.lk_store_format.specs.Values.{HeaderValue, StandingValue}
use Rattle.lk_store_format.specs.declared.stored.Stored.{Stored}
use Rattle.lk_log.specs.StoreValue.{StoreValue}
use Rattle.lk_log.specs.Stores.{HoldsEntries}
use Rattle.lk_state.specs.Meanings.{Meaning}
use Rattle.lk_agreement_laws.specs.Acceptors.{AcceptorState}
use Rattle.lk_agreement_laws.specs.Chosen.{command_at}
use Rattle.lk_agreement_laws.specs.Nodes.{Term, PaxosState}
use Rattle.lk_leader.specs.Terms.{TermValue, LeaderValue}
use Rattle.lk_learner.specs.Following.{AgreesWithList}
use Rattle.lk_learner.specs.Learners.{LearnerValue}
use Rattle.lk_leader.specs.LedTerms.{AgreesWithTerm}
use Rattle.lk_node.specs.Histories.{Genesis}
use Rattle.lk_node.specs.Holdings.{Holding}
use Rattle.lk_node.specs.Leavings.{header_of, acceptor_of}
use Rattle.lk_node.specs.NodeValue.{NodeValue}
use Rattle.lk_node.specs.Reaching.{EntriesLieNear, IsRestorable}

-- the entry tells of a decided command
abbrev pub IsDecidedEntry : Entry → Type 0
IsDecidedEntry (Promise b) = ⊥
IsDecidedEntry (Vote x) = ⊥
IsDecidedEntry (Decided i c) = Unit {0}

-- the entry tells of a decided command that the node knows: it is among its pairs, or was executed
abbrev pub IsKnown : PaxosState → Entry → Type 0
IsKnown w (Promise b) = ⊥
IsKnown w (Vote x) = ⊥
IsKnown w (Decided i c) = Contains w.pairs (i, c) ⊎ (command_at w.done i ≡ Some c)

-- the store is that of this header, all its entries except decided commands are synced, and they stand for what the
-- acceptor holds
pub record StoreKeeps (whose : HeaderValue) (store : StoreValue) (acceptor : AcceptorState) : Type 0 where
  pub entries : List Stored
  pub loose : List Entry
  pub holds : HoldsEntries store entries (plain loose)
  pub decided : AllByRecursion IsDecidedEntry loose
  pub header : HasHeader entries whose
  pub standing : StandingValue
  pub stands : StandsFor entries standing
  pub remembers : acceptor_of standing ≡ acceptor

-- the leader's term, if any, stands for the one of the Paxos state
abbrev pub LeadsOn : LearnerValue → LeaderValue → PaxosState → Type 0
LeadsOn l leader w = (k : TermValue) → leader.term ≡ Some k
    → (t : Term) × (w.term ≡ Some t) × AgreesWithTerm l.whole.roster.executed (length l.whole.roster.sets) t k

-- what a node holds: what its acceptor does, the commands that its state sums up, those that are decided and wait for
-- an earlier one, a term for which its leader stands, the requests that wait, and the snapshot being gathered
pub record IsHeld (m : Meaning) (node : NodeValue) (genesis : Genesis) (x : Holding) : Type 0 where
  pub acceptor : x.paxos.acceptor ≡ node.acceptor.state
  pub follows : AgreesWithList m genesis x.paxos.done x.paxos.pairs node.learner
  pub leads : LeadsOn node.learner node.leader x.paxos
  pub waiting : x.waiting ≡ node.leader.waiting
  pub gathered : x.gathered ≡ node.learner.gathered

-- the replica, by its parts, is that of the node in the cluster with this genesis, and holds this; its store tells what
-- the node has executed, and what it holds lies near that
pub record ReplicaHolds (m : Meaning) (node : NodeValue) (store : StoreValue) (genesis : Genesis) (n : ℕ)
    (x : Holding) : Type 0 where
  pub whose : node.header ≡ header_of genesis n
  pub keeps : StoreKeeps (header_of genesis n) store node.acceptor.state
  pub known : AllByRecursion (IsKnown x.paxos) keeps.loose
  pub held : IsHeld m node genesis x
  pub told : IsRestorable genesis.alpha keeps.standing keeps.loose node

-- The same in the middle of a step that has installed a snapshot: the store does not tell of that yet.
pub record HoldsBeforeRebase (m : Meaning) (node : NodeValue) (store : StoreValue) (genesis : Genesis) (n : ℕ)
    (x : Holding) : Type 0 where
  pub whose : node.header ≡ header_of genesis n
  pub keeps : StoreKeeps (header_of genesis n) store node.acceptor.state
  pub known : AllByRecursion (IsKnown x.paxos) keeps.loose
  pub held : IsHeld m node genesis x
  pub some : 1 ≤ genesis.alpha
  pub near : EntriesLieNear genesis.alpha keeps.standing keeps.loose
