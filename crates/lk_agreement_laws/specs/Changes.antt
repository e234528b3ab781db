-- How a node may change.
use Rattle.std.specs.Prelude.{◌≡◌, ℕ, suc, ◌+◌, ◌≤◌, List, [], ◌∷◌, ◌++◌, length, Contains, Option, Some, None}
use Rattle.lk_members.specs.Rosters.{members}
use Rattle.lk_members.specs.Majorities.{IsMajority}
use Rattle.lk_agreement_laws.specs.Ballots.{BallotValue, IsBelow, IsAtMost}
use Rattle.lk_agreement_laws.specs.Datagrams.{Genesis, Vote, Datagram, Accept, Accepted, HasSent, WasSent}
use Rattle.lk_agreement_laws.specs.Chosen.{Command, Chosen, ChosenAt}
use Rattle.lk_agreement_laws.specs.Soundness.{ReceivedPromise, WasPromised, IsPromisedVote, IsPromiser}
use Rattle.lk_agreement_laws.specs.Acceptors.{AcceptorState, CoversSent, AddsVote, ForgetsVotes}
use Rattle.lk_agreement_laws.specs.Nodes.{Pair, Acceptance, Term, new_term, PaxosState, Stems}

-- why a term may propose the command at the position: it has proposed nothing there, a majority of the members that the
-- executed list names has promised, and no vote that they report at the position is above one for the command
pub record MayPropose (genesis : Genesis) (done : List Command) (t : Term) (i : ℕ) (v : Command) : Type 0 where
  pub new : (w : Command) → Contains t.proposals (i, w) → ⊥
  pub reaches : i ≤ length done + genesis.alpha
  pub received : List ReceivedPromise
  pub among : (r : ReceivedPromise) → Contains received r → Contains t.received r × (r.first ≤ i)
  pub nodes : List ℕ
  pub majority : IsMajority nodes (members genesis done i)
  pub promisers : (n : ℕ) → Contains nodes n → IsPromiser received n
  pub highest : (x : Vote) → IsPromisedVote received x → x.position ≡ i
      → (y : Vote) × IsPromisedVote received y × (y.position ≡ i) × (y.command ≡ v) × IsAtMost x.ballot y.ballot

-- the first list has nothing that the second has not
abbrev pub AreAmong : List Pair → List Pair → Type 0
AreAmong rest pairs = (p : Pair) → Contains rest p → Contains pairs p

abbrev pub with_promise : AcceptorState → BallotValue → AcceptorState
with_promise s b = record { promised = b; votes = s.votes; snapshot_position = s.snapshot_position }

abbrev pub holding_acceptor : PaxosState → AcceptorState → PaxosState
holding_acceptor w s = record { acceptor = s; done = w.done; pairs = w.pairs; term = w.term }

abbrev pub with_paxos_term : PaxosState → Option Term → PaxosState
with_paxos_term w t = record { acceptor = w.acceptor; done = w.done; pairs = w.pairs; term = t }

abbrev pub with_done : PaxosState → List Command → List Pair → PaxosState
with_done w done pairs = record { acceptor = w.acceptor; done = done; pairs = pairs; term = w.term }

abbrev pub with_received : Term → ReceivedPromise → Term
with_received t r =
    record { ballot = t.ballot; received = t.received ++ r ∷ []; proposals = t.proposals; accepted = t.accepted }

abbrev pub with_proposal : Term → Pair → Term
with_proposal t p =
    record { ballot = t.ballot; received = t.received; proposals = t.proposals ++ p ∷ []; accepted = t.accepted }

abbrev pub with_acceptance : Term → Acceptance → Term
with_acceptance t a =
    record { ballot = t.ballot; received = t.received; proposals = t.proposals; accepted = t.accepted ++ a ∷ [] }

-- one change of a node, given what was sent so far
pub data Changes (genesis : Genesis) (sent : List Datagram) (n : ℕ) : PaxosState → PaxosState → Type 0 where
  -- it promises a ballot that is not below the promised one
  promises : {old : PaxosState} (b : BallotValue) → IsAtMost old.acceptor.promised b
      → Changes genesis sent n old (holding_acceptor old (with_promise old.acceptor b))
  -- it votes for what was proposed, in a ballot that is not below the promised one
  accepts : {old : PaxosState} (x : Vote) (s : AcceptorState) → IsAtMost old.acceptor.promised x.ballot
      → WasSent genesis sent (Accept x) → AddsVote old.acceptor x s
      → Changes genesis sent n old (holding_acceptor old s)
  -- it writes a snapshot of what it has executed
  compacts : {old : PaxosState} (i : ℕ) (s : AcceptorState) → i ≤ length old.done → ForgetsVotes old.acceptor i s
      → Changes genesis sent n old (holding_acceptor old s)
  -- it begins a ballot of its own, above all that it promised
  begins : {old : PaxosState} (b : BallotValue) → b.node ≡ n → IsBelow old.acceptor.promised b
      → Changes genesis sent n old (with_paxos_term (holding_acceptor old (with_promise old.acceptor b)) (Some
      (new_term b)))
  -- it hears a promise of its ballot
  hears : {old : PaxosState} (t : Term) (r : ReceivedPromise) → old.term ≡ Some t → WasPromised genesis sent t.ballot r
      → Changes genesis sent n old (with_paxos_term old (Some (with_received t r)))
  -- it proposes
  proposes : {old : PaxosState} (t : Term) (i : ℕ) (v : Command) → old.term ≡ Some t → MayPropose genesis old.done t i v
      → Changes genesis sent n old (with_paxos_term old (Some (with_proposal t (i, v))))
  -- it counts a vote for it
  counts : {old : PaxosState} (t : Term) (a : Acceptance) → old.term ≡ Some t
      → HasSent genesis sent a.node
      (Accepted (record { position = a.position; ballot = t.ballot; command = a.command }))
      → Changes genesis sent n old (with_paxos_term old (Some (with_acceptance t a)))
  -- its term ends
  leaves : {old : PaxosState} → Changes genesis sent n old (with_paxos_term old None)
  -- it learns what is chosen at a position
  learns : {old : PaxosState} (i : ℕ) (v : Command) → ChosenAt genesis sent i v
      → Changes genesis sent n old (with_done old old.done (old.pairs ++ (i, v) ∷ []))
  -- it executes the command that it learned of the next position
  executes : {old : PaxosState} (v : Command) (rest : List Pair) → Contains old.pairs (suc (length old.done), v)
      → AreAmong rest old.pairs
      → Changes genesis sent n old (with_done old (old.done ++ v ∷ []) rest)
  -- it installs a snapshot of a chosen list, which reaches as far as its own
  installs : {old : PaxosState} (L : List Command) (rest : List Pair) → Chosen genesis sent L
      → old.acceptor.snapshot_position ≤ length L → AreAmong rest old.pairs
      → Changes genesis sent n old (with_done old L rest)
  -- it stops, and restarts from an image of its disk that covers everything it has sent, and stems from what was sent
  restarts : {old : PaxosState} (image : PaxosState) → CoversSent genesis sent n image.acceptor
      → Stems genesis sent image → image.term ≡ None
      → Changes genesis sent n old image

-- any number of changes, one after another
pub data Becomes (genesis : Genesis) (sent : List Datagram) (n : ℕ) (old : PaxosState) : PaxosState → Type 0 where
  stays : Becomes genesis sent n old old
  goes_on : {mid new : PaxosState} → Becomes genesis sent n old mid → Changes genesis sent n mid new
      → Becomes genesis sent n old new
