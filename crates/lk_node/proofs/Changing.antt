-- Changes of a node that safety does not rest on.
use Rattle.std.proofs.Common.{◌≡◌, ℕ, Bool, true, false, cond, List, [], ◌∷◌, Contains, Some, None, refl, sym, ◌∙◌, ap}
use Rattle.std.proofs.Common.{subst, subst₂, arith}
use Rattle.std.specs.List.{AllByRecursion}
use Rattle.lk_types.specs.BallotValue.{BallotValue}
use Rattle.lk_types.specs.Ballots.{IsAtMost}
use Rattle.lk_types.specs.declared.entry.Entry.{Entry}
use Rattle.lk_messages.specs.declared.message.NodeMessage.{NodeMessage}
use Rattle.lk_messages.specs.declared.message.NodeMessage.TheVariants as kinds
use Rattle.lk_agreement_laws.specs.Acceptors.{AcceptorState}
use Rattle.lk_agreement_laws.specs.Nodes.{Pair, Term, PaxosState, MayPromise, MaySend}
use Rattle.lk_store_format.specs.Values.{HeaderValue}
use Rattle.lk_state.specs.Meanings.{Meaning}
use Rattle.lk_acceptor.specs.AcceptorValue.{AcceptorValue}
use Rattle.lk_leader.specs.Terms.{LeaderValue, TermValue, new_leader}
use Rattle.lk_learner.specs.Following.{AgreesWithList}
use Rattle.lk_learner.specs.Learners.{LearnerValue}
use Rattle.lk_node_interface.specs.Outboxes.{OutboxValue}
use Rattle.lk_node.specs.Histories.{History, Genesis, Datagram}
use Rattle.lk_node.specs.Keeping.{IsKnown, IsHeld, LeadsOn}
use Rattle.lk_node.specs.Calls.{MayGo}
use Rattle.lk_node.specs.Holdings.{Holding, HoldingFits}
use Rattle.lk_node.specs.NodeValue.{NodeValue}
use Rattle.lk_node.specs.SafeSteps.{IsCoveredEnvelope, Binds, IsSafeStep, ActsSafely}
use Rattle.lk_leader.specs.Terms.{is_term_below}
use Rattle.lk_node.specs.Yielding.{without_term, yielded}

-- all that safety rests on is as it was
pub record IsAlike (old new : NodeValue) : Type 0 where
  pub header : new.header ≡ old.header
  pub acceptor : new.acceptor ≡ old.acceptor
  pub learner : new.learner ≡ old.learner

binds_alike : (first old new : NodeValue) (out : OutboxValue) → IsAlike old new
    → Binds first old out → Binds first new out
binds_alike first old new out like b = record {
  header = like.header ∙ b.header;
  written = ap (λ (a : AcceptorValue). a.state) like.acceptor ∙ b.written;
  unsynced = b.unsynced;
  still = λ e. ap (λ (a : AcceptorValue). a.state) like.acceptor ∙ b.still e;
  tells = λ l c. subst (λ (w : HeaderValue). IsCoveredEnvelope w new.acceptor.state out.rebase l) (sym like.header)
      (subst (λ (a : AcceptorValue). IsCoveredEnvelope old.header a.state out.rebase l) (sym like.acceptor)
      (b.tells l c));
}

-- the leader stays too
pub alike_goes_on : (m : Meaning) (Heard : History → Type 0) (old new : NodeValue) (out : OutboxValue)
    → IsAlike old new → new.leader ≡ old.leader → ActsSafely m Heard old new out out
alike_goes_on m Heard old new out like leads = record {
  binds = λ first b. binds_alike first old new out like b;
  continues = λ h n loose s heard. record {
    lawful = s.lawful;
    whose = like.header ∙ s.whose;
    holding = s.holding;
    held = record {
      acceptor = s.held.acceptor ∙ ap (λ (a : AcceptorValue). a.state) (sym like.acceptor);
      follows = subst (λ (l : LearnerValue). AgreesWithList m h.genesis s.holding.paxos.done s.holding.paxos.pairs l)
          (sym like.learner) s.held.follows;
      leads = subst₂ (λ (l : LearnerValue) (k : LeaderValue). LeadsOn l k s.holding.paxos) (sym like.learner)
          (sym leads) s.held.leads;
      waiting = s.held.waiting ∙ ap (λ (k : LeaderValue). k.waiting) (sym leads);
      gathered = s.held.gathered ∙ ap (λ (l : LearnerValue). l.gathered) (sym like.learner);
    };
    fits = s.fits;
    rests = s.rests;
    known = s.known;
    known_unsynced = s.known_unsynced;
    may = s.may;
    noted = s.noted;
  };
}

-- the term ends, and nothing waits
pub leaves_goes_on : (m : Meaning) (Heard : History → Type 0) (old new : NodeValue) (out : OutboxValue)
    → IsAlike old new → new.leader ≡ new_leader → ActsSafely m Heard old new out out
leaves_goes_on m Heard old new out like leads = record {
  binds = λ first b. binds_alike first old new out like b;
  continues = λ h n loose s heard. record {
    lawful = s.lawful;
    whose = like.header ∙ s.whose;
    holding = record { paxos = s.holding.paxos; waiting = []; gathered = s.holding.gathered };
    held = record {
      acceptor = s.held.acceptor ∙ ap (λ (a : AcceptorValue). a.state) (sym like.acceptor);
      follows = subst (λ (l : LearnerValue). AgreesWithList m h.genesis s.holding.paxos.done s.holding.paxos.pairs l)
          (sym like.learner) s.held.follows;
      leads = λ k at. absurd (no_term k (sym (ap (λ (l : LeaderValue). l.term) leads) ∙ at));
      waiting = sym (ap (λ (k : LeaderValue). k.waiting) leads);
      gathered = s.held.gathered ∙ ap (λ (l : LearnerValue). l.gathered) (sym like.learner);
    };
    fits = record {
      paxos = s.fits.paxos;
      waiting = λ r c. absurd (omega (arith, c.1));
      proposals = s.fits.proposals;
      gathered = s.fits.gathered;
    };
    rests = s.rests;
    known = s.known;
    known_unsynced = s.known_unsynced;
    may = s.may;
    noted = s.noted;
  };
}
  where
    no_term : (k : TermValue) → None ≡ Some k → ⊥
    no_term k e = cc e

-- a ballot was seen
pub yielded_goes_on : (m : Meaning) (Heard : History → Type 0) (b : BallotValue) (node : NodeValue) (out : OutboxValue)
    → ActsSafely m Heard node (yielded b node) out out
yielded_goes_on m Heard b node out = by_test (is_term_below b node.leader.term)
  where
    by_test : (t : Bool) → ActsSafely m Heard node (cond t (without_term node) node) out out
    by_test true = leaves_goes_on m Heard node (without_term node) out
        (record { header = refl; acceptor = refl; learner = refl }) refl
    by_test false = alike_goes_on m Heard node node out (record { header = refl; acceptor = refl; learner = refl }) refl

-- ---- the Paxos state goes on

-- the second state has what the first may have sent by: the same acceptor, and the term, if any, with all its proposals
pub record Grows (old new : PaxosState) : Type 0 where
  pub acceptor : new.acceptor ≡ old.acceptor
  pub term : (t : Term) → old.term ≡ Some t
      → (u : Term) × (new.term ≡ Some u) × (u.ballot ≡ t.ballot)
      × ((p : Pair) → Contains t.proposals p → Contains u.proposals p)

may_send_on : (genesis : Genesis) (sent : List Datagram) (old new : PaxosState) → Grows old new → (x : NodeMessage)
    → MaySend genesis sent old x → MaySend genesis sent new x
may_send_on genesis sent old new g (kinds.Prepare b first) may =
    subst (λ (a : AcceptorState). IsAtMost b a.promised) (sym g.acceptor) may
may_send_on genesis sent old new g (kinds.Promise p) may =
    subst (λ (a : AcceptorState). MayPromise a p) (sym g.acceptor) may
may_send_on genesis sent old new g (kinds.Accept x) may =
    let u = g.term may.0 may.1 in
    (u.0, u.1, u.2 ∙ may.2, u.3 (x.position, x.command) may.3)
may_send_on genesis sent old new g (kinds.Accepted x) may =
    subst (λ (a : AcceptorState). (a.promised ≡ x.ballot) × Contains a.votes x) (sym g.acceptor) may
may_send_on genesis sent old new g (kinds.Nack k) may = may
may_send_on genesis sent old new g (kinds.Decided d) may = may
may_send_on genesis sent old new g (kinds.Want k) may = may
may_send_on genesis sent old new g (kinds.Part p) may = may
may_send_on genesis sent old new g (kinds.Answer k) may = may
may_send_on genesis sent old new g (kinds.Elsewhere k) may = may
may_send_on genesis sent old new g (kinds.Passed p) may = may
may_send_on genesis sent old new g (kinds.Lead b k) may = may

pub may_go_on : (m : Meaning) (h : History) (n : ℕ) (old new : PaxosState) → Grows old new → (d : Datagram)
    → MayGo m h n old d → MayGo m h n new d
may_go_on m h n old new g d k =
    record {
      message = k.message;
      from = k.from;
      spelled = k.spelled;
      may = may_send_on h.genesis h.sent old new g k.message k.may;
      borne_out = k.borne_out;
    }

all_on : (P Q : Entry → Type 0) (es : List Entry) → ((e : Entry) → P e → Q e)
    → AllByRecursion P es → AllByRecursion Q es
all_on P Q [] f a = tt
all_on P Q (e ∷ es) f a = (f e a.0, all_on P Q es f a.1)

-- what a node holds after a change that leaves its acceptor alone: it fits, its state has grown, and knows what it knew
pub record IsFollowed (m : Meaning) (h : History) (n : ℕ) (old : PaxosState) (new : NodeValue) : Type 0 where
  pub holding : Holding
  pub held : IsHeld m new h.genesis holding
  pub fits : HoldingFits m h n holding
  pub grows : Grows old holding.paxos
  pub knows : (e : Entry) → IsKnown old e → IsKnown holding.paxos e

-- such a change goes on
pub change_goes_on : (m : Meaning) (Heard : History → Type 0) (old new : NodeValue) (out : OutboxValue)
    → new.header ≡ old.header → new.acceptor.state ≡ old.acceptor.state
    → ((h : History) (n : ℕ) (loose : List Entry) (s : IsSafeStep m h n loose old out) → Heard h
    → IsFollowed m h n s.holding.paxos new) → ActsSafely m Heard old new out out
change_goes_on m Heard old new out header state f = record {
  binds = λ first b. record {
    header = header ∙ b.header;
    written = state ∙ b.written;
    unsynced = b.unsynced;
    still = λ e. state ∙ b.still e;
    tells = λ l c. subst (λ (w : HeaderValue). IsCoveredEnvelope w new.acceptor.state out.rebase l) (sym header)
        (subst (λ (a : AcceptorState). IsCoveredEnvelope old.header a out.rebase l) (sym state) (b.tells l c));
  };
  continues = λ h n loose s heard.
      let u = f h n loose s heard in
      record {
        lawful = s.lawful;
        whose = header ∙ s.whose;
        holding = u.holding;
        held = u.held;
        fits = u.fits;
        rests = s.rests;
        known = all_on (IsKnown s.holding.paxos) (IsKnown u.holding.paxos) loose u.knows s.known;
        known_unsynced = λ e. all_on (IsKnown s.holding.paxos) (IsKnown u.holding.paxos) out.entries u.knows
            (s.known_unsynced e);
        may = λ d c. may_go_on m h n s.holding.paxos u.holding.paxos u.grows d (s.may d c);
        noted = s.noted;
      };
}
