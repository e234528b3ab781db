-- A ballot that a node begins: it goes on, and may ask for promises.
use Rattle.std.proofs.Common.{◌≡◌, ℕ, ◌+◌, inl, inr, List, [], Some, Contains, refl, sym, ◌∙◌, ap, subst, arith}
use Rattle.lk_types.specs.BallotValue.{BallotValue}
use Rattle.lk_types.specs.Ballots.{IsBelow, IsAtMost}
use Rattle.lk_types.specs.declared.entry.Entry.TheVariants as entry
use Rattle.lk_messages.specs.Grammar.{IsMessage}
use Rattle.lk_messages.specs.declared.message.NodeMessage.TheVariants as kinds
use Rattle.lk_store_format.specs.Values.{HeaderValue}
use Rattle.lk_state.specs.Meanings.{Meaning}
use Rattle.lk_agreement_laws.specs.Acceptors.{AcceptorState}
use Rattle.lk_agreement_laws.specs.Changes.{begins, holding_acceptor, with_paxos_term, with_promise}
use Rattle.lk_agreement_laws.specs.Nodes.{Term, Pair, new_term}
use Rattle.lk_agreement_laws.proofs.Histories.{change_fits}
use Rattle.lk_acceptor.specs.States.{acceptor_with}
use Rattle.lk_acceptor.proofs.Acceptors.{own_written}
use Rattle.lk_leader.specs.Terms.{TermValue, begun}
use Rattle.lk_leader.proofs.Leaderships.{begun_leads}
use Rattle.lk_leader.specs.LedTerms.{AgreesWithTerm}
use Rattle.lk_learner.specs.Learners.{executed}
use Rattle.lk_node_interface.specs.Outboxes.{OutboxValue, nothing, with_entry}
use Rattle.lk_node_interface.specs.Saying.{saying}
use Rattle.lk_node.specs.Beginning.{beginning, BeginsBallot}
use Rattle.lk_node.specs.Histories.{History}
use Rattle.lk_node.specs.NodeValue.{NodeValue}
use Rattle.lk_node.specs.SafeSteps.{ActsSafely}
use Rattle.lk_node.specs.Telling.{telling}
use Rattle.lk_node.specs.Waiting.{ticked}
use Rattle.lk_node.proofs.Changing.{alike_goes_on}
use Rattle.lk_node.proofs.ManyEnvelopes.{says_all}
use Rattle.lk_node.proofs.SafeSteps.{then_goes_on}

is_begun : (b : BallotValue) (k : TermValue) → Some (begun b) ≡ Some k → begun b ≡ k
is_begun b k e = cc e

is_new : (b : BallotValue) (t : Term) → Some (new_term b) ≡ Some t → new_term b ≡ t
is_new b t e = cc e

no_pair : (p : Pair) → Contains [] p → ⊥
no_pair p c = omega (arith, c.1)

-- the ballot is promised and written, and a term of it begins
pub begins_goes_on : (m : Meaning) (Heard : History → Type 0) (node : NodeValue) (b : BallotValue)
    → b.node ≡ node.header.node → IsBelow node.acceptor.state.promised b
    → ActsSafely m Heard node (beginning b node) nothing (with_entry (entry.Promise b) nothing)
begins_goes_on m Heard node b own below = record {
  binds = λ first k. record {
    header = k.header;
    written = own_written node.acceptor.state b below ∙ ap (acceptor_with (entry.Promise b)) k.written;
    unsynced = λ e. absurd (cc e);
    still = λ e. absurd (cc e);
    tells = λ l c. absurd (omega (arith, c.1));
  };
  continues = λ h n loose s heard. record {
    lawful = s.lawful;
    whose = s.whose;
    holding = record {
      paxos = with_paxos_term (holding_acceptor s.holding.paxos (with_promise s.holding.paxos.acceptor b)) (Some
          (new_term b));
      waiting = s.holding.waiting;
      gathered = s.holding.gathered;
    };
    held = record {
      acceptor = ap (λ (a : AcceptorState). with_promise a b) s.held.acceptor;
      follows = s.held.follows;
      leads = λ k at. (new_term b, refl, subst (AgreesWithTerm _ _ (new_term b)) (is_begun b k at) (begun_leads _ _ b));
      waiting = s.held.waiting;
      gathered = s.held.gathered;
    };
    fits = record {
      paxos = change_fits h.genesis h.sent s.lawful.sound n s.holding.paxos _ s.fits.paxos
          (begins b (own ∙ ap (λ (w : HeaderValue). w.node) s.whose)
          (subst (λ (a : AcceptorState). IsBelow a.promised b) (sym s.held.acceptor) below));
      waiting = s.fits.waiting;
      proposals = λ t at i v c. absurd
          (no_pair (i, v) (subst (λ (u : Term). Contains u.proposals (i, v)) (sym (is_new b t at)) c));
      gathered = s.fits.gathered;
    };
    rests = (tt, tt);
    known = s.known;
    known_unsynced = λ e. absurd (cc e);
    may = λ d c. absurd (omega (arith, c.1));
    noted = λ x c. absurd (omega (arith, c.1));
  };
}

-- and the nodes of the window are asked for their promise
pub asks_goes_on : (m : Meaning) (Heard : History → Type 0) (node : NodeValue) (b : BallotValue) (first : ℕ)
    (nodes : List ℕ) → b.node ≡ node.header.node → IsBelow node.acceptor.state.promised b
    → IsMessage (saying (beginning b node).header (kinds.Prepare b first))
    → ActsSafely m Heard node (beginning b node) nothing
    (telling (beginning b node) nodes (kinds.Prepare b first) (with_entry (entry.Promise b) nothing))
asks_goes_on m Heard node b first nodes own below fits =
    then_goes_on m Heard node (beginning b node) (beginning b node) nothing (with_entry (entry.Promise b) nothing)
    (telling (beginning b node) nodes (kinds.Prepare b first) (with_entry (entry.Promise b) nothing))
    (begins_goes_on m Heard node b own below)
    (says_all m Heard (beginning b node) (with_entry (entry.Promise b) nothing) nodes
    (kinds.Prepare b first) fits (inr refl) (λ e. tt)
    (λ o h n loose s heard. (
      subst (λ (a : AcceptorState). IsAtMost b a.promised) (sym s.held.acceptor) (inr refl),
      record { under = s.holding.paxos.done; chosen = s.fits.paxos.stems.done; bears = tt },
    )))

pub starts_goes_on : (m : Meaning) (Heard : History → Type 0) (old new : NodeValue) (b : BallotValue)
    (out : OutboxValue) → b.node ≡ old.header.node → IsBelow old.acceptor.state.promised b → BeginsBallot b old new out
    → ActsSafely m Heard old new nothing out
starts_goes_on m Heard old new b out own below k =
    subst (λ (node : NodeValue). ActsSafely m Heard old node nothing out) (sym k.becomes)
    (elim k.asks [
      | inl asks ↦ subst (ActsSafely m Heard old (beginning b old) nothing) (sym asks.1)
          (asks_goes_on m Heard old b (executed old.learner + 1) k.nodes own below asks.0)
      | inr last ↦
          subst (ActsSafely m Heard old (beginning b old) nothing) (sym last.1) (begins_goes_on m Heard old b own below)
    ])

-- a tick is counted in front
pub ticked_goes_on : (m : Meaning) (Heard : History → Type 0) (old new : NodeValue) (out : OutboxValue)
    → ActsSafely m Heard (ticked old) new nothing out → ActsSafely m Heard old new nothing out
ticked_goes_on m Heard old new out f =
    then_goes_on m Heard old (ticked old) new nothing nothing out
    (alike_goes_on m Heard old (ticked old) nothing (record { header = refl; acceptor = refl; learner = refl }) refl) f
