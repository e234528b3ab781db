-- What a node answers as an acceptor it may send, and its acceptor then covers it; what it writes rests on what was
-- sent.
use Rattle.std.proofs.Common.{◌≡◌, ℕ, inl, inr, Bool, true, false, cond, List, [], ◌∷◌, Option, Some, None, Contains}
use Rattle.std.proofs.Common.{refl, sym, ◌∙◌, ap, subst, subst₂, arith, Result, Ok, Err}
use Rattle.std.specs.Prelude.{IfOk, OnOk}
use Rattle.std.specs.List.{AllByRecursion}
use Rattle.lk_types.specs.BallotValue.{BallotValue}
use Rattle.lk_types.specs.Ballots.{IsAtMost}
use Rattle.lk_types.specs.declared.entry.Entry.{Entry}
use Rattle.lk_types.specs.declared.entry.Entry.TheVariants as entry
use Rattle.lk_types.specs.declared.vote.Vote.{Vote}
use Rattle.lk_messages.specs.Grammar.{IsMessage}
use Rattle.lk_messages.specs.declared.message.NodeMessage.{NodeMessage}
use Rattle.lk_messages.specs.declared.message.NodeMessage.TheVariants as kinds
use Rattle.lk_state.specs.Meanings.{Meaning}
use Rattle.lk_agreement_laws.specs.Acceptors.{AcceptorState, Covers, AddsVote}
use Rattle.lk_agreement_laws.specs.Changes.{promises, accepts, holding_acceptor, with_promise}
use Rattle.lk_agreement_laws.specs.Chosen.{Command}
use Rattle.lk_agreement_laws.specs.Datagrams.{HasSent, WasSent}
use Rattle.lk_agreement_laws.specs.Nodes.{PaxosState, PaxosFits, MaySend}
use Rattle.lk_agreement_laws.proofs.Histories.{change_fits}
use Rattle.lk_acceptor.specs.AcceptorValue.{AcceptorValue}
use Rattle.lk_acceptor.specs.Replies.{Promises, Votes, Agrees, RepliesToPrepare, RepliesToAccept}
use Rattle.lk_acceptor.specs.States.{IsOrdered, with_vote, with_state, with_written}
use Rattle.lk_acceptor.specs.declared.response.Response.{Response}
use Rattle.lk_acceptor.proofs.Acceptors.{prepare_may, accept_may, prepare_covered, accept_covered, prepare_written}
use Rattle.lk_acceptor.proofs.Acceptors.{accept_written, takes_vote}
use Rattle.lk_node_interface.specs.Grants.{is_granted}
use Rattle.lk_node_interface.specs.Envelopes.{EnvelopeValue, batch_of}
use Rattle.lk_node_interface.specs.Outboxes.{OutboxValue, nothing, with_optional}
use Rattle.lk_node_interface.specs.Saying.{saying}
use Rattle.lk_node_interface.specs.declared.note.Note.{Note}
use Rattle.lk_node.specs.Responding.{with_acceptor, replied, reply_to, Responds}
use Rattle.lk_node.specs.Entries.{Rests}
use Rattle.lk_node.specs.Histories.{History, Genesis, Datagram, IsLawful}
use Rattle.lk_node.specs.Keeping.{IsDecidedEntry, IsKnown}
use Rattle.lk_node.specs.NodeValue.{NodeValue}
use Rattle.lk_node.specs.Saying.{to_node}
use Rattle.lk_node.specs.BorneOut.{BearsOutMessage}
use Rattle.lk_node.specs.SafeSteps.{with_entries, ActsSafely}
use Rattle.lk_node.specs.Yielding.{yielded}
use Rattle.lk_node.proofs.Changing.{alike_goes_on, yielded_goes_on}
use Rattle.lk_node.proofs.SafeSteps.{then_goes_on, says}

-- ---- the acceptor changes, and what becomes of it is written

-- why an acceptor may come from one state to another by this entry, in a history
pub record Moves (h : History) (n : ℕ) (old new : AcceptorState) (o : Option Entry) : Type 0 where
  pub changes : (w : PaxosState) → w.acceptor ≡ old → PaxosFits h.genesis h.sent n w
      → PaxosFits h.genesis h.sent n (holding_acceptor w new)
  pub rests : (e : Entry) → o ≡ Some e → Rests h e

optional_entries : (o : Option Entry) → (with_optional o nothing).envelopes ≡ []
optional_entries None = refl
optional_entries (Some e) = refl

optional_notes : (o : Option Entry) → (with_optional o nothing).notes ≡ []
optional_notes None = refl
optional_notes (Some e) = refl

no_rebase : (o : Option Entry) → (with_optional o nothing).rebase ≡ true → ⊥
no_rebase None e = cc e
no_rebase (Some x) e = cc e

pub moves_goes_on : (m : Meaning) (Heard : History → Type 0) (node : NodeValue) (a : AcceptorValue) (o : Option Entry)
    → a.state ≡ with_written o node.acceptor.state
    → ((e : Entry) → o ≡ Some e → IsDecidedEntry e → ⊥)
    → ((h : History) (n : ℕ) → IsLawful m h → Heard h → Moves h n node.acceptor.state a.state o)
    → ActsSafely m Heard node (with_acceptor node a) nothing (with_optional o nothing)
moves_goes_on m Heard node a o written binding moves = record {
  binds = λ first b. record {
    header = b.header;
    written = written ∙ ap (with_written o) b.written ∙ one o first.acceptor.state;
    unsynced = all_decided o binding;
    still = λ e. absurd (no_rebase o e);
    tells = λ l c. absurd (none l (subst (λ ls. Contains ls l) (optional_entries o) c));
  };
  continues = λ h n loose s heard.
      let v = moves h n s.lawful heard in
      record {
        lawful = s.lawful;
        whose = s.whose;
        holding = record {
          paxos = holding_acceptor s.holding.paxos a.state;
          waiting = s.holding.waiting;
          gathered = s.holding.gathered;
        };
        held = record {
          acceptor = refl;
          follows = s.held.follows;
          leads = s.held.leads;
          waiting = s.held.waiting;
          gathered = s.held.gathered;
        };
        fits = record {
          paxos = v.changes s.holding.paxos s.held.acceptor s.fits.paxos;
          waiting = s.fits.waiting;
          proposals = s.fits.proposals;
          gathered = s.fits.gathered;
        };
        rests = all_rest h o v.rests;
        known = s.known;
        known_unsynced = all_known o binding s.holding.paxos;
        may = λ d c. absurd (no_datagram n d (subst (λ ls. Contains (batch_of n ls) d) (optional_entries o) c));
        noted = λ x c. absurd (no_note x (subst (λ ns. Contains ns x) (optional_notes o) c));
      };
}
  where
    none : (l : EnvelopeValue) → Contains [] l → ⊥
    none l c = omega (arith, c.1)

    no_datagram : (n : ℕ) (d : Datagram) → Contains [] d → ⊥
    no_datagram n d c = omega (arith, c.1)

    no_note : (x : Note) → Contains [] x → ⊥
    no_note x c = omega (arith, c.1)

    one : (o : Option Entry) (s : AcceptorState) → with_written o s ≡ with_entries (with_optional o nothing).entries s
    one None s = refl
    one (Some e) s = refl

    all_decided : (o : Option Entry) → ((e : Entry) → o ≡ Some e → IsDecidedEntry e → ⊥)
        → (with_optional o nothing).sync ≡ false → AllByRecursion IsDecidedEntry (with_optional o nothing).entries
    all_decided None b e = tt
    all_decided (Some k) b e = by_kind k b e
      where
        by_kind : (k : Entry) → ((e : Entry) → Some k ≡ Some e → IsDecidedEntry e → ⊥)
            → (with_optional (Some k) nothing).sync ≡ false → AllByRecursion IsDecidedEntry (k ∷ [])
        by_kind (entry.Promise x) b e = absurd (cc e)
        by_kind (entry.Vote x) b e = absurd (cc e)
        by_kind (entry.Decided i c) b e = (tt, tt)

    all_known : (o : Option Entry) → ((e : Entry) → o ≡ Some e → IsDecidedEntry e → ⊥) → (w : PaxosState)
        → (with_optional o nothing).sync ≡ false → AllByRecursion (IsKnown w) (with_optional o nothing).entries
    all_known None b w e = tt
    all_known (Some k) b w e = by_kind k b e
      where
        by_kind : (k : Entry) → ((e : Entry) → Some k ≡ Some e → IsDecidedEntry e → ⊥)
            → (with_optional (Some k) nothing).sync ≡ false → AllByRecursion (IsKnown w) (k ∷ [])
        by_kind (entry.Promise x) b e = absurd (cc e)
        by_kind (entry.Vote x) b e = absurd (cc e)
        by_kind (entry.Decided i c) b e = absurd (b (entry.Decided i c) refl tt)

    all_rest : (h : History) (o : Option Entry) → ((e : Entry) → o ≡ Some e → Rests h e)
        → AllByRecursion (Rests h) (with_optional o nothing).entries
    all_rest h None r = tt
    all_rest h (Some e) r = (r e refl, tt)

-- ---- what may be answered

some_is : (a b : Entry) → Some a ≡ Some b → a ≡ b
some_is a b e = cc e

none_is : (e : Entry) → None ≡ Some e → ⊥
none_is e k = cc k

state_of : (a : AcceptorValue) (s : AcceptorState) (new : AcceptorValue) → new ≡ with_state a s → new.state ≡ s
state_of a s new e = ap (λ (v : AcceptorValue). v.state) e

-- a refusal moves nothing
unmoved : (h : History) (n : ℕ) (a new : AcceptorValue) (o : Option Entry) → new ≡ a → o ≡ None
    → Moves h n a.state new.state o
unmoved h n a new o same none = record {
  changes = λ w is f. subst (λ (s : AcceptorState). PaxosFits h.genesis h.sent n (holding_acceptor w s))
      (is ∙ ap (λ (v : AcceptorValue). v.state) (sym same)) f;
  rests = λ e is. absurd (none_is e (sym none ∙ is));
}

-- a promise
promised_moves : (m : Meaning) (h : History) (n : ℕ) (a : AcceptorValue) (b : BallotValue) (first : ℕ) (r : Response)
    (new : AcceptorValue) → IsLawful m h → IsAtMost a.state.promised b → Promises a b first r new
    → Moves h n a.state new.state r.entry
promised_moves m h n a b first r new lawful most p = record {
  changes = λ w is f. subst (λ (s : AcceptorState). PaxosFits h.genesis h.sent n (holding_acceptor w s))
      (ap (λ (s : AcceptorState). with_promise s b) is ∙ sym (state_of a (with_promise a.state b) new p.state))
      (change_fits h.genesis h.sent lawful.sound n w (holding_acceptor w (with_promise w.acceptor b)) f
      (promises b (subst (λ (s : AcceptorState). IsAtMost s.promised b) (sym is) most)));
  rests = λ x is. elim p.entry [
    | inl above ↦ subst (Rests h) (some_is (entry.Promise b) x (sym above.1 ∙ is)) tt
    | inr same ↦ absurd (none_is x (sym same.1 ∙ is))
  ];
}

-- a vote for what was proposed
voted_moves : (m : Meaning) (h : History) (n : ℕ) (a : AcceptorValue) (x : Vote) (r : Response) (new : AcceptorValue)
    → IsLawful m h → WasSent h.genesis h.sent (kinds.Accept x) → IsOrdered a.state
    → IsAtMost a.state.promised x.ballot → ((v : Vote) → Contains a.state.votes v → Agrees v x) → Votes a x r new
    → Moves h n a.state new.state r.entry
voted_moves m h n a x r new lawful was ordered most agree p = record {
  changes = λ w is f. subst (λ (s : AcceptorState). PaxosFits h.genesis h.sent n (holding_acceptor w s))
      (sym (state_of a (with_vote a.state x) new p.state))
      (change_fits h.genesis h.sent lawful.sound n w (holding_acceptor w (with_vote a.state x)) f
      (accepts x (with_vote a.state x) (subst (λ (s : AcceptorState). IsAtMost s.promised x.ballot) (sym is) most) was
      (subst (λ (s : AcceptorState). AddsVote s x (with_vote a.state x)) (sym is)
      (takes_vote a.state x ordered most agree))));
  rests = λ e is. elim p.entry [
    | inl listed ↦ absurd (none_is e (sym listed.1 ∙ is))
    | inr fresh ↦ subst (Rests h) (some_is (entry.Vote x) e (sym fresh.1 ∙ is)) was
  ];
}

prepare_moves : (m : Meaning) (h : History) (n : ℕ) (a : AcceptorValue) (e : ℕ) (b : BallotValue) (first : ℕ)
    (r : Response) (new : AcceptorValue) → IsLawful m h → RepliesToPrepare a e b first r new
    → Moves h n a.state new.state r.entry
prepare_moves m h n a e b first r new lawful (inl granted) =
    promised_moves m h n a b first r new lawful granted.0.ballot granted.1
prepare_moves m h n a e b first r new lawful (inr refused) = unmoved h n a new r.entry refused.1.state refused.1.entry

accept_moves : (m : Meaning) (h : History) (n : ℕ) (a : AcceptorValue) (e : ℕ) (x : Vote) (r : Response)
    (new : AcceptorValue) → IsLawful m h → WasSent h.genesis h.sent (kinds.Accept x) → IsOrdered a.state
    → RepliesToAccept a e x r new
    → Moves h n a.state new.state r.entry
accept_moves m h n a e x r new lawful was ordered (inl granted) =
    voted_moves m h n a x r new lawful was ordered granted.0.ballot granted.0.agree granted.1
accept_moves m h n a e x r new lawful was ordered (inr refused) =
    unmoved h n a new r.entry refused.1.state refused.1.entry

-- their entries are promises and votes
prepare_binding : (a : AcceptorValue) (e : ℕ) (b : BallotValue) (first : ℕ) (r : Response) (new : AcceptorValue)
    → RepliesToPrepare a e b first r new → (x : Entry) → r.entry ≡ Some x → IsDecidedEntry x → ⊥
prepare_binding a e b first r new (inl granted) x is decided = elim granted.1.entry [
  | inl above ↦ subst IsDecidedEntry (some_is x (entry.Promise b) (sym is ∙ above.1)) decided
  | inr same ↦ none_is x (sym same.1 ∙ is)
]
prepare_binding a e b first r new (inr refused) x is decided = none_is x (sym refused.1.entry ∙ is)

accept_binding : (a : AcceptorValue) (e : ℕ) (v : Vote) (r : Response) (new : AcceptorValue)
    → RepliesToAccept a e v r new → (x : Entry) → r.entry ≡ Some x → IsDecidedEntry x → ⊥
accept_binding a e v r new (inl granted) x is decided = elim granted.1.entry [
  | inl listed ↦ none_is x (sym listed.1 ∙ is)
  | inr fresh ↦ subst IsDecidedEntry (some_is x (entry.Vote v) (sym is ∙ fresh.1)) decided
]
accept_binding a e v r new (inr refused) x is decided = none_is x (sym refused.1.entry ∙ is)

prepare_bears : (a : AcceptorValue) (e : ℕ) (b : BallotValue) (first : ℕ) (r : Response) (new : AcceptorValue)
    → RepliesToPrepare a e b first r new
    → (m : Meaning) (h : History) (L : List Command) → BearsOutMessage m h L r.reply
prepare_bears a e b first r new (inl granted) m h L = subst (BearsOutMessage m h L) (sym granted.1.reply) tt
prepare_bears a e b first r new (inr refused) m h L = subst (BearsOutMessage m h L) (sym refused.1.reply) tt

accept_bears : (a : AcceptorValue) (e : ℕ) (x : Vote) (r : Response) (new : AcceptorValue) → RepliesToAccept a e x r new
    → (m : Meaning) (h : History) (L : List Command) → BearsOutMessage m h L r.reply
accept_bears a e x r new (inl granted) m h L = subst (BearsOutMessage m h L) (sym granted.1.reply) tt
accept_bears a e x r new (inr refused) m h L = subst (BearsOutMessage m h L) (sym refused.1.reply) tt

-- ---- a response

pub responded : {E : Type 0} (old new : NodeValue) (from : ℕ) (Gives : Response → AcceptorValue → Type 0)
    (r : Response) (a : AcceptorValue) (result : Result OutboxValue E)
    → Gives r a → IfOk result (λ o. o ≡ reply_to (with_acceptor old a) from r)
    → OnOk result (IsMessage (saying old.header r.reply)) → OnOk result (new ≡ replied r.reply (with_acceptor old a))
    → IfOk result (λ o. Responds old from Gives new o)
responded old new from Gives r a (Ok o) given is fits becomes =
    record { response = r; acceptor = a; given = given; becomes = becomes; fits = fits; comes_to = is }
responded old new from Gives r a (Err e) given is fits becomes = tt

replied_alike : (m : Meaning) (Heard : History → Type 0) (reply : NodeMessage) (node : NodeValue) (out : OutboxValue)
    → ActsSafely m Heard node (replied reply node) out out
replied_alike m Heard reply node out = by_test (is_granted reply)
  where
    by_test : (t : Bool) → ActsSafely m Heard node
        (yielded node.acceptor.state.promised (cond t (record node { ticks = 0 }) node)) out out
    by_test true = then_goes_on m Heard node (record node { ticks = 0 })
        (yielded node.acceptor.state.promised (record node { ticks = 0 })) out out out
        (alike_goes_on m Heard node (record node { ticks = 0 }) out
        (record { header = refl; acceptor = refl; learner = refl }) refl)
        (yielded_goes_on m Heard node.acceptor.state.promised (record node { ticks = 0 }) out)
    by_test false = yielded_goes_on m Heard node.acceptor.state.promised node out

responds_goes_on : (m : Meaning) (Heard : History → Type 0) (old new : NodeValue) (from : ℕ)
    (Gives : Response → AcceptorValue → Type 0) (out : OutboxValue) (k : Responds old from Gives new out)
    → k.acceptor.state ≡ with_written k.response.entry old.acceptor.state
    → ((e : Entry) → k.response.entry ≡ Some e → IsDecidedEntry e → ⊥)
    → ((h : History) (n : ℕ) → IsLawful m h → Heard h → Moves h n old.acceptor.state k.acceptor.state k.response.entry)
    → Covers k.acceptor.state k.response.reply
    → ((genesis : Genesis) (sent : List Datagram) (w : PaxosState) → w.acceptor ≡ k.acceptor.state
    → MaySend genesis sent w k.response.reply)
    → ((h : History) (L : List Command) → BearsOutMessage m h L k.response.reply)
    → ActsSafely m Heard old new nothing out
responds_goes_on m Heard old new from Gives out k written binding moves covers may bears =
    subst₂ (λ (node : NodeValue) (o : OutboxValue). ActsSafely m Heard old node nothing o) (sym k.becomes)
    (sym k.comes_to)
    (then_goes_on m Heard old (with_acceptor old k.acceptor)
    (replied k.response.reply (with_acceptor old k.acceptor)) nothing (with_optional k.response.entry nothing)
    (reply_to old from k.response)
    (moves_goes_on m Heard old k.acceptor k.response.entry written binding moves)
    (then_goes_on m Heard (with_acceptor old k.acceptor) (with_acceptor old k.acceptor)
    (replied k.response.reply (with_acceptor old k.acceptor)) (with_optional k.response.entry nothing)
    (reply_to old from k.response) (reply_to old from k.response)
    (says m Heard (with_acceptor old k.acceptor) (with_optional k.response.entry nothing)
    (to_node old from) k.response.reply k.fits covers (λ e. absurd (no_rebase k.response.entry e))
    (λ h n loose s heard. (
      may h.genesis h.sent s.holding.paxos s.held.acceptor,
      record { under = s.holding.paxos.done; chosen = s.fits.paxos.stems.done; bears = bears h s.holding.paxos.done },
    )))
    (replied_alike m Heard k.response.reply (with_acceptor old k.acceptor) (reply_to old from k.response))))

pub prepare_goes_on : (m : Meaning) (old new : NodeValue) (from e : ℕ) (b : BallotValue) (first : ℕ)
    (out : OutboxValue) → Responds old from (RepliesToPrepare old.acceptor e b first) new out
    → ActsSafely m (λ h. Unit {0}) old new nothing out
prepare_goes_on m old new from e b first out k =
    responds_goes_on m (λ h. Unit {0}) old new from (RepliesToPrepare old.acceptor e b first) out k
    (prepare_written old.acceptor e b first k.response k.acceptor k.given)
    (prepare_binding old.acceptor e b first k.response k.acceptor k.given)
    (λ h n lawful heard. prepare_moves m h n old.acceptor e b first k.response k.acceptor lawful k.given)
    (prepare_covered old.acceptor e b first k.response k.acceptor k.given)
    (λ genesis sent w is. prepare_may genesis sent w old.acceptor e b first k.response k.acceptor k.given is)
    (prepare_bears old.acceptor e b first k.response k.acceptor k.given m)

pub accept_goes_on : (m : Meaning) (old new : NodeValue) (from e : ℕ) (x : Vote) (out : OutboxValue)
    → IsOrdered old.acceptor.state → Responds old from (RepliesToAccept old.acceptor e x) new out
    → ActsSafely m (λ h. HasSent h.genesis h.sent from (kinds.Accept x)) old new nothing out
accept_goes_on m old new from e x out ordered k =
    responds_goes_on m (λ h. HasSent h.genesis h.sent from (kinds.Accept x)) old new from
    (RepliesToAccept old.acceptor e x) out k
    (accept_written old.acceptor e x k.response k.acceptor ordered k.given)
    (accept_binding old.acceptor e x k.response k.acceptor k.given)
    (λ h n lawful heard. accept_moves m h n old.acceptor e x k.response k.acceptor lawful
    (record { sender = from; has_sent = heard }) ordered k.given)
    (accept_covered old.acceptor e x k.response k.acceptor ordered k.given)
    (λ genesis sent w is. accept_may genesis sent w old.acceptor e x k.response k.acceptor ordered k.given is)
    (accept_bears old.acceptor e x k.response k.acceptor k.given m)
