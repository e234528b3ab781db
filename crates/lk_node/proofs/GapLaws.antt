-- What passes between nodes of which one has executed more they may send, and what they see of ballots is theirs to
-- forget.
use Rattle.std.proofs.Common.{◌≡◌, ◌∙◌, ℕ, ◌+◌, inl, inr, List, [], ◌∷◌, length, take, drop, map, Contains, Some, refl}
use Rattle.std.proofs.Common.{ap, sym, subst, arith, append_assoc, append-nil}
use Rattle.std.proofs.lemmas.Option.{slice_get-get_or}
use Rattle.lk_types.specs.BallotValue.{BallotValue}
use Rattle.lk_types.specs.declared.entry.Entry.{Entry}
use Rattle.lk_messages.specs.Grammar.{IsMessage}
use Rattle.lk_messages.specs.Values.{PartValue}
use Rattle.lk_messages.specs.declared.message.Nack.{Nack}
use Rattle.lk_messages.specs.declared.message.NodeMessage.{NodeMessage}
use Rattle.lk_messages.specs.declared.message.NodeMessage.TheVariants as kinds
use Rattle.lk_agreement_laws.specs.Acceptors.{Covers}
use Rattle.lk_agreement_laws.specs.Nodes.{Pair, PaxosState, MaySend}
use Rattle.lk_state.specs.Meanings.{Meaning}
use Rattle.lk_learner.specs.Following.{AgreesWithList}
use Rattle.lk_learner.specs.Learners.{LearnerValue, decided_from, wanted}
use Rattle.lk_learner.specs.Parts.{start_of}
use Rattle.lk_learner.proofs.Learnerships.{served_chosen, parts_slice}
use Rattle.lk_node_interface.specs.Envelopes.{EnvelopeValue}
use Rattle.lk_node_interface.specs.Outboxes.{OutboxValue, nothing, with_envelope}
use Rattle.lk_node_interface.specs.Saying.{saying}
use Rattle.lk_node_interface.specs.declared.to.To.{To}
use Rattle.lk_node.specs.CatchingUp.{sending_parts, FeedsParts, Feeds, AsksOn, ClosesGap, HandlesNack, following}
use Rattle.lk_node.specs.CatchingUp.{AsksWhereMore, refusal, HandlesLead}
use Rattle.lk_node.specs.Histories.{History, Command, text}
use Rattle.lk_node.specs.NodeValue.{NodeValue}
use Rattle.lk_node.specs.Replying.{SaysAlone}
use Rattle.lk_node.specs.Saying.{to_node}
use Rattle.lk_node.specs.BorneOut.{BearsOutMessage}
use Rattle.lk_node.specs.SafeSteps.{IsSafeStep, ActsSafely}
use Rattle.lk_node.specs.Telling.{envelope_to}
use Rattle.lk_node.specs.Yielding.{with_round, seeing}
use Rattle.lk_node.proofs.Changing.{alike_goes_on, yielded_goes_on}
use Rattle.lk_node.proofs.Lists.{contains_more}
use Rattle.lk_node.proofs.ManyEnvelopes.{enveloped}
use Rattle.lk_node.proofs.SafeSteps.{rests_here, then_goes_on, says}

-- nothing is done, and nothing comes of it
pub idles : (m : Meaning) (Heard : History → Type 0) (node : NodeValue) (out : OutboxValue) → out ≡ nothing
    → ActsSafely m Heard node node nothing out
idles m Heard node out is = subst (ActsSafely m Heard node node nothing) (sym is) (rests_here m Heard node nothing)

-- one message, which the executed list bears out
pub alone_goes_on : (m : Meaning) (Heard : History → Type 0) (node : NodeValue) (to : To) (message : NodeMessage)
    (out : OutboxValue) → SaysAlone node to message out → Covers node.acceptor.state message
    → ((h : History) (n : ℕ) (loose : List Entry) (s : IsSafeStep m h n loose node nothing)
    → MaySend h.genesis h.sent s.holding.paxos message × BearsOutMessage m h s.holding.paxos.done message)
    → ActsSafely m Heard node node nothing out
alone_goes_on m Heard node to message out k covers may =
    subst (ActsSafely m Heard node node nothing) (sym k.1)
    (says m Heard node nothing to message k.0 covers (λ e. absurd (cc e)) (λ h n loose s heard. (
      (may h n loose s).0,
      record {
        under = s.holding.paxos.done;
        chosen = s.fits.paxos.stems.done;
        bears = (may h n loose s).1;
      },
    )))

-- ---- what a ballot that is seen changes

pub round_goes_on : (m : Meaning) (Heard : History → Type 0) (b : BallotValue) (node : NodeValue) (out : OutboxValue)
    → ActsSafely m Heard node (with_round b node) out out
round_goes_on m Heard b node out =
    alike_goes_on m Heard node (with_round b node) out (record { header = refl; acceptor = refl; learner = refl }) refl

seeing_goes_on : (m : Meaning) (Heard : History → Type 0) (b : BallotValue) (node : NodeValue) (out : OutboxValue)
    → ActsSafely m Heard node (seeing b node) out out
seeing_goes_on m Heard b node out =
    then_goes_on m Heard node (with_round b node) (seeing b node) out out out (round_goes_on m Heard b node out)
    (yielded_goes_on m Heard b (with_round b node) out)

following_goes_on : (m : Meaning) (Heard : History → Type 0) (b : BallotValue) (node : NodeValue) (out : OutboxValue)
    → ActsSafely m Heard node (following b node) out out
following_goes_on m Heard b node out =
    alike_goes_on m Heard node (following b node) out (record { header = refl; acceptor = refl; learner = refl }) refl

-- ---- what is sent

-- what is sent of the snapshot is a slice of the executed list's beginning
part_borne : (m : Meaning) (h : History) (done : List Command) (pairs : List Pair) (l : LearnerValue) (p : PartValue)
    → AgreesWithList m h.genesis done pairs l
    → (p.position ≡ l.snapshot_position) × (p.total ≡ length l.snapshot)
    × (p.bytes ≡ take (length p.bytes) (drop p.offset l.snapshot)) → BearsOutMessage m h done (kinds.Part p)
part_borne m h done pairs l p f is =
    let same : l.snapshot ≡ text m h.genesis (take p.position done) = f.text
    ∙ ap (λ (i : ℕ). text m h.genesis (take i done)) (sym is.0) in
    record {
      reaches = omega (arith, f.within, is.0);
      total = ap length (sym same) ∙ sym is.1;
      slice = is.2 ∙ ap (λ (xs : List ℕ). take (length p.bytes) (drop p.offset xs)) same;
    }

sends_parts : (m : Meaning) (Heard : History → Type 0) (node : NodeValue) (other : ℕ) (ps : List PartValue)
    (out : OutboxValue) → ((p : PartValue) → Contains ps p → IsMessage (saying node.header (kinds.Part p)))
    → ((p : PartValue) → Contains ps p
    → (p.position ≡ node.learner.snapshot_position) × (p.total ≡ length node.learner.snapshot)
    × (p.bytes ≡ take (length p.bytes) (drop p.offset node.learner.snapshot)))
    → ActsSafely m Heard node node out (sending_parts node other ps out)
sends_parts m Heard node other [] out fits slices =
    subst (λ (ls : List EnvelopeValue). ActsSafely m Heard node node out (enveloped out ls))
    (sym (append-nil out.envelopes))
    (rests_here m Heard node out)
sends_parts m Heard node other (p ∷ ps) out fits slices =
    let one : EnvelopeValue = envelope_to node (kinds.Part p) other in
    subst (λ (ls : List EnvelopeValue). ActsSafely m Heard node node out (enveloped out ls))
    (append_assoc out.envelopes (one ∷ []) (map (λ (q : PartValue). envelope_to node (kinds.Part q) other) ps))
    (then_goes_on m Heard node node node out (with_envelope one out) (sending_parts node other ps
    (with_envelope one out))
    (says m Heard node out (to_node node other) (kinds.Part p) (fits p (0, omega arith, refl)) tt
    (λ e. tt) (λ h n loose s heard.
    let w : PaxosState = s.holding.paxos in (
      tt,
      record {
        under = w.done;
        chosen = s.fits.paxos.stems.done;
        bears = part_borne m h w.done w.pairs node.learner p s.held.follows (slices p (0, omega arith, refl));
      },
    )))
    (sends_parts m Heard node other ps (with_envelope one out) (λ q c. fits q (contains_more p ps q c))
    (λ q c. slices q (contains_more p ps q c))))

feeds_parts_goes_on : (m : Meaning) (Heard : History → Type 0) (node : NodeValue) (other offset : ℕ)
    (out : OutboxValue) → FeedsParts node other offset out → ActsSafely m Heard node node nothing out
feeds_parts_goes_on m Heard node other offset out k =
    let l : LearnerValue = node.learner in
    subst (ActsSafely m Heard node node nothing) (sym k.comes_to)
    (sends_parts m Heard node other k.parts nothing k.fits
    (λ p c. parts_slice l.snapshot_position (start_of offset l.snapshot) c.0 l.snapshot k.parts p k.are
    (slice_get-get_or k.parts c.0 p c.1 ∙ ap Some c.2)))

feeds_goes_on : (m : Meaning) (Heard : History → Type 0) (node : NodeValue) (other first offset : ℕ)
    (out : OutboxValue) → Feeds node other first offset out → ActsSafely m Heard node node nothing out
feeds_goes_on m Heard node other first offset out (inl served) =
    alone_goes_on m Heard node (to_node node other) (kinds.Decided (decided_from first node.learner)) out served.1 tt
    (λ h n loose s. (
      served_chosen m h.genesis h.sent s.holding.paxos.done s.holding.paxos.pairs node.learner first
          s.fits.paxos.stems.done s.held.follows served.0,
      tt,
    ))
feeds_goes_on m Heard node other first offset out (inr (inl parts)) =
    feeds_parts_goes_on m Heard node other offset out parts.1
feeds_goes_on m Heard node other first offset out (inr (inr none)) = idles m Heard node out none.1

pub asks_goes_on : (m : Meaning) (Heard : History → Type 0) (node : NodeValue) (other : ℕ) (out : OutboxValue)
    → AsksOn node other out → ActsSafely m Heard node node nothing out
asks_goes_on m Heard node other out (inl more) =
    alone_goes_on m Heard node (to_node node other) (kinds.Want (wanted node.learner)) out more.1 tt
    (λ h n loose s. (tt, tt))
asks_goes_on m Heard node other out (inr none) = idles m Heard node out none.1

levels_goes_on : (m : Meaning) (Heard : History → Type 0) (node : NodeValue) (other theirs : ℕ) (out : OutboxValue)
    → ClosesGap node other theirs out → ActsSafely m Heard node node nothing out
levels_goes_on m Heard node other theirs out (inl more) = asks_goes_on m Heard node other out more.1
levels_goes_on m Heard node other theirs out (inr (inl fewer)) =
    feeds_goes_on m Heard node other (theirs + 1) 0 out fewer.1
levels_goes_on m Heard node other theirs out (inr (inr same)) = idles m Heard node out same.1

-- ---- each message

pub want_goes_on : (m : Meaning) (old : NodeValue) (from first offset : ℕ) (out : OutboxValue)
    → Feeds old from first offset out → ActsSafely m (λ h. Unit {0}) old old nothing out
want_goes_on m old from first offset out k = feeds_goes_on m (λ h. Unit {0}) old from first offset out k

pub nack_goes_on : (m : Meaning) (old new : NodeValue) (from : ℕ) (nack : Nack) (out : OutboxValue)
    → HandlesNack old from nack new out → ActsSafely m (λ h. Unit {0}) old new nothing out
nack_goes_on m old new from nack out k =
    let Heard : History → Type 0 = λ h. Unit {0} in
    let once : NodeValue = seeing nack.ballot old in
    subst (λ (node : NodeValue). ActsSafely m Heard old node nothing out) (sym k.0)
    (then_goes_on m Heard old old (seeing nack.promised once) nothing out out
    (levels_goes_on m Heard old from nack.executed out k.1)
    (then_goes_on m Heard old once (seeing nack.promised once) out out out (seeing_goes_on m Heard nack.ballot old out)
    (seeing_goes_on m Heard nack.promised once out)))

pub lead_goes_on : (m : Meaning) (old new : NodeValue) (from : ℕ) (b : BallotValue) (theirs : ℕ) (out : OutboxValue)
    → HandlesLead old from b theirs new out → ActsSafely m (λ h. Unit {0}) old new nothing out
lead_goes_on m old new from b theirs out (inl refused) =
    let Heard : History → Type 0 = λ h. Unit {0} in
    subst (λ (node : NodeValue). ActsSafely m Heard old node nothing out) (sym refused.1)
    (then_goes_on m Heard old old (seeing b old) nothing out out
    (alone_goes_on m Heard old (to_node old from) (kinds.Nack (refusal b old)) out refused.2 tt
    (λ h n loose s. (tt, tt))) (seeing_goes_on m Heard b old out))
lead_goes_on m old new from b theirs out (inr followed) =
    let Heard : History → Type 0 = λ h. Unit {0} in
    subst (λ (node : NodeValue). ActsSafely m Heard old node nothing out) (sym followed.1)
    (then_goes_on m Heard old old (following b (seeing b old)) nothing out out (by_count followed.2)
    (then_goes_on m Heard old (seeing b old) (following b (seeing b old)) out out out
    (seeing_goes_on m Heard b old out) (following_goes_on m Heard b (seeing b old) out)))
  where
    by_count : AsksWhereMore old from theirs out → ActsSafely m (λ h. Unit {0}) old old nothing out
    by_count (inl more) = asks_goes_on m (λ h. Unit {0}) old from out more.1
    by_count (inr same) = idles m (λ h. Unit {0}) old out same.1

-- ---- an Accept

-- what goes on once its ballot's round is seen goes on with that
pub seen_goes_on : (m : Meaning) (Heard : History → Type 0) (b : BallotValue) (old seen new : NodeValue)
    (out : OutboxValue) → seen ≡ with_round b old → ActsSafely m Heard seen new nothing out
    → ActsSafely m Heard old new nothing out
seen_goes_on m Heard b old seen new out is f =
    then_goes_on m Heard old seen new nothing nothing out
    (subst (λ (node : NodeValue). ActsSafely m Heard old node nothing nothing) (sym is)
    (round_goes_on m Heard b old nothing)) f
