-- A step rebases its store only if it has installed a snapshot, which only a part of one brings about.
use Rattle.std.proofs.Common.{◌≡◌, ◌∙◌, inl, inr, ℕ, ◌+◌, false, List, [], ◌∷◌, Option, Some, None, refl, ap}
use Rattle.std.proofs.Common.{subst}
use Rattle.lk_types.specs.BallotValue.{BallotValue}
use Rattle.lk_types.specs.declared.command.Request.{Request as RequestValue}
use Rattle.lk_types.specs.declared.entry.Entry.{Entry}
use Rattle.lk_types.specs.declared.member.Member.{Member}
use Rattle.lk_types.specs.declared.vote.Vote.{Vote}
use Rattle.lk_acceptor.specs.AcceptorValue.{AcceptorValue}
use Rattle.lk_acceptor.specs.declared.response.Response.{Response}
use Rattle.lk_store_format.specs.Values.{HeaderValue}
use Rattle.lk_messages.proofs.Spellings.{one_message}
use Rattle.lk_messages.specs.declared.message.Content.{Content}
use Rattle.lk_messages.specs.declared.message.Content.TheVariants as content
use Rattle.lk_messages.specs.declared.message.Message.{Message}
use Rattle.lk_messages.specs.declared.message.NodeMessage.{NodeMessage}
use Rattle.lk_messages.specs.declared.message.NodeMessage.TheVariants as kinds
use Rattle.lk_state.specs.Meanings.{Meaning}
use Rattle.lk_state.specs.Runs.{seen_as}
use Rattle.lk_state.specs.Sessions.{session_of}
use Rattle.lk_state.specs.declared.session.Session.{Session}
use Rattle.lk_state.specs.declared.whole.Seen.{Seen}
use Rattle.lk_state.specs.declared.whole.Seen.TheVariants as seen
use Rattle.lk_leader.specs.Terms.{TermValue}
use Rattle.lk_learner.specs.Learners.{Command, Pair}
use Rattle.lk_node_interface.specs.Outboxes.{OutboxValue, nothing, with_optional}
use Rattle.lk_node.specs.Asking.{PointsTo, QueuesOrRedirects, RepliesAs, leader_in}
use Rattle.lk_node.specs.CatchingUp.{AsksOn, AsksWhereMore, ClosesGap, Feeds, HandlesLead}
use Rattle.lk_node.specs.Deciding.{HandlesAccepted}
use Rattle.lk_node.specs.DecidedPairs.{LearnsPairs, none_yet, one_more}
use Rattle.lk_node.specs.Executing.{EndsWaitIfAny, Runs, stays, goes_on, waiting_number, with_session_reply}
use Rattle.lk_node.specs.Leading.{having_proposed, ProposesAll}
use Rattle.lk_node.specs.Learning.{Learns}
use Rattle.lk_node.specs.NodeValue.{NodeValue}
use Rattle.lk_node.specs.Responding.{Responds}
use Rattle.lk_node.specs.Steps.{Handles, HandlesBytes, HandlesNode}
use Rattle.lk_node.specs.Waiting.{BeginsWhereDue}
use Rattle.lk_progress.specs.Hearing.{Takes}
use Rattle.lk_world_progress.specs.Delivering.{InstallsNothing, IsOtherThanPart}

rests : {old new : OutboxValue} → new ≡ old → new.rebase ≡ old.rebase
rests e = ap (λ (o : OutboxValue). o.rebase) e

-- ---- executions and proposals

replied_rests : (whose : HeaderValue) (s : Session) (o : Option ℕ) (out : OutboxValue)
    → (with_session_reply whose s o out).rebase ≡ out.rebase
replied_rests whose s None out = refl
replied_rests whose s (Some n) out = refl

ended_rests : (o : Option Session) (old new : NodeValue) (before after : OutboxValue)
    → EndsWaitIfAny o old before new after → after.rebase ≡ before.rebase
ended_rests None old new before after s = rests s.1
ended_rests (Some s) old new before after k =
    rests k.comes_to ∙ replied_rests old.header s (waiting_number s old) before

ran_rests : (m : Meaning) (old : NodeValue) (before : OutboxValue) (new : NodeValue) (after : OutboxValue)
    → Runs m old before new after → after.rebase ≡ before.rebase
ran_rests m old before new after stays = refl
ran_rests m old before new after (goes_on {mid = mid} {between = between} r e) =
    ended_rests _ _ _ _ after e.ends_wait ∙ ran_rests m old before mid between r

learned_rests : (p : Pair) (old new : NodeValue) (before after : OutboxValue) → Learns p old before new after
    → after.rebase ≡ before.rebase
learned_rests p old new before after k = elim k [ inl a ↦ rests a.2 | inr a ↦ rests a.2 ]

pairs_rest : (m : Meaning) (first : ℕ) (commands : List Command) (old : NodeValue) (before : OutboxValue) (k : ℕ)
    (new : NodeValue) (after : OutboxValue) → LearnsPairs m first commands old before k new after
    → after.rebase ≡ before.rebase
pairs_rest m first commands old before k new after none_yet = refl
pairs_rest m first commands old before k new after (one_more {k = j} {mid = mid} {between = between} v r at l) =
    ran_rests m l.learned l.written new after l.runs.0
    ∙ learned_rests (first + j, v) mid l.learned between l.written l.learns
    ∙ pairs_rest m first commands old before j mid between r

proposed_rests : (xs : List Vote) (old new : NodeValue) (before out : OutboxValue) → ProposesAll xs old new before out
    → out.rebase ≡ before.rebase
proposed_rests [] old new before out p = rests p.2
proposed_rests (x ∷ xs) old new before out p = proposed_rests xs (having_proposed old x p.0) new _ out p.1

-- ---- messages

optional_rests : (o : Option Entry) → (with_optional o nothing).rebase ≡ false
optional_rests None = refl
optional_rests (Some e) = refl

responded_rests : (old new : NodeValue) (from : ℕ) (Gives : Response → AcceptorValue → Type 0) (out : OutboxValue)
    → Responds old from Gives new out → out.rebase ≡ false
responded_rests old new from Gives out k = rests k.comes_to ∙ optional_rests k.response.entry

accepted_rests : (m : Meaning) (from : ℕ) (x : Vote) (old new : NodeValue) (out : OutboxValue)
    → HandlesAccepted m from x old new out → out.rebase ≡ false
accepted_rests m from x old new out (inl counted) =
    let k = counted.2 in
    rests k.comes_to ∙ ran_rests m k.learned k.written new k.ran k.runs.0
    ∙ learned_rests (x.position, x.command) _ k.learned _ k.written k.learns
accepted_rests m from x old new out (inr heard) = rests heard.1

fed_rests : (node : NodeValue) (other first offset : ℕ) (out : OutboxValue) → Feeds node other first offset out
    → out.rebase ≡ false
fed_rests node other first offset out k = elim k [
  | inl a ↦ rests a.1.1
  | inr (inl a) ↦ rests a.1.comes_to
  | inr (inr a) ↦ rests a.1
]

asked_rests : (node : NodeValue) (other : ℕ) (out : OutboxValue) → AsksOn node other out → out.rebase ≡ false
asked_rests node other out k = elim k [ inl a ↦ rests a.1.1 | inr a ↦ rests a.1 ]

closed_rests : (node : NodeValue) (other theirs : ℕ) (out : OutboxValue) → ClosesGap node other theirs out
    → out.rebase ≡ false
closed_rests node other theirs out k = elim k [
  | inl a ↦ asked_rests node other out a.1
  | inr (inl a) ↦ fed_rests node other (theirs + 1) 0 out a.1
  | inr (inr a) ↦ rests a.1
]

more_rests : (node : NodeValue) (other theirs : ℕ) (out : OutboxValue) → AsksWhereMore node other theirs out
    → out.rebase ≡ false
more_rests node other theirs out k = elim k [ inl a ↦ asked_rests node other out a.1 | inr a ↦ rests a.1 ]

lead_rests : (old new : NodeValue) (from : ℕ) (b : BallotValue) (theirs : ℕ) (out : OutboxValue)
    → HandlesLead old from b theirs new out → out.rebase ≡ false
lead_rests old new from b theirs out k = elim k [
  | inl a ↦ rests a.2.1
  | inr a ↦ more_rests old from theirs out a.2
]

node_rests : (m : Meaning) (IsText : List ℕ → Type 0) (from : ℕ) (x : NodeMessage) (old new : NodeValue)
    (out : OutboxValue) → IsOtherThanPart x → HandlesNode m IsText old from x new out → out.rebase ≡ false
node_rests m IsText from (kinds.Prepare b first) old new out other k = responded_rests old new from _ out k
node_rests m IsText from (kinds.Accept x) old new out other k = responded_rests _ new from _ out k
node_rests m IsText from (kinds.Promise p) old new out other k = rests k.1
node_rests m IsText from (kinds.Accepted x) old new out other k = accepted_rests m from x old new out k
node_rests m IsText from (kinds.Decided d) old new out other k =
    pairs_rest m d.first d.commands old nothing _ new out k
node_rests m IsText from (kinds.Nack n) old new out other k = closed_rests old from n.executed out k.1
node_rests m IsText from (kinds.Want w) old new out other k = fed_rests old from w.first w.offset out k.1
node_rests m IsText from (kinds.Lead b theirs) old new out other k = lead_rests old new from b theirs out k
node_rests m IsText from (kinds.Part p) old new out other k = absurd other
node_rests m IsText from (kinds.Answer a) old new out other k = rests k.1
node_rests m IsText from (kinds.Elsewhere a) old new out other k = rests k.1
node_rests m IsText from (kinds.Passed a) old new out other k = rests k.1

-- ---- requests

pointed_rests : (o : Option Member) (old : NodeValue) (r : RequestValue) (new : NodeValue) (out : OutboxValue)
    → PointsTo o old r new out → out.rebase ≡ false
pointed_rests None old r new out k = rests k.1
pointed_rests (Some member) old r new out k = rests k.1.1

queued_rests : (o : Option TermValue) (old : NodeValue) (r : RequestValue) (new : NodeValue) (out : OutboxValue)
    → QueuesOrRedirects o old r new out → out.rebase ≡ false
queued_rests None old r new out k =
    pointed_rests (leader_in old.known old.learner.whole.roster.sets) old r new out k
queued_rests (Some term) old r new out k = rests k.1

request_rests : (s : Seen) (old : NodeValue) (r : RequestValue) (new : NodeValue) (out : OutboxValue)
    → RepliesAs s old r new out → out.rebase ≡ false
request_rests (seen.Same answer) old r new out k = rests k.1.1
request_rests (seen.Passed last) old r new out k = rests k.1.1
request_rests seen.New old r new out k = queued_rests old.leader.term old r new out k

handled_rests : (m : Meaning) (IsText : List ℕ → Type 0) (x : Content) (old new : NodeValue) (out : OutboxValue)
    → InstallsNothing x → Handles m IsText old x new out → out.rebase ≡ false
handled_rests m IsText (content.Request r) old new out other k =
    request_rests (seen_as (session_of r.client old.learner.whole.sessions) r.number) old r new out k
handled_rests m IsText (content.Node from x) old new out other k = node_rests m IsText from x old new out other k

-- ---- a datagram

pub taken_rests : (m : Meaning) (IsText : List ℕ → Type 0) (old new : NodeValue) (x : Content) (out : OutboxValue)
    → InstallsNothing x → Takes m IsText old x new out → out.rebase ≡ false
taken_rests m IsText old new x out nothing k =
    proposed_rests k.step.proposes.0 k.step.mid new k.step.first out k.step.proposes.1 ∙ first k.step.handles
  where
    message : Message
    message = record { cluster = old.header.cluster; content = x }

    first : HandlesBytes m IsText old k.bytes k.step.mid k.step.first → k.step.first.rebase ≡ false
    first (inl heard) = handled_rests m IsText heard.0.content old k.step.mid k.step.first
        (subst (λ (y : Message). InstallsNothing y.content)
        (one_message message heard.0 k.bytes k.spells heard.1) nothing)
        heard.3
    first (inr foreign) = rests foreign.1.1

-- ---- a ballot

pub begun_rests : (old new : NodeValue) (out : OutboxValue) → BeginsWhereDue old new out → out.rebase ≡ false
begun_rests old new out k = elim k [
  | inl a ↦ elim a.1.asks [ inl told ↦ rests told.1 | inr last ↦ rests last.1 ]
  | inr a ↦ rests a.2
]
