-- A step that is done leaves a node as awake as it was: nothing but a refusal halts it.
use Rattle.std.proofs.Common.{◌≡◌, ◌∙◌, ℕ, inl, inr, Bool, true, false, cond, List, [], ◌∷◌, Option, Some, None, refl}
use Rattle.std.proofs.Common.{ap, eqb}
use Rattle.lk_types.specs.BallotValue.{BallotValue}
use Rattle.lk_types.specs.declared.command.Request.{Request as RequestValue}
use Rattle.lk_types.specs.declared.member.Member.{Member}
use Rattle.lk_types.specs.declared.vote.Vote.{Vote}
use Rattle.lk_messages.specs.Values.{PromiseValue, PartValue}
use Rattle.lk_messages.specs.declared.message.Content.{Content}
use Rattle.lk_messages.specs.declared.message.Content.TheVariants as content
use Rattle.lk_messages.specs.declared.message.NodeMessage.{NodeMessage}
use Rattle.lk_messages.specs.declared.message.NodeMessage.TheVariants as kinds
use Rattle.lk_state.specs.Meanings.{Meaning}
use Rattle.lk_state.specs.Runs.{run_answer, seen_as}
use Rattle.lk_state.specs.Sessions.{session_of}
use Rattle.lk_state.specs.declared.session.Session.{Session}
use Rattle.lk_state.specs.declared.whole.Seen.{Seen}
use Rattle.lk_state.specs.declared.whole.Seen.TheVariants as seen
use Rattle.lk_acceptor.specs.AcceptorValue.{AcceptorValue}
use Rattle.lk_acceptor.specs.declared.response.Response.{Response}
use Rattle.lk_leader.specs.Terms.{TermValue}
use Rattle.lk_learner.specs.Learners.{Command, Pair, gathered_bytes}
use Rattle.lk_node_interface.specs.Grants.{is_granted}
use Rattle.lk_node_interface.specs.KeptReplies.{session_by}
use Rattle.lk_node_interface.specs.Outboxes.{OutboxValue, nothing}
use Rattle.lk_node_interface.specs.declared.input.Input.{Input}
use Rattle.lk_node_interface.specs.declared.input.Input.TheVariants as input
use Rattle.lk_node_interface.specs.declared.nudge_reason.NudgeReason.{NudgeReason}
use Rattle.lk_node_interface.specs.declared.nudge_reason.NudgeReason.TheVariants as reasons
use Rattle.lk_node.specs.Responding.{with_acceptor, replied, Responds}
use Rattle.lk_node.specs.Asking.{leader_in, PointsTo, QueuesOrRedirects, RepliesAs}
use Rattle.lk_node.specs.CatchingUp.{HandlesLead}
use Rattle.lk_node.specs.Deciding.{IsOnlyHeard, HandlesAccepted}
use Rattle.lk_node.specs.DecidedPairs.{LearnsPairs, none_yet, one_more}
use Rattle.lk_node.specs.Executing.{EndsWaitIfAny, is_outside, without_term_if_outside, Executes, Runs, stays, goes_on}
use Rattle.lk_node.specs.Installing.{EndsFirstWaits, none_ended, one_ended, HandlesPart}
use Rattle.lk_node.specs.Leading.{HandlesPromise, having_proposed, ProposesAll}
use Rattle.lk_node.specs.Learning.{Learns}
use Rattle.lk_node.specs.NodeValue.{NodeValue}
use Rattle.lk_node.specs.Nudging.{remembering, without_gathered, refreshed, SeeksAfresh, Nudges}
use Rattle.lk_node.specs.Reminding.{Ticks}
use Rattle.lk_node.specs.Steps.{HandlesNode, Handles, HandlesBytes, Steps}
use Rattle.lk_node.specs.Waiting.{ticked, BeginsWhereDue}
use Rattle.lk_leader.specs.Terms.{is_term_below}
use Rattle.lk_node.specs.Yielding.{without_term, yielded, with_round, seeing}

-- it has halted exactly where it had
abbrev Wakes : NodeValue → NodeValue → Type 0
Wakes old new = new.halted ≡ old.halted

-- as this node has, which it is
as_this : (mid new : NodeValue) → new ≡ mid → Wakes mid new
as_this mid new is = ap (λ (node : NodeValue). node.halted) is

yielded_wakes : (b : BallotValue) (node : NodeValue) → Wakes node (yielded b node)
yielded_wakes b node = by_test (is_term_below b node.leader.term)
  where
    by_test : (t : Bool) → (cond t (without_term node) node).halted ≡ node.halted
    by_test true = refl
    by_test false = refl

seeing_wakes : (b : BallotValue) (node : NodeValue) → Wakes node (seeing b node)
seeing_wakes b node = yielded_wakes b (with_round b node)

replied_wakes : (reply : NodeMessage) (node : NodeValue) → Wakes node (replied reply node)
replied_wakes reply node = by_test (is_granted reply)
  where
    by_test : (t : Bool) → (yielded node.acceptor.state.promised (cond t (record node { ticks = 0 }) node)).halted
        ≡ node.halted
    by_test true = yielded_wakes node.acceptor.state.promised (record node { ticks = 0 })
    by_test false = yielded_wakes node.acceptor.state.promised node

responds_wakes : (old new : NodeValue) (from : ℕ) (Gives : Response → AcceptorValue → Type 0) (out : OutboxValue)
    → Responds old from Gives new out → Wakes old new
responds_wakes old new from Gives out k =
    let answered : NodeValue = with_acceptor old k.acceptor in
    as_this (replied k.response.reply answered) new k.becomes ∙ replied_wakes k.response.reply answered

proposed_wakes : (xs : List Vote) (old new : NodeValue) (before out : OutboxValue)
    → ProposesAll xs old new before out → Wakes old new
proposed_wakes [] old new before out p = as_this old new p.1
proposed_wakes (x ∷ xs) old new before out p = proposed_wakes xs (having_proposed old x p.0) new _ out p.1

promise_wakes : (old new : NodeValue) (from : ℕ) (p : PromiseValue) (out : OutboxValue)
    → HandlesPromise old from p new out → Wakes old new
promise_wakes old new from p out k =
    elim k.0 [ inl kept ↦ as_this _ new kept.2 | inr dropped ↦ as_this old new dropped.1 ]

lead_wakes : (old new : NodeValue) (from : ℕ) (b : BallotValue) (theirs : ℕ) (out : OutboxValue)
    → HandlesLead old from b theirs new out → Wakes old new
lead_wakes old new from b theirs out (inl refused) = as_this (seeing b old) new refused.1 ∙ seeing_wakes b old
lead_wakes old new from b theirs out (inr followed) = as_this _ new followed.1 ∙ seeing_wakes b old

-- ---- a request

points_wakes : (o : Option Member) (old new : NodeValue) (r : RequestValue) (out : OutboxValue)
    → PointsTo o old r new out → Wakes old new
points_wakes None old new r out k = as_this old new k.0
points_wakes (Some member) old new r out k = as_this old new k.0

new_wakes : (o : Option TermValue) (old new : NodeValue) (r : RequestValue) (out : OutboxValue)
    → QueuesOrRedirects o old r new out → Wakes old new
new_wakes None old new r out k = points_wakes (leader_in old.known old.learner.whole.roster.sets) old new r out k
new_wakes (Some t) old new r out k = as_this _ new k.0

taken_wakes : (s : Seen) (old new : NodeValue) (r : RequestValue) (out : OutboxValue)
    → RepliesAs s old r new out → Wakes old new
taken_wakes seen.New old new r out k = new_wakes old.leader.term old new r out k
taken_wakes (seen.Same answer) old new r out k = as_this old new k.0
taken_wakes (seen.Passed last) old new r out k = as_this old new k.0

-- ---- what is learned, and executed

settled_wakes : (o : Option Session) (old new : NodeValue) (before after : OutboxValue)
    → EndsWaitIfAny o old before new after → Wakes old new
settled_wakes None old new before after k = as_this old new k.0
settled_wakes (Some s) old new before after k = as_this _ new k.becomes

while_wakes : (node : NodeValue) → Wakes node (without_term_if_outside node)
while_wakes node = by_test (is_outside node)
  where
    by_test : (t : Bool) → (cond t (without_term node) node).halted ≡ node.halted
    by_test true = refl
    by_test false = refl

executes_wakes : (m : Meaning) (old new : NodeValue) (before after : OutboxValue)
    → Executes m old before new after → Wakes old new
executes_wakes m old new before after k =
    as_this (without_term_if_outside k.mid) new k.becomes ∙ while_wakes k.mid
    ∙ settled_wakes (session_by k.command (run_answer m k.command old.learner.whole)) _ k.mid _ after k.ends_wait

runs_wake : (m : Meaning) (old : NodeValue) (before : OutboxValue) (new : NodeValue) (after : OutboxValue)
    → Runs m old before new after → Wakes old new
runs_wake m old before _ _ stays = refl
runs_wake m old before new after (goes_on so_far k) =
    executes_wakes m _ new _ after k ∙ runs_wake m old before _ _ so_far

learns_wakes : (p : Pair) (old new : NodeValue) (before after : OutboxValue)
    → Learns p old before new after → Wakes old new
learns_wakes p old new before after (inl kept) = as_this _ new kept.1
learns_wakes p old new before after (inr other) = as_this old new other.1

only_heard_wakes : (from : ℕ) (x : Vote) (old new : NodeValue) → IsOnlyHeard from x old new → Wakes old new
only_heard_wakes from x old new (inl heard) = as_this _ new heard.2
only_heard_wakes from x old new (inr other) = as_this old new other.1

accepted_wakes : (m : Meaning) (from : ℕ) (x : Vote) (old new : NodeValue) (out : OutboxValue)
    → HandlesAccepted m from x old new out → Wakes old new
accepted_wakes m from x old new out (inl counted) =
    let k = counted.2 in
    runs_wake m k.learned k.written new k.ran k.runs.0
    ∙ learns_wakes (x.position, x.command) _ k.learned _ k.written k.learns
accepted_wakes m from x old new out (inr heard) = only_heard_wakes from x old new heard.0

pairs_wake : (m : Meaning) (first : ℕ) (commands : List Command) (old : NodeValue) (before : OutboxValue) (k : ℕ)
    (new : NodeValue) (after : OutboxValue)
    → LearnsPairs m first commands old before k new after → Wakes old new
pairs_wake m first commands old before _ _ _ none_yet = refl
pairs_wake m first commands old before _ new after (one_more v so_far at takes) =
    runs_wake m takes.learned takes.written new after takes.runs.0
    ∙ learns_wakes _ _ takes.learned _ takes.written takes.learns ∙ pairs_wake m first commands old before _ _ _ so_far

sessions_wake : (ss : List Session) (old : NodeValue) (before : OutboxValue) (k : ℕ) (new : NodeValue)
    (after : OutboxValue) → EndsFirstWaits ss old before k new after → Wakes old new
sessions_wake ss old before _ _ _ none_ended = refl
sessions_wake ss old before _ new after (one_ended s so_far at settles) =
    as_this _ new settles.becomes ∙ sessions_wake ss old before _ _ _ so_far

part_wakes : (m : Meaning) (IsText : List ℕ → Type 0) (p : PartValue) (old new : NodeValue) (out : OutboxValue)
    → HandlesPart m IsText old p new out → Wakes old new
part_wakes m IsText p old new out (inl k) =
    let t = k.2 in
    runs_wake m (without_term_if_outside t.told) t.said new out t.runs.0 ∙ while_wakes t.told
    ∙ sessions_wake k.0.learner.whole.sessions k.0 _ _ t.told t.said t.ends_wait ∙ as_this _ k.0 k.1.2
part_wakes m IsText p old new out (inr k) = as_this _ new k.0.2

-- ---- a whole step

node_wakes : (m : Meaning) (IsText : List ℕ → Type 0) (from : ℕ) (x : NodeMessage) (old new : NodeValue)
    (out : OutboxValue) → HandlesNode m IsText old from x new out → Wakes old new
node_wakes m IsText from (kinds.Prepare b first) old new out k = responds_wakes old new from _ out k
node_wakes m IsText from (kinds.Accept x) old new out k = responds_wakes (with_round x.ballot old) new from _ out k
node_wakes m IsText from (kinds.Promise p) old new out k = promise_wakes old new from p out k
node_wakes m IsText from (kinds.Accepted x) old new out k = accepted_wakes m from x old new out k
node_wakes m IsText from (kinds.Decided d) old new out k = pairs_wake m d.first d.commands old _ _ new out k
node_wakes m IsText from (kinds.Nack n) old new out k =
    as_this _ new k.0 ∙ seeing_wakes n.promised (seeing n.ballot old) ∙ seeing_wakes n.ballot old
node_wakes m IsText from (kinds.Want w) old new out k = as_this old new k.0
node_wakes m IsText from (kinds.Lead b executed) old new out k = lead_wakes old new from b executed out k
node_wakes m IsText from (kinds.Part p) old new out k = part_wakes m IsText p old new out k
node_wakes m IsText from _ old new out k = as_this old new k.0

content_wakes : (m : Meaning) (IsText : List ℕ → Type 0) (x : Content) (old new : NodeValue) (out : OutboxValue)
    → Handles m IsText old x new out → Wakes old new
content_wakes m IsText (content.Request r) old new out k =
    taken_wakes (seen_as (session_of r.client old.learner.whole.sessions) r.number) old new r out k
content_wakes m IsText (content.Node from x) old new out k = node_wakes m IsText from x old new out k

bytes_wake : (m : Meaning) (IsText : List ℕ → Type 0) (bytes : List ℕ) (old new : NodeValue) (out : OutboxValue)
    → HandlesBytes m IsText old bytes new out → Wakes old new
bytes_wake m IsText bytes old new out (inl heard) = content_wakes m IsText heard.0.content old new out heard.3
bytes_wake m IsText bytes old new out (inr foreign) = as_this old new foreign.1.0

due_wakes : (old new : NodeValue) (out : OutboxValue) → BeginsWhereDue old new out → Wakes old new
due_wakes old new out (inl begins) = as_this _ new begins.1.becomes
due_wakes old new out (inr waits) = as_this old new waits.1

tick_wakes : (old new : NodeValue) (out : OutboxValue) → Ticks old new out → Wakes old new
tick_wakes old new out (inl reminds) =
    let proposes = reminds.2.proposes in
    proposed_wakes proposes.0 old new reminds.2.offered reminds.2.proposed proposes.1
tick_wakes old new out (inr waits) = due_wakes (ticked old) new out waits.1

refreshed_wakes : (node : NodeValue) → Wakes node (refreshed node)
refreshed_wakes node = by_test (eqb (gathered_bytes node.learner.gathered) node.gathered_before)
  where
    by_test : (t : Bool) → (cond t (remembering (without_gathered node)) (remembering node)).halted ≡ node.halted
    by_test true = refl
    by_test false = refl

afresh_wakes : (withheld : Bool) (old new : NodeValue) (out : OutboxValue) → SeeksAfresh withheld old new out
    → Wakes old new
afresh_wakes withheld old new out (inl asks) =
    let proposes = asks.2.proposes in
    proposed_wakes proposes.0 (refreshed old) new asks.2.asked out proposes.1 ∙ refreshed_wakes old
afresh_wakes withheld old new out (inr tells) = as_this (refreshed old) new tells.1 ∙ refreshed_wakes old

nudge_wakes : (reason : NudgeReason) (old new : NodeValue) (out : OutboxValue) → Nudges reason old new out
    → Wakes old new
nudge_wakes reasons.Period old new out k = afresh_wakes false old new out k
nudge_wakes reasons.TicksWithheld old new out k = afresh_wakes true old new out k
nudge_wakes reasons.Fed old new out (inl proposes) = proposed_wakes proposes.2.0 old new nothing out proposes.2.1
nudge_wakes reasons.Fed old new out (inr asks) = as_this old new asks.1

pub step_wakes : (m : Meaning) (IsText : List ℕ → Type 0) (old : NodeValue) (i : Input) (new : NodeValue)
    (out : OutboxValue) → Steps m IsText old i new out → new.halted ≡ old.halted
step_wakes m IsText old input.Tick new out k = tick_wakes old new out k
step_wakes m IsText old (input.Nudge reason) new out k = nudge_wakes reason old new out k
step_wakes m IsText old (input.Datagram bytes) new out k =
    proposed_wakes k.proposes.0 k.mid new k.first out k.proposes.1
    ∙ bytes_wake m IsText bytes old k.mid k.first k.handles
