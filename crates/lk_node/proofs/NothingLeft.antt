-- A step leaves nothing to execute, where nothing was left before it: what it learns it executes, and else its learner
-- stays.
use Rattle.std.proofs.Common.{◌≡◌, ◌∙◌, ℕ, inl, inr, Bool, true, false, cond, List, [], ◌∷◌, Option, Some, None, refl}
use Rattle.std.proofs.Common.{sym, ap, eqb, subst}
use Rattle.lk_types.specs.BallotValue.{BallotValue}
use Rattle.lk_types.specs.declared.command.Request.{Request as RequestValue}
use Rattle.lk_types.specs.declared.member.Member.{Member}
use Rattle.lk_types.specs.declared.vote.Vote.{Vote}
use Rattle.lk_messages.specs.Values.{PromiseValue, PartValue}
use Rattle.lk_messages.specs.declared.message.Content.{Content}
use Rattle.lk_messages.specs.declared.message.Content.TheVariants as content
use Rattle.lk_messages.specs.declared.message.NodeMessage.{NodeMessage}
use Rattle.lk_messages.specs.declared.message.NodeMessage.TheVariants as kinds
use Rattle.lk_state.specs.Meanings.{Meaning}
use Rattle.lk_state.specs.Runs.{seen_as}
use Rattle.lk_state.specs.Sessions.{session_of}
use Rattle.lk_state.specs.declared.whole.Seen.{Seen}
use Rattle.lk_state.specs.declared.whole.Seen.TheVariants as seen
use Rattle.lk_acceptor.specs.AcceptorValue.{AcceptorValue}
use Rattle.lk_acceptor.specs.declared.response.Response.{Response}
use Rattle.lk_leader.specs.Terms.{TermValue}
use Rattle.lk_learner.specs.Installing.{with_gathered, hearing, Installs}
use Rattle.lk_learner.specs.Learners.{Command, LearnerValue, IsNext, gathered_bytes}
use Rattle.lk_node_interface.specs.Grants.{is_granted}
use Rattle.lk_node_interface.specs.Outboxes.{OutboxValue, nothing}
use Rattle.lk_node_interface.specs.declared.input.Input.{Input}
use Rattle.lk_node_interface.specs.declared.input.Input.TheVariants as input
use Rattle.lk_node_interface.specs.declared.nudge_reason.NudgeReason.{NudgeReason}
use Rattle.lk_node_interface.specs.declared.nudge_reason.NudgeReason.TheVariants as reasons
use Rattle.lk_node.specs.Responding.{with_acceptor, replied, Responds}
use Rattle.lk_node.specs.Asking.{leader_in, PointsTo, QueuesOrRedirects, RepliesAs}
use Rattle.lk_node.specs.CatchingUp.{following, HandlesLead}
use Rattle.lk_node.specs.Deciding.{IsOnlyHeard, HandlesAccepted}
use Rattle.lk_node.specs.DecidedPairs.{LearnsPairs, none_yet, one_more}
use Rattle.lk_node.specs.Executing.{NothingToRun}
use Rattle.lk_node.specs.Installing.{HandlesPart}
use Rattle.lk_node.specs.Leading.{HandlesPromise, having_proposed, ProposesAll}
use Rattle.lk_node.specs.NodeValue.{NodeValue}
use Rattle.lk_node.specs.Nudging.{remembering, without_gathered, refreshed, SeeksAfresh, Nudges}
use Rattle.lk_node.specs.Reminding.{Ticks}
use Rattle.lk_node.specs.Steps.{HandlesNode, Handles, HandlesBytes, Steps}
use Rattle.lk_node.specs.Waiting.{ticked, BeginsWhereDue}
use Rattle.lk_leader.specs.Terms.{is_term_below}
use Rattle.lk_node.specs.Yielding.{without_term, yielded, with_round, seeing}

-- nothing is left to execute, where nothing was left before
abbrev LeavesNothing : NodeValue → NodeValue → Type 0
LeavesNothing old new = NothingToRun old → NothingToRun new

-- ---- the learner stays

-- with the same learner nothing more is left
stays : (old new : NodeValue) → new.learner ≡ old.learner → LeavesNothing old new
stays old new same none = subst (λ (l : LearnerValue). (v : Command) → IsNext l v → ⊥) (sym same) none

-- the node is this one, which has the same learner
stays_as : (old mid new : NodeValue) → mid.learner ≡ old.learner → new ≡ mid → LeavesNothing old new
stays_as old mid new same is = stays old new (ap (λ (node : NodeValue). node.learner) is ∙ same)

yielded_learner : (b : BallotValue) (node : NodeValue) → (yielded b node).learner ≡ node.learner
yielded_learner b node = by_test (is_term_below b node.leader.term)
  where
    by_test : (t : Bool) → (cond t (without_term node) node).learner ≡ node.learner
    by_test true = refl
    by_test false = refl

seeing_learner : (b : BallotValue) (node : NodeValue) → (seeing b node).learner ≡ node.learner
seeing_learner b node = yielded_learner b (with_round b node)

replied_learner : (reply : NodeMessage) (node : NodeValue) → (replied reply node).learner ≡ node.learner
replied_learner reply node = by_test (is_granted reply)
  where
    by_test : (t : Bool) → (yielded node.acceptor.state.promised (cond t (record node { ticks = 0 }) node)).learner
        ≡ node.learner
    by_test true = yielded_learner node.acceptor.state.promised (record node { ticks = 0 })
    by_test false = yielded_learner node.acceptor.state.promised node

responds_settles : (old new : NodeValue) (from : ℕ) (Gives : Response → AcceptorValue → Type 0) (out : OutboxValue)
    → Responds old from Gives new out → LeavesNothing old new
responds_settles old new from Gives out k =
    let answered : NodeValue = with_acceptor old k.acceptor in
    stays_as old (replied k.response.reply answered) new (replied_learner k.response.reply answered) k.becomes

proposed_learner : (xs : List Vote) (old new : NodeValue) (before out : OutboxValue)
    → ProposesAll xs old new before out → new.learner ≡ old.learner
proposed_learner [] old new before out p = ap (λ (node : NodeValue). node.learner) p.1
proposed_learner (x ∷ xs) old new before out p = proposed_learner xs (having_proposed old x p.0) new _ out p.1

promise_settles : (old new : NodeValue) (from : ℕ) (p : PromiseValue) (out : OutboxValue)
    → HandlesPromise old from p new out → LeavesNothing old new
promise_settles old new from p out k =
    elim k.0 [ inl kept ↦ stays_as old _ new refl kept.2 | inr dropped ↦ stays_as old old new refl dropped.1 ]

lead_settles : (old new : NodeValue) (from : ℕ) (b : BallotValue) (theirs : ℕ) (out : OutboxValue)
    → HandlesLead old from b theirs new out → LeavesNothing old new
lead_settles old new from b theirs out (inl refused) = stays_as old (seeing b old) new (seeing_learner b old) refused.1
lead_settles old new from b theirs out (inr followed) =
    stays_as old (following b (seeing b old)) new (seeing_learner b old) followed.1

-- ---- a request

points_settles : (o : Option Member) (old new : NodeValue) (r : RequestValue) (out : OutboxValue)
    → PointsTo o old r new out → LeavesNothing old new
points_settles None old new r out k = stays_as old old new refl k.0
points_settles (Some member) old new r out k = stays_as old old new refl k.0

new_settles : (o : Option TermValue) (old new : NodeValue) (r : RequestValue) (out : OutboxValue)
    → QueuesOrRedirects o old r new out → LeavesNothing old new
new_settles None old new r out k = points_settles (leader_in old.known old.learner.whole.roster.sets) old new r out k
new_settles (Some t) old new r out k = stays_as old _ new refl k.0

taken_settles : (s : Seen) (old new : NodeValue) (r : RequestValue) (out : OutboxValue)
    → RepliesAs s old r new out → LeavesNothing old new
taken_settles seen.New old new r out k = new_settles old.leader.term old new r out k
taken_settles (seen.Same answer) old new r out k = stays_as old old new refl k.0
taken_settles (seen.Passed last) old new r out k = stays_as old old new refl k.0

-- ---- what is learned is executed

only_heard_settles : (from : ℕ) (x : Vote) (old new : NodeValue) → IsOnlyHeard from x old new → LeavesNothing old new
only_heard_settles from x old new (inl heard) = stays_as old _ new refl heard.2
only_heard_settles from x old new (inr other) = stays_as old old new refl other.1

accepted_settles : (m : Meaning) (from : ℕ) (x : Vote) (old new : NodeValue) (out : OutboxValue)
    → HandlesAccepted m from x old new out → LeavesNothing old new
accepted_settles m from x old new out (inl counted) none = counted.2.runs.1
accepted_settles m from x old new out (inr heard) none = only_heard_settles from x old new heard.0 none

pairs_settle : (m : Meaning) (first : ℕ) (commands : List Command) (old : NodeValue) (before : OutboxValue) (k : ℕ)
    (new : NodeValue) (after : OutboxValue)
    → LearnsPairs m first commands old before k new after → LeavesNothing old new
pairs_settle m first commands old before _ _ _ none_yet none = none
pairs_settle m first commands old before _ _ _ (one_more v so_far at takes) none = takes.runs.1

-- a part is gathered and no state installed, or all that can be is executed after that
part_settles : (m : Meaning) (IsText : List ℕ → Type 0) (p : PartValue) (old new : NodeValue) (out : OutboxValue)
    → HandlesPart m IsText old p new out → LeavesNothing old new
part_settles m IsText p old new out (inl k) none = k.2.runs.1
part_settles m IsText p old new out (inr k) none = by_install k.0.1
  where
    left : (l : LearnerValue) → k.0.0 ≡ l → ((v : Command) → IsNext l v → ⊥) → NothingToRun new
    left l is nothing = subst (λ (x : LearnerValue). (v : Command) → IsNext x v → ⊥)
        (sym (ap (λ (node : NodeValue). node.learner) k.0.2 ∙ is)) nothing

    by_install : Installs IsText false (hearing p old.learner) k.0.0 → NothingToRun new
    by_install (inl went) = absurd (cc went.0)
    by_install (inr (inl thrown)) = left (with_gathered None (hearing p old.learner)) thrown.3 none
    by_install (inr (inr kept)) = left (hearing p old.learner) kept.2 none

-- ---- a whole step

node_settles : (m : Meaning) (IsText : List ℕ → Type 0) (from : ℕ) (x : NodeMessage) (old new : NodeValue)
    (out : OutboxValue) → HandlesNode m IsText old from x new out → LeavesNothing old new
node_settles m IsText from (kinds.Prepare b first) old new out k = responds_settles old new from _ out k
node_settles m IsText from (kinds.Accept x) old new out k = responds_settles (with_round x.ballot old) new from _ out k
node_settles m IsText from (kinds.Promise p) old new out k = promise_settles old new from p out k
node_settles m IsText from (kinds.Accepted x) old new out k = accepted_settles m from x old new out k
node_settles m IsText from (kinds.Decided d) old new out k = pairs_settle m d.first d.commands old _ _ new out k
node_settles m IsText from (kinds.Nack n) old new out k =
    stays_as old (seeing n.promised (seeing n.ballot old)) new
    (seeing_learner n.promised (seeing n.ballot old) ∙ seeing_learner n.ballot old) k.0
node_settles m IsText from (kinds.Want w) old new out k = stays_as old old new refl k.0
node_settles m IsText from (kinds.Lead b executed) old new out k = lead_settles old new from b executed out k
node_settles m IsText from (kinds.Part p) old new out k = part_settles m IsText p old new out k
node_settles m IsText from _ old new out k = stays_as old old new refl k.0

content_settles : (m : Meaning) (IsText : List ℕ → Type 0) (x : Content) (old new : NodeValue) (out : OutboxValue)
    → Handles m IsText old x new out → LeavesNothing old new
content_settles m IsText (content.Request r) old new out k =
    taken_settles (seen_as (session_of r.client old.learner.whole.sessions) r.number) old new r out k
content_settles m IsText (content.Node from x) old new out k = node_settles m IsText from x old new out k

bytes_settle : (m : Meaning) (IsText : List ℕ → Type 0) (bytes : List ℕ) (old new : NodeValue) (out : OutboxValue)
    → HandlesBytes m IsText old bytes new out → LeavesNothing old new
bytes_settle m IsText bytes old new out (inl heard) = content_settles m IsText heard.0.content old new out heard.3
bytes_settle m IsText bytes old new out (inr foreign) = stays_as old old new refl foreign.1.0

due_settles : (old new : NodeValue) (out : OutboxValue) → BeginsWhereDue old new out → LeavesNothing old new
due_settles old new out (inl begins) = stays_as old _ new refl begins.1.becomes
due_settles old new out (inr waits) = stays_as old old new refl waits.1

tick_settles : (old new : NodeValue) (out : OutboxValue) → Ticks old new out → LeavesNothing old new
tick_settles old new out (inl reminds) =
    let proposes = reminds.2.proposes in
    stays old new (proposed_learner proposes.0 old new reminds.2.offered reminds.2.proposed proposes.1)
tick_settles old new out (inr waits) = due_settles (ticked old) new out waits.1

refreshed_settles : (node : NodeValue) → LeavesNothing node (refreshed node)
refreshed_settles node = by_test (eqb (gathered_bytes node.learner.gathered) node.gathered_before)
  where
    by_test : (t : Bool) → LeavesNothing node (cond t (remembering (without_gathered node)) (remembering node))
    by_test true = λ none. none
    by_test false = λ none. none

afresh_settles : (withheld : Bool) (old new : NodeValue) (out : OutboxValue) → SeeksAfresh withheld old new out
    → LeavesNothing old new
afresh_settles withheld old new out (inl asks) none =
    let proposes = asks.2.proposes in
    stays (refreshed old) new (proposed_learner proposes.0 (refreshed old) new asks.2.asked out proposes.1)
    (refreshed_settles old none)
afresh_settles withheld old new out (inr tells) none =
    stays_as (refreshed old) (refreshed old) new refl tells.1 (refreshed_settles old none)

nudge_settles : (reason : NudgeReason) (old new : NodeValue) (out : OutboxValue) → Nudges reason old new out
    → LeavesNothing old new
nudge_settles reasons.Period old new out k none = afresh_settles false old new out k none
nudge_settles reasons.TicksWithheld old new out k none = afresh_settles true old new out k none
nudge_settles reasons.Fed old new out (inl proposes) none =
    stays old new (proposed_learner proposes.2.0 old new nothing out proposes.2.1) none
nudge_settles reasons.Fed old new out (inr asks) none = stays_as old old new refl asks.1 none

pub step_leaves_nothing : (m : Meaning) (IsText : List ℕ → Type 0) (old : NodeValue) (i : Input) (new : NodeValue)
    (out : OutboxValue) → Steps m IsText old i new out → NothingToRun old → NothingToRun new
step_leaves_nothing m IsText old input.Tick new out k none = tick_settles old new out k none
step_leaves_nothing m IsText old (input.Nudge reason) new out k none = nudge_settles reason old new out k none
step_leaves_nothing m IsText old (input.Datagram bytes) new out k none =
    stays k.mid new (proposed_learner k.proposes.0 k.mid new k.first out k.proposes.1)
    (bytes_settle m IsText bytes old k.mid k.first k.handles none)
