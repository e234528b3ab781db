-- A step tells of what its node learns, executes and votes for: its entries lie near, and with them a standing that
-- told of the node before still does.
use Rattle.std.proofs.Common.{◌≡◌, ℕ, ◌+◌, ◌≤◌, inl, inr, Bool, true, false, cond, List, [], ◌∷◌, ◌++◌}
use Rattle.std.proofs.Common.{length, Contains, Option, Some, None, refl, sym, ap, ◌∙◌, eqb, subst, arith}
use Rattle.std.proofs.lemmas.Bool.{cases_lt}
use Rattle.lk_types.specs.BallotValue.{BallotValue}
use Rattle.lk_types.specs.declared.command.Request.{Request as RequestValue}
use Rattle.lk_types.specs.declared.entry.Entry.{Entry}
use Rattle.lk_types.specs.declared.entry.Entry.TheVariants as entry
use Rattle.lk_types.specs.declared.member.Member.{Member}
use Rattle.lk_types.specs.declared.vote.Vote.{Vote}
use Rattle.lk_messages.specs.Values.{PromiseValue, PartValue}
use Rattle.lk_messages.specs.declared.message.Content.{Content}
use Rattle.lk_messages.specs.declared.message.Content.TheVariants as content
use Rattle.lk_messages.specs.declared.message.Nack.{Nack}
use Rattle.lk_messages.specs.declared.message.NodeMessage.{NodeMessage}
use Rattle.lk_messages.specs.declared.message.NodeMessage.TheVariants as kinds
use Rattle.lk_store_format.specs.Standings.{with_plain, with_all}
use Rattle.lk_store_format.specs.Values.{StandingValue}
use Rattle.lk_state.specs.Meanings.{Meaning}
use Rattle.lk_state.specs.Runs.{run_answer, seen_as}
use Rattle.lk_state.specs.Sessions.{session_of}
use Rattle.lk_state.specs.States.{WholeValue}
use Rattle.lk_state.specs.declared.session.Session.{Session}
use Rattle.lk_state.specs.declared.whole.Seen.{Seen}
use Rattle.lk_state.specs.declared.whole.Seen.TheVariants as seen
use Rattle.lk_acceptor.specs.AcceptorValue.{AcceptorValue}
use Rattle.lk_acceptor.specs.Replies.{RepliesToPrepare, RepliesToAccept}
use Rattle.lk_acceptor.specs.declared.response.Response.{Response}
use Rattle.lk_store_format.specs.Values.{HeaderValue}
use Rattle.lk_leader.specs.Terms.{TermValue}
use Rattle.lk_learner.specs.Learners.{Command, Pair, LearnerValue, IsNext, IsWanted, executed, keeping, advanced}
use Rattle.lk_learner.specs.Learners.{gathered_bytes}
use Rattle.lk_learner.specs.Installing.{hearing, Installs}
use Rattle.lk_learner.proofs.Learnerships.{ran_moves, with_only, without_from}
use Rattle.lk_node_interface.specs.Grants.{is_granted}
use Rattle.lk_node_interface.specs.KeptReplies.{session_by}
use Rattle.lk_node_interface.specs.Outboxes.{OutboxValue, nothing, with_optional, with_rebase}
use Rattle.lk_node_interface.specs.declared.input.Input.{Input}
use Rattle.lk_node_interface.specs.declared.input.Input.TheVariants as input
use Rattle.lk_node_interface.specs.declared.nudge_reason.NudgeReason.{NudgeReason}
use Rattle.lk_node_interface.specs.declared.nudge_reason.NudgeReason.TheVariants as reasons
use Rattle.lk_node.specs.Responding.{with_acceptor, replied, Responds}
use Rattle.lk_node.specs.Asking.{leader_in, PointsTo, QueuesOrRedirects, RepliesAs}
use Rattle.lk_node.specs.Beginning.{next_ballot}
use Rattle.lk_node.specs.CatchingUp.{HandlesLead, HandlesNack}
use Rattle.lk_node.specs.Deciding.{IsOnlyHeard, HandlesAccepted}
use Rattle.lk_node.specs.DecidedPairs.{LearnsPairs, none_yet, one_more}
use Rattle.lk_node.specs.Executing.{with_session_reply, waiting_number, EndsWaitIfAny, is_outside}
use Rattle.lk_node.specs.Executing.{without_term_if_outside, Runs}
use Rattle.lk_node.specs.Executing.{stays, goes_on}
use Rattle.lk_node.specs.Installing.{EndsFirstWaits, none_ended, one_ended, HandlesPart}
use Rattle.lk_node.specs.Leading.{HandlesPromise, having_proposed, ProposesAll}
use Rattle.lk_node.specs.Learning.{Learns, with_learner}
use Rattle.lk_node.specs.NodeValue.{NodeValue}
use Rattle.lk_node.specs.Nudging.{remembering, without_gathered, refreshed, SeeksAfresh, Nudges}
use Rattle.lk_node.specs.Reaching.{IsDecidedAt, DecidesTo, EntryLiesNear, EntriesLieNear, RestoresNode}
use Rattle.lk_node.specs.Reaching.{StillRestoresNode}
use Rattle.lk_node.specs.Reminding.{Ticks}
use Rattle.lk_node.specs.Steps.{HandlesNode, Handles, HandlesBytes, Steps}
use Rattle.lk_node.specs.Waiting.{ticked}
use Rattle.lk_leader.specs.Terms.{is_term_below}
use Rattle.lk_node.specs.Yielding.{without_term, yielded, with_round, seeing}
use Rattle.lk_node.proofs.FewEntries.{ran_same, proposed_same, offered_same, fed_same, asked_few, nudged_same}
use Rattle.lk_node.proofs.ReachLaws.{decided_here, tells_more, with_all_behind, near_behind}

-- ---- what a standing tells of a node

abbrev Parts : Type 0
Parts = WholeValue × List Pair × ℕ

abbrev parts : NodeValue → Parts
parts node = (node.learner.whole, node.learner.pairs, node.acceptor.alpha)

-- of that it has what the other node had
abbrev Rests : NodeValue → NodeValue → Type 0
Rests old new = parts new ≡ parts old

as_this : (mid new : NodeValue) → new ≡ mid → Rests mid new
as_this mid new is = ap parts is

tells_as : (ahead : ℕ) (s : StandingValue) (old new : NodeValue) → Rests old new
    → RestoresNode ahead s old → RestoresNode ahead s new
tells_as ahead s old new same t =
    let whole : new.learner.whole ≡ old.learner.whole = ap (λ (p : Parts). p.0) same in
    let pairs : new.learner.pairs ≡ old.learner.pairs = ap (λ (p : Parts). p.1) same in
    let votes : new.acceptor.alpha ≡ old.acceptor.alpha = ap (λ (p : Parts). p.2) same in
    record {
      some = t.some;
      votes_ahead = votes ∙ t.votes_ahead;
      window = ap (λ (w : WholeValue). length w.roster.sets) whole ∙ t.window;
      above = subst (λ (w : WholeValue). s.position ≤ w.roster.executed) (sym whole) t.above;
      reached = subst (λ (w : WholeValue). DecidesTo s w.roster.executed) (sym whole) t.reached;
      kept = subst (λ (ps : List Pair). (p : Pair) → Contains ps p → IsDecidedAt p.0 s.pairs) (sym pairs) t.kept;
    }

-- the entries lie near, and with them it tells of the node
abbrev Told : ℕ → StandingValue → List Entry → NodeValue → Type 0
Told ahead s es node = EntriesLieNear ahead s es × RestoresNode ahead (with_all es s) node

told_as : (ahead : ℕ) (s : StandingValue) (es fs : List Entry) (old new : NodeValue) → fs ≡ es → Rests old new
    → Told ahead s es old → Told ahead s fs new
told_as ahead s es fs old new same rests t =
    subst (λ (l : List Entry). Told ahead s l new) (sym same) (t.0, tells_as ahead (with_all es s) old new rests t.1)

-- where nothing is written
none_told : (old new : NodeValue) (es : List Entry) → es ≡ [] → Rests old new → StillRestoresNode old new es
none_told old new es none rests ahead s t = told_as ahead s [] es old new none rests (tt, t)

one_told : (ahead : ℕ) (s : StandingValue) (es : List Entry) (e : Entry) (old new : NodeValue) → Told ahead s es old
    → EntryLiesNear ahead (with_all es s) e
    → RestoresNode ahead (with_plain e (with_all es s)) new → Told ahead s (es ++ e ∷ []) new
one_told ahead s es e old new t near more = (
  near_behind ahead s es (e ∷ []) t.0 (near, tt),
  subst (λ (z : StandingValue). RestoresNode ahead z new) (sym (with_all_behind es (e ∷ []) s)) more,
)

-- ---- what rests

yielded_rests : (b : BallotValue) (node : NodeValue) → Rests node (yielded b node)
yielded_rests b node = by_test (is_term_below b node.leader.term)
  where
    by_test : (t : Bool) → parts (cond t (without_term node) node) ≡ parts node
    by_test true = refl
    by_test false = refl

seeing_rests : (b : BallotValue) (node : NodeValue) → Rests node (seeing b node)
seeing_rests b node = yielded_rests b (with_round b node)

replied_rests : (reply : NodeMessage) (node : NodeValue) → Rests node (replied reply node)
replied_rests reply node = by_test (is_granted reply)
  where
    by_test : (t : Bool) → parts (yielded node.acceptor.state.promised (cond t (record node { ticks = 0 }) node))
        ≡ parts node
    by_test true = yielded_rests node.acceptor.state.promised (record node { ticks = 0 })
    by_test false = yielded_rests node.acceptor.state.promised node

proposed_rests : (xs : List Vote) (old new : NodeValue) (before out : OutboxValue)
    → ProposesAll xs old new before out → Rests old new
proposed_rests [] old new before out p = as_this old new p.1
proposed_rests (x ∷ xs) old new before out p = proposed_rests xs (having_proposed old x p.0) new _ out p.1

promise_rests : (old new : NodeValue) (from : ℕ) (p : PromiseValue) (out : OutboxValue)
    → HandlesPromise old from p new out → Rests old new
promise_rests old new from p out k =
    elim k.0 [ inl kept ↦ as_this _ new kept.2 | inr dropped ↦ as_this old new dropped.1 ]

lead_rests : (old new : NodeValue) (from : ℕ) (b : BallotValue) (theirs : ℕ) (out : OutboxValue)
    → HandlesLead old from b theirs new out → Rests old new
lead_rests old new from b theirs out (inl refused) = as_this (seeing b old) new refused.1 ∙ seeing_rests b old
lead_rests old new from b theirs out (inr followed) = as_this _ new followed.1 ∙ seeing_rests b old

points_rests : (o : Option Member) (old new : NodeValue) (r : RequestValue) (out : OutboxValue)
    → PointsTo o old r new out → Rests old new
points_rests None old new r out k = as_this old new k.0
points_rests (Some member) old new r out k = as_this old new k.0

new_rests : (o : Option TermValue) (old new : NodeValue) (r : RequestValue) (out : OutboxValue)
    → QueuesOrRedirects o old r new out → Rests old new
new_rests None old new r out k = points_rests (leader_in old.known old.learner.whole.roster.sets) old new r out k
new_rests (Some t) old new r out k = as_this _ new k.0

taken_rests : (s : Seen) (old new : NodeValue) (r : RequestValue) (out : OutboxValue)
    → RepliesAs s old r new out → Rests old new
taken_rests seen.New old new r out k = new_rests old.leader.term old new r out k
taken_rests (seen.Same answer) old new r out k = as_this old new k.0
taken_rests (seen.Passed last) old new r out k = as_this old new k.0

settled_rests : (o : Option Session) (old new : NodeValue) (before after : OutboxValue)
    → EndsWaitIfAny o old before new after → Rests old new
settled_rests None old new before after k = as_this old new k.0
settled_rests (Some s) old new before after k = as_this _ new k.becomes

while_rests : (node : NodeValue) → Rests node (without_term_if_outside node)
while_rests node = by_test (is_outside node)
  where
    by_test : (t : Bool) → parts (cond t (without_term node) node) ≡ parts node
    by_test true = refl
    by_test false = refl

only_heard_rests : (from : ℕ) (x : Vote) (old new : NodeValue) → IsOnlyHeard from x old new → Rests old new
only_heard_rests from x old new (inl heard) = as_this _ new heard.2
only_heard_rests from x old new (inr other) = as_this old new other.1

installs_rests : (IsText : List ℕ → Type 0) (p : PartValue) (old new : NodeValue) (l : LearnerValue)
    → Installs IsText false (hearing p old.learner) l → new ≡ with_learner old l → Rests old new
installs_rests IsText p old new l (inl went) is = absurd (cc went.0)
installs_rests IsText p old new l (inr (inl thrown)) is =
    as_this (with_learner old l) new is ∙ ap (λ (k : LearnerValue). parts (with_learner old k)) thrown.3
installs_rests IsText p old new l (inr (inr same)) is =
    as_this (with_learner old l) new is ∙ ap (λ (k : LearnerValue). parts (with_learner old k)) same.2

-- ---- what is learned and executed

-- one position further
runs_tells : (m : Meaning) (ahead : ℕ) (s : StandingValue) (node : NodeValue) (v : Command) → IsNext node.learner v
    → RestoresNode ahead s node → RestoresNode ahead s (with_learner node (advanced m v node.learner))
runs_tells m ahead s node v next t =
    let l : LearnerValue = node.learner in
    let some : 1 ≤ length l.whole.roster.sets = omega (arith, t.some, t.window) in
    let moves = ran_moves m v l.whole some in
    record {
      some = t.some;
      votes_ahead = t.votes_ahead;
      window = moves.1 ∙ t.window;
      above = omega (arith, t.above, moves.0);
      reached = λ i low most. elim (cases_lt l.whole.roster.executed i) [
        | inl further ↦
            let is : l.whole.roster.executed + 1 ≡ i = omega (arith, further, most, moves.0) in
            subst (λ (j : ℕ). IsDecidedAt j s.pairs) is (t.kept (l.whole.roster.executed + 1, v) next)
        | inr within ↦ t.reached i low within
      ];
      kept = λ p c. t.kept p (without_from (l.whole.roster.executed + 1) l.pairs p c);
    }

ran_tells : (m : Meaning) (ahead : ℕ) (s : StandingValue) (old : NodeValue) (before : OutboxValue) (new : NodeValue)
    (after : OutboxValue) → Runs m old before new after → RestoresNode ahead s old → RestoresNode ahead s new
ran_tells m ahead s old before new after stays t = t
ran_tells m ahead s old before new after (goes_on {mid = mid} {between = between} so_far k) t =
    let ran : NodeValue = with_learner mid (advanced m k.command mid.learner) in
    tells_as ahead s ran new
    (as_this (without_term_if_outside k.mid) new k.becomes ∙ while_rests k.mid
    ∙ settled_rests (session_by k.command (run_answer m k.command mid.learner.whole)) ran k.mid _ after k.ends_wait)
    (runs_tells m ahead s mid k.command k.next (ran_tells m ahead s old before mid between so_far t))

ran_told : (m : Meaning) (ahead : ℕ) (s : StandingValue) (old : NodeValue) (before : OutboxValue) (new : NodeValue)
    (after : OutboxValue) → Runs m old before new after → Told ahead s before.entries old
    → Told ahead s after.entries new
ran_told m ahead s old before new after r t =
    subst (λ (l : List Entry). Told ahead s l new) (sym (ran_same m old before new after r))
    (t.0, ran_tells m ahead (with_all before.entries s) old before new after r t.1)

-- a pair that is wanted
kept_tells : (ahead : ℕ) (s : StandingValue) (node : NodeValue) (p : Pair) → IsWanted node.learner p.0
    → RestoresNode ahead s node → RestoresNode ahead (with_plain (entry.Decided p.0 p.1) s)
    (with_learner node (keeping p node.learner))
kept_tells ahead s node p wanted t =
    let more = tells_more ahead s (entry.Decided p.0 p.1) node t in
    record {
      some = more.some;
      votes_ahead = more.votes_ahead;
      window = more.window;
      above = more.above;
      reached = more.reached;
      kept = λ q c. elim (with_only p node.learner.pairs q c) [
        | inl same ↦ subst (λ (r : Pair). IsDecidedAt r.0 (with_plain (entry.Decided p.0 p.1) s).pairs) same
            (decided_here s p.0 p.1 (omega (arith, t.above, wanted.above)))
        | inr old ↦ more.kept q old
      ];
    }

learned_told : (ahead : ℕ) (s : StandingValue) (p : Pair) (old new : NodeValue) (before after : OutboxValue)
    → Learns p old before new after → Told ahead s before.entries old → Told ahead s after.entries new
learned_told ahead s p old new before after (inl k) t =
    let z : StandingValue = with_all before.entries s in
    let node : NodeValue = with_learner old (keeping p old.learner) in
    let told : Told ahead s (before.entries ++ entry.Decided p.0 p.1 ∷ []) node =
    one_told ahead s before.entries (entry.Decided p.0 p.1) old node t
    (executed old.learner, t.1.reached, omega (arith, k.0.near, t.1.window)) (kept_tells ahead z old p k.0 t.1) in
    told_as ahead s _ after.entries node new (ap (λ (o : OutboxValue). o.entries) k.2) (as_this node new k.1) told
learned_told ahead s p old new before after (inr k) t =
    told_as ahead s before.entries after.entries old new
    (ap (λ (o : OutboxValue). o.entries) k.2) (as_this old new k.1) t

pairs_told : (m : Meaning) (ahead : ℕ) (s : StandingValue) (first : ℕ) (commands : List Command) (old : NodeValue)
    (before : OutboxValue) (k : ℕ) (new : NodeValue) (after : OutboxValue)
    → LearnsPairs m first commands old before k new after → Told ahead s before.entries old
    → Told ahead s after.entries new
pairs_told m ahead s first commands old before k new after none_yet t = t
pairs_told m ahead s first commands old before n new after
    (one_more {k = k} {mid = mid} {between = between} v so_far at pair) t =
    ran_told m ahead s pair.learned pair.written new after pair.runs.0
    (learned_told ahead s (first + k, v) mid pair.learned between pair.written pair.learns
    (pairs_told m ahead s first commands old before k mid between so_far t))

-- ---- what an acceptor writes

optional_told : (ahead : ℕ) (s : StandingValue) (node : NodeValue) (o : Option Entry)
    → ((e : Entry) → o ≡ Some e → EntryLiesNear ahead s e) → RestoresNode ahead s node
    → Told ahead s (with_optional o nothing).entries node
optional_told ahead s node None near t = (tt, t)
optional_told ahead s node (Some e) near t = ((near e refl, tt), tells_more ahead s e node t)

same_some : (e f : Entry) (o : Option Entry) → o ≡ Some f → o ≡ Some e → f ≡ e
same_some e f o a b = cc (a, b)

-- an entry that is there is a promise, or there is none
no_vote : (ahead : ℕ) (s : StandingValue) (b : BallotValue) (o : Option Entry) → (o ≡ Some (entry.Promise b))
    → (e : Entry) → o ≡ Some e → EntryLiesNear ahead s e
no_vote ahead s b o is e at = subst (EntryLiesNear ahead s) (same_some e (entry.Promise b) o is at) tt

no_entry : (ahead : ℕ) (s : StandingValue) (o : Option Entry) → o ≡ None → (e : Entry) → o ≡ Some e
    → EntryLiesNear ahead s e
no_entry ahead s o none e at = absurd (cc (none, at))

prepared_near : (ahead : ℕ) (s : StandingValue) (a new : AcceptorValue) (e : ℕ) (b : BallotValue) (first : ℕ)
    (r : Response) → RepliesToPrepare a e b first r new
    → ((x : Entry) → r.entry ≡ Some x → EntryLiesNear ahead s x) × (new.alpha ≡ a.alpha)
prepared_near ahead s a new e b first r (inl k) = (
  elim k.1.entry [ inl raised ↦ no_vote ahead s b r.entry raised.1 | inr none ↦ no_entry ahead s r.entry none.1 ],
  ap (λ (x : AcceptorValue). x.alpha) k.1.state,
)
prepared_near ahead s a new e b first r (inr k) =
    (no_entry ahead s r.entry k.1.entry, ap (λ (x : AcceptorValue). x.alpha) k.1.state)

accepted_near : (ahead : ℕ) (s : StandingValue) (node : NodeValue) (new : AcceptorValue) (v : Vote) (r : Response)
    → RestoresNode ahead s node → RepliesToAccept node.acceptor node.learner.whole.roster.executed v r new
    → ((x : Entry) → r.entry ≡ Some x → EntryLiesNear ahead s x) × (new.alpha ≡ node.acceptor.alpha)
accepted_near ahead s node new v r t (inl k) = (
  elim k.1.entry [
    | inl none ↦ no_entry ahead s r.entry none.1
    | inr cast ↦ (λ x at. subst (EntryLiesNear ahead s) (same_some x (entry.Vote v) r.entry cast.1 at)
        (executed node.learner, t.reached, omega (arith, k.0.near, t.votes_ahead)))
  ],
  ap (λ (x : AcceptorValue). x.alpha) k.1.state,
)
accepted_near ahead s node new v r t (inr k) =
    (no_entry ahead s r.entry k.1.entry, ap (λ (x : AcceptorValue). x.alpha) k.1.state)

responds_told : (ahead : ℕ) (s : StandingValue) (old new : NodeValue) (from : ℕ)
    (Gives : Response → AcceptorValue → Type 0) (out : OutboxValue) (k : Responds old from Gives new out)
    → ((x : Entry) → k.response.entry ≡ Some x → EntryLiesNear ahead s x) × (k.acceptor.alpha ≡ old.acceptor.alpha)
    → RestoresNode ahead s old → Told ahead s out.entries new
responds_told ahead s old new from Gives out k near t =
    let answered : NodeValue = with_acceptor old k.acceptor in
    let rests : Rests old new = as_this (replied k.response.reply answered) new k.becomes
    ∙ replied_rests k.response.reply answered ∙ ap (λ (a : ℕ). (old.learner.whole, old.learner.pairs, a)) near.1 in
    told_as ahead s (with_optional k.response.entry nothing).entries out.entries old new
    (ap (λ (o : OutboxValue). o.entries) k.comes_to) rests
    (optional_told ahead s old k.response.entry near.0 t)

-- ---- whether the step rebases

told_rebase : (whose : HeaderValue) (s : Session) (o : Option ℕ) (out : OutboxValue)
    → (with_session_reply whose s o out).rebase ≡ out.rebase
told_rebase whose s None out = refl
told_rebase whose s (Some n) out = refl

settled_rebase : (o : Option Session) (old new : NodeValue) (before after : OutboxValue)
    → EndsWaitIfAny o old before new after → after.rebase ≡ before.rebase
settled_rebase None old new before after s = ap (λ (b : OutboxValue). b.rebase) s.1
settled_rebase (Some s) old new before after k =
    ap (λ (b : OutboxValue). b.rebase) k.comes_to ∙ told_rebase old.header s (waiting_number s old) before

ran_rebase : (m : Meaning) (old : NodeValue) (before : OutboxValue) (new : NodeValue) (after : OutboxValue)
    → Runs m old before new after → after.rebase ≡ before.rebase
ran_rebase m old before new after stays = refl
ran_rebase m old before new after (goes_on {mid = mid} {between = between} r e) =
    settled_rebase _ _ _ _ after e.ends_wait ∙ ran_rebase m old before mid between r

all_settled_rebase : (ss : List Session) (old : NodeValue) (before : OutboxValue) (k : ℕ) (new : NodeValue)
    (after : OutboxValue) → EndsFirstWaits ss old before k new after → after.rebase ≡ before.rebase
all_settled_rebase ss old before k new after none_ended = refl
all_settled_rebase ss old before k new after (one_ended {k = j} {mid = mid} {between = between} s so_far at one) =
    settled_rebase (Some s) mid new between after one ∙ all_settled_rebase ss old before j mid between so_far

proposed_rebase : (xs : List Vote) (old new : NodeValue) (before out : OutboxValue) → ProposesAll xs old new before out
    → out.rebase ≡ before.rebase
proposed_rebase [] old new before out p = ap (λ (o : OutboxValue). o.rebase) p.2
proposed_rebase (x ∷ xs) old new before out p = proposed_rebase xs _ new _ out p.1

-- ---- what is heard

accepted_told : (m : Meaning) (from : ℕ) (x : Vote) (old new : NodeValue) (out : OutboxValue)
    → HandlesAccepted m from x old new out → StillRestoresNode old new out.entries
accepted_told m from x old new out (inl counted) ahead s t =
    let k = counted.2 in
    told_as ahead s k.ran.entries out.entries new new (ap (λ (o : OutboxValue). o.entries) k.comes_to) refl
    (ran_told m ahead s k.learned k.written new k.ran k.runs.0
    (learned_told ahead s (x.position, x.command) _ k.learned _ k.written k.learns (tt, tells_as ahead s old _ refl t)))
accepted_told m from x old new out (inr heard) ahead s t =
    none_told old new out.entries (ap (λ (o : OutboxValue). o.entries) heard.1)
    (only_heard_rests from x old new heard.0) ahead s t

part_told : (m : Meaning) (IsText : List ℕ → Type 0) (p : PartValue) (old new : NodeValue) (out : OutboxValue)
    → HandlesPart m IsText old p new out → out.rebase ≡ false → StillRestoresNode old new out.entries
part_told m IsText p old new out (inl k) puts =
    let t = k.2 in
    let rebases : out.rebase ≡ true =
    ran_rebase m (without_term_if_outside t.told) t.said new out t.runs.0
    ∙ all_settled_rebase k.0.learner.whole.sessions k.0 (with_rebase nothing)
    (length k.0.learner.whole.sessions) t.told t.said t.ends_wait in
    absurd (cc (rebases, puts))
part_told m IsText p old new out (inr k) puts =
    none_told old new out.entries (ap (λ (o : OutboxValue). o.entries) k.1)
    (installs_rests IsText p old new k.0.0 k.0.1 k.0.2)

nack_none : (old new : NodeValue) (from : ℕ) (theirs : Nack) (out : OutboxValue)
    → HandlesNack old from theirs new out → out.entries ≡ []
nack_none old new from theirs out h = elim h.1 [
  | inl a ↦
      elim a.1 [ inl s ↦ ap (λ (o : OutboxValue). o.entries) s.1.1 | inr s ↦ ap (λ (o : OutboxValue). o.entries) s.1 ]
  | inr (inl a) ↦ fed_same old from (theirs.executed + 1) 0 out a.1
  | inr (inr a) ↦ ap (λ (o : OutboxValue). o.entries) a.1
]

lead_none : (old new : NodeValue) (from : ℕ) (b : BallotValue) (theirs : ℕ) (out : OutboxValue)
    → HandlesLead old from b theirs new out → out.entries ≡ []
lead_none old new from b theirs out h = elim h [
  | inl a ↦ ap (λ (o : OutboxValue). o.entries) a.2.1
  | inr a ↦ elim a.2 [
    | inl c ↦
        elim c.1 [ inl s ↦ ap (λ (o : OutboxValue). o.entries) s.1.1 | inr s ↦ ap (λ (o : OutboxValue). o.entries) s.1 ]
    | inr c ↦ ap (λ (o : OutboxValue). o.entries) c.1
  ]
]

node_told : (m : Meaning) (IsText : List ℕ → Type 0) (from : ℕ) (x : NodeMessage) (old new : NodeValue)
    (out : OutboxValue) → HandlesNode m IsText old from x new out → out.rebase ≡ false
    → StillRestoresNode old new out.entries
node_told m IsText from (kinds.Prepare b first) old new out k puts = λ ahead s t.
    responds_told ahead s old new from _ out k
    (prepared_near ahead s old.acceptor k.acceptor old.learner.whole.roster.executed b first k.response k.given) t
node_told m IsText from (kinds.Accept x) old new out k puts = λ ahead s t.
    responds_told ahead s (with_round x.ballot old) new from _ out k
    (accepted_near ahead s old k.acceptor x k.response t k.given)
    (tells_as ahead s old (with_round x.ballot old) refl t)
node_told m IsText from (kinds.Promise p) old new out k puts =
    none_told old new out.entries (ap (λ (o : OutboxValue). o.entries) k.1) (promise_rests old new from p out k)
node_told m IsText from (kinds.Accepted x) old new out k puts = accepted_told m from x old new out k
node_told m IsText from (kinds.Decided d) old new out k puts =
    λ ahead s t. pairs_told m ahead s d.first d.commands old nothing (length d.commands) new out k (tt, t)
node_told m IsText from (kinds.Nack n) old new out k puts =
    none_told old new out.entries (nack_none old new from n out k)
    (as_this _ new k.0 ∙ seeing_rests n.promised (seeing n.ballot old) ∙ seeing_rests n.ballot old)
node_told m IsText from (kinds.Want w) old new out k puts =
    none_told old new out.entries (fed_same old from w.first w.offset out k.1) (as_this old new k.0)
node_told m IsText from (kinds.Lead b theirs) old new out k puts =
    none_told old new out.entries (lead_none old new from b theirs out k) (lead_rests old new from b theirs out k)
node_told m IsText from (kinds.Part p) old new out k puts = part_told m IsText p old new out k puts
node_told m IsText from (kinds.Answer a) old new out k puts =
    none_told old new out.entries (ap (λ (o : OutboxValue). o.entries) k.1) (as_this old new k.0)
node_told m IsText from (kinds.Elsewhere a) old new out k puts =
    none_told old new out.entries (ap (λ (o : OutboxValue). o.entries) k.1) (as_this old new k.0)
node_told m IsText from (kinds.Passed a) old new out k puts =
    none_told old new out.entries (ap (λ (o : OutboxValue). o.entries) k.1) (as_this old new k.0)

content_told : (m : Meaning) (IsText : List ℕ → Type 0) (x : Content) (old new : NodeValue) (out : OutboxValue)
    → Handles m IsText old x new out → out.rebase ≡ false → StillRestoresNode old new out.entries
content_told m IsText (content.Request r) old new out k puts =
    none_told old new out.entries (asked_few old r new out k)
    (taken_rests (seen_as (session_of r.client old.learner.whole.sessions) r.number) old new r out k)
content_told m IsText (content.Node from x) old new out k puts = node_told m IsText from x old new out k puts

bytes_told : (m : Meaning) (IsText : List ℕ → Type 0) (bytes : List ℕ) (old new : NodeValue) (out : OutboxValue)
    → HandlesBytes m IsText old bytes new out → out.rebase ≡ false → StillRestoresNode old new out.entries
bytes_told m IsText bytes old new out (inl heard) puts = content_told m IsText heard.0.content old new out heard.3 puts
bytes_told m IsText bytes old new out (inr foreign) puts =
    none_told old new out.entries (ap (λ (o : OutboxValue). o.entries) foreign.1.1) (as_this old new foreign.1.0)

-- ---- a tick

begun_told : (b : BallotValue) (old new : NodeValue) (es : List Entry) → es ≡ entry.Promise b ∷ []
    → Rests old new → StillRestoresNode old new es
begun_told b old new es is rests ahead s t =
    told_as ahead s (entry.Promise b ∷ []) es old new is rests ((tt, tt), tells_more ahead s (entry.Promise b) old t)

tick_told : (old new : NodeValue) (out : OutboxValue) → Ticks old new out → StillRestoresNode old new out.entries
tick_told old new out (inl k) =
    let r = k.2 in
    none_told old new out.entries
    (ap (λ (o : OutboxValue). o.entries) r.leads.2.1
    ∙ proposed_same r.proposes.0 old new r.offered r.proposed r.proposes.1
    ∙ offered_same old k.0 r.asked _ r.offered r.offers
    ∙ elim r.asks [
      | inl a ↦ ap (λ (o : OutboxValue). o.entries) a.2.1
      | inr a ↦
          ap (λ (o : OutboxValue). o.entries) a.1
    ])
    (proposed_rests r.proposes.0 old new r.offered r.proposed r.proposes.1)
tick_told old new out (inr k) = elim k.1 [
  | inl b ↦ begun_told (next_ballot (ticked old)) old new out.entries
      (elim b.1.asks [
        | inl a ↦ ap (λ (o : OutboxValue). o.entries) a.1
        | inr a ↦
            ap (λ (o : OutboxValue). o.entries) a.1
      ]) (as_this _ new b.1.becomes)
  | inr b ↦ none_told old new out.entries (ap (λ (o : OutboxValue). o.entries) b.2) (as_this (ticked old) new b.1)
]

-- ---- a nudge

refreshed_rests : (node : NodeValue) → Rests node (refreshed node)
refreshed_rests node = by_test (eqb (gathered_bytes node.learner.gathered) node.gathered_before)
  where
    by_test : (t : Bool) → parts (cond t (remembering (without_gathered node)) (remembering node)) ≡ parts node
    by_test true = refl
    by_test false = refl

afresh_rests : (withheld : Bool) (old new : NodeValue) (out : OutboxValue) → SeeksAfresh withheld old new out
    → Rests old new
afresh_rests withheld old new out (inl asks) =
    let proposes = asks.2.proposes in
    proposed_rests proposes.0 (refreshed old) new asks.2.asked out proposes.1 ∙ refreshed_rests old
afresh_rests withheld old new out (inr tells) = as_this (refreshed old) new tells.1 ∙ refreshed_rests old

nudge_rests : (reason : NudgeReason) (old new : NodeValue) (out : OutboxValue) → Nudges reason old new out
    → Rests old new
nudge_rests reasons.Period old new out k = afresh_rests false old new out k
nudge_rests reasons.TicksWithheld old new out k = afresh_rests true old new out k
nudge_rests reasons.Fed old new out (inl proposes) = proposed_rests proposes.2.0 old new nothing out proposes.2.1
nudge_rests reasons.Fed old new out (inr asks) = as_this old new asks.1

nudge_told : (reason : NudgeReason) (old new : NodeValue) (out : OutboxValue) → Nudges reason old new out
    → StillRestoresNode old new out.entries
nudge_told reason old new out k =
    none_told old new out.entries (nudged_same reason old new out k) (nudge_rests reason old new out k)

-- ---- a step

-- A standing that told of the node still does with the entries of a step, which lie near, unless the step rebases.
pub step_told : (m : Meaning) (IsText : List ℕ → Type 0) (old : NodeValue) (i : Input) (new : NodeValue)
    (out : OutboxValue) → Steps m IsText old i new out → out.rebase ≡ false → StillRestoresNode old new out.entries
step_told m IsText old input.Tick new out t puts = tick_told old new out t
step_told m IsText old (input.Nudge reason) new out k puts = nudge_told reason old new out k
step_told m IsText old (input.Datagram bytes) new out k puts = λ ahead s t.
    let first : k.first.rebase ≡ false = sym (proposed_rebase k.proposes.0 k.mid new k.first out k.proposes.1) ∙ puts in
    told_as ahead s k.first.entries out.entries k.mid new
    (proposed_same k.proposes.0 k.mid new k.first out k.proposes.1)
    (proposed_rests k.proposes.0 k.mid new k.first out k.proposes.1)
    (bytes_told m IsText bytes old k.mid k.first k.handles first ahead s t)
