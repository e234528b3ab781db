-- A step writes few entries.
use Rattle.std.proofs.lemmas.Bool.Decides.{nat_tests}
use Rattle.std.proofs.Common.{Bool, true, false, ◌≡◌, ℕ, ◌+◌, ◌≤◌, List, [], ◌∷◌, length, Option, Some, None, refl, ap}
use Rattle.std.proofs.Common.{◌∙◌, subst, inl, inr, arith, length-append}
use Rattle.lk_types.specs.declared.entry.Entry.{Entry}
use Rattle.lk_types.specs.declared.vote.Vote.{Vote}
use Rattle.lk_messages.specs.Grammar.{IsContent, IsNodeMessage}
use Rattle.lk_messages.specs.Values.{DecidedValue, PartValue, are_commands_from}
use Rattle.lk_messages.specs.declared.message.Content.{Content}
use Rattle.lk_messages.specs.declared.message.Content.TheVariants as content
use Rattle.lk_messages.specs.declared.message.NodeMessage.{NodeMessage}
use Rattle.lk_messages.specs.declared.message.NodeMessage.TheVariants as kinds
use Rattle.lk_state.specs.Meanings.{Meaning}
use Rattle.lk_state.specs.declared.session.Session.{Session}
use Rattle.lk_store_format.specs.Values.{HeaderValue}
use Rattle.lk_learner.specs.Learners.{Command, Pair}
use Rattle.lk_agreement_laws.specs.Ballots.{BallotValue}
use Rattle.lk_node_interface.specs.Outboxes.{OutboxValue, nothing, with_rebase, with_entry, with_optional}
use Rattle.lk_node_interface.specs.declared.input.Input.{Input}
use Rattle.lk_node_interface.specs.declared.input.Input.TheVariants as input
use Rattle.lk_node_interface.specs.declared.nudge_reason.NudgeReason.{NudgeReason}
use Rattle.lk_node_interface.specs.declared.nudge_reason.NudgeReason.TheVariants as reasons
use Rattle.lk_node.specs.CatchingUp.{Feeds}
use Rattle.lk_node.specs.Executing.{with_session_reply, EndsWaitIfAny, waiting_number}
use Rattle.lk_node.specs.Executing.{without_term_if_outside, Runs, goes_on, stays}
use Rattle.lk_node.specs.Installing.{EndsFirstWaits, none_ended, one_ended, HandlesPart}
use Rattle.lk_node.specs.Learning.{Learns}
use Rattle.lk_node.specs.DecidedPairs.{LearnsPairs, none_yet, one_more}
use Rattle.lk_node.specs.Leading.{ProposesAll}
use Rattle.lk_node.specs.Reminding.{OffersFirst, OffersAhead, OffersAgain, Ticks, none_offered, one_offered}
use Rattle.lk_node.specs.NodeValue.{NodeValue}
use Rattle.lk_node.specs.Nudging.{refreshed, AsksOthers, SeeksAfresh, AsksLeader, Nudges}
use Rattle.lk_node.specs.Steps.{Steps, HandlesNode, Handles}
use Rattle.lk_node.specs.Asking.{HandlesRequest, PointsTo, QueuesOrRedirects, RepliesAs, leader_in}
use Rattle.lk_node.specs.Histories.{RequestValue}
use Rattle.lk_types.specs.declared.member.Member.{Member}
use Rattle.lk_leader.specs.Terms.{TermValue}
use Rattle.lk_state.specs.Sessions.{session_of}
use Rattle.lk_state.specs.Runs.{seen_as}
use Rattle.lk_state.specs.declared.whole.Seen.{Seen}
use Rattle.lk_state.specs.declared.whole.Seen.TheVariants as seen

-- the second has as many entries as the first, and at most so many more
abbrev Few : ℕ → OutboxValue → OutboxValue → Type 0
Few k before after = length after.entries ≤ length before.entries + k

same_few : (before after : OutboxValue) → after.entries ≡ before.entries → Few 0 before after
same_few before after e = omega (arith, ap length e)

one_few : (e : Entry) (before after : OutboxValue) → after ≡ with_entry e before → Few 1 before after
one_few e before after is =
    omega (arith, ap (λ (o : OutboxValue). length o.entries) is, length-append before.entries (e ∷ []))

-- ---- what is executed

told_same : (whose : HeaderValue) (s : Session) (o : Option ℕ) (out : OutboxValue)
    → (with_session_reply whose s o out).entries ≡ out.entries
told_same whose s None out = refl
told_same whose s (Some n) out = refl

settled_same : (o : Option Session) (old new : NodeValue) (before after : OutboxValue)
    → EndsWaitIfAny o old before new after → after.entries ≡ before.entries
settled_same None old new before after s = ap (λ (b : OutboxValue). b.entries) s.1
settled_same (Some s) old new before after k =
    ap (λ (b : OutboxValue). b.entries) k.comes_to ∙ told_same old.header s (waiting_number s old) before

pub ran_same : (m : Meaning) (old : NodeValue) (before : OutboxValue) (new : NodeValue) (after : OutboxValue)
    → Runs m old before new after → after.entries ≡ before.entries
ran_same m old before new after stays = refl
ran_same m old before new after (goes_on {mid = mid} {between = between} r e) =
    settled_same _ _ _ _ after e.ends_wait ∙ ran_same m old before mid between r

-- ---- what is learned

learned_few : (p : Pair) (old new : NodeValue) (before after : OutboxValue)
    → Learns p old before new after → Few 1 before after
learned_few p old new before after k = elim k [
  | inl a ↦ one_few _ before after a.2
  | inr b ↦ omega (arith, ap (λ (o : OutboxValue). length o.entries) b.2)
]

pairs_few : (m : Meaning) (first : ℕ) (commands : List Command) (old : NodeValue) (before : OutboxValue) (k : ℕ)
    (new : NodeValue) (after : OutboxValue) → LearnsPairs m first commands old before k new after → Few k before after
pairs_few m first commands old before k new after none_yet = omega arith
pairs_few m first commands old before n new after (one_more {k = k} {mid = mid} {between = between} v so_far at pair) =
    omega (
      arith,
      pairs_few m first commands old before k mid between so_far,
      learned_few _ mid pair.learned between pair.written pair.learns,
      ap length (ran_same m pair.learned pair.written new after pair.runs.0),
    )

-- ---- what is proposed and told again

pub proposed_same : (xs : List Vote) (old new : NodeValue) (before out : OutboxValue)
    → ProposesAll xs old new before out → out.entries ≡ before.entries
proposed_same [] old new before out p = ap (λ (o : OutboxValue). o.entries) p.2
proposed_same (x ∷ xs) old new before out p = proposed_same xs _ new _ out p.1

offered_again_same : (node : NodeValue) (b : BallotValue) (i : ℕ) (before out : OutboxValue)
    → OffersAgain node b i before out → out.entries ≡ before.entries
offered_again_same node b i before out k =
    elim k [ inl a ↦ ap (λ (o : OutboxValue). o.entries) a.2.1 | inr c ↦ ap (λ (o : OutboxValue). o.entries) c.1 ]

offered_ahead_same : (node : NodeValue) (b : BallotValue) (i : ℕ) (before out : OutboxValue)
    → OffersAhead node b i before out → out.entries ≡ before.entries
offered_ahead_same node b i before out k =
    elim k [ inl a ↦ offered_again_same node b _ before out a | inr c ↦ ap (λ (o : OutboxValue). o.entries) c.1 ]

pub offered_same : (node : NodeValue) (b : BallotValue) (before : OutboxValue) (k : ℕ) (out : OutboxValue)
    → OffersFirst node b before k out → out.entries ≡ before.entries
offered_same node b before k out none_offered = refl
offered_same node b before n out (one_offered {k = k} {mid = mid} so_far more) =
    offered_ahead_same node b k mid out more ∙ offered_same node b before k mid so_far

-- ---- what is heard

optional_few : (o : Option Entry) → length (with_optional o nothing).entries ≤ 1
optional_few None = omega arith
optional_few (Some e) = omega arith

none_written : (out : OutboxValue) → out.entries ≡ [] → length out.entries ≤ 16
none_written out e = omega (arith, ap length e)

all_settled_same : (ss : List Session) (old : NodeValue) (before : OutboxValue) (k : ℕ) (new : NodeValue)
    (after : OutboxValue) → EndsFirstWaits ss old before k new after → after.entries ≡ before.entries
all_settled_same ss old before k new after none_ended = refl
all_settled_same ss old before k new after (one_ended {k = j} {mid = mid} {between = between} s so_far at one) =
    settled_same (Some s) mid new between after one ∙ all_settled_same ss old before j mid between so_far

part_same : (m : Meaning) (IsText : List ℕ → Type 0) (old : NodeValue) (p : PartValue) (new : NodeValue)
    (out : OutboxValue) → HandlesPart m IsText old p new out → out.entries ≡ []
part_same m IsText old p new out (inl k) =
    let t = k.2 in
    ran_same m (without_term_if_outside t.told) t.said new out t.runs.0
    ∙ all_settled_same k.0.learner.whole.sessions k.0 (with_rebase nothing)
    (length k.0.learner.whole.sessions) t.told t.said t.ends_wait
part_same m IsText old p new out (inr k) = ap (λ (o : OutboxValue). o.entries) k.1

pub fed_same : (node : NodeValue) (other first offset : ℕ) (out : OutboxValue)
    → Feeds node other first offset out → out.entries ≡ []
fed_same node other first offset out (inl served) = ap (λ (o : OutboxValue). o.entries) served.1.1
fed_same node other first offset out (inr (inl parts)) = ap (λ (o : OutboxValue). o.entries) parts.1.comes_to
fed_same node other first offset out (inr (inr none)) = ap (λ (o : OutboxValue). o.entries) none.1

heard_few : (m : Meaning) (IsText : List ℕ → Type 0) (old : NodeValue) (from : ℕ) (x : NodeMessage) (new : NodeValue)
    (out : OutboxValue) → ((d : DecidedValue) → x ≡ kinds.Decided d → length d.commands ≤ 16)
    → HandlesNode m IsText old from x new out → length out.entries ≤ 16
heard_few m IsText old from (kinds.Prepare b first) new out short r =
    omega (arith, optional_few r.response.entry, ap (λ (o : OutboxValue). length o.entries) r.comes_to)
heard_few m IsText old from (kinds.Accept x) new out short r =
    omega (arith, optional_few r.response.entry, ap (λ (o : OutboxValue). length o.entries) r.comes_to)
heard_few m IsText old from (kinds.Promise p) new out short h =
    none_written out (ap (λ (o : OutboxValue). o.entries) h.1)
heard_few m IsText old from (kinds.Accepted x) new out short h = elim h [
  | inl k ↦ (let c = k.2 in
      omega (
        arith,
        learned_few _ _ c.learned _ c.written c.learns,
        ap length (ran_same m c.learned c.written new c.ran c.runs.0),
        ap (λ (o : OutboxValue). length o.entries) c.comes_to,
      ))
  | inr k ↦ none_written out (ap (λ (o : OutboxValue). o.entries) k.1)
]
heard_few m IsText old from (kinds.Decided d) new out short h =
    omega (arith, short d refl, pairs_few m d.first d.commands old nothing (length d.commands) new out h)
heard_few m IsText old from (kinds.Nack k) new out short h = none_written out (elim h.1 [
  | inl a ↦
      elim a.1 [ inl s ↦ ap (λ (o : OutboxValue). o.entries) s.1.1 | inr s ↦ ap (λ (o : OutboxValue). o.entries) s.1 ]
  | inr (inl a) ↦ fed_same old from (k.executed + 1) 0 out a.1
  | inr (inr a) ↦ ap (λ (o : OutboxValue). o.entries) a.1
])
heard_few m IsText old from (kinds.Want w) new out short h =
    none_written out (fed_same old from w.first w.offset out h.1)
heard_few m IsText old from (kinds.Lead b executed) new out short h = none_written out (elim h [
  | inl a ↦ ap (λ (o : OutboxValue). o.entries) a.2.1
  | inr a ↦ elim a.2 [
    | inl c ↦
        elim c.1 [ inl s ↦ ap (λ (o : OutboxValue). o.entries) s.1.1 | inr s ↦ ap (λ (o : OutboxValue). o.entries) s.1 ]
    | inr c ↦ ap (λ (o : OutboxValue). o.entries) c.1
  ]
])
heard_few m IsText old from (kinds.Part p) new out short h = none_written out (part_same m IsText old p new out h)
heard_few m IsText old from (kinds.Answer a) new out short h =
    none_written out (ap (λ (o : OutboxValue). o.entries) h.1)
heard_few m IsText old from (kinds.Elsewhere e) new out short h =
    none_written out (ap (λ (o : OutboxValue). o.entries) h.1)
heard_few m IsText old from (kinds.Passed p) new out short h =
    none_written out (ap (λ (o : OutboxValue). o.entries) h.1)

pub asked_few : (old : NodeValue) (r : RequestValue) (new : NodeValue) (out : OutboxValue)
    → HandlesRequest old r new out → out.entries ≡ []
asked_few old r new out = at (seen_as (session_of r.client old.learner.whole.sessions) r.number)
  where
    pointed : (o : Option Member) → PointsTo o old r new out → out.entries ≡ []
    pointed None h = ap (λ (o : OutboxValue). o.entries) h.1
    pointed (Some k) h = ap (λ (o : OutboxValue). o.entries) h.1.1

    taken : (t : Option TermValue) → QueuesOrRedirects t old r new out → out.entries ≡ []
    taken None h = pointed (leader_in old.known old.learner.whole.roster.sets) h
    taken (Some k) h = ap (λ (o : OutboxValue). o.entries) h.1

    at : (s : Seen) → RepliesAs s old r new out → out.entries ≡ []
    at (seen.Same answer) h = ap (λ (o : OutboxValue). o.entries) h.1.1
    at (seen.Passed last) h = ap (λ (o : OutboxValue). o.entries) h.1.1
    at seen.New h = taken old.leader.term h

few_commands : (first : ℕ) (cs : List Command) → are_commands_from first cs ≡ true → length cs ≤ 16
few_commands first cs e = grind (arith, nat_tests)

-- ---- a tick

ticked_few : (old new : NodeValue) (out : OutboxValue) → Ticks old new out → length out.entries ≤ 16
ticked_few old new out t = elim t [
  | inl k ↦ (let r = k.2 in none_written out
      (ap (λ (o : OutboxValue). o.entries) r.leads.2.1
      ∙ proposed_same r.proposes.0 old new r.offered r.proposed r.proposes.1
      ∙ offered_same old k.0 r.asked _ r.offered r.offers
      ∙ elim r.asks [
        | inl a ↦ ap (λ (o : OutboxValue). o.entries) a.2.1
        | inr a ↦
            ap (λ (o : OutboxValue). o.entries) a.1
      ]))
  | inr k ↦ elim k.1 [
    | inl b ↦ elim b.1.asks [
      | inl a ↦ omega (arith, ap (λ (o : OutboxValue). length o.entries) a.1)
      | inr a ↦ omega (arith, ap (λ (o : OutboxValue). length o.entries) a.1)
    ]
    | inr b ↦ none_written out (ap (λ (o : OutboxValue). o.entries) b.2)
  ]
]

-- ---- a nudge

asked_same : (node : NodeValue) (out : OutboxValue) → AsksOthers node out → out.entries ≡ []
asked_same node out (inl asks) = ap (λ (o : OutboxValue). o.entries) asks.1.2.1
asked_same node out (inr last) = ap (λ (o : OutboxValue). o.entries) last.1

afresh_same : (withheld : Bool) (old new : NodeValue) (out : OutboxValue) → SeeksAfresh withheld old new out
    → out.entries ≡ []
afresh_same withheld old new out (inl asks) =
    let k = asks.2 in
    proposed_same k.proposes.0 (refreshed old) new k.asked out k.proposes.1 ∙ asked_same (refreshed old) k.asked k.asks
afresh_same withheld old new out (inr tells) = elim tells.2 [
  | inl silent ↦ ap (λ (o : OutboxValue). o.entries) silent.1.2.1
  | inr hears ↦ ap (λ (o : OutboxValue). o.entries) hears.1
]

leader_same : (known : Option ℕ) (node : NodeValue) (out : OutboxValue) → AsksLeader known node out
    → out.entries ≡ []
leader_same None node out k = ap (λ (o : OutboxValue). o.entries) k
leader_same (Some leader) node out (inl asks) = elim asks.1 [
  | inl s ↦ ap (λ (o : OutboxValue). o.entries) s.1.1
  | inr s ↦ ap (λ (o : OutboxValue). o.entries) s.1
]
leader_same (Some leader) node out (inr own) = ap (λ (o : OutboxValue). o.entries) own.1

pub nudged_same : (reason : NudgeReason) (old new : NodeValue) (out : OutboxValue) → Nudges reason old new out
    → out.entries ≡ []
nudged_same reasons.Period old new out k = afresh_same false old new out k
nudged_same reasons.TicksWithheld old new out k = afresh_same true old new out k
nudged_same reasons.Fed old new out (inl proposes) =
    proposed_same proposes.2.0 old new nothing out proposes.2.1
nudged_same reasons.Fed old new out (inr asks) = leader_same old.known old out asks.2

-- ---- a step

-- a step writes at most 16 entries: that many decided commands, or one vote or promise
pub few_entries : (m : Meaning) (IsText : List ℕ → Type 0) (old : NodeValue) (i : Input) (new : NodeValue)
    (out : OutboxValue) → Steps m IsText old i new out → length out.entries ≤ 16
few_entries m IsText old input.Tick new out t = ticked_few old new out t
few_entries m IsText old (input.Nudge reason) new out t = none_written out (nudged_same reason old new out t)
few_entries m IsText old (input.Datagram bytes) new out t =
    let heard : length t.first.entries ≤ 16 = elim t.handles [
      | inl h ↦ by_content h.0.content h.1.0.1 h.3
      | inr h ↦ none_written t.first (ap (λ (o : OutboxValue). o.entries) h.1.1)
    ] in
    omega (arith, heard, ap length (proposed_same t.proposes.0 t.mid new t.first out t.proposes.1))
  where
    by_content : (c : Content) → IsContent c → Handles m IsText old c t.mid t.first → length t.first.entries ≤ 16
    by_content (content.Request r) fits h = none_written t.first (asked_few old r t.mid t.first h)
    by_content (content.Node from x) fits h =
        heard_few m IsText old from x t.mid t.first
        (λ d e. few_commands d.first d.commands (subst (λ z. IsNodeMessage z) e fits.1).2) h
