-- Why an acceptor rejects.
use Rattle.std.proofs.Common.{◌≡◌, ◌∙◌, ℕ, ◌+◌, ◌*◌, ◌<◌, ◌≤◌, ◌⊎◌, inl, inr, Bool, true, false, cond, refl, sym, ap}
use Rattle.std.proofs.Common.{subst, Contains, arith, List}
use Rattle.std.proofs.lemmas.Bool.{cases_order}
use Rattle.std.proofs.lemmas.Bool.{eq-eqb}
use Rattle.std.proofs.lemmas.Bool.Decides.{nat_tests}
use Rattle.std.proofs.Common.{eqb, nat_lt, Option, Some}
use Rattle.std.proofs.lemmas.List.Elements.{Contains-push}
use Rattle.lk_types.specs.BallotValue.{BallotValue}
use Rattle.lk_types.specs.Ballots.{IsBelow, IsAtMost, is_below}
use Rattle.lk_types.specs.declared.vote.Vote.{Vote}
use Rattle.lk_messages.specs.declared.message.Content.TheVariants as content
use Rattle.lk_messages.specs.declared.message.NodeMessage.{NodeMessage}
use Rattle.lk_messages.specs.declared.message.NodeMessage.TheVariants as kinds
use Rattle.lk_state.specs.Meanings.{Meaning}
use Rattle.lk_acceptor.specs.AcceptorValue.{AcceptorValue}
use Rattle.lk_acceptor.specs.Replies.{GrantsPrepare, GrantsAccept, Agrees, RepliesToPrepare, RepliesToAccept}
use Rattle.lk_acceptor.specs.declared.response.Response.{Response}
use Rattle.lk_learner.specs.Learners.{LearnerValue, executed, alpha}
use Rattle.lk_node_interface.specs.Grants.{is_granted}
use Rattle.lk_node_interface.specs.Outboxes.{OutboxValue, nothing, with_optional}
use Rattle.lk_node.specs.Nearness.{AreNear}
use Rattle.lk_node.specs.NodeValue.{NodeValue}
use Rattle.lk_node.specs.Responding.{with_acceptor, replied, Responds}
use Rattle.lk_node.specs.Telling.{envelope_to}
use Rattle.lk_leader.specs.Terms.{TermValue, is_term_below}
use Rattle.lk_node.specs.Yielding.{without_term, yielded, with_round}
use Rattle.lk_progress.specs.Rejecting.{Promises, RejectsPrepare, Accepts, RejectsAccept, AgreesWithKept}
use Rattle.lk_progress.specs.Rejecting.{PrepareIsPromisedOrRejected, AcceptIsAcceptedOrRejected}
use Rattle.lk_progress.proofs.Executing.{reaches_or_not}
use Rattle.lk_progress.proofs.Hearing.{Handled, handled, same_acceptor, same_learner, still_told}

-- ---- the causes

pub above_or_not : (promised b : BallotValue) → IsBelow b promised ⊎ IsAtMost promised b
above_or_not promised b = elim (cases_order promised.round b.round) [
  | inl same ↦ elim (cases_order promised.node b.node) [
    | inl one ↦ inr (inr (λ i. record { round = same i; node = one i }))
    | inr (inl below) ↦ inr (inl (inr (same, below)))
    | inr (inr above) ↦ inl (inr (sym same, above))
  ]
  | inr (inl below) ↦ inr (inl (inl below))
  | inr (inr above) ↦ inl (inl above)
]

-- whoever has executed less than the candidate and has promised nothing above its ballot grants it
grants : (a : AcceptorValue) (l : LearnerValue) (b : BallotValue) (first : ℕ) → AreNear a l
    → IsAtMost a.state.promised b → executed l < first → GrantsPrepare a b first
grants a l b first near ballot behind = record {
  ballot = ballot;
  above = omega (arith, near.snapshot, behind);
  near = λ v c. omega (arith, near.votes v c, near.alpha_is, behind);
}

why_no_promise : (a : AcceptorValue) (l : LearnerValue) (b : BallotValue) (first : ℕ) → AreNear a l
    → (GrantsPrepare a b first → ⊥) → IsBelow b a.state.promised ⊎ (first ≤ executed l)
why_no_promise a l b first near refused = elim (reaches_or_not first (executed l)) [
  | inl reaches ↦ inr reaches
  | inr behind ↦ elim (above_or_not a.state.promised b) [
    | inl above ↦ inl above
    | inr ballot ↦ absurd (refused (grants a l b first near ballot behind))
  ]
]

why_no_vote : (a : AcceptorValue) (l : LearnerValue) (x : Vote) → AreNear a l
    → ((v : Vote) → Contains a.state.votes v → Agrees v x) → (GrantsAccept a (executed l) x → ⊥)
    → IsBelow x.ballot a.state.promised ⊎ (x.position ≤ executed l) ⊎ (executed l + 2 * alpha l < x.position)
why_no_vote a l x near agree refused = elim (reaches_or_not x.position (executed l)) [
  | inl reaches ↦ inr (inl reaches)
  | inr above ↦ elim (reaches_or_not x.position (executed l + 2 * alpha l)) [
    | inr far ↦ inr (inr far)
    | inl close ↦ elim (above_or_not a.state.promised x.ballot) [
      | inl greater ↦ inl greater
      | inr ballot ↦ absurd (refused (record {
        ballot = ballot;
        above = omega (arith, near.snapshot, above);
        near = omega (arith, close, near.alpha_is);
        agree = agree;
      }))
    ]
  ]
]

-- ---- what the reply leaves

yielded_acceptor : (b : BallotValue) (node : NodeValue) → (yielded b node).acceptor ≡ node.acceptor
yielded_acceptor b node = by_test (is_term_below b node.leader.term)
  where
    by_test : (t : Bool) → (cond t (without_term node) node).acceptor ≡ node.acceptor
    by_test true = refl
    by_test false = refl

replied_acceptor : (reply : NodeMessage) (node : NodeValue) → (replied reply node).acceptor ≡ node.acceptor
replied_acceptor reply node = by_test (is_granted reply)
  where
    by_test : (t : Bool) → (yielded node.acceptor.state.promised (cond t (record node { ticks = 0 }) node)).acceptor
        ≡ node.acceptor
    by_test true = yielded_acceptor node.acceptor.state.promised (record node { ticks = 0 })
    by_test false = yielded_acceptor node.acceptor.state.promised node

yielded_learner : (b : BallotValue) (node : NodeValue) → (yielded b node).learner ≡ node.learner
yielded_learner b node = by_test (is_term_below b node.leader.term)
  where
    by_test : (t : Bool) → (cond t (without_term node) node).learner ≡ node.learner
    by_test true = refl
    by_test false = refl

replied_learner : (reply : NodeMessage) (node : NodeValue) → (replied reply node).learner ≡ node.learner
replied_learner reply node = by_test (is_granted reply)
  where
    by_test : (t : Bool) → (yielded node.acceptor.state.promised (cond t (record node { ticks = 0 }) node)).learner
        ≡ node.learner
    by_test true = yielded_learner node.acceptor.state.promised (record node { ticks = 0 })
    by_test false = yielded_learner node.acceptor.state.promised node

yielded_header : (b : BallotValue) (node : NodeValue) → (yielded b node).header ≡ node.header
yielded_header b node = by_test (is_term_below b node.leader.term)
  where
    by_test : (t : Bool) → (cond t (without_term node) node).header ≡ node.header
    by_test true = refl
    by_test false = refl

replied_header : (reply : NodeMessage) (node : NodeValue) → (replied reply node).header ≡ node.header
replied_header reply node = by_test (is_granted reply)
  where
    by_test : (t : Bool) → (yielded node.acceptor.state.promised (cond t (record node { ticks = 0 }) node)).header
        ≡ node.header
    by_test true = yielded_header node.acceptor.state.promised (record node { ticks = 0 })
    by_test false = yielded_header node.acceptor.state.promised node

-- a term that is not below the ballot stays
yielded_leader : (b : BallotValue) (node : NodeValue) → is_term_below b node.leader.term ≡ false
    → (yielded b node).leader ≡ node.leader
yielded_leader b node = by_test (is_term_below b node.leader.term)
  where
    by_test : (t : Bool) → t ≡ false → (cond t (without_term node) node).leader ≡ node.leader
    by_test true e = absurd (cc e)
    by_test false e = refl

replied_leader : (reply : NodeMessage) (node : NodeValue)
    → is_term_below node.acceptor.state.promised node.leader.term ≡ false
    → (replied reply node).leader ≡ node.leader
replied_leader reply node above = by_test (is_granted reply)
  where
    by_test : (t : Bool) → (yielded node.acceptor.state.promised (cond t (record node { ticks = 0 }) node)).leader
        ≡ node.leader
    by_test true = yielded_leader node.acceptor.state.promised (record node { ticks = 0 }) above
    by_test false = yielded_leader node.acceptor.state.promised node above

not_below_itself : (b : BallotValue) → is_below b b ≡ false
not_below_itself b =
    let round : nat_lt b.round b.round ≡ false = grind (arith, nat_tests) in
    let node : nat_lt b.node b.node ≡ false = grind (arith, nat_tests) in
    let same : eqb b.round b.round ≡ true = eq-eqb b.round b.round refl in
    rw (round, same, node) refl

-- the node keeps the acceptor of the response, and the reply is among its envelopes
module _ (old new : NodeValue) (from : ℕ) (Gives : Response → AcceptorValue → Type 0) (out : OutboxValue)
    (k : Responds old from Gives new out) where
  keeps : new.acceptor ≡ k.acceptor
  keeps = ap (λ (node : NodeValue). node.acceptor) k.becomes
      ∙ replied_acceptor k.response.reply (with_acceptor old k.acceptor)

  keeps_learner : new.learner ≡ old.learner
  keeps_learner = ap (λ (node : NodeValue). node.learner) k.becomes
      ∙ replied_learner k.response.reply (with_acceptor old k.acceptor)

  pub keeps_header : new.header ≡ old.header
  keeps_header = ap (λ (node : NodeValue). node.header) k.becomes
      ∙ replied_header k.response.reply (with_acceptor old k.acceptor)

  -- a leader stays one if the promised ballot is its own
  pub keeps_leader : (t : TermValue) → old.leader.term ≡ Some t → new.acceptor.state.promised ≡ t.ballot
      → new.leader ≡ old.leader
  keeps_leader t current promised =
      let own : k.acceptor.state.promised ≡ t.ballot =
      ap (λ (a : AcceptorValue). a.state.promised) (sym keeps) ∙ promised in
      let above : is_term_below k.acceptor.state.promised old.leader.term ≡ false =
      subst (λ (o : Option TermValue). is_term_below k.acceptor.state.promised o ≡ false) (sym current)
      (subst (λ (b : BallotValue). is_below t.ballot b ≡ false) (sym own) (not_below_itself t.ballot)) in
      ap (λ (node : NodeValue). node.leader) k.becomes
      ∙ replied_leader k.response.reply (with_acceptor old k.acceptor) above

  tells : (message : NodeMessage) → k.response.reply ≡ message → Contains out.envelopes (envelope_to old message from)
  tells message is =
      subst (λ (m : NodeMessage). Contains out.envelopes (envelope_to old m from)) is
      (subst (λ (o : OutboxValue). Contains o.envelopes (envelope_to old k.response.reply from)) (sym k.comes_to)
      (Contains-push (with_optional k.response.entry nothing).envelopes (envelope_to old k.response.reply from)))

-- ---- both replies

prepare_handled : (old new : NodeValue) (from : ℕ) (b : BallotValue) (first : ℕ) (out : OutboxValue)
    → AreNear old.acceptor old.learner
    → Responds old from (RepliesToPrepare old.acceptor old.learner.whole.roster.executed b first) new out
    → Promises old from b first new out ⊎ RejectsPrepare old from b first new out
prepare_handled old new from b first out near k =
    let Gives : Response → AcceptorValue → Type 0 =
    RepliesToPrepare old.acceptor old.learner.whole.roster.executed b first in
    elim k.given [
      | inl granted ↦ inl (record {
        acceptor = keeps old new from Gives out k ∙ granted.1.state;
        learner = keeps_learner old new from Gives out k;
        told = tells old new from Gives out k _ granted.1.reply;
      })
      | inr refused ↦ inr (record {
        acceptor = keeps old new from Gives out k ∙ refused.1.state;
        told = tells old new from Gives out k _ refused.1.reply;
        why = why_no_promise old.acceptor old.learner b first near refused.0;
      })
    ]

accept_handled : (old new : NodeValue) (from : ℕ) (x : Vote) (out : OutboxValue)
    → AreNear old.acceptor old.learner → AgreesWithKept old x
    → Responds (with_round x.ballot old) from
    (RepliesToAccept old.acceptor old.learner.whole.roster.executed x) new out
    → Accepts old from x new out ⊎ RejectsAccept old from x new out
accept_handled old new from x out near agree k =
    let Gives : Response → AcceptorValue → Type 0 =
    RepliesToAccept old.acceptor old.learner.whole.roster.executed x in
    let seen : NodeValue = with_round x.ballot old in
    elim k.given [
      | inl granted ↦ inl (record {
        acceptor = keeps seen new from Gives out k ∙ granted.1.state;
        learner = keeps_learner seen new from Gives out k;
        told = tells seen new from Gives out k _ granted.1.reply;
      })
      | inr refused ↦ inr (record {
        acceptor = keeps seen new from Gives out k ∙ refused.1.state;
        told = tells seen new from Gives out k _ refused.1.reply;
        why = why_no_vote old.acceptor old.learner x near agree refused.0;
      })
    ]

-- ---- and what follows leaves both

pub prepare_has_cause : (m : Meaning) (IsText : List ℕ → Type 0) → PrepareIsPromisedOrRejected m IsText
prepare_has_cause m IsText old new from b first out near takes =
    let k : Handled m IsText old (content.Node from (kinds.Prepare b first)) new out =
    handled m IsText old _ new out takes in
    elim (prepare_handled old k.mid from b first k.first near k.handles) [
      | inl p ↦ inl (record {
        acceptor = same_acceptor m IsText old _ new out k ∙ p.acceptor;
        learner = same_learner m IsText old _ new out k ∙ p.learner;
        told = still_told m IsText old _ new out k _ p.told;
      })
      | inr r ↦ inr (record {
        acceptor = same_acceptor m IsText old _ new out k ∙ r.acceptor;
        told = still_told m IsText old _ new out k _ r.told;
        why = r.why;
      })
    ]

pub accept_has_cause : (m : Meaning) (IsText : List ℕ → Type 0) → AcceptIsAcceptedOrRejected m IsText
accept_has_cause m IsText old new from x out near agree takes =
    let k : Handled m IsText old (content.Node from (kinds.Accept x)) new out =
    handled m IsText old _ new out takes in
    elim (accept_handled old k.mid from x k.first near agree k.handles) [
      | inl p ↦ inl (record {
        acceptor = same_acceptor m IsText old _ new out k ∙ p.acceptor;
        learner = same_learner m IsText old _ new out k ∙ p.learner;
        told = still_told m IsText old _ new out k _ p.told;
      })
      | inr r ↦ inr (record {
        acceptor = same_acceptor m IsText old _ new out k ∙ r.acceptor;
        told = still_told m IsText old _ new out k _ r.told;
        why = r.why;
      })
    ]
