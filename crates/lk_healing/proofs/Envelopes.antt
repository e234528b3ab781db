-- The first envelope of a node that takes a Prepare is its promise, or its rejection.
use Rattle.std.proofs.Common.{◌≡◌, ◌∙◌, inl, inr, ℕ, suc, ◌+◌, ◌≤◌, ◌++◌, List, [], ◌∷◌, map, length, Some, None}
use Rattle.std.proofs.Common.{Option, slice_get, refl, ap, sym, subst, arith, append_assoc, append-nil}
use Rattle.lk_types.specs.BallotValue.{BallotValue}
use Rattle.lk_types.specs.Ballots.{IsAtMost, IsBelow}
use Rattle.lk_types.specs.declared.entry.Entry.{Entry}
use Rattle.lk_types.specs.declared.genesis.Genesis.{Genesis}
use Rattle.lk_types.specs.declared.vote.Vote.{Vote}
use Rattle.lk_store_format.specs.Values.{HeaderValue}
use Rattle.lk_messages.specs.Grammar.{IsMessage, Spells, spelling}
use Rattle.lk_messages.specs.declared.message.Content.{Content}
use Rattle.lk_messages.specs.declared.message.Content.TheVariants as content
use Rattle.lk_messages.specs.declared.message.NodeMessage.{NodeMessage}
use Rattle.lk_messages.specs.declared.message.NodeMessage.TheVariants as kinds
use Rattle.lk_agreement_laws.proofs.Histories.{below_at_most, below_self}
use Rattle.lk_agreement_laws.specs.Datagrams.{Datagram}
use Rattle.lk_members.specs.Nodes.{nodes_of}
use Rattle.lk_state.specs.Meanings.{Meaning}
use Rattle.lk_acceptor.specs.Replies.{RepliesToPrepare}
use Rattle.lk_acceptor.specs.VoteLists.{votes_from}
use Rattle.lk_learner.specs.Learners.{executed}
use Rattle.lk_node_interface.specs.Envelopes.{EnvelopeValue, batch_of, datagram_of}
use Rattle.lk_node_interface.specs.Outboxes.{OutboxValue, nothing, with_optional}
use Rattle.lk_node_interface.specs.Saying.{saying}
use Rattle.lk_node.specs.CatchingUp.{refusal}
use Rattle.lk_node.specs.Leading.{ProposesAll, having_proposed}
use Rattle.lk_node.specs.Leavings.{header_of}
use Rattle.lk_node.specs.Nearness.{AreNear}
use Rattle.lk_node.specs.NodeValue.{NodeValue}
use Rattle.lk_node.specs.Responding.{Responds}
use Rattle.lk_node.specs.Telling.{envelope_to}
use Rattle.lk_progress.proofs.Hearing.{Handled, handled}
use Rattle.lk_progress.specs.Hearing.{Takes}
use Rattle.lk_replica.specs.ReplicaValue.{ReplicaValue}
use Rattle.lk_sim.specs.WorldStates.{WorldState}
use Rattle.lk_world_progress.proofs.Delivering.{TakesFrom}
use Rattle.lk_healing.proofs.Places.{at_end}
use Rattle.lk_healing.specs.Polls.{StandsAt}

-- ---- the first envelope

proposed_more : (xs : List Vote) (old new : NodeValue) (before out : OutboxValue) → ProposesAll xs old new before out
    → (more : List EnvelopeValue) × (out.envelopes ≡ before.envelopes ++ more)
proposed_more [] old new before out p =
    ([], ap (λ (o : OutboxValue). o.envelopes) p.2 ∙ sym (append-nil before.envelopes))
proposed_more (x ∷ xs) old new before out p =
    let told : List EnvelopeValue = map (envelope_to old (kinds.Accept x)) (nodes_of p.0.proposes.set) in
    let rest = proposed_more xs (having_proposed old x p.0) new _ out p.1 in
    (told ++ rest.0, rest.1 ∙ append_assoc before.envelopes told rest.0)

optional_envelopes : (o : Option Entry) → (with_optional o nothing).envelopes ≡ []
optional_envelopes None = refl
optional_envelopes (Some e) = refl

-- a promise of positions above e with these votes
abbrev pub promising : BallotValue → ℕ → List Vote → NodeMessage
promising b e votes = kinds.Promise (record { ballot = b; first = e + 1; votes = votes })

abbrev pub kept : NodeValue → ℕ → List Vote
kept node e = votes_from (e + 1) node.acceptor.state.votes

-- the first of these envelopes is this reply
pub record RepliesFirst (old : NodeValue) (from : ℕ) (reply : NodeMessage) (out : OutboxValue) : Type 0 where
  pub more : List EnvelopeValue
  pub envelopes : out.envelopes ≡ envelope_to old reply from ∷ more
  pub fits : IsMessage (saying old.header reply)

module _ (m : Meaning) (IsText : List ℕ → Type 0) (old new : NodeValue) (from : ℕ) (b : BallotValue) (first : ℕ)
    (out : OutboxValue) (takes : Takes m IsText old (content.Node from (kinds.Prepare b first)) new out) where
  h : Handled m IsText old (content.Node from (kinds.Prepare b first)) new out
  h = handled m IsText old (content.Node from (kinds.Prepare b first)) new out takes

  r : Responds old from (RepliesToPrepare old.acceptor (executed old.learner) b first) h.mid h.first
  r = h.handles

  replies : (reply : NodeMessage) → r.response.reply ≡ reply → RepliesFirst old from reply out
  replies reply is =
      let more = proposed_more h.proposes.0 h.mid new h.first out h.proposes.1 in
      record {
        more = more.0;
        envelopes = more.1 ∙ ap (λ (ls : List EnvelopeValue). ls ++ more.0)
            (ap (λ (o : OutboxValue). o.envelopes) r.comes_to
            ∙ ap (λ (ls : List EnvelopeValue). ls ++ envelope_to old r.response.reply from ∷ [])
            (optional_envelopes r.response.entry)
            ∙ ap (λ (y : NodeMessage). envelope_to old y from ∷ []) is);
        fits = subst (λ (y : NodeMessage). IsMessage (saying old.header y)) is r.fits;
      }

  -- a greater ballot is promised
  pub rejects_greater : IsBelow b old.acceptor.state.promised
      → RepliesFirst old from (kinds.Nack (refusal b old)) out
  rejects_greater above = elim r.given [
    | inl granted ↦ absurd (below_self b (below_at_most b old.acceptor.state.promised b above granted.0.ballot))
    | inr refused ↦ replies (kinds.Nack (refusal b old)) refused.1.reply
  ]

pub promises_first : (m : Meaning) (IsText : List ℕ → Type 0) (old new : NodeValue) (from : ℕ) (b : BallotValue) (e : ℕ)
    (out : OutboxValue) → AreNear old.acceptor old.learner → IsAtMost old.acceptor.state.promised b
    → executed old.learner ≤ e → Takes m IsText old (content.Node from (kinds.Prepare b (e + 1))) new out
    → RepliesFirst old from (promising b e (kept old e)) out
promises_first m IsText old new from b e out near ballot behind takes =
    elim (r m IsText old new from b (e + 1) out takes).given [
      | inl granted ↦ replies m IsText old new from b (e + 1) out takes (promising b e (kept old e)) granted.1.reply
      | inr refused ↦ absurd (refused.0 (record {
        ballot = ballot;
        above = omega (arith, near.snapshot, behind);
        near = λ v c. omega (arith, near.votes v c, near.alpha_is, behind);
      }))
    ]

-- ---- in a world

-- the first that the node sends is this reply
pub reply_stands : (m : Meaning) (IsText : List ℕ → Type 0) (n x : ℕ) (y : Content) (reply : NodeMessage)
    (old new : WorldState ReplicaValue) (s : TakesFrom m IsText n y old new) → s.start.header ≡ header_of old.genesis n
    → RepliesFirst s.start x reply s.out → StandsAt new x (suc (length old.sent)) (content.Node n reply)
reply_stands m IsText n x y reply old new s header first = (
  datagram_of n (envelope_to s.start reply x),
  ap (λ (ds : List Datagram). slice_get ds (length old.sent))
      (s.sent ∙ ap (λ (ls : List EnvelopeValue). old.sent ++ batch_of n ls) first.envelopes)
      ∙ at_end old.sent _ (batch_of n first.more),
  refl,
  subst (λ (g : Genesis). Spells (record { cluster = g.cluster; content = content.Node n reply })
      (spelling (saying s.start.header reply))) (sym s.genesis)
      (subst (λ (w : HeaderValue). Spells (record { cluster = w.cluster; content = content.Node w.node reply })
      (spelling (saying s.start.header reply))) header (first.fits, refl)),
)
