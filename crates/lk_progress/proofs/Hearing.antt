-- What a node does with a message that it takes: it handles this message, and then proposes, which changes nothing but
-- its term and takes back no envelope.
use Rattle.std.proofs.Common.{◌≡◌, ℕ, inl, inr, List, [], ◌∷◌, refl, ap, sym, subst, Contains}
use Rattle.std.proofs.lemmas.List.Elements.{Contains-append_left}
use Rattle.lk_types.specs.declared.vote.Vote.{Vote}
use Rattle.lk_messages.proofs.Spellings.{one_message}
use Rattle.lk_messages.specs.declared.message.Content.{Content}
use Rattle.lk_messages.specs.declared.message.Message.{Message}
use Rattle.lk_state.specs.Meanings.{Meaning}
use Rattle.lk_node_interface.specs.Envelopes.{EnvelopeValue}
use Rattle.lk_node_interface.specs.Outboxes.{OutboxValue}
use Rattle.lk_node.specs.Leading.{having_proposed, ProposesAll, ProposesOpen}
use Rattle.lk_node.specs.NodeValue.{NodeValue}
use Rattle.lk_node.specs.Steps.{Handles, HandlesBytes}
use Rattle.lk_progress.specs.Hearing.{Takes}

-- the node handles the content, and proposes everything that is open
pub record Handled (m : Meaning) (IsText : List ℕ → Type 0) (old : NodeValue) (x : Content) (new : NodeValue)
    (out : OutboxValue) : Type 0 where
  pub mid : NodeValue
  pub first : OutboxValue
  pub handles : Handles m IsText old x mid first
  pub proposes : ProposesOpen mid new first out

pub handled : (m : Meaning) (IsText : List ℕ → Type 0) (old : NodeValue) (x : Content) (new : NodeValue)
    (out : OutboxValue) → Takes m IsText old x new out → Handled m IsText old x new out
handled m IsText old x new out k = by_bytes k.step.handles
  where
    message : Message
    message = record { cluster = old.header.cluster; content = x }

    by_bytes : HandlesBytes m IsText old k.bytes k.step.mid k.step.first → Handled m IsText old x new out
    by_bytes (inl heard) = record {
      mid = k.step.mid;
      first = k.step.first;
      handles = subst (λ (y : Message). Handles m IsText old y.content k.step.mid k.step.first)
          (one_message heard.0 message k.bytes heard.1 k.spells) heard.3;
      proposes = k.step.proposes;
    }
    by_bytes (inr foreign) = absurd (foreign.0 message k.spells refl)

-- ---- what proposing leaves

pub proposed_acceptor : (xs : List Vote) (old new : NodeValue) (before out : OutboxValue)
    → ProposesAll xs old new before out → new.acceptor ≡ old.acceptor
proposed_acceptor [] old new before out p = ap (λ (node : NodeValue). node.acceptor) p.1
proposed_acceptor (x ∷ xs) old new before out p = proposed_acceptor xs (having_proposed old x p.0) new _ out p.1

pub proposed_learner : (xs : List Vote) (old new : NodeValue) (before out : OutboxValue)
    → ProposesAll xs old new before out → new.learner ≡ old.learner
proposed_learner [] old new before out p = ap (λ (node : NodeValue). node.learner) p.1
proposed_learner (x ∷ xs) old new before out p = proposed_learner xs (having_proposed old x p.0) new _ out p.1

pub proposed_header : (xs : List Vote) (old new : NodeValue) (before out : OutboxValue)
    → ProposesAll xs old new before out → new.header ≡ old.header
proposed_header [] old new before out p = ap (λ (node : NodeValue). node.header) p.1
proposed_header (x ∷ xs) old new before out p = proposed_header xs (having_proposed old x p.0) new _ out p.1

pub proposed_envelopes : (xs : List Vote) (old new : NodeValue) (before out : OutboxValue) (l : EnvelopeValue)
    → ProposesAll xs old new before out → Contains before.envelopes l → Contains out.envelopes l
proposed_envelopes [] old new before out l p c = subst (λ (o : OutboxValue). Contains o.envelopes l) (sym p.2) c
proposed_envelopes (x ∷ xs) old new before out l p c =
    proposed_envelopes xs (having_proposed old x p.0) new _ out l p.1 (Contains-append_left before.envelopes _ l c)

-- ---- the same after a message

module _ (m : Meaning) (IsText : List ℕ → Type 0) (old : NodeValue) (x : Content) (new : NodeValue)
    (out : OutboxValue) (k : Handled m IsText old x new out) where
  pub same_acceptor : new.acceptor ≡ k.mid.acceptor
  same_acceptor = proposed_acceptor k.proposes.0 k.mid new k.first out k.proposes.1

  pub same_learner : new.learner ≡ k.mid.learner
  same_learner = proposed_learner k.proposes.0 k.mid new k.first out k.proposes.1

  pub still_told : (l : EnvelopeValue) → Contains k.first.envelopes l → Contains out.envelopes l
  still_told l c = proposed_envelopes k.proposes.0 k.mid new k.first out l k.proposes.1 c
