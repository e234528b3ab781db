-- What a node does with a message that it takes: it handles the message, and then proposes, which changes its term
-- alone and takes back no envelope.
use Rattle.std.proofs.Common.{◌≡◌, ℕ, inl, inr, List, [], ◌∷◌, refl, ap, subst, sym, Contains}
use Rattle.std.proofs.lemmas.List.Elements.{Contains-append_left}
use Rattle.lk_types.specs.declared.vote.Vote.{Vote}
use Rattle.lk_messages.proofs.Spellings.{one_message}
use Rattle.lk_messages.specs.declared.message.Content.{Content}
use Rattle.lk_messages.specs.declared.message.Message.{Message}
use Rattle.lk_state.specs.Meanings.{Meaning}
use Rattle.lk_node_interface.specs.Envelopes.{EnvelopeValue}
use Rattle.lk_node_interface.specs.Outboxes.{OutboxValue}
use Rattle.lk_node.specs.Leading.{having_proposed, ProposesAll, ProposesOpen}
use Rattle.lk_node.specs.NodeValue.{NodeValue}
use Rattle.lk_node.specs.Steps.{Handles, HandlesBytes}
use Rattle.lk_progress.specs.Hearing.{Takes}

-- the node handles the content, and proposes everything that is open
pub record Handled (m : Meaning) (IsText : List ℕ → Type 0) (old : NodeValue) (x : Content) (new : NodeValue)
    (out : OutboxValue) : Type 0 where
  pub mid : NodeValue
  pub first : OutboxValue
  pub handles : Handles m IsText old x mid first
  pub proposes : ProposesOpen mid new first out

pub handled : (m : Meaning) (IsText : List ℕ → Type 0) (old : NodeValue) (x : Content) (new : NodeValue)
    (out : OutboxValue) → Takes m IsText old x new out → Handled m IsText old x new out
handled m IsText old x new out k = by_bytes k.step.handles
  where
    message : Message
    message = record { cluster = old.header.cluster; content = x }

    by_bytes : HandlesBytes m IsText old k.bytes k.step.mid k.step.first → Handled m IsText old x new out
    by_bytes (inl heard) = record {
      mid = k.step.mid;
      first = k.step.first;
      handles = subst (λ (y : Message). Handles m IsText old y.content k.step.mid k.step.first)
          (one_message heard.0 message k.bytes heard.1 k.spells) heard.3;
      proposes = k.step.proposes;
    }
    by_bytes (inr foreign) = absurd (foreign.0 message k.spells refl)

-- ---- what proposing leaves

-- all but the leader is the same
pub record HasSame (old new : NodeValue) : Type 0 where
  pub header : new.header ≡ old.header
  pub acceptor : new.acceptor ≡ old.acceptor
  pub learner : new.learner ≡ old.learner
  pub rounds : new.rounds ≡ old.rounds

pub same_as : (old new : NodeValue) → new ≡ old → HasSame old new
same_as old new e = record {
  header = ap (λ (n : NodeValue). n.header) e;
  acceptor = ap (λ (n : NodeValue). n.acceptor) e;
  learner = ap (λ (n : NodeValue). n.learner) e;
  rounds = ap (λ (n : NodeValue). n.rounds) e;
}

pub proposed_same : (xs : List Vote) (old new : NodeValue) (before out : OutboxValue)
    → ProposesAll xs old new before out → HasSame old new
proposed_same [] old new before out p = same_as old new p.1
proposed_same (x ∷ xs) old new before out p =
    let rest = proposed_same xs (having_proposed old x p.0) new _ out p.1 in
    record { header = rest.header; acceptor = rest.acceptor; learner = rest.learner; rounds = rest.rounds }

pub proposed_envelopes : (xs : List Vote) (old new : NodeValue) (before out : OutboxValue) (l : EnvelopeValue)
    → ProposesAll xs old new before out → Contains before.envelopes l → Contains out.envelopes l
proposed_envelopes [] old new before out l p c = subst (λ (o : OutboxValue). Contains o.envelopes l) (sym p.2) c
proposed_envelopes (x ∷ xs) old new before out l p c =
    proposed_envelopes xs (having_proposed old x p.0) new _ out l p.1 (Contains-append_left before.envelopes _ l c)
