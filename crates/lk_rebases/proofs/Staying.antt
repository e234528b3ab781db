-- What moves a learner on, and what does not; and a tick with another past.
use Rattle.std.proofs.Common.{◌≡◌, ◌∙◌, inl, inr, ℕ}
use Rattle.std.proofs.Common.{List, Option, Some, None, ap, sym}
use Rattle.lk_types.specs.declared.command.Request.{Request as RequestValue}
use Rattle.lk_types.specs.declared.member.Member.{Member}
use Rattle.lk_messages.specs.declared.message.Content.{Content}
use Rattle.lk_messages.specs.declared.message.Content.TheVariants as content
use Rattle.lk_messages.specs.declared.message.NodeMessage.TheVariants as kinds
use Rattle.lk_state.specs.Meanings.{Meaning}
use Rattle.lk_state.specs.Runs.{seen_as}
use Rattle.lk_state.specs.Sessions.{session_of}
use Rattle.lk_state.specs.declared.whole.Seen.{Seen}
use Rattle.lk_state.specs.declared.whole.Seen.TheVariants as seen
use Rattle.lk_acceptor.specs.AcceptorValue.{AcceptorValue}
use Rattle.lk_acceptor.specs.Replies.{RepliesToAccept, RepliesToPrepare}
use Rattle.lk_acceptor.specs.declared.response.Response.{Response}
use Rattle.lk_leader.specs.Terms.{TermValue}
use Rattle.lk_learner.specs.Learners.{executed}
use Rattle.lk_node_interface.specs.Outboxes.{OutboxValue}
use Rattle.lk_node.specs.Asking.{PointsTo, QueuesOrRedirects, RepliesAs, leader_in}
use Rattle.lk_node.specs.NodeValue.{NodeValue}
use Rattle.lk_node.specs.Reminding.{Ticks}
use Rattle.lk_node.specs.Responding.{Responds, with_acceptor}
use Rattle.lk_node.specs.Steps.{Handles}
use Rattle.lk_node.specs.Waiting.{BeginsWhereDue, ticked}
use Rattle.lk_node.specs.Yielding.{with_round}
use Rattle.lk_progress.specs.Hearing.{Takes}
use Rattle.lk_rebases.proofs.Handling.{Handled, handled, proposed_same}
use Rattle.lk_rebases.specs.Pasts.{Fits, IsStatic, Past, with_past}
use Rattle.lk_rebases.proofs.Replies.{fits_same, kept_by_reply}

-- ---- what moves nothing on

pointed_learner : (o : Option Member) (old : NodeValue) (r : RequestValue) (new : NodeValue) (out : OutboxValue)
    → PointsTo o old r new out → new.learner ≡ old.learner
pointed_learner None old r new out k = ap (λ (n : NodeValue). n.learner) k.0
pointed_learner (Some member) old r new out k = ap (λ (n : NodeValue). n.learner) k.0

queued_learner : (o : Option TermValue) (old : NodeValue) (r : RequestValue) (new : NodeValue) (out : OutboxValue)
    → QueuesOrRedirects o old r new out → new.learner ≡ old.learner
queued_learner None old r new out k =
    pointed_learner (leader_in old.known old.learner.whole.roster.sets) old r new out k
queued_learner (Some term) old r new out k = ap (λ (n : NodeValue). n.learner) k.0

requested_learner : (s : Seen) (old : NodeValue) (r : RequestValue) (new : NodeValue) (out : OutboxValue)
    → RepliesAs s old r new out → new.learner ≡ old.learner
requested_learner (seen.Same answer) old r new out k = ap (λ (n : NodeValue). n.learner) k.0
requested_learner (seen.Passed last) old r new out k = ap (λ (n : NodeValue). n.learner) k.0
requested_learner seen.New old r new out k = queued_learner old.leader.term old r new out k

responded_learner : (old new : NodeValue) (from : ℕ) (Gives : Response → AcceptorValue → Type 0) (out : OutboxValue)
    → Responds old from Gives new out → new.learner ≡ old.learner
responded_learner old new from Gives out k =
    ap (λ (n : NodeValue). n.learner) k.becomes ∙ (kept_by_reply k.response.reply (with_acceptor old k.acceptor)).1

module _ (m : Meaning) (IsText : List ℕ → Type 0) where
  handled_learner : (x : Content) (old new : NodeValue) (out : OutboxValue) → IsStatic x
      → Handles m IsText old x new out → new.learner ≡ old.learner
  handled_learner (content.Request r) old new out static k =
      requested_learner (seen_as (session_of r.client old.learner.whole.sessions) r.number) old r new out k
  handled_learner (content.Node from (kinds.Prepare b first)) old new out static k =
      responded_learner old new from (RepliesToPrepare old.acceptor (executed old.learner) b first) out k
  handled_learner (content.Node from (kinds.Accept x)) old new out static k =
      responded_learner (with_round x.ballot old) new from (RepliesToAccept old.acceptor (executed old.learner) x) out k
  handled_learner (content.Node from (kinds.Promise p)) old new out static k = elim k.0 [
    | inl records ↦ ap (λ (n : NodeValue). n.learner) records.2
    | inr drops ↦ ap (λ (n : NodeValue). n.learner) drops.1
  ]
  handled_learner (content.Node from (kinds.Accepted x)) old new out static k = absurd static
  handled_learner (content.Node from (kinds.Decided d)) old new out static k = absurd static
  handled_learner (content.Node from (kinds.Nack n)) old new out static k = absurd static
  handled_learner (content.Node from (kinds.Want w)) old new out static k = absurd static
  handled_learner (content.Node from (kinds.Lead b theirs)) old new out static k = absurd static
  handled_learner (content.Node from (kinds.Part q)) old new out static k = absurd static
  handled_learner (content.Node from (kinds.Answer a)) old new out static k = absurd static
  handled_learner (content.Node from (kinds.Elsewhere a)) old new out static k = absurd static
  handled_learner (content.Node from (kinds.Passed a)) old new out static k = absurd static

  pub taken_learner : (x : Content) (old new : NodeValue) (out : OutboxValue) → IsStatic x
      → Takes m IsText old x new out → new.learner ≡ old.learner
  taken_learner x old new out static k =
      let h : Handled m IsText old x new out = handled m IsText old x new out k in
      (proposed_same h.proposes.0 h.mid new h.first out h.proposes.1).learner
      ∙ handled_learner x old h.mid h.first static h.handles

-- ---- a tick

begun_other : (p : Past) (old new : NodeValue) (out : OutboxValue) → Fits p old → BeginsWhereDue old new out
    → Fits p new × BeginsWhereDue (with_past p old) (with_past p new) out
begun_other p old new out f (inl begins) = (
  fits_same p _ new begins.1.becomes (record { some = f.some; below = f.below; own = f.own; votes = f.votes }),
  inl (
    begins.0,
    record {
      becomes = ap (with_past p) begins.1.becomes;
      nodes = begins.1.nodes;
      all = begins.1.all;
      asks = begins.1.asks;
    },
  ),
)
begun_other p old new out f (inr rests) =
    (fits_same p old new rests.1 f, inr (rests.0, ap (with_past p) rests.1, rests.2))

pub begun_learner : (old new : NodeValue) (out : OutboxValue) → BeginsWhereDue old new out → new.learner ≡ old.learner
begun_learner old new out (inl begins) = ap (λ (n : NodeValue). n.learner) begins.1.becomes
begun_learner old new out (inr rests) = ap (λ (n : NodeValue). n.learner) rests.1

-- a tick without a term begins a ballot where that is due
pub idle_begins : (old new : NodeValue) (out : OutboxValue) → old.leader.term ≡ None → Ticks old new out
    → BeginsWhereDue (ticked old) new out
idle_begins old new out idle (inl reminds) = absurd (cc (sym idle ∙ reminds.1.1))
idle_begins old new out idle (inr waits) = waits.1

pub ticked_other : (p : Past) (old new : NodeValue) (out : OutboxValue) → Fits p old → old.leader.term ≡ None
    → Ticks old new out → Fits p new × Ticks (with_past p old) (with_past p new) out
ticked_other p old new out f idle k =
    let begins = begun_other p (ticked old) new out
    (record { some = f.some; below = f.below; own = f.own; votes = f.votes })
    (idle_begins old new out idle k) in
    (begins.0, inr (idle, begins.1))
