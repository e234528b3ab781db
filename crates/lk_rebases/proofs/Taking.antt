-- With another past a node takes a message in the same way.
use Rattle.std.proofs.Common.{inl, inr, ℕ}
use Rattle.std.proofs.Common.{List, [], ◌∷◌, Option, Some, None, refl, ap}
use Rattle.lk_types.specs.declared.command.Request.{Request as RequestValue}
use Rattle.lk_types.specs.declared.member.Member.{Member}
use Rattle.lk_types.specs.declared.vote.Vote.{Vote}
use Rattle.lk_messages.specs.declared.message.Content.{Content}
use Rattle.lk_messages.specs.declared.message.Content.TheVariants as content
use Rattle.lk_messages.specs.declared.message.NodeMessage.TheVariants as kinds
use Rattle.lk_state.specs.Meanings.{Meaning}
use Rattle.lk_state.specs.Runs.{seen_as}
use Rattle.lk_state.specs.Sessions.{session_of}
use Rattle.lk_state.specs.declared.whole.Seen.{Seen}
use Rattle.lk_state.specs.declared.whole.Seen.TheVariants as seen
use Rattle.lk_leader.specs.Terms.{TermValue}
use Rattle.lk_learner.specs.Learners.{executed}
use Rattle.lk_node_interface.specs.Outboxes.{OutboxValue}
use Rattle.lk_node.specs.Asking.{PointsTo, QueuesOrRedirects, RepliesAs, leader_in}
use Rattle.lk_node.specs.Leading.{ProposesAll, ProposesVote, having_proposed}
use Rattle.lk_node.specs.NodeValue.{NodeValue}
use Rattle.lk_node.specs.Steps.{Handles}
use Rattle.lk_progress.specs.Hearing.{Takes}
use Rattle.lk_rebases.proofs.Handling.{Handled, handled}
use Rattle.lk_rebases.specs.Pasts.{Fits, IsPlain, Past, with_past}
use Rattle.lk_rebases.proofs.Replies.{Mirrors, accepted, fits_same, prepared}
use Rattle.lk_rebases.proofs.Running.{heard}

-- ---- requests

pointed : (p : Past) (o : Option Member) (old : NodeValue) (r : RequestValue) (new : NodeValue) (out : OutboxValue)
    → Fits p old → PointsTo o old r new out → Fits p new × PointsTo o (with_past p old) r (with_past p new) out
pointed p None old r new out f k = (fits_same p old new k.0 f, (ap (with_past p) k.0, k.1))
pointed p (Some member) old r new out f k = (fits_same p old new k.0 f, (ap (with_past p) k.0, k.1))

queued : (p : Past) (o : Option TermValue) (old : NodeValue) (r : RequestValue) (new : NodeValue) (out : OutboxValue)
    → Fits p old → QueuesOrRedirects o old r new out
    → Fits p new × QueuesOrRedirects o (with_past p old) r (with_past p new) out
queued p None old r new out f k = pointed p (leader_in old.known old.learner.whole.roster.sets) old r new out f k
queued p (Some term) old r new out f k = (
  fits_same p _ new k.0 (record { some = f.some; below = f.below; own = f.own; votes = f.votes }),
  (ap (with_past p) k.0, k.1),
)

requested : (p : Past) (s : Seen) (old : NodeValue) (r : RequestValue) (new : NodeValue) (out : OutboxValue)
    → Fits p old → RepliesAs s old r new out → Fits p new × RepliesAs s (with_past p old) r (with_past p new) out
requested p (seen.Same answer) old r new out f k = (fits_same p old new k.0 f, (ap (with_past p) k.0, k.1))
requested p (seen.Passed last) old r new out f k = (fits_same p old new k.0 f, (ap (with_past p) k.0, k.1))
requested p seen.New old r new out f k = queued p old.leader.term old r new out f k

-- ---- proposals

proposed : (p : Past) (xs : List Vote) (old new : NodeValue) (before out : OutboxValue) → Fits p old
    → ProposesAll xs old new before out
    → Fits p new × ProposesAll xs (with_past p old) (with_past p new) before out
proposed p [] old new before out f k = (fits_same p old new k.1 f, (k.0, ap (with_past p) k.1, k.2))
proposed p (x ∷ xs) old new before out f k =
    let here : ProposesVote (with_past p old) x =
    record { term = k.0.term; current = k.0.current; ballot = k.0.ballot; proposes = k.0.proposes } in
    let rest = proposed p xs (having_proposed old x k.0) new _ out
    (record { some = f.some; below = f.below; own = f.own; votes = f.votes }) k.1 in
    (rest.0, (here, rest.1))

-- ---- a message

module _ (m : Meaning) (IsText : List ℕ → Type 0) where
  handled_other : (p : Past) (x : Content) (old new : NodeValue) (out : OutboxValue) → Fits p old
      → IsPlain (executed old.learner) x → Handles m IsText old x new out
      → Mirrors (λ node. Handles m IsText (with_past p old) x node out) new
  handled_other p (content.Request r) old new out f plain k =
      let h = requested p (seen_as (session_of r.client old.learner.whole.sessions) r.number) old r new out f k in
      record { past = p; fits = h.0; does = h.1 }
  handled_other p (content.Node from (kinds.Prepare b first)) old new out f plain k =
      prepared p old f b first plain from new out k
  handled_other p (content.Node from (kinds.Accept x)) old new out f plain k = accepted p old f x plain from new out k
  handled_other p (content.Node from (kinds.Promise q)) old new out f plain k = record {
    past = p;
    fits = elim k.0 [
      | inl records ↦ fits_same p _ new records.2
          (record { some = f.some; below = f.below; own = f.own; votes = f.votes })
      | inr drops ↦ fits_same p old new drops.1 f
    ];
    does = (
      elim k.0 [
        | inl records ↦ inl (
          records.0,
          record {
            current = records.1.current;
            ballot = records.1.ballot;
            named = records.1.named;
            first = records.1.first;
          },
          ap (with_past p) records.2,
        )
        | inr drops ↦ inr (λ t first. drops.0 t first, ap (with_past p) drops.1)
      ],
      k.1,
    );
  }
  handled_other p (content.Node from (kinds.Accepted x)) old new out f plain k = heard m p from x old new out f k
  handled_other p (content.Node from (kinds.Decided d)) old new out f plain k = absurd plain
  handled_other p (content.Node from (kinds.Nack n)) old new out f plain k = absurd plain
  handled_other p (content.Node from (kinds.Want w)) old new out f plain k = absurd plain
  handled_other p (content.Node from (kinds.Lead b theirs)) old new out f plain k = absurd plain
  handled_other p (content.Node from (kinds.Part q)) old new out f plain k = absurd plain
  handled_other p (content.Node from (kinds.Answer a)) old new out f plain k = absurd plain
  handled_other p (content.Node from (kinds.Elsewhere a)) old new out f plain k = absurd plain
  handled_other p (content.Node from (kinds.Passed a)) old new out f plain k = absurd plain

  -- with another past a node takes the message in the same way
  pub taken : (p : Past) (x : Content) (old new : NodeValue) (out : OutboxValue) → Fits p old
      → IsPlain (executed old.learner) x → Takes m IsText old x new out
      → (q : Past) × Fits q new × Takes m IsText (with_past p old) x (with_past q new) out
  taken p x old new out f plain k =
      let h : Handled m IsText old x new out = handled m IsText old x new out k in
      let other = handled_other p x old h.mid h.first f plain h.handles in
      let rest = proposed other.past h.proposes.0 h.mid new h.first out other.fits h.proposes.1 in (
        other.past,
        rest.0,
        record {
          bytes = k.bytes;
          spells = k.spells;
          step = record {
            mid = with_past other.past h.mid;
            first = h.first;
            handles = inl (
              record { cluster = old.header.cluster; content = x },
              k.spells,
              refl,
              other.does,
            );
            proposes = (h.proposes.0, rest.1);
          };
        },
      )
