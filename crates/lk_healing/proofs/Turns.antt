-- A node of a world takes the parts of a snapshot, one after another: no rebase is due before any of them.
use Rattle.std.proofs.Common.{◌≡◌, ◌∙◌, inr, ℕ, suc, ◌+◌, ◌*◌, ◌<◌, List, [], ◌∷◌, length, None}
use Rattle.std.proofs.Common.{refl, ap, sym, subst, arith}
use Rattle.lk_messages.specs.Values.{PartValue}
use Rattle.lk_messages.specs.declared.message.Content.{Content}
use Rattle.lk_messages.specs.declared.message.Content.TheVariants as content
use Rattle.lk_messages.specs.declared.message.NodeMessage.TheVariants as kinds
use Rattle.lk_state.specs.Meanings.{Meaning}
use Rattle.lk_learner.specs.Learners.{executed}
use Rattle.lk_learner.specs.Parts.{part_of}
use Rattle.lk_node.specs.NodeValue.{NodeValue}
use Rattle.lk_node_interface.specs.Outboxes.{OutboxValue}
use Rattle.lk_progress.specs.Gathering.{HasSoFar, parts_from}
use Rattle.lk_progress.specs.Hearing.{Takes}
use Rattle.lk_replica.specs.ReplicaValue.{ReplicaValue}
use Rattle.lk_sim.specs.WorldStates.{WorldState}
use Rattle.lk_world_feeding.proofs.Gathering.{Follow}
use Rattle.lk_world_progress.proofs.Delivering.{TakesFrom, found_as, heard_from}
use Rattle.lk_world_progress.specs.Delivering.{DeliversInTurn, Hears, HearsInTurn, IsRested}
use Rattle.lk_world_progress.specs.Stepping.{IsUpAs}
use Rattle.lk_healing.proofs.Replies.{GathersAlone, gathered_writes, part_gathers}
use Rattle.lk_healing.proofs.Rests.{delivery_rests}

rest_follow : (position : ℕ) (text : List ℕ) (count : ℕ) (p : PartValue) (parts : List PartValue)
    → Follow position text count (p ∷ parts) → Follow position text (count + 1024) parts
rest_follow position text count p parts follow k q at =
    let e : count + suc k * 1024 ≡ count + 1024 + k * 1024 = omega arith in
    subst (λ (n : ℕ). (q ≡ part_of position text n) × (n < length text)) e (follow (suc k) q at)

first_follows : (position : ℕ) (text : List ℕ) (count : ℕ) (p : PartValue) (parts : List PartValue)
    → Follow position text count (p ∷ parts) → (p ≡ part_of position text count) × (count < length text)
first_follows position text count p parts follow =
    let e : count + 0 * 1024 ≡ count = omega arith in
    subst (λ (n : ℕ). (p ≡ part_of position text n) × (n < length text)) e (follow 0 p refl)

module _ (m : Meaning) (IsText : List ℕ → Type 0) (n from position : ℕ) (text : List ℕ) where
  -- ---- one part that is not the last one

  record TookPart (count : ℕ) (r : ReplicaValue) (new : WorldState ReplicaValue) : Type 0 where
    after : ReplicaValue
    is : IsUpAs new n after
    rested : IsRested new n
    idle : after.node.leader.term ≡ None
    reach : executed after.node.learner ≡ executed r.node.learner
    so_far : HasSoFar after.node.learner position text (count + 1024)
    before : after.node.gathered_before ≡ r.node.gathered_before

  module _ (p : PartValue) (count : ℕ) (r : ReplicaValue) (old new : WorldState ReplicaValue) (up : IsUpAs old n r)
      (rested : IsRested old n) (idle : r.node.leader.term ≡ None) (behind : executed r.node.learner < position)
      (short : count + 1024 < length text) (has : HasSoFar r.node.learner position text count)
      (is : p ≡ part_of position text count) (h : Hears m IsText n (content.Node from (kinds.Part p)) old new) where
    abbrev x : Content
    x = content.Node from (kinds.Part p)

    gathers : (start last : NodeValue) (out : OutboxValue) → start ≡ r.node → Takes m IsText start x last out
        → GathersAlone r.node last position count text out
    gathers start last out same takes =
        part_gathers m IsText r.node last from position count text out idle behind short has
        (subst (λ (q : PartValue). Takes m IsText r.node (content.Node from (kinds.Part q)) last out) is
        (subst (λ (node : NodeValue). Takes m IsText node x last out) same takes))

    t : TakesFrom m IsText n x old new
    t = heard_from m IsText n x old new h

    start_is : t.start ≡ r.node
    start_is = (found_as m IsText n x old new r h.goes.before up t).rests (rested r up)

    did : GathersAlone r.node t.last position count text t.out
    did = gathers t.start t.last t.out start_is t.takes

    after_is : t.after.node ≡ t.last
    after_is = t.left.rests (gathered_writes r.node t.last position count text t.out did).rebase

    took_part : TookPart count r new
    took_part = record {
      after = t.after;
      is = t.is;
      rested = delivery_rests m IsText n x old new r up h (λ start last out found takes.
          let same : start ≡ r.node = found.rests (rested r up) in
          let k = gathered_writes r.node last position count text out (gathers start last out same takes) in record {
            entries = k.entries;
            sync = k.sync;
            rebase = k.rebase;
            reach = k.reach ∙ ap (λ (node : NodeValue). executed node.learner) (sym same);
            snapshot = k.snapshot ∙ ap (λ (node : NodeValue). node.acceptor.state.snapshot_position) (sym same);
          });
      idle = ap (λ (node : NodeValue). node.leader.term) (after_is ∙ did.becomes) ∙ idle;
      reach = ap (λ (node : NodeValue). executed node.learner) (after_is ∙ did.becomes);
      so_far = inr (ap (λ (node : NodeValue). node.learner.gathered) (after_is ∙ did.becomes) ∙ did.gathered);
      before = ap (λ (node : NodeValue). node.gathered_before) (after_is ∙ did.becomes);
    }

  -- ---- all of them

  pub record TookTurn (count : ℕ) (parts : List PartValue) (r : ReplicaValue) (old new : WorldState ReplicaValue)
      : Type 0 where
    pub turns : DeliversInTurn m IsText n (parts_from from parts) old new
    -- if they do not complete the snapshot, it still knows how much was gathered at the last nudge
    pub before : count + length parts * 1024 < length text
        → (q : ReplicaValue) × IsUpAs new n q × (q.node.gathered_before ≡ r.node.gathered_before)

  pub parts_turn : (parts : List PartValue) (p : PartValue) (count : ℕ) (r : ReplicaValue)
      (old new : WorldState ReplicaValue)
      → IsUpAs old n r → IsRested old n → r.node.leader.term ≡ None → executed r.node.learner < position
      → HasSoFar r.node.learner position text count → Follow position text count (p ∷ parts)
      → HearsInTurn m IsText n (parts_from from (p ∷ parts)) old new → TookTurn count (p ∷ parts) r old new
  parts_turn [] p count r old new up rested idle behind has follow d =
      let first = first_follows position text count p [] follow in record {
        turns = (d.0, record { hears = d.1; rested = rested }, d.2);
        before = λ short.
            let one = took_part p count r old d.0 up rested idle behind (omega (arith, short)) has first.0 d.1 in (
              one.after,
              subst (λ (w : WorldState ReplicaValue). IsUpAs w n one.after) (sym d.2) one.is,
              one.before,
            );
      }
  parts_turn (q ∷ parts) p count r old new up rested idle behind has follow d =
      let first = first_follows position text count p (q ∷ parts) follow in
      let later = rest_follow position text count p (q ∷ parts) follow in
      let next = first_follows position text (count + 1024) q parts later in
      let one = took_part p count r old d.0 up rested idle behind next.1 has first.0 d.1 in
      let rest = parts_turn parts q (count + 1024) one.after d.0 new one.is one.rested one.idle
      (omega (arith, behind, one.reach)) one.so_far later d.2 in record {
        turns = (d.0, record { hears = d.1; rested = rested }, rest.turns);
        before = λ short.
            let more = rest.before (omega (arith, short)) in (more.0, more.1, more.2 ∙ one.before);
      }
