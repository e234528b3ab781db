-- A node of a world can be fed by commands or by a snapshot.
use Rattle.std.proofs.Common.{◌≡◌, ◌∙◌, ◌⊎◌, inl, inr, ℕ, ◌<◌, List, length, take, Option, Some, None, refl, ap, sym}
use Rattle.std.proofs.Common.{subst, arith}
use Rattle.std.proofs.lemmas.Bool.{cases_lt}
use Rattle.lk_agreement_laws.proofs.Histories.{same_length_same}
use Rattle.lk_agreement_laws.specs.Chosen.{Command}
use Rattle.lk_agreement_laws.specs.Snapshots.{IsSlice}
use Rattle.lk_state.specs.Meanings.{Meaning}
use Rattle.lk_learner.specs.Learners.{GatheredValue, executed, gathered_bytes}
use Rattle.lk_node.specs.BorneOut.{text}
use Rattle.lk_progress.specs.Gathering.{HasFirst}
use Rattle.lk_replica.specs.ReplicaValue.{ReplicaValue}
use Rattle.lk_sim.specs.WorldStates.{WorldState}
use Rattle.lk_world_feeding.proofs.Knowing.{HasSnapshot, has_gathered, has_snapshot, may_serve}
use Rattle.lk_world_feeding.specs.Feeding.{CanBeFed}
use Rattle.lk_world_feeding.specs.Gathering.{AllCanBeFed, HasGathered, IsOpenAt, NeedsSnapshot, count_of, position_of}
use Rattle.lk_world_feeding.specs.Gathering.{text_of}
use Rattle.lk_world_progress.specs.Stepping.{Holds, IsUpAs}

module _ (m : Meaning) (IsText : List ℕ → Type 0) (w : WorldState ReplicaValue) (n other : ℕ)
    (behind ahead : ReplicaValue) (holds : Holds m IsText w) (up : IsUpAs w n behind)
    (other_up : IsUpAs w other ahead) where
  module _ (g : GatheredValue) (is : behind.node.learner.gathered ≡ Some g) (at : g.position ≡ position_of ahead)
      (short : length g.bytes < g.total) where
    snapshot : HasSnapshot m w ahead
    snapshot = has_snapshot m IsText w holds other ahead other_up

    slice : IsSlice w.genesis w.sent (text m w.genesis) g.position g.total 0 g.bytes
    slice = has_gathered m IsText w holds n behind up g is

    -- both texts are of one list
    one_list : slice.under ≡ snapshot.under
    one_list = same_length_same w.genesis w.sent holds.world.sound slice.under snapshot.under slice.chosen
        snapshot.chosen (slice.position_is ∙ at ∙ sym snapshot.reaches)

    one_text : text m w.genesis slice.under ≡ text_of ahead
    one_text = ap (λ (L : List Command). text m w.genesis L) one_list ∙ sym snapshot.is

    total : g.total ≡ length (text_of ahead)
    total = sym slice.total_is ∙ ap length one_text

    bytes : g.bytes ≡ take (length g.bytes) (text_of ahead)
    bytes = slice.slice ∙ ap (λ (t : List ℕ). take (length g.bytes) t) one_text

    count : count_of behind ≡ length g.bytes
    count = ap gathered_bytes is

    has : HasFirst behind.node.learner (position_of ahead) (text_of ahead) (length g.bytes)
    has = is ∙ (λ i. Some (record { position = at i; total = total i; bytes = bytes i }))

    gathered_some : HasGathered behind ahead
    gathered_some = (
      omega (arith, count, total, short),
      inr (subst (λ (c : ℕ). HasFirst behind.node.learner (position_of ahead) (text_of ahead) c) (sym count) has),
    )

  gathered_none : behind.node.learner.gathered ≡ None → HasGathered behind ahead
  gathered_none none =
      let count : count_of behind ≡ 0 = ap gathered_bytes none in
      let serves = may_serve m IsText w holds other ahead other_up in (omega (arith, count, serves.some), inl none)

  gathered_of : (o : Option GatheredValue) → behind.node.learner.gathered ≡ o → IsOpenAt behind (position_of ahead)
      → HasGathered behind ahead
  gathered_of None is open' = gathered_none is
  gathered_of (Some g) is open' = gathered_some g is (open' g is).0 (open' g is).1

  one_way : (n ≡ other → ⊥) → IsOpenAt behind (position_of ahead)
      → CanBeFed m IsText w n other behind ahead ⊎ NeedsSnapshot m IsText w n other behind ahead
  one_way apart open' = elim (cases_lt (executed behind.node.learner) (position_of ahead)) [
    | inl above ↦ inr (record {
      holds = holds;
      apart = apart;
      up = up;
      other_up = other_up;
      above = above;
      gathered = gathered_of behind.node.learner.gathered refl open';
    })
    | inr kept ↦ inl (record {
      holds = holds;
      apart = apart;
      up = up;
      other_up = other_up;
      kept = kept;
    })
  ]

pub all_fed : (m : Meaning) (IsText : List ℕ → Type 0) → AllCanBeFed m IsText
all_fed m IsText w n other behind ahead holds apart up other_up open' =
    one_way m IsText w n other behind ahead holds up other_up apart open'
