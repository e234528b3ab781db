-- Exchanges by which a node of a world is sent a snapshot.
use Rattle.std.proofs.Common.{◌≡◌, ◌∙◌, ◌⊎◌, inl, inr, ℕ, zero, suc, ◌+◌, ◌*◌, ◌<◌, ◌≤◌, List, length, None}
use Rattle.std.proofs.Common.{take, Option, Contains, ap, sym, subst, arith}
use Rattle.std.proofs.lemmas.List.{length-take-le}
use Rattle.lk_messages.specs.Values.{PartValue}
use Rattle.lk_messages.specs.declared.message.NodeMessage.TheVariants as kinds
use Rattle.lk_state.specs.Meanings.{Meaning}
use Rattle.lk_state.specs.States.{WholeValue}
use Rattle.lk_learner.specs.Gathering.{starts_text}
use Rattle.lk_learner.specs.Learners.{GatheredValue, LearnerValue, alpha, executed, gathered_bytes, wanted}
use Rattle.lk_learner.specs.Parts.{AreParts, part_of}
use Rattle.lk_learner.specs.Unpacking.{Unpacks}
use Rattle.lk_progress.specs.Feeding.{MayServe, Sends, WantIsAnswered}
use Rattle.lk_progress.specs.Gathering.{GetsOn, HasFirst, HasSoFar, PartsAreInstalled}
use Rattle.lk_replica.specs.ReplicaValue.{ReplicaValue}
use Rattle.lk_sim.specs.WorldStates.{WorldState}
use Rattle.lk_sim_nodes.specs.declared.sim_node.RunState.TheVariants.{Up}
use Rattle.lk_world_feeding.proofs.Gathering.{TookParts, all_taken, gets_on_left, gets_on_since, parts_hold, same_parts}
use Rattle.lk_world_feeding.proofs.Gathering.{start_here}
use Rattle.lk_world_feeding.proofs.Knowing.{StatesFit, has_window, may_serve, snapshot_unpacks, window_alpha}
use Rattle.lk_world_feeding.proofs.Serving.{TakesOne, takes_one}
use Rattle.lk_world_feeding.specs.Asking.{AsksIn, AskersKeepGathered, ComesToAskOn}
use Rattle.lk_world_feeding.specs.Feeding.{KeepsLearner, Later}
use Rattle.lk_world_feeding.specs.Gathering.{GainsParts, HasGathered, IsSentParts, IsSentPartsAgain}
use Rattle.lk_world_feeding.specs.Gathering.{IsSentSome}
use Rattle.lk_world_feeding.specs.Gathering.{NeedsSnapshot, PartsAreWhole, PartsFeed, count_of, position_of, text_of}
use Rattle.lk_world_progress.proofs.Stepping.{one_replica}
use Rattle.lk_world_progress.specs.Balloting.{HasSentTo}
use Rattle.lk_world_progress.specs.Delivering.{DeliveriesAreTaken}
use Rattle.lk_world_progress.specs.Stepping.{EventIsStep, Holds, IsUpAs}

module _ (m : Meaning) (IsText : List ℕ → Type 0) (law : EventIsStep m IsText) (taken : DeliveriesAreTaken m IsText)
    (hearing : AskersKeepGathered m IsText) (answers : WantIsAnswered m IsText) (installs : PartsAreInstalled m IsText)
    (fit : StatesFit m IsText) where
  -- ---- one exchange

  module _ (n other : ℕ) (behind ahead : ReplicaValue) (first last : WorldState ReplicaValue)
      (needs : NeedsSnapshot m IsText first n other behind ahead)
      (k : IsSentParts m IsText n other behind ahead first last) where
    abbrev asks : AsksIn n other behind first k.asked
    asks = (hearing first k.asked n other behind needs.up k.comes).0

    kept : asks.now.node.learner.gathered ≡ behind.node.learner.gathered
    kept = (hearing first k.asked n other behind needs.up k.comes).1

    same_wanted : wanted asks.now.node.learner ≡ wanted behind.node.learner
    same_wanted = λ i. record {
      first = (asks.whole i).roster.executed + 1;
      offset = gathered_bytes (kept i);
    }

    some : 1 ≤ length k.parts
    some = elim k.are.all [ inl eight ↦ omega (arith, eight) | inr all ↦ omega (arith, all, needs.gathered.0) ]

    -- ---- the other node when it is asked

    abbrev serving : KeepsLearner other ahead k.serves.mid
    serving = k.serves.other_rests ahead
        (asks.only.others other (Up ahead) (λ e. needs.apart (sym e)) needs.other_up)

    served : TakesOne m IsText taken other n (kinds.Want (wanted behind.node.learner)) tt tt serving.0 k.serves.mid
        k.served serving.1 k.serves.happens
    served = takes_one m IsText taken other n (kinds.Want (wanted behind.node.learner)) tt tt serving.0 k.serves.mid
        k.served serving.1 k.serves.happens

    are_its : AreParts (position_of serving.0) (text_of serving.0) (count_of behind) k.parts
    are_its = subst (λ (l : LearnerValue). AreParts l.snapshot_position l.snapshot (count_of behind) k.parts)
        (sym serving.2) k.are

    within : count_of behind < length (text_of serving.0)
    within = subst (λ (l : LearnerValue). count_of behind < length l.snapshot) (sym serving.2) needs.gathered.0

    above : executed behind.node.learner < position_of serving.0
    above = subst (λ (l : LearnerValue). executed behind.node.learner < l.snapshot_position) (sym serving.2) needs.above

    learner : MayServe serving.0.node.learner
    learner = may_serve m IsText k.serves.mid k.serves.happens.hears.goes.before other serving.0 serving.1

    sends : (p : PartValue) → Contains k.parts p → HasSentTo k.served other n (kinds.Part p)
    sends p c = by_case (answers serving.0.node served.now.node n (wanted behind.node.learner) served.out learner
        served.takes (omega (arith, above, learner.reaches)))
      where
        by_case : Sends serving.0.node n (executed behind.node.learner + 1) (count_of behind) served.out
            → HasSentTo k.served other n (kinds.Part p)
        by_case (inl commands) = absurd (omega (arith, commands.kept.0, above))
        by_case (inr snapshot) = served.says n (kinds.Part p) (snapshot.told p
            (same_parts (position_of serving.0) (count_of behind) (text_of serving.0) k.parts snapshot.parts are_its
            (subst (λ (start : ℕ). AreParts (position_of serving.0) (text_of serving.0) start snapshot.parts)
            (start_here (count_of behind) (text_of serving.0) within) snapshot.are) p c))

    -- ---- the first node when it takes the first part

    abbrev waiting : KeepsLearner n asks.now k.serves.mid
    waiting = k.serves.rests asks.now asks.is

    abbrev taking : KeepsLearner n waiting.0 k.takes.mid
    taking = k.takes.rests waiting.0 (served.only.others n (Up waiting.0) needs.apart waiting.1)

    same_learner : taking.0.node.learner ≡ asks.now.node.learner
    same_learner = taking.2 ∙ waiting.2

    whole_then : taking.0.node.learner.whole ≡ behind.node.learner.whole
    whole_then = ap (λ (l : LearnerValue). l.whole) same_learner ∙ asks.whole

    gathered_then : taking.0.node.learner.gathered ≡ behind.node.learner.gathered
    gathered_then = ap (λ (l : LearnerValue). l.gathered) same_learner ∙ kept

    behind_then : executed taking.0.node.learner < position_of ahead
    behind_then = let e : executed taking.0.node.learner ≡ executed behind.node.learner =
        ap (λ (w : WholeValue). w.roster.executed) whole_then in omega (arith, e, needs.above)

    window_then : alpha taking.0.node.learner ≡ alpha behind.node.learner
    window_then = ap (λ (w : WholeValue). length w.roster.sets) whole_then

    so_far : HasSoFar taking.0.node.learner (position_of ahead) (text_of ahead) (count_of behind)
    so_far = elim needs.gathered.1 [
      | inl none ↦ inl (
        ap gathered_bytes none,
        ap (λ (g : Option GatheredValue). starts_text g (part_of (position_of ahead) (text_of ahead) 0))
            (gathered_then ∙ none),
      )
      | inr has ↦ inr (gathered_then ∙ has)
    ]

    took : TookParts m IsText n other k.parts taking.0 k.takes.mid last
    took = all_taken m IsText law n other (position_of ahead) (text_of ahead) k.parts (count_of behind) taking.0
        k.takes.mid last some taking.1 behind_then so_far k.are.each k.takes.happens

    unpacks : (w : WholeValue) × Unpacks IsText (alpha taking.0.node.learner) (position_of ahead) (text_of ahead) w
    unpacks =
        let u = snapshot_unpacks m IsText first needs.holds other ahead needs.other_up fit in
        let window : alpha taking.0.node.learner ≡ first.genesis.alpha =
        window_then ∙ window_alpha m IsText first needs.holds n behind needs.up in
        (u.0, subst (λ (a : ℕ). Unpacks IsText a (position_of ahead) (text_of ahead) u.0) (sym window) u.1)

    gets_on : GetsOn behind.node took.now.node (position_of ahead) (text_of ahead)
        (count_of behind + length k.parts * 1024)
    gets_on =
        let window : 1 ≤ alpha behind.node.learner = has_window m IsText first needs.holds n behind needs.up in
        gets_on_since behind.node taking.0.node took.now.node (position_of ahead)
        (count_of behind + length k.parts * 1024) (text_of ahead) whole_then
        (gets_on_left taking.0.node took.last took.now.node (position_of ahead)
        (count_of behind + length k.parts * 1024) (text_of ahead) took.left
        (installs taking.0.node took.last other (position_of ahead) (count_of behind) (text_of ahead) unpacks.0 k.parts
        took.envelopes (omega (arith, window, window_then)) behind_then unpacks.1 needs.gathered.0 so_far k.are
        took.takes))

    -- ---- together

    abbrev served_then : KeepsLearner other served.now k.takes.mid
    served_then = k.takes.other_rests served.now served.is

    gains : GainsParts m IsText n other behind ahead first last k
    gains = record {
      asks = subst (λ w. HasSentTo k.asked n other (kinds.Want w)) same_wanted asks.asks;
      sends = sends;
      some = some;
      gains = (took.now, took.is, gets_on);
      keeps = (
        served_then.0,
        took.only.others other (Up served_then.0) (λ e. needs.apart (sym e)) served_then.1,
        served_then.2 ∙ served.learner ∙ serving.2,
      );
    }

    -- what the next exchange begins with
    holds_after : Holds m IsText last
    holds_after = parts_hold m IsText n other k.parts k.takes.mid last some k.takes.happens

  pub parts_feed : PartsFeed m IsText
  parts_feed n other behind ahead first last needs k = gains n other behind ahead first last needs k

  -- ---- several

  asked_before : (old new : WorldState ReplicaValue) (n other : ℕ) (r : ReplicaValue)
      → ComesToAskOn m IsText n other r old new → Holds m IsText old
  asked_before old new n other r (inl (inl k)) = k.2.goes.before
  asked_before old new n other r (inl (inr k)) = k.4.goes.before
  asked_before old new n other r (inr k) = k.4.before

  -- what the node has gathered of the same snapshot
  next_gathered : (behind ahead q p : ReplicaValue) (reached : ℕ) → reached < length (text_of ahead)
      → HasFirst q.node.learner (position_of ahead) (text_of ahead) reached → p.node.learner ≡ ahead.node.learner
      → (count_of q ≡ reached) × HasGathered q p
  next_gathered behind ahead q p reached short has same =
      let long : length (take reached (text_of ahead)) ≡ reached =
      length-take-le reached (text_of ahead) (omega (arith, short)) in
      let count : count_of q ≡ reached = ap gathered_bytes has ∙ long in (
        count,
        subst (λ (l : LearnerValue). (count_of q < length l.snapshot)
            × ((q.node.learner.gathered ≡ None)
            ⊎ HasFirst q.node.learner l.snapshot_position l.snapshot (count_of q))) (sym same) (
              omega (arith, count, short),
              inr (subst (λ (i : ℕ). HasFirst q.node.learner (position_of ahead)
                  (text_of ahead) i) (sym count) has),
            ),
      )

  module _ (k n other : ℕ) (behind ahead : ReplicaValue) (first mid last : WorldState ReplicaValue)
      (needs : NeedsSnapshot m IsText first n other behind ahead)
      (more : count_of behind + suc k * 8192 < length (text_of ahead))
      (rest : length (text_of ahead) ≤ count_of behind + suc (suc k) * 8192)
      (once : IsSentParts m IsText n other behind ahead first mid)
      (again : IsSentPartsAgain m IsText n other (suc k) mid last)
      (further : (q p : ReplicaValue) → NeedsSnapshot m IsText mid n other q p
      → count_of q + k * 8192 < length (text_of p) → length (text_of p) ≤ count_of q + suc k * 8192
      → (r : ReplicaValue) × IsUpAs last n r × (position_of p ≤ executed r.node.learner)) where
    gain : GainsParts m IsText n other behind ahead first mid once
    gain = gains n other behind ahead first mid needs once

    abbrev q : ReplicaValue
    q = gain.gains.0

    abbrev p : ReplicaValue
    p = gain.keeps.0

    abbrev reached : ℕ
    reached = count_of behind + length once.parts * 1024

    -- 8 parts were sent
    eight : length once.parts ≡ 8
    eight = elim once.are.all [ inl all ↦ all | inr ends ↦ absurd (omega (arith, ends, once.are.few, more)) ]

    one_more : (r : ReplicaValue) × IsUpAs last n r × (position_of ahead ≤ executed r.node.learner)
    one_more = by_case gain.gains.2
      where
        by_case : GetsOn behind.node q.node (position_of ahead) (text_of ahead) reached
            → (r : ReplicaValue) × IsUpAs last n r × (position_of ahead ≤ executed r.node.learner)
        by_case (inl whole) = absurd (omega (arith, whole.0, eight, more))
        by_case (inr part) =
            let next = next_gathered behind ahead q p reached part.0 part.1 gain.keeps.2 in
            let as_much : executed q.node.learner ≡ executed behind.node.learner =
            ap (λ (w : WholeValue). w.roster.executed) part.2 in
            let at : position_of p ≡ position_of ahead =
            ap (λ (l : LearnerValue). l.snapshot_position) gain.keeps.2 in
            let long : length (text_of p) ≡ length (text_of ahead) =
            ap (λ (l : LearnerValue). length l.snapshot) gain.keeps.2 in
            let count : count_of q ≡ count_of behind + 8192 = omega (arith, next.0, eight) in
            let r = further q p (record {
              holds = holds_after n other behind ahead first mid needs once;
              apart = needs.apart;
              up = gain.gains.1;
              other_up = gain.keeps.1;
              above = omega (arith, as_much, at, needs.above);
              gathered = next.1;
            }) (omega (arith, count, long, more)) (omega (arith, count, long, rest)) in
            (r.0, r.1, omega (arith, r.2, at))

  last_one : (n other : ℕ) (behind ahead : ReplicaValue) (first last : WorldState ReplicaValue)
      → NeedsSnapshot m IsText first n other behind ahead → length (text_of ahead) ≤ count_of behind + 8192
      → IsSentParts m IsText n other behind ahead first last
      → (r : ReplicaValue) × IsUpAs last n r × (position_of ahead ≤ executed r.node.learner)
  last_one n other behind ahead first last needs rest once =
      let gain = gains n other behind ahead first last needs once in
      let all : length (text_of ahead) ≤ count_of behind + length once.parts * 1024 =
      elim once.are.all [ inl eight ↦ omega (arith, eight, rest) | inr ends ↦ omega (arith, ends) ] in
      elim gain.gains.2 [
        | inl whole ↦ (gain.gains.0, gain.gains.1, whole.1)
        | inr part ↦ absurd (omega (arith, part.0, all))
      ]

  -- when the next exchange begins, both are as they were
  module _ (n other : ℕ) (behind ahead : ReplicaValue) (first mid : WorldState ReplicaValue)
      (needs : NeedsSnapshot m IsText first n other behind ahead)
      (k : Later n other (IsSentSome m IsText n other) first mid) where
    abbrev exchange : IsSentSome m IsText n other k.mid mid
    exchange = k.happens

    holds_then : Holds m IsText k.mid
    holds_then = asked_before k.mid exchange.once.asked n other exchange.behind exchange.once.comes

    same_behind : exchange.behind.node.learner ≡ behind.node.learner
    same_behind =
        let q : KeepsLearner n behind k.mid = k.rests behind needs.up in
        ap (λ (r : ReplicaValue). r.node.learner)
        (one_replica m IsText k.mid holds_then n exchange.behind q.0 exchange.up q.1)
        ∙ q.2

    same_ahead : exchange.ahead.node.learner ≡ ahead.node.learner
    same_ahead =
        let q : KeepsLearner other ahead k.mid = k.other_rests ahead needs.other_up in
        ap (λ (r : ReplicaValue). r.node.learner)
        (one_replica m IsText k.mid holds_then other exchange.ahead q.0 exchange.other_up q.1)
        ∙ q.2

    -- what is true of both learners
    of_both : (P : LearnerValue → LearnerValue → Type 0) → P behind.node.learner ahead.node.learner
        → P exchange.behind.node.learner exchange.ahead.node.learner
    of_both P p = subst (λ (l : LearnerValue). P l exchange.ahead.node.learner) (sym same_behind)
        (subst (λ (l : LearnerValue). P behind.node.learner l) (sym same_ahead) p)

    needs_then : NeedsSnapshot m IsText k.mid n other exchange.behind exchange.ahead
    needs_then = record {
      holds = holds_then;
      apart = needs.apart;
      up = exchange.up;
      other_up = exchange.other_up;
      above = of_both (λ l a. executed l < a.snapshot_position) needs.above;
      gathered = of_both (λ l a. (gathered_bytes l.gathered < length a.snapshot)
          × ((l.gathered ≡ None) ⊎ HasFirst l a.snapshot_position a.snapshot (gathered_bytes l.gathered)))
          needs.gathered;
    }

    more_then : (i : ℕ) → count_of behind + i < length (text_of ahead)
        → count_of exchange.behind + i < length (text_of exchange.ahead)
    more_then i more = of_both (λ l a. gathered_bytes l.gathered + i < length a.snapshot) more

    rest_then : (i : ℕ) → length (text_of ahead) ≤ count_of behind + i
        → length (text_of exchange.ahead) ≤ count_of exchange.behind + i
    rest_then i rest = of_both (λ l a. length a.snapshot ≤ gathered_bytes l.gathered + i) rest

    back : (last : WorldState ReplicaValue)
        → (r : ReplicaValue) × IsUpAs last n r × (position_of exchange.ahead ≤ executed r.node.learner)
        → (r : ReplicaValue) × IsUpAs last n r × (position_of ahead ≤ executed r.node.learner)
    back last r = (
      r.0,
      r.1,
      subst (λ (l : LearnerValue). l.snapshot_position ≤ executed r.0.node.learner) same_ahead r.2,
    )

  all_whole : (k n other : ℕ) (behind ahead : ReplicaValue) (first last : WorldState ReplicaValue)
      → NeedsSnapshot m IsText first n other behind ahead → count_of behind + k * 8192 < length (text_of ahead)
      → length (text_of ahead) ≤ count_of behind + suc k * 8192
      → IsSentPartsAgain m IsText n other (suc k) first last
      → (r : ReplicaValue) × IsUpAs last n r × (position_of ahead ≤ executed r.node.learner)
  all_whole zero n other behind ahead first last needs more rest d =
      let f : IsSentSome m IsText n other d.1.mid d.0 = d.1.happens in
      let whole = last_one n other f.behind f.ahead d.1.mid d.0
      (needs_then n other behind ahead first d.0 needs d.1)
      (rest_then n other behind ahead first d.0 needs d.1 8192 (omega (arith, rest))) f.once in
      subst (λ (w : WorldState ReplicaValue). (r : ReplicaValue) × IsUpAs w n r
      × (position_of ahead ≤ executed r.node.learner)) (sym d.2)
      (back n other behind ahead first d.0 needs d.1 d.0 whole)
  all_whole (suc k) n other behind ahead first last needs more rest d =
      let f : IsSentSome m IsText n other d.1.mid d.0 = d.1.happens in
      back n other behind ahead first d.0 needs d.1 last
      (one_more k n other f.behind f.ahead d.1.mid d.0 last (needs_then n other behind ahead first d.0 needs d.1)
      (more_then n other behind ahead first d.0 needs d.1 (suc k * 8192) more)
      (rest_then n other behind ahead first d.0 needs d.1 (suc (suc k) * 8192) rest) f.once d.2
      (λ q p needs_again more_again rest_again.
      all_whole k n other q p d.0 last needs_again more_again rest_again d.2))

  pub parts_whole : PartsAreWhole m IsText
  parts_whole n other behind ahead k first last needs more rest d =
      all_whole k n other behind ahead first last needs more rest d
