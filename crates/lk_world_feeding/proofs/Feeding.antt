-- Exchanges by which a node of a world is fed.
use Rattle.std.proofs.Common.{◌≡◌, ◌∙◌, ◌⊎◌, inl, inr, ℕ, zero, suc, ◌+◌, ◌*◌, ◌<◌, ◌≤◌, List, length, ap}
use Rattle.std.proofs.Common.{sym, subst, arith}
use Rattle.std.proofs.lemmas.Bool.{cases_lt}
use Rattle.lk_messages.specs.Values.{DecidedValue}
use Rattle.lk_messages.specs.declared.message.Content.TheVariants as content
use Rattle.lk_messages.specs.declared.message.Nack.{Nack}
use Rattle.lk_messages.specs.declared.message.NodeMessage.TheVariants as kinds
use Rattle.lk_state.specs.Meanings.{Meaning}
use Rattle.lk_state.specs.States.{WholeValue}
use Rattle.lk_learner.specs.Learners.{LearnerValue, decided_from, executed, wanted}
use Rattle.lk_replica.specs.ReplicaValue.{ReplicaValue}
use Rattle.lk_sim.specs.WorldStates.{WorldState}
use Rattle.lk_sim_nodes.specs.declared.sim_node.RunState.TheVariants.{Up}
use Rattle.lk_world_feeding.proofs.Taking.{delivery_only}
use Rattle.lk_world_feeding.specs.Asking.{AreEnough, AskedNodesSend, AsksIn, ComesToAsk, Keeps}
use Rattle.lk_world_feeding.specs.Asking.{NodesThatAreBehindAsk, ReachesIn, RejectedNodesSend, SendsIn}
use Rattle.lk_world_feeding.specs.Asking.{SentCommandsAreExecuted}
use Rattle.lk_world_feeding.specs.Feeding.{CanBeFed, ExchangesCatchUp, ExchangesFeed, GainsCommands, GainsUnasked}
use Rattle.lk_world_feeding.specs.Feeding.{HasCaughtUp, IsFed, IsFedAgain, IsFedOnce, IsFedUnasked, KeepsLearner}
use Rattle.lk_world_feeding.specs.Feeding.{Later, RejectionsFeed}
use Rattle.lk_world_feeding.specs.Feeding.{commands_for}
use Rattle.lk_world_progress.proofs.Stepping.{one_replica}
use Rattle.lk_world_progress.specs.Balloting.{HasSentTo}
use Rattle.lk_world_progress.specs.Delivering.{Delivers}
use Rattle.lk_world_progress.specs.Stepping.{EventIsStep, Holds, IsUpAs}

-- enough commands are one at least, if the node has executed the first
some_of : (ahead : ReplicaValue) (first : ℕ) (d : DecidedValue) → first ≤ executed ahead.node.learner
    → AreEnough ahead first d → 1 ≤ length d.commands
some_of ahead first d there (inl many) = omega (arith, many)
some_of ahead first d there (inr all) = omega (arith, all, there)

-- the invariant holds before a node comes to ask, and after
asked_before : (m : Meaning) (IsText : List ℕ → Type 0) (old new : WorldState ReplicaValue) (n other : ℕ)
    (r : ReplicaValue)
    → ComesToAsk m IsText n other r old new → Holds m IsText old
asked_before m IsText old new n other r (inl (inl (inl k))) = k.2.goes.before
asked_before m IsText old new n other r (inl (inl (inr k))) = k.4.goes.before
asked_before m IsText old new n other r (inl (inr k)) = k.4.before
asked_before m IsText old new n other r (inr k) = k.8.before

asked_after : (m : Meaning) (IsText : List ℕ → Type 0) (old new : WorldState ReplicaValue) (n other : ℕ)
    (r : ReplicaValue)
    → ComesToAsk m IsText n other r old new → Holds m IsText new
asked_after m IsText old new n other r (inl (inl (inl k))) = k.2.goes.after
asked_after m IsText old new n other r (inl (inl (inr k))) = k.4.goes.after
asked_after m IsText old new n other r (inl (inr k)) = k.4.after
asked_after m IsText old new n other r (inr k) = k.8.after

same_executed : (l k : LearnerValue) → l ≡ k → executed l ≡ executed k
same_executed l k e = ap (λ (x : LearnerValue). executed x) e

module _ (m : Meaning) (IsText : List ℕ → Type 0) (law : EventIsStep m IsText)
    (asking : NodesThatAreBehindAsk m IsText) (sending : AskedNodesSend m IsText)
    (executing : SentCommandsAreExecuted m IsText) where
  -- ---- what the first node gains

  module _ (n other : ℕ) (behind ahead : ReplicaValue) (first last : WorldState ReplicaValue) (apart : n ≡ other → ⊥)
      (up : IsUpAs first n behind) (k : IsFedOnce m IsText n other behind ahead first last) where
    asks : AsksIn n other behind first k.asked
    asks = asking first k.asked n other behind up k.comes

    same : asks.now ≡ k.asking
    same = one_replica m IsText k.asked (asked_after m IsText first k.asked n other behind k.comes) n asks.now k.asking
        asks.is k.up

    -- it has executed the same when it has asked
    as_much : executed k.asking.node.learner ≡ executed behind.node.learner
    as_much = ap (λ (r : ReplicaValue). executed r.node.learner) (sym same)
        ∙ ap (λ (w : WholeValue). w.roster.executed) asks.whole

    -- and when the other one is asked, and when it takes the reply
    abbrev waiting : KeepsLearner n k.asking k.serves.mid
    waiting = k.serves.rests k.asking k.up

    abbrev taking : KeepsLearner n waiting.0 k.takes.mid
    taking = k.takes.rests waiting.0 ((delivery_only m IsText law other
        (content.Node n (kinds.Want (wanted k.asking.node.learner))) k.serves.mid k.served
        k.serves.happens.hears).others n (Up waiting.0) apart waiting.1)

    as_much_then : executed taking.0.node.learner ≡ executed behind.node.learner
    as_much_then = same_executed taking.0.node.learner waiting.0.node.learner taking.2
        ∙ same_executed waiting.0.node.learner k.asking.node.learner waiting.2 ∙ as_much

    reached : ReachesIn n (executed behind.node.learner + 1 + length (commands_for behind ahead).commands) k.takes.mid
        last
    reached = executing k.takes.mid last n other taking.0 (commands_for behind ahead) taking.1
        (omega (arith, as_much_then)) k.takes.happens

    asked_it : HasSentTo k.asked n other (kinds.Want (wanted k.asking.node.learner))
    asked_it = subst (λ (r : ReplicaValue). HasSentTo k.asked n other (kinds.Want (wanted r.node.learner))) same
        asks.asks

  -- ---- one exchange

  module _ (n other : ℕ) (behind ahead : ReplicaValue) (first last : WorldState ReplicaValue)
      (can : CanBeFed m IsText first n other behind ahead)
      (less : executed behind.node.learner < executed ahead.node.learner)
      (k : IsFedOnce m IsText n other behind ahead first last) where
    -- the other node when it is asked
    abbrev serving : KeepsLearner other ahead k.serves.mid
    serving = k.serves.other_rests ahead ((asks n other behind ahead first last can.apart can.up k).only.others other
        (Up ahead) (λ e. can.apart (sym e)) can.other_up)

    keeps : Keeps serving.0 (executed behind.node.learner + 1)
    keeps = subst (λ (l : LearnerValue). Keeps (record serving.0 { node = record serving.0.node { learner = l } })
        (executed behind.node.learner + 1)) (sym serving.2) (record {
          above = omega (arith, can.kept);
          there = omega (arith, less);
        })

    sent_there : SendsIn other n serving.0 (executed behind.node.learner + 1) k.serves.mid k.served
    sent_there = sending k.serves.mid k.served other n serving.0 (record {
      first = executed behind.node.learner + 1;
      offset = (wanted k.asking.node.learner).offset;
    }) serving.1 keeps (subst (λ (e : ℕ). Delivers m IsText other (content.Node n (kinds.Want (record {
      first = e + 1;
      offset = (wanted k.asking.node.learner).offset;
    }))) k.serves.mid k.served) (as_much n other behind ahead first last can.apart can.up k) k.serves.happens)

    sends : HasSentTo k.served other n (kinds.Decided (commands_for behind ahead))
    sends = subst (λ (l : LearnerValue). HasSentTo k.served other n
        (kinds.Decided (decided_from (executed behind.node.learner + 1) l))) serving.2 sent_there.sends

    many : AreEnough ahead (executed behind.node.learner + 1) (commands_for behind ahead)
    many = subst (λ (l : LearnerValue). (length (decided_from (executed behind.node.learner + 1) l).commands ≡ 16)
        ⊎ (executed behind.node.learner + 1 + length (decided_from (executed behind.node.learner + 1) l).commands
        ≡ executed l + 1)) serving.2 sent_there.many

    -- and when the first one has taken the reply
    abbrev served_then : KeepsLearner other sent_there.now k.takes.mid
    served_then = k.takes.other_rests sent_there.now sent_there.is

    fed : GainsCommands m IsText n other behind ahead first last k
    fed =
        let r = reached n other behind ahead first last can.apart can.up k in record {
          asks = asked_it n other behind ahead first last can.apart can.up k;
          sends = sends;
          some = some_of ahead (executed behind.node.learner + 1) (commands_for behind ahead) (omega (arith, less))
              many;
          many = many;
          gains = (r.now, r.is, r.reaches);
          keeps = (
            served_then.0,
            r.only.others other (Up served_then.0) (λ e. can.apart (sym e)) served_then.1,
            served_then.2 ∙ sent_there.learner ∙ serving.2,
          );
        }

  pub exchange_feeds : ExchangesFeed m IsText
  exchange_feeds n other behind ahead first last can less k = fed n other behind ahead first last can less k

  -- ---- several

  -- an exchange takes nothing back
  takes_none : (n other : ℕ) (ahead : ReplicaValue) (first last : WorldState ReplicaValue) → (n ≡ other → ⊥)
      → HasCaughtUp n ahead first → Later n other (IsFed m IsText n other) first last → HasCaughtUp n ahead last
  takes_none n other ahead first last apart has k =
      let f : IsFed m IsText n other k.mid last = k.happens in
      let q : KeepsLearner n has.0 k.mid = k.rests has.0 has.1 in
      let r : ReachesIn n (executed f.behind.node.learner + 1 + length (commands_for f.behind f.ahead).commands)
      f.once.takes.mid last = reached n other f.behind f.ahead k.mid last apart f.up f.once in
      let is : executed f.behind.node.learner ≡ executed has.0.node.learner =
      ap (λ (x : ReplicaValue). executed x.node.learner)
      (one_replica m IsText k.mid (asked_before m IsText k.mid f.once.asked n other f.behind f.once.comes) n f.behind
      q.0 f.up q.1)
      ∙ same_executed q.0.node.learner has.0.node.learner q.2 in
      (r.now, r.is, omega (arith, has.2, is, r.reaches))

  -- once the node has caught up, it stays so
  still_caught : (k n other : ℕ) (ahead : ReplicaValue) (first last : WorldState ReplicaValue) → (n ≡ other → ⊥)
      → HasCaughtUp n ahead first → IsFedAgain m IsText n other k first last → HasCaughtUp n ahead last
  still_caught zero n other ahead first last apart has same =
      subst (λ (w : WorldState ReplicaValue). HasCaughtUp n ahead w) (sym same) has
  still_caught (suc k) n other ahead first last apart has d =
      still_caught k n other ahead d.0 last apart (takes_none n other ahead first d.0 apart has d.1) d.2

  -- when the next exchange begins, both are as they were
  module _ (n other : ℕ) (behind ahead : ReplicaValue) (first mid : WorldState ReplicaValue)
      (can : CanBeFed m IsText first n other behind ahead) (k : Later n other (IsFed m IsText n other) first mid) where
    abbrev exchange : IsFed m IsText n other k.mid mid
    exchange = k.happens

    holds_then : Holds m IsText k.mid
    holds_then = asked_before m IsText k.mid exchange.once.asked n other exchange.behind exchange.once.comes

    same_behind : exchange.behind.node.learner ≡ behind.node.learner
    same_behind =
        let q : KeepsLearner n behind k.mid = k.rests behind can.up in
        ap (λ (r : ReplicaValue). r.node.learner)
        (one_replica m IsText k.mid holds_then n exchange.behind q.0 exchange.up q.1)
        ∙ q.2

    same_ahead : exchange.ahead.node.learner ≡ ahead.node.learner
    same_ahead =
        let q : KeepsLearner other ahead k.mid = k.other_rests ahead can.other_up in
        ap (λ (r : ReplicaValue). r.node.learner)
        (one_replica m IsText k.mid holds_then other exchange.ahead q.0 exchange.other_up q.1)
        ∙ q.2

    can_then : CanBeFed m IsText k.mid n other exchange.behind exchange.ahead
    can_then = record {
      holds = holds_then;
      apart = can.apart;
      up = exchange.up;
      other_up = exchange.other_up;
      kept = let at : exchange.ahead.node.learner.snapshot_position ≡ ahead.node.learner.snapshot_position =
          ap (λ (l : LearnerValue). l.snapshot_position) same_ahead in
          omega (arith, at, same_executed exchange.behind.node.learner behind.node.learner same_behind, can.kept);
    }

  module _ (k n other : ℕ) (behind ahead : ReplicaValue) (first mid last : WorldState ReplicaValue)
      (can : CanBeFed m IsText first n other behind ahead)
      (less : executed behind.node.learner < executed ahead.node.learner)
      (near : executed ahead.node.learner ≤ executed behind.node.learner + suc k * 16)
      (once : IsFedOnce m IsText n other behind ahead first mid) (again : IsFedAgain m IsText n other k mid last)
      (further : (q p : ReplicaValue) → CanBeFed m IsText mid n other q p
      → executed p.node.learner ≤ executed q.node.learner + k * 16 → HasCaughtUp n p last) where
    gain : GainsCommands m IsText n other behind ahead first mid once
    gain = fed n other behind ahead first mid can less once

    abbrev q : ReplicaValue
    q = gain.gains.0

    abbrev p : ReplicaValue
    p = gain.keeps.0

    reaches : executed behind.node.learner + 1 + length (commands_for behind ahead).commands
        ≤ executed q.node.learner + 1
    reaches = gain.gains.2

    as_far : executed p.node.learner ≡ executed ahead.node.learner
    as_far = same_executed p.node.learner ahead.node.learner gain.keeps.2

    can_again : CanBeFed m IsText mid n other q p
    can_again = record {
      holds = once.takes.happens.goes.after;
      apart = can.apart;
      up = gain.gains.1;
      other_up = gain.keeps.1;
      kept = let at : p.node.learner.snapshot_position ≡ ahead.node.learner.snapshot_position =
          ap (λ (l : LearnerValue). l.snapshot_position) gain.keeps.2 in omega (arith, at, can.kept, reaches);
    }

    one_more : HasCaughtUp n ahead last
    one_more = by_many gain.many
      where
        by_many : AreEnough ahead (executed behind.node.learner + 1) (commands_for behind ahead)
            → HasCaughtUp n ahead last
        by_many (inl many) =
            let r = further q p can_again (omega (arith, as_far, near, many, reaches)) in
            (r.0, r.1, omega (arith, r.2, as_far))
        by_many (inr all) =
            still_caught k n other ahead mid last can.apart (q, gain.gains.1, omega (arith, all, reaches)) again

  catches_up : (k n other : ℕ) (behind ahead : ReplicaValue) (first last : WorldState ReplicaValue)
      → CanBeFed m IsText first n other behind ahead
      → executed ahead.node.learner ≤ executed behind.node.learner + k * 16 → IsFedAgain m IsText n other k first last
      → HasCaughtUp n ahead last
  catches_up zero n other behind ahead first last can near same =
      subst (λ (w : WorldState ReplicaValue). HasCaughtUp n ahead w) (sym same) (behind, can.up, omega (arith, near))
  catches_up (suc k) n other behind ahead first last can near d =
      elim (cases_lt (executed behind.node.learner) (executed ahead.node.learner)) [
        | inl less ↦
            let f : IsFed m IsText n other d.1.mid d.0 = d.1.happens in
            let e : executed f.behind.node.learner ≡ executed behind.node.learner =
            same_executed f.behind.node.learner behind.node.learner
            (same_behind n other behind ahead first d.0 can d.1) in
            let a : executed f.ahead.node.learner ≡ executed ahead.node.learner =
            same_executed f.ahead.node.learner ahead.node.learner (same_ahead n other behind ahead first d.0 can d.1) in
            let r = one_more k n other f.behind f.ahead d.1.mid d.0 last
            (can_then n other behind ahead first d.0 can d.1) (omega (arith, e, a, less)) (omega (arith, e, a, near))
            f.once d.2
            (λ q p can_again near_again. catches_up k n other q p d.0 last can_again near_again d.2) in
            (r.0, r.1, omega (arith, r.2, a))
        | inr there ↦ still_caught (suc k) n other ahead first last can.apart (behind, can.up, there) d
      ]

  pub exchanges_catch : ExchangesCatchUp m IsText
  exchanges_catch n other behind ahead k first last can near d = catches_up k n other behind ahead first last can near d

-- ---- by a rejection

module _ (m : Meaning) (IsText : List ℕ → Type 0) (sending : RejectedNodesSend m IsText)
    (executing : SentCommandsAreExecuted m IsText) (n other : ℕ) (nack : Nack) (behind ahead : ReplicaValue)
    (first last : WorldState ReplicaValue) (can : CanBeFed m IsText first n other behind ahead)
    (kept : ahead.node.learner.snapshot_position ≤ nack.executed) (past : nack.executed ≤ executed behind.node.learner)
    (less : nack.executed < executed ahead.node.learner)
    (k : IsFedUnasked m IsText n other nack ahead first last) where
  keeps_rest : Keeps ahead (nack.executed + 1)
  keeps_rest =
      record { above = omega (arith, kept); there = omega (arith, less) }

  sent_rest : SendsIn other n ahead (nack.executed + 1) first k.served
  sent_rest = sending first k.served other n ahead nack can.other_up keeps_rest k.serves

  abbrev taking_rest : KeepsLearner n behind k.takes.mid
  taking_rest = k.takes.rests behind (sent_rest.only.others n (Up behind) can.apart can.up)

  abbrev serving_rest : KeepsLearner other sent_rest.now k.takes.mid
  serving_rest = k.takes.other_rests sent_rest.now sent_rest.is

  reached_rest : ReachesIn n (nack.executed + 1 + length (decided_from (nack.executed + 1) ahead.node.learner).commands)
      k.takes.mid last
  reached_rest = executing k.takes.mid last n other taking_rest.0
      (decided_from (nack.executed + 1) ahead.node.learner) taking_rest.1
      (omega (arith, past, same_executed taking_rest.0.node.learner behind.node.learner taking_rest.2)) k.takes.happens

  fed_unasked : GainsUnasked m IsText n other nack ahead first last k
  fed_unasked = record {
    sends = sent_rest.sends;
    some = some_of ahead (nack.executed + 1) (decided_from (nack.executed + 1) ahead.node.learner) (omega (arith, less))
        sent_rest.many;
    many = sent_rest.many;
    gains = (reached_rest.now, reached_rest.is, reached_rest.reaches);
    keeps = (
      serving_rest.0,
      reached_rest.only.others other (Up serving_rest.0) (λ e. can.apart (sym e)) serving_rest.1,
      serving_rest.2 ∙ sent_rest.learner,
    );
  }

pub rejection_feeds : (m : Meaning) (IsText : List ℕ → Type 0) → RejectedNodesSend m IsText
    → SentCommandsAreExecuted m IsText → RejectionsFeed m IsText
rejection_feeds m IsText sending executing n other nack behind ahead first last can kept past less k =
    fed_unasked m IsText sending executing n other nack behind ahead first last can kept past less k
