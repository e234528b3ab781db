-- A node is fed until it has executed as much as another one.
use Rattle.std.proofs.Common.{◌≡◌, ◌∙◌, inl, inr, ℕ, ◌+◌, ◌<◌, ◌≤◌, List, None}
use Rattle.std.proofs.Common.{refl, ap, sym, subst, arith}
use Rattle.lk_types.specs.declared.genesis.Genesis.{Genesis}
use Rattle.lk_messages.specs.declared.message.Nack.{Nack}
use Rattle.lk_messages.specs.declared.message.NodeMessage.TheVariants as kinds
use Rattle.lk_state.specs.Meanings.{Meaning}
use Rattle.lk_learner.specs.Learners.{LearnerValue, executed}
use Rattle.lk_node.specs.Nudging.{progress}
use Rattle.lk_replica.specs.ReplicaValue.{ReplicaValue}
use Rattle.lk_sim.specs.WorldStates.{WorldState}
use Rattle.lk_sim_nodes.specs.declared.sim_node.RunState.TheVariants.{Up}
use Rattle.lk_world_progress.proofs.Stepping.{one_replica}
use Rattle.lk_world_progress.specs.Balloting.{HasSentTo}
use Rattle.lk_world_progress.specs.Delivering.{IsRested}
use Rattle.lk_world_progress.specs.Stepping.{IsUpAs}
use Rattle.lk_world_leftovers.specs.Fixed.{NodesKnowMembers}
use Rattle.lk_healing.proofs.Feeds.{as_nack, may_tell, named_there, nobody_changes, sent_still}
use Rattle.lk_healing.proofs.Gains.{gains_same, gains_still, rests_both, rests_itself, same_reach}
use Rattle.lk_healing.proofs.Nudges.{Nudged, Remembers, other_told, tells_again, was_nudged}
use Rattle.lk_healing.proofs.Questions.{executed_short}
use Rattle.lk_healing.proofs.Waits.{some_number}
use Rattle.lk_healing.specs.Feeds.{HasGained, MayFeed, MayGain, RestsBut}
use Rattle.lk_healing.specs.Gaps.{HasClosed, HasComeOn, HasToldAnew, MayClose}
use Rattle.lk_healing.specs.Tellings.{HasTold, MayTell}
use Rattle.lk_healing.specs.declared.progress.Progress.{Progress}

module _ (m : Meaning) (IsText : List ℕ → Type 0) where
  -- ---- two nudges

  pub tells_anew : (old mid : WorldState ReplicaValue) (n : ℕ) (p : Progress) (k : MayTell old n)
      → HasTold m IsText n old mid p → MayTell mid n
  tells_anew old mid n p k t =
      tells_again m IsText old mid n k.replica k.up k.idle t.nudged k.other k.some k.apart k.named

  -- they have thrown away what was gathered, and changed nothing else
  pub record Anew (b a last : ℕ) (r q : ReplicaValue) (old new : WorldState ReplicaValue) (reached : ℕ) : Type 0 where
    pub after : ReplicaValue
    pub own : MayGain m IsText new last b after
    pub reach : executed after.node.learner ≡ reached
    pub same : executed after.node.learner ≡ executed r.node.learner
    pub none : after.node.learner.gathered ≡ None
    pub remembers : Remembers after.node
    pub rested : IsRested new b
    pub other : MayGain m IsText new last a q
    pub other_rested : IsRested new a
    pub rests : RestsBut b a old new

  pub anew : (b a last : ℕ) (r q : ReplicaValue) (old new : WorldState ReplicaValue) (reached : ℕ) → (b ≡ a → ⊥)
      → MayGain m IsText old last b r → MayGain m IsText old last a q → IsRested old a
      → HasToldAnew m IsText b old new reached → Anew b a last r q old new reached
  anew b a last r q old new reached apart k l rested t =
      let one : Nudged m IsText old t.mid b r k.up k.idle t.before.nudged =
      was_nudged m IsText old t.mid b r k.up k.idle t.before.nudged in
      let between : MayGain m IsText t.mid last b one.after =
      gains_still m IsText old t.mid last b r one.after k one.stays t.before.nudged.after one.is one.genesis in
      let two : Nudged m IsText t.mid new b one.after between.up between.idle t.after.nudged =
      was_nudged m IsText t.mid new b one.after between.up between.idle t.after.nudged in
      let first : executed one.after.node.learner ≡ executed r.node.learner =
      same_reach m IsText r.node one.after.node one.stays in
      let second : executed two.after.node.learner ≡ executed one.after.node.learner =
      same_reach m IsText one.after.node two.after.node two.stays in
      let mid_up : IsUpAs t.mid a q = one.others a (Up q) (λ is. apart (sym is)) l.up in
      let other_up : IsUpAs new a q = two.others a (Up q) (λ is. apart (sym is)) mid_up in
      let genesis : new.genesis ≡ old.genesis = two.genesis ∙ one.genesis in record {
        after = two.after;
        own = gains_still m IsText t.mid new last b one.after two.after between two.stays t.after.nudged.after two.is
            two.genesis;
        reach = second ∙ sym (ap (λ (x : Nack). x.executed) (t.after.tells one.after between.up)) ∙ sym t.is;
        same = second ∙ first;
        none = two.none one.remembers;
        remembers = two.remembers;
        rested = two.rested;
        other = gains_same m IsText old new last a q l t.after.nudged.after other_up genesis;
        other_rested = λ p up. rested p (subst (λ (y : ReplicaValue). IsUpAs old a y)
            (one_replica m IsText new t.after.nudged.after a q p other_up up) l.up);
        rests = rests_both b a old t.mid new (one.rests b a (inl refl)) (two.rests b a (inl refl));
      }

  -- ---- the loop

  module _ (b a : ℕ) (start : WorldState ReplicaValue) (k : MayClose m IsText start b a) where
    -- the node has executed so many positions, and the other one has told how many it has
    pub record IsClosing (told : Progress) (own : ℕ) (now : WorldState ReplicaValue) : Type 0 where
      pub behind : ReplicaValue
      pub own_may : MayGain m IsText now k.last b behind
      pub reach : executed behind.node.learner ≡ own
      pub grows : executed k.behind.node.learner ≤ own
      pub ahead : ReplicaValue
      pub other : MayGain m IsText now k.last a ahead
      pub same : executed ahead.node.learner ≡ executed k.ahead.node.learner
      pub tells : told.nack ≡ progress ahead.node
      pub cluster : told.cluster ≡ now.genesis.cluster
      pub sent : HasSentTo now a b (kinds.Nack told.nack)
      pub rested : IsRested now b
      pub other_rested : IsRested now a
      pub none : behind.node.learner.gathered ≡ None
      pub remembers : Remembers behind.node
      pub rests : RestsBut b a start now

    -- what the other one tells
    pub told_reach : (told : Progress) (own : ℕ) (now : WorldState ReplicaValue) (c : IsClosing told own now)
        → told.nack.executed ≡ executed c.ahead.node.learner
    told_reach told own now c = ap (λ (x : Nack). x.executed) c.tells

    -- ---- it begins

    pub other_may_tell : NodesKnowMembers m IsText → MayTell start a
    other_may_tell law =
        may_tell m IsText law start k.last a b k.ahead k.behind k.changes k.apart k.other k.own

    module _ (law : NodesKnowMembers m IsText) (one : WorldState ReplicaValue) (told : Progress)
        (t : HasTold m IsText a start one told) where
      n : Nudged m IsText start one a k.ahead k.other.up k.other.idle t.nudged
      n = was_nudged m IsText start one a k.ahead k.other.up k.other.idle t.nudged

      own_one : MayGain m IsText one k.last b k.behind
      own_one = gains_same m IsText start one k.last b k.behind k.own t.nudged.after
          (n.others b (Up k.behind) k.apart k.own.up) n.genesis

      other_one : MayGain m IsText one k.last a n.after
      other_one = gains_still m IsText start one k.last a k.ahead n.after k.other n.stays t.nudged.after n.is n.genesis

      rests_one : RestsBut b a start one
      rests_one = n.rests b a (inr refl)

      pub own_may_tell : MayTell one b
      own_may_tell = may_tell m IsText law one k.last b a k.behind n.after
          (nobody_changes start one rests_one.asked k.changes) (λ is. k.apart (sym is)) own_one other_one

      pub begins_closing : (two : WorldState ReplicaValue) (own : ℕ) → HasToldAnew m IsText b one two own
          → IsClosing told own two
      begins_closing two own again =
          let w : Anew b a k.last k.behind n.after one two own =
          anew b a k.last k.behind n.after one two own k.apart own_one other_one n.rested again in
          let same : executed n.after.node.learner ≡ executed k.ahead.node.learner =
          same_reach m IsText k.ahead.node n.after.node n.stays in
          let is : told.nack ≡ progress k.ahead.node = t.tells k.ahead k.other.up in record {
            behind = w.after;
            own_may = w.own;
            reach = w.reach;
            grows = omega (arith, w.reach, w.same);
            ahead = n.after;
            other = w.other;
            same = same;
            tells = is ∙ sym (ap as_nack same);
            cluster = t.cluster ∙ ap (λ (g : Genesis). g.cluster) (sym w.rests.genesis);
            sent = sent_still one two b a a b (kinds.Nack told.nack) w.rests
                (subst (λ (x : Nack). HasSentTo one a b (kinds.Nack x)) (sym is)
                (other_told m IsText start one a k.ahead k.other.up k.other.idle t.nudged b
                (some_number m IsText start k.own.holds b k.behind k.own.up) k.apart
                (named_there m IsText law start k.last a b k.ahead k.changes k.other k.own.member)));
            rested = w.rested;
            other_rested = w.other_rested;
            none = w.none;
            remembers = w.remembers;
            rests = rests_both b a start one two rests_one w.rests;
          }

    -- ---- one gap less

    module _ (told : Progress) (own : ℕ) (now : WorldState ReplicaValue) (c : IsClosing told own now) where
      pub may_feed : own < told.nack.executed
          → (f : MayFeed m IsText now b a told) × (executed f.behind.node.learner ≡ own)
      may_feed less = (
        record {
          apart = k.apart;
          changes = nobody_changes start now c.rests.asked k.changes;
          last = k.last;
          behind = c.behind;
          own = c.own_may;
          ahead = c.ahead;
          other = c.other;
          less = omega (arith, less, c.reach, told_reach told own now c);
          tells = c.tells;
          cluster = c.cluster;
          sent = c.sent;
          rested = c.rested;
          other_rested = c.other_rested;
          open_for = λ g is. absurd (cc (sym c.none ∙ is));
          room = λ g is. absurd (cc (sym c.none ∙ is));
          remembers = c.remembers;
        },
        c.reach,
      )

      pub comes_on : (less : own < told.nack.executed) (new : WorldState ReplicaValue)
          → HasGained m IsText b a told now new (may_feed less).0 → HasComeOn m IsText b a start new k
      unfolding may_feed
      comes_on less new e = record {
        after = e.after;
        own = e.own;
        gains = omega (arith, c.grows, c.reach, e.gains);
        other_after = e.other_after;
        other = e.other;
        same = ap (λ (l : LearnerValue). executed l) e.learner ∙ c.same;
        rests = rests_both b a start now new c.rests e.rests;
      }

      pub has_closed : told.nack.executed ≤ own → HasClosed m IsText b a start now own k
      has_closed enough = record {
        after = c.behind;
        own = c.own_may;
        reach = c.reach;
        grows = c.grows;
        closes = omega (arith, enough, told_reach told own now c, c.same);
        other_after = c.ahead;
        other = c.other;
        same = c.same;
        rests = c.rests;
      }

    -- ---- one gap after another

    -- so many gains have brought it on so far at least
    pub record IsGoing (i : ℕ) (now : WorldState ReplicaValue) : Type 0 where
      pub behind : ReplicaValue
      pub own : MayGain m IsText now k.last b behind
      pub grows : executed k.behind.node.learner + i ≤ executed behind.node.learner
      pub ahead : ReplicaValue
      pub other : MayGain m IsText now k.last a ahead
      pub same : executed ahead.node.learner ≡ executed k.ahead.node.learner
      pub rests : RestsBut b a start now

    pub begins_going : IsGoing 0 start
    begins_going = record {
      behind = k.behind;
      own = k.own;
      grows = omega arith;
      ahead = k.ahead;
      other = k.other;
      same = refl;
      rests = rests_itself b a start;
    }

    abbrev pub may_still : (i : ℕ) (now : WorldState ReplicaValue) → IsGoing i now → MayClose m IsText now b a
    may_still i now s = record {
      apart = k.apart;
      changes = nobody_changes start now s.rests.asked k.changes;
      last = k.last;
      behind = s.behind;
      own = s.own;
      ahead = s.ahead;
      other = s.other;
    }

    pub goes_on : (i : ℕ) (now new : WorldState ReplicaValue) (s : IsGoing i now)
        → HasComeOn m IsText b a now new (may_still i now s) → IsGoing (i + 1) new
    goes_on i now new s e = record {
      behind = e.after;
      own = e.own;
      grows = omega (arith, s.grows, e.gains);
      ahead = e.other_after;
      other = e.other;
      same = e.same ∙ s.same;
      rests = rests_both b a start now new s.rests e.rests;
    }

    pub gone : (i : ℕ) (now new : WorldState ReplicaValue) (reached : ℕ) (s : IsGoing i now)
        → HasClosed m IsText b a now new reached (may_still i now s) → HasClosed m IsText b a start new reached k
    gone i now new reached s e = record {
      after = e.after;
      own = e.own;
      reach = e.reach;
      grows = omega (arith, s.grows, e.grows);
      closes = omega (arith, s.same, e.closes);
      other_after = e.other_after;
      other = e.other;
      same = e.same ∙ s.same;
      rests = rests_both b a start now new s.rests e.rests;
    }

    -- it does not go on for ever
    pub going_ends : (i : ℕ) (now : WorldState ReplicaValue) → IsGoing i now → 281474976710657 ≤ i → ⊥
    going_ends i now s enough =
        let short = executed_short m IsText now s.own.holds b s.behind s.own.up in
        omega (arith, short, s.grows, enough)
