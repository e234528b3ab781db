-- Exchanges, one after another, until a node has executed more.
use Rattle.std.proofs.Common.{◌≡◌, ◌∙◌, inl, inr, ℕ, ◌+◌, ◌*◌, ◌<◌, ◌≤◌, true, List, length, Some, None, Option}
use Rattle.std.proofs.Common.{Contains, refl, ap, sym, subst, arith}
use Rattle.lk_types.specs.Ballots.{zero_ballot}
use Rattle.lk_types.specs.declared.command.Request.{Request as RequestValue}
use Rattle.lk_types.specs.declared.genesis.Genesis.{Genesis}
use Rattle.lk_messages.specs.Grammar.{spelling}
use Rattle.lk_messages.specs.declared.message.Nack.{Nack}
use Rattle.lk_messages.specs.declared.message.NodeMessage.{NodeMessage}
use Rattle.lk_messages.specs.declared.message.NodeMessage.TheVariants as kinds
use Rattle.lk_agreement_laws.specs.Datagrams.{said_by}
use Rattle.lk_agreement_laws.specs.declared.party.Party.TheVariants as party
use Rattle.lk_members.specs.Ports.{is_named}
use Rattle.lk_members.specs.Rosters.{is_member}
use Rattle.lk_state.specs.Meanings.{Meaning}
use Rattle.lk_state.specs.States.{WholeValue}
use Rattle.lk_learner.specs.Learners.{GatheredValue, LearnerValue, executed, gathered_bytes}
use Rattle.lk_node.specs.Nudging.{least_ballot}
use Rattle.lk_progress.proofs.Electing.{named_by}
use Rattle.lk_progress.proofs.Proposing.{next_set}
use Rattle.lk_replica.specs.ReplicaValue.{ReplicaValue}
use Rattle.lk_sim.specs.WorldStates.{WorldState}
use Rattle.lk_sim.specs.Traces.{asked_in}
use Rattle.lk_sim_nodes.specs.declared.sim_node.RunState.TheVariants.{Up}
use Rattle.lk_world_feeding.specs.Gathering.{count_of, position_of}
use Rattle.lk_world_progress.proofs.Stepping.{one_replica}
use Rattle.lk_world_progress.specs.Balloting.{HasSentTo}
use Rattle.lk_world_progress.specs.Stepping.{IsUpAs}
use Rattle.lk_world_leftovers.specs.Fixed.{NobodyChanges, NodesKnowMembers}
use Rattle.lk_healing.proofs.Gains.{gains_same, gains_still, rests_both, rests_itself, same_reach}
use Rattle.lk_healing.proofs.Nudges.{Nudged, Remembers, was_nudged}
use Rattle.lk_healing.proofs.Waits.{some_number}
use Rattle.lk_healing.specs.Feeds.{HasExchanged, HasGained, HasGatheredMore, MayFeed, MayGain, RestsBut}
use Rattle.lk_healing.specs.Tellings.{HasTold, MayTell}
use Rattle.lk_healing.specs.declared.progress.Progress.{Progress}

abbrev pub as_nack : ℕ → Nack
as_nack j = record { ballot = least_ballot; promised = zero_ballot; executed = j }

-- ---- what stays

pub sent_still : (old new : WorldState ReplicaValue) (b a n j : ℕ) (x : NodeMessage) → RestsBut b a old new
    → HasSentTo old n j x → HasSentTo new n j x
sent_still old new b a n j x rests c = subst (λ (g : Genesis). Contains new.sent
    (record { from = party.Node n; to = party.Node j; bytes = spelling (said_by g n x) })) (sym rests.genesis)
    (rests.sent _ c)

pub nobody_changes : (old new : WorldState ReplicaValue) → asked_in new.trace ≡ asked_in old.trace → NobodyChanges old
    → NobodyChanges new
nobody_changes old new asked none q c =
    none q (subst (λ (l : List RequestValue). Contains l q) asked c)

-- ---- who may tell

module _ (m : Meaning) (IsText : List ℕ → Type 0) where
  pub named_there : NodesKnowMembers m IsText → (w : WorldState ReplicaValue) (last n j : ℕ) (r : ReplicaValue)
      → NobodyChanges w → MayGain m IsText w last n r → is_member j w.genesis.members ≡ true
      → is_named j r.node.learner.whole.roster.sets ≡ true
  named_there law w last n j r changes k member =
      let knows = law w n r k.holds changes k.up in
      named_by r.node.learner.whole.roster.sets w.genesis.members j
      (next_set r.node.learner.whole.roster w.genesis.members knows.members) member

  pub may_tell : NodesKnowMembers m IsText →
      (w : WorldState ReplicaValue) (last n j : ℕ) (r q : ReplicaValue) → NobodyChanges w → (j ≡ n → ⊥)
      → MayGain m IsText w last n r → MayGain m IsText w last j q → MayTell w n
  may_tell law w last n j r q changes apart k l = record {
    replica = r;
    up = k.up;
    idle = k.idle;
    other = j;
    some = some_number m IsText w l.holds j q l.up;
    apart = apart;
    named = named_there law w last n j r changes k l.member;
  }

  -- ---- the loop

  module _ (b a : ℕ) (told : Progress) (start : WorldState ReplicaValue) (k : MayFeed m IsText start b a told) where
    -- so many exchanges have gathered at least so many parts
    pub record FeedsOn (i : ℕ) (now : WorldState ReplicaValue) : Type 0 where
      pub may : MayFeed m IsText now b a told
      pub last : may.last ≡ k.last
      pub reach : executed may.behind.node.learner ≡ executed k.behind.node.learner
      pub learner : may.ahead.node.learner ≡ k.ahead.node.learner
      pub far : i * 1024 ≤ count_of may.behind
      pub rests : RestsBut b a start now

    -- it is fed as the one replica that it is
    pub one_behind : (l : MayFeed m IsText start b a told)
        → executed l.behind.node.learner ≡ executed k.behind.node.learner
    one_behind l = ap (λ (y : ReplicaValue). executed y.node.learner)
        (one_replica m IsText start k.own.holds b l.behind k.behind l.own.up k.own.up)

    pub begins_feeding : FeedsOn 0 start
    begins_feeding = record {
      may = k;
      last = refl;
      reach = refl;
      learner = refl;
      far = omega arith;
      rests = rests_itself b a start;
    }

    -- it does not go on for ever
    pub feeding_ends : (i : ℕ) (now : WorldState ReplicaValue) → FeedsOn i now → 64 ≤ i → ⊥
    feeding_ends i now f enough = by_gathered f.may.behind.node.learner.gathered refl
      where
        by_gathered : (o : Option GatheredValue) → f.may.behind.node.learner.gathered ≡ o → ⊥
        by_gathered None is = omega (arith, f.far, enough, ap gathered_bytes is)
        by_gathered (Some g) is =
            let within = f.may.open_for g is in
            omega (arith, f.far, enough, ap gathered_bytes is, within.1, f.may.room g is)

    module _ (i : ℕ) (now mid : WorldState ReplicaValue) (f : FeedsOn i now)
        (e : HasExchanged m IsText b a told now mid f.may) where
      changes : NobodyChanges mid
      changes = nobody_changes now mid e.rests.asked f.may.changes

      pub may_tell_then : NodesKnowMembers m IsText → MayTell mid b
      may_tell_then law = may_tell law mid
          f.may.last b a e.after e.other_after changes (λ is. f.may.apart (sym is)) e.own e.other

      module _ (new : WorldState ReplicaValue) (p : Progress) (t : HasTold m IsText b mid new p) where
        n : Nudged m IsText mid new b e.after e.own.up e.own.idle t.nudged
        n = was_nudged m IsText mid new b e.after e.own.up e.own.idle t.nudged

        tells : p.nack.executed ≡ executed e.after.node.learner
        tells = ap (λ (x : Nack). x.executed) (t.tells e.after e.own.up)

        reach : executed n.after.node.learner ≡ executed e.after.node.learner
        reach = same_reach m IsText e.after.node n.after.node n.stays

        other_up : IsUpAs new a e.other_after
        other_up = n.others a (Up e.other_after) (λ is. f.may.apart (sym is)) e.other.up

        own : MayGain m IsText new f.may.last b n.after
        own = gains_still m IsText mid new f.may.last b e.after n.after e.own n.stays t.nudged.after n.is n.genesis

        other : MayGain m IsText new f.may.last a e.other_after
        other = gains_same m IsText mid new f.may.last a e.other_after e.other t.nudged.after other_up n.genesis

        other_rested : (q : ReplicaValue) → IsUpAs new a q → IsUpAs mid a q
        other_rested q up = subst (λ (y : ReplicaValue). IsUpAs mid a y)
            (one_replica m IsText new t.nudged.after a e.other_after q other_up up) e.other.up

        rests_now : RestsBut b a now new
        rests_now = rests_both b a now mid new e.rests (n.rests b a (inl refl))

        -- it has executed more
        pub has_gained : executed k.behind.node.learner < p.nack.executed → HasGained m IsText b a told start new k
        has_gained more = record {
          after = n.after;
          own = subst (λ (j : ℕ). MayGain m IsText new j b n.after) f.last own;
          gains = omega (arith, more, tells, reach);
          other_after = e.other_after;
          other = subst (λ (j : ℕ). MayGain m IsText new j a e.other_after) f.last other;
          learner = e.learner ∙ f.learner;
          other_rested = λ q up. e.other_rested q (other_rested q up);
          rests = rests_both b a start now new f.rests rests_now;
        }

        -- it has gathered more
        module _ (g : HasGatheredMore f.may.behind f.may.ahead e.after) where
          forgot : Remembers e.after.node → ⊥
          forgot is = omega (
            arith,
            is,
            g.before,
            f.may.remembers,
            g.more,
            ap gathered_bytes g.is,
          )

          gathered : n.after.node.learner.gathered ≡ Some g.gathered
          gathered = n.kept forgot ∙ g.is

          as_much : executed e.after.node.learner ≡ executed f.may.behind.node.learner
          as_much = ap (λ (w : WholeValue). w.roster.executed) g.whole

          one : (x : GatheredValue) → n.after.node.learner.gathered ≡ Some x → g.gathered ≡ x
          one x is = (let both : Some g.gathered ≡ Some x = sym gathered ∙ is in cc both)

          feeds_on_more : FeedsOn (i + 1) new
          feeds_on_more = record {
            may = record {
              apart = f.may.apart;
              changes = nobody_changes now new rests_now.asked f.may.changes;
              last = f.may.last;
              behind = n.after;
              own = own;
              ahead = e.other_after;
              other = other;
              less = omega (arith, reach, as_much, f.may.less, ap (λ (l : LearnerValue). executed l) e.learner);
              tells = f.may.tells ∙ sym (ap (λ (l : LearnerValue). as_nack (executed l)) e.learner);
              cluster = f.may.cluster ∙ ap (λ (x : Genesis). x.cluster) (sym rests_now.genesis);
              sent = sent_still now new b a a b (kinds.Nack told.nack) rests_now f.may.sent;
              rested = n.rested;
              other_rested = λ q up. e.other_rested q (other_rested q up);
              open_for = λ x is. subst (λ (y : GatheredValue). (y.position ≡ position_of e.other_after)
                  × (length y.bytes < y.total)) (one x is) (
                    g.position ∙ sym (ap (λ (l : LearnerValue). l.snapshot_position) e.learner),
                    g.short,
                  );
              room = λ x is. subst (λ (y : GatheredValue). y.total ≤ 65536) (one x is) g.room;
              remembers = n.remembers;
            };
            last = f.last;
            reach = reach ∙ as_much ∙ f.reach;
            learner = e.learner ∙ f.learner;
            far = omega (arith, f.far, g.more, ap gathered_bytes gathered);
            rests = rests_both b a start now new f.rests rests_now;
          }

        pub feeds_on : p.nack.executed ≤ executed k.behind.node.learner → FeedsOn (i + 1) new
        feeds_on same = elim e.gains [
          | inl more ↦ absurd (omega (arith, more, same, tells, f.reach))
          | inr more ↦ feeds_on_more more
        ]
