-- A node of a world that was asked sends what it has executed more, and the one that asks takes commands.
use Rattle.std.proofs.Common.{◌≡◌, ◌∙◌, ◌⊎◌, inl, ℕ, suc, ◌+◌, ◌-◌, ◌<◌, ◌≤◌, ◌++◌, true, List, []}
use Rattle.std.proofs.Common.{◌∷◌, length}
use Rattle.std.proofs.Common.{refl, ap, sym, subst, arith}
use Rattle.lk_types.specs.declared.genesis.Genesis.{Genesis}
use Rattle.lk_store_format.specs.Values.{HeaderValue}
use Rattle.lk_messages.specs.Grammar.{IsMessage, Spells, spelling}
use Rattle.lk_messages.specs.Values.{DecidedValue}
use Rattle.lk_messages.specs.declared.message.Content.{Content}
use Rattle.lk_messages.specs.declared.message.Content.TheVariants as content
use Rattle.lk_messages.specs.declared.message.Nack.{Nack}
use Rattle.lk_messages.specs.declared.message.NodeMessage.{NodeMessage}
use Rattle.lk_messages.specs.declared.message.NodeMessage.TheVariants as kinds
use Rattle.lk_state.specs.Meanings.{Meaning}
use Rattle.lk_learner.specs.Learners.{LearnerValue, decided_from, executed, wanted}
use Rattle.lk_node_interface.specs.Envelopes.{batch_of, datagram_of}
use Rattle.lk_node_interface.specs.Outboxes.{OutboxValue}
use Rattle.lk_node_interface.specs.Saying.{saying}
use Rattle.lk_members.specs.Rosters.{is_member}
use Rattle.lk_node.specs.Beginning.{greatest_round}
use Rattle.lk_node.specs.Leavings.{header_of}
use Rattle.lk_node.specs.NodeValue.{NodeValue}
use Rattle.lk_node.specs.Telling.{envelope_to}
use Rattle.lk_progress.specs.Feeding.{MayServe}
use Rattle.lk_progress.specs.Hearing.{Takes}
use Rattle.lk_replica.specs.ReplicaValue.{ReplicaValue}
use Rattle.lk_sim.specs.WorldStates.{WorldState}
use Rattle.lk_sim.specs.declared.event.Event.TheVariants as event
use Rattle.lk_sim_nodes.specs.declared.sim_node.RunState.TheVariants.{Up}
use Rattle.lk_world_feeding.proofs.Knowing.{may_serve}
use Rattle.lk_world_progress.proofs.Balloting.{found_has}
use Rattle.lk_world_progress.proofs.Delivering.{HeardIt, TakesFrom, found_as, heard_from, heard_it}
use Rattle.lk_world_progress.proofs.Stepping.{has_header, one_replica}
use Rattle.lk_world_progress.specs.Delivering.{Delivers, Hears, IsRested}
use Rattle.lk_world_progress.specs.Stepping.{GoesWell, Holds, IsFound, IsUpAs}
use Rattle.lk_world_leftovers.specs.Lagging.{IsFedBy, IsFedByIn, LaggingCandidateIsFed}
use Rattle.lk_world_leftovers.specs.Persisting.{Contends}
use Rattle.lk_healing.proofs.Gains.{gains_same, gains_still, rests_both, stays_as, two_contend}
use Rattle.lk_healing.proofs.Polls.{hears_there}
use Rattle.lk_healing.proofs.Posts.{all_stand}
use Rattle.lk_healing.proofs.Questions.{Asked, delivery_rests_but, was_asked}
use Rattle.lk_healing.proofs.Replies.{SendsAlone, sent_writes, want_sends}
use Rattle.lk_healing.proofs.Rests.{WritesNothing, delivery_rests}
use Rattle.lk_healing.proofs.Rounds.{decided_keeps, keeps_round}
use Rattle.lk_healing.specs.Feeds.{HasExchanged, HasGatheredMore, MayFeed, MayGain, RestsBut, places_from}
use Rattle.lk_healing.specs.Polls.{StandAt}
use Rattle.lk_healing.specs.declared.progress.Progress.{Progress}

module _ (m : Meaning) (IsText : List ℕ → Type 0) (b a : ℕ) (told : Progress) (old : WorldState ReplicaValue)
    (k : MayFeed m IsText old b a told) (mid : WorldState ReplicaValue)
    (h : Hears m IsText b (content.Node a (kinds.Nack told.nack)) old mid) (served : WorldState ReplicaValue)
    (goes : GoesWell m IsText mid (event.Deliver (suc (length old.sent))) served) where
  abbrev pub r : ReplicaValue
  r = k.behind

  abbrev pub q : ReplicaValue
  q = k.ahead

  abbrev pub want : NodeMessage
  want = kinds.Want (wanted k.behind.node.learner)

  pub asked : Asked m IsText b a told old k mid h
  asked = was_asked m IsText b a told old k mid h

  pub hears : Hears m IsText a (content.Node b want) mid served
  hears = hears_there m IsText a (suc (length old.sent)) (content.Node b want) mid served asked.stands goes

  pub t : TakesFrom m IsText a (content.Node b want) mid served
  t = heard_from m IsText a (content.Node b want) mid served hears

  -- whoever takes a step at it starts as the replica that it was
  starts : (start : NodeValue) → IsFound q start → start ≡ q.node
  starts start found = found.rests (asked.other_rested q asked.other.up)

  start_is : t.start ≡ q.node
  start_is = starts t.start (found_as m IsText a (content.Node b want) mid served q hears.goes.before asked.other.up t)

  pub takes : Takes m IsText q.node (content.Node b want) t.last t.out
  takes = subst (λ (node : NodeValue). Takes m IsText node (content.Node b want) t.last t.out) start_is t.takes

  pub serves : MayServe q.node.learner
  serves = may_serve m IsText mid asked.other.holds a q asked.other.up

  header : q.node.header ≡ header_of mid.genesis a
  header = has_header m IsText mid asked.other.holds a q asked.other.up

  pub own_up : IsUpAs served b asked.asking
  own_up = t.others b (Up asked.asking) k.apart asked.own.up

  -- a message of it that fits is spelled by its envelope
  pub spelled : (x : NodeMessage) → IsMessage (saying q.node.header x)
      → Spells (record { cluster = served.genesis.cluster; content = content.Node a x })
      (spelling (saying q.node.header x))
  spelled x fits = subst (λ (g : Genesis). Spells (record { cluster = g.cluster; content = content.Node a x })
      (spelling (saying q.node.header x))) (sym t.genesis)
      (subst (λ (w : HeaderValue). Spells (record { cluster = w.cluster; content = content.Node w.node x })
      (spelling (saying q.node.header x))) header (fits, refl))

  -- it has written nothing
  module _ (same : t.last ≡ q.node) (quiet : (last : NodeValue) (out : OutboxValue)
      → Takes m IsText q.node (content.Node b want) last out → WritesNothing q.node last out) where
    other_after_is : t.after.node ≡ q.node
    other_after_is = t.left.rests (quiet t.last t.out takes).rebase ∙ same

    other_served : MayGain m IsText served k.last a t.after
    other_served = gains_still m IsText mid served k.last a q t.after asked.other
        (stays_as q.node t.after.node other_after_is) hears.goes.after t.is t.genesis

    other_rested : IsRested served a
    other_rested = delivery_rests m IsText a (content.Node b want) mid served q asked.other.up hears
        (λ start last out found taken.
        let is : start ≡ q.node = starts start found in
        let w = quiet last out
        (subst (λ (node : NodeValue). Takes m IsText node (content.Node b want) last out) is taken) in record {
          entries = w.entries;
          sync = w.sync;
          rebase = w.rebase;
          reach = w.reach ∙ ap (λ (node : NodeValue). executed node.learner) (sym is);
          snapshot = w.snapshot ∙ ap (λ (node : NodeValue). node.acceptor.state.snapshot_position) (sym is);
        })

    pub rests_served : RestsBut b a old served
    rests_served = rests_both b a old mid served asked.rests
        (delivery_rests_but m IsText a b a (content.Node b want) mid served (λ j not_b not_a. not_a) hears)

    -- whatever else the first node takes
    pub exchanged : (new : WorldState ReplicaValue) → Holds m IsText new → RestsBut b a served new
        → IsUpAs new a t.after
        → (after : ReplicaValue) → MayGain m IsText new k.last b after
        → (executed k.behind.node.learner < executed after.node.learner) ⊎ HasGatheredMore k.behind k.ahead after
        → HasExchanged m IsText b a told old new k
    exchanged new holds rests other_up after own gains = record {
      after = after;
      own = own;
      gains = gains;
      other_after = t.after;
      other = gains_same m IsText served new k.last a t.after other_served holds other_up rests.genesis;
      learner = ap (λ (node : NodeValue). node.learner) other_after_is;
      other_rested = λ p up. other_rested p
          (subst (λ (y : ReplicaValue). IsUpAs served a y)
          (one_replica m IsText new holds a t.after p other_up up) t.is);
      rests = rests_both b a old served new rests_served rests;
    }

  -- a node that contends by itself may gain
  pub own_from : (new : WorldState ReplicaValue) (e : ℕ) (c : Contends m IsText new b e e [] k.last) → e ≤ k.last
      → greatest_round c.candidate.node < 281474976710656 → new.genesis ≡ old.genesis
      → MayGain m IsText new k.last b c.candidate
  own_from new e c low round genesis = record {
    holds = c.holds;
    member = subst (λ (g : Genesis). is_member b g.members ≡ true) (sym genesis) k.own.member;
    up = c.up;
    idle = c.idle;
    waiting = c.waiting;
    known = c.known;
    near = c.near;
    within = omega (arith, c.reach, low);
    pairs = c.pairs;
    votes = c.votes;
    round = round;
  }

  -- ---- commands

  abbrev commands : DecidedValue
  commands = decided_from (executed k.behind.node.learner + 1) k.ahead.node.learner

  module _ (kept : k.ahead.node.learner.snapshot_position ≤ executed k.behind.node.learner) where
    sends : (last : NodeValue) (out : OutboxValue) → Takes m IsText q.node (content.Node b want) last out
        → SendsAlone q.node last b (executed r.node.learner + 1) out
    sends last out taken = want_sends m IsText q.node last b (wanted r.node.learner) out k.other.idle
        (omega (arith, kept)) (omega (arith, k.less)) taken

    quiet : (last : NodeValue) (out : OutboxValue) → Takes m IsText q.node (content.Node b want) last out
        → WritesNothing q.node last out
    quiet last out taken = sent_writes q.node last b (executed r.node.learner + 1) out (sends last out taken)

    sent : SendsAlone q.node t.last b (executed r.node.learner + 1) t.out
    sent = sends t.last t.out takes

    abbrev pub answer : List Content
    answer = content.Node a (kinds.Decided commands) ∷ []

    pub stand : StandAt served b (places_from (length mid.sent) (length served.sent - length mid.sent)) answer
    stand = all_stand served b (datagram_of a (envelope_to q.node (kinds.Decided commands) b) ∷ []) mid.sent
        (content.Node a (kinds.Decided commands) ∷ [])
        (t.sent ∙ ap (λ (o : OutboxValue). mid.sent ++ batch_of a o.envelopes) sent.comes_to)
        (refl, spelled (kinds.Decided commands) sent.fits, tt)

    module _ (law : LaggingCandidateIsFed m IsText) (new : WorldState ReplicaValue)
        (took : Hears m IsText b (content.Node a (kinds.Decided commands)) served new) where
      run : IsFedBy m IsText b a old new
      run = record {
        candidate = r;
        up = k.own.up;
        voter = q;
        voter_up = k.other.up;
        kept = kept;
        less = k.less;
        nack = told.nack;
        tells = (let e : told.nack.executed ≡ executed q.node.learner = ap (λ (n : Nack). n.executed) k.tells in
            omega (arith, e, k.less));
        told = mid;
        hears = h;
        asking = asked.asking;
        asks = asked.own.up;
        served = served;
        serves = subst (λ (l : LearnerValue). Delivers m IsText a (content.Node b (kinds.Want (wanted l))) mid served)
            (sym asked.learner) (record { hears = hears; rested = asked.other_rested });
        takes = took;
      }

      fed : IsFedByIn m IsText b a (a ∷ []) k.last old new run
      fed = law b (executed r.node.learner) a (a ∷ []) k.last old new
          (two_contend m IsText old k.last b a r q k.apart k.own k.other) (0, omega arith, refl) run

      abbrev c : Contends m IsText new b (executed fed.after.node.learner) (executed fed.after.node.learner) [] k.last
      c = fed.may.candidate

      heard : HeardIt m IsText b (content.Node a (kinds.Decided commands)) asked.asking new
      heard = heard_it m IsText b (content.Node a (kinds.Decided commands)) served new asked.asking tt own_up took

      round : greatest_round c.candidate.node < 281474976710656
      round = subst (λ (y : ReplicaValue). greatest_round y.node < 281474976710656)
          (one_replica m IsText new took.goes.after b heard.after c.candidate heard.is c.up)
          (keeps_round heard.start heard.after.node
          (decided_keeps m IsText heard.start heard.after.node a commands heard.out heard.takes)
          (found_has asked.asking heard.start heard.found (λ node. greatest_round node < 281474976710656) (λ e. e)
          asked.own.round))

      rests : RestsBut b a served new
      rests = delivery_rests_but m IsText b b a (content.Node a (kinds.Decided commands)) served new
          (λ j not_b not_a. not_b) took

      from : TakesFrom m IsText b (content.Node a (kinds.Decided commands)) served new
      from = heard_from m IsText b (content.Node a (kinds.Decided commands)) served new took

      gains_more : executed r.node.learner < executed fed.after.node.learner
      unfolding run
      gains_more = fed.gains.0

      pub by_commands : HasExchanged m IsText b a told old new k
      by_commands = exchanged sent.same quiet new took.goes.after rests
          (from.others a (Up t.after) (λ e. k.apart (sym e)) t.is) c.candidate
          (own_from new (executed fed.after.node.learner) c fed.may.within round
          (rests.genesis ∙ (rests_served sent.same quiet).genesis))
          (inl (omega (arith, gains_more, c.reach)))
