-- A node of a world that has asked another one takes what that one sends: commands, or parts of its snapshot.
use Rattle.std.proofs.Common.{◌≡◌, ◌∙◌, ◌⊎◌, inl, inr, ℕ, zero, suc, ◌+◌, ◌-◌, ◌*◌, ◌<◌, ◌≤◌, ◌++◌, List, []}
use Rattle.std.proofs.Common.{◌∷◌, length, map}
use Rattle.std.proofs.Common.{take, Contains, Option, refl, ap, sym, subst, arith}
use Rattle.std.proofs.lemmas.List.{length-take-le}
use Rattle.lk_messages.specs.Grammar.{IsMessage}
use Rattle.lk_messages.specs.Values.{PartValue}
use Rattle.lk_messages.specs.declared.message.Content.{Content}
use Rattle.lk_messages.specs.declared.message.Content.TheVariants as content
use Rattle.lk_messages.specs.declared.message.Nack.{Nack}
use Rattle.lk_messages.specs.declared.message.NodeMessage.{NodeMessage}
use Rattle.lk_messages.specs.declared.message.NodeMessage.TheVariants as kinds
use Rattle.lk_agreement_laws.proofs.Histories.{contains_more}
use Rattle.lk_state.specs.Meanings.{Meaning}
use Rattle.lk_learner.specs.Learners.{GatheredValue, LearnerValue, executed, gathered_bytes, wanted}
use Rattle.lk_learner.specs.Gathering.{starts_text}
use Rattle.lk_learner.specs.Parts.{AreParts, part_of}
use Rattle.lk_node_interface.specs.Envelopes.{batch_of}
use Rattle.lk_node_interface.specs.Outboxes.{OutboxValue}
use Rattle.lk_node_interface.specs.Saying.{saying}
use Rattle.lk_node.specs.Beginning.{greatest_round}
use Rattle.lk_node.specs.CatchingUp.{FeedsParts}
use Rattle.lk_node.specs.NodeValue.{NodeValue}
use Rattle.lk_node.specs.Telling.{envelope_to}
use Rattle.lk_progress.specs.Feeding.{MayServe}
use Rattle.lk_progress.specs.Gathering.{GetsOn, HasSoFar, parts_from}
use Rattle.lk_progress.specs.Hearing.{Takes}
use Rattle.lk_replica.specs.ReplicaValue.{ReplicaValue}
use Rattle.lk_sim.specs.WorldStates.{WorldState}
use Rattle.lk_sim.specs.declared.event.Event.TheVariants as event
use Rattle.lk_sim_nodes.specs.SimNodes.{IsUp}
use Rattle.lk_sim_nodes.specs.declared.sim_node.RunState.TheVariants.{Up}
use Rattle.lk_world_feeding.proofs.Gathering.{Follow, TookParts, all_taken, parts_hold, start_here}
use Rattle.lk_world_feeding.specs.Gathering.{AllCanBeFed, NeedsSnapshot, count_of, position_of, text_of}
use Rattle.lk_world_progress.proofs.Delivering.{TakesFrom}
use Rattle.lk_world_progress.proofs.Stepping.{event_steps, one_replica}
use Rattle.lk_world_progress.specs.Delivering.{Hears, HearsInTurn, IsRested}
use Rattle.lk_world_progress.specs.Stepping.{GoesWell, Holds, IsUpAs}
use Rattle.lk_world_leftovers.specs.Lagging.{LaggingCandidateIsFed}
use Rattle.lk_world_leftovers.specs.Persisting.{Contends}
use Rattle.lk_world_leftovers.specs.Snapshots.{HasTakenParts, PartsAreTaken, TakesParts}
use Rattle.lk_healing.proofs.Asks.{turn_asks}
use Rattle.lk_healing.proofs.Carrying.{is_up}
use Rattle.lk_healing.proofs.Gains.{two_contend}
use Rattle.lk_healing.proofs.Posts.{Carry, all_stand}
use Rattle.lk_healing.proofs.Questions.{Asked}
use Rattle.lk_healing.proofs.Replies.{parts_write, want_sends_parts}
use Rattle.lk_healing.proofs.Rests.{WritesNothing}
use Rattle.lk_healing.proofs.Rounds.{keeps_round, parts_keep}
use Rattle.lk_healing.proofs.Servings as servings
use Rattle.lk_healing.proofs.Turns.{TookTurn, parts_turn}
use Rattle.lk_healing.specs.Feeds.{HasExchanged, HasGatheredMore, MayFeed, RestsBut, places_from}
use Rattle.lk_healing.specs.Polls.{StandAt}
use Rattle.lk_healing.specs.declared.progress.Progress.{Progress}

module _ (m : Meaning) (IsText : List ℕ → Type 0) (b a : ℕ) (told : Progress) (old : WorldState ReplicaValue)
    (k : MayFeed m IsText old b a told) (mid : WorldState ReplicaValue)
    (h : Hears m IsText b (content.Node a (kinds.Nack told.nack)) old mid) (served : WorldState ReplicaValue)
    (goes : GoesWell m IsText mid (event.Deliver (suc (length old.sent))) served) where
  abbrev r : ReplicaValue
  r = k.behind

  abbrev q : ReplicaValue
  q = k.ahead

  abbrev want : NodeMessage
  want = kinds.Want (wanted k.behind.node.learner)

  abbrev asked : Asked m IsText b a told old k mid h
  asked = servings.asked m IsText b a told old k mid h served goes

  abbrev hears : Hears m IsText a (content.Node b want) mid served
  hears = servings.hears m IsText b a told old k mid h served goes

  abbrev t : TakesFrom m IsText a (content.Node b want) mid served
  t = servings.t m IsText b a told old k mid h served goes

  abbrev takes : Takes m IsText q.node (content.Node b want) t.last t.out
  takes = servings.takes m IsText b a told old k mid h served goes

  abbrev serves : MayServe q.node.learner
  serves = servings.serves m IsText b a told old k mid h served goes

  abbrev own_up : IsUpAs served b asked.asking
  own_up = servings.own_up m IsText b a told old k mid h served goes

  -- ---- parts

  module _ (needs : NeedsSnapshot m IsText old b a k.behind k.ahead) where
    sends_parts : (last : NodeValue) (out : OutboxValue) → Takes m IsText q.node (content.Node b want) last out
        → (last ≡ q.node) × FeedsParts q.node b (count_of r) out
    sends_parts last out taken = want_sends_parts m IsText q.node last b (wanted r.node.learner) out k.other.idle
        (omega (arith, needs.above)) (omega (arith, serves.reaches)) taken

    quiet_parts : (last : NodeValue) (out : OutboxValue) → Takes m IsText q.node (content.Node b want) last out
        → WritesNothing q.node last out
    quiet_parts last out taken =
        let f = sends_parts last out taken in parts_write q.node last b (count_of r) out f.0 f.1

    same_parts : t.last ≡ q.node
    same_parts = (sends_parts t.last t.out takes).0

    feeds : FeedsParts q.node b (count_of r) t.out
    feeds = (sends_parts t.last t.out takes).1

    carry : (ps : List PartValue) → ((p : PartValue) → Contains ps p → IsMessage (saying q.node.header (kinds.Part p)))
        → Carry served b (batch_of a (map (λ p. envelope_to q.node (kinds.Part p) b) ps)) (parts_from a ps)
    carry [] fit = tt
    carry (p ∷ ps) fit = (
      refl,
      servings.spelled m IsText b a told old k mid h served goes (kinds.Part p) (fit p (0, omega arith, refl)),
      carry ps (λ x c. fit x (contains_more p ps x c)),
    )

    stand_parts : StandAt served b (places_from (length mid.sent) (length served.sent - length mid.sent))
        (parts_from a feeds.parts)
    stand_parts = all_stand served b (batch_of a (map (λ p. envelope_to q.node (kinds.Part p) b) feeds.parts)) mid.sent
        (parts_from a feeds.parts)
        (t.sent ∙ ap (λ (o : OutboxValue). mid.sent ++ batch_of a o.envelopes) feeds.comes_to)
        (carry feeds.parts feeds.fits)

    are : AreParts (position_of q) (text_of q) (count_of r) feeds.parts
    are = subst (λ (i : ℕ). AreParts (position_of q) (text_of q) i feeds.parts)
        (start_here (count_of r) (text_of q) needs.gathered.0) feeds.are

    so_far : HasSoFar asked.asking.node.learner (position_of q) (text_of q) (count_of r)
    so_far = subst (λ (l : LearnerValue). HasSoFar l (position_of q) (text_of q) (count_of r)) (sym asked.learner)
        (elim needs.gathered.1 [
          | inl none ↦ inl (
            ap gathered_bytes none,
            ap (λ (g : Option GatheredValue). starts_text g (part_of (position_of q) (text_of q) 0)) none,
          )
          | inr has ↦ inr has
        ])

    behind_then : executed asked.asking.node.learner < position_of q
    behind_then = subst (λ (l : LearnerValue). executed l < position_of q) (sym asked.learner) needs.above

    some : 1 ≤ length feeds.parts
    some = elim are.all [
      | inl eight ↦ omega (arith, eight)
      | inr all ↦ by_length (length feeds.parts) all
    ]
      where
        by_length : (n : ℕ) → length (text_of q) ≤ count_of r + n * 1024 → 1 ≤ n
        by_length zero all = absurd (omega (arith, all, needs.gathered.0))
        by_length (suc n) all = omega arith

    own_rested : IsRested served b
    own_rested p up = asked.own_rested p
        (subst (λ (y : ReplicaValue). IsUpAs mid b y)
        (one_replica m IsText served hears.goes.after b asked.asking p own_up
        up) asked.own.up)

    module _ (law : PartsAreTaken m IsText) (new : WorldState ReplicaValue)
        (turn : HearsInTurn m IsText b (parts_from a feeds.parts) served new) where
      turned : (ps : List PartValue) → 1 ≤ length ps → Follow (position_of q) (text_of q) (count_of r) ps
          → HearsInTurn m IsText b (parts_from a ps) served new
          → TookTurn m IsText b a (position_of q) (text_of q) (count_of r) ps asked.asking served new
          × (length (text_of q) ≤ 65536)
      turned [] none follow d = absurd (omega (arith, none))
      turned (p ∷ ps) one follow d = (
        parts_turn m IsText b a (position_of q) (text_of q) ps p (count_of r) asked.asking served new own_up own_rested
            asked.own.idle behind_then so_far follow d,
        (
            let first = follow 0 p refl in
            let total : p.total ≡ length (text_of q) = ap (λ (x : PartValue). x.total) first.0 in
            let low : p.total ≤ 65536 = d.1.spelled.0.1.1.1.1 in
            omega (arith, total, low)
            ),
      )

      both : TookTurn m IsText b a (position_of q) (text_of q) (count_of r) feeds.parts asked.asking served new
          × (length (text_of q) ≤ 65536)
      both = turned feeds.parts some are.each turn

      run_parts : TakesParts m IsText b a old new
      run_parts = record {
        behind = r;
        up = k.own.up;
        ahead = q;
        other_up = k.other.up;
        above = needs.above;
        gathered = needs.gathered;
        nack = told.nack;
        tells = (let e : told.nack.executed ≡ executed q.node.learner = ap (λ (n : Nack). n.executed) k.tells in
            omega (arith, e, k.less));
        told = mid;
        hears = h;
        served = served;
        serves = record { hears = hears; rested = asked.other_rested };
        parts = feeds.parts;
        are = are;
        takes = both.0.turns;
      }

      taken : HasTakenParts m IsText b (executed r.node.learner) b a (a ∷ []) k.last old new run_parts
      taken = (law b (executed r.node.learner) a (a ∷ []) k.last old new
          (two_contend m IsText old k.last b a r q k.apart k.own k.other) (0, omega arith, refl)).0 run_parts

      abbrev d : Contends m IsText new b taken.f taken.f [] k.last
      d = taken.may.candidate

      took_all : TookParts m IsText b a feeds.parts asked.asking served new
      took_all = all_taken m IsText (event_steps m IsText) b a (position_of q) (text_of q) feeds.parts (count_of r)
          asked.asking served new some own_up behind_then so_far are.each both.0.turns

      new_holds : Holds m IsText new
      new_holds = parts_hold m IsText b a feeds.parts served new some both.0.turns

      round_parts : greatest_round d.candidate.node < 281474976710656
      round_parts =
          let low : greatest_round took_all.last < 281474976710656 = keeps_round asked.asking.node took_all.last
          (parts_keep m IsText a feeds.parts asked.asking.node took_all.last took_all.envelopes took_all.takes)
          asked.own.round in
          subst (λ (y : ReplicaValue). greatest_round y.node < 281474976710656)
          (one_replica m IsText new new_holds b took_all.now d.candidate took_all.is d.up)
          (elim took_all.left [
            | inl is ↦ subst (λ (n : NodeValue). greatest_round n < 281474976710656) (sym is) low
            | inr is ↦ subst (λ (n : NodeValue). greatest_round n < 281474976710656) (sym is) low
          ])

      rests_parts : RestsBut b a served new
      rests_parts =
          let asks = turn_asks m IsText b (parts_from a feeds.parts) served new turn in record {
            rests = λ j run_state not_b not_a at. took_all.only.others j run_state not_b at;
            sent = took_all.only.sent;
            asked = asks.asked;
            genesis = asks.genesis;
          }

      gets_on : GetsOn r.node d.candidate.node (position_of q) (text_of q)
          (count_of r + length feeds.parts * 1024)
      unfolding run_parts feeds
      gets_on = subst (λ (y : ReplicaValue). GetsOn r.node y.node (position_of q) (text_of q)
          (count_of r + length feeds.parts * 1024))
          (one_replica m IsText new new_holds b taken.gets_on.0 d.candidate taken.gets_on.1 d.up) taken.gets_on.2

      gains_parts : (executed k.behind.node.learner < executed d.candidate.node.learner)
          ⊎ HasGatheredMore k.behind k.ahead d.candidate
      gains_parts = elim gets_on [
        | inl whole ↦ inl (omega (arith, whole.1, needs.above))
        | inr more ↦
            let reached : ℕ = count_of r + length feeds.parts * 1024 in
            let long : length (take reached (text_of q)) ≡ reached =
            length-take-le reached (text_of q) (omega (arith, more.0)) in
            let last = both.0.before more.0 in
            inr (record {
              whole = more.2;
              gathered = record {
                position = position_of q;
                total = length (text_of q);
                bytes = take reached (text_of q);
              };
              is = more.1;
              position = refl;
              short = omega (arith, long, more.0);
              room = both.1;
              more = omega (arith, long, some);
              before = ap (λ (y : ReplicaValue). y.node.gathered_before)
                  (one_replica m IsText new new_holds b d.candidate last.0 d.up last.1)
                  ∙ last.2 ∙ asked.before;
            })
      ]

      by_parts : HasExchanged m IsText b a told old new k
      by_parts = servings.exchanged m IsText b a told old k mid h served goes same_parts quiet_parts new new_holds
          rests_parts (took_all.only.others a (Up t.after) (λ e. k.apart (sym e)) t.is) d.candidate
          (servings.own_from m IsText b a told old k mid h served goes new taken.f d taken.may.within round_parts
          (rests_parts.genesis ∙ (servings.rests_served m IsText b a told old k mid h served goes same_parts
          quiet_parts).genesis))
          gains_parts

  -- ---- either

  pub record Answered : Type 0 where
    pub contents : List Content
    pub stand : StandAt served b (places_from (length mid.sent) (length served.sent - length mid.sent)) contents
    pub ends : LaggingCandidateIsFed m IsText → PartsAreTaken m IsText → (new : WorldState ReplicaValue)
        → HearsInTurn m IsText b contents served new → HasExchanged m IsText b a told old new k

  pub was_answered : AllCanBeFed m IsText → Answered
  was_answered law = elim (law old b a k.behind k.ahead k.own.holds k.apart k.own.up k.other.up k.open_for) [
    | inl can ↦ record {
      contents = servings.answer m IsText b a told old k mid h served goes can.kept;
      stand = servings.stand m IsText b a told old k mid h served goes can.kept;
      ends = λ fed_law parts_law new turn. subst (λ (w : WorldState ReplicaValue). HasExchanged m IsText b a
          told old w k)
          (sym turn.2) (servings.by_commands m IsText b a told old k mid h served goes can.kept fed_law turn.0
          turn.1);
    }
    | inr needs ↦ record {
      contents = parts_from a (feeds needs).parts;
      stand = stand_parts needs;
      ends = λ fed_law parts_law new turn. by_parts needs parts_law new turn;
    }
  ]

  pub own_up_served : IsUp served.sim_nodes b
  own_up_served = is_up served b asked.asking own_up
