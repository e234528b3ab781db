-- What one ballot of a candidate that stands comes to, and how it ends with a rejection.
use Rattle.std.proofs.Common.{◌≡◌, ◌∙◌, inl, inr, ℕ, ◌<◌, ◌≤◌, List, [], ◌∷◌, Contains, refl, ap, sym, subst}
use Rattle.std.proofs.Common.{arith}
use Rattle.lk_types.specs.BallotValue.{BallotValue}
use Rattle.lk_types.specs.Ballots.{IsBelow}
use Rattle.lk_messages.specs.declared.message.Content.{Content}
use Rattle.lk_messages.specs.declared.message.Content.TheVariants as content
use Rattle.lk_messages.specs.declared.message.Message.{Message}
use Rattle.lk_messages.specs.declared.message.NodeMessage.TheVariants as kinds
use Rattle.lk_agreement_laws.proofs.Histories.{below_self, cons_cases, contains_more}
use Rattle.lk_agreement_laws.specs.Datagrams.{said_by}
use Rattle.lk_members.proofs.Memberships.{majority_lies_within}
use Rattle.lk_state.specs.Meanings.{Meaning}
use Rattle.lk_state.specs.States.{WholeValue}
use Rattle.lk_learner.specs.Learners.{executed}
use Rattle.lk_node.specs.Beginning.{greatest_round, next_ballot}
use Rattle.lk_node.specs.CatchingUp.{refusal}
use Rattle.lk_progress.proofs.Electing.{due_asks, named_by}
use Rattle.lk_progress.proofs.Proposing.{next_set}
use Rattle.lk_progress.specs.Exchanges.{prepare_by}
use Rattle.lk_replica.specs.ReplicaValue.{ReplicaValue}
use Rattle.lk_sim.specs.WorldStates.{WorldState}
use Rattle.lk_sim.specs.declared.event.Event.TheVariants as event
use Rattle.lk_sim_nodes.specs.SimNodes.{IsUp}
use Rattle.lk_sim_nodes.specs.declared.sim_node.RunState.TheVariants.{Up}
use Rattle.lk_world_progress.proofs.Balloting.{tick_begins}
use Rattle.lk_world_progress.proofs.Stepping.{one_replica}
use Rattle.lk_world_progress.specs.Balloting.{BeginsIn}
use Rattle.lk_world_progress.specs.Delivering.{Hears, HearsEach}
use Rattle.lk_world_progress.specs.Overtaking.{IsRival}
use Rattle.lk_world_progress.specs.Stepping.{GoesWell, IsUpAs}
use Rattle.lk_world_leftovers.proofs.Fixed.{nodes_know}
use Rattle.lk_world_leftovers.proofs.Retrying.{HasWaited, waited}
use Rattle.lk_world_leftovers.specs.Fixed.{KnowsMembers}
use Rattle.lk_world_leftovers.specs.Persisting.{AreFixed, Contends, IsNoRival}
use Rattle.lk_healing.proofs.Asks.{asks_both, each_asks, hears_asks, tick_asks, waits_ask}
use Rattle.lk_healing.proofs.Begun.{still_fixed}
use Rattle.lk_healing.proofs.Carrying.{is_up}
use Rattle.lk_healing.proofs.Hands.{sent_to}
use Rattle.lk_healing.proofs.Polls.{each_of, hears_there}
use Rattle.lk_healing.proofs.Rejected as rejected
use Rattle.lk_healing.proofs.Stands.{MayReply, Replies, promise_stands}
use Rattle.lk_healing.proofs.Stands.{waits_leave, who_replied}
use Rattle.lk_healing.proofs.Waits.{some_number}
use Rattle.lk_healing.specs.Contending.{AsksNothing, HasExecuted, HasRoundLeft, MayStand}
use Rattle.lk_healing.specs.Halts.{AreOnTheirWay, MayBeTaken}
use Rattle.lk_healing.specs.Polls.{HearsAt, StandsAt}
use Rattle.lk_healing.specs.Standing.{AreThere, IsRejectedBy, IsRejectionAt}
use Rattle.lk_healing.specs.Waits.{BeginsAfter}
use Rattle.lk_healing.specs.declared.asking.Asking.{Asking}

module _ (m : Meaning) (IsText : List ℕ → Type 0) (w now : WorldState ReplicaValue) (x : ℕ) (nodes : List ℕ)
    (asking : Asking) (k : MayStand m IsText w x nodes) (b : BeginsAfter m IsText x w now asking) where
  abbrev ballot : BallotValue
  ballot = next_ballot b.candidate.node

  abbrev e : ℕ
  e = executed b.candidate.node.learner

  abbrev prepare : Content
  prepare = content.Node x (prepare_by b.candidate.node)

  -- ---- it is due

  pub same : AsksNothing w b.due
  same = waits_ask m IsText x b.ticks w b.due b.waits

  due_waited : HasWaited m IsText x k.e k.e k.others k.last w b.due
  due_waited = waited m IsText x k.e k.e k.others k.last b.ticks w b.due k.contends b.waits

  pub ready : Contends m IsText b.due x k.e k.e k.others k.last
  ready = due_waited.contends

  pub fixed : AreFixed b.due x k.others
  fixed = still_fixed w b.due x k.others same k.fixed

  pub knows : KnowsMembers b.due.genesis b.candidate.node
  knows = nodes_know m IsText b.due x b.candidate ready.holds fixed.changes b.up

  pub reach : executed b.candidate.node.learner ≡ k.e
  reach = subst (λ (q : ReplicaValue). executed q.node.learner ≡ k.e)
      (one_replica m IsText b.due ready.holds x ready.candidate b.candidate ready.up b.up) ready.reach

  in_nodes : (n : ℕ) → Contains (x ∷ k.others) n → Contains nodes n
  in_nodes n c = subst (λ (ns : List ℕ). Contains ns n) (sym k.are) c

  settled : (n : ℕ) → Contains k.others n → IsNoRival w x n → IsNoRival b.due x n
  settled n o none = due_waited.settled (n ∷ [])
      (λ i c. elim (cons_cases n [] i c) [
        | inl is ↦ subst (λ (j : ℕ). Contains k.others j) is o
        | inr nobody ↦ absurd (omega (arith, nobody.1))
      ])
      (λ i c. elim (cons_cases n [] i c) [
        | inl is ↦ subst (λ (j : ℕ). IsNoRival w x j) is none
        | inr nobody ↦ absurd (omega (arith, nobody.1))
      ]) n (0, omega arith, refl)

  module _ (n : ℕ) (o : Contains k.others n) where
    pub apart : n ≡ x → ⊥
    apart is = k.contends.distinct.0 (subst (λ (j : ℕ). Contains k.others j) is o)

    voter_same : (ready.others_may n o).replica ≡ (k.contends.others_may n o).replica
    voter_same = one_replica m IsText b.due ready.holds n (ready.others_may n o).replica
        (k.contends.others_may n o).replica (ready.others_may n o).up
        (waits_leave m IsText x b.ticks w b.due b.waits n (Up (k.contends.others_may n o).replica) apart
        (k.contends.others_may n o).up)

    their_round : greatest_round (ready.others_may n o).replica.node < 281474976710656
    their_round = subst (λ (q : ReplicaValue). greatest_round q.node < 281474976710656) (sym voter_same)
        (k.rounds n (in_nodes n (contains_more x k.others n o)) (k.contends.others_may n o).replica
        (k.contends.others_may n o).up)

    pub their_reach : executed (ready.others_may n o).replica.node.learner ≡ k.e
    their_reach = ap (λ (q : ReplicaValue). executed q.node.learner) voter_same
        ∙ k.level n o (k.contends.others_may n o).replica (k.contends.others_may n o).up

  -- ---- it asks

  pub prepare_is : (y : Message) → y ≡ record {
    cluster = asking.cluster;
    content = content.Node x (kinds.Prepare asking.ballot asking.first);
  } → y ≡ said_by now.genesis x (prepare_by b.candidate.node)
  prepare_is y is = is ∙ (λ i. record {
    cluster = b.cluster i;
    content = content.Node x (kinds.Prepare (b.ballot i) (b.first i));
  })

  begins_in : BeginsIn x b.candidate.node now
  begins_in = tick_begins m IsText due_asks b.due now x b.candidate b.up b.is_due b.begins

  due_up : (n : ℕ) → Contains (x ∷ k.others) n → (r : ReplicaValue) × IsUpAs b.due n r
  due_up n c = elim (cons_cases x k.others n c) [
    | inl is ↦ (b.candidate, subst (λ (j : ℕ). IsUpAs b.due j b.candidate) is b.up)
    | inr o ↦ ((ready.others_may n o).replica, (ready.others_may n o).up)
  ]

  up_now : (n : ℕ) → Contains (x ∷ k.others) n → IsUp now.sim_nodes n
  up_now n c = elim (cons_cases x k.others n c) [
    | inl is ↦ subst (λ (j : ℕ). IsUp now.sim_nodes j) is (is_up now x begins_in.after begins_in.is)
    | inr o ↦ is_up now n (ready.others_may n o).replica
        (rejected.others_stay m IsText x b.candidate k.others b.due now k.e k.e k.last ready b.up b.is_due
        knows.unchanged b.begins n
        (Up (ready.others_may n o).replica) (apart n o) (ready.others_may n o).up)
  ]

  pub prepares_on_their_way : (y : Message) → y ≡ said_by now.genesis x (prepare_by b.candidate.node)
      → AreOnTheirWay now nodes y
  prepares_on_their_way y is n c =
      let d : Contains (x ∷ k.others) n = subst (λ (ns : List ℕ). Contains ns n) k.are c in
      let r = due_up n d in (
        up_now n d,
        sent_to now x n (prepare_by b.candidate.node) y
            (begins_in.asks n (some_number m IsText b.due ready.holds n r.0 r.1)
            (named_by b.candidate.node.learner.whole.roster.sets b.due.genesis.members n
            (next_set b.candidate.node.learner.whole.roster b.due.genesis.members knows.members)
            (majority_lies_within b.due.genesis.members (x ∷ k.others) n fixed.majority d))) is,
      )

  -- ---- what its nodes reply

  may_reply : (n : ℕ) → Contains (x ∷ k.others) n → MayReply now e n
  may_reply n c = elim (cons_cases x k.others n c) [
    | inl is ↦ subst (λ (j : ℕ). MayReply now e j) is (record {
      replica = rejected.begun_replica m IsText x b.candidate k.others b.due now k.e k.e k.last ready b.up b.is_due
          knows.unchanged b.begins;
      up = rejected.begun_up m IsText x b.candidate k.others b.due now k.e k.e k.last ready b.up b.is_due
          knows.unchanged b.begins;
      near = rejected.begun_near m IsText x b.candidate k.others b.due now k.e k.e k.last ready b.up b.is_due
          knows.unchanged b.begins;
      behind = own_behind;
    })
    | inr o ↦ record {
      replica = (ready.others_may n o).replica;
      up = rejected.others_stay m IsText x b.candidate k.others b.due now k.e k.e k.last ready b.up b.is_due
          knows.unchanged b.begins n
          (Up (ready.others_may n o).replica) (apart n o) (ready.others_may n o).up;
      near = (ready.others_may n o).near;
      behind = subst (λ (i : ℕ). executed (ready.others_may n o).replica.node.learner ≤ i) (sym reach)
          (ready.others_may n o).behind;
    }
  ]
    where
      own_behind : executed (rejected.begun_replica m IsText x b.candidate k.others b.due now k.e k.e k.last ready
          b.up b.is_due knows.unchanged b.begins).node.learner ≤ e
      own_behind =
          let is = rejected.begun_reach m IsText x b.candidate k.others b.due now k.e k.e k.last ready b.up b.is_due
          knows.unchanged b.begins in
          omega (arith, is)

  module _ (polled : WorldState ReplicaValue) (places : List ℕ)
      (run : HearsAt m IsText (content.Node x (prepare_by b.candidate.node)) nodes places now polled) where
    pub run_them : HearsAt m IsText prepare (x ∷ k.others) places now polled
    run_them = subst (λ (ns : List ℕ). HearsAt m IsText prepare ns places now polled) k.are run

    pub polls : HearsEach m IsText prepare (x ∷ k.others) now polled
    polls = each_of m IsText prepare (x ∷ k.others) places now polled run_them

    candidate_there : IsUp polled.sim_nodes x
    candidate_there =
        let own = rejected.own m IsText x b.candidate k.others b.due now k.e k.e k.last ready b.up b.is_due
        knows.unchanged b.begins polled polls in
        is_up polled x own.after own.is

    replied : (p : ℕ) → Contains places p
        → (n : ℕ) × (c : Contains (x ∷ k.others) n) × Replies m IsText x e ballot polled n p (may_reply n c).replica
    replied p c = who_replied m IsText x e ballot (x ∷ k.others) places now polled b.begins.after k.contends.distinct
        may_reply run_them p c

    pub are_there : AreThere polled.sent places
    are_there p c = elim (replied p c).2 [
      | inl rejects ↦ (rejects.1.0, rejects.1.1)
      | inr promise ↦ (promise.1.0, promise.1.1)
    ]

    -- ---- one rejects

    -- whose rejection stands at this place
    record IsTeller (p : ℕ) : Type 0 where
      n : ℕ
      o : Contains k.others n
      above : IsBelow ballot (ready.others_may n o).replica.node.acceptor.state.promised
      stands : StandsAt polled x p
          (content.Node n (kinds.Nack (refusal ballot (ready.others_may n o).replica.node)))

    teller_at : (p n : ℕ) (c : Contains (x ∷ k.others) n)
        → Replies m IsText x e ballot polled n p (may_reply n c).replica → IsRejectionAt polled.sent p → IsTeller p
    teller_at p n c (inr promise) rejection =
        absurd (promise_stands polled x p n e ballot promise.0 promise.1 rejection)
    teller_at p n c (inl rejects) rejection = elim (cons_cases x k.others n c) [
      | inl is ↦
          let one : (may_reply n c).replica ≡ rejected.begun_replica m IsText x b.candidate k.others b.due now k.e
          k.e k.last ready b.up b.is_due knows.unchanged b.begins =
          one_replica m IsText now b.begins.after n (may_reply n c).replica
          (rejected.begun_replica m IsText x b.candidate k.others b.due now k.e k.e k.last ready b.up b.is_due
          knows.unchanged b.begins)
          (may_reply n c).up
          (subst (λ (j : ℕ). IsUpAs now j
          (rejected.begun_replica m IsText x b.candidate k.others b.due now k.e k.e k.last ready b.up b.is_due
          knows.unchanged b.begins)) is
          (rejected.begun_up m IsText x b.candidate k.others b.due now k.e k.e k.last ready b.up b.is_due
          knows.unchanged b.begins)) in
          absurd (below_self ballot (subst (λ (y : BallotValue). IsBelow ballot y)
          (ap (λ (q : ReplicaValue). q.node.acceptor.state.promised) one
          ∙ rejected.begun_promised m IsText x b.candidate k.others b.due now k.e k.e k.last ready b.up b.is_due
          knows.unchanged b.begins)
          rejects.0))
      | inr o ↦
          let one : (may_reply n c).replica ≡ (ready.others_may n o).replica = one_replica m IsText now b.begins.after n
          (may_reply n c).replica (ready.others_may n o).replica (may_reply n c).up
          (rejected.others_stay m IsText x b.candidate k.others b.due now k.e k.e k.last ready b.up b.is_due
          knows.unchanged b.begins n
          (Up (ready.others_may n o).replica) (apart n o) (ready.others_may n o).up) in
          record {
            n = n;
            o = o;
            above = subst (λ (q : ReplicaValue). IsBelow ballot q.node.acceptor.state.promised) one rejects.0;
            stands = subst (λ (q : ReplicaValue). StandsAt polled x p
                (content.Node n (kinds.Nack (refusal ballot q.node)))) one rejects.1;
          }
    ]

    teller : (p : ℕ) → Contains places p → IsRejectionAt polled.sent p → IsTeller p
    teller p c rejection = teller_at p (replied p c).0 (replied p c).1 (replied p c).2 rejection

    pub may_take : (p : ℕ) → Contains places p → IsRejectionAt polled.sent p → MayBeTaken polled p
    may_take p c rejection =
        let s = (teller p c rejection).stands in
        (s.0, x, s.1, s.2, candidate_there)

    module _ (p : ℕ) (c : Contains places p) (rejection : IsRejectionAt polled.sent p) (new : WorldState ReplicaValue)
        (goes : GoesWell m IsText polled (event.Deliver p) new) where
      t : IsTeller p
      t = teller p c rejection

      abbrev is_rival : IsRival b.due ballot t.n
      is_rival = record {
        replica = (ready.others_may t.n t.o).replica;
        up = (ready.others_may t.n t.o).up;
        above = t.above;
      }

      tells : Hears m IsText x
          (content.Node t.n (kinds.Nack (refusal ballot (ready.others_may t.n t.o).replica.node))) polled new
      tells = hears_there m IsText x p
          (content.Node t.n (kinds.Nack (refusal ballot (ready.others_may t.n t.o).replica.node))) polled new t.stands
          goes

      then_asks : AsksNothing w new
      then_asks = asks_both w b.due new same (asks_both b.due now new (tick_asks m IsText b.due now x b.begins)
          (asks_both now polled new (each_asks m IsText prepare (x ∷ k.others) now polled polls)
          (hears_asks m IsText x
          (content.Node t.n (kinds.Nack (refusal ballot (ready.others_may t.n t.o).replica.node))) polled new tells)))

      then_level : (n : ℕ) → Contains k.others n → HasExecuted new n k.e
      then_level n o q up =
          ap (λ (r : ReplicaValue). executed r.node.learner)
          (one_replica m IsText new goes.after n q (rejected.took m IsText x b.candidate k.others b.due now k.e k.e
          k.last ready b.up b.is_due knows.unchanged b.begins polled polls n o).after up
          (rejected.then_up m IsText x b.candidate k.others b.due now k.e k.e k.last ready b.up b.is_due
          knows.unchanged b.begins polled polls new t.n is_rival tells n o))
          ∙ ap (λ (v : WholeValue). v.roster.executed)
          (rejected.then_lasts m IsText x b.candidate k.others b.due now k.e k.e k.last ready b.up b.is_due
          knows.unchanged b.begins polled polls new t.n is_rival tells n o).whole
          ∙ their_reach n o

      then_rounds : (n : ℕ) → Contains nodes n → HasRoundLeft new n
      then_rounds n d q up = elim (cons_cases x k.others n (subst (λ (ns : List ℕ). Contains ns n) k.are d)) [
        | inl is ↦ subst (λ (r : ReplicaValue). greatest_round r.node < 281474976710656)
            (one_replica m IsText new goes.after x
            (rejected.told m IsText x b.candidate k.others b.due now k.e k.e k.last ready b.up b.is_due
            knows.unchanged b.begins polled polls new t.n is_rival tells).after q
            (rejected.own_there m IsText x b.candidate k.others b.due now k.e k.e k.last ready b.up b.is_due
            knows.unchanged b.begins polled polls new t.n is_rival tells
            281474976710656 b.is_due.round their_round t.o)
            (subst (λ (j : ℕ). IsUpAs new j q) (sym is) up))
            (rejected.own_round_left m IsText x b.candidate k.others b.due now k.e k.e k.last ready b.up b.is_due
            knows.unchanged b.begins polled polls new t.n is_rival
            tells 281474976710656 b.is_due.round their_round t.o)
        | inr o ↦ subst (λ (r : ReplicaValue). greatest_round r.node < 281474976710656)
            (one_replica m IsText new goes.after n (rejected.took m IsText x b.candidate k.others b.due now k.e k.e
            k.last ready b.up b.is_due knows.unchanged b.begins polled polls n o).after q
            (rejected.then_up m IsText x b.candidate k.others b.due now k.e k.e k.last ready b.up b.is_due
            knows.unchanged b.begins polled polls new t.n is_rival tells n o) up)
            (rejected.their_round_left m IsText x b.candidate k.others b.due now k.e k.e k.last ready b.up b.is_due
            knows.unchanged b.begins polled polls new t.n is_rival
            tells 281474976710656 b.is_due.round their_round t.o n o)
      ]

      pub loses : IsRejectedBy m IsText x nodes w new
      loses = record {
        stands = record {
          others = k.others;
          are = k.are;
          e = k.e;
          last = k.last;
          contends = rejected.rejected_contends m IsText x b.candidate k.others b.due now k.e k.e k.last ready b.up
              b.is_due knows.unchanged b.begins polled polls new t.n
              is_rival tells;
          within = k.within;
          level = then_level;
          rounds = then_rounds;
          fixed = still_fixed w new x k.others then_asks k.fixed;
          room = k.room;
        };
        rival = t.n;
        among = t.o;
        was = λ none. settled t.n t.o none b.candidate b.up is_rival;
        settled = rejected.settles m IsText x b.candidate k.others b.due now k.e k.e k.last ready b.up b.is_due
            knows.unchanged b.begins polled polls new t.n is_rival tells t.o;
        stays = λ n o none. rejected.stays_settled m IsText x b.candidate k.others b.due now k.e k.e k.last ready
            b.up b.is_due knows.unchanged b.begins polled polls new
            t.n is_rival tells n o (settled n o none);
        asks = then_asks;
      }
