-- A candidate whose ballot nobody of its majority rejects leads.
use Rattle.std.proofs.Common.{◌≡◌, ◌∙◌, inl, ℕ, ◌+◌, List, ◌∷◌, map, Contains, refl, ap, sym, subst}
use Rattle.std.proofs.Common.{arith}
use Rattle.lk_types.specs.BallotValue.{BallotValue}
use Rattle.lk_types.specs.Ballots.{IsBelow}
use Rattle.lk_types.specs.declared.genesis.Genesis.{Genesis}
use Rattle.lk_messages.specs.declared.message.Content.{Content}
use Rattle.lk_messages.specs.declared.message.Content.TheVariants as content
use Rattle.lk_agreement_laws.proofs.Histories.{contains_more}
use Rattle.lk_state.specs.Meanings.{Meaning}
use Rattle.lk_state.specs.States.{WholeValue}
use Rattle.lk_learner.specs.Learners.{executed}
use Rattle.lk_node.specs.Beginning.{next_ballot}
use Rattle.lk_node.specs.CatchingUp.{refusal}
use Rattle.lk_progress.specs.Exchanges.{prepare_by}
use Rattle.lk_replica.specs.ReplicaValue.{ReplicaValue}
use Rattle.lk_sim.specs.WorldStates.{WorldState}
use Rattle.lk_sim_nodes.specs.declared.sim_node.RunState.TheVariants.{Up}
use Rattle.lk_world_progress.proofs.Stepping.{one_replica}
use Rattle.lk_world_progress.specs.Delivering.{HearsEach}
use Rattle.lk_world_progress.specs.Exchanging.{number_of}
use Rattle.lk_world_progress.specs.Stepping.{IsUpAs}
use Rattle.lk_world_leftovers.specs.Filling.{IsFilling}
use Rattle.lk_world_leftovers.specs.Fixed.{KnowsMembers}
use Rattle.lk_world_leftovers.specs.Persisting.{AreFixed, Contends, IsNoRival}
use Rattle.lk_healing.proofs.Asks.{asks_both, tick_asks}
use Rattle.lk_healing.proofs.Ballots as ballots
use Rattle.lk_healing.proofs.Begun.{has_begun, has_candidate, has_due}
use Rattle.lk_healing.proofs.Quiet.{led_asks}
use Rattle.lk_healing.proofs.Rejected as rejected
use Rattle.lk_healing.proofs.Stands.{rejection_stands, rival_told}
use Rattle.lk_healing.specs.Contending.{AsksNothing, MayStand}
use Rattle.lk_healing.specs.Polls.{HasBegun, HearsAt, LeadsNow}
use Rattle.lk_healing.specs.Standing.{IsRejectionAt, LeadsAfter}
use Rattle.lk_healing.specs.Waits.{BeginsAfter}
use Rattle.lk_healing.specs.declared.asking.Asking.{Asking}

module _ (m : Meaning) (IsText : List ℕ → Type 0) (w now : WorldState ReplicaValue) (x : ℕ) (nodes : List ℕ)
    (asking : Asking) (k : MayStand m IsText w x nodes) (b : BeginsAfter m IsText x w now asking) where
  abbrev ballot : BallotValue
  ballot = next_ballot b.candidate.node

  abbrev e : ℕ
  e = executed b.candidate.node.learner

  abbrev prepare : Content
  prepare = content.Node x (prepare_by b.candidate.node)

  abbrev same : AsksNothing w b.due
  same = ballots.same m IsText w now x nodes asking k b

  abbrev ready : Contends m IsText b.due x k.e k.e k.others k.last
  ready = ballots.ready m IsText w now x nodes asking k b

  abbrev fixed : AreFixed b.due x k.others
  fixed = ballots.fixed m IsText w now x nodes asking k b

  abbrev knows : KnowsMembers b.due.genesis b.candidate.node
  knows = ballots.knows m IsText w now x nodes asking k b

  abbrev apart : (n : ℕ) → Contains k.others n → n ≡ x → ⊥
  apart = ballots.apart m IsText w now x nodes asking k b

  module _ (polled : WorldState ReplicaValue) (places : List ℕ)
      (run : HearsAt m IsText (content.Node x (prepare_by b.candidate.node)) nodes places now polled)
      (none : (p : ℕ) → Contains places p → IsRejectionAt polled.sent p → ⊥) where
    abbrev run_them : HearsAt m IsText prepare (x ∷ k.others) places now polled
    run_them = ballots.run_them m IsText w now x nodes asking k b polled places run

    abbrev polls : HearsEach m IsText prepare (x ∷ k.others) now polled
    polls = ballots.polls m IsText w now x nodes asking k b polled places run

    no_rival : (n : ℕ) → Contains k.others n → IsNoRival b.due x n
    no_rival n o q up rival =
        let above : IsBelow ballot rival.replica.node.acceptor.state.promised =
        subst (λ (r : ReplicaValue). IsBelow (next_ballot r.node) rival.replica.node.acceptor.state.promised)
        (one_replica m IsText b.due ready.holds x q b.candidate up b.up) rival.above in
        let told = rival_told m IsText x e ballot (x ∷ k.others) places now polled b.begins.after k.contends.distinct
        run_them n (contains_more x k.others n o) rival.replica
        (rejected.others_stay m IsText x b.candidate k.others b.due now k.e k.e k.last ready b.up b.is_due
        knows.unchanged b.begins n (Up rival.replica)
        (apart n o) rival.up) above in
        none told.0 told.1 (rejection_stands polled x told.0 n (refusal ballot rival.replica.node) told.2)

    pub begun : HasBegun m IsText x nodes asking now
    begun = has_begun m IsText x nodes k.others k.are b.due now asking b.candidate b.up b.is_due b.begins b.cluster
        b.ballot b.first k.e k.last k.within k.room ready no_rival fixed

    pub same_prepare : prepare_by begun.candidate.node ≡ prepare_by b.candidate.node
    unfolding begun
    same_prepare = has_candidate m IsText x nodes k.others k.are b.due now asking b.candidate b.up b.is_due b.begins
        b.cluster b.ballot b.first k.e k.last k.within k.room ready no_rival fixed

    begun_due : begun.due ≡ b.due
    unfolding begun
    begun_due = has_due m IsText x nodes k.others k.are b.due now asking b.candidate b.up b.is_due b.begins b.cluster
        b.ballot b.first k.e k.last k.within k.room ready no_rival fixed

    others_are : map number_of begun.others ≡ k.others
    others_are = tail_same (number_of begun.candidate) x (map number_of begun.others) k.others
        (sym begun.are ∙ k.are)
      where
        tail_same : (i j : ℕ) (is js : List ℕ) → i ∷ is ≡ j ∷ js → is ≡ js
        tail_same i j is js eq = cc eq

    module _ (last : WorldState ReplicaValue) (l : LeadsNow m IsText x nodes asking now last begun)
        (turn : (n : ℕ) (q : ReplicaValue) → (n ≡ x → ⊥) → IsUpAs polled n q → IsUpAs last n q) where
      filling : IsFilling m IsText last x l.has.leader l.has.term begun.set k.others begun.highest
      filling = subst (λ (ns : List ℕ). IsFilling m IsText last x l.has.leader l.has.term begun.set ns begun.highest)
          others_are
          (subst (λ (n : ℕ). IsFilling m IsText last n l.has.leader l.has.term begun.set (map number_of begun.others)
          begun.highest) begun.number l.has.fills)

      begun_same : AsksNothing b.due last
      begun_same = subst (λ (v : WorldState ReplicaValue). AsksNothing v last) begun_due
          (led_asks m IsText x nodes asking now last begun l)

      last_level : (n : ℕ) → Contains k.others n → (q : ReplicaValue) → IsUpAs last n q
          → executed q.node.learner + 1 ≡ asking.first
      last_level n o q up =
          let took = rejected.took m IsText x b.candidate k.others b.due now k.e k.e k.last ready b.up b.is_due
          knows.unchanged b.begins polled polls n o in
          let is : executed q.node.learner ≡ executed b.candidate.node.learner =
          ap (λ (r : ReplicaValue). executed r.node.learner)
          (one_replica m IsText last filling.holds n q took.after up (turn n took.after (apart n o) took.is))
          ∙ ap (λ (v : WholeValue). v.roster.executed)
          (rejected.took_lasts m IsText x b.candidate k.others b.due now k.e k.e k.last ready b.up b.is_due
          knows.unchanged b.begins polled polls n o).whole
          ∙ ballots.their_reach m IsText w now x nodes asking k b n o
          ∙ sym (ballots.reach m IsText w now x nodes asking k b) in
          ap (λ (i : ℕ). i + 1) is ∙ sym b.first

      pub leads : LeadsAfter m IsText x nodes w last asking
      leads = record {
        fills = record {
          others = k.others;
          are = k.are;
          leader = l.has.leader;
          term = l.has.term;
          set = begun.set;
          last = begun.highest;
          fills = filling;
          cluster = begun.cluster ∙ ap (λ (g : Genesis). g.cluster)
              (sym (begun_same.genesis ∙ sym (tick_asks m IsText b.due now x b.begins).genesis));
          ballot = begun.ballot ∙ sym l.has.ballot;
          next_is = begun.first ∙ ap (λ (i : ℕ). i + 1) (sym l.has.executed_is);
          level = last_level;
          reach = omega arith;
          told = inl refl;
        };
        asks = asks_both w b.due last same begun_same;
      }
