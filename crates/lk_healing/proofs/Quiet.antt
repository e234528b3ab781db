-- A quiet majority, from a candidate that waits to a leader that is ready.
use Rattle.std.proofs.Common.{◌≡◌, ◌∙◌, inl, inr, ℕ, ◌+◌, ◌*◌, ◌<◌, ◌≤◌, false, List, ◌∷◌, map, Contains}
use Rattle.std.proofs.Common.{Some, ap, sym, subst, arith}
use Rattle.std.proofs.lemmas.Bool.{cases_Bool}
use Rattle.lk_types.specs.declared.command.Request.{Request as RequestValue}
use Rattle.lk_types.specs.declared.genesis.Genesis.{Genesis}
use Rattle.lk_store_format.specs.Values.{HeaderValue}
use Rattle.lk_messages.specs.declared.message.Content.TheVariants as content
use Rattle.lk_state.specs.Meanings.{Meaning}
use Rattle.lk_leader.specs.Values.{has_vote_from}
use Rattle.lk_learner.specs.Learners.{alpha, executed}
use Rattle.lk_progress.proofs.Electing.{named_by}
use Rattle.lk_progress.proofs.Proposing.{next_set}
use Rattle.lk_progress.specs.Deciding.{IsReady}
use Rattle.lk_progress.specs.Electing.{promises}
use Rattle.lk_progress.specs.Exchanges.{prepare_by}
use Rattle.lk_leftovers.specs.Filling.{FilledLeaderIsReady}
use Rattle.lk_replica.specs.ReplicaValue.{ReplicaValue}
use Rattle.lk_sim.specs.WorldStates.{WorldState}
use Rattle.lk_world_progress.proofs.Stepping.{has_header, one_replica}
use Rattle.lk_world_progress.specs.Exchanging.{HasAnswered, HasNoted, number_of}
use Rattle.lk_world_leftovers.proofs.Filling.{found_vote}
use Rattle.lk_world_leftovers.proofs.Retrying.{HasWaited, waited}
use Rattle.lk_world_leftovers.specs.Answering.{IsReadyIn}
use Rattle.lk_world_leftovers.specs.Collecting.{promise_in}
use Rattle.lk_world_leftovers.specs.Filling.{IsFilling}
use Rattle.lk_world_leftovers.specs.Fixed.{FreshRequestsAreNew, IsFresh, NodesKnowMembers}
use Rattle.lk_world_leftovers.specs.Persisting.{Contends}
use Rattle.lk_healing.proofs.Begun.{has_begun, has_due, has_highest, has_reach, still_fixed}
use Rattle.lk_healing.proofs.Asks.{AsksNothing, asks_both, each_asks, tick_asks, turn_asks, waits_ask}
use Rattle.lk_healing.specs.Answers.{IsAnswered, IsQuietFor}
use Rattle.lk_healing.specs.Polls.{HasBegun, LeadsNow}
use Rattle.lk_healing.specs.Serving.{IsReadyFor}
use Rattle.lk_healing.specs.Waits.{BeginsAfter, MayBeginIn}
use Rattle.lk_healing.specs.declared.asking.Asking.{Asking}

module _ (m : Meaning) (IsText : List ℕ → Type 0) (w : WorldState ReplicaValue) (x : ℕ) (nodes : List ℕ)
    (r : RequestValue) (q : IsQuietFor m IsText w x nodes r) where
  pub may_begin : NodesKnowMembers m IsText → MayBeginIn w x
  may_begin law = record {
    replica = q.contends.candidate;
    up = q.contends.up;
    near = q.contends.near;
    idle = q.contends.idle;
    position = omega (arith, q.contends.reach, q.room);
    index = q.index;
    may = q.may;
    named =
        let knows = law w x q.contends.candidate q.contends.holds q.fixed.changes q.contends.up in
        named_by q.contends.candidate.node.learner.whole.roster.sets w.genesis.members x
        (next_set q.contends.candidate.node.learner.whole.roster w.genesis.members knows.members) q.fixed.named;
  }

  -- one position more
  pub contends_more : Contends m IsText w x q.e q.e q.others (q.e + 1)
  contends_more = record {
    holds = q.contends.holds;
    candidate = q.contends.candidate;
    up = q.contends.up;
    reach = q.contends.reach;
    idle = q.contends.idle;
    waiting = q.contends.waiting;
    known = q.contends.known;
    near = q.contends.near;
    pairs = λ p c. (let low = q.contends.pairs p c in omega (arith, low));
    votes = λ v c. (let low = q.contends.votes v c in omega (arith, low));
    others_may = λ n c.
        let v = q.contends.others_may n c in
        let far = q.reach n c v.replica v.up in
        record {
          replica = v.replica;
          up = v.up;
          near = v.near;
          behind = v.behind;
          reaches = omega (arith, far, q.contends.reach);
          pairs = λ p d. (let low = v.pairs p d in omega (arith, low));
          votes = λ y d. (let low = v.votes y d in omega (arith, low));
        };
    distinct = q.contends.distinct;
  }

  module _ (now : WorldState ReplicaValue) (asking : Asking) (b : BeginsAfter m IsText x w now asking) where
    same : AsksNothing w b.due
    same = waits_ask m IsText x b.ticks w b.due b.waits

    module _ (h : ℕ) (low : q.e ≤ h) (room : h < 281474976710656) (k : Contends m IsText w x q.e q.e q.others h) where
      then_waits : HasWaited m IsText x q.e q.e q.others h w b.due
      then_waits = waited m IsText x q.e q.e q.others h b.ticks w b.due k b.waits

      pub begun_as : HasBegun m IsText x nodes asking now
      begun_as = has_begun m IsText x nodes q.others q.are b.due now asking b.candidate b.up b.is_due b.begins b.cluster
          b.ballot b.first q.e h low room then_waits.contends (then_waits.settled q.others (λ n d. d) q.no_rival)
          (still_fixed w b.due x q.others same q.fixed)

      pub highest_is : begun_as.highest ≡ h
      unfolding begun_as
      highest_is = has_highest m IsText x nodes q.others q.are b.due now asking b.candidate b.up b.is_due b.begins
          b.cluster b.ballot b.first q.e h low room then_waits.contends
          (then_waits.settled q.others (λ n d. d) q.no_rival) (still_fixed w b.due x q.others same q.fixed)

      pub reach_is : executed begun_as.candidate.node.learner ≡ q.e
      unfolding begun_as
      reach_is = has_reach m IsText x nodes q.others q.are b.due now asking b.candidate b.up b.is_due b.begins
          b.cluster b.ballot b.first q.e h low room then_waits.contends
          (then_waits.settled q.others (λ n d. d) q.no_rival) (still_fixed w b.due x q.others same q.fixed)

      pub same_until : AsksNothing w begun_as.due
      unfolding begun_as
      same_until = subst (AsksNothing w) (sym (has_due m IsText x nodes q.others q.are b.due now asking b.candidate b.up
          b.is_due b.begins b.cluster b.ballot b.first q.e h low room then_waits.contends
          (then_waits.settled q.others (λ n d. d) q.no_rival) (still_fixed w b.due x q.others same q.fixed))) same

-- ---- ready

-- it asks nothing
pub led_asks : (m : Meaning) (IsText : List ℕ → Type 0) (x : ℕ) (nodes : List ℕ) (asking : Asking)
    (old new : WorldState ReplicaValue) (k : HasBegun m IsText x nodes asking old)
    → LeadsNow m IsText x nodes asking old new k → AsksNothing k.due new
led_asks m IsText x nodes asking old new k l = asks_both k.due l.run.ticked new
    (tick_asks m IsText k.due l.run.ticked (number_of k.candidate) l.run.ticks)
    (asks_both l.run.ticked l.run.asked new
    (each_asks m IsText (content.Node (number_of k.candidate) (prepare_by k.candidate.node))
    (map number_of (k.candidate ∷ k.others)) l.run.ticked l.run.asked l.run.asks)
    (turn_asks m IsText (number_of k.candidate)
    (promises (map (λ r. (number_of r, promise_in k.candidate.node r)) (k.candidate ∷ k.others))) l.run.asked new
    l.run.leads))

module _ (m : Meaning) (IsText : List ℕ → Type 0) (ready_law : FilledLeaderIsReady)
    (new_law : FreshRequestsAreNew m IsText) (x : ℕ) (nodes : List ℕ) (asking : Asking)
    (old new : WorldState ReplicaValue) (r : RequestValue) (k more : HasBegun m IsText x nodes asking old)
    (exact : k.highest ≡ executed k.candidate.node.learner) (next : more.highest ≡ k.highest + 1)
    (one : LeadsNow m IsText x nodes asking old new k) (two : LeadsNow m IsText x nodes asking old new more)
    (fresh : IsFresh new r) where
  abbrev leader : ReplicaValue
  leader = one.has.leader

  abbrev others : List ℕ
  others = map number_of k.others

  filling : IsFilling m IsText new x leader one.has.term k.set others k.highest
  filling = subst (λ (n : ℕ). IsFilling m IsText new n leader one.has.term k.set others k.highest) k.number
      one.has.fills

  filling_more : IsFilling m IsText new x two.has.leader two.has.term more.set (map number_of more.others) more.highest
  filling_more = subst (λ (n : ℕ). IsFilling m IsText new n two.has.leader two.has.term more.set
      (map number_of more.others) more.highest) more.number two.has.fills

  same_leader : two.has.leader ≡ leader
  same_leader = one_replica m IsText new filling.holds x two.has.leader leader filling_more.up filling.up

  same_term : two.has.term ≡ one.has.term
  same_term =
      let is : Some two.has.term ≡ Some one.has.term = sym filling_more.fills.leads.leads.current
      ∙ ap (λ (q : ReplicaValue). q.node.leader.term) same_leader ∙ filling.fills.leads.leads.current in
      cc is

  same_others : map number_of more.others ≡ others
  same_others = tail_same (number_of more.candidate) (number_of k.candidate) (map number_of more.others) others
      (sym more.are ∙ k.are)
    where
      tail_same : (i j : ℕ) (is js : List ℕ) → i ∷ is ≡ j ∷ js → is ≡ js
      tail_same i j is js e = cc e

  none_left : has_vote_from one.has.term.received (executed leader.node.learner + 1) ≡ false
  none_left = elim (cases_Bool (has_vote_from one.has.term.received (executed leader.node.learner + 1))) [
    | inl t ↦
        let low : executed leader.node.learner + 1 ≤ k.highest =
        found_vote (executed leader.node.learner + 1) one.has.term.received t k.highest filling.reported in
        absurd (omega (arith, low, exact, one.has.executed_is))
    | inr f ↦ f
  ]

  genesis_is : new.genesis ≡ old.genesis
  genesis_is = (led_asks m IsText x nodes asking old new k one).genesis
      ∙ sym (tick_asks m IsText k.due old (number_of k.candidate) k.ticks).genesis

  is_ready : IsReady leader.node one.has.term k.set
  is_ready = ready_law leader.node one.has.term k.set filling.fills none_left

  ready_in : IsReadyIn m IsText new x leader one.has.term k.set others
  ready_in = record {
    holds = filling.holds;
    up = filling.up;
    ready = is_ready;
    own = filling.own;
    voters = λ n c.
        let v = filling.voters n c in
        let u = filling_more.voters n (subst (λ (ns : List ℕ). Contains ns n) (sym same_others) c) in
        let far = u.reaches in
        let same : u.replica ≡ v.replica = one_replica m IsText new filling.holds n u.replica v.replica u.up v.up in (
          v.replica,
          v.up,
          record {
            from = v.votes;
            within = subst (λ (y : ReplicaValue). executed leader.node.learner + 1
                ≤ executed y.node.learner + 2 * alpha y.node.learner) same
                (omega (arith, far, next, exact, one.has.executed_is));
          },
        );
    distinct = filling.distinct;
    majority = filling.majority;
  }

  pub ready_for : IsReadyFor m IsText new x nodes asking r
  ready_for = record {
    others = others;
    are = k.are ∙ ap (λ (n : ℕ). n ∷ others) k.number;
    replica = leader;
    term = one.has.term;
    set = k.set;
    ready = ready_in;
    cluster = k.cluster ∙ ap (λ (g : Genesis). g.cluster) (sym genesis_is);
    ballot = k.ballot ∙ sym one.has.ballot;
    first = k.first ∙ ap (λ (i : ℕ). i + 1) (sym one.has.executed_is);
    fresh = new_law new x leader r filling.holds filling.up fresh;
  }

-- ---- all of it

module _ (m : Meaning) (IsText : List ℕ → Type 0) (ready_law : FilledLeaderIsReady)
    (new_law : FreshRequestsAreNew m IsText) (w : WorldState ReplicaValue) (x : ℕ)
    (nodes : List ℕ) (r : RequestValue) (q : IsQuietFor m IsText w x nodes r) (now last : WorldState ReplicaValue)
    (asking : Asking) (b : BeginsAfter m IsText x w now asking) where
  abbrev pub exact : HasBegun m IsText x nodes asking now
  exact = begun_as m IsText w x nodes r q now asking b q.e (omega arith) (omega (arith, q.room)) q.contends

  abbrev pub more : HasBegun m IsText x nodes asking now
  more = begun_as m IsText w x nodes r q now asking b (q.e + 1) (omega arith) q.room
      (contends_more m IsText w x nodes r q)

  exact_highest : exact.highest ≡ q.e
  exact_highest = highest_is m IsText w x nodes r q now asking b q.e (omega arith) (omega (arith, q.room))
      q.contends

  exact_reach : executed exact.candidate.node.learner ≡ q.e
  exact_reach = reach_is m IsText w x nodes r q now asking b q.e (omega arith) (omega (arith, q.room))
      q.contends

  more_highest : more.highest ≡ q.e + 1
  more_highest = highest_is m IsText w x nodes r q now asking b (q.e + 1) (omega arith) q.room
      (contends_more m IsText w x nodes r q)

  same_exact : AsksNothing w exact.due
  same_exact = same_until m IsText w x nodes r q now asking b q.e (omega arith) (omega (arith, q.room))
      q.contends

  pub ready_then : ((k : HasBegun m IsText x nodes asking now) → LeadsNow m IsText x nodes asking now last k)
      → IsReadyFor m IsText last x nodes asking r
  ready_then leads =
      let all : AsksNothing w last = asks_both w exact.due last same_exact
      (led_asks m IsText x nodes asking now last exact (leads exact)) in
      ready_for m IsText ready_law new_law x nodes asking now last r exact more (exact_highest ∙ sym exact_reach)
      (more_highest ∙ ap (λ (i : ℕ). i + 1) (sym exact_highest)) (leads exact) (leads more)
      (λ z c. q.fresh z (subst (λ (rs : List RequestValue). Contains rs z) all.asked c))

pub answered_by : (m : Meaning) (IsText : List ℕ → Type 0) (old new : WorldState ReplicaValue) (x : ℕ) (nodes : List ℕ)
    (asking : Asking) (r : RequestValue) (k : IsReadyFor m IsText old x nodes asking r)
    → HasAnswered m new k.replica.node r × HasNoted m new k.replica.node r → IsAnswered m new x r
answered_by m IsText old new x nodes asking r k a = record {
  node = k.replica.node;
  number = ap (λ (h : HeaderValue). h.node) (has_header m IsText old k.ready.holds x k.replica k.ready.up);
  answers = a.0;
  notes = a.1;
}
