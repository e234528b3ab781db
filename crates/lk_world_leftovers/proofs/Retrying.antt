-- A candidate that is rejected, one rival after another, stays as it was.
use Rattle.std.proofs.Common.{◌≡◌, ◌∙◌, inl, inr, ℕ, zero, suc, ◌+◌, ◌≤◌, true, false, cond, List, [], ◌∷◌, Some}
use Rattle.std.proofs.Common.{None, length, Contains, nat_lt, eqb, refl, ap, sym, subst, arith}
use Rattle.std.proofs.lemmas.Bool.{cases_Bool, eq-eqb, eqb-true}
use Rattle.std.proofs.lemmas.Bool.Decides.{nat_tests}
use Rattle.lk_types.specs.BallotValue.{BallotValue}
use Rattle.lk_types.specs.Ballots.{IsBelow, is_below}
use Rattle.lk_messages.specs.declared.message.Content.{Content}
use Rattle.lk_messages.specs.declared.message.Content.TheVariants as content
use Rattle.lk_messages.specs.declared.message.Nack.{Nack}
use Rattle.lk_messages.specs.declared.message.NodeMessage.TheVariants as kinds
use Rattle.lk_agreement_laws.proofs.Histories.{cons_cases, contains_more}
use Rattle.lk_state.specs.Meanings.{Meaning}
use Rattle.lk_learner.specs.Learners.{executed}
use Rattle.lk_node_interface.specs.declared.input.Input.TheVariants.{Tick}
use Rattle.lk_node.specs.Beginning.{beginning, next_ballot}
use Rattle.lk_node.specs.CatchingUp.{refusal}
use Rattle.lk_node.specs.NodeValue.{NodeValue}
use Rattle.lk_node.specs.Waiting.{BeginsWhereDue, ticked}
use Rattle.lk_progress.specs.Electing.{AsksWindow, DueNodeAsks, IsDue}
use Rattle.lk_progress.specs.Exchanges.{prepare_by}
use Rattle.lk_rebases.proofs.Rebases.{idle_begins}
use Rattle.lk_replica.specs.ReplicaValue.{ReplicaValue}
use Rattle.lk_sim.specs.WorldStates.{WorldState}
use Rattle.lk_sim.specs.declared.event.Event.TheVariants as event
use Rattle.lk_sim_nodes.specs.declared.sim_node.RunState.TheVariants.{Up}
use Rattle.lk_world_progress.proofs.Balloting.{found_has, found_tells, tick_begins}
use Rattle.lk_world_progress.proofs.Delivering.{EachHeard, HeardIt, each_heard, heard_from, heard_it}
use Rattle.lk_world_progress.proofs.Rebasing.{begun_rests}
use Rattle.lk_world_progress.proofs.Stepping.{event_steps, one_replica}
use Rattle.lk_world_progress.specs.Balloting.{BeginsIn}
use Rattle.lk_world_progress.specs.Delivering.{AreDistinct}
use Rattle.lk_world_progress.specs.Exchanging.{number_of}
use Rattle.lk_world_progress.specs.Overtaking.{DeliveredNackRaises, GoesAboveIn, HasFewerRivals, IsRejected, IsRival}
use Rattle.lk_world_progress.specs.Overtaking.{RejectedCandidateHasFewerRivals}
use Rattle.lk_world_progress.specs.Stepping.{GoesWell, IsFound, IsUpAs, TakesStep}
use Rattle.lk_world_leftovers.proofs.Lasting.{Lasts, lasts_found, lasts_itself, lasts_promise, lasts_trans, may_vote}
use Rattle.lk_world_leftovers.proofs.Lasting.{nack_lasts, prepare_lasts, still_contends}
use Rattle.lk_world_leftovers.specs.Persisting.{Contends, IsNoRival, MayVote, RejectionsAreFew, Retries}
use Rattle.lk_world_leftovers.specs.Persisting.{RetriesInTurn, WaitsIn}

-- ---- a tick that begins nothing

module _ (m : Meaning) (IsText : List ℕ → Type 0) (old new : WorldState ReplicaValue) (x e top : ℕ) (others : List ℕ)
    (last : ℕ) (k : Contends m IsText old x e top others last) (goes : GoesWell m IsText old (event.Tick x) new)
    (idle : (r : ReplicaValue) → IsUpAs new x r → r.node.leader.term ≡ None)
    (s : TakesStep m IsText old x Tick new) where
  waiting_found : IsFound k.candidate s.start
  waiting_found = subst (λ (q : ReplicaValue). IsFound q s.start)
      (one_replica m IsText old k.holds x s.before k.candidate s.was k.up) s.found

  start_idle : s.start.leader.term ≡ None
  start_idle = found_has k.candidate s.start waiting_found (λ node. node.leader.term ≡ None) (λ q. q) k.idle

  start_waiting : s.start.leader.waiting ≡ []
  start_waiting = found_has k.candidate s.start waiting_found (λ node. node.leader.waiting ≡ []) (λ q. q) k.waiting

  begins : BeginsWhereDue (ticked s.start) s.last s.out
  begins = idle_begins s.start s.last s.out start_idle s.steps

  after_is : s.after.node ≡ s.last
  after_is = s.left.rests (begun_rests (ticked s.start) s.last s.out begins)

  last_is : s.last ≡ ticked s.start
  last_is = elim begins [
    | inl begun ↦ absurd (cc (sym (sym (ap (λ (n : NodeValue). n.leader.term) (after_is ∙ begun.1.becomes))
        ∙ idle s.after s.is)))
    | inr rests ↦ rests.1
  ]

  ticked_lasts : Lasts k.candidate.node s.after.node
  ticked_lasts = lasts_trans k.candidate.node s.start s.after.node (lasts_found k.candidate s.start waiting_found)
      (lasts_promise s.start s.after.node s.start.acceptor.state.promised
      (ap (λ (n : NodeValue). n.learner) (after_is ∙ last_is))
      (ap (λ (n : NodeValue). n.acceptor) (after_is ∙ last_is)))

  ticked_contends : Contends m IsText new x e top others last
  ticked_contends = still_contends m IsText old new x e top others last k s.after goes.after s.is ticked_lasts
      (ap (λ (n : NodeValue). n.leader.term) (after_is ∙ last_is) ∙ start_idle)
      (ap (λ (n : NodeValue). n.leader.waiting) (after_is ∙ last_is) ∙ start_waiting)
      (λ n c. may_vote old new top last n (k.others_may n c) (k.others_may n c).replica
      (s.others n (Up (k.others_may n c).replica)
      (λ is. k.distinct.0 (subst (λ (j : ℕ). Contains others j) is c)) (k.others_may n c).up)
      (lasts_itself (k.others_may n c).replica.node))

  -- nobody becomes a rival by it
  ballot_is : next_ballot s.after.node ≡ next_ballot k.candidate.node
  ballot_is = ap next_ballot (after_is ∙ last_is)
      ∙ found_tells k.candidate s.start waiting_found (λ node. next_ballot (ticked s.start) ≡ next_ballot node)
      (λ q. q) refl

  no_new_rival : (n : ℕ) → Contains others n → IsNoRival old x n → IsNoRival new x n
  no_new_rival n c none q up rival =
      none k.candidate k.up (record {
        replica = (k.others_may n c).replica;
        up = (k.others_may n c).up;
        above = subst (λ (r : ReplicaValue). IsBelow (next_ballot k.candidate.node) r.node.acceptor.state.promised)
            (one_replica m IsText new goes.after n rival.replica (k.others_may n c).replica rival.up
            (s.others n (Up (k.others_may n c).replica)
            (λ is. k.distinct.0 (subst (λ (j : ℕ). Contains others j) is c)) (k.others_may n c).up))
            (subst (λ (y : BallotValue). IsBelow y rival.replica.node.acceptor.state.promised)
            (ap (λ (r : ReplicaValue). next_ballot r.node) (one_replica m IsText new goes.after x q s.after up s.is)
            ∙ ballot_is) rival.above);
      })

module _ (m : Meaning) (IsText : List ℕ → Type 0) (x e top : ℕ) (others : List ℕ) (last : ℕ) where
  abbrev pub Settled : WorldState ReplicaValue → List ℕ → Type 0
  Settled w ns = (n : ℕ) → Contains ns n → IsNoRival w x n

  pub record HasWaited (old new : WorldState ReplicaValue) : Type 0 where
    pub contends : Contends m IsText new x e top others last
    pub settled : (ns : List ℕ) → ((n : ℕ) → Contains ns n → Contains others n) → Settled old ns → Settled new ns

  pub waited : (j : ℕ) (old new : WorldState ReplicaValue) → Contends m IsText old x e top others last
      → WaitsIn m IsText x j old new → HasWaited old new
  waited zero old new k same = record {
    contends = subst (λ (w : WorldState ReplicaValue). Contends m IsText w x e top others last) (sym same) k;
    settled = λ ns among none. subst (λ (w : WorldState ReplicaValue). Settled w ns) (sym same) none;
  }
  waited (suc j) old new k d =
      let s : TakesStep m IsText old x Tick d.0 =
      event_steps m IsText old d.0 (event.Tick x) x Tick d.1 (refl, refl) in
      let rest : HasWaited d.0 new =
      waited j d.0 new (ticked_contends m IsText old d.0 x e top others last k d.1 d.2 s) d.3 in
      record {
        contends = rest.contends;
        settled = λ ns among none. rest.settled ns among
            (λ n c. no_new_rival m IsText old d.0 x e top others last k d.1 d.2 s n (among n c) (none n c));
      }

-- ---- a rejected ballot

below_test : (a b : BallotValue) → IsBelow a b → is_below a b ≡ true
below_test a b (inl less) =
    let t : nat_lt a.round b.round ≡ true = grind (arith, nat_tests) in rw t refl
below_test a b (inr equal) =
    let f : nat_lt a.round b.round ≡ false = grind (arith, nat_tests) in
    let s : eqb a.round b.round ≡ true = eq-eqb a.round b.round equal.0 in
    let t : nat_lt a.node b.node ≡ true = grind (arith, nat_tests) in
    rw (f, s, t) refl

module _ (m : Meaning) (IsText : List ℕ → Type 0) (asks_law : DueNodeAsks) (raises_law : DeliveredNackRaises m IsText)
    (c : ReplicaValue) (others : List ℕ) (rival : ℕ) (old new : WorldState ReplicaValue) (e top last : ℕ)
    (k : Contends m IsText old (number_of c) e top others last)
    (r : IsRejected m IsText c others rival old new) where
  abbrev x : ℕ
  x = number_of c

  abbrev b : BallotValue
  b = next_ballot c.node

  abbrev prepare : Content
  prepare = content.Node x (prepare_by c.node)

  abbrev nack : Nack
  nack = refusal b r.is_rival.replica.node

  s : TakesStep m IsText old x Tick r.ticked
  s = event_steps m IsText old r.ticked (event.Tick x) x Tick r.ticks (refl, refl)

  same : k.candidate ≡ c
  same = one_replica m IsText old k.holds x k.candidate c k.up r.up

  found : IsFound c s.start
  found = subst (λ (q : ReplicaValue). IsFound q s.start) (one_replica m IsText old k.holds x s.before c s.was r.up)
      s.found

  due : IsDue s.start
  due = found_has c s.start found IsDue
      (λ d. record { idle = d.idle; waited = d.waited; round = d.round; position = d.position }) r.due

  asks : AsksWindow s.start s.last s.out
  asks = asks_law s.start s.last s.out due s.steps

  began_is : s.after.node ≡ beginning (next_ballot s.start) (ticked s.start)
  began_is = s.left.rests (begun_rests (ticked s.start) s.last s.out
      (idle_begins s.start s.last s.out due.idle s.steps)) ∙ asks.becomes

  began_lasts : Lasts c.node s.after.node
  began_lasts = lasts_trans c.node s.start s.after.node (lasts_found c s.start found)
      (lasts_promise s.start s.after.node (next_ballot s.start) (ap (λ (n : NodeValue). n.learner) began_is)
      (ap (λ (n : NodeValue). n.acceptor) began_is))

  began_waiting : s.after.node.leader.waiting ≡ []
  began_waiting = ap (λ (n : NodeValue). n.leader.waiting) began_is
      ∙ found_has c s.start found (λ node. node.leader.waiting ≡ []) (λ q. q)
      (subst (λ (q : ReplicaValue). q.node.leader.waiting ≡ []) same k.waiting)

  began : BeginsIn x c.node r.ticked
  began = tick_begins m IsText asks_law old r.ticked x c r.up r.due r.ticks

  began_same : began.after ≡ s.after
  began_same = one_replica m IsText r.ticked r.ticks.after x began.after s.after began.is s.is

  heard : EachHeard m IsText prepare others r.ticked r.asked
  heard = each_heard m IsText prepare others r.ticked r.asked r.ticks.after tt k.distinct.1 r.asks

  still_up : IsUpAs r.asked x s.after
  still_up = heard.others x (Up s.after) k.distinct.0 s.is

  told : HeardIt m IsText x (content.Node rival (kinds.Nack (refusal (next_ballot c.node) r.is_rival.replica.node)))
      s.after new
  told = heard_it m IsText x (content.Node rival (kinds.Nack (refusal (next_ballot c.node) r.is_rival.replica.node)))
      r.asked new s.after tt still_up r.tells

  told_lasts : Lasts told.start told.after.node × (told.start.leader.waiting ≡ [] → told.after.node.leader.waiting ≡ [])
  told_lasts = nack_lasts m IsText told.start told.after.node rival
      (refusal (next_ballot c.node) r.is_rival.replica.node) told.out told.takes

  raised : GoesAboveIn x s.after nack new
  raised = raises_law r.asked new x s.after rival nack still_up r.tells

  raised_same : raised.after ≡ told.after
  raised_same = one_replica m IsText new r.tells.goes.after x raised.after told.after raised.is told.is

  idle_again : told.after.node.leader.term ≡ None
  idle_again = subst (λ (q : ReplicaValue). q.node.leader.term ≡ None) raised_same
      (raised.ends began.term.0
      (subst (λ (q : ReplicaValue). q.node.leader.term ≡ Some began.term.0) began_same began.term.1)
      (subst (λ (y : BallotValue). is_below y nack.promised ≡ true) (sym began.term.2)
      (below_test b nack.promised r.is_rival.above)))

  -- another node
  module _ (n : ℕ) (o : Contains others n) where
    apart : n ≡ x → ⊥
    apart is = k.distinct.0 (subst (λ (j : ℕ). Contains others j) is o)

    abbrev voter : MayVote old top last n
    voter = k.others_may n o

    took : HeardIt m IsText n prepare voter.replica r.asked
    took = heard.heard n voter.replica o (s.others n (Up voter.replica) (apart) voter.up)

    took_up : IsUpAs new n took.after
    took_up = (heard_from m IsText x
        (content.Node rival (kinds.Nack (refusal (next_ballot c.node) r.is_rival.replica.node))) r.asked new
        r.tells).others n (Up took.after) apart took.is

    took_may : MayVote new top last n
    took_may = may_vote old new top last n voter took.after took_up
        (lasts_trans voter.replica.node took.start took.after.node
        (lasts_found voter.replica took.start took.found)
        (prepare_lasts m IsText took.start took.after.node x b (executed c.node.learner + 1) took.out took.takes))

  rejected_contends : Contends m IsText new (number_of c) e top others last
  rejected_contends = still_contends m IsText old new x e top others last k told.after r.tells.goes.after told.is
      (lasts_trans k.candidate.node s.after.node told.after.node
      (subst (λ (q : ReplicaValue). Lasts q.node s.after.node) (sym same) began_lasts)
      (lasts_trans s.after.node told.start told.after.node (lasts_found s.after told.start told.found) told_lasts.0))
      idle_again
      (told_lasts.1 (found_has s.after told.start told.found (λ node. node.leader.waiting ≡ []) (λ q. q) began_waiting))
      took_may

-- ---- one rejection after another

module _ (m : Meaning) (IsText : List ℕ → Type 0) (asks_law : DueNodeAsks) (raises_law : DeliveredNackRaises m IsText)
    (fewer_law : RejectedCandidateHasFewerRivals m IsText) (e top : ℕ) (others : List ℕ) (last : ℕ) where
  -- the candidate has heard of this one, is no rival's candidate of these any more, and goes on
  record HasRetried (x : ℕ) (rival : ℕ) (old new : WorldState ReplicaValue) : Type 0 where
    contends : Contends m IsText new x e top others last
    among : Contains others rival
    was_rival : IsNoRival old x rival → ⊥
    none : IsNoRival new x rival
    settled : (ns : List ℕ) → ((n : ℕ) → Contains ns n → Contains others n)
        → ((n : ℕ) → Contains ns n → IsNoRival old x n) → (n : ℕ) → Contains ns n → IsNoRival new x n

  retried_at : (rival : ℕ) (old due new : WorldState ReplicaValue) (c : ReplicaValue) (j : ℕ)
      → Contends m IsText old (number_of c) e top others last → WaitsIn m IsText (number_of c) j old due
      → IsRejected m IsText c others rival due new → HasRetried (number_of c) rival old new
  retried_at rival old due new c j k waits r =
      let w : HasWaited m IsText (number_of c) e top others last old due =
      waited m IsText (number_of c) e top others last j old due k waits in
      let fewer : HasFewerRivals m IsText c others rival due new r = fewer_law c others rival due new r in
      record {
        contends = rejected_contends m IsText asks_law raises_law c others rival due new e top last w.contends r;
        among = r.among;
        was_rival = λ none. w.settled (rival ∷ [])
            (λ n d. elim (cons_cases rival [] n d) [
              | inl is ↦ subst (λ (i : ℕ). Contains others i) is r.among
              | inr nobody ↦ absurd (omega (arith, nobody.1))
            ])
            (λ n d. elim (cons_cases rival [] n d) [
              | inl is ↦ subst (λ (i : ℕ). IsNoRival old (number_of c) i) is none
              | inr nobody ↦ absurd (omega (arith, nobody.1))
            ]) rival (0, omega arith, refl) c r.up r.is_rival;
        none = λ q up is. fewer.less (subst (λ (y : ReplicaValue). IsRival new (next_ballot y.node) rival)
            (one_replica m IsText new r.tells.goes.after (number_of c) q fewer.after up fewer.is) is);
        settled = λ ns amongst none n d q up is. w.settled ns amongst none n d c r.up
            (fewer.fewer n (amongst n d) (subst (λ (y : ReplicaValue). IsRival new (next_ballot y.node) n)
            (one_replica m IsText new r.tells.goes.after (number_of c) q fewer.after up fewer.is) is));
      }

  retried : (x rival : ℕ) (old new : WorldState ReplicaValue) → Contends m IsText old x e top others last
      → Retries m IsText x others rival old new → HasRetried x rival old new
  retried x rival old new k run = subst (λ (n : ℕ). HasRetried n rival old new) run.number
      (retried_at rival old run.due new run.candidate run.ticks
      (subst (λ (n : ℕ). Contends m IsText old n e top others last) (sym run.number) k)
      (subst (λ (n : ℕ). WaitsIn m IsText n run.ticks old run.due) (sym run.number) run.waits) run.rejected)

  -- the rivals, none of which was settled before
  record HaveRetried (x : ℕ) (rivals : List ℕ) (old new : WorldState ReplicaValue) : Type 0 where
    contends : Contends m IsText new x e top others last
    distinct : AreDistinct rivals
    among : (n : ℕ) → Contains rivals n → Contains others n
    settled : (n : ℕ) → Contains rivals n → IsNoRival new x n
    unsettled : (n : ℕ) → Contains rivals n → IsNoRival old x n → ⊥
    stays : (n : ℕ) → Contains others n → IsNoRival old x n → IsNoRival new x n

  all_retried : (x : ℕ) (rivals : List ℕ) (old new : WorldState ReplicaValue) → Contends m IsText old x e
      top others last
      → RetriesInTurn m IsText x others rivals old new → HaveRetried x rivals old new
  all_retried x [] old new k same = record {
    contends = subst (λ (w : WorldState ReplicaValue). Contends m IsText w x e top others last) (sym same) k;
    distinct = tt;
    among = λ n d. absurd (omega (arith, d.1));
    settled = λ n d. absurd (omega (arith, d.1));
    unsettled = λ n d. absurd (omega (arith, d.1));
    stays = λ n d none. subst (λ (w : WorldState ReplicaValue). IsNoRival w x n) (sym same) none;
  }
  all_retried x (y ∷ ys) old new k run =
      let one : HasRetried x y old run.0 = retried x y old run.0 k run.1 in
      let rest : HaveRetried x ys run.0 new = all_retried x ys run.0 new one.contends run.2 in
      let later : (n : ℕ) → Contains others n → IsNoRival old x n → IsNoRival run.0 x n =
      λ n d none. one.settled (n ∷ [])
      (λ i f. elim (cons_cases n [] i f) [
        | inl is ↦ subst (λ (a : ℕ). Contains others a) is d
        | inr nobody ↦ absurd (omega (arith, nobody.1))
      ])
      (λ i f. elim (cons_cases n [] i f) [
        | inl is ↦ subst (λ (a : ℕ). IsNoRival old x a) is none
        | inr nobody ↦ absurd (omega (arith, nobody.1))
      ]) n (0, omega arith, refl) in
      record {
        contends = rest.contends;
        distinct = (λ d. rest.unsettled y d one.none, rest.distinct);
        among = λ n d. elim (cons_cases y ys n d) [
          | inl is ↦ subst (λ (a : ℕ). Contains others a) is one.among
          | inr more ↦ rest.among n more
        ];
        settled = λ n d. elim (cons_cases y ys n d) [
          | inl is ↦ subst (λ (a : ℕ). IsNoRival new x a) is (rest.stays y one.among one.none)
          | inr more ↦ rest.settled n more
        ];
        unsettled = λ n d none. elim (cons_cases y ys n d) [
          | inl is ↦ one.was_rival (subst (λ (a : ℕ). IsNoRival old x a) (sym is) none)
          | inr more ↦ rest.unsettled n more (later n (rest.among n more) none)
        ];
        stays = λ n d none. rest.stays n d (later n d none);
      }

-- ---- how many

-- the list without the first of this number
abbrev without_first : ℕ → List ℕ → List ℕ
without_first n [] = []
without_first n (m ∷ ms) = cond (eqb m n) ms (m ∷ without_first n ms)

shorter : (n : ℕ) (ms : List ℕ) → Contains ms n → length (without_first n ms) + 1 ≡ length ms
shorter n [] c = absurd (omega (arith, c.1))
shorter n (m ∷ ms) c = elim (cases_Bool (eqb m n)) [
  | inl t ↦ rw t (omega arith)
  | inr f ↦ elim (cons_cases m ms n c) [
    | inl is ↦ absurd (cc (sym f ∙ eq-eqb m n is))
    | inr more ↦ rw f (let rest = shorter n ms more in omega (arith, rest))
  ]
]

still_there : (n k : ℕ) (ms : List ℕ) → (n ≡ k → ⊥) → Contains ms k → Contains (without_first n ms) k
still_there n k [] ne c = absurd (omega (arith, c.1))
still_there n k (m ∷ ms) ne c = elim (cases_Bool (eqb m n)) [
  | inl t ↦ rw t (elim (cons_cases m ms k c) [
    | inl is ↦ absurd (ne (sym (eqb-true m n t) ∙ is))
    | inr more ↦ more
  ])
  | inr f ↦ rw f (elim (cons_cases m ms k c) [
    | inl is ↦ (0, omega arith, is)
    | inr more ↦ contains_more m (without_first n ms) k (still_there n k ms ne more)
  ])
]

pub few_distinct : (ns ms : List ℕ) → AreDistinct ns → ((n : ℕ) → Contains ns n → Contains ms n) → length ns ≤ length ms
few_distinct [] ms distinct among = omega arith
few_distinct (n ∷ ns) ms distinct among =
    let rest : length ns ≤ length (without_first n ms) = few_distinct ns (without_first n ms) distinct.1
    (λ k c. still_there n k ms (λ is. distinct.0 (subst (λ (j : ℕ). Contains ns j) (sym is) c))
    (among k (contains_more n ns k c))) in
    let less : length (without_first n ms) + 1 ≡ length ms = shorter n ms (among n (0, omega arith, refl)) in
    omega (arith, rest, less)

pub rejections_few : (m : Meaning) (IsText : List ℕ → Type 0) → DueNodeAsks → DeliveredNackRaises m IsText
    → RejectedCandidateHasFewerRivals m IsText → RejectionsAreFew m IsText
rejections_few m IsText asks_law raises_law fewer_law x e top others last rivals old new k run =
    let all : HaveRetried m IsText asks_law raises_law fewer_law e top others last x rivals old new =
    all_retried m IsText asks_law raises_law fewer_law e top others last x rivals old new k run in
    record {
      contends = all.contends;
      distinct = all.distinct;
      among = all.among;
      few = few_distinct rivals others all.distinct all.among;
      settled = all.settled;
    }
