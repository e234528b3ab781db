-- A candidate that stands may begin a ballot, and what its nodes reply to its Prepare.
use Rattle.std.proofs.Common.{◌≡◌, ◌∙◌, ◌⊎◌, ◌==◌, inl, inr, ℕ, zero, suc, ◌+◌, ◌<◌, ◌≤◌, true, List, [], ◌∷◌}
use Rattle.std.proofs.Common.{Some, Contains, length, nat_lt, refl, ap, sym, subst, arith}
use Rattle.std.proofs.lemmas.Bool.{cases_Bool}
use Rattle.std.proofs.lemmas.Bool.Decides.{nat_tests}
use Rattle.std.specs.List.{position, position_or_len}
use Rattle.lk_types.specs.BallotValue.{BallotValue}
use Rattle.lk_types.specs.Ballots.{IsAtMost, IsBelow}
use Rattle.lk_types.specs.declared.member.Member.{Member}
use Rattle.lk_types.specs.declared.vote.Vote.{Vote}
use Rattle.lk_store_format.specs.Entries.{plain}
use Rattle.lk_store_format.specs.Headers.{IsHeader}
use Rattle.lk_store_format.specs.Values.{HeaderValue}
use Rattle.lk_messages.proofs.Spellings.{one_message}
use Rattle.lk_messages.specs.Grammar.{Spells}
use Rattle.lk_messages.specs.declared.message.Content.{Content}
use Rattle.lk_messages.specs.declared.message.Content.TheVariants as content
use Rattle.lk_messages.specs.declared.message.Message.{Message}
use Rattle.lk_messages.specs.declared.message.Nack.{Nack}
use Rattle.lk_messages.specs.declared.message.NodeMessage.TheVariants as kinds
use Rattle.lk_agreement_laws.proofs.Histories.{cons_cases, contains_more}
use Rattle.lk_agreement_laws.specs.Datagrams.{Datagram}
use Rattle.lk_members.specs.Rosters.{is_member}
use Rattle.lk_state.specs.Meanings.{Meaning}
use Rattle.lk_learner.specs.Learners.{executed}
use Rattle.lk_node_interface.specs.Recipients.{index_in}
use Rattle.lk_node_interface.specs.declared.input.Input.TheVariants.{Tick}
use Rattle.lk_node.specs.CatchingUp.{refusal}
use Rattle.lk_node.specs.Leavings.{header_of}
use Rattle.lk_node.specs.Nearness.{AreNear}
use Rattle.lk_progress.proofs.Electing.{named_by}
use Rattle.lk_progress.proofs.Proposing.{next_set}
use Rattle.lk_progress.proofs.Rejecting.{above_or_not}
use Rattle.lk_replica.specs.ReplicaValue.{ReplicaValue}
use Rattle.lk_sim.specs.WorldStates.{WorldState}
use Rattle.lk_sim.specs.declared.event.Event.TheVariants as event
use Rattle.lk_sim_nodes.specs.declared.sim_node.RunState.{RunState}
use Rattle.lk_sim_nodes.specs.declared.sim_node.RunState.TheVariants.{Up}
use Rattle.lk_world_progress.proofs.Balloting.{found_has, found_tells, near_snapshot}
use Rattle.lk_world_progress.proofs.Delivering.{TakesFrom, found_as, heard_from}
use Rattle.lk_world_progress.proofs.Noting.{header_fits}
use Rattle.lk_world_progress.proofs.Stepping.{event_steps, found_header, has_header, up_fits}
use Rattle.lk_world_progress.specs.Delivering.{AreDistinct, Hears, HearsInTurn}
use Rattle.lk_world_progress.specs.Stepping.{Holds, IsFound, IsUpAs, Lives}
use Rattle.lk_world_leftovers.proofs.Fixed.{nodes_know}
use Rattle.lk_world_leftovers.specs.Persisting.{WaitsIn}
use Rattle.lk_healing.proofs.Places.{place_in, same_some}
use Rattle.lk_healing.proofs.Polls.{stands_later}
use Rattle.lk_healing.proofs.Envelopes.{kept, promises_first, promising, rejects_greater, reply_stands}
use Rattle.lk_healing.specs.Contending.{MayStand}
use Rattle.lk_healing.specs.Polls.{HearsAt, StandsAt}
use Rattle.lk_healing.specs.Standing.{IsRejectionAt}
use Rattle.lk_healing.specs.Waits.{MayBeginIn}

-- ---- who may begin a ballot

place_within : (n : ℕ) (set : List Member) → is_member n set ≡ true
    → position_or_len (λ m. m.node == n) set < length set
place_within n [] is = absurd (cc is)
place_within n (m ∷ set) is = elim (cases_Bool (m.node == n)) [
  | inl same ↦ rw same (omega arith)
  | inr other ↦ (let rest = place_within n set (rw other at is) in rw other (omega (arith, rest)))
]

-- a member has a place among the members
member_place : (n : ℕ) (set : List Member) → is_member n set ≡ true
    → (k : ℕ) × (k < length set) × (position (λ m. m.node == n) set ≡ Some k)
member_place n set is =
    let lt = place_within n set is in
    let t : nat_lt (position_or_len (λ m. m.node == n) set) (length set) ≡ true = grind (arith, nat_tests) in
    (position_or_len (λ m. m.node == n) set, lt, rw t refl)

module _ (m : Meaning) (IsText : List ℕ → Type 0) where
  pub header_valid : (w : WorldState ReplicaValue) → Holds m IsText w → (n : ℕ) (r : ReplicaValue) → IsUpAs w n r
      → IsHeader (header_of w.genesis n)
  header_valid w holds n r up =
      let u = up_fits m IsText w holds n r up in
      let kept = u.shown.keeps in
      header_fits kept.entries (plain kept.loose) w.genesis n kept.header kept.holds.on.fit

  pub may_begin_at : (w : WorldState ReplicaValue) (x : ℕ) (nodes : List ℕ) → MayStand m IsText w x nodes
      → MayBeginIn w x
  may_begin_at w x nodes k =
      let c = k.contends.candidate in
      let knows = nodes_know m IsText w x c k.contends.holds k.fixed.changes k.contends.up in
      let place = member_place x w.genesis.members k.fixed.named in
      let few = (header_valid w k.contends.holds x c k.contends.up).4.1 in
      let first = next_set c.node.learner.whole.roster w.genesis.members knows.members in
      record {
        replica = c;
        up = k.contends.up;
        near = k.contends.near;
        idle = k.contends.idle;
        position = omega (arith, k.contends.reach, k.within, k.room);
        index = place.0;
        may = record {
          member = subst (λ (n : ℕ). index_in c.node.learner.whole.roster.sets n ≡ Some place.0)
              (sym (ap (λ (h : HeaderValue). h.node) (has_header m IsText w k.contends.holds x c k.contends.up)))
              (place_in c.node.learner.whole.roster.sets w.genesis.members x first ∙ place.2);
          few = omega (arith, place.1, few);
          round = k.rounds x (subst (λ (ns : List ℕ). Contains ns x) (sym k.are) (0, omega arith, refl)) c
              k.contends.up;
        };
        named = named_by c.node.learner.whole.roster.sets w.genesis.members x first k.fixed.named;
      }

  -- ticks of one node change no other one
  pub waits_leave : (n j : ℕ) (old new : WorldState ReplicaValue) → WaitsIn m IsText n j old new → (k : ℕ)
      (run_state : RunState ReplicaValue) → (k ≡ n → ⊥) → Lives old k run_state → Lives new k run_state
  waits_leave n zero old new same k run_state ne there =
      subst (λ (w : WorldState ReplicaValue). Lives w k run_state) (sym same) there
  waits_leave n (suc j) old new d k run_state ne there = waits_leave n j d.0 new d.3 k run_state ne
      ((event_steps m IsText old d.0 (event.Tick n) n Tick d.1 (refl, refl)).others k run_state ne there)

  -- and so deliveries to one node
  pub turn_leaves : (n : ℕ) (xs : List Content) (old new : WorldState ReplicaValue) → HearsInTurn m IsText n xs old new
      → (k : ℕ) (run_state : RunState ReplicaValue) → (k ≡ n → ⊥) → Lives old k run_state → Lives new k run_state
  turn_leaves n [] old new same k run_state ne there =
      subst (λ (w : WorldState ReplicaValue). Lives w k run_state) (sym same) there
  turn_leaves n (x ∷ xs) old new turn k run_state ne there =
      turn_leaves n xs turn.0 new turn.2 k run_state ne ((heard_from m IsText n x old turn.0 turn.1).others k
      run_state ne there)

-- ---- replies

-- the node is up, and executed no more than this
pub record MayReply (w : WorldState ReplicaValue) (e n : ℕ) : Type 0 where
  pub replica : ReplicaValue
  pub up : IsUpAs w n replica
  pub near : AreNear replica.node.acceptor replica.node.learner
  pub behind : executed replica.node.learner ≤ e

module _ (m : Meaning) (IsText : List ℕ → Type 0) (x e : ℕ) (b : BallotValue) where
  abbrev prepare : Content
  prepare = content.Node x (kinds.Prepare b (e + 1))

  -- a rejection of this node, which has promised a greater ballot, stands there, or a promise
  abbrev pub Replies : WorldState ReplicaValue → ℕ → ℕ → ReplicaValue → Type 0
  Replies w n p q =
      (IsBelow b q.node.acceptor.state.promised
      × StandsAt w x p (content.Node n (kinds.Nack (refusal b q.node))))
      ⊎ ((vs : List Vote) × StandsAt w x p (content.Node n (promising b e vs)))

  module _ (n : ℕ) (q : ReplicaValue) (old new : WorldState ReplicaValue) (holds : Holds m IsText old)
      (up : IsUpAs old n q)
      (h : Hears m IsText n (content.Node x (kinds.Prepare b (e + 1))) old new) where
    s : TakesFrom m IsText n (content.Node x (kinds.Prepare b (e + 1))) old new
    s = heard_from m IsText n (content.Node x (kinds.Prepare b (e + 1))) old new h

    found : IsFound q s.start
    found = found_as m IsText n (content.Node x (kinds.Prepare b (e + 1))) old new q holds up s

    header : s.start.header ≡ header_of old.genesis n
    header = found_header q s.start found ∙ has_header m IsText old holds n q up

    rejects_there : IsBelow b q.node.acceptor.state.promised
        → StandsAt new x (suc (length old.sent)) (content.Node n (kinds.Nack (refusal b q.node)))
    rejects_there above =
        subst (λ (k : Nack). StandsAt new x (suc (length old.sent)) (content.Node n (kinds.Nack k)))
        (found_tells q s.start found (λ node. refusal b s.start ≡ refusal b node) (λ is. is) refl)
        (reply_stands m IsText n x (content.Node x (kinds.Prepare b (e + 1))) (kinds.Nack (refusal b s.start)) old new s
        header (rejects_greater m IsText s.start s.last x b (e + 1) s.out s.takes
        (found_has q s.start found (λ node. IsBelow b node.acceptor.state.promised) (λ p. p) above)))

    promises_there : AreNear q.node.acceptor q.node.learner → executed q.node.learner ≤ e
        → IsAtMost q.node.acceptor.state.promised b
        → (vs : List Vote) × StandsAt new x (suc (length old.sent)) (content.Node n (promising b e vs))
    promises_there near behind ballot = (
      kept s.start e,
      reply_stands m IsText n x (content.Node x (kinds.Prepare b (e + 1))) (promising b e (kept s.start e)) old new s
          header (promises_first m IsText s.start s.last x b e s.out
          (found_has q s.start found (λ node. AreNear node.acceptor node.learner) (near_snapshot q.node) near)
          (found_has q s.start found (λ node. IsAtMost node.acceptor.state.promised b) (λ p. p) ballot)
          (found_has q s.start found (λ node. executed node.learner ≤ e) (λ p. p) behind) s.takes),
    )

    replies_there : AreNear q.node.acceptor q.node.learner → executed q.node.learner ≤ e
        → Replies new n (suc (length old.sent)) q
    replies_there near behind = elim (above_or_not q.node.acceptor.state.promised b) [
      | inl above ↦ inl (above, rejects_there above)
      | inr ballot ↦ inr (promises_there near behind ballot)
    ]

  later_reply : (w : WorldState ReplicaValue) (n p : ℕ) (q : ReplicaValue) (ns ps : List ℕ)
      (new : WorldState ReplicaValue)
      → HearsAt m IsText prepare ns ps w new → Replies w n p q → Replies new n p q
  later_reply w n p q ns ps new run (inl rejects) =
      inl (
        rejects.0,
        stands_later m IsText x p (content.Node n (kinds.Nack (refusal b q.node))) prepare ns ps w new run
            rejects.1,
      )
  later_reply w n p q ns ps new run (inr promise) =
      inr (
        promise.0,
        stands_later m IsText x p (content.Node n (promising b e promise.0)) prepare ns ps w new run
            promise.1,
      )

  -- each of these places has the reply of a node
  pub who_replied : (ns ps : List ℕ) (old new : WorldState ReplicaValue) → Holds m IsText old → AreDistinct ns
      → (each : (n : ℕ) → Contains ns n → MayReply old e n) → HearsAt m IsText prepare ns ps old new → (p : ℕ)
      → Contains ps p → (n : ℕ) × (c : Contains ns n) × Replies new n p (each n c).replica
  who_replied [] [] old new holds distinct each run p c = absurd (omega (arith, c.1))
  who_replied [] (q ∷ qs) old new holds distinct each run p c = absurd run
  who_replied (k ∷ ks) [] old new holds distinct each run p c = absurd run
  who_replied (k ∷ ks) (q ∷ qs) old new holds distinct each run p c =
      let first : Contains (k ∷ ks) k = (0, omega arith, refl) in
      let one : MayReply old e k = each k first in
      elim (cons_cases q qs p c) [
        | inl is ↦ (
          k,
          first,
          subst (λ (i : ℕ). Replies new k i one.replica) (sym run.2 ∙ is)
              (later_reply run.0 k (suc (length old.sent)) one.replica ks qs new run.3
              (replies_there k one.replica old run.0 holds one.up run.1 one.near one.behind)),
        )
        | inr later ↦
            let rest = who_replied ks qs run.0 new run.1.goes.after distinct.1
            (λ n d. record {
              replica = (each n (contains_more k ks n d)).replica;
              up = (heard_from m IsText k prepare old run.0 run.1).others n
                  (Up (each n (contains_more k ks n d)).replica)
                  (λ same. distinct.0 (subst (λ (i : ℕ). Contains ks i) same d))
                  (each n (contains_more k ks n d)).up;
              near = (each n (contains_more k ks n d)).near;
              behind = (each n (contains_more k ks n d)).behind;
            }) run.3 p later in
            (rest.0, contains_more k ks rest.0 rest.1, rest.2)
      ]

  -- and whoever has promised a greater ballot has one for its rejection
  pub rival_told : (ns ps : List ℕ) (old new : WorldState ReplicaValue) → Holds m IsText old → AreDistinct ns
      → HearsAt m IsText prepare ns ps old new → (n : ℕ) → Contains ns n → (q : ReplicaValue) → IsUpAs old n q
      → IsBelow b q.node.acceptor.state.promised
      → (p : ℕ) × Contains ps p × StandsAt new x p (content.Node n (kinds.Nack (refusal b q.node)))
  rival_told [] ps old new holds distinct run n c q up above = absurd (omega (arith, c.1))
  rival_told (k ∷ ks) [] old new holds distinct run n c q up above = absurd run
  rival_told (k ∷ ks) (p ∷ ps) old new holds distinct run n c q up above = elim (cons_cases k ks n c) [
    | inl is ↦ (
      p,
      (0, omega arith, refl),
      subst (λ (i : ℕ). StandsAt new x i (content.Node n (kinds.Nack (refusal b q.node)))) (sym run.2)
          (stands_later m IsText x (suc (length old.sent)) (content.Node n (kinds.Nack (refusal b q.node))) prepare ks
          ps run.0 new run.3
          (subst (λ (j : ℕ). StandsAt run.0 x (suc (length old.sent))
          (content.Node j (kinds.Nack (refusal b q.node)))) is
          (rejects_there k q old run.0 holds (subst (λ (j : ℕ). IsUpAs old j q) (sym is) up) run.1 above))),
    )
    | inr later ↦
        let rest = rival_told ks ps run.0 new run.1.goes.after distinct.1 run.3 n later q
        ((heard_from m IsText k prepare old run.0 run.1).others n (Up q)
        (λ same. distinct.0 (subst (λ (i : ℕ). Contains ks i) same later)) up) above in
        (rest.0, contains_more p ps rest.0 rest.1, rest.2)
  ]

-- a rejection stands there
pub rejection_stands : (w : WorldState ReplicaValue) (x p n : ℕ) (k : Nack)
    → StandsAt w x p (content.Node n (kinds.Nack k)) → IsRejectionAt w.sent p
rejection_stands w x p n k stands = (
  stands.0,
  stands.1,
  record { cluster = w.genesis.cluster; from = n; nack = k; spelled = stands.3 },
)

-- a promise is none
pub promise_stands : (w : WorldState ReplicaValue) (x p n e : ℕ) (b : BallotValue) (vs : List Vote)
    → StandsAt w x p (content.Node n (promising b e vs)) → IsRejectionAt w.sent p → ⊥
promise_stands w x p n e b vs stands rejection =
    let same : stands.0 ≡ rejection.0 = same_some stands.0 rejection.0 (sym stands.1 ∙ rejection.1) in
    let r = rejection.2 in
    let is = one_message (record { cluster = w.genesis.cluster; content = content.Node n (promising b e vs) })
    (record { cluster = r.cluster; content = content.Node r.from (kinds.Nack r.nack) }) rejection.0.bytes
    (subst (λ (d : Datagram). Spells (record {
      cluster = w.genesis.cluster;
      content = content.Node n (promising b e vs);
    }) d.bytes) same stands.3) r.spelled in
    let differs : content.Node n (promising b e vs) ≡ content.Node r.from (kinds.Nack r.nack) =
    ap (λ (y : Message). y.content) is in
    absurd (cc differs)
