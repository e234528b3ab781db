-- A node of a world that has executed less than another one takes that one's rejection, and asks it.
use Rattle.std.proofs.Common.{◌≡◌, ◌∙◌, ℕ, suc, ◌<◌, ◌≤◌, ◌++◌, List, [], length, Some}
use Rattle.std.proofs.Common.{refl, ap, sym, subst, arith}
use Rattle.lk_types.specs.declared.genesis.Genesis.{Genesis}
use Rattle.lk_store_format.specs.Values.{HeaderValue}
use Rattle.lk_messages.specs.Grammar.{Spells, spelling}
use Rattle.lk_messages.specs.declared.message.Content.{Content}
use Rattle.lk_messages.specs.declared.message.Content.TheVariants as content
use Rattle.lk_messages.specs.declared.message.Message.{Message}
use Rattle.lk_messages.specs.declared.message.Nack.{Nack}
use Rattle.lk_messages.specs.declared.message.NodeMessage.{NodeMessage}
use Rattle.lk_messages.specs.declared.message.NodeMessage.TheVariants as kinds
use Rattle.lk_agreement_laws.proofs.Histories.{chosen_short}
use Rattle.lk_agreement_laws.specs.Chosen.{Command}
use Rattle.lk_agreement_laws.specs.Datagrams.{Datagram}
use Rattle.lk_state.specs.Meanings.{Meaning}
use Rattle.lk_members.specs.Windows.{roster_after}
use Rattle.lk_state.specs.States.{WholeValue, whole_after}
use Rattle.lk_learner.specs.Learners.{executed, wanted}
use Rattle.lk_node_interface.specs.Envelopes.{batch_of, datagram_of}
use Rattle.lk_node_interface.specs.Saying.{saying}
use Rattle.lk_node.specs.Leavings.{header_of}
use Rattle.lk_node.specs.NodeValue.{NodeValue}
use Rattle.lk_node.specs.Telling.{envelope_to}
use Rattle.lk_node_interface.specs.Outboxes.{OutboxValue}
use Rattle.lk_progress.specs.Hearing.{Takes}
use Rattle.lk_replica.specs.ReplicaValue.{ReplicaValue}
use Rattle.lk_sim.specs.Refusals.{datagram_at}
use Rattle.lk_sim.specs.WorldStates.{WorldState}
use Rattle.lk_sim_nodes.specs.SimNodes.{IsUp}
use Rattle.lk_sim_nodes.specs.declared.sim_node.RunState.TheVariants.{Up}
use Rattle.lk_world_progress.proofs.Delivering.{TakesFrom, found_as, heard_from, still}
use Rattle.lk_world_progress.proofs.Stepping.{has_header, one_replica, up_fits}
use Rattle.lk_world_progress.specs.Delivering.{Hears, IsRested}
use Rattle.lk_world_progress.specs.Stepping.{Holds, IsUpAs}
use Rattle.lk_healing.proofs.Asks.{hears_asks}
use Rattle.lk_healing.proofs.Carrying.{is_up}
use Rattle.lk_healing.proofs.Gains.{Stays, gains_same, gains_still}
use Rattle.lk_healing.proofs.Hands.{sent_to}
use Rattle.lk_healing.proofs.Places.{at_end}
use Rattle.lk_healing.proofs.Replies.{AsksAlone, asked_writes, nack_asks, stays_asked}
use Rattle.lk_healing.proofs.Rests.{delivery_rests}
use Rattle.lk_healing.specs.Feeds.{MayFeed, MayGain, RestsBut}
use Rattle.lk_healing.specs.Halts.{IsOnItsWay, MayBeTaken}
use Rattle.lk_healing.specs.Polls.{StandsAt}
use Rattle.lk_healing.specs.declared.progress.Progress.{Progress}

pub state_executed : (m : Meaning) (genesis : Genesis) (L : List Command)
    → (whole_after m genesis L).roster.executed ≡ length L
unfolding whole_after roster_after
state_executed m genesis L = refl

-- a node has executed at most 2^48 positions
pub executed_short : (m : Meaning) (IsText : List ℕ → Type 0) (w : WorldState ReplicaValue) → Holds m IsText w → (n : ℕ)
    (r : ReplicaValue) → IsUpAs w n r → executed r.node.learner ≤ 281474976710656
executed_short m IsText w holds n r up =
    let u = up_fits m IsText w holds n r up in
    let done : List Command = u.holding.paxos.done in
    let reach : executed r.node.learner ≡ length done =
    ap (λ (x : WholeValue). x.roster.executed) u.shown.held.follows.sums ∙ state_executed m w.genesis done in
    omega (arith, reach, chosen_short w.genesis w.sent done u.fits.paxos.stems.done)

-- a delivery to another node leaves a node as it is, and one to either of two leaves the rest
pub delivery_rests_but : (m : Meaning) (IsText : List ℕ → Type 0) (n b a : ℕ) (x : Content)
    (old new : WorldState ReplicaValue) → ((k : ℕ) → (k ≡ b → ⊥) → (k ≡ a → ⊥) → k ≡ n → ⊥) → Hears m IsText n x old new
    → RestsBut b a old new
delivery_rests_but m IsText n b a x old new other h =
    let s : TakesFrom m IsText n x old new = heard_from m IsText n x old new h in
    let asks = hears_asks m IsText n x old new h in record {
      rests = λ k run_state not_b not_a c. s.others k run_state (other k not_b not_a) c;
      sent = still old new (batch_of n s.out.envelopes) s.sent;
      asked = asks.asked;
      genesis = s.genesis;
    }

module _ (m : Meaning) (IsText : List ℕ → Type 0) (b a : ℕ) (told : Progress) (old : WorldState ReplicaValue)
    (k : MayFeed m IsText old b a told) where
  abbrev r : ReplicaValue
  r = k.behind

  abbrev q : ReplicaValue
  q = k.ahead

  abbrev rejection : Content
  rejection = content.Node a (kinds.Nack told.nack)

  abbrev want : NodeMessage
  want = kinds.Want (wanted k.behind.node.learner)

  -- ---- before it

  pub own_up : IsUp old.sim_nodes b
  own_up = is_up old b r k.own.up

  pub nack_sent : (x : Message) → x ≡ record { cluster = told.cluster; content = content.Node a (kinds.Nack told.nack) }
      → IsOnItsWay old b x
  nack_sent x is = sent_to old a b (kinds.Nack told.nack) x k.sent
      (is ∙ (λ i. record { cluster = k.cluster i; content = content.Node a (kinds.Nack told.nack) }))

  pub nack_cluster : (x : Message)
      → x ≡ record { cluster = told.cluster; content = content.Node a (kinds.Nack told.nack) }
      → x.cluster ≡ old.genesis.cluster
  nack_cluster x is = ap (λ (y : Message). y.cluster) is ∙ k.cluster

  more : executed r.node.learner < told.nack.executed
  more = let e : told.nack.executed ≡ executed q.node.learner = ap (λ (n : Nack). n.executed) k.tells in
      omega (arith, e, k.less)

  few : executed r.node.learner < 281474976710656
  few = omega (arith, k.less, executed_short m IsText old k.own.holds a q k.other.up)

  -- ---- it takes the rejection

  module _ (mid : WorldState ReplicaValue)
      (h : Hears m IsText b (content.Node a (kinds.Nack told.nack)) old mid) where
    s : TakesFrom m IsText b (content.Node a (kinds.Nack told.nack)) old mid
    s = heard_from m IsText b (content.Node a (kinds.Nack told.nack)) old mid h

    start_is : s.start ≡ r.node
    start_is = (found_as m IsText b (content.Node a (kinds.Nack told.nack)) old mid r h.goes.before k.own.up s).rests
        (k.rested r k.own.up)

    asked : AsksAlone r.node s.last a told.nack s.out
    asked = nack_asks m IsText r.node s.last a told.nack s.out k.own.idle more few
        (subst (λ (node : NodeValue). Takes m IsText node (content.Node a (kinds.Nack told.nack)) s.last s.out) start_is
        s.takes)

    after_is : s.after.node ≡ s.last
    after_is = s.left.rests (asked_writes r.node s.last a told.nack s.out asked).rebase

    -- the node that has asked
    pub record Asked : Type 0 where
      pub asking : ReplicaValue
      pub own : MayGain m IsText mid k.last b asking
      pub own_rested : IsRested mid b
      pub learner : asking.node.learner ≡ r.node.learner
      pub before : asking.node.gathered_before ≡ r.node.gathered_before
      pub other : MayGain m IsText mid k.last a q
      pub other_rested : IsRested mid a
      pub stands : StandsAt mid a (suc (length old.sent)) (content.Node b want)
      pub rests : RestsBut b a old mid

    stays : Stays r.node s.after.node
    stays = subst (λ (node : NodeValue). Stays r.node node) (sym after_is)
        (stays_asked r.node s.last told.nack asked.becomes
        (omega (arith, ap (λ (n : Nack). n.ballot.round) k.tells))
        (omega (arith, ap (λ (n : Nack). n.promised.round) k.tells)))

    other_up : IsUpAs mid a q
    other_up = s.others a (Up q) (λ e. k.apart (sym e)) k.other.up

    header : r.node.header ≡ header_of old.genesis b
    header = has_header m IsText old k.own.holds b r k.own.up

    there : datagram_at mid.sent (suc (length old.sent)) ≡ Some (datagram_of b (envelope_to r.node want a))
    there = ap (λ (ds : List Datagram). datagram_at ds (suc (length old.sent)))
        (s.sent ∙ ap (λ (o : OutboxValue). old.sent ++ batch_of b o.envelopes) asked.comes_to)
        ∙ at_end old.sent (datagram_of b (envelope_to r.node want a)) []

    stands : StandsAt mid a (suc (length old.sent)) (content.Node b want)
    stands = (
      datagram_of b (envelope_to r.node want a),
      there,
      refl,
      subst (λ (g : Genesis). Spells (record { cluster = g.cluster; content = content.Node b want })
          (spelling (saying r.node.header want))) (sym s.genesis)
          (subst (λ (w : HeaderValue). Spells (record { cluster = w.cluster; content = content.Node w.node want })
          (spelling (saying r.node.header want))) header (asked.fits, refl)),
    )

    pub was_asked : Asked
    was_asked = record {
      asking = s.after;
      own = gains_still m IsText old mid k.last b r s.after k.own stays h.goes.after s.is s.genesis;
      own_rested = delivery_rests m IsText b (content.Node a (kinds.Nack told.nack)) old mid r k.own.up h
          (λ start last out found takes.
          let same : start ≡ r.node = found.rests (k.rested r k.own.up) in
          let w = asked_writes r.node last a told.nack out (nack_asks m IsText r.node last a told.nack out
          k.own.idle more
          few (subst (λ (node : NodeValue). Takes m IsText node (content.Node a (kinds.Nack told.nack)) last out) same
          takes)) in record {
            entries = w.entries;
            sync = w.sync;
            rebase = w.rebase;
            reach = w.reach ∙ ap (λ (node : NodeValue). executed node.learner) (sym same);
            snapshot = w.snapshot ∙ ap (λ (node : NodeValue). node.acceptor.state.snapshot_position) (sym same);
          });
      learner = ap (λ (node : NodeValue). node.learner) (after_is ∙ asked.becomes);
      before = ap (λ (node : NodeValue). node.gathered_before) (after_is ∙ asked.becomes);
      other = gains_same m IsText old mid k.last a q k.other h.goes.after other_up s.genesis;
      other_rested = λ p up. k.other_rested p
          (subst (λ (y : ReplicaValue). IsUpAs old a y) (one_replica m IsText mid h.goes.after a q p other_up up)
          k.other.up);
      stands = stands;
      rests = delivery_rests_but m IsText b b a (content.Node a (kinds.Nack told.nack)) old mid (λ j not_b not_a. not_b)
          h;
    }

    -- so the question can be delivered
    pub want_may_be_taken : MayBeTaken mid (suc (length old.sent))
    want_may_be_taken = (datagram_of b (envelope_to r.node want a), a, there, refl, is_up mid a q other_up)
