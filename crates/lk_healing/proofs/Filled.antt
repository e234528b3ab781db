-- One position filled: what is on its way, and where the leader fills on from.
use Rattle.std.proofs.Common.{◌≡◌, ◌∙◌, inl, inr, ℕ, ◌+◌, ◌-◌, ◌≤◌, ◌++◌, List, [], ◌∷◌, Contains}
use Rattle.std.proofs.Common.{drop, length, length-append, refl, ap, sym, subst, arith}
use Rattle.lk_types.specs.Ballots.{IsRealBallot}
use Rattle.lk_types.specs.Ranges.{IsCount}
use Rattle.lk_types.specs.declared.genesis.Genesis.{Genesis}
use Rattle.lk_types.specs.declared.vote.Vote.{Vote}
use Rattle.lk_messages.specs.declared.message.Content.{Content}
use Rattle.lk_messages.specs.declared.message.Content.TheVariants as content
use Rattle.lk_messages.specs.declared.message.Message.{Message}
use Rattle.lk_messages.specs.declared.message.NodeMessage.TheVariants as kinds
use Rattle.lk_agreement_laws.proofs.Histories.{cons_cases, contains_more}
use Rattle.lk_agreement_laws.specs.Datagrams.{Datagram, said_by}
use Rattle.lk_members.proofs.Memberships.{majority_lies_within}
use Rattle.lk_members.specs.Nodes.{nodes_of}
use Rattle.lk_state.specs.Meanings.{Meaning}
use Rattle.lk_learner.specs.Learners.{executed}
use Rattle.lk_node_interface.specs.Envelopes.{batch_of}
use Rattle.lk_node_interface.specs.declared.note.Note.{Note}
use Rattle.lk_progress.specs.Deciding.{acceptances}
use Rattle.lk_leftovers.specs.Accepting.{LeaderAccepts, VoterAccepts}
use Rattle.lk_replica.specs.ReplicaValue.{ReplicaValue}
use Rattle.lk_sim.specs.WorldStates.{WorldState}
use Rattle.lk_sim_nodes.specs.SimNodes.{IsUp}
use Rattle.lk_sim_nodes.specs.declared.sim_node.RunState.TheVariants.{Up}
use Rattle.lk_world_progress.proofs.Delivering.{TakesFrom, heard_from, still}
use Rattle.lk_world_progress.proofs.Stepping.{one_replica}
use Rattle.lk_world_progress.specs.Balloting.{HasSentTo}
use Rattle.lk_world_progress.specs.Delivering.{HearsEach, HearsInTurn}
use Rattle.lk_world_progress.specs.Stepping.{IsUpAs}
use Rattle.lk_world_leftovers.proofs.Filling.{next_offered}
use Rattle.lk_world_leftovers.specs.Filling.{FillingLeaderOffers, Fills, FillsOnIn, PositionIsFilled, decided_by}
use Rattle.lk_healing.proofs.Asks.{asks_both, asks_same, each_asks, turn_asks}
use Rattle.lk_healing.proofs.Carrying.{is_up}
use Rattle.lk_healing.proofs.Fills as filling
use Rattle.lk_healing.proofs.Hands.{each_up, sent_to}
use Rattle.lk_healing.proofs.Offers.{none_left, offers_next}
use Rattle.lk_healing.proofs.Serves.{member_there}
use Rattle.lk_healing.proofs.Stands.{turn_leaves}
use Rattle.lk_healing.proofs.Traces.{HasNotes, drop_front, turn_noted}
use Rattle.lk_healing.proofs.Waits.{some_number}
use Rattle.lk_healing.specs.Contending.{AsksNothing}
use Rattle.lk_healing.specs.Fills.{FillsOnce, HasFilled, OffersFrom, last_ran}
use Rattle.lk_healing.specs.Halts.{AreOnTheirWay}
use Rattle.lk_healing.specs.Standing.{FillsFrom, IsOffer, IsTold}
use Rattle.lk_healing.specs.declared.asking.Asking.{Asking}

-- ---- what was sent stays

module _ (m : Meaning) (IsText : List ℕ → Type 0) where
  each_grows : (x : Content) (ns : List ℕ) (old new : WorldState ReplicaValue) → HearsEach m IsText x ns old new
      → (d : Datagram) → Contains old.sent d → Contains new.sent d
  each_grows x [] old new same d c = subst (λ (w : WorldState ReplicaValue). Contains w.sent d) (sym same) c
  each_grows x (n ∷ ns) old new each d c =
      let s : TakesFrom m IsText n x old each.0 = heard_from m IsText n x old each.0 each.1 in
      each_grows x ns each.0 new each.2 d (still old each.0 (batch_of n s.out.envelopes) s.sent d c)

  turn_grows : (n : ℕ) (xs : List Content) (old new : WorldState ReplicaValue) → HearsInTurn m IsText n xs old new
      → (d : Datagram) → Contains old.sent d → Contains new.sent d
  turn_grows n [] old new same d c = subst (λ (w : WorldState ReplicaValue). Contains w.sent d) (sym same) c
  turn_grows n (x ∷ xs) old new turn d c =
      let s : TakesFrom m IsText n x old turn.0 = heard_from m IsText n x old turn.0 turn.1 in
      turn_grows n xs turn.0 new turn.2 d (still old turn.0 (batch_of n s.out.envelopes) s.sent d c)

-- what a leader that fills was told of stays so
pub told_grows : (old new : WorldState ReplicaValue) (x : ℕ) (others : List ℕ) (asking : Asking)
    → ((d : Datagram) → Contains old.sent d → Contains new.sent d) → IsTold old x others asking
    → IsTold new x others asking
told_grows old new x others asking grows k = record {
  vote = k.vote;
  offered = (k.offered.0, grows k.offered.0 k.offered.1, k.offered.2);
  told = λ n c. (let one = k.told n c in (one.0, grows one.0 one.1, one.2, one.3));
}

module _ (m : Meaning) (IsText : List ℕ → Type 0) (old : WorldState ReplicaValue) (x : ℕ) (nodes : List ℕ)
    (asking : Asking) (next : ℕ) (v : Vote) (o : OffersFrom m IsText old x nodes asking next v) where
  abbrev k : FillsFrom m IsText old x nodes asking next
  k = o.fills

  among : (n : ℕ) → Contains nodes n → Contains (x ∷ k.others) n
  among n c = subst (λ (ns : List ℕ). Contains ns n) k.are c

  pub was_up : (n : ℕ) → Contains nodes n → IsUp old.sim_nodes n
  was_up n c = elim (cons_cases x k.others n (among n c)) [
    | inl is ↦ subst (λ (j : ℕ). IsUp old.sim_nodes j) is (is_up old x k.leader k.fills.up)
    | inr other ↦ is_up old n (k.fills.voters n other).replica (k.fills.voters n other).up
  ]

  pub leader_in : Contains nodes x
  leader_in = subst (λ (ns : List ℕ). Contains ns x) (sym k.are) (0, omega arith, refl)

  in_set : (n : ℕ) → Contains nodes n → Contains (nodes_of k.set) n
  in_set n c = member_there k.set n (majority_lies_within k.set (x ∷ k.others) n k.fills.majority (among n c))

  -- the Accept
  pub offer_is : (y : Message) → y ≡ record { cluster = asking.cluster; content = content.Node x (kinds.Accept v) }
      → y ≡ said_by old.genesis x (kinds.Accept v)
  offer_is y is = is ∙ (λ i. record { cluster = k.cluster i; content = content.Node x (kinds.Accept v) })

  pub offers_on_their_way : (y : Message) → y ≡ said_by old.genesis x (kinds.Accept v) → AreOnTheirWay old nodes y
  offers_on_their_way y is n c = (
    was_up n c,
    sent_to old x n (kinds.Accept v) y
        (subst (λ (z : Vote). HasSentTo old x n (kinds.Accept z)) (sym o.proposed.is)
        (next_offered m IsText old x k.leader k.term k.set k.others k.last k.fills o.proposed.proposal
        o.proposed.there n (in_set n c))) is,
  )

  module _ (leader_law : LeaderAccepts m IsText) (voter_law : VoterAccepts m IsText) (mid : WorldState ReplicaValue)
      (accepts : HearsEach m IsText (content.Node x (kinds.Accept v)) nodes old mid) where
    pub accepts_them : HearsEach m IsText (content.Node x (kinds.Accept v)) (x ∷ k.others) old mid
    accepts_them = subst (λ (ns : List ℕ). HearsEach m IsText (content.Node x (kinds.Accept v)) ns old mid) k.are
        accepts

    pub mid_up : (n : ℕ) → Contains nodes n → IsUp mid.sim_nodes n
    mid_up n c = each_up m IsText (content.Node x (kinds.Accept v)) nodes old mid accepts n (was_up n c)

    pub mid_cluster : asking.cluster ≡ mid.genesis.cluster
    mid_cluster = k.cluster ∙ ap (λ (g : Genesis). g.cluster)
        (sym (each_asks m IsText (content.Node x (kinds.Accept v)) nodes old mid accepts).genesis)

    pub replies_sent : (n : ℕ) → Contains nodes n → HasSentTo mid n x (kinds.Accepted v)
    replies_sent n c = filling.replied_now m IsText leader_law voter_law old mid x k.leader k.term k.set k.others k.last
        v k.fills o.proposed accepts_them n (among n c)

    module _ (fill_law : PositionIsFilled m IsText) (new : WorldState ReplicaValue)
        (replies : HearsInTurn m IsText x (acceptances nodes v) mid new) where
      abbrev run : Fills m IsText x (x ∷ k.others) v old new
      run = record {
        accepted = mid;
        accepts = accepts_them;
        replies = subst (λ (ns : List ℕ). HearsInTurn m IsText x (acceptances ns v) mid new) k.are replies;
      }

      pub on : FillsOnIn m IsText x k.leader k.term k.set k.others k.last v old new run
      on = fill_law old new x k.leader k.term k.set k.others k.last v k.fills o.proposed run

      grows : (d : Datagram) → Contains old.sent d → Contains new.sent d
      grows d c = turn_grows m IsText x (acceptances nodes v) mid new replies d
          (each_grows m IsText (content.Node x (kinds.Accept v)) nodes old mid accepts d c)

      asks : AsksNothing old new
      asks = asks_both old mid new (each_asks m IsText (content.Node x (kinds.Accept v)) nodes old mid accepts)
          (turn_asks m IsText x (acceptances nodes v) mid new replies)

      apart : (n : ℕ) → Contains k.others n → n ≡ x → ⊥
      apart n c is = k.fills.distinct.0 (subst (λ (j : ℕ). Contains k.others j) is c)

      level : (n : ℕ) → Contains k.others n → (q : ReplicaValue) → IsUpAs new n q
          → executed q.node.learner + 1 ≡ asking.first
      level n c q up =
          let voting = filling.voting m IsText leader_law voter_law old mid x k.leader k.term k.set k.others k.last v
          k.fills o.proposed accepts_them n c in
          ap (λ (i : ℕ). i + 1)
          (ap (λ (r : ReplicaValue). executed r.node.learner)
          (one_replica m IsText new on.fills.holds n q voting.after up
          (turn_leaves m IsText x (acceptances nodes v) mid new replies n (Up voting.after) (apart n c) voting.is))
          ∙ filling.voted_reach m IsText leader_law voter_law old mid x k.leader k.term k.set k.others k.last v k.fills
          o.proposed accepts_them n c)
          ∙ k.level n c (k.fills.voters n c).replica (k.fills.voters n c).up

      -- the others were told of the first position
      first_told : next ≡ asking.first → IsTold new x k.others asking
      first_told is = record {
        vote = v;
        offered = (
          o.offer.0,
          grows o.offer.0 o.offer.1,
          record {
            position = o.offer.2.position ∙ is;
            ballot = o.offer.2.ballot;
            spelled = o.offer.2.spelled;
          },
        );
        told = λ n c. sent_to new x n (kinds.Decided (decided_by v))
            (record { cluster = asking.cluster; content = content.Node x (kinds.Decided (decided_by v)) })
            (on.tells n (in_set n (subst (λ (ns : List ℕ). Contains ns n) (sym k.are) (contains_more x k.others n c)))
            (some_number m IsText old k.fills.holds n (k.fills.voters n c).replica (k.fills.voters n c).up)
            (apart n c))
            (λ i. record {
              cluster = (k.cluster ∙ ap (λ (g : Genesis). g.cluster) (sym asks.genesis)) i;
              content = content.Node x (kinds.Decided (decided_by v));
            });
      }

      told : IsTold new x k.others asking
      told = elim k.told [
        | inl first ↦ first_told first
        | inr before ↦ told_grows old new x k.others asking grows before
      ]

      module _ (after : ℕ) (is : after ≡ last_ran x (next - 1) (drop (length mid.trace) new.trace) + 1) where
        own_there : IsUpAs mid x (filling.own m IsText leader_law voter_law old mid x k.leader k.term k.set k.others
            k.last v k.fills o.proposed accepts_them).after
        own_there = (filling.own m IsText leader_law voter_law old mid x k.leader k.term k.set k.others k.last v k.fills
            o.proposed accepts_them).is

        noted : HasNotes x mid (filling.own m IsText leader_law voter_law old mid x k.leader k.term k.set k.others
            k.last v k.fills o.proposed accepts_them).after new on.after
        noted = turn_noted m IsText x v nodes mid new (filling.taken m IsText leader_law voter_law old mid x k.leader
            k.term k.set k.others k.last v k.fills o.proposed accepts_them).holds replies _ own_there on.after
            on.fills.up

        before_is : next - 1 ≡ executed (filling.own m IsText leader_law voter_law old mid x k.leader k.term k.set
            k.others k.last v k.fills o.proposed accepts_them).after.node.learner
        before_is =
            let reach = filling.own_reach m IsText leader_law voter_law old mid x k.leader k.term k.set k.others k.last
            v k.fills o.proposed accepts_them in
            omega (arith, reach, k.next_is)

        pub after_is : after ≡ executed on.after.node.learner + 1
        after_is = is ∙ ap (λ (i : ℕ). i + 1)
            (ap (last_ran x (next - 1)) (drop_front mid.trace noted.more new.trace noted.trace)
            ∙ ap (λ (i : ℕ). last_ran x i noted.more) before_is ∙ sym noted.tells)

        pub fills_once : FillsOnce m IsText x nodes asking next old new after
        fills_once = record {
          fills = record {
            others = k.others;
            are = k.are;
            leader = on.after;
            term = on.term;
            set = k.set;
            last = k.last;
            fills = on.fills;
            cluster = k.cluster ∙ ap (λ (g : Genesis). g.cluster) (sym asks.genesis);
            ballot = k.ballot ∙ sym on.ballot;
            next_is = after_is;
            level = level;
            reach = omega (arith, k.reach, k.next_is, after_is, on.moves);
            told = inr told;
          };
          more = omega (arith, k.next_is, after_is, on.moves);
          asks = asks;
        }

        -- a position is left for it
        pub in_range : after ≤ 281474976710656
        in_range = omega (arith, after_is, on.fills.within, k.fills.room)

        -- what was noted stays noted
        pub trace_grows : length mid.trace ≤ length new.trace
        trace_grows = subst (λ (notes : List Note). length mid.trace ≤ length notes) (sym noted.trace)
            (let longer : length (mid.trace ++ noted.more) ≡ length mid.trace + length noted.more =
            length-append mid.trace noted.more in omega (arith, longer))

-- ---- one position after another

module _ (m : Meaning) (IsText : List ℕ → Type 0) (x : ℕ) (nodes : List ℕ) (asking : Asking)
    (old : WorldState ReplicaValue) where
  -- so many positions are filled at least
  pub record HasFilledSo (i : ℕ) (now : WorldState ReplicaValue) (next : ℕ) : Type 0 where
    pub fills : FillsFrom m IsText now x nodes asking next
    pub many : i ≤ next
    pub asks : AsksNothing old now

  pub begins_filling : FillsFrom m IsText old x nodes asking asking.first → HasFilledSo 0 old asking.first
  begins_filling k = record { fills = k; many = omega arith; asks = asks_same old }

  module _ (now : WorldState ReplicaValue) (i next : ℕ) (h : HasFilledSo i now next) where
    -- what was found is what the leader has proposed
    pub offers : (v : Vote) → IsOffer now.sent x asking next v
        → OffersFrom m IsText now x nodes asking v.position v
    offers v o = subst (λ (j : ℕ). OffersFrom m IsText now x nodes asking j v) (sym o.2.position) (record {
      fills = h.fills;
      proposed = offers_next m IsText now x nodes asking next h.fills v o;
      offer = o;
    })

    -- nothing was found
    pub filled_so : FillingLeaderOffers m IsText → IsRealBallot asking.ballot → IsCount next
        → ((v : Vote) → IsOffer now.sent x asking next v → ⊥) → HasFilled m IsText x nodes asking old now next
    filled_so law real count none = record {
      filled = record {
        fills = h.fills;
        none_left = none_left m IsText now x nodes asking next h.fills law real count none;
      };
      asks = h.asks;
    }

    pub filled_more : (new : WorldState ReplicaValue) (after position : ℕ) → position ≡ next
        → FillsOnce m IsText x nodes asking position now new after → HasFilledSo (i + 1) new after
    filled_more new after position is once = record {
      fills = once.fills;
      many = omega (arith, h.many, once.more, is);
      asks = asks_both old now new h.asks once.asks;
    }

    pub ends_filling : 562949953421312 ≤ i → ⊥
    ends_filling enough = omega (arith, h.many, enough, h.fills.next_is, h.fills.fills.within, h.fills.fills.room)
