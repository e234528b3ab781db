-- The others take the first command that was decided, and the leader is ready.
use Rattle.std.proofs.Common.{◌≡◌, ◌∙◌, inl, inr, ℕ, ◌+◌, ◌-◌, ◌*◌, ◌<◌, ◌≤◌, false, List, [], ◌∷◌, drop, length, take}
use Rattle.std.proofs.Common.{Contains, refl, ap, sym, subst, arith}
use Rattle.std.proofs.lemmas.List.{take_all, length-drop}
use Rattle.lk_types.specs.declared.genesis.Genesis.{Genesis}
use Rattle.lk_types.specs.declared.command.Request.{Request as RequestValue}
use Rattle.lk_types.specs.declared.member.Member.{Member}
use Rattle.lk_types.specs.declared.vote.Vote.{Vote}
use Rattle.lk_messages.specs.Grammar.{Spells}
use Rattle.lk_messages.specs.declared.message.Content.{Content}
use Rattle.lk_messages.specs.declared.message.Content.TheVariants as content
use Rattle.lk_messages.specs.declared.message.Message.{Message}
use Rattle.lk_messages.specs.declared.message.NodeMessage.TheVariants as kinds
use Rattle.lk_agreement_laws.proofs.Histories.{cons_cases, contains_more}
use Rattle.lk_agreement_laws.specs.Datagrams.{WasSent}
use Rattle.lk_state.specs.Meanings.{Meaning}
use Rattle.lk_leader.specs.Terms.{TermValue}
use Rattle.lk_leader.specs.Values.{has_vote_from}
use Rattle.lk_learner.specs.Learners.{alpha, executed}
use Rattle.lk_leftovers.proofs.Filling.{filled_ready}
use Rattle.lk_replica.specs.ReplicaValue.{ReplicaValue}
use Rattle.lk_sim.specs.WorldStates.{WorldState}
use Rattle.lk_sim_nodes.specs.declared.sim_node.RunState.TheVariants.{Up}
use Rattle.lk_world_feeding.specs.Asking.{SentCommandsAreExecuted}
use Rattle.lk_world_progress.proofs.Delivering.{TakesFrom, heard_from}
use Rattle.lk_world_progress.proofs.Stepping.{shown}
use Rattle.lk_world_progress.specs.Delivering.{AreDistinct, HearsEach}
use Rattle.lk_world_progress.specs.Stepping.{Holds, IsUpAs}
use Rattle.lk_world_leftovers.proofs.Catching.{caught_fills, caught_reaches, reaches_still}
use Rattle.lk_world_leftovers.proofs.Fixed.{fresh_new}
use Rattle.lk_world_leftovers.specs.Exchanging.{CatchesUp, ReachesNext}
use Rattle.lk_world_leftovers.specs.Filling.{IsFilling, decided_by}
use Rattle.lk_world_leftovers.specs.Fixed.{IsFresh}
use Rattle.lk_healing.proofs.Asks.{asks_same, each_asks}
use Rattle.lk_healing.proofs.Carrying.{is_up}
use Rattle.lk_healing.specs.Contending.{AsksNothing}
use Rattle.lk_healing.specs.Fills.{HasCaughtUp, IsFilledAt, IsLedAt}
use Rattle.lk_healing.specs.Halts.{AreOnTheirWay, IsOnItsWay}
use Rattle.lk_healing.specs.Serving.{IsReadyFor}
use Rattle.lk_healing.specs.Standing.{IsOffer, IsTold}
use Rattle.lk_healing.specs.declared.asking.Asking.{Asking}

-- all but the first
pub behind_first : (xs : List ℕ) → take (length xs - 1) (drop 1 xs) ≡ drop 1 xs
behind_first xs = take_all (length xs - 1) (drop 1 xs) (omega (arith, length-drop 1 xs))

-- each position of a window has a set, as many as the genesis tells
alpha_is : (m : Meaning) (IsText : List ℕ → Type 0) (w : WorldState ReplicaValue) → Holds m IsText w → (n : ℕ)
    (r : ReplicaValue) → IsUpAs w n r → (alpha r.node.learner ≡ w.genesis.alpha) × (1 ≤ w.genesis.alpha)
alpha_is m IsText w holds n r up =
    let told = (shown m IsText w holds n r up).1.told.tells in
    (omega (arith, told.window), omega (arith, told.some))

-- ---- one after another

module _ (m : Meaning) (IsText : List ℕ → Type 0) (law : SentCommandsAreExecuted m IsText) (x : ℕ)
    (leader : ReplicaValue) (t : TermValue) (set : List Member) (others : List ℕ) (last : ℕ) (v : Vote) where
  abbrev told : Content
  told = content.Node x (kinds.Decided (decided_by v))

  -- the node's next position is that of the vote, and its next 2 alpha end where the leader has executed
  abbrev StandsAtEnd : WorldState ReplicaValue → ℕ → Type 0
  StandsAtEnd w n = (q : ReplicaValue) × IsUpAs w n q × (executed q.node.learner + 1 ≡ v.position)
      × (executed q.node.learner + 2 * alpha q.node.learner ≤ executed leader.node.learner)

  record HaveCaught (ns : List ℕ) (old new : WorldState ReplicaValue) : Type 0 where
    fills : IsFilling m IsText new x leader t set others last
    reaches : (n : ℕ) → Contains ns n → ReachesNext new leader n
    kept : (n : ℕ) → Contains others n → (Contains ns n → ⊥) → ReachesNext old leader n → ReachesNext new leader n

  all_caught : (ns : List ℕ) (old new : WorldState ReplicaValue) → IsFilling m IsText old x leader t set others last
      → v.position ≤ executed leader.node.learner → AreDistinct ns → ((n : ℕ) → Contains ns n → Contains others n)
      → ((n : ℕ) → Contains ns n → StandsAtEnd old n) → HearsEach m IsText told ns old new → HaveCaught ns old new
  all_caught [] old new k low distinct among each same = record {
    fills = subst (λ (w : WorldState ReplicaValue). IsFilling m IsText w x leader t set others last) (sym same) k;
    reaches = λ n c. absurd (omega (arith, c.1));
    kept = λ n c not near. subst (λ (w : WorldState ReplicaValue). ReachesNext w leader n) (sym same) near;
  }
  all_caught (n ∷ ns) old new k low distinct among each run =
      let first : Contains (n ∷ ns) n = (0, omega arith, refl) in
      let q = each n first in
      let one : CatchesUp m IsText x n old run.0 = record {
        leader = leader;
        up = k.up;
        voter = q.0;
        voter_up = q.1;
        ends = q.3;
        from = x;
        told = decided_by v;
        begins = omega (arith, q.2);
        some = omega (arith, q.2);
        known = omega (arith, low);
        takes = run.1;
      } in
      let s : TakesFrom m IsText n told old run.0 = heard_from m IsText n told old run.0 run.1 in
      let here : Contains others n = among n first in
      let rest : HaveCaught ns run.0 new = all_caught ns run.0 new
      (caught_fills m IsText law x leader t set others last n old run.0 k here one) low distinct.1
      (λ j c. among j (contains_more n ns j c))
      (λ j c. (let p = each j (contains_more n ns j c) in (
        p.0,
        s.others j (Up p.0) (λ is. distinct.0 (subst (λ (i : ℕ). Contains ns i) is c)) p.1,
        p.2,
        p.3,
      ))) run.2 in
      record {
        fills = rest.fills;
        reaches = λ j c. elim (cons_cases n ns j c) [
          | inl is ↦ subst (λ (i : ℕ). ReachesNext new leader i) is (rest.kept n here distinct.0
              (caught_reaches m IsText law x leader t set others last n old run.0 k here one))
          | inr later ↦ rest.reaches j later
        ];
        kept = λ j c not near. rest.kept j c (λ later. not (contains_more n ns j later))
            (reaches_still m IsText law x leader t set others last n old run.0 k here one j
            (λ is. not (0, omega arith, sym is)) c near);
      }

-- ---- the first vote

module _ (m : Meaning) (IsText : List ℕ → Type 0) (old : WorldState ReplicaValue) (x : ℕ) (nodes : List ℕ)
    (asking : Asking)
    (next : ℕ) (filled : IsFilledAt m IsText old x nodes asking next) where
  was_sent : (v : Vote) → IsOffer old.sent x asking asking.first v
      → WasSent old.genesis old.sent (kinds.Accept (record {
        position = asking.first;
        ballot = asking.ballot;
        command = v.command;
      }))
  was_sent v o =
      let spelled = subst (λ (c : ℕ). Spells (record { cluster = c; content = content.Node x (kinds.Accept v) })
      o.0.bytes) filled.fills.cluster o.2.spelled in
      subst (λ (z : Vote). WasSent old.genesis old.sent (kinds.Accept z))
      (λ i. record { position = o.2.position i; ballot = o.2.ballot i; command = v.command })
      (record {
        sender = x;
        has_sent = record {
          datagram = o.0;
          listed = o.1;
          from = filled.fills.fills.holds.world.sound.signed o.0 o.1 x (kinds.Accept v) spelled;
          spelled = spelled;
        };
      })

  -- there is one vote that it can have offered there
  same_offer : (v u : Vote) → IsOffer old.sent x asking asking.first v → IsOffer old.sent x asking asking.first u
      → u ≡ v
  same_offer v u o p =
      let command = filled.fills.fills.holds.world.sound.one_value asking.ballot asking.first u.command v.command
      (was_sent u p) (was_sent v o) in
      λ i. record {
        position = (p.2.position ∙ sym o.2.position) i;
        ballot = (p.2.ballot ∙ sym o.2.ballot) i;
        command = command i;
      }

  -- ---- no need to catch up

  pub near_enough : next < asking.first + 2 * old.genesis.alpha → HasCaughtUp m IsText x nodes asking next old old
  near_enough near = record {
    led = record {
      others = filled.fills.others;
      are = filled.fills.are;
      leader = filled.fills.leader;
      term = filled.fills.term;
      set = filled.fills.set;
      last = filled.fills.last;
      fills = filled.fills.fills;
      cluster = filled.fills.cluster;
      ballot = filled.fills.ballot;
      next_is = filled.fills.next_is;
      none_left = filled.none_left;
      reaches = λ n c q up.
          let is = filled.fills.level n c q up in
          let width = (alpha_is m IsText old filled.fills.fills.holds n q up).0 in
          omega (arith, is, width, near, filled.fills.next_is);
    };
    asks = asks_same old;
  }

  -- ---- they do

  module _ (far : asking.first + 2 * old.genesis.alpha ≤ next) where
    some : 1 ≤ old.genesis.alpha
    some = (alpha_is m IsText old filled.fills.fills.holds x filled.fills.leader filled.fills.fills.up).1

    pub is_told : IsTold old x filled.fills.others asking
    is_told = elim filled.fills.told [ inl same ↦ absurd (omega (arith, same, far, some)) | inr told ↦ told ]

    pub is_offered : ((v : Vote) → IsOffer old.sent x asking asking.first v → ⊥) → ⊥
    is_offered none = none is_told.vote is_told.offered

    module _ (v : Vote) (o : IsOffer old.sent x asking asking.first v) (y : Message)
        (y_is : y ≡ record { cluster = asking.cluster; content = content.Node x (kinds.Decided (decided_by v)) }) where
      rest_are : drop 1 nodes ≡ filled.fills.others
      rest_are = ap (drop 1) filled.fills.are

      pub told_on_their_way : AreOnTheirWay old (drop 1 nodes) y
      told_on_their_way = subst (λ (ns : List ℕ). AreOnTheirWay old ns y) (sym rest_are) (λ n c. (
        is_up old n (filled.fills.fills.voters n c).replica (filled.fills.fills.voters n c).up,
        subst (λ (z : Message). IsOnItsWay old n z)
            ((λ i. record {
              cluster = asking.cluster;
              content = content.Node x (kinds.Decided (decided_by (same_offer v is_told.vote o is_told.offered i)));
            }) ∙ sym y_is) (is_told.told n c),
      ))

      module _ (law : SentCommandsAreExecuted m IsText) (new : WorldState ReplicaValue)
          (hears : HearsEach m IsText y.content (drop 1 nodes) old new) where
        hears_them : HearsEach m IsText (content.Node x (kinds.Decided (decided_by v))) filled.fills.others old new
        hears_them = subst (λ (z : Message). HearsEach m IsText z.content filled.fills.others old new) y_is
            (subst (λ (ns : List ℕ). HearsEach m IsText y.content ns old new) rest_are hears)

        caught : HaveCaught m IsText law x filled.fills.leader filled.fills.term filled.fills.set filled.fills.others
            filled.fills.last v filled.fills.others old new
        caught = all_caught m IsText law x filled.fills.leader filled.fills.term filled.fills.set filled.fills.others
            filled.fills.last v filled.fills.others old new filled.fills.fills
            (omega (arith, o.2.position, far, some, filled.fills.next_is)) filled.fills.fills.distinct.1 (λ n c. c)
            (λ n c.
            let u = filled.fills.fills.voters n c in
            let is = filled.fills.level n c u.replica u.up in
            let width = (alpha_is m IsText old filled.fills.fills.holds n u.replica u.up).0 in (
              u.replica,
              u.up,
              is ∙ sym o.2.position,
              omega (arith, is, width, far, filled.fills.next_is),
            )) hears_them

        same : AsksNothing old new
        same = each_asks m IsText (content.Node x (kinds.Decided (decided_by v))) filled.fills.others old new hears_them

        pub have_caught_up : HasCaughtUp m IsText x nodes asking next old new
        have_caught_up = record {
          led = record {
            others = filled.fills.others;
            are = filled.fills.are;
            leader = filled.fills.leader;
            term = filled.fills.term;
            set = filled.fills.set;
            last = filled.fills.last;
            fills = caught.fills;
            cluster = filled.fills.cluster ∙ ap (λ (g : Genesis). g.cluster) (sym same.genesis);
            ballot = filled.fills.ballot;
            next_is = filled.fills.next_is;
            none_left = filled.none_left;
            reaches = caught.reaches;
          };
          asks = same;
        }

-- ---- ready

pub led_ready : (m : Meaning) (IsText : List ℕ → Type 0) (w : WorldState ReplicaValue) (x : ℕ) (nodes : List ℕ)
    (asking : Asking) (next : ℕ) (r : RequestValue) → IsLedAt m IsText w x nodes asking next → IsFresh w r
    → IsReadyFor m IsText w x nodes (record { cluster = asking.cluster; ballot = asking.ballot; first = next }) r
led_ready m IsText w x nodes asking next r k fresh = record {
  others = k.others;
  are = k.are;
  replica = k.leader;
  term = k.term;
  set = k.set;
  ready = record {
    holds = k.fills.holds;
    up = k.fills.up;
    ready = filled_ready k.leader.node k.term k.set k.fills.fills
        (subst (λ (i : ℕ). has_vote_from k.term.received i ≡ false) k.next_is k.none_left);
    own = k.fills.own;
    voters = λ n c.
        let v = k.fills.voters n c in
        let near = k.reaches n c v.replica v.up in
        (v.replica, v.up, record { from = v.votes; within = omega (arith, near) });
    distinct = k.fills.distinct;
    majority = k.fills.majority;
  };
  cluster = k.cluster;
  ballot = k.ballot;
  first = k.next_is;
  fresh = fresh_new m IsText w x k.leader r k.fills.holds k.fills.up fresh;
}

-- whoever asks nothing leaves the request fresh
pub still_fresh : (old new : WorldState ReplicaValue) (r : RequestValue) → AsksNothing old new → IsFresh old r
    → IsFresh new r
still_fresh old new r same fresh z c =
    fresh z (subst (λ (rs : List RequestValue). Contains rs z) same.asked c)
