-- What is on its way while a leader that is ready serves a request.
use Rattle.std.proofs.Common.{◌≡◌, ◌∙◌, ◌==◌, inl, inr, ℕ, true, List, [], ◌∷◌, Contains, refl, ap, sym, subst}
use Rattle.std.proofs.Common.{arith}
use Rattle.std.proofs.lemmas.Bool.{cases_Bool, eqb-true}
use Rattle.std.proofs.lemmas.List.Elements.{Contains-append_right}
use Rattle.lk_types.specs.declared.command.Request.{Request as RequestValue}
use Rattle.lk_types.specs.declared.genesis.Genesis.{Genesis}
use Rattle.lk_types.specs.declared.member.Member.{Member}
use Rattle.lk_types.specs.declared.vote.Vote.{Vote}
use Rattle.lk_messages.specs.Grammar.{spelling}
use Rattle.lk_messages.specs.declared.message.Content.TheVariants as content
use Rattle.lk_messages.specs.declared.message.Message.{Message}
use Rattle.lk_messages.specs.declared.message.NodeMessage.TheVariants as kinds
use Rattle.lk_agreement_laws.proofs.Histories.{cons_cases, contains_more}
use Rattle.lk_agreement_laws.specs.Datagrams.{Datagram, said_by}
use Rattle.lk_members.proofs.Memberships.{majority_lies_within}
use Rattle.lk_members.specs.Effects.{Request}
use Rattle.lk_members.specs.Nodes.{nodes_of}
use Rattle.lk_members.specs.Rosters.{is_member}
use Rattle.lk_state.specs.Meanings.{Meaning}
use Rattle.lk_progress.specs.Deciding.{FreshRequestIsProposed, NearNodeAccepts, acceptances}
use Rattle.lk_replica.specs.ReplicaValue.{ReplicaValue}
use Rattle.lk_sim.specs.Events.{IsAsked}
use Rattle.lk_sim.specs.WorldStates.{WorldState}
use Rattle.lk_sim.specs.declared.event.Event.TheVariants as event
use Rattle.lk_sim_nodes.specs.SimNodes.{IsUp}
use Rattle.lk_sim_nodes.specs.declared.sim_node.SimNode.{SimNode}
use Rattle.lk_world_progress.specs.Balloting.{HasSentTo}
use Rattle.lk_world_progress.specs.Delivering.{HearsEach, HearsInTurn}
use Rattle.lk_world_progress.specs.Exchanging.{HasAnswered, HasNoted}
use Rattle.lk_world_progress.specs.Stepping.{GoesWell}
use Rattle.lk_world_leftovers.proofs.Serving.{proposed_sent, replied}
use Rattle.lk_world_leftovers.specs.Answering.{IsServed, ReadyLeaderAnswers, Serves, vote_in}
use Rattle.lk_healing.proofs.Carrying.{is_up}
use Rattle.lk_healing.proofs.Asks.{each_asks}
use Rattle.lk_healing.proofs.Hands.{each_up, same_genesis, sent_to, stays_up}
use Rattle.lk_healing.specs.Halts.{AreOnTheirWay, IsOnItsWay}
use Rattle.lk_healing.specs.Serving.{IsReadyFor, TakesRequest}
use Rattle.lk_healing.specs.declared.asking.Asking.{Asking}

pub member_there : (set : List Member) (n : ℕ) → is_member n set ≡ true → Contains (nodes_of set) n
member_there [] n is = absurd (cc is)
member_there (m ∷ set) n is = elim (cases_Bool (m.node == n)) [
  | inl same ↦ (0, omega arith, eqb-true m.node n same)
  | inr other ↦ contains_more m.node (nodes_of set) n (member_there set n (rw other at is))
]

-- ---- the request

module _ (m : Meaning) (IsText : List ℕ → Type 0) (old asked : WorldState ReplicaValue) (x : ℕ) (r : RequestValue)
    (goes : GoesWell m IsText old (event.Client x r) asked) where
  asking : IsAsked old asked x r
  asking = goes.done.1

  pub asked_genesis : asked.genesis ≡ old.genesis
  asked_genesis = asking.adds.genesis

  pub asked_up : (n : ℕ) → IsUp old.sim_nodes n → IsUp asked.sim_nodes n
  asked_up n up = subst (λ (sim_nodes : List (SimNode ReplicaValue)). IsUp sim_nodes n) (sym asking.sim_nodes) up

  pub asked_sent : (y : Message) → y ≡ record { cluster = old.genesis.cluster; content = content.Request r }
      → IsOnItsWay asked x y
  asked_sent y is = (
    asking.datagram,
    subst (λ (ds : List Datagram). Contains ds asking.datagram) (sym asking.adds.sent)
        (Contains-append_right old.sent (asking.datagram ∷ []) asking.datagram (0, omega arith, refl)),
    asking.to,
    asking.spelled.1 ∙ ap spelling (sym is),
  )

-- ---- what follows

module _ (m : Meaning) (IsText : List ℕ → Type 0) (law : FreshRequestIsProposed m IsText)
    (old mid : WorldState ReplicaValue) (x : ℕ) (nodes : List ℕ) (asking : Asking) (r : RequestValue)
    (k : IsReadyFor m IsText old x nodes asking r) (p : TakesRequest m IsText x r old mid) where
  abbrev vote : Vote
  vote = vote_in k.replica k.term r

  -- the vote that is asked for
  pub vote_is : (v : Vote) → v ≡ record { position = asking.first; ballot = asking.ballot; command = Request r }
      → v ≡ vote_in k.replica k.term r
  vote_is v is = is ∙ (λ i. record { position = k.first i; ballot = k.ballot i; command = Request r })

  among : (n : ℕ) → Contains nodes n → Contains (x ∷ k.others) n
  among n c = subst (λ (ns : List ℕ). Contains ns n) k.are c

  pub was_up : (n : ℕ) → Contains nodes n → IsUp old.sim_nodes n
  was_up n c = elim (cons_cases x k.others n (among n c)) [
    | inl is ↦ subst (λ (i : ℕ). IsUp old.sim_nodes i) is (is_up old x k.replica k.ready.up)
    | inr other ↦
        let v = k.ready.voters n other in is_up old n v.0 v.1
  ]

  pub proposed_up : (n : ℕ) → IsUp old.sim_nodes n → IsUp mid.sim_nodes n
  proposed_up n up = stays_up m IsText x (content.Request r) p.asked mid p.takes n
      (asked_up m IsText old p.asked x r p.asks n up)

  pub accepts_on_their_way : (y : Message) → y ≡ said_by mid.genesis x (kinds.Accept vote) → AreOnTheirWay mid nodes y
  accepts_on_their_way y is n c = (
    proposed_up n (was_up n c),
    sent_to mid x n (kinds.Accept vote) y
        (proposed_sent m IsText law x k.replica k.term k.set r k.others old k.ready k.fresh p.asked p.asks mid p.takes n
        (member_there k.set n (majority_lies_within k.set (x ∷ k.others) n k.ready.majority (among n c)))) is,
  )

  genesis_is : mid.genesis ≡ old.genesis
  genesis_is = same_genesis m IsText x (content.Request r) p.asked mid p.takes
      ∙ asked_genesis m IsText old p.asked x r p.asks

  -- what the leader says then
  pub accept_is : (y : Message) (v : Vote) → v ≡ vote_in k.replica k.term r
      → y ≡ record { cluster = asking.cluster; content = content.Node x (kinds.Accept v) }
      → y ≡ said_by mid.genesis x (kinds.Accept (vote_in k.replica k.term r))
  accept_is y v same is = is ∙ (λ i. record {
    cluster = (k.cluster ∙ ap (λ (g : Genesis). g.cluster) (sym genesis_is)) i;
    content = content.Node x (kinds.Accept (same i));
  })

  leader_there : Contains nodes x
  leader_there = subst (λ (ns : List ℕ). Contains ns x) (sym k.are) (0, omega arith, refl)

  module _ (near : NearNodeAccepts m IsText) (polled : WorldState ReplicaValue)
      (polls : HearsEach m IsText (content.Node x (kinds.Accept vote)) nodes mid polled) where
    polls_them : HearsEach m IsText (content.Node x (kinds.Accept vote)) (x ∷ k.others) mid polled
    polls_them = subst (λ (ns : List ℕ). HearsEach m IsText (content.Node x (kinds.Accept vote)) ns mid polled)
        k.are polls

    pub polled_up : (n : ℕ) → Contains nodes n → IsUp polled.sim_nodes n
    polled_up n c = each_up m IsText (content.Node x (kinds.Accept vote)) nodes mid polled polls n
        (proposed_up n (was_up n c))

    pub leader_up : IsUp polled.sim_nodes x
    leader_up = polled_up x leader_there

    pub polled_cluster : asking.cluster ≡ polled.genesis.cluster
    polled_cluster = k.cluster ∙ ap (λ (g : Genesis). g.cluster)
        (sym ((each_asks m IsText (content.Node x (kinds.Accept vote)) nodes mid polled polls).genesis ∙ genesis_is))

    pub replies_sent : (n : ℕ) → Contains nodes n → HasSentTo polled n x (kinds.Accepted vote)
    replies_sent n c = replied m IsText law x k.replica k.term k.set r k.others old k.ready k.fresh p.asked p.asks mid
        p.takes near polled polls_them n (among n c)

    pub answered : ReadyLeaderAnswers m IsText → (last : WorldState ReplicaValue)
        → HearsInTurn m IsText x (acceptances nodes vote) polled last
        → HasAnswered m last k.replica.node r × HasNoted m last k.replica.node r
    answered answers last turn =
        let run : Serves m IsText x k.replica k.term r k.others old last = record {
          requested = p.asked;
          requests = p.asks;
          proposed = mid;
          proposes = p.takes;
          accepted = polled;
          accepts = polls_them;
          replies = subst (λ (ns : List ℕ). HearsInTurn m IsText x (acceptances ns vote) polled last) k.are turn;
        } in
        let served : IsServed m IsText x k.replica k.term k.set r k.others old last run =
        answers x k.replica k.term k.set r k.others old last k.ready k.fresh run in
        (served.answers, served.notes)

-- ---- the same of what was said

module _ (m : Meaning) (IsText : List ℕ → Type 0) (law : FreshRequestIsProposed m IsText)
    (old mid : WorldState ReplicaValue) (x : ℕ) (nodes : List ℕ) (asking : Asking) (r : RequestValue)
    (k : IsReadyFor m IsText old x nodes asking r) (p : TakesRequest m IsText x r old mid)
    (near : NearNodeAccepts m IsText) (polled : WorldState ReplicaValue) (v : Vote) (y : Message)
    (v_is : v ≡ record { position = asking.first; ballot = asking.ballot; command = Request r })
    (y_is : y ≡ record { cluster = asking.cluster; content = content.Node x (kinds.Accept v) })
    (said : HearsEach m IsText y.content nodes mid polled) where
  same_vote : v ≡ vote_in k.replica k.term r
  same_vote = vote_is m IsText law old mid x nodes asking r k p v v_is

  polls : HearsEach m IsText (content.Node x (kinds.Accept (vote_in k.replica k.term r))) nodes mid polled
  polls = subst (λ (z : Message). HearsEach m IsText z.content nodes mid polled)
      (accept_is m IsText law old mid x nodes asking r k p y v same_vote y_is) said

  pub up_then : (n : ℕ) → Contains nodes n → IsUp polled.sim_nodes n
  up_then n c = polled_up m IsText law old mid x nodes asking r k p near polled polls n c

  pub leader_then : IsUp polled.sim_nodes x
  leader_then = leader_up m IsText law old mid x nodes asking r k p near polled polls

  pub cluster_then : asking.cluster ≡ polled.genesis.cluster
  cluster_then = polled_cluster m IsText law old mid x nodes asking r k p near polled polls

  pub sent_then : (n : ℕ) → Contains nodes n → HasSentTo polled n x (kinds.Accepted v)
  sent_then n c = subst (λ (w : Vote). HasSentTo polled n x (kinds.Accepted w)) (sym same_vote)
      (replies_sent m IsText law old mid x nodes asking r k p near polled polls n c)

  pub answered_then : ReadyLeaderAnswers m IsText → (last : WorldState ReplicaValue)
      → HearsInTurn m IsText x (acceptances nodes v) polled last
      → HasAnswered m last k.replica.node r × HasNoted m last k.replica.node r
  answered_then answers last turn = answered m IsText law old mid x nodes asking r k p near polled polls answers last
      (subst (λ (w : Vote). HearsInTurn m IsText x (acceptances nodes w) polled last) same_vote turn)
