-- What is on its way stays so while other datagrams are delivered, and deliveries follow one another.
use Rattle.std.proofs.Common.{◌≡◌, ◌∙◌, inl, inr, ℕ, ◌+◌, ◌++◌, List, [], ◌∷◌, Contains, eqb, refl, ap, sym, subst}
use Rattle.std.proofs.Common.{Some, add-one, slice_get, take}
use Rattle.std.proofs.lemmas.Bool.{cases_Bool, eqb-true, eq-eqb}
use Rattle.lk_types.specs.declared.genesis.Genesis.{Genesis}
use Rattle.lk_types.specs.declared.vote.Vote.{Vote}
use Rattle.lk_messages.specs.Grammar.{Spells, spelling}
use Rattle.lk_messages.specs.declared.message.Content.{Content}
use Rattle.lk_messages.specs.declared.message.Content.TheVariants as content
use Rattle.lk_messages.specs.declared.message.Message.{Message}
use Rattle.lk_messages.specs.declared.message.NodeMessage.{NodeMessage}
use Rattle.lk_messages.specs.declared.message.NodeMessage.TheVariants as kinds
use Rattle.lk_agreement_laws.specs.Datagrams.{said_by}
use Rattle.lk_agreement_laws.specs.declared.party.Party.TheVariants as party
use Rattle.lk_state.specs.Meanings.{Meaning}
use Rattle.lk_node_interface.specs.Envelopes.{batch_of}
use Rattle.lk_progress.specs.Deciding.{acceptances}
use Rattle.lk_replica.specs.ReplicaValue.{ReplicaValue}
use Rattle.lk_sim.specs.WorldStates.{WorldState}
use Rattle.lk_sim.specs.declared.event.Event.TheVariants as event
use Rattle.lk_sim_nodes.proofs.Tellings.{take_next}
use Rattle.lk_sim_nodes.specs.SimNodes.{IsUp}
use Rattle.lk_sim_nodes.specs.declared.sim_node.RunState.TheVariants.{Up}
use Rattle.lk_world_progress.proofs.Delivering.{TakesFrom, heard_from, still}
use Rattle.lk_world_progress.specs.Balloting.{HasSentTo}
use Rattle.lk_world_progress.specs.Delivering.{Hears, HearsEach, HearsInTurn}
use Rattle.lk_world_progress.specs.Stepping.{GoesWell}
use Rattle.lk_healing.proofs.Carrying.{is_up, up_of}
use Rattle.lk_healing.specs.Halts.{AreOnTheirWay, IsAddressed, IsOnItsWay, MayBeTaken}

-- ---- one datagram

pub may_take : (w : WorldState ReplicaValue) (k n : ℕ) (bytes : List ℕ) → IsAddressed w.sent k n bytes
    → IsUp w.sim_nodes n
    → MayBeTaken w k
may_take w k n bytes a up = (a.0, n, a.1, a.2, up)

pub hears_it : (m : Meaning) (IsText : List ℕ → Type 0) (old new : WorldState ReplicaValue) (k n : ℕ) (x : Message)
    → x.cluster ≡ old.genesis.cluster → IsAddressed old.sent k n (spelling x) → Spells x (spelling x)
    → GoesWell m IsText old (event.Deliver k) new → Hears m IsText n x.content old new
hears_it m IsText old new k n x cluster a spells goes = record {
  place = k;
  datagram = a.0;
  stands = a.1;
  bound = a.2;
  spelled = subst (λ (c : ℕ). Spells (record { cluster = c; content = x.content }) a.0.bytes) cluster
      (subst (λ (bytes : List ℕ). Spells x bytes) (sym a.3) spells);
  goes = goes;
}

-- what a node has sent is on its way
pub sent_to : (w : WorldState ReplicaValue) (n k : ℕ) (x : NodeMessage) (y : Message) → HasSentTo w n k x
    → y ≡ said_by w.genesis n x → IsOnItsWay w k y
sent_to w n k x y c is = (
  record { from = party.Node n; to = party.Node k; bytes = spelling (said_by w.genesis n x) },
  c,
  refl,
  ap spelling (sym is),
)

-- ---- what a delivery leaves

module _ (m : Meaning) (IsText : List ℕ → Type 0) (j : ℕ) (x : Content) (old new : WorldState ReplicaValue)
    (h : Hears m IsText j x old new) where
  s : TakesFrom m IsText j x old new
  s = heard_from m IsText j x old new h

  pub same_genesis : new.genesis ≡ old.genesis
  same_genesis = s.genesis

  pub stays_up : (n : ℕ) → IsUp old.sim_nodes n → IsUp new.sim_nodes n
  stays_up n up = elim (cases_Bool (eqb n j)) [
    | inl t ↦ subst (λ (i : ℕ). IsUp new.sim_nodes i) (sym (eqb-true n j t)) (is_up new j s.after s.is)
    | inr f ↦ is_up new n up.0 (s.others n (Up up.0) (λ is. absurd (cc (sym f ∙ eq-eqb n j is))) (up_of old n up))
  ]

  pub stays_sent : (n k : ℕ) (y : NodeMessage) → HasSentTo old n k y → HasSentTo new n k y
  stays_sent n k y c = subst (λ (g : Genesis). Contains new.sent
      (record { from = party.Node n; to = party.Node k; bytes = spelling (said_by g n y) })) (sym s.genesis)
      (still old new (batch_of j s.out.envelopes) s.sent _ c)

  pub stay_on_their_way : (nodes : List ℕ) (y : Message) → AreOnTheirWay old nodes y → AreOnTheirWay new nodes y
  stay_on_their_way nodes y each n c =
      let one = each n c in
      (stays_up n one.0, (one.1.0, still old new (batch_of j s.out.envelopes) s.sent one.1.0 one.1.1, one.1.2, one.1.3))

pub each_up : (m : Meaning) (IsText : List ℕ → Type 0) (x : Content) (ns : List ℕ) (old new : WorldState ReplicaValue)
    → HearsEach m IsText x ns old new → (n : ℕ) → IsUp old.sim_nodes n → IsUp new.sim_nodes n
each_up m IsText x [] old new same n up = subst (λ (w : WorldState ReplicaValue). IsUp w.sim_nodes n) (sym same) up
each_up m IsText x (k ∷ ks) old new each n up =
    each_up m IsText x ks each.0 new each.2 n (stays_up m IsText k x old each.0 each.1 n up)

-- ---- one after another

module _ (m : Meaning) (IsText : List ℕ → Type 0) where
  pub each_more : (x : Content) (ns : List ℕ) (n : ℕ) (old mid new : WorldState ReplicaValue)
      → HearsEach m IsText x ns old mid → Hears m IsText n x mid new → HearsEach m IsText x (ns ++ n ∷ []) old new
  each_more x [] n old mid new same h =
      (new, subst (λ (w : WorldState ReplicaValue). Hears m IsText n x w new) same h, refl)
  each_more x (k ∷ ks) n old mid new each h = (each.0, each.1, each_more x ks n each.0 mid new each.2 h)

  pub replies_more : (k : ℕ) (v : Vote) (ns : List ℕ) (n : ℕ) (old mid new : WorldState ReplicaValue)
      → HearsInTurn m IsText k (acceptances ns v) old mid
      → Hears m IsText k (content.Node n (kinds.Accepted v)) mid new
      → HearsInTurn m IsText k (acceptances (ns ++ n ∷ []) v) old new
  replies_more k v [] n old mid new same h = (
    new,
    subst (λ (w : WorldState ReplicaValue). Hears m IsText k (content.Node n (kinds.Accepted v)) w new)
        same h,
    refl,
  )
  replies_more k v (i ∷ is) n old mid new turn h =
      (turn.0, turn.1, replies_more k v is n turn.0 mid new turn.2 h)

  -- so many of these nodes have heard the message
  abbrev pub HandsEach : Message → List ℕ → WorldState ReplicaValue → ℕ → WorldState ReplicaValue → Type 0
  HandsEach x nodes old i now = HearsEach m IsText x.content (take i nodes) old now
      × AreOnTheirWay now nodes x × (x.cluster ≡ now.genesis.cluster)

  pub handed_one : (x : Message) (nodes : List ℕ) (i n : ℕ) (old mid new : WorldState ReplicaValue)
      → slice_get nodes i ≡ Some n → HandsEach x nodes old i mid → Hears m IsText n x.content mid new
      → HandsEach x nodes old (i + 1) new
  handed_one x nodes i n old mid new at so_far h = (
    subst (λ (k : ℕ). HearsEach m IsText x.content (take k nodes) old new) (sym (add-one i))
        (subst (λ (ns : List ℕ). HearsEach m IsText x.content ns old new) (sym (take_next nodes i n at))
        (each_more x.content (take i nodes) n old mid new so_far.0 h)),
    stay_on_their_way m IsText n x.content mid new h nodes x so_far.1,
    so_far.2 ∙ ap (λ (g : Genesis). g.cluster) (sym (same_genesis m IsText n x.content mid new h)),
  )

  -- the node has taken the replies of so many of these
  abbrev pub RepliesEach : ℕ → ℕ → List ℕ → Vote → WorldState ReplicaValue → ℕ → WorldState ReplicaValue → Type 0
  RepliesEach cluster k nodes v old i now = HearsInTurn m IsText k (acceptances (take i nodes) v) old now
      × (cluster ≡ now.genesis.cluster) × IsUp now.sim_nodes k
      × ((n : ℕ) → Contains nodes n → HasSentTo now n k (kinds.Accepted v))

  pub replied_one : (cluster k : ℕ) (nodes : List ℕ) (v : Vote) (i n : ℕ) (x : Message)
      (old mid new : WorldState ReplicaValue)
      → slice_get nodes i ≡ Some n → x ≡ record { cluster = cluster; content = content.Node n (kinds.Accepted v) }
      → RepliesEach cluster k nodes v old i mid → Hears m IsText k x.content mid new
      → RepliesEach cluster k nodes v old (i + 1) new
  replied_one cluster k nodes v i n x old mid new at is so_far heard =
      let h : Hears m IsText k (content.Node n (kinds.Accepted v)) mid new =
      subst (λ (y : Message). Hears m IsText k y.content mid new) is heard in (
        subst (λ (j : ℕ). HearsInTurn m IsText k (acceptances (take j nodes) v) old new) (sym (add-one i))
            (subst (λ (ns : List ℕ). HearsInTurn m IsText k (acceptances ns v) old new) (sym (take_next nodes i n at))
            (replies_more k v (take i nodes) n old mid new so_far.0 h)),
        so_far.1 ∙ ap (λ (g : Genesis). g.cluster)
            (sym (same_genesis m IsText k (content.Node n (kinds.Accepted v)) mid new h)),
        stays_up m IsText k (content.Node n (kinds.Accepted v)) mid new h k so_far.2,
        λ j c. stays_sent m IsText k (content.Node n (kinds.Accepted v)) mid new h j k (kinds.Accepted v)
            (so_far.3 j c),
      )

-- a reply that was sent is on its way
pub reply_on_its_way : (w : WorldState ReplicaValue) (cluster n k : ℕ) (v : Vote) (x : Message)
    → x ≡ record { cluster = cluster; content = content.Node n (kinds.Accepted v) } → cluster ≡ w.genesis.cluster
    → HasSentTo w n k (kinds.Accepted v) → IsOnItsWay w k x
reply_on_its_way w cluster n k v x is same sent = sent_to w n k (kinds.Accepted v) x sent
    (is ∙ (λ i. record { cluster = same i; content = content.Node n (kinds.Accepted v) }))
