-- Where the promises stand, and what follows once the candidate has taken them.
use Rattle.std.proofs.Common.{◌≡◌, ◌∙◌, ℕ, zero, suc, ◌+◌, ◌≤◌, ◌++◌, List, [], ◌∷◌, map, length, Some}
use Rattle.std.proofs.Common.{Contains, slice_get, take, refl, ap, sym, subst, arith, add-one}
use Rattle.std.proofs.lemmas.List.{take_all}
use Rattle.lk_types.specs.BallotValue.{BallotValue}
use Rattle.lk_types.specs.Ballots.{IsAtMost}
use Rattle.lk_types.specs.declared.genesis.Genesis.{Genesis}
use Rattle.lk_types.specs.declared.vote.Vote.{Vote}
use Rattle.lk_messages.specs.Grammar.{Spells}
use Rattle.lk_messages.specs.Values.{PromiseValue}
use Rattle.lk_messages.specs.declared.message.Content.{Content}
use Rattle.lk_messages.specs.declared.message.Content.TheVariants as content
use Rattle.lk_messages.specs.declared.message.Message.{Message}
use Rattle.lk_messages.specs.declared.message.NodeMessage.TheVariants as kinds
use Rattle.lk_agreement_laws.proofs.Histories.{contains_more}
use Rattle.lk_agreement_laws.specs.Datagrams.{Datagram}
use Rattle.lk_state.specs.Meanings.{Meaning}
use Rattle.lk_acceptor.specs.VoteLists.{votes_from}
use Rattle.lk_node_interface.specs.Envelopes.{batch_of}
use Rattle.lk_node.proofs.Nodes.{map_has}
use Rattle.lk_node.specs.Leavings.{header_of}
use Rattle.lk_progress.specs.Electing.{promises}
use Rattle.lk_replica.specs.ReplicaValue.{ReplicaValue}
use Rattle.lk_sim.specs.Refusals.{datagram_at}
use Rattle.lk_sim.specs.WorldStates.{WorldState}
use Rattle.lk_sim.specs.declared.event.Event.TheVariants as event
use Rattle.lk_sim_nodes.proofs.Tellings.{take_next}
use Rattle.lk_sim_nodes.specs.SimNodes.{IsUp}
use Rattle.lk_sim_nodes.specs.declared.sim_node.RunState.TheVariants.{Up}
use Rattle.lk_world_progress.proofs.Balloting.{found_has}
use Rattle.lk_world_progress.proofs.Delivering.{TakesFrom, found_as, heard_from}
use Rattle.lk_world_progress.proofs.Stepping.{found_header, has_header}
use Rattle.lk_world_progress.specs.Delivering.{AreDistinct, Hears, HearsEach, HearsInTurn}
use Rattle.lk_world_progress.specs.Stepping.{GoesWell, Holds, IsFound, IsUpAs}
use Rattle.lk_world_leftovers.proofs.Promising.{Stands, stands_snapshot}
use Rattle.lk_healing.proofs.Hands.{same_genesis, stay_on_their_way, stays_up}
use Rattle.lk_healing.proofs.Places.{datagram_stays}
use Rattle.lk_healing.proofs.Envelopes.{RepliesFirst, kept, promises_first, promising, reply_stands}
use Rattle.lk_healing.specs.Halts.{AreOnTheirWay, MayBeTaken}
use Rattle.lk_healing.specs.Polls.{HearsAt, StandAt, StandsAt}

abbrev pub as_promise : BallotValue → ℕ → ℕ × List Vote → ℕ × PromiseValue
as_promise b e h = (h.0, record { ballot = b; first = e + 1; votes = h.1 })

-- ---- places

module _ (m : Meaning) (IsText : List ℕ → Type 0) where
  -- it stands there still after a delivery
  pub stands_still : (j n p : ℕ) (x y : Content) (old new : WorldState ReplicaValue) → Hears m IsText j x old new
      → StandsAt old n p y → StandsAt new n p y
  stands_still j n p x y old new h stands =
      let s : TakesFrom m IsText j x old new = heard_from m IsText j x old new h in (
        stands.0,
        subst (λ (ds : List Datagram). datagram_at ds p ≡ Some stands.0) (sym s.sent)
            (datagram_stays old.sent (batch_of j s.out.envelopes) p stands.0 stands.1),
        stands.2,
        subst (λ (g : Genesis). Spells (record { cluster = g.cluster; content = y }) stands.0.bytes) (sym s.genesis)
            stands.3,
      )

  pub all_stand_still : (j n : ℕ) (x : Content) (old new : WorldState ReplicaValue) → Hears m IsText j x old new
      → (ps : List ℕ) (ys : List Content) → StandAt old n ps ys → StandAt new n ps ys
  all_stand_still j n x old new h [] [] stand = tt
  all_stand_still j n x old new h [] (y ∷ ys) stand = absurd stand
  all_stand_still j n x old new h (p ∷ ps) [] stand = absurd stand
  all_stand_still j n x old new h (p ∷ ps) (y ∷ ys) stand =
      (stands_still j n p x y old new h stand.0, all_stand_still j n x old new h ps ys stand.1)

  pub stands_later : (n p : ℕ) (y x : Content) (ns ps : List ℕ) (old new : WorldState ReplicaValue)
      → HearsAt m IsText x ns ps old new → StandsAt old n p y → StandsAt new n p y
  stands_later n p y x [] [] old new same stands =
      subst (λ (w : WorldState ReplicaValue). StandsAt w n p y) (sym same) stands
  stands_later n p y x [] (q ∷ qs) old new run stands = absurd run
  stands_later n p y x (k ∷ ks) [] old new run stands = absurd run
  stands_later n p y x (k ∷ ks) (q ∷ qs) old new run stands =
      stands_later n p y x ks qs run.0 new run.3 (stands_still k n p x y old run.0 run.1 stands)

  -- without the places
  pub each_of : (x : Content) (ns ps : List ℕ) (old new : WorldState ReplicaValue) → HearsAt m IsText x ns ps old new
      → HearsEach m IsText x ns old new
  each_of x [] [] old new same = same
  each_of x [] (q ∷ qs) old new run = absurd run
  each_of x (k ∷ ks) [] old new run = absurd run
  each_of x (k ∷ ks) (q ∷ qs) old new run = (run.0, run.1, each_of x ks qs run.0 new run.3)

  -- one more
  pub places_more : (x : Content) (ns ps : List ℕ) (n p : ℕ) (old mid new : WorldState ReplicaValue)
      → HearsAt m IsText x ns ps old mid → Hears m IsText n x mid new → p ≡ suc (length mid.sent)
      → HearsAt m IsText x (ns ++ n ∷ []) (ps ++ p ∷ []) old new
  places_more x [] [] n p old mid new same h is = (
    new,
    subst (λ (w : WorldState ReplicaValue). Hears m IsText n x w new) same h,
    is ∙ ap (λ (w : WorldState ReplicaValue). suc (length w.sent)) same,
    refl,
  )
  places_more x [] (q ∷ qs) n p old mid new run h is = absurd run
  places_more x (k ∷ ks) [] n p old mid new run h is = absurd run
  places_more x (k ∷ ks) (q ∷ qs) n p old mid new run h is =
      (run.0, run.1, run.2, places_more x ks qs n p run.0 mid new run.3 h is)

  -- ---- the promises

  -- the node is up, and would promise this ballot and report these votes
  pub record MayPromise (w : WorldState ReplicaValue) (b : BallotValue) (e n : ℕ) (votes : List Vote) : Type 0 where
    pub replica : ReplicaValue
    pub up : IsUpAs w n replica
    pub highest : ℕ
    pub stands : Stands b e highest votes replica.node
    pub ballot : IsAtMost replica.node.acceptor.state.promised b

  module _ (x n e : ℕ) (b : BallotValue) (votes : List Vote) (old new : WorldState ReplicaValue)
      (holds : Holds m IsText old)
      (may : MayPromise old b e n votes)
      (h : Hears m IsText n (content.Node x (kinds.Prepare b (e + 1))) old new) where
    s : TakesFrom m IsText n (content.Node x (kinds.Prepare b (e + 1))) old new
    s = heard_from m IsText n (content.Node x (kinds.Prepare b (e + 1))) old new h

    found : IsFound may.replica s.start
    found = found_as m IsText n (content.Node x (kinds.Prepare b (e + 1))) old new may.replica holds may.up s

    stood : Stands b e may.highest votes s.start
    stood = found_has may.replica s.start found (Stands b e may.highest votes)
        (stands_snapshot b e may.highest votes may.replica.node) may.stands

    first : RepliesFirst s.start x (promising b e (kept s.start e)) s.out
    first = promises_first m IsText s.start s.last x b e s.out stood.near
        (found_has may.replica s.start found (λ node. IsAtMost node.acceptor.state.promised b) (λ q. q) may.ballot)
        stood.behind s.takes

    header : s.start.header ≡ header_of old.genesis n
    header = found_header may.replica s.start found ∙ has_header m IsText old holds n may.replica may.up

    reports : (P : List Vote → Type 0) → P (votes_from (e + 1) s.start.acceptor.state.votes) → P votes
    reports P p = subst P stood.reports p

    -- the first that it sends is its promise
    pub stands_there : StandsAt new x (suc (length old.sent)) (content.Node n (promising b e votes))
    stands_there =
        reports (λ vs. StandsAt new x (suc (length old.sent)) (content.Node n (promising b e vs)))
        (reply_stands m IsText n x (content.Node x (kinds.Prepare b (e + 1))) (promising b e (kept s.start e)) old new s
        header first)

    -- another node may promise as before
    pub may_still : (k : ℕ) (others : List Vote) → (k ≡ n → ⊥) → MayPromise old b e k others
        → MayPromise new b e k others
    may_still k others apart other = record {
      replica = other.replica;
      up = s.others k (Up other.replica) apart other.up;
      highest = other.highest;
      stands = other.stands;
      ballot = other.ballot;
    }

  -- each of them stands at its place
  pub promises_stand : (x e : ℕ) (b : BallotValue) (hs : List (ℕ × List Vote)) (ps : List ℕ)
      (old new : WorldState ReplicaValue) → Holds m IsText old → AreDistinct (map (λ h. h.0) hs)
      → ((h : ℕ × List Vote) → Contains hs h → MayPromise old b e h.0 h.1)
      → HearsAt m IsText (content.Node x (kinds.Prepare b (e + 1))) (map (λ h. h.0) hs) ps old new
      → StandAt new x ps (promises (map (as_promise b e) hs))
  promises_stand x e b [] [] old new holds distinct each run = tt
  promises_stand x e b [] (p ∷ ps) old new holds distinct each run = absurd run
  promises_stand x e b (h ∷ hs) [] old new holds distinct each run = absurd run
  promises_stand x e b (h ∷ hs) (p ∷ ps) old new holds distinct each run = (
    stands_later x p (content.Node h.0 (promising b e h.1)) (content.Node x (kinds.Prepare b (e + 1)))
        (map (λ (g : ℕ × List Vote). g.0) hs) ps run.0 new run.3
        (subst (λ (q : ℕ). StandsAt run.0 x q (content.Node h.0 (promising b e h.1))) (sym run.2)
        (stands_there x h.0 e b h.1 old run.0 holds (each h (0, omega arith, refl)) run.1)),
    promises_stand x e b hs ps run.0 new run.1.goes.after distinct.1
        (λ g c. may_still x h.0 e b h.1 old run.0 holds (each h (0, omega arith, refl)) run.1 g.0 g.1
        (λ is. distinct.0 (subst (λ (i : ℕ). Contains (map (λ (q : ℕ × List Vote). q.0) hs) i) is
        (map_has (λ (q : ℕ × List Vote). q.0) hs g c)))
        (each g (contains_more h hs g c)))
        run.3,
  )

-- ---- one after another, from these places

same_place : (q p : ℕ) → Some q ≡ Some p → q ≡ p
same_place q p e = cc e

module _ (m : Meaning) (IsText : List ℕ → Type 0) where
  -- what stands at a place of the list
  pub one_stands : (w : WorldState ReplicaValue) (n : ℕ) (ps : List ℕ) (xs : List Content) (i p : ℕ)
      → StandAt w n ps xs → slice_get ps i ≡ Some p → (x : Content) × (slice_get xs i ≡ Some x) × StandsAt w n p x
  one_stands w n [] xs i p stand at = absurd (cc at)
  one_stands w n (q ∷ ps) [] i p stand at = absurd stand
  one_stands w n (q ∷ ps) (x ∷ xs) zero p stand at =
      let is : Some q ≡ Some p = at in
      (x, refl, subst (λ (k : ℕ). StandsAt w n k x) (same_place q p is) stand.0)
  one_stands w n (q ∷ ps) (x ∷ xs) (suc i) p stand at = one_stands w n ps xs i p stand.1 at

  pub turn_more : (n : ℕ) (xs : List Content) (x : Content) (old mid new : WorldState ReplicaValue)
      → HearsInTurn m IsText n xs old mid → Hears m IsText n x mid new → HearsInTurn m IsText n (xs ++ x ∷ []) old new
  turn_more n [] x old mid new same h =
      (new, subst (λ (w : WorldState ReplicaValue). Hears m IsText n x w new) same h, refl)
  turn_more n (y ∷ ys) x old mid new turn h = (turn.0, turn.1, turn_more n ys x turn.0 mid new turn.2 h)

  pub hears_there : (n p : ℕ) (x : Content) (old new : WorldState ReplicaValue) → StandsAt old n p x
      → GoesWell m IsText old (event.Deliver p) new → Hears m IsText n x old new
  hears_there n p x old new stands goes = record {
    place = p;
    datagram = stands.0;
    stands = stands.1;
    bound = stands.2;
    spelled = stands.3;
    goes = goes;
  }

  -- as many contents as places
  pub as_many : (w : WorldState ReplicaValue) (n : ℕ) (ps : List ℕ) (xs : List Content) → StandAt w n ps xs
      → length xs ≡ length ps
  as_many w n [] [] stand = refl
  as_many w n [] (x ∷ xs) stand = absurd stand
  as_many w n (p ∷ ps) [] stand = absurd stand
  as_many w n (p ∷ ps) (x ∷ xs) stand = ap suc (as_many w n ps xs stand.1)

  -- ---- the loops

  -- so many of these nodes have heard the message, and what each has sent first for it is to be at these places
  abbrev pub PollsEach : Message → List ℕ → WorldState ReplicaValue → ℕ → List ℕ → WorldState ReplicaValue → Type 0
  PollsEach x nodes old i ps now = HearsAt m IsText x.content (take i nodes) ps old now
      × AreOnTheirWay now nodes x × (x.cluster ≡ now.genesis.cluster)

  pub polled_one : (x : Message) (nodes : List ℕ) (i n p : ℕ) (ps : List ℕ) (old mid new : WorldState ReplicaValue)
      → slice_get nodes i ≡ Some n → p ≡ length mid.sent + 1 → PollsEach x nodes old i ps mid
      → Hears m IsText n x.content mid new → PollsEach x nodes old (i + 1) (ps ++ p ∷ []) new
  polled_one x nodes i n p ps old mid new at is so_far h = (
    subst (λ (k : ℕ). HearsAt m IsText x.content (take k nodes) (ps ++ p ∷ []) old new) (sym (add-one i))
        (subst (λ (ns : List ℕ). HearsAt m IsText x.content ns (ps ++ p ∷ []) old new) (sym (take_next nodes i n at))
        (places_more m IsText x.content (take i nodes) ps n p old mid new so_far.0 h
        (is ∙ add-one (length mid.sent)))),
    stay_on_their_way m IsText n x.content mid new h nodes x so_far.1,
    so_far.2 ∙ ap (λ (g : Genesis). g.cluster) (sym (same_genesis m IsText n x.content mid new h)),
  )

  -- the node has taken what stands at so many of these places
  abbrev pub DeliversEach : ℕ → List ℕ → WorldState ReplicaValue → ℕ → WorldState ReplicaValue → Type 0
  DeliversEach n ps old i now = IsUp now.sim_nodes n
      × ((xs : List Content) → StandAt old n ps xs → StandAt now n ps xs
      × HearsInTurn m IsText n (take i xs) old now)

  pub may_take_next : (n : ℕ) (ps : List ℕ) (old now : WorldState ReplicaValue) (i p : ℕ)
      → ((xs : List Content) × StandAt old n ps xs) → slice_get ps i ≡ Some p → DeliversEach n ps old i now
      → MayBeTaken now p
  may_take_next n ps old now i p stand at so_far =
      let one = one_stands now n ps stand.0 i p (so_far.1 stand.0 stand.1).0 at in
      (one.2.0, n, one.2.1, one.2.2, so_far.0)

  pub delivered_one : (n : ℕ) (ps : List ℕ) (old mid new : WorldState ReplicaValue) (i p : ℕ) → slice_get ps i ≡ Some p
      → ((xs : List Content) × StandAt old n ps xs) → GoesWell m IsText mid (event.Deliver p) new
      → DeliversEach n ps old i mid → DeliversEach n ps old (i + 1) new
  delivered_one n ps old mid new i p at stand goes so_far = (still_up, λ xs all. later xs all)
    where
      h : (xs : List Content) → StandAt old n ps xs → (x : Content) × (slice_get xs i ≡ Some x)
          × Hears m IsText n x mid new
      h xs all =
          let one = one_stands mid n ps xs i p (so_far.1 xs all).0 at in
          (one.0, one.1, hears_there n p one.0 mid new one.2 goes)

      still_up : IsUp new.sim_nodes n
      still_up = let first = h stand.0 stand.1 in stays_up m IsText n first.0 mid new first.2 n so_far.0

      later : (xs : List Content) → StandAt old n ps xs
          → StandAt new n ps xs × HearsInTurn m IsText n (take (i + 1) xs) old new
      later xs all =
          let one = h xs all in (
            all_stand_still m IsText n n one.0 mid new one.2 ps xs (so_far.1 xs all).0,
            subst (λ (k : ℕ). HearsInTurn m IsText n (take k xs) old new) (sym (add-one i))
                (subst (λ (ys : List Content). HearsInTurn m IsText n ys old new) (sym (take_next xs i one.0 one.1))
                (turn_more n (take i xs) one.0 old mid new (so_far.1 xs all).1 one.2)),
          )

  pub delivered_all : (n : ℕ) (ps : List ℕ) (old now : WorldState ReplicaValue) (i : ℕ) → length ps ≤ i
      → DeliversEach n ps old i now → (xs : List Content) → StandAt old n ps xs → HearsInTurn m IsText n xs old now
  delivered_all n ps old now i enough so_far xs all =
      let many = as_many old n ps xs all in
      subst (λ (ys : List Content). HearsInTurn m IsText n ys old now)
      (take_all i xs (omega (arith, many, enough))) (so_far.1 xs all).1
