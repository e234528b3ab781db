-- What only nodes seal is not forged.
use Rattle.std.proofs.Common.{◌≡◌, ◌≢◌, ℕ, true, false, inl, inr, Option, Some, List, [], ◌∷◌, ◌++◌, ◌⊎◌}
use Rattle.std.proofs.Common.{ap, sym, ◌∙◌, subst}
use Rattle.std.proofs.lemmas.Bool.{cases_Bool}
use Rattle.std.specs.List.{AllByRecursion}
use Rattle.std.specs.declared.net.socket_addr.SocketAddr.{SocketAddr}
use Rattle.lk_types.specs.declared.command.Request.{Request}
use Rattle.lk_messages.specs.Grammar.{Spells}
use Rattle.lk_messages.specs.declared.message.Content.TheVariants as content
use Rattle.lk_messages.specs.declared.message.Message.{Message}
use Rattle.lk_messages.specs.declared.message.NodeMessage.{NodeMessage}
use Rattle.lk_agreement_laws.specs.Datagrams.{said_by}
use Rattle.lk_agreement_laws.proofs.Histories.{heard_was_sent}
use Rattle.lk_node_interface.specs.Envelopes.{EnvelopeValue, batch_of}
use Rattle.lk_node.specs.Histories.{Genesis, Datagram}
use Rattle.lk_replica.specs.ReplicaValue.{ReplicaValue}
use Rattle.lk_auth.specs.Seals.{key_list, heard}
use Rattle.lk_auth.specs.declared.seals.Seals.{Seals}
use Rattle.lk_address_book.specs.Addresses.{Filter, filter_of}
use Rattle.lk_address_book.specs.Filters.{all_filtered, is_filtered_out, is_beside_protocol}
use Rattle.lk_server.specs.Premises.{IsFromANode, IsNoNodeMessage}
use Rattle.lk_server.specs.Servers.{ServerValue}
use Rattle.lk_transport.specs.Chains.{Chain}
use Rattle.lk_node_process.specs.Turns.{DoesTurn as ServerTurn}
use Rattle.lk_sim.specs.Networks.{MayCome, nothing}
use Rattle.lk_sim_nodes.specs.declared.sim_node.RunState.{RunState}
use Rattle.lk_cluster_theorems.specs.Clusters.{Cluster, Network, ForgesNothing, WasGiven, OnlyDelivers, DoesTurn}
use Rattle.lk_cluster_theorems.specs.Clusters.{EndsByTurn, Happens}
use Rattle.lk_cluster_theorems.specs.Clusters.{HappenAll}
use Rattle.lk_cluster_theorems.specs.Clusters.{IsReachable}
use Rattle.lk_cluster_theorems.specs.Processes.{IsMove, Move, envelopes_by, MayArrive, MayAllArrive}
use Rattle.lk_cluster_theorems.specs.Sealing.{OnlyNodesSeal, OnlyNodesSealWhatComes, IsSealed, TakesSealed, MovesSealed}
use Rattle.lk_cluster_theorems.specs.Sealing.{AllMoveSealed}
use Rattle.lk_cluster_theorems.proofs.Keeping.{IsSound, Unforged, happens, begun}

no_request : (genesis : Genesis) (n : ℕ) (x : NodeMessage) (r : Request) → content.Node n x ≡ content.Request r → ⊥
no_request genesis n x r e = cc e

-- what is not part of the protocol spells no message
pub no_message : (bytes : List ℕ) (m : Message) → Spells m bytes → is_beside_protocol bytes ≡ true → ⊥
no_message bytes m spelled is =
    let same : true ≡ false = sym is ∙ ap is_beside_protocol spelled.1 in
    absurd (cc same)

-- what is taken of a frame
pub taken_unforged : (c : Cluster) → IsSound c → (s : Seals) (frame : List ℕ) → IsFromANode s frame
    → OnlyNodesSeal c.sent s frame → MayCome c.genesis c.sent (Some (heard s frame))
taken_unforged c w s frame (inl sealed) only n x spelled = elim (cases_Bool (is_beside_protocol (heard s frame))) [
  | inl beside ↦ absurd (no_message (heard s frame) (said_by c.genesis n x) spelled beside)
  | inr apart ↦
      let given = only (heard s frame) sealed apart in
      heard_was_sent c.genesis c.sent w.holds.world.sound given.0 given.1 n x
      (subst (λ (bytes : List ℕ). Spells (said_by c.genesis n x) bytes) (sym given.2) spelled)
]
taken_unforged c w s frame (inr free) only n x spelled = let r = free (said_by c.genesis n x) spelled in
    absurd (no_request c.genesis n x r.0 r.1)

-- what is only delivered
came_delivered : (c : Cluster) → IsSound c → (came : List (SocketAddr × List ℕ))
    → AllByRecursion (λ (d : SocketAddr × List ℕ). WasGiven c.sent d.1 ⊎ IsNoNodeMessage d.1) came
    → AllByRecursion (λ (d : SocketAddr × List ℕ). MayCome c.genesis c.sent (Some d.1)) came
came_delivered c w [] only = tt
came_delivered c w (d ∷ came) only = (
  elim only.0 as (λ z. MayCome c.genesis c.sent (Some d.1)) [
    | inl given ↦ λ n x spelled.
        heard_was_sent c.genesis c.sent w.holds.world.sound given.0 given.1 n x
        (subst (λ (bytes : List ℕ). Spells (said_by c.genesis n x) bytes) (sym given.2) spelled)
    | inr free ↦ λ n x spelled.
        let r = free (said_by c.genesis n x) spelled in
        absurd (no_request c.genesis n x r.0 r.1)
  ],
  came_delivered c w came only.1,
)

pub delivers_unforged : Unforged OnlyDelivers
delivers_unforged c w server came may = came_delivered c w came may

module _ (told : (s : Seals) (frame : List ℕ) → key_list s.nodes ≢ [] → IsFromANode s frame) where
  what_comes : (c : Cluster) → IsSound c → (s : Filter) → key_list s.seals.nodes ≢ []
      → (frames : List (SocketAddr × List ℕ)) → OnlyNodesSealWhatComes c.sent s.seals frames
      → AllByRecursion (λ (d : SocketAddr × List ℕ). MayCome c.genesis c.sent (Some d.1)) (all_filtered s frames)
  what_comes c w s key [] only = tt
  what_comes c w s key (frame ∷ frames) only = elim (cases_Bool (is_filtered_out s frame)) [
    | inl e ↦ rw e (what_comes c w s key frames only.1)
    | inr e ↦
        rw e (taken_unforged c w s.seals frame.1 (told s.seals frame.1 key) only.0, what_comes c w s key frames only.1)
  ]

  pub seals_forge_nothing : Unforged IsSealed
  seals_forge_nothing c w server came may =
      subst (λ (l : List (SocketAddr × List ℕ)). ForgesNothing c.genesis c.sent server l) (sym may.opened)
      (what_comes c w (filter_of server.addresses) may.has_key may.frames may.only_nodes_seal)

-- ---- moves that are sealed
module _ (Metered observable Honest : Type 0) (genesis : Genesis) where
  so_sealed : (sent : List Datagram) (server : ServerValue ReplicaValue) (frames came : List (SocketAddr × List ℕ))
      → came ≡ all_filtered (filter_of server.addresses) frames → TakesSealed sent server frames
      → IsSealed genesis sent server came
  so_sealed sent server frames came opened takes =
      record { frames = frames; opened = opened; has_key = takes.0; only_nodes_seal = takes.1 }

  move_sealed : (n : ℕ) (old new : RunState (ServerValue ReplicaValue)) (sent : List Datagram)
      (does : IsMove Metered observable Honest genesis n old new)
      → MovesSealed Metered observable Honest genesis sent does
      → MayArrive Metered observable Honest genesis IsSealed sent does
  move_sealed n old new sent (inl x) sealed = tt
  move_sealed n old new sent (inr (inl x)) sealed = tt
  move_sealed n old new sent (inr (inr (inl x))) sealed =
      so_sealed sent x.server x.turn.frames x.turn.came x.turn.opened sealed
  move_sealed n old new sent (inr (inr (inr (inl x)))) sealed =
      so_sealed sent x.server x.turn.frames x.turn.came x.turn.opened sealed
  move_sealed n old new sent (inr (inr (inr (inr (inl x))))) sealed =
      so_sealed sent x.server x.frames x.came x.opened sealed
  move_sealed n old new sent (inr (inr (inr (inr (inr x))))) sealed = tt

  pub all_sealed : (sent : List Datagram) (moves : List (Move Metered observable Honest genesis))
      → AllMoveSealed Metered observable Honest genesis sent moves
      → MayAllArrive Metered observable Honest genesis IsSealed sent moves
  all_sealed sent [] sealed = tt
  all_sealed sent (m ∷ moves) sealed = (
    move_sealed m.number m.before m.after sent m.does sealed.0,
    all_sealed (sent ++ batch_of m.number (envelopes_by Metered observable Honest genesis m.does)) moves sealed.1,
  )

-- the seals of a server stay the same in its turns
pub keeps_seals : (S : ReplicaValue → List (Option (List ℕ)) → List EnvelopeValue → ReplicaValue → Type 0)
    (observable : Type 0) (s : Seals) (first : ServerValue ReplicaValue) (states : List (ServerValue ReplicaValue))
    (last : ServerValue ReplicaValue) → Chain (ServerTurn S observable) first states last → first.addresses.seals ≡ s
    → AllByRecursion (λ (q : ServerValue ReplicaValue). q.addresses.seals ≡ s) (first ∷ states)
    × (last.addresses.seals ≡ s)
keeps_seals S observable s first [] last turns same =
    ((same, tt), ap (λ (q : ServerValue ReplicaValue). q.addresses.seals) turns ∙ same)
keeps_seals S observable s first (next ∷ states) last turns same =
    let rest = keeps_seals S observable s next states last turns.1 (turns.0.network.1 ∙ same) in
    ((same, rest.0), rest.1)

-- ---- what comes about where nothing is forged

module _ (May : Network) (Metered observable : Type 0) (unforged : Unforged May) where
  takes_turn : (old new : Cluster) → IsSound old → DoesTurn May Metered observable old new
      → DoesTurn ForgesNothing Metered observable old new
  takes_turn old new w a = record {
    node = a.node;
    next = a.next;
    replaces = a.replaces;
    server = a.server;
    was = a.was;
    after = a.after;
    up = a.up;
    came = a.came;
    may = unforged old w a.server a.came a.may;
    turn = a.turn;
    alive = a.alive;
    trace = a.trace;
    traces = a.traces;
    adds = a.adds;
  }

  ends_by_turn : (old new : Cluster) → IsSound old → EndsByTurn May Metered observable old new
      → EndsByTurn ForgesNothing Metered observable old new
  ends_by_turn old new w a = record {
    node = a.node;
    next = a.next;
    replaces = a.replaces;
    server = a.server;
    was = a.was;
    after = a.after;
    left = a.left;
    down = a.down;
    same = a.same;
    came = a.came;
    may = unforged old w a.server a.came a.may;
    turn = a.turn;
    ended = a.ended;
    trace = a.trace;
    traces = a.traces;
    adds = a.adds;
  }

  so_happens : (old new : Cluster) → IsSound old → Happens May Metered observable old new
      → Happens ForgesNothing Metered observable old new
  so_happens old new w (inl a) = inl a
  so_happens old new w (inr (inl a)) = inr (inl a)
  so_happens old new w (inr (inr (inl a))) = inr (inr (inl a))
  so_happens old new w (inr (inr (inr (inl a)))) = inr (inr (inr (inl (takes_turn old new w a))))
  so_happens old new w (inr (inr (inr (inr (inl a))))) = inr (inr (inr (inr (inl a))))
  so_happens old new w (inr (inr (inr (inr (inr (inl a)))))) =
      inr (inr (inr (inr (inr (inl (ends_by_turn old new w a))))))
  so_happens old new w (inr (inr (inr (inr (inr (inr a)))))) = inr (inr (inr (inr (inr (inr a)))))

  so_happen : (first last : Cluster) (clusters : List Cluster) → IsSound first
      → HappenAll May Metered observable first clusters last
      → HappenAll ForgesNothing Metered observable first clusters last
  so_happen first last [] w all = all
  so_happen first last (next ∷ clusters) w all = (
    so_happens first next w all.0,
    so_happen next last clusters (happens May Metered observable unforged first next w all.0) all.1,
  )

  pub so_reachable : (genesis : Genesis) (c : Cluster) → IsReachable May Metered observable genesis c
      → IsReachable ForgesNothing Metered observable genesis c
  so_reachable genesis c all = (all.0, so_happen (nothing genesis) c all.0 (begun genesis) all.1)
