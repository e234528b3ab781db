-- A network that carries what the sockets of the nodes have sent: told by the sockets alone, from one turn to the next.
use Rattle.std.specs.Prelude.{◌≡◌, ◌⊎◌, ℕ, List, [], ◌∷◌, ◌++◌, length, drop, Contains}
use Rattle.std.proofs.Common.{inl, inr}
use Rattle.std.specs.List.{AllByRecursion}
use Rattle.std.specs.declared.net.socket_addr.SocketAddr.{SocketAddr}
use Rattle.lk_types.specs.declared.genesis.Genesis.{Genesis}
use Rattle.lk_replica.specs.ReplicaValue.{ReplicaValue}
use Rattle.lk_auth.specs.Seals.{key_list}
use Rattle.lk_auth.specs.declared.seals.Seals.{Seals}
use Rattle.lk_server.specs.Premises.{IsNoNodeMessage}
use Rattle.lk_server.specs.Servers.{ServerValue}
use Rattle.lk_sim_nodes.specs.declared.sim_node.RunState.{RunState}
use Rattle.lk_cluster_theorems.specs.Processes.{IsMove, Move}

-- no key is given: neither for nodes nor for clients
abbrev pub HasNoKey : Seals → Type 0
HasNoKey s = (key_list s.nodes ≡ []) × (key_list s.clients ≡ [])

-- one of these datagrams has these bytes, wherever it was sent to
abbrev pub WasPosted : List (SocketAddr × List ℕ) → List ℕ → Type 0
WasPosted posted bytes = (d : SocketAddr × List ℕ) × Contains posted d × (d.1 ≡ bytes)

-- what the socket of the server has sent since
abbrev pub sent_since : ServerValue ReplicaValue → ServerValue ReplicaValue → List (SocketAddr × List ℕ)
sent_since old new = drop (length old.sent) new.sent

-- the server has no key, and each of these frames is a copy of a datagram that some socket has sent, or no node's
-- message
pub record IsBrought (posted : List (SocketAddr × List ℕ)) (server : ServerValue ReplicaValue)
    (frames : List (SocketAddr × List ℕ)) : Type 0 where
  pub no_key : HasNoKey server.addresses.seals
  pub brought : AllByRecursion (λ (d : SocketAddr × List ℕ). WasPosted posted d.1 ⊎ IsNoNodeMessage d.1) frames

-- `Metered` says that the devices count their calls, `observable` that the sockets reveal what they send, and `Honest`
-- that the devices are honest
module _ (Metered observable Honest : Type 0) (genesis : Genesis) where
  module _ {n : ℕ} {old new : RunState (ServerValue ReplicaValue)} where
    -- so are the frames that come in this move, where these datagrams have been sent
    abbrev pub Brings : List (SocketAddr × List ℕ) → IsMove Metered observable Honest genesis n old new → Type 0
    Brings posted (inl starts) = Unit {0}
    Brings posted (inr (inl refused)) = Unit {0}
    Brings posted (inr (inr (inl turns))) = IsBrought posted turns.server turns.turn.frames
    Brings posted (inr (inr (inr (inl turns)))) = IsBrought posted turns.server turns.turn.frames
    Brings posted (inr (inr (inr (inr (inl ends))))) = IsBrought posted ends.server ends.frames
    Brings posted (inr (inr (inr (inr (inr stops))))) = Unit {0}

    -- what the node's socket sends in this move
    abbrev pub posts_in : IsMove Metered observable Honest genesis n old new → List (SocketAddr × List ℕ)
    posts_in (inl starts) = []
    posts_in (inr (inl refused)) = []
    posts_in (inr (inr (inl turns))) = sent_since turns.server turns.after
    posts_in (inr (inr (inr (inl turns)))) = sent_since turns.server turns.after
    posts_in (inr (inr (inr (inr (inl ends))))) = sent_since ends.server ends.after
    posts_in (inr (inr (inr (inr (inr stops))))) = []

  -- the network carries between the sockets, and forges nothing: whatever comes in one of these moves, one of the
  -- sockets has sent before, or it is no node's message
  abbrev pub AllBrought : List (SocketAddr × List ℕ) → List (Move Metered observable Honest genesis) → Type 0
  AllBrought posted [] = Unit {0}
  AllBrought posted (m ∷ moves) = Brings posted m.does × AllBrought (posted ++ posts_in m.does) moves
