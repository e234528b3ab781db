-- Clusters whose nodes share a key, and take from the frames that arrive what is sealed under it.
use Rattle.std.specs.Prelude.{◌≡◌, ◌≢◌, ℕ, false, List, [], ◌∷◌, ◌++◌}
use Rattle.std.proofs.Common.{inl, inr}
use Rattle.std.specs.List.{AllByRecursion}
use Rattle.std.specs.declared.net.socket_addr.SocketAddr.{SocketAddr}
use Rattle.lk_types.specs.declared.genesis.Genesis.{Genesis}
use Rattle.lk_node_interface.specs.Envelopes.{batch_of}
use Rattle.lk_node.specs.Histories.{Datagram}
use Rattle.lk_replica.specs.ReplicaValue.{ReplicaValue}
use Rattle.lk_auth.specs.Seals.{key_list, to_node, IsSealedBy}
use Rattle.lk_auth.specs.declared.seals.Seals.{Seals}
use Rattle.lk_address_book.specs.Addresses.{filter_of}
use Rattle.lk_address_book.specs.Filters.{all_filtered, is_beside_protocol}
use Rattle.lk_server.specs.Servers.{ServerValue}
use Rattle.lk_sim_nodes.specs.declared.sim_node.RunState.{RunState}
use Rattle.lk_cluster_theorems.specs.Clusters.{WasGiven}
use Rattle.lk_cluster_theorems.specs.Processes.{IsMove, Move, envelopes_by}

-- The only premise about keys: if a frame seals a datagram for this node under a key of the nodes, and the datagram is
-- part of the protocol, a node of the cluster has sent it. Nodes seal probes and reports under that key too, beside
-- the protocol: no replica gets them, nor any watch or notice. The premise holds of a key that only the nodes of one
-- cluster have, and only in one life of it: nobody without a key can compute the HMAC-SHA-256 of a message under it
-- (RFC 2104, section 6). Frames may be lost, repeated, delayed or cut, and anybody may send other bytes
abbrev pub OnlyNodesSeal : List Datagram → Seals → List ℕ → Type 0
OnlyNodesSeal sent s frame =
    (datagram : List ℕ) → IsSealedBy (key_list s.nodes) (to_node s s.node) frame datagram
    → is_beside_protocol datagram ≡ false → WasGiven sent datagram

-- the same of everything that arrives in a turn
abbrev pub OnlyNodesSealWhatComes : List Datagram → Seals → List (SocketAddr × List ℕ) → Type 0
OnlyNodesSealWhatComes sent s frames =
    AllByRecursion (λ (frame : SocketAddr × List ℕ). OnlyNodesSeal sent s frame.1) frames

-- the network of such a cluster: the nodes have a key under which only they seal, and a server takes from each frame
-- what it opens
pub record IsSealed (genesis : Genesis) (sent : List Datagram) (server : ServerValue ReplicaValue)
    (came : List (SocketAddr × List ℕ)) : Type 0 where
  pub frames : List (SocketAddr × List ℕ)
  pub opened : came ≡ all_filtered (filter_of server.addresses) frames
  pub has_key : key_list server.addresses.seals.nodes ≢ []
  pub only_nodes_seal : OnlyNodesSealWhatComes sent server.addresses.seals frames

-- the server has such a key, and only nodes have sealed these frames, given what was sent before
abbrev pub TakesSealed : List Datagram → ServerValue ReplicaValue → List (SocketAddr × List ℕ) → Type 0
TakesSealed sent server frames =
    (key_list server.addresses.seals.nodes ≢ []) × OnlyNodesSealWhatComes sent server.addresses.seals frames

-- `Metered` says that the devices count their calls, `observable` that the sockets reveal what they send, and `Honest`
-- that the devices are honest
module _ (Metered observable Honest : Type 0) (genesis : Genesis) where
  -- so it is in this move
  abbrev pub MovesSealed : {n : ℕ} {old new : RunState (ServerValue ReplicaValue)} → List Datagram
      → IsMove Metered observable Honest genesis n old new → Type 0
  MovesSealed sent (inl starts) = Unit {0}
  MovesSealed sent (inr (inl refused)) = Unit {0}
  MovesSealed sent (inr (inr (inl turns))) = TakesSealed sent turns.server turns.turn.frames
  MovesSealed sent (inr (inr (inr (inl turns)))) = TakesSealed sent turns.server turns.turn.frames
  MovesSealed sent (inr (inr (inr (inr (inl ends))))) = TakesSealed sent ends.server ends.frames
  MovesSealed sent (inr (inr (inr (inr (inr stops))))) = Unit {0}

  -- and in all of these, one after another, given all that was sent before, by whichever node
  abbrev pub AllMoveSealed : List Datagram → List (Move Metered observable Honest genesis) → Type 0
  AllMoveSealed sent [] = Unit {0}
  AllMoveSealed sent (m ∷ moves) =
      MovesSealed sent m.does
      × AllMoveSealed (sent ++ batch_of m.number (envelopes_by Metered observable Honest genesis m.does)) moves
