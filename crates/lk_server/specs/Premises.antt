-- What a server takes, and which probes it keeps, if the nodes have a key.
use Rattle.std.specs.Prelude.{◌≡◌, ◌⊎◌, ℕ, List}
use Rattle.lk_types.specs.declared.command.Request.{Request}
use Rattle.lk_messages.specs.Grammar.{Spells}
use Rattle.lk_messages.specs.declared.message.Message.{Message}
use Rattle.lk_messages.specs.declared.message.Content.TheVariants as content
use Rattle.lk_probe.specs.Grammar.{or_zero}
use Rattle.lk_probe.specs.declared.probe.Probe.{Probe}
use Rattle.lk_auth.specs.Seals.{key_list, to_node, heard, IsSealedBy}
use Rattle.lk_auth.specs.Vouching.{IsSealedByClient}
use Rattle.lk_auth.specs.declared.seals.Seals.{Seals}
use Rattle.lk_watch.specs.declared.watch.Watch.{Watch}

-- no node's message: it spells a client's request, or nothing
abbrev pub IsNoNodeMessage : List ℕ → Type 0
IsNoNodeMessage bytes = (m : Message) → Spells m bytes → (r : Request) × (m.content ≡ content.Request r)

-- what is taken from a frame was sealed for this node by someone who has a key of the nodes, or it is no node's
-- message
abbrev pub IsFromANode : Seals → List ℕ → Type 0
IsFromANode s frame = IsSealedBy (key_list s.nodes) (to_node s s.node) frame (heard s frame)
    ⊎ IsNoNodeMessage (heard s frame)

-- what is taken from a frame is a request of the client under whose key it was sealed, or it spells nothing
abbrev pub IsAskedByItsClient : Seals → List ℕ → Type 0
IsAskedByItsClient s frame =
    (m : Message) → Spells m (heard s frame)
    → (r : Request) × (m.content ≡ content.Request r) × IsSealedByClient s r.client frame (heard s frame)

-- what is taken from a frame was sealed for this node by someone who has a key of the nodes, or its client asks it
abbrev pub IsToldOrAsked : Seals → List ℕ → Type 0
IsToldOrAsked s frame =
    IsSealedBy (key_list s.nodes) (to_node s s.node) frame (heard s frame) ⊎ IsAskedByItsClient s frame

-- nobody who has a key of the nodes sealed it for this node, and nobody who has a client's key sealed it as that client
pub record IsUnsealed (s : Seals) (frame : List ℕ) : Type 0 where
  pub by_nodes : (datagram : List ℕ) → IsSealedBy (key_list s.nodes) (to_node s s.node) frame datagram → ⊥
  pub by_clients : (client : ℕ) (datagram : List ℕ) → IsSealedByClient s client frame datagram → ⊥

-- someone who has a key of the nodes sealed a probe for this node
abbrev pub IsProbedByANode : Seals → List ℕ → Type 0
IsProbedByANode s frame = IsSealedBy (key_list s.nodes) (to_node s s.node) frame (heard s frame)

-- a node sealed a probe for this node, or someone did who has the key of the client that the probe names; where it
-- names none, that of client 0, which only the masters yield and no client is given
abbrev pub IsProbedByWhomItNames : Seals → List ℕ → Probe → Type 0
IsProbedByWhomItNames s frame p = IsProbedByANode s frame ⊎ IsSealedByClient s (or_zero p.client) frame (heard s frame)

-- a node sealed a watch for this node, or someone did who has the key of its client
abbrev pub IsWatchedByItsClient : Seals → List ℕ → Watch → Type 0
IsWatchedByItsClient s frame w =
    IsSealedBy (key_list s.nodes) (to_node s s.node) frame (heard s frame)
    ⊎ IsSealedByClient s w.ticket.client frame (heard s frame)
