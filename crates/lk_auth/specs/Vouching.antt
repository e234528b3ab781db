-- What a seal vouches for, and what that rests on.
use Rattle.std.specs.Prelude.{◌≡◌, ◌≢◌, ◌⊎◌, ◌<◌, ◌^◌, ℕ, List, [], length}
use Rattle.lk_auth.specs.Hmac.{hmac}
use Rattle.lk_auth.specs.Clients.{client_keys, client_in}
use Rattle.lk_auth.specs.Seals.{key_list, to_node, asking, heard, IsSealedBy, IsOfNoNode}
use Rattle.lk_auth.specs.declared.frame.Scope.{Scope}
use Rattle.lk_auth.specs.declared.seals.Seals.{Seals}

-- its parts fit their fields
pub record IsScope (s : Scope) : Type 0 where
  pub cluster : s.cluster < 2 ^ 64
  pub genesis : length s.genesis ≡ 32
  pub bound : s.bound < 2 ^ 32

-- two different messages have one tag: nobody is known to have found such a pair
pub record Collide (key : List ℕ) (m n : List ℕ) : Type 0 where
  pub differ : m ≢ n
  pub same : hmac key m ≡ hmac key n

-- one frame is for one scope and for one datagram
pub record IsForOne (s t : Scope) (d e : List ℕ) : Type 0 where
  pub purpose : s.purpose ≡ t.purpose
  pub cluster : s.cluster ≡ t.cluster
  pub genesis : s.genesis ≡ t.genesis
  pub bound : s.bound ≡ t.bound
  pub datagram : d ≡ e

-- what is taken if the nodes have a key: what someone with one of their keys has sealed for this node, or no node's
-- message
abbrev pub IsVouched : Seals → List ℕ → Type 0
IsVouched s frame = IsSealedBy (key_list s.nodes) (to_node s s.node) frame (heard s frame) ⊎ IsOfNoNode (heard s frame)

-- that client of the cluster sealed it, under a key that the masters yield for it
abbrev pub IsSealedByClient : Seals → ℕ → List ℕ → List ℕ → Type 0
IsSealedByClient s client frame datagram =
    IsSealedBy (client_keys client (key_list s.clients)) (asking s.cluster client) frame datagram

-- what is taken if nodes and clients have keys: what someone with a key of the nodes has sealed for this node, or
-- nothing, or what someone with the key of the client that it names has sealed
abbrev pub IsOfWhoItNames : Seals → List ℕ → Type 0
IsOfWhoItNames s frame =
    IsSealedBy (key_list s.nodes) (to_node s s.node) frame (heard s frame) ⊎ (heard s frame ≡ [])
    ⊎ IsSealedByClient s (client_in (heard s frame)) frame (heard s frame)
