-- How a node opens what arrives at its socket, and seals the datagrams that it sends.
use Rattle.std.specs.Prelude.{◌≡◌, ◌⊎◌, ℕ, List, [], ◌∷◌, Option, Some, None, if◌then◌else◌, ◌==◌, slice_index, drop}
use Rattle.std.specs.Prelude.{replicate}
use Rattle.lk_auth.specs.Clients.{client_keys, client_in}
use Rattle.lk_auth.specs.Frames.{sealed, opened}
pub use Rattle.lk_auth.specs.KeyLists.{key_list}
use Rattle.lk_auth.specs.declared.frame.Purpose.TheVariants.{ToNode, Asking, Replying}
use Rattle.lk_auth.specs.declared.frame.Scope.{Scope}
use Rattle.lk_auth.specs.declared.seals.Seals.{Seals}

-- the scope of a message to that node, of a node of the same genesis
abbrev pub to_node : Seals → ℕ → Scope
to_node s node = record { purpose = ToNode; cluster = s.cluster; genesis = s.genesis; bound = node }

-- requests and replies have zeros in place of the genesis' digest: a client knows its cluster by the number alone
abbrev pub no_genesis : List ℕ
no_genesis = replicate 32 0

-- the scope of a request of that client
abbrev pub asking : ℕ → ℕ → Scope
asking cluster client = record { purpose = Asking; cluster = cluster; genesis = no_genesis; bound = client }

-- the scope of a node's reply to that client
abbrev pub replying : ℕ → ℕ → Scope
replying cluster client = record { purpose = Replying; cluster = cluster; genesis = no_genesis; bound = client }

-- the first of two, if there is one, or else the second
abbrev pub first_of : Option (List ℕ) → Option (List ℕ) → Option (List ℕ)
first_of None other = other
first_of (Some d) other = Some d

-- what the first key that opens a frame opens it to
abbrev pub opened_by : List (List ℕ) → Scope → List ℕ → Option (List ℕ)
opened_by [] s frame = None
opened_by (key ∷ keys) s frame = first_of (opened key s frame) (opened_by keys s frame)

-- the datagram if it is of a request's kind, and otherwise nothing
abbrev pub only_request : List ℕ → List ℕ
only_request datagram = if slice_index datagram 3 == 9 then datagram else []

abbrev pub only_request_in : Option (List ℕ) → List ℕ
only_request_in None = []
only_request_in (Some datagram) = only_request datagram

-- the request in a frame of that client, under the keys derived for it; nothing if it does not open to one
abbrev pub heard_of : ℕ → List (List ℕ) → ℕ → List ℕ → List ℕ
heard_of client masters cluster frame =
    only_request_in (opened_by (client_keys client masters) (asking cluster client) frame)

-- the request in what arrives: with masters, under the keys derived for the client that it names; without masters, as
-- it is
abbrev pub heard_of_client : List (List ℕ) → ℕ → List ℕ → List ℕ
heard_of_client [] cluster frame = only_request frame
heard_of_client (key ∷ keys) cluster frame = heard_of (client_in (drop 36 frame)) (key ∷ keys) cluster frame

-- the first, if there is one, or else the other
abbrev pub said_or : Option (List ℕ) → List ℕ → List ℕ
said_or (Some d) other = d
said_or None other = other

-- what a node takes from what arrives; everything unchanged if the nodes have no key
abbrev pub heard_with : List (List ℕ) → Seals → List ℕ → List ℕ
heard_with [] s frame = frame
heard_with (key ∷ keys) s frame =
    said_or (opened_by (key ∷ keys) (to_node s s.node) frame) (heard_of_client (key_list s.clients) s.cluster frame)

abbrev pub heard : Seals → List ℕ → List ℕ
heard s frame = heard_with (key_list s.nodes) s frame

-- what is sent for a datagram: its frame under the first key, or the datagram itself if there is none
abbrev pub framed_by : List (List ℕ) → Scope → List ℕ → List ℕ
framed_by [] s datagram = datagram
framed_by (key ∷ keys) s datagram = sealed key s datagram

-- it is the frame of that datagram under one of the keys
abbrev pub IsSealedBy : List (List ℕ) → Scope → List ℕ → List ℕ → Type 0
IsSealedBy [] s frame datagram = ⊥
IsSealedBy (key ∷ keys) s frame datagram = (frame ≡ sealed key s datagram) ⊎ IsSealedBy keys s frame datagram

-- nodes do not send its kind
abbrev pub IsOfNoNode : List ℕ → Type 0
IsOfNoNode datagram = (datagram ≡ []) ⊎ (slice_index datagram 3 ≡ 9)

-- it is one of these keys
abbrev pub IsAmong : List ℕ → List (List ℕ) → Type 0
IsAmong key [] = ⊥
IsAmong key (other ∷ keys) = (key ≡ other) ⊎ IsAmong key keys

-- some key is one of these and one of those
abbrev pub Share : List (List ℕ) → List (List ℕ) → Type 0
Share keys others = (key : List ℕ) × IsAmong key keys × IsAmong key others

-- what that client takes from what arrives: a node's reply to it; everything unchanged if there is no key
abbrev pub replied : List (List ℕ) → ℕ → ℕ → List ℕ → List ℕ
replied [] cluster client frame = frame
replied (key ∷ keys) cluster client frame = said_or (opened_by (key ∷ keys) (replying cluster client) frame) []
