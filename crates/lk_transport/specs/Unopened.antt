-- Frames from nodes that a node cannot open: what their bytes tell all the same.
use Rattle.std.specs.Prelude.{ℕ, Bool, true, false, ◌==◌, ◌&&◌, ◌||◌, not, if◌then◌else◌, List, [], ◌∷◌, Option}
use Rattle.std.specs.Prelude.{Some, None, get_or}
use Rattle.std.specs.Int.{w64, from_be_bytes}
use Rattle.std.specs.declared.net.socket_addr.SocketAddr.{SocketAddr}
use Rattle.lk_auth.specs.Seals.{heard}
use Rattle.lk_auth.specs.declared.seals.Seals.{Seals}
use Rattle.lk_transport.specs.declared.unopened.UnopenedFrame.{UnopenedFrame}

-- it begins as a frame from a node to a node does: with the letters LS, version 1 and purpose 1
abbrev pub is_node_frame : List ℕ → Bool
is_node_frame (l ∷ s ∷ version ∷ purpose ∷ rest) =
    if l == 76 then (if s == 83 then (if version == 1 then purpose == 1 else false) else false) else false
is_node_frame _ = false

-- behind the tag, which ends at byte 36, a message or a probe begins, with the letters LK or LP: it names its cluster
abbrev pub names_cluster : List ℕ → Bool
names_cluster frame = get_or frame 36 0 == 76 && (get_or frame 37 0 == 75 || get_or frame 37 0 == 80)

-- the cluster that it names: eight bytes at offset 4 behind the tag. A byte that is not there counts as 0
abbrev pub cluster_in : List ℕ → ℕ
cluster_in frame =
    from_be_bytes w64
    (get_or frame 40 0 ∷ get_or frame 41 0 ∷ get_or frame 42 0 ∷ get_or frame 43 0 ∷ get_or frame 44 0
    ∷ get_or frame 45 0 ∷ get_or frame 46 0 ∷ get_or frame 47 0 ∷ [])

-- the cluster that it names, if that is another one
abbrev pub other_cluster : ℕ → List ℕ → Option ℕ
other_cluster cluster frame =
    if names_cluster frame && not (cluster_in frame == cluster) then Some (cluster_in frame) else None

-- there is nothing in it
abbrev pub is_nothing : List ℕ → Bool
is_nothing [] = true
is_nothing (byte ∷ bytes) = false

-- what is told of a frame from that address: a node's frame that opens to nothing, and the other cluster that it names;
-- nothing of any other frame. Where the nodes have no key nothing is opened
abbrev pub unopened : Seals → SocketAddr → List ℕ → Option UnopenedFrame
unopened s from frame =
    if is_nothing (heard s frame) && is_node_frame frame then
    Some (record { from = from; cluster = other_cluster s.cluster frame }) else None
