-- Which of the datagrams that arrive at a node a replica gets.
use Rattle.std.specs.Prelude.{◌==◌, ◌||◌, ◌&&◌, ℕ, Bool, false, if◌then◌else◌, List, [], ◌∷◌, ◌++◌}
use Rattle.std.specs.declared.net.socket_addr.SocketAddr.{SocketAddr}
use Rattle.lk_auth.specs.Seals.{key_list, heard}
use Rattle.lk_address_book.specs.Addresses.{Filter}
use Rattle.lk_address_book.specs.Admins.{is_request, bars}
use Rattle.lk_address_book.specs.Outsiders.{has_none, is_outsiders_want}

-- it begins with the letters LP, as probes and reports do, or LW, as watches and notices do: these are not part of the
-- protocol
abbrev pub is_beside_protocol : List ℕ → Bool
is_beside_protocol (l ∷ p ∷ rest) = if l == 76 then p == 80 || p == 87 else false
is_beside_protocol _ = false

-- an arrived frame with its source, opened
abbrev pub opened_as : Filter → SocketAddr × List ℕ → SocketAddr × List ℕ
opened_as c d = (d.0, heard c.seals d.1)

-- no sender is known by a key, and it is a Want of a number that never joined
abbrev pub is_unowed : Filter → List ℕ → Bool
is_unowed c datagram = has_none (key_list c.seals.nodes) && is_outsiders_want c.joined datagram

-- no replica gets it, wherever it came from: it is a client's request, and the node is deaf, or it is administrative
-- and the client is no admin; or it is a Want whose reply is owed to nobody
abbrev pub is_dropped : Filter → List ℕ → Bool
is_dropped c datagram = ((c.deaf && is_request datagram) || bars c.admins datagram) || is_unowed c datagram

-- no replica gets it: it is not part of the protocol, or came from a node of another genesis, or it is dropped
abbrev pub is_filtered_out : Filter → SocketAddr × List ℕ → Bool
is_filtered_out c d =
    is_beside_protocol (heard c.seals d.1) || (c.strangers d.0 || is_dropped c (heard c.seals d.1))

-- an arrived frame as a replica gets it: opened, or nothing if it is filtered out
abbrev pub filtered : Filter → SocketAddr × List ℕ → List (SocketAddr × List ℕ)
filtered c d = if is_filtered_out c d then [] else opened_as c d ∷ []

-- all arrived frames as a replica gets them, in order
abbrev pub all_filtered : Filter → List (SocketAddr × List ℕ) → List (SocketAddr × List ℕ)
all_filtered c [] = []
all_filtered c (d ∷ came) = filtered c d ++ all_filtered c came
