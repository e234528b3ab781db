-- What a socket in memory has sent, and what its receives are to find.
use Rattle.std.specs.Prelude.{ℕ, List, take, map, Option, Some, None}
use Rattle.std.specs.declared.net.socket_addr.SocketAddr.{SocketAddr}
use Rattle.lk_memory_socket.specs.declared.memory_socket.MemoryDatagram.{MemoryDatagram}
use Rattle.lk_transport.specs.Streams.{Stream}

abbrev pub datagram : MemoryDatagram → SocketAddr × List ℕ
datagram t = (t.address, t.bytes.items)

abbrev pub sent_in : List MemoryDatagram → List (SocketAddr × List ℕ)
sent_in ts = map datagram ts

-- what a receive finds: nothing, or a datagram with its source, of which at most the first 8,229 bytes
abbrev pub received_of : Option MemoryDatagram → Option (SocketAddr × List ℕ)
received_of None = None
received_of (Some t) = Some (t.address, take 16421 t.bytes.items)

-- each of these is what one receive finds, in order
abbrev pub coming_in : List (Option MemoryDatagram) → Stream
coming_in ts = map received_of ts
