-- So many frames of the socket came, in order, in at most two receives each, and the first probe and the first report
-- of them are kept.
use Rattle.std.proofs.Common.{◌≡◌, ◌*◌, ℕ, List, length}
use Rattle.std.specs.declared.net.socket_addr.SocketAddr.{SocketAddr}
use Rattle.lk_server.specs.Gatherings.{AddsFromSocket}
use Rattle.lk_server.specs.StepNotes.{NotesAll}
use Rattle.lk_transport.specs.Kept.{KeepsOf}
use Rattle.lk_server.proofs.server.Server.add_further_datagrams.Given as goal

abbrev pub invariant-datagrams : goal.invariant-datagrams
invariant-datagrams g l =
    (frames : List (SocketAddr × List ℕ)) × (length frames ≡ l.counter)
    × AddsFromSocket g.R.ServerReplica.Gathers g.S.DatagramSocket.is_observable (2 * l.counter) frames l.fn.group
    l.group l.fn.self l.self
    × (l.self ≡ record l.fn.self {
      replica = l.self.replica;
      failed = l.self.failed;
      digest = l.self.digest;
      quiet = l.self.quiet;
      fed = l.self.fed;
      received = l.self.received;
      ticks = l.self.ticks;
      addresses = l.self.addresses;
      incoming = l.self.incoming;
    })
    × KeepsOf l.fn.self.addresses.seals frames l.fn.buffer l.buffer
    × NotesAll g.R.ServerReplica.Takes g.R.ServerReplica.KeepsDigest g.R.ServerReplica.HasStatus l.fn.group l.group
    l.fn.self l.self
