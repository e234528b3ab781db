-- What a receive buffer holds.
use Rattle.std.specs.Prelude.{ℕ, List, Option, Some, None}
use Rattle.std.specs.declared.net.socket_addr.SocketAddr.{SocketAddr}
use Rattle.lk_probe.specs.declared.reported.Reported.{Reported}
use Rattle.lk_transport.specs.declared.received_probe.ReceivedProbe.{ReceivedProbe}
use Rattle.lk_transport.specs.declared.received_watch.ReceivedWatch.{ReceivedWatch}

-- the source and the bytes of the latest datagram, the kept probe, report and watch, each if there is one
pub record BufferValue : Type 0 where
  pub last : Option (SocketAddr × List ℕ)
  pub asked : Option ReceivedProbe
  pub reported : Option Reported
  pub watched : Option ReceivedWatch

-- the first of two probes, if there is one
abbrev pub first_asked : Option ReceivedProbe → Option ReceivedProbe → Option ReceivedProbe
first_asked None next = next
first_asked (Some a) next = Some a

-- the first of two reports, if there is one
abbrev pub first_reported : Option Reported → Option Reported → Option Reported
first_reported None next = next
first_reported (Some r) next = Some r

-- the first of two watches, if there is one
abbrev pub first_watched : Option ReceivedWatch → Option ReceivedWatch → Option ReceivedWatch
first_watched None next = next
first_watched (Some w) next = Some w
