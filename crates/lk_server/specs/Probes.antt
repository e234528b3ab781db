-- The report of a node, and how a server answers a probe with it.
use Rattle.std.specs.Prelude.{◌≡◌, ◌≤◌, ◌+◌, ℕ, Bool, List, Option, Some, None, if◌then◌else◌, length, min}
use Rattle.lk_probe.specs.Grammar.{SpellsReport, IsReportFor}
use Rattle.lk_probe.specs.declared.probe.Probe.{Probe}
use Rattle.lk_probe.specs.declared.probe.Report.{Report}
use Rattle.lk_probe.specs.declared.reach.Reach.{Reach}
use Rattle.lk_probe.specs.declared.state_digest.StateDigest.{StateDigest}
use Rattle.lk_probe.specs.declared.status.Status.{Status}
use Rattle.lk_probe.specs.declared.status.Leadership.{Leadership}
use Rattle.lk_server.specs.Servers.{ServerValue, heard_by, periods, send_state_at}
use Rattle.lk_transport.specs.declared.received_probe.ReceivedProbe.{ReceivedProbe}
use Rattle.lk_server_replica.specs.declared.probed_state.ProbedState.{ProbedState}
use Rattle.std.specs.declared.net.socket_addr.SocketAddr.{SocketAddr}
use Rattle.lk_transport.specs.Askers.{IsReplyAddress, Replies}

-- ---- what a node tells

-- the silence that is told is that of the replica and the periods that the server counts beside it, at most all whose
-- ticks were withheld; no count of 64 bits exceeds that
pub record TellsSilence (withheld quiet : ℕ) (shown told : Leadership) : Type 0 where
  pub is : told.silence ≡ min (shown.silence + min quiet withheld) 18446744073709551615
  pub least : shown.silence ≤ told.silence
  pub most : told.silence ≤ shown.silence + withheld
  pub others : told ≡ record shown { silence = told.silence }

-- a status tells what a replica shows, the digest of the genesis, and that count of periods; and with the silence that
-- the replica shows so many periods more, of so many whose ticks were withheld. The rest the server has counted
pub record ReportsStatus (digest : List ℕ) (count withheld quiet : ℕ) (shown : ProbedState)
    (s : Status) : Type 0 where
  pub genesis : s.identity.genesis ≡ digest
  pub format : s.identity.format ≡ shown.format
  pub leadership : TellsSilence withheld quiet shown.leadership s.leadership
  pub progress : s.progress ≡ shown.progress
  pub waiting : s.traffic.waiting ≡ shown.waiting
  pub ticks : s.traffic.ticks ≡ count
  pub members : s.members ≡ shown.members

-- ---- how it answers

-- a report has a reach exactly if the probe asks for one, and it tells this count of members that are heard, so many
-- watches, the names that the replica shows, and this digest of its state
pub record ReportsReach (asks : Bool) (heard : Option ℕ) (watches : ℕ) (digest : StateDigest) (shown : ProbedState)
    (reach : Option Reach) : Type 0 where
  pub told : Reach
  pub count : told.heard ≡ heard
  pub watches_told : told.watches ≡ watches
  pub names_told : told.names ≡ shown.names
  pub digest_told : told.state ≡ digest
  pub is : reach ≡ (if asks then Some told else None)

-- these bytes are a report of that node that answers the probe in its form, and tells what the replica shows, that
-- count of periods, this count of members that are heard, so many watches, and this digest of its state. By the laws of
-- lk_probe it is as long as the probe
pub record IsReportTo (node : ℕ) (genesis : List ℕ) (count withheld quiet : ℕ) (heard : Option ℕ) (watches : ℕ)
    (digest : StateDigest) (shown : ProbedState) (p : Probe) (bytes : List ℕ) : Type 0 where
  pub report : Report
  pub spelled : SpellsReport report bytes
  pub is_for : IsReportFor p report
  pub node_told : report.node ≡ node
  pub told : ReportsStatus genesis count withheld quiet shown report.status
  pub reached : ReportsReach p.asks_reach heard watches digest shown report.reach

-- the probe was answered, by the server's own count of periods, with whom it hears in this one, how many watches it
-- keeps and the digest that it took last, where a member gets its envelopes, or else where the probe came from; nothing
-- else is sent or changed, nor is what is to come, if the socket tells that. `Shows` is what a replica shows
pub record RepliesToProbe {R : Type 0} (Shows : R → ProbedState → Type 0) (observable : Type 0) (a : ReceivedProbe)
    (old new : ServerValue R) : Type 0 where
  pub shown : ProbedState
  pub shows : Shows old.replica shown
  pub bytes : List ℕ
  pub reports : IsReportTo old.node old.addresses.seals.genesis (periods old) old.withheld old.quiet
      (heard_by shown.members old) (length old.waiting.queue.waiters) old.digest shown a.probe bytes
  pub located : ProbedState
  pub locates : Shows old.replica located
  pub address : SocketAddr
  pub is_there : IsReplyAddress old.addresses located.members a address
  pub replies : Replies observable old.addresses.seals a address bytes (send_state_at old.loopback old)
      (send_state_at new.loopback new)
  pub still : observable → new.incoming ≡ old.incoming
  pub same : new ≡ record old { sent = new.sent; socket_failures = new.socket_failures; incoming = new.incoming }

-- the probe that is kept was answered, if one is; else nothing is sent or changed
abbrev pub RepliesToKept : {R : Type 0} → (R → ProbedState → Type 0) → Type 0 → Option ReceivedProbe
    → ServerValue R → ServerValue R → Type 0
RepliesToKept Shows observable None old new = new ≡ old
RepliesToKept Shows observable (Some a) old new = RepliesToProbe Shows observable a old new
