-- So many envelopes of the node to itself were taken, in order.
use Rattle.std.proofs.Common.{◌≡◌, List, [], ◌++◌, length}
use Rattle.lk_node_interface.specs.Envelopes.{EnvelopeValue}
use Rattle.lk_server.specs.Gatherings.{AddsAll}
use Rattle.lk_server.specs.Servers.{datagrams_in}
use Rattle.lk_server.specs.StepNotes.{NotesAll}
use Rattle.lk_server.proofs.server.Server.add_loopbacks.Given as goal

abbrev pub invariant-envelopes : goal.invariant-envelopes
invariant-envelopes g l =
    (taken : List EnvelopeValue) × (l.fn.self.loopback ≡ taken ++ l.self.loopback) × (length taken ≡ l.counter)
    × AddsAll g.R.ServerReplica.Gathers (datagrams_in taken []) l.fn.group l.group l.fn.self l.self
    × (l.self ≡ record l.fn.self {
      replica = l.self.replica;
      failed = l.self.failed;
      digest = l.self.digest;
      quiet = l.self.quiet;
      fed = l.self.fed;
      received = l.self.received;
      ticks = l.self.ticks;
      loopback = l.self.loopback;
    })
    × NotesAll g.R.ServerReplica.Takes g.R.ServerReplica.KeepsDigest g.R.ServerReplica.HasStatus l.fn.group l.group
    l.fn.self l.self
