-- The turns of a server, each with the warning that follows it where one is due.
use Rattle.std.specs.Prelude.{◌≡◌, ◌⊎◌, ◌<◌, ℕ, List, Option}
use Rattle.lk_probe.specs.declared.status.Status.{Status}
use Rattle.lk_node_interface.specs.Envelopes.{EnvelopeValue}
use Rattle.lk_replica.specs.ReplicaValue.{ReplicaValue}
use Rattle.lk_server_replica.specs.Showing.{IsShown}
use Rattle.lk_server_replica.specs.declared.probed_state.ProbedState.{ProbedState}
use Rattle.lk_server.specs.Probes.{ReportsStatus}
use Rattle.lk_server.specs.Servers.{ServerValue, periods}
use Rattle.lk_transport.specs.Chains.{Repeats}
use Rattle.lk_node_setup.specs.Reminders.{IsDue, IsNoneDue, Reminds, having_warned}
use Rattle.lk_node_setup.specs.declared.port_reminder.PortReminder.{PortReminder}
use Rattle.lk_node_process.specs.Turns.{DoesTurn, EndsByStranger, EndsTurn}

-- a server, the reminder of its node, and what was written so far
pub record Reminded : Type 0 where
  pub server : ServerValue ReplicaValue
  pub reminder : PortReminder
  pub written : Option (List ℕ)

-- these three together
abbrev pub reminded : ServerValue ReplicaValue → PortReminder → Option (List ℕ) → Reminded
reminded s r bytes = record { server = s; reminder = r; written = bytes }

-- this status tells what the server's replica shows, and the server's own count of periods
abbrev pub IsStatusOf : ServerValue ReplicaValue → Status → Type 0
IsStatusOf s status =
    (shown : ProbedState) × IsShown s.replica shown
    × ReportsStatus s.addresses.seals.genesis (periods s) s.withheld s.quiet shown status

-- by no status of the server a warning is due, and nothing is written
pub record WarnsOfNothing (s : ServerValue ReplicaValue) (old new : PortReminder)
    (before after : Option (List ℕ)) : Type 0 where
  pub none : (status : Status) → IsStatusOf s status → IsNoneDue old status
  pub same : new ≡ old
  pub written : after ≡ before

-- by this status of the server, the line of the node of that number, which listens at that port, is written if a
-- warning is due, and else nothing is; the next one is due a minute later, also where the line could not be written
pub record WarnsByStatus (node port : ℕ) (s : ServerValue ReplicaValue) (old new : PortReminder)
    (before after : Option (List ℕ)) : Type 0 where
  pub status : Status
  pub told : IsStatusOf s status
  pub reminds : Reminds node port status old new before after
      ⊎ ((named : ℕ) × IsDue old status named × (new ≡ having_warned old status))

-- a warning is written exactly if one is due by the server's own status
abbrev pub Warns : ℕ → ℕ → ServerValue ReplicaValue → PortReminder → PortReminder → Option (List ℕ)
    → Option (List ℕ) → Type 0
Warns node port s old new before after =
    WarnsOfNothing s old new before after ⊎ WarnsByStatus node port s old new before after

module _ (Says : ReplicaValue → List (Option (List ℕ)) → List EnvelopeValue → ReplicaValue → Type 0)
    (observable : Type 0) (node port : ℕ) where
  -- a turn, and then the warning by what the server reports after it
  pub record DoesTurnAndWarns (old new : Reminded) : Type 0 where
    pub turn : DoesTurn Says observable old.server new.server
    pub warning : Warns node port new.server old.reminder new.reminder old.written new.written

  -- it took fewer turns than this, each with its warning, and then one that ended it
  pub record WarnsUntil (most : ℕ) (first : Reminded) (ended : ServerValue ReplicaValue) : Type 0 where
    pub count : ℕ
    pub fewer : count < most
    pub last : Reminded
    pub turns : Repeats DoesTurnAndWarns count first last
    pub ends : EndsTurn Says observable last.server ended ⊎ EndsByStranger Says observable last.server ended
