-- How `locks node` ends, once it has opened what its node runs on.
use Rattle.std.specs.Prelude.{◌≡◌, ◌≢◌, ◌≤◌, ◌^◌, ℕ, Bool, List, [], Option, Result, MatchResult}
use Rattle.std.specs.declared.net.socket_addr.SocketAddr.{SocketAddr}
use Rattle.clap.specs.declared.parser.matches.ArgMatches.{ArgMatches}
use Rattle.lk_disk.specs.Disk.{Disk}
use Rattle.lk_disk.specs.declared.device.Side.{Side}
use Rattle.lk_locks.specs.Meaning.{table_meaning}
use Rattle.lk_locks.specs.Packed.{IsTableText}
use Rattle.lk_node_interface.specs.Envelopes.{EnvelopeValue}
use Rattle.lk_replica.specs.ReplicaValue.{ReplicaValue}
use Rattle.lk_transport.specs.Streams.{Stream}
use Rattle.lk_program_fault.specs.declared.fault.ProgramFault.{ProgramFault}
use Rattle.lk_server.specs.Servers.{ServerValue}
use Rattle.lk_node_setup.specs.Opened.{AreOpenedFor}
use Rattle.lk_node_setup.specs.SelfProbes.{socket_value}
use Rattle.lk_node_setup.specs.declared.resources.NodePlan.{NodePlan}
use Rattle.lk_node_setup.specs.declared.resources.Resources.{Resources}
use Rattle.lk_node_process.specs.Revivals.{StartsOn, RestsOn, Surroundings, surroundings}
use Rattle.lk_node_process.specs.Turns.{RunsTurns, EndsBefore}
use Rattle.lk_node_process.specs.declared.node_end.RefusedStart.{RefusedStart}
use Rattle.lk_main.specs.Plans.{PlansNode}
use Rattle.lk_main.specs.Subcommands.{AreOfSubcommand}

-- `is_text`, `is_store` and `is_bound` say what the platform's files and sockets are, `honest` that the device is
-- honest, `disk` what it has, `Says` relates a replica's input to its envelopes, and `observable` says that the socket
-- reveals what it sends and finds
module _ {D S : Type 0} (is_text : List ℕ → List ℕ → Type 0) (is_store : List ℕ → Bool → D → Type 0)
    (is_bound : SocketAddr → S → Type 0) (honest : Type 0) (disk : D → Side → Disk)
    (Says : ReplicaValue → List (Option (List ℕ)) → List EnvelopeValue → ReplicaValue → Type 0) (observable : Type 0)
    (sent : S → List (SocketAddr × List ℕ)) (failures : S → ℕ) (incoming : S → Stream) where
  -- what a node is given beside the device of its store, where it runs on these resources
  abbrev pub given_by : Resources D S → Surroundings
  given_by r = surroundings r.pace r.network (socket_value sent failures incoming r.socket)

  -- the server of the plan's node starts on these resources, from the disks of their device
  abbrev pub StartsBy : NodePlan → Resources D S → ServerValue ReplicaValue → Type 0
  StartsBy plan r = StartsOn table_meaning honest (disk r.device) plan.header (given_by r)

  -- at this status this server is left: it has started on these resources, and has done all its turns and nothing else,
  -- or fewer and then one that has ended it
  pub record LeavesServer (plan : NodePlan) (r : Resources D S) (status : ℕ)
      (ended : ServerValue ReplicaValue) : Type 0 where
    pub all_turns : status ≡ 0 → RunsTurns (StartsBy plan r) Says observable (2 ^ 48) ended
    pub broken : status ≡ 1 → EndsBefore (StartsBy plan r) Says observable (2 ^ 48) ended

  -- none is left, since the restart from the disks of these resources was refused; the socket is as it was given
  pub record LeavesNone (plan : NodePlan) (r : Resources D S) (status : ℕ)
      (refused : RefusedStart ProgramFault D S) : Type 0 where
    pub failed : status ≡ 1
    pub rests : RestsOn table_meaning IsTableText honest (disk r.device) plan.header (given_by r) refused.fault
        (disk refused.device) (socket_value sent failures incoming refused.socket)

  -- at this status this is left: what the plan names was opened, and its node has run on that, and on nothing else
  pub record EndsAsPlanned (plan : NodePlan) (status : ℕ)
      (left : Result (ServerValue ReplicaValue) (RefusedStart ProgramFault D S)) : Type 0 where
    pub resources : Resources D S
    pub opened : AreOpenedFor is_text is_store is_bound honest disk observable sent failures incoming plan resources
    pub most : status ≤ 1
    pub leaves : MatchResult left (LeavesServer plan resources status) (LeavesNone plan resources status)

  -- these arguments spell a plan, and its node has ended as planned at this status
  pub record RunsArguments (m : ArgMatches) (status : ℕ) : Type 0 where
    pub plan : NodePlan
    pub spelled : PlansNode m plan
    pub left : Result (ServerValue ReplicaValue) (RefusedStart ProgramFault D S)
    pub ends : EndsAsPlanned plan status left

  -- so it is of the arguments of the subcommand that this command line names
  pub record RunsNamed (whole : ArgMatches) (status : ℕ) : Type 0 where
    pub arguments : ArgMatches
    pub named : AreOfSubcommand whole arguments
    pub runs : RunsArguments arguments status
