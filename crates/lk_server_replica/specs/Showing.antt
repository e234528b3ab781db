-- The values that a replica shows to a probe.
use Rattle.std.specs.Prelude.{◌≡◌, ◌↔◌, ◌==◌, ◌+◌, ◌-◌, ℕ, if◌then◌else◌, length, min, slice_get, Some, IsTrue}
use Rattle.std.specs.FinMap as map
use Rattle.lk_members.specs.Sets.{newest as newest_of}
use Rattle.lk_members.specs.Windows.{RosterValue}
use Rattle.lk_leader.specs.Proposing.{Leads}
use Rattle.lk_replica.specs.ReplicaValue.{ReplicaValue}
use Rattle.lk_server_replica.specs.Tables.{table_of}
use Rattle.lk_server_replica.specs.declared.probed_state.ProbedState.{ProbedState}

-- how many positions remain before the last granted join or leave takes effect; 0 if none is pending
abbrev pub pending_in : RosterValue → ℕ
pending_in roster = if roster.changed == 0 then 0 else (roster.changed + length roster.sets) - (roster.executed + 1)

-- each field has the replica's value, capped where the field is shorter
pub record IsShown (r : ReplicaValue) (s : ProbedState) : Type 0 where
  pub leads : IsTrue s.leadership.leads ↔ Leads r.node.leader r.node.learner.whole.roster
  pub leader : s.leadership.leader ≡ r.node.known
  pub silence : s.leadership.silence ≡ r.node.ticks
  pub promised : s.leadership.promised ≡ r.node.acceptor.state.promised
  pub executed : s.progress.executed ≡ r.node.learner.whole.roster.executed
  pub snapshot : s.progress.snapshot ≡ r.node.acceptor.state.snapshot_position
  pub members : slice_get r.node.learner.whole.roster.sets 0 ≡ Some s.members
  pub newest : s.newest ≡ newest_of r.node.learner.whole.roster.sets
  pub pending : s.progress.pending ≡ min (pending_in r.node.learner.whole.roster) 255
  pub waiting : s.waiting ≡ min (length r.node.leader.waiting) 65535
  pub format : s.format ≡ r.store.format
  pub names : s.names ≡ map.len (table_of r).names
