-- The fields of a report that a status prints, with their names, kinds and help.
use Rattle.std.specs.Prelude.{ℕ, Bool, true, false, Option, Some, None, List, [], ◌∷◌, length, codes, if◌then◌else◌}
use Rattle.lk_probe.specs.Grammar.{flag, heard_of, or_zero}
use Rattle.lk_probe.specs.declared.probe.Report.{Report}
use Rattle.lk_probe.specs.declared.reach.Reach.{Reach}
use Rattle.lk_status_command.specs.declared.field.Field.{Field}
use Rattle.lk_status_command.specs.declared.field.Field.TheVariants.{Leads, Leader, Silence, Promised, Executed}
use Rattle.lk_status_command.specs.declared.field.Field.TheVariants.{Snapshot}
use Rattle.lk_status_command.specs.declared.field.Field.TheVariants.{Members, Pending, Waiting, Unread, Unsent, Ticks}
use Rattle.lk_status_command.specs.declared.field.Field.TheVariants.{Format, Watches, Names, State}
use Rattle.lk_status_command.specs.declared.field.Field.TheVariants.{Table, Heard, ReadsBundles, SendsBundles}

-- the node that a report takes for the leader, or 0: a leader takes itself for it
abbrev pub presumed_in : Report → ℕ
presumed_in r = if r.status.leadership.leads then r.node else or_zero r.status.leadership.leader

-- whether a node reads bundles, and whether it sends them, if that is said
abbrev pub reads_in : Option Reach → Option ℕ
reads_in None = None
reads_in (Some t) = Some (flag t.reads_bundles)

abbrev pub sends_in : Option Reach → Option ℕ
sends_in None = None
sends_in (Some t) = Some (flag t.sends_bundles)

-- how many watches a node keeps, and how many names its lock table has, if that is said
abbrev pub watches_in : Option Reach → Option ℕ
watches_in None = None
watches_in (Some t) = Some t.watches

abbrev pub names_in : Option Reach → Option ℕ
names_in None = None
names_in (Some t) = Some t.names

-- the position of the digest of a node's state, if that is said
abbrev pub state_in : Option Reach → Option ℕ
state_in None = None
state_in (Some t) = Some t.state.position

-- the number of a field that each report has
abbrev pub field_number : Field → Report → ℕ
field_number Leads r = flag r.status.leadership.leads
field_number Leader r = presumed_in r
field_number Silence r = r.status.leadership.silence
field_number Promised r = r.status.leadership.promised.round
field_number Executed r = r.status.progress.executed
field_number Snapshot r = r.status.progress.snapshot
field_number Members r = length r.status.members
field_number Pending r = r.status.progress.pending
field_number Waiting r = r.status.traffic.waiting
field_number Unread r = r.status.traffic.unread
field_number Unsent r = r.status.traffic.unsent
field_number Ticks r = r.status.traffic.ticks
field_number Format r = r.status.identity.format
field_number Table r = r.status.identity.table
field_number _ r = 0

-- the number that a field shows of a report, if the report says it
abbrev pub field_value : Field → Report → Option ℕ
field_value Heard r = heard_of r.reach
field_value ReadsBundles r = reads_in r.reach
field_value SendsBundles r = sends_in r.reach
field_value Watches r = watches_in r.reach
field_value Names r = names_in r.reach
field_value State r = state_in r.reach
field_value field r = Some (field_number field r)

-- its name in JSON, and in a metric
abbrev pub field_name : Field → List ℕ
field_name Leads = codes "leads"
field_name Leader = codes "leader"
field_name Silence = codes "leader_silence_ticks"
field_name Promised = codes "promised_round"
field_name Executed = codes "executed_positions"
field_name Snapshot = codes "snapshot_position"
field_name Members = codes "members"
field_name Pending = codes "change_pending_positions"
field_name Waiting = codes "waiting_requests"
field_name Unread = codes "unread_datagrams_total"
field_name Unsent = codes "failed_sends_total"
field_name Ticks = codes "ticks_total"
field_name Format = codes "store_format"
field_name Table = codes "table_version"
field_name Heard = codes "members_heard"
field_name ReadsBundles = codes "reads_bundles"
field_name SendsBundles = codes "sends_bundles"
field_name Watches = codes "watches"
field_name Names = codes "names"
field_name State = codes "state_position"

-- it only grows until the node restarts
abbrev pub is_counter : Field → Bool
is_counter Unread = true
is_counter Unsent = true
is_counter Ticks = true
is_counter _ = false

-- its kind, as Prometheus has it
abbrev pub field_kind : Field → List ℕ
field_kind field = if is_counter field then codes "counter" else codes "gauge"

-- what it is
abbrev pub field_help : Field → List ℕ
field_help Leads = codes "Whether the node leads."
field_help Leader = codes "The node that it takes for the leader, or 0."
field_help Silence = codes "Ticks since it last heard of a leader."
field_help Promised = codes "Round of the ballot that it has promised."
field_help Executed = codes "Positions that it has executed."
field_help Snapshot = codes "Position of its snapshot."
field_help Members = codes "Members of the next position, as it knows them."
field_help Pending = codes "Positions before the last join or leave takes effect."
field_help Waiting = codes "Requests that wait to be proposed."
field_help Unread = codes "Datagrams that could not be read, since its start."
field_help Unsent = codes "Sends that failed, since its start."
field_help Ticks = codes "Ticks since its start."
field_help Format = codes "Format of its store."
field_help Table = codes "Version of its lock table: 2 once it is raised."
field_help Heard = codes "Members of the next position that it hears, itself included."
field_help ReadsBundles = codes "Whether it reads bundles."
field_help SendsBundles = codes "Whether it sends bundles."
field_help Watches = codes "Watches that it keeps."
field_help Names = codes "Names that its lock table has, free ones too: 512 at most."
field_help State = codes "Position at which it took the last digest of its state, 0 for none."

-- all of them, in the order in which they are printed
abbrev pub all_fields : List Field
all_fields =
    Leads ∷ Leader ∷ Silence ∷ Promised ∷ Executed ∷ Snapshot ∷ Members ∷ Pending
    ∷ Waiting ∷ Unread ∷ Unsent ∷ Ticks ∷ Format ∷ Table ∷ Heard ∷ ReadsBundles ∷ SendsBundles
    ∷ Watches ∷ Names ∷ State ∷ []
