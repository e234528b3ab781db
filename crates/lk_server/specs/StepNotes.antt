-- What a server notes at each input of its replica: the digest of the state, whether the input has fed it, for how many
-- periods no leader was heard, and the periods that have ended.
use Rattle.std.specs.Prelude.{◌≡◌, ◌≢◌, ◌⊎◌, ◌||◌, ◌%◌, ℕ, Bool, true, false, List, [], Option, None}
use Rattle.lk_node_interface.specs.declared.input.Input.{Input}
use Rattle.lk_node_interface.specs.declared.input.Input.TheVariants.{Nudge, Datagram}
use Rattle.lk_node_interface.specs.declared.nudge_reason.NudgeReason.TheVariants.{Fed}
use Rattle.lk_address_book.specs.Senders.{IsSentBy}
use Rattle.lk_pacing.specs.declared.pace.Pace.{Pace}
use Rattle.lk_probe.specs.declared.state_digest.StateDigest.{StateDigest}
use Rattle.lk_replica.specs.Groups.{GroupValue}
use Rattle.lk_server_replica.specs.Feedings.{is_fed}
use Rattle.lk_server_replica.specs.Groups.{Sayings, Gatherings}
use Rattle.lk_server_replica.specs.Silences.{quiet_after, quiet_withheld}
use Rattle.lk_server_replica.specs.declared.replica_status.ReplicaStatus.{ReplicaStatus}
use Rattle.lk_server.specs.Gatherings.{DeliversAllEnvelopes}
use Rattle.lk_server.specs.Servers.{ServerValue, AreWithheld, EndsPeriodOf, one_more_tick, periods_by}

-- what it has noted: the digest that it keeps, whether an input of the group has fed the replica, the periods without a
-- leader that it counts beside the replica, and the ticks that were given and withheld; and by what it does so: its
-- cluster, what ticks go by, and whether it is deaf
pub record Noted : Type 0 where
  pub digest : StateDigest
  pub fed : Bool
  pub quiet : ℕ
  pub ticks : ℕ
  pub withheld : ℕ
  pub cluster : ℕ
  pub pace : Pace
  pub deaf : Bool

abbrev pub noted : {R : Type 0} → ServerValue R → Noted
noted s = record {
  digest = s.digest;
  fed = s.fed;
  quiet = s.quiet;
  ticks = s.ticks;
  withheld = s.withheld;
  cluster = s.cluster;
  pace = s.pace;
  deaf = s.addresses.deaf;
}

-- what a call of `add_step` that succeeded does: the replica and the group before it, its input, and both after it
abbrev pub Takings : Type 0 → Type 1
Takings R = R → GroupValue → Input → R → GroupValue → Type 0

-- ---- periods

-- a period more has ended, with a tick or a nudge that the replica is given
abbrev pub one_period_more : Noted → Noted
one_period_more n = record n { ticks = one_more_tick n.ticks }

-- this input ends the period that was just counted: a nudge in each 31st, else a tick
abbrev pub EndsCounted : Noted → Input → Type 0
EndsCounted n input = EndsPeriodOf (periods_by n.ticks n.withheld) (AreWithheld n.pace n.deaf) input

-- a period more has ended, whose tick was withheld: ticks are, and the period is no 31st. It counts as one without a
-- leader, unless the replica has a term. Nothing else is noted
pub record NotesWithheld {R : Type 0} (HasStatus : R → ReplicaStatus → Type 0) (replica : R)
    (old new : Noted) : Type 0 where
  pub withholds : AreWithheld old.pace old.deaf
  pub no_nudge : one_more_tick (periods_by old.ticks old.withheld) % 31 ≢ 0
  pub status : ReplicaStatus
  pub has : HasStatus replica status
  pub is : new ≡ record old { withheld = one_more_tick old.withheld; quiet = quiet_withheld status old.quiet }

-- ---- inputs

-- at an input that this node sent, if one did, the server keeps the digest, or takes that of the state that the replica
-- has then; it notes whether the input has fed the replica, unless another one of the group has; and its count of
-- periods without a leader goes on, or begins anew if the replica's does. Nothing else is noted. `Keeps` says whether a
-- server whose replica is in this state may keep the second digest after the first
pub record NotesInput {R : Type 0} (Keeps : R → StateDigest → StateDigest → Type 0)
    (HasStatus : R → ReplicaStatus → Type 0) (sender : Option ℕ) (before after : R) (old new : Noted) : Type 0 where
  pub digest : Keeps after old.digest new.digest
  pub was : ReplicaStatus
  pub had : HasStatus before was
  pub is : ReplicaStatus
  pub has : HasStatus after is
  pub fed : new.fed ≡ (old.fed || is_fed was is)
  pub quiet : new.quiet ≡ quiet_after sender was is old.quiet
  pub others : new ≡ record old { digest = new.digest; fed = new.fed; quiet = new.quiet }

-- the replica took inputs into this group, one after another, while periods ended; and each was noted
pub data NotesInputs {R : Type 0} (Takes : Takings R) (Keeps : R → StateDigest → StateDigest → Type 0)
    (HasStatus : R → ReplicaStatus → Type 0) (group : GroupValue) (begun : R) (first : Noted)
    : GroupValue → R → Noted → Type 0 where
  nothing : NotesInputs Takes Keeps HasStatus group begun first group begun first
  -- a datagram was taken, which that node has sent, if one has
  datagram : {mid now : GroupValue} {before after : R} {old new : Noted} (bytes : List ℕ) (sender : Option ℕ)
      → IsSentBy old.cluster bytes sender → NotesInputs Takes Keeps HasStatus group begun first mid before old
      → Takes before mid (Datagram bytes) after now → NotesInput Keeps HasStatus sender before after old new
      → NotesInputs Takes Keeps HasStatus group begun first now after new
  -- a period was counted, and what ends it was taken
  period : {mid now : GroupValue} {before after : R} {old new : Noted} (input : Input)
      → EndsCounted (one_period_more old) input → NotesInputs Takes Keeps HasStatus group begun first mid before old
      → Takes before mid input after now → NotesInput Keeps HasStatus None before after (one_period_more old) new
      → NotesInputs Takes Keeps HasStatus group begun first now after new
  -- a period was counted whose tick was withheld
  withheld : {now : GroupValue} {before : R} {old new : Noted}
      → NotesInputs Takes Keeps HasStatus group begun first now before old → NotesWithheld HasStatus before old new
      → NotesInputs Takes Keeps HasStatus group begun first now before new

-- the same between two states of a server
abbrev pub NotesAll : {R : Type 0} (Takes : Takings R) (Keeps : R → StateDigest → StateDigest → Type 0)
    (HasStatus : R → ReplicaStatus → Type 0) → GroupValue → GroupValue → ServerValue R → ServerValue R → Type 0
NotesAll Takes Keeps HasStatus group now old new =
    NotesInputs Takes Keeps HasStatus group old.replica (noted old) now new.replica (noted new)

-- nothing was taken: nothing is noted, or a period was counted whose tick was withheld
abbrev pub NotesNone : {R : Type 0} (HasStatus : R → ReplicaStatus → Type 0) → ServerValue R → ServerValue R → Type 0
NotesNone HasStatus old new =
    (noted new ≡ noted old) ⊎ NotesWithheld HasStatus old.replica (noted old) (noted new)

-- ---- a turn

-- the replica was nudged since it was fed: no period ends with that. It is noted as any input that no node sent; then
-- nothing has fed the replica
pub record NotesNudge {R : Type 0} (Takes : Takings R) (Keeps : R → StateDigest → StateDigest → Type 0)
    (HasStatus : R → ReplicaStatus → Type 0) (group now : GroupValue) (old new : ServerValue R) : Type 0 where
  pub takes : Takes old.replica group (Nudge Fed) new.replica now
  pub mid : Noted
  pub notes : NotesInput Keeps HasStatus None old.replica new.replica (noted old) mid
  pub is : noted new ≡ record mid { fed = false }

-- a group of which an input has fed the replica ends with a nudge that says so; any other group stays as it is
abbrev pub NudgesIfFed : {R : Type 0} (Takes : Takings R) (Keeps : R → StateDigest → StateDigest → Type 0)
    (HasStatus : R → ReplicaStatus → Type 0) → GroupValue → GroupValue → ServerValue R → ServerValue R → Type 0
NudgesIfFed Takes Keeps HasStatus group now old new =
    ((old.fed ≡ true) × NotesNudge Takes Keeps HasStatus group now old new)
    ⊎ ((old.fed ≡ false) × (now ≡ group) × (new ≡ old))

-- in a turn the replica took inputs into a new group while periods ended, and each was noted; if an input has fed it,
-- it was nudged for that, and otherwise it was not; then what the group said was handed on, and nothing more is noted.
-- For the next group nothing has fed the replica yet
pub record TurnsNotes {R : Type 0} (Says : Sayings R) (Gathers : Gatherings R) (Takes : Takings R)
    (Keeps : R → StateDigest → StateDigest → Type 0) (HasStatus : R → ReplicaStatus → Type 0) (observable : Type 0)
    (old new : ServerValue R) : Type 0 where
  pub group : GroupValue
  pub begins : Gathers old.replica [] group old.replica
  pub one : GroupValue
  pub mid : ServerValue R
  pub notes : NotesAll Takes Keeps HasStatus group one old mid
  pub now : GroupValue
  pub nudged : ServerValue R
  pub nudges : NudgesIfFed Takes Keeps HasStatus one now mid nudged
  pub sends_all : DeliversAllEnvelopes Says Gathers observable now nudged new
  pub kept : noted new ≡ noted nudged
  pub rests : new.fed ≡ false

-- in a turn in which the replica took nothing, a tick may have been withheld
abbrev pub TurnsNotesOrKeeps : {R : Type 0} (Says : Sayings R) (Gathers : Gatherings R) (Takes : Takings R)
    (Keeps : R → StateDigest → StateDigest → Type 0) (HasStatus : R → ReplicaStatus → Type 0)
    → Type 0 → ServerValue R → ServerValue R → Type 0
TurnsNotesOrKeeps Says Gathers Takes Keeps HasStatus observable old new =
    TurnsNotes Says Gathers Takes Keeps HasStatus observable old new
    ⊎ ((new.replica ≡ old.replica) × NotesNone HasStatus old new)
