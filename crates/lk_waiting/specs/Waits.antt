-- Who waits between the turns of a queue, and at which names it has to look in the next one.
use Rattle.std.specs.Prelude.{◌≡◌, ◌≤◌, ◌-◌, ◌⊎◌, ℕ, Bool, false, List, [], Option}
use Rattle.lk_locks.specs.Plain.{Table}
use Rattle.lk_node_interface.specs.declared.note.Note.{Note}
use Rattle.lk_watch.specs.Queues.{QueueValue, begun, max_envelopes}
use Rattle.lk_watch.specs.Seen.{holds_by, seen_in}
use Rattle.lk_watch.specs.declared.seen.SeenName.{SeenName}
use Rattle.lk_waiting.specs.ChangedNames.{AreChanged, ChangedValue, names_in, none_changed}
use Rattle.lk_waiting.specs.declared.moment.Moment.{Moment}

pub record WaitingValue : Type 0 where
  pub queue : QueueValue
  -- the count of periods up to which their watches have lived
  pub aged : ℕ
  -- the names whose holders may have changed since the queue's last turn
  pub changed : ChangedValue
  -- whether the server spoke for the cluster then, and how many positions it had executed
  pub spoke : Bool
  pub served : ℕ

-- as a server starts
abbrev pub nobody_waits : WaitingValue
nobody_waits = record {
  queue = record { waiters = []; left = max_envelopes };
  aged = 0;
  changed = none_changed;
  spoke = false;
  served = 0;
}

-- the names of the commands that were executed are noted, if anybody waits
abbrev pub NotesChanges : List Note → WaitingValue → WaitingValue → Type 0
NotesChanges notes old new =
    ((old.queue.waiters ≡ []) × (new.changed ≡ old.changed)) ⊎ AreChanged (names_in notes) old.changed new.changed

-- since the queue's last turn no period has ended, no snapshot was installed, since none is of more positions than were
-- executed then, and the server has neither begun nor ceased to speak for the cluster
pub record OnlyCommands (w : WaitingValue) (m : Moment) : Type 0 where
  pub no_period : m.periods ≡ w.aged
  pub no_snapshot : m.snapshot ≤ w.served
  pub as_before : m.speaks ≡ w.spoke

-- nor was any command executed that names one
pub record HasNothingNew (w : WaitingValue) (m : Moment) : Type 0 where
  pub only : OnlyCommands w m
  pub no_name : w.changed ≡ none_changed

-- this is what the table says of the names that commands may have changed, where nothing else can have changed one
pub record AreAllChanged (table : Table) (w : WaitingValue) (m : Moment) (seen : List SeenName) : Type 0 where
  pub only : OnlyCommands w m
  pub not_all : w.changed.all ≡ false
  pub names : seen ≡ seen_in table w.changed.names

-- the queue's turn begins: the periods since its last one have passed, and whoever holds a name by the table, or by
-- what it is shown, waits for it no more
abbrev pub begun_at : Table → Option (List SeenName) → Moment → WaitingValue → WaitingValue
begun_at table seen m w = record {
  queue = begun (holds_by table seen) (m.periods - w.aged) w.queue;
  aged = m.periods;
  changed = none_changed;
  spoke = m.speaks;
  served = m.executed;
}
