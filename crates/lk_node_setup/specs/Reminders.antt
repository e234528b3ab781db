-- When a node warns, each minute, that nobody reaches it.
use Rattle.std.specs.Prelude.{◌≡◌, ◌⊎◌, ◌≤◌, ◌+◌, ◌++◌, ◌∷◌, [], ℕ, List, Option, Some, false, None, codes, min}
use Rattle.std.specs.Fmt.{decimal}
use Rattle.std.specs.Io.KnownBytes.{Appends}
use Rattle.lk_probe.specs.declared.status.Leadership.{Leadership}
use Rattle.lk_probe.specs.declared.status.Status.{Status}
use Rattle.lk_node_setup.specs.declared.port_reminder.PortReminder.{PortReminder}

-- the node neither leads nor has heard of a leader since its start
pub record KnowsNobody (l : Leadership) : Type 0 where
  pub leads : l.leads ≡ false
  pub leader : l.leader ≡ None

-- a warning is due after a turn, of that port: no probe came back from it, a minute or more has passed since the last
-- warning or the start, and the node knows nobody
pub record IsDue (r : PortReminder) (s : Status) (port : ℕ) : Type 0 where
  pub unreached : r.unreached ≡ Some port
  pub minute : r.due ≤ s.traffic.ticks
  pub nobody : KnowsNobody s.leadership

-- no warning is due
abbrev pub IsNoneDue : PortReminder → Status → Type 0
IsNoneDue r s = (port : ℕ) → IsDue r s port → ⊥

-- the reminder after a warning: the next is due 600 ticks after this status
abbrev pub having_warned : PortReminder → Status → PortReminder
having_warned r s = record r { due = min (s.traffic.ticks + 600) 18446744073709551615 }

-- the line of a warning: the node, the port at which it listens, and the one that the genesis names
unfoldable pub reminder_line : ℕ → ℕ → ℕ → List ℕ
reminder_line node own_port named =
    codes "warning: node "
    ++ (decimal node ++ (codes " has heard of no leader, and listens at port "
    ++ (decimal own_port ++ (codes "; the genesis names port " ++ (decimal named ++ 10 ∷ [])))))

-- after a turn the line is written if a warning is due, and else nothing is. `before` and `after` are what was written
-- so far
abbrev pub Reminds : ℕ → ℕ → Status → PortReminder → PortReminder → Option (List ℕ) → Option (List ℕ) → Type 0
Reminds node own_port s old new before after =
    ((port : ℕ) × IsDue old s port × Appends before after (reminder_line node own_port port)
    × (new ≡ having_warned old s))
    ⊎ (IsNoneDue old s × (after ≡ before) × (new ≡ old))
