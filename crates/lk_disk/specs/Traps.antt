-- A trap, and how a changing call counts it down.
use Rattle.std.specs.Prelude.{ℕ, ◌-◌, ◌==◌, nat_le, Bool, false, Option, Some, None, if◌then◌else◌}
use Rattle.lk_disk.specs.declared.trap.Trap.{Trap}
use Rattle.lk_disk.specs.declared.trap.Trap.TheVariants.{Off, Fail, Arm}

-- the trap goes off at the next changing call
abbrev pub is_due : Trap → Bool
is_due Off = false
is_due (Fail count) = count == 1
is_due (Arm count bytes) = count == 1

-- that call fails and changes nothing
abbrev pub fails_next : Trap → Bool
fails_next Off = false
fails_next (Fail count) = count == 1
fails_next (Arm count bytes) = false

-- how many unsynced bytes the stop is to keep, if that call is an armed stop
abbrev pub stops_next : Trap → Option ℕ
stops_next Off = None
stops_next (Fail count) = None
stops_next (Arm count bytes) = if count == 1 then Some bytes else None

-- the trap after that call
abbrev pub trap_after : Trap → Trap
trap_after Off = Off
trap_after (Fail count) = if nat_le count 1 then Off else Fail (count - 1)
trap_after (Arm count bytes) = Arm (count - 1) bytes

-- how many unsynced bytes the stop of an armed trap is to keep
abbrev pub armed_for : Trap → Option ℕ
armed_for Off = None
armed_for (Fail count) = None
armed_for (Arm count bytes) = Some bytes
