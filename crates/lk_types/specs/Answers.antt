-- The ranges of an answer's parts.
use Rattle.lk_types.specs.Ranges.{IsClient, IsCount, IsTotal, IsSharerCount}
use Rattle.lk_types.specs.declared.answer.Answer.{Answer}
use Rattle.lk_types.specs.declared.answer.Answer.TheVariants.{Granted, Busy, Released, NotHeld, Free, Held, Valid}
use Rattle.lk_types.specs.declared.answer.Answer.TheVariants.{Stale, NoRoom, Bad, Spent, Shared, HeldShared, Broken}
use Rattle.lk_types.specs.declared.answer.Answer.TheVariants.{Joined, Used, Full, Left, NotMember, Last, Raised}
use Rattle.lk_types.specs.declared.answer.Answer.TheVariants.{AlreadyRaised}

-- each number in the answer is in its range
abbrev pub IsAnswer : Answer → Type 0
IsAnswer (Granted fence) = IsCount fence
IsAnswer (Busy holder fence) = IsClient holder × IsCount fence
IsAnswer Released = Unit {0}
IsAnswer NotHeld = Unit {0}
IsAnswer (Free fence) = IsTotal fence
IsAnswer (Held holder fence) = IsClient holder × IsCount fence
IsAnswer Valid = Unit {0}
IsAnswer Stale = Unit {0}
IsAnswer NoRoom = Unit {0}
IsAnswer Bad = Unit {0}
IsAnswer Spent = Unit {0}
IsAnswer (Shared fence) = IsCount fence
IsAnswer (HeldShared count fence) = IsSharerCount count × IsCount fence
IsAnswer Broken = Unit {0}
IsAnswer Joined = Unit {0}
IsAnswer Used = Unit {0}
IsAnswer Full = Unit {0}
IsAnswer Left = Unit {0}
IsAnswer NotMember = Unit {0}
IsAnswer Last = Unit {0}
IsAnswer Raised = Unit {0}
IsAnswer AlreadyRaised = Unit {0}
