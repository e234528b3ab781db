-- The first fault of an invalid genesis, and the number of each fault.
use Rattle.std.specs.Prelude.{ℕ, nat_lt, ◌||◌, not, List, length, Option, Some, None, if◌then◌else◌}
use Rattle.lk_types.specs.Limits.{max_members, max_alpha, max_wide_alpha}
use Rattle.lk_types.specs.Rosters.{members_rise}
use Rattle.lk_types.specs.declared.member.Member.{Member}
use Rattle.lk_types.specs.declared.genesis.GenesisFault.{GenesisFault}
use Rattle.lk_types.specs.declared.genesis.GenesisFault.TheVariants as fault

-- the first fault, in order of precedence, of a genesis whose alpha is at most `most`
abbrev pub fault_up_to : ℕ → ℕ → List Member → Option GenesisFault
fault_up_to most alpha ms =
    if nat_lt (length ms) 1 then Some fault.NoMembers
    else if nat_lt max_members (length ms) then Some fault.TooMany
    else if not (members_rise 0 ms) then Some fault.NotRising
    else if nat_lt alpha 1 || nat_lt most alpha then Some fault.BadAlpha
    else None

-- of one that is not wide
abbrev pub genesis_fault : ℕ → List Member → Option GenesisFault
genesis_fault alpha ms = fault_up_to max_alpha alpha ms

-- of a wide one
abbrev pub wide_fault : ℕ → List Member → Option GenesisFault
wide_fault alpha ms = fault_up_to max_wide_alpha alpha ms

-- the numbers of the faults, in that order
abbrev pub fault_number : GenesisFault → ℕ
fault_number fault.NoMembers = 1
fault_number fault.TooMany = 2
fault_number fault.NotRising = 3
fault_number fault.BadAlpha = 4
