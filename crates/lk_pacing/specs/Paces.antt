-- When a server gives a tick to its replica.
use Rattle.std.specs.Prelude.{◌≡◌, ◌⊎◌, ◌==◌, ◌%◌, ℕ, Bool, true, false, List, [], ◌∷◌, Option, None}
use Rattle.lk_pacing.specs.declared.pace.Pace.{Pace}
use Rattle.lk_pacing.specs.declared.pace.Pace.TheVariants.{Datagrams, Clock}

-- the clock alone triggers the ticks
abbrev pub is_clock : Pace → Bool
is_clock Datagrams = false
is_clock Clock = true

-- whether a tick follows the datagram of that number at once: by datagrams every 64th, by the clock none
abbrev pub ticks_after : Pace → ℕ → Bool
ticks_after Datagrams number = number % 64 == 0
ticks_after Clock number = false

-- which ticks may follow all datagrams of a turn: by datagrams none, by the clock one or none
abbrev pub MayFollow : Pace → List (Option (List ℕ)) → Type 0
MayFollow Datagrams ticks = ticks ≡ []
MayFollow Clock ticks = (ticks ≡ []) ⊎ (ticks ≡ None ∷ [])
