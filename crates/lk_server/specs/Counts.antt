-- When a count of datagrams is logged.
use Rattle.std.specs.Prelude.{ℕ, Bool, count_ones, ◌==◌}

-- it is a power of two: exactly one of its bits is set
abbrev pub is_power_of_two : ℕ → Bool
is_power_of_two n = count_ones n == 1
