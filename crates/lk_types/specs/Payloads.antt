-- The length of a payload, the body of a request to the machine.
use Rattle.std.specs.Prelude.{ℕ, ◌≤◌, List, length}
use Rattle.lk_types.specs.Limits.{max_payload}

-- it has 1 to 64 bytes
abbrev pub IsPayload : List ℕ → Type 0
IsPayload bytes = (1 ≤ length bytes) × (length bytes ≤ max_payload)
