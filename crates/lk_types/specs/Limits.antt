-- The limits that all crates share. `src/limits.rt` has them for the code, under the same names and with their reasons.
use Rattle.std.specs.Prelude.{ℕ, ◌*◌, ◌^◌, nat_le, if◌then◌else◌}

-- rounds, positions, fences, request numbers and generations
abbrev pub max_count : ℕ
max_count = 2 ^ 48

-- numbers of nodes
abbrev pub max_node : ℕ
max_node = 2 ^ 31

-- clients, and so sessions
abbrev pub max_client : ℕ
max_client = 256

-- ports
abbrev pub max_port : ℕ
max_port = 65535

-- how many positions ahead the members are known, unless the genesis is wide
abbrev pub max_alpha : ℕ
max_alpha = 16

-- and if it is
abbrev pub max_wide_alpha : ℕ
max_wide_alpha = 64

-- positions whose members are known
abbrev pub max_window : ℕ
max_window = max_wide_alpha

-- members of a position
abbrev pub max_members : ℕ
max_members = 7

-- bytes of a payload
abbrev pub max_payload : ℕ
max_payload = 64

-- names in a table
abbrev pub max_names : ℕ
max_names = 512

-- clients that share a name
abbrev pub max_sharers : ℕ
max_sharers = 8

-- bytes of a name
abbrev pub max_name : ℕ
max_name = 32

-- votes, or decided commands, above a snapshot
abbrev pub max_votes : ℕ
max_votes = 2 * max_window

-- commands of one Decided
abbrev pub max_commands : ℕ
max_commands = 16

-- bytes of a snapshot in one Part
abbrev pub max_part : ℕ
max_part = 1024

-- bytes of a datagram
abbrev pub max_datagram : ℕ
max_datagram = 16 * 1024

-- bytes of a packed machine
abbrev pub max_machine : ℕ
max_machine = 30631

-- bytes of a Base including its length field, and so of the snapshot in it
abbrev pub max_base : ℕ
max_base = 64 * 1024

-- bytes of a Base of a node that knows the members so many positions ahead
unfoldable pub max_base_of : ℕ → ℕ
max_base_of alpha = if nat_le alpha 32 then 48 * 1024 else max_base

-- the greatest length that an incomplete entry may state
abbrev pub max_torn : ℕ
max_torn = 64 * 1024
