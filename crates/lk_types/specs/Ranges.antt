-- The ranges of numbers: of nodes, clients, ports, positions, fences and alpha.
use Rattle.std.specs.Prelude.{ℕ, ◌≤◌}
use Rattle.lk_types.specs.Limits.{max_count, max_node, max_client, max_port, max_wide_alpha}
use Rattle.lk_types.specs.Limits.{max_sharers}

-- a node's number: 1 to 2^31
abbrev pub IsNode : ℕ → Type 0
IsNode n = (1 ≤ n) × (n ≤ max_node)

-- a client's number: 1 to 256
abbrev pub IsClient : ℕ → Type 0
IsClient n = (1 ≤ n) × (n ≤ max_client)

-- a port: 1 to 65,535
abbrev pub IsPort : ℕ → Type 0
IsPort n = (1 ≤ n) × (n ≤ max_port)

-- a position, a round, a fence or a request's number: 1 to 2^48
abbrev pub IsCount : ℕ → Type 0
IsCount n = (1 ≤ n) × (n ≤ max_count)

-- a count of positions, or a position or fence with 0 for none: 0 to 2^48
abbrev pub IsTotal : ℕ → Type 0
IsTotal n = n ≤ max_count

-- how many clients share a name: 1 to 8
abbrev pub IsSharerCount : ℕ → Type 0
IsSharerCount n = (1 ≤ n) × (n ≤ max_sharers)

-- how many positions ahead the members are known: 1 to 64
abbrev pub IsAlpha : ℕ → Type 0
IsAlpha n = (1 ≤ n) × (n ≤ max_wide_alpha)
