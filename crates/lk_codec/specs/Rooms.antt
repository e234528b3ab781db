-- The most bytes that each field takes: with so many reserved, appending it cannot run out of memory.
use Rattle.std.specs.Prelude.{ℕ, ◌+◌, ◌*◌, ◌<◌, ◌≤◌, Result, MatchResult}
use Rattle.lk_types.specs.Limits.{max_members, max_payload}

-- of the reserved bytes, counted before and after, a call uses at most this many, and fails only if there were fewer
abbrev pub UsesRoom : {T E : Type 0} → Result T E → ℕ → ℕ → ℕ → Type 0
UsesRoom result before after most = MatchResult result (λ _. before ≤ after + most) (λ _. before < most)

-- a round and a node
abbrev pub ballot_room : ℕ
ballot_room = 8 + 4

-- a node and a port
abbrev pub member_room : ℕ
member_room = 4 + 2

-- how many, and the most members
abbrev pub members_room : ℕ
members_room = 1 + member_room * max_members

-- a length and the bytes
abbrev pub payload_room : ℕ
payload_room = 1 + max_payload

-- the tag of an op, and the longest op, a payload
abbrev pub op_room : ℕ
op_room = 1 + payload_room

-- a client, a number and an op
abbrev pub request_room : ℕ
request_room = 2 + 8 + op_room

-- the tag of a command, and the request
abbrev pub command_room : ℕ
command_room = 1 + request_room

-- a position, a ballot and a command
abbrev pub vote_room : ℕ
vote_room = 8 + ballot_room + command_room

-- a holder and its fence
abbrev pub held_room : ℕ
held_room = 2 + 8

-- the tag of an answer, and the longest answer
abbrev pub answer_room : ℕ
answer_room = 1 + held_room
