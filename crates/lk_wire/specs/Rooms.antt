-- The most bytes that a datagram takes.
use Rattle.std.specs.Prelude.{ℕ, ◌+◌, ◌*◌, length}
use Rattle.lk_codec.specs.Rooms.{ballot_room, request_room, command_room, vote_room}
use Rattle.lk_messages.specs.declared.message.NodeMessage.{NodeMessage}
use Rattle.lk_messages.specs.declared.message.NodeMessage.TheVariants as kinds
use Rattle.lk_messages.specs.declared.message.Content.{Content}
use Rattle.lk_messages.specs.declared.message.Content.TheVariants as content

-- two letters and the version, the kind, the cluster and the sender
abbrev pub header_room : ℕ
header_room = 3 + 1 + 8 + 4

-- the fields of a node's message: those with a list by its length, and of the others a vote's are the longest
abbrev pub node_fields_room : NodeMessage → ℕ
node_fields_room (kinds.Promise p) = ballot_room + 8 + 1 + vote_room * length p.votes
node_fields_room (kinds.Decided d) = 8 + 1 + command_room * length d.commands
node_fields_room (kinds.Part p) = 8 + 4 + 4 + 2 + length p.bytes
node_fields_room _ = vote_room

abbrev pub fields_room : Content → ℕ
fields_room (content.Request r) = request_room
fields_room (content.Node node m) = node_fields_room m
