-- The message that a view shows, and where its slices are in the datagram.
use Rattle.std.specs.Prelude.{◌≡◌, ℕ, List, drop}
use Rattle.std.specs.List.{flat_map}
use Rattle.lk_messages.specs.declared.message.NodeMessage.{NodeMessage}
use Rattle.lk_messages.specs.declared.message.NodeMessage.TheVariants as kinds
use Rattle.lk_messages.specs.declared.message.Content.{Content}
use Rattle.lk_messages.specs.declared.message.Content.TheVariants as content
use Rattle.lk_messages.specs.declared.message.Message.{Message}
use Rattle.lk_wire.specs.declared.viewing.message.NodeMessageRef.{NodeMessageRef}
use Rattle.lk_wire.specs.declared.viewing.message.NodeMessageRef.TheVariants as viewed
use Rattle.lk_wire.specs.declared.viewing.message.ContentRef.{ContentRef}
use Rattle.lk_wire.specs.declared.viewing.message.ContentRef.TheVariants as seen
use Rattle.lk_wire.specs.declared.viewing.message.MessageRef.{MessageRef}
use Rattle.lk_codec.specs.Fields.{request, command, vote}

abbrev pub shown_node : NodeMessageRef → NodeMessage
shown_node (viewed.Prepare b first) = kinds.Prepare b first
shown_node (viewed.Promise p) = kinds.Promise p
shown_node (viewed.Accept v) = kinds.Accept v
shown_node (viewed.Accepted v) = kinds.Accepted v
shown_node (viewed.Nack n) = kinds.Nack n
shown_node (viewed.Decided d) = kinds.Decided d
shown_node (viewed.Want w) = kinds.Want w
shown_node (viewed.Part p) = kinds.Part p
shown_node (viewed.Answer a) = kinds.Answer a
shown_node (viewed.Elsewhere e) = kinds.Elsewhere e
shown_node (viewed.Passed p) = kinds.Passed p
shown_node (viewed.Lead b executed) = kinds.Lead b executed

abbrev pub shown_content : ContentRef → Content
shown_content (seen.Request r) = content.Request r
shown_content (seen.Node node m) = content.Node node (shown_node m)

abbrev pub shown : MessageRef → Message
shown m = record { cluster = m.cluster; content = shown_content m.content }

-- from this offset on the datagram is exactly this slice
abbrev pub LiesAt : ℕ → List ℕ → List ℕ → Type 0
LiesAt offset slice bytes = drop offset bytes ≡ slice

abbrev pub NodeSlicesLie : NodeMessage → List ℕ → Type 0
NodeSlicesLie (kinds.Promise p) bytes = LiesAt 37 (flat_map vote p.votes) bytes
NodeSlicesLie (kinds.Accept v) bytes = LiesAt 36 (command v.command) bytes
NodeSlicesLie (kinds.Accepted v) bytes = LiesAt 36 (command v.command) bytes
NodeSlicesLie (kinds.Decided d) bytes = LiesAt 25 (flat_map command d.commands) bytes
NodeSlicesLie (kinds.Part p) bytes = LiesAt 34 p.bytes bytes
NodeSlicesLie _ bytes = Unit {0}

-- the slices that a view returns are at their offsets: votes, commands, a snapshot's bytes, a client's request
abbrev pub LieAtTheirOffsets : Content → List ℕ → Type 0
LieAtTheirOffsets (content.Request r) bytes = LiesAt 16 (request r) bytes
LieAtTheirOffsets (content.Node node m) bytes = NodeSlicesLie m bytes
