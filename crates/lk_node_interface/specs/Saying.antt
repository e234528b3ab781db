-- A node's message, with its cluster and its sender.
use Rattle.lk_messages.specs.declared.message.Content.TheVariants as content
use Rattle.lk_messages.specs.declared.message.Message.{Message}
use Rattle.lk_messages.specs.declared.message.NodeMessage.{NodeMessage}
use Rattle.lk_store_format.specs.Values.{HeaderValue}

-- a node of this header sends this
abbrev pub saying : HeaderValue → NodeMessage → Message
saying whose m = record { cluster = whose.cluster; content = content.Node whose.node m }
