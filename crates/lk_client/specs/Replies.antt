-- A node's reply to a client's request.
use Rattle.lk_messages.specs.declared.message.NodeMessage.{NodeMessage}
use Rattle.lk_messages.specs.declared.message.NodeMessage.TheVariants as node
use Rattle.lk_messages.specs.declared.message.Content.TheVariants as content
use Rattle.lk_messages.specs.declared.message.Message.{Message}
use Rattle.lk_client.specs.declared.reply.Reply.{Reply}
use Rattle.lk_client.specs.declared.reply.Reply.TheVariants.{Answer, Passed, Elsewhere}
use Rattle.std.specs.Prelude.{ℕ}

-- the reply of a node to the client's request of that number
abbrev pub reply_message : ℕ → ℕ → Reply → NodeMessage
reply_message client number (Answer a) = node.Answer (record { client = client; number = number; answer = a })
reply_message client number (Passed last) = node.Passed (record { client = client; number = number; last = last })
reply_message client number (Elsewhere m) = node.Elsewhere (record { client = client; number = number; member = m })

-- the same as a message of a node of the cluster
abbrev pub reply_of : ℕ → ℕ → ℕ → ℕ → Reply → Message
reply_of cluster n client number reply =
    record { cluster = cluster; content = content.Node n (reply_message client number reply) }
