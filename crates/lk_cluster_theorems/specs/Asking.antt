-- A client that asks one request after another, each by a run of a program that sends that request alone.
use Rattle.std.specs.Prelude.{◌≡◌, ◌⊎◌, ◌<◌, ℕ, List, [], ◌∷◌, ◌++◌, Some, Contains}
use Rattle.std.specs.declared.net.socket_addr.SocketAddr.{SocketAddr}
use Rattle.lk_types.specs.declared.answer.Answer.{Answer}
use Rattle.lk_types.specs.declared.command.Request.{Request}
use Rattle.lk_types.specs.declared.genesis.Genesis.{Genesis}
use Rattle.lk_auth.specs.Seals.{key_list, replied}
use Rattle.lk_agreement_laws.specs.Datagrams.{Datagram}
use Rattle.lk_node_interface.specs.declared.note.Note.{Note}
use Rattle.lk_node_interface.specs.declared.note.Note.TheVariants as note
use Rattle.lk_sim.specs.Networks.{MayCome}
use Rattle.lk_client.specs.Questions.{IsAsked, IsReply}
use Rattle.lk_client.specs.Rules.{SendsOnly}
use Rattle.lk_client.specs.declared.question.Question.{Question}
use Rattle.lk_client.specs.declared.reply.Reply.TheVariants as reply
use Rattle.lk_guarantees.specs.ExactlyOnce.{IsAskedBy, WasAnswered}

-- ---- what a run sends

-- the datagram is that request of the client, in its frame if there is a key
abbrev pub Carries : Question → SocketAddr × List ℕ → Request → Type 0
Carries q d r = IsAsked (record { cluster = q.cluster; port = q.port; request = r; destination = q.destination }) d.1

-- the request may be asked after these notes: its client has asked no other one, or each other one has a smaller number
-- and was answered
abbrev pub MayAsk : List Note → Request → Type 0
MayAsk before r =
    (x : Request) → IsAskedBy before r.client x → (x ≡ r) ⊎ ((x.number < r.number)
    × WasAnswered before r.client x.number)

-- nobody else asks on behalf of the client: each of its requests in the later notes is in the earlier ones, or in one
-- of these datagrams
abbrev pub OnlyRunAsks : Question → List Note → List Note → List (SocketAddr × List ℕ) → Type 0
OnlyRunAsks q before later datagrams =
    (x : Request) → IsAskedBy later q.request.client x
    → IsAskedBy before q.request.client x ⊎ ((d : SocketAddr × List ℕ) × Contains datagrams d × Carries q d x)

-- a run: its question, what its socket had sent before it and after it, and what is noted until the next run begins
pub record Run : Type 0 where
  pub question : Question
  pub old : List (SocketAddr × List ℕ)
  pub new : List (SocketAddr × List ℕ)
  pub sends : SendsOnly question old new
  pub later : List Note

-- after these notes the client asks by these runs alone, one after another, and each of them may ask when it begins
abbrev pub AreRuns : ℕ → List Note → List Run → Type 0
AreRuns client before [] = Unit {0}
AreRuns client before (run ∷ runs) =
    (run.question.request.client ≡ client) × MayAsk before run.question.request
    × OnlyRunAsks run.question before run.later run.sends.more
    × AreRuns client (before ++ run.later) runs

-- these notes, and those of the runs
abbrev pub notes_of : List Note → List Run → List Note
notes_of before [] = before
notes_of before (run ∷ runs) = notes_of (before ++ run.later) runs

-- ---- what it receives

-- the datagram tells the client this answer to its request
abbrev pub BringsAnswer : Question → SocketAddr × List ℕ → Answer → Type 0
BringsAnswer q d answer = IsReply q d.1 (reply.Answer answer)

-- the datagram is not forged: what it says on behalf of a node, out of its frame if there is a key, that node has said
abbrev pub MayReach : Genesis → List Datagram → Question → SocketAddr × List ℕ → Type 0
MayReach genesis sent q d =
    MayCome genesis sent (Some
    (replied (key_list q.destination.seals.keys) q.destination.seals.cluster q.request.client d.1))

-- a node has given this answer to the request
abbrev pub HasAnswer : List Note → Request → Answer → Type 0
HasAnswer trace r answer = (node : ℕ) × Contains trace (note.Answered node r.client r.number answer)
