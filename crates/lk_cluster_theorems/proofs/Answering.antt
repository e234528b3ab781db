-- An answer that reaches a client, and is not forged, is in the trace.
use Rattle.std.proofs.Common.{◌≡◌, ◌∙◌, ℕ, true, false, List, Contains, filter, ap, sym, subst, inl, inr, arith}
use Rattle.std.specs.declared.net.socket_addr.SocketAddr.{SocketAddr}
use Rattle.lk_types.specs.declared.answer.Answer.{Answer}
use Rattle.lk_types.specs.declared.genesis.Genesis.{Genesis}
use Rattle.lk_auth.specs.Seals.{key_list, replied}
use Rattle.lk_messages.specs.Grammar.{Spells}
use Rattle.lk_messages.specs.Values.{PassedValue}
use Rattle.lk_messages.specs.declared.message.Answered.{Answered}
use Rattle.lk_messages.specs.declared.message.Content.{Content}
use Rattle.lk_messages.specs.declared.message.Content.TheVariants as content
use Rattle.lk_messages.specs.declared.message.Message.{Message}
use Rattle.lk_messages.specs.declared.message.NodeMessage.TheVariants as message
use Rattle.lk_messages.proofs.Spellings.{one_message}
use Rattle.lk_agreement_laws.specs.Datagrams.{Datagram, HasSent}
use Rattle.lk_agreement_laws.proofs.Histories.{cons_cases, contains_more, filter_from}
use Rattle.lk_node_interface.specs.declared.note.Note.{Note}
use Rattle.lk_node_interface.specs.declared.note.Note.TheVariants as note
use Rattle.lk_client.specs.declared.question.Question.{Question}
use Rattle.lk_guarantees.specs.Guarantee.{is_reply, AreReplies, nothing_more, an_answer, a_pass, no_reply, is_told}
use Rattle.lk_guarantees.specs.Guarantee.{AreTold}
use Rattle.lk_cluster_theorems.specs.Asking.{BringsAnswer, MayReach, HasAnswer}

abbrev noted_as : ℕ → Answered → Note
noted_as node a = note.Answered node a.client a.number a.answer

abbrev answer_of : ℕ → ℕ → Answered → Message
answer_of cluster node a = record { cluster = cluster; content = content.Node node (message.Answer a) }

-- what equal datagrams say is the same
same_said : (m k : Message) (d x : Datagram) → Spells m d.bytes → Spells k x.bytes → d ≡ x → m.content ≡ k.content
same_said m k d x spelled said same =
    ap (λ (z : Message). z.content)
    (one_message m k x.bytes (subst (λ (z : Datagram). Spells m z.bytes) same spelled) said)

same_answer : (n node : ℕ) (b a : Answered) → content.Node n (message.Answer b) ≡ content.Node node (message.Answer a)
    → noted_as n b ≡ noted_as node a
same_answer n node b a e =
    let nodes : n ≡ node = cc e in
    let answers : b ≡ a = cc e in
    ap (λ (z : ℕ). noted_as z b) nodes ∙ ap (noted_as node) answers

no_pass : (n node : ℕ) (p : PassedValue) (a : Answered)
    → content.Node n (message.Passed p) ≡ content.Node node (message.Answer a) → ⊥
no_pass n node p a e = cc e

a_reply : (said : Content) (node : ℕ) (a : Answered) → said ≡ content.Node node (message.Answer a)
    → is_reply said ≡ false → ⊥
a_reply said node a is none = let bad : true ≡ false = sym (ap is_reply is) ∙ none in cc bad

-- an answer that was sent is noted
noted : (ds : List Datagram) (notes : List Note) → AreReplies ds notes → (x : Datagram) → Contains ds x
    → (cluster node : ℕ) (a : Answered) → Spells (answer_of cluster node a) x.bytes
    → Contains notes (noted_as node a)
noted all notes nothing_more x c cluster node a said = absurd (omega (arith, c.1))
noted all notes (an_answer {datagrams = ds} {notes = rest} d k n b spelled later) x c cluster node a said =
    elim (cons_cases d ds x c) [
      | inl here ↦ (
        0,
        omega arith,
        same_answer n node b a (same_said (answer_of k n b) (answer_of cluster node a) d x spelled said here),
      )
      | inr more ↦ contains_more (noted_as n b) rest (noted_as node a) (noted ds rest later x more cluster node a said)
    ]
noted all notes (a_pass {datagrams = ds} {notes = rest} d k n p spelled later) x c cluster node a said =
    elim (cons_cases d ds x c) [
      | inl here ↦ absurd (no_pass n node p a
          (same_said (record { cluster = k; content = content.Node n (message.Passed p) })
          (answer_of cluster node a) d x spelled said here))
      | inr more ↦ contains_more (note.Told n p.client p.number p.last) rest (noted_as node a)
          (noted ds rest later x more cluster node a said)
    ]
noted all notes (no_reply {datagrams = ds} {notes = rest} d m spelled none later) x c cluster node a said =
    elim (cons_cases d ds x c) [
      | inl here ↦ absurd (a_reply m.content node a (same_said m (answer_of cluster node a) d x spelled said here) none)
      | inr more ↦ noted ds rest later x more cluster node a said
    ]

pub was_given : (genesis : Genesis) (sent : List Datagram) (trace : List Note) → AreTold sent trace
    → (q : Question) (d : SocketAddr × List ℕ) (answer : Answer)
    → q.cluster ≡ genesis.cluster → BringsAnswer q d answer → MayReach genesis sent q d
    → HasAnswer trace q.request answer
was_given genesis sent trace told q d answer cluster answered may =
    let a : Answered = record { client = q.request.client; number = q.request.number; answer = answer } in
    let bytes : List ℕ = replied (key_list q.destination.seals.keys) q.destination.seals.cluster q.request.client d.1 in
    let spelled : Spells (answer_of genesis.cluster answered.0 a) bytes =
    subst (λ (k : ℕ). Spells (answer_of k answered.0 a) bytes) cluster answered.1 in
    let s : HasSent genesis sent answered.0 (message.Answer a) = may answered.0 (message.Answer a) spelled in (
      answered.0,
      filter_from is_told trace (noted_as answered.0 a)
          (noted sent (filter is_told trace) told s.datagram s.listed genesis.cluster answered.0 a s.spelled),
    )
