-- What one list explains of a world.
use Rattle.std.specs.Prelude.{◌≡◌, ℕ, ◌+◌, ◌≤◌, ◌<◌, List, length, slice_get, Some, Contains}
use Rattle.lk_types.specs.declared.answer.Answer.{Answer}
use Rattle.lk_types.specs.declared.member.Member.{Member}
use Rattle.lk_messages.specs.Values.{DecidedValue, PartValue, PassedValue}
use Rattle.lk_messages.specs.declared.message.Answered.{Answered}
use Rattle.lk_messages.specs.declared.message.NodeMessage.TheVariants as kinds
use Rattle.lk_members.specs.Rosters.{members}
use Rattle.lk_state.specs.Meanings.{Meaning}
use Rattle.lk_state.specs.States.{reply}
use Rattle.lk_agreement_laws.specs.Datagrams.{HasSent}
use Rattle.lk_agreement_laws.specs.Chosen.{command_at}
use Rattle.lk_node_interface.specs.declared.note.Note.{Note}
use Rattle.lk_node_interface.specs.declared.note.Note.TheVariants as note
use Rattle.lk_node.specs.Histories.{Genesis, Datagram, Command, Request, RequestValue}
use Rattle.lk_node.specs.BorneOut.{BearsOutPart}

pub record Explains (m : Meaning) (genesis : Genesis) (sent : List Datagram) (trace : List Note)
    (L : List Command) : Type 0 where
  -- each entry is a no-op, or a request that was asked
  pub asked : (r : RequestValue) → Contains L (Request r) → Contains trace (note.Asked r)
  -- what a node executed at a position is the list's command there
  pub ran : (n i : ℕ) (v : Command) → Contains trace (note.Ran n i v) → command_at L i ≡ Some v
  -- a quorum was counted at most alpha positions beyond the list, among the members that the list names
  pub among : (n i : ℕ) (set : List Member) (v : Command) → Contains trace (note.Counted n i set v)
      → (i ≤ length L + genesis.alpha) × (set ≡ members genesis L i)
  -- for the command of the list; and for one command a position, even beyond the list
  pub counted : (n i : ℕ) (set : List Member) (v w : Command) → Contains trace (note.Counted n i set v)
      → command_at L i ≡ Some w → v ≡ w
  pub counted_twice : (n k i : ℕ) (set other : List Member) (v w : Command) → Contains trace (note.Counted n i set v)
      → Contains trace (note.Counted k i other w) → v ≡ w
  -- what a client was answered is the reply to its request, which takes effect
  pub answered : (n client number : ℕ) (a : Answer) → Contains trace (note.Answered n client number a)
      → reply m genesis L client number ≡ Some a
  -- what a client was told is a greater number of its own, which takes effect
  pub told : (n client number last : ℕ) → Contains trace (note.Told n client number last)
      → (number < last) × ((a : Answer) × (reply m genesis L client last ≡ Some a))
  -- the same of each datagram that says so
  pub answers : (n : ℕ) (a : Answered) → HasSent genesis sent n (kinds.Answer a)
      → reply m genesis L a.client a.number ≡ Some a.answer
  pub passes : (n : ℕ) (p : PassedValue) → HasSent genesis sent n (kinds.Passed p)
      → (a : Answer) × (reply m genesis L p.client p.last ≡ Some a)
  -- what was served: each command that was sent as decided is the list's at its position, and each part of a snapshot
  -- is a slice of the packed text of a prefix of the list
  pub decided : (n j : ℕ) (d : DecidedValue) (v w : Command) → HasSent genesis sent n (kinds.Decided d)
      → slice_get d.commands j ≡ Some v → command_at L (d.first + j) ≡ Some w → v ≡ w
  pub parts : (n : ℕ) (p : PartValue) → HasSent genesis sent n (kinds.Part p) → BearsOutPart m genesis L p
