-- The guarantee: what holds of every world of replicas of the lock table, whatever has happened.
--
-- `Plain.antt` has what a list of commands leaves and `Chosen.antt` which lists are chosen; this page has what a
-- chosen list explains, and the guarantee. What the disks keep of it is in `Disks.antt`, and what an event does is in
-- `Events.antt`.
--
-- All of that is stated here a second time, in words of its own. Of the crates below, these files import the values,
-- the order of ballots, the grammar of bytes, bodies and files, the packed text of a lock table, and what a world
-- shows (its genesis, its nodes, its datagrams, its trace). Of the definitions of lk_members, lk_agreement_laws,
-- lk_sim_nodes and lk_sim they import none but such values: so a definition that is weakened there breaks a proof of
-- this crate.
--
-- Not restated: what is named above, the contract of a replica (`ComesTo`), what a revival revives, and what a trap
-- that is set does.
use Rattle.std.specs.Prelude.{◌≡◌, ℕ, ◌+◌, ◌-◌, ◌<◌, ◌≤◌, Bool, true, false, Some, List, [], ◌∷◌, ◌++◌, length, take}
use Rattle.std.specs.Prelude.{drop, filter, set, Contains}
use Rattle.lk_types.specs.declared.answer.Answer.{Answer}
use Rattle.lk_types.specs.declared.command.Command.{Command}
use Rattle.lk_types.specs.declared.command.Command.TheVariants.{Request}
use Rattle.lk_types.specs.declared.command.Request.{Request as Asking}
use Rattle.lk_types.specs.declared.genesis.Genesis.{Genesis}
use Rattle.lk_types.specs.declared.member.Member.{Member}
use Rattle.lk_messages.specs.Grammar.{Spells}
use Rattle.lk_messages.specs.Values.{DecidedValue, PartValue, PassedValue}
use Rattle.lk_messages.specs.declared.message.Answered.{Answered}
use Rattle.lk_messages.specs.declared.message.Content.{Content}
use Rattle.lk_messages.specs.declared.message.Content.TheVariants as content
use Rattle.lk_messages.specs.declared.message.Message.{Message}
use Rattle.lk_messages.specs.declared.message.NodeMessage.TheVariants as message
use Rattle.lk_agreement_laws.specs.Datagrams.{Datagram}
use Rattle.lk_node_interface.specs.declared.note.Note.{Note}
use Rattle.lk_node_interface.specs.declared.note.Note.TheVariants as note
use Rattle.lk_replica.specs.ReplicaValue.{ReplicaValue}
use Rattle.lk_sim.specs.WorldStates.{WorldState}
use Rattle.lk_sim_nodes.specs.declared.sim_node.RunState.TheVariants.{Up}
use Rattle.lk_sim_nodes.specs.declared.sim_node.SimNode.{SimNode}
use Rattle.lk_guarantees.specs.Plain.{at, members, GivesAnswer, TakesEffectAt, Kept, IsKeptOf}
pub use Rattle.lk_guarantees.specs.Chosen.{Says, UsesBallotsOnce, IsAcceptedBy, IsChosen, IsPrefix, Agree}
pub use Rattle.lk_guarantees.specs.Disks.{members_text, session_text, kept_text, IsSnapshot, device_in, MayRemain}
pub use Rattle.lk_guarantees.specs.Disks.{MayRemainOf, Remembers, EachImage, HasSnapshot, IsNear, HaveSnapshots}
pub use Rattle.lk_guarantees.specs.Disks.{HasVote}
pub use Rattle.lk_guarantees.specs.Disks.{IsCovered, AreCovered, IsRemembered, IsKeptBy, AreKept, IsShort, AreShort}

-- ---- what one chosen list explains

-- the list reaches the part's position, and the part is a piece of the snapshot there, whose length it tells
pub record IsPart (genesis : Genesis) (L : List Command) (p : PartValue) : Type 0 where
  pub reached : p.position ≤ length L
  pub snapshot : List ℕ
  pub is_snapshot : IsSnapshot genesis (take p.position L) snapshot
  pub total : length snapshot ≡ p.total
  pub piece : p.bytes ≡ take (length p.bytes) (drop p.offset snapshot)

-- the list explains what was noted and sent
pub record Explains (genesis : Genesis) (sent : List Datagram) (trace : List Note) (L : List Command) : Type 0 where
  -- each entry is a no-op, or a request that a client asked
  pub asked : (i : ℕ) (r : Asking) → at L i ≡ Some (Request r) → Contains trace (note.Asked r)
  -- what a node executed at a position is the list's command there
  pub ran : (node i : ℕ) (v : Command) → Contains trace (note.Ran node i v) → at L i ≡ Some v
  -- whoever counted a majority at a position counted it among the members of that position, which the list names
  pub known : (node i : ℕ) (set : List Member) (v : Command) → Contains trace (note.Counted node i set v)
      → i - genesis.alpha ≤ length L
  pub among : (node i : ℕ) (set : List Member) (v : Command) → Contains trace (note.Counted node i set v)
      → set ≡ members genesis L i
  -- and for the list's command there; at each position, even beyond the list, for one command
  pub counted : (node i : ℕ) (set : List Member) (v w : Command) → Contains trace (note.Counted node i set v)
      → at L i ≡ Some w → v ≡ w
  pub counted_once : (node other i : ℕ) (set others : List Member) (v w : Command)
      → Contains trace (note.Counted node i set v) → Contains trace (note.Counted other i others w) → v ≡ w
  -- a client's answer is the answer to its request where that takes effect; and any other reply tells it a greater
  -- number of its own that takes effect
  pub answered : (node client number : ℕ) (answer : Answer) → Contains trace (note.Answered node client number answer)
      → GivesAnswer genesis L client number answer
  pub told : (node client number last : ℕ) → Contains trace (note.Told node client number last)
      → (number < last) × ((answer : Answer) × GivesAnswer genesis L client last answer)
  -- a command that was sent as decided for a position of the list is the list's command there
  pub decided : (node k : ℕ) (d : DecidedValue) (v w : Command) → Says genesis sent node (message.Decided d)
      → at d.commands (k + 1) ≡ Some v → at L (d.first + k) ≡ Some w → v ≡ w
  -- and a part of a snapshot is a piece of the snapshot of a prefix of the list
  pub parts : (node : ℕ) (p : PartValue) → Says genesis sent node (message.Part p) → IsPart genesis L p

-- each request in a chosen list was asked by a client, whatever list that is
abbrev pub AreAsked : Genesis → List Datagram → List Note → Type 0
AreAsked genesis sent trace =
    (L : List Command) → IsChosen genesis sent L → (i : ℕ) (r : Asking) → at L i ≡ Some (Request r)
    → Contains trace (note.Asked r)

-- some chosen list explains everything that was noted and sent
abbrev pub IsExplained : Genesis → List Datagram → List Note → Type 0
IsExplained genesis sent trace = (L : List Command) × IsChosen genesis sent L × Explains genesis sent trace L

-- ---- what was answered is noted, in order

-- an answer, or word of a greater number
abbrev pub is_reply : Content → Bool
is_reply (content.Request r) = false
is_reply (content.Node node (message.Answer a)) = true
is_reply (content.Node node (message.Passed p)) = true
is_reply (content.Node node _) = false

-- these notes are, in order, those of the replies among the datagrams
pub data AreReplies : List Datagram → List Note → Type 0 where
  nothing_more : AreReplies [] []
  an_answer : {datagrams : List Datagram} {notes : List Note} (d : Datagram) (cluster node : ℕ) (a : Answered)
      → Spells (record { cluster = cluster; content = content.Node node (message.Answer a) }) d.bytes
      → AreReplies datagrams notes
      → AreReplies (d ∷ datagrams) (note.Answered node a.client a.number a.answer ∷ notes)
  a_pass : {datagrams : List Datagram} {notes : List Note} (d : Datagram) (cluster node : ℕ) (p : PassedValue)
      → Spells (record { cluster = cluster; content = content.Node node (message.Passed p) }) d.bytes
      → AreReplies datagrams notes
      → AreReplies (d ∷ datagrams) (note.Told node p.client p.number p.last ∷ notes)
  no_reply : {datagrams : List Datagram} {notes : List Note} (d : Datagram) (m : Message)
      → Spells m d.bytes → is_reply m.content ≡ false → AreReplies datagrams notes
      → AreReplies (d ∷ datagrams) notes

-- the note of such a reply
abbrev pub is_told : Note → Bool
is_told (note.Asked r) = false
is_told (note.Counted node i set v) = false
is_told (note.Ran node i v) = false
is_told (note.Answered node client number answer) = true
is_told (note.Told node client number last) = true

-- the trace has all of them
abbrev pub AreTold : List Datagram → List Note → Type 0
AreTold sent trace = AreReplies sent (filter is_told trace)

-- ---- order

-- what was answered before a request was asked takes effect before it, in each chosen list: wherever the trace is
-- split, for an answer before the split and a request that was not asked before it. (The real-time order of Herlihy,
-- Wing, Linearizability, 1990)
abbrev pub IsOrdered : Genesis → List Datagram → List Note → Type 0
IsOrdered genesis sent trace =
    (front back : List Note) → trace ≡ front ++ back
    → (node client number : ℕ) (answer : Answer) → Contains front (note.Answered node client number answer)
    → (r : Asking) → (Contains front (note.Asked r) → ⊥)
    → (L : List Command) (i : ℕ) → IsChosen genesis sent L → TakesEffectAt genesis L i r
    → (j : ℕ) × (q : Asking) × (j < i) × (q.client ≡ client) × (q.number ≡ number) × TakesEffectAt genesis L j q

-- the client has asked only one operation under the number
abbrev pub StandsForOne : List Note → ℕ → ℕ → Type 0
StandsForOne trace client number =
    (q r : Asking) → Contains trace (note.Asked q) → Contains trace (note.Asked r) → q.client ≡ client
    → r.client ≡ client → q.number ≡ number → r.number ≡ number → q ≡ r

-- a greater number of which a client was told was asked before
abbrev pub AreToldInTime : List Note → Type 0
AreToldInTime trace =
    (before later : List Note) → trace ≡ before ++ later → (node client number last : ℕ)
    → Contains before (note.Told node client number last)
    → (r : Asking) × (r.client ≡ client) × (r.number ≡ last) × Contains before (note.Asked r)

-- ---- what a node that is up has executed

-- what the replica keeps of the commands that it has executed
abbrev pub kept_by_replica : ReplicaValue → Kept
kept_by_replica replica = record {
  executed = replica.node.learner.whole.roster.executed;
  incoming = replica.node.learner.whole.roster.sets;
  greatest = replica.node.learner.whole.roster.greatest;
  changed = replica.node.learner.whole.roster.changed;
  sessions = replica.node.learner.whole.sessions;
  locks = replica.node.learner.whole.text;
}

-- it has executed a chosen list, of which it keeps everything that takes effect
abbrev pub HasExecuted : Genesis → List Datagram → ReplicaValue → Type 0
HasExecuted genesis sent replica = (L : List Command) × IsChosen genesis sent L
    × IsKeptOf genesis L (kept_by_replica replica)

-- each node that is up
abbrev pub HaveExecuted : Genesis → List (SimNode ReplicaValue) → List Datagram → Type 0
HaveExecuted genesis sim_nodes sent =
    (s : SimNode ReplicaValue) → Contains sim_nodes s → (replica : ReplicaValue) → s.run_state ≡ Up replica
    → HasExecuted genesis sent replica

-- ---- the guarantee

-- what holds of every world, whatever has happened in it: the datagrams that were ever sent, the trace, and the disks
-- of its nodes
pub record MeetsGuarantee (world : WorldState ReplicaValue) : Type 0 where
  -- some chosen list of no-ops and asked requests explains everything that was noted and sent
  pub explained : IsExplained world.genesis world.sent world.trace
  -- each request in any chosen list was asked
  pub asked : AreAsked world.genesis world.sent world.trace
  -- of two chosen lists one is a prefix of the other
  pub agree : Agree world.genesis world.sent
  -- each ballot is used once
  pub ballots : UsesBallotsOnce world.genesis world.sent
  -- each node that is up has executed a chosen list
  pub executed : HaveExecuted world.genesis world.sim_nodes world.sent
  -- the trace has, in order, each answer that was sent
  pub told : AreTold world.sent world.trace
  -- what was answered before a request was asked takes effect before it
  pub order : IsOrdered world.genesis world.sent world.trace
  -- and what a client was told of instead of an answer was asked before
  pub told_in_time : AreToldInTime world.trace
  -- whatever stops may leave, a majority remembers each command of a chosen list
  pub kept : AreKept world.genesis world.sim_nodes world.sent
  -- whatever a stop may leave of a node covers everything that it has sent
  pub covered : AreCovered world.genesis world.sim_nodes world.sent
  -- whatever a stop may leave of a node has a snapshot of a chosen list, and nothing too far above it for a restart
  pub snapshots : HaveSnapshots world.genesis world.sim_nodes world.sent
  -- no file of a node is ever longer than 262,144 bytes
  pub room : AreShort world.sim_nodes
