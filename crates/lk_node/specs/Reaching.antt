-- How far a restart executes, and what lies near enough above that for it to restart.
use Rattle.std.specs.Prelude.{◌≡◌, ℕ, ◌+◌, ◌*◌, ◌<◌, ◌≤◌, List, [], ◌∷◌, length, Contains}
use Rattle.lk_types.specs.declared.command.Command.{Command}
use Rattle.lk_types.specs.declared.entry.Entry.{Entry}
use Rattle.lk_types.specs.declared.entry.Entry.TheVariants.{Promise, Vote, Decided}
use Rattle.lk_types.specs.declared.vote.Vote.{Vote as VoteValue}
use Rattle.lk_store_format.specs.Standings.{with_plain, with_all}
use Rattle.lk_store_format.specs.Values.{StandingValue}
use Rattle.lk_learner.specs.Learners.{executed, alpha}
use Rattle.lk_learner.specs.Pairs.{AreKept}
use Rattle.lk_node.specs.Nearness.{AreNear}
use Rattle.lk_node.specs.NodeValue.{NodeValue}

-- some command is decided at the position
abbrev pub IsDecidedAt : ℕ → List (ℕ × Command) → Type 0
IsDecidedAt i pairs = (c : Command) × Contains pairs (i, c)

-- each position above the snapshot up to this one is decided, so that a restart executes it
abbrev pub DecidesTo : StandingValue → ℕ → Type 0
DecidesTo s e = (i : ℕ) → s.position < i → i ≤ e → IsDecidedAt i s.pairs

-- the position is at most twice alpha above what a restart executes
abbrev pub LiesNear : ℕ → StandingValue → ℕ → Type 0
LiesNear ahead s i = (e : ℕ) × DecidesTo s e × (i ≤ e + 2 * ahead)

-- no vote and no pair of the standing lies farther
pub record AllLieNear (ahead : ℕ) (s : StandingValue) : Type 0 where
  pub votes : (v : VoteValue) → Contains s.votes v → LiesNear ahead s v.position
  pub pairs : (p : ℕ × Command) → Contains s.pairs p → LiesNear ahead s p.0

-- nor does what one more entry tells
abbrev pub EntryLiesNear : ℕ → StandingValue → Entry → Type 0
EntryLiesNear ahead s (Promise b) = Unit {0}
EntryLiesNear ahead s (Vote v) = LiesNear ahead s v.position
EntryLiesNear ahead s (Decided i c) = LiesNear ahead s i

-- each of these entries lies near after those before it
abbrev pub EntriesLieNear : ℕ → StandingValue → List Entry → Type 0
EntriesLieNear ahead s [] = Unit {0}
EntriesLieNear ahead s (e ∷ es) = EntryLiesNear ahead s e × EntriesLieNear ahead (with_plain e s) es

-- a restart from the standing executes what the node has executed, and has a command for each of its pairs
pub record RestoresNode (ahead : ℕ) (s : StandingValue) (node : NodeValue) : Type 0 where
  pub some : 1 ≤ ahead
  pub votes_ahead : node.acceptor.alpha ≡ ahead
  pub window : length node.learner.whole.roster.sets ≡ ahead
  pub above : s.position ≤ executed node.learner
  pub reached : DecidesTo s (executed node.learner)
  pub kept : (p : ℕ × Command) → Contains node.learner.pairs p → IsDecidedAt p.0 s.pairs

-- The unsynced entries lie near, each after those before it, and the standing with all of them restores the node.
pub record IsRestorable (ahead : ℕ) (s : StandingValue) (loose : List Entry) (node : NodeValue) : Type 0 where
  pub near : EntriesLieNear ahead s loose
  pub tells : RestoresNode ahead (with_all loose s) node

-- whatever the standing is: if it restored the old node, the entries lie near, and with them it restores the new one
abbrev pub StillRestoresNode : NodeValue → NodeValue → List Entry → Type 0
StillRestoresNode old new es = (ahead : ℕ) (s : StandingValue) → RestoresNode ahead s old
    → EntriesLieNear ahead s es × RestoresNode ahead (with_all es s) new

-- everything that a node holds above what it has executed lies near
abbrev pub HoldsNear : NodeValue → Type 0
HoldsNear node =
    AreNear node.acceptor node.learner × AreKept (executed node.learner) (alpha node.learner) node.learner.pairs
