-- What a node does at a nudge: it asks other nodes for what they know better, or tells them how far it has come. So
-- nodes that wait for each other go on, as where nobody may begin a ballot, and one that is fed asks for more.
use Rattle.std.specs.Prelude.{◌≡◌, ◌≢◌, ◌⊎◌, ◌<◌, ◌||◌, ℕ, Bool, true, false, List, Option, Some, None}
use Rattle.std.specs.Prelude.{if◌then◌else◌, nat_eq}
use Rattle.lk_types.specs.BallotValue.{BallotValue}
use Rattle.lk_types.specs.Ballots.{zero_ballot}
use Rattle.lk_types.specs.Limits.{max_count}
use Rattle.lk_messages.specs.declared.message.Nack.{Nack}
use Rattle.lk_messages.specs.declared.message.NodeMessage.TheVariants as kinds
use Rattle.lk_learner.specs.Installing.{with_gathered}
use Rattle.lk_learner.specs.Learners.{executed, gathered_bytes, wanted}
use Rattle.lk_node_interface.specs.Outboxes.{OutboxValue, nothing}
use Rattle.lk_node_interface.specs.Ticks.{is_full}
use Rattle.lk_node_interface.specs.declared.nudge_reason.NudgeReason.{NudgeReason}
use Rattle.lk_node_interface.specs.declared.nudge_reason.NudgeReason.TheVariants as reasons
use Rattle.lk_node.specs.CatchingUp.{AsksOn}
use Rattle.lk_node.specs.Leading.{ProposesOpen}
use Rattle.lk_node.specs.Learning.{with_learner}
use Rattle.lk_node.specs.NodeValue.{NodeValue}
use Rattle.lk_node.specs.Reminding.{IsTermOf, TellsThese}
use Rattle.lk_node.specs.Telling.{AreOthers}

-- ---- what is gathered

-- it remembers how many bytes of a snapshot are gathered
abbrev pub remembering : NodeValue → NodeValue
remembering node = record node { gathered_before = gathered_bytes node.learner.gathered }

-- what is gathered is thrown away
abbrev pub without_gathered : NodeValue → NodeValue
without_gathered node = with_learner node (with_gathered None node.learner)

-- what is gathered is thrown away if nothing was added to it since this was last done: whoever sent it may be gone
abbrev pub refreshed : NodeValue → NodeValue
refreshed node =
    if nat_eq (gathered_bytes node.learner.gathered) node.gathered_before then remembering (without_gathered node)
    else remembering node

-- ---- what is sent

-- the other nodes of the window are asked for what follows the executed positions, unless these are all 2^48
abbrev pub AsksOthers : NodeValue → OutboxValue → Type 0
AsksOthers node out =
    ((executed node.learner < max_count)
    × ((nodes : List ℕ) × AreOthers node nodes × TellsThese node nodes (kinds.Want (wanted node.learner)) nothing out))
    ⊎ ((executed node.learner ≡ max_count) × (out ≡ nothing))

-- no ballot of a term is below it
abbrev pub least_ballot : BallotValue
least_ballot = record { round = 1; node = 1 }

-- how many positions the node has executed, as a rejection that ends no term
abbrev pub progress : NodeValue → Nack
progress node = record { ballot = least_ballot; promised = zero_ballot; executed = executed node.learner }

-- the other nodes of the window are told that: who has executed fewer asks for the rest, and who has executed more
-- sends it
abbrev pub TellsProgress : NodeValue → OutboxValue → Type 0
TellsProgress node out =
    (nodes : List ℕ) × AreOthers node nodes × TellsThese node nodes (kinds.Nack (progress node)) nothing out

-- the known leader is asked for what follows the executed positions; nobody is if none is known, or it is the node
-- itself
abbrev pub AsksLeader : Option ℕ → NodeValue → OutboxValue → Type 0
AsksLeader None node out = out ≡ nothing
AsksLeader (Some leader) node out =
    ((leader ≢ node.header.node) × AsksOn node leader out) ⊎ ((leader ≡ node.header.node) × (out ≡ nothing))

-- ---- a nudge after a period

-- with a term the node asks the others, and proposes what it can
pub record AsksInTerm (old new : NodeValue) (out : OutboxValue) : Type 0 where
  pub asked : OutboxValue
  pub asks : AsksOthers old asked
  pub proposes : ProposesOpen old new asked out

-- without one it tells them its progress if it has heard of no leader for 28 ticks, or if ticks are withheld, which it
-- cannot count
abbrev pub TellsIfSilent : Bool → NodeValue → OutboxValue → Type 0
TellsIfSilent withheld node out =
    (((withheld || is_full node.ticks) ≡ true) × TellsProgress node out)
    ⊎ (((withheld || is_full node.ticks) ≡ false) × (out ≡ nothing))

abbrev pub Seeks : Bool → NodeValue → NodeValue → OutboxValue → Type 0
Seeks withheld old new out =
    ((b : BallotValue) × IsTermOf b old.leader × AsksInTerm old new out)
    ⊎ ((old.leader.term ≡ None) × (new ≡ old) × TellsIfSilent withheld old out)

-- what is gathered is thrown away before that, if it has not grown
abbrev pub SeeksAfresh : Bool → NodeValue → NodeValue → OutboxValue → Type 0
SeeksAfresh withheld old new out = Seeks withheld (refreshed old) new out

-- ---- a nudge of a node that was fed

-- with a term it proposes what it can; without one it asks the known leader, and keeps what it gathers
abbrev pub AsksFurther : NodeValue → NodeValue → OutboxValue → Type 0
AsksFurther old new out =
    ((b : BallotValue) × IsTermOf b old.leader × ProposesOpen old new nothing out)
    ⊎ ((old.leader.term ≡ None) × (new ≡ old) × AsksLeader old.known old out)

-- ---- any nudge

-- the result of a nudge, by its reason
abbrev pub Nudges : NudgeReason → NodeValue → NodeValue → OutboxValue → Type 0
Nudges reasons.Period old new out = SeeksAfresh false old new out
Nudges reasons.TicksWithheld old new out = SeeksAfresh true old new out
Nudges reasons.Fed old new out = AsksFurther old new out
