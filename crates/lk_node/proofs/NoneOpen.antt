-- A step leaves nothing open to propose: it proposes all that is, and a term that it begins has no promise yet.
use Rattle.std.proofs.Common.{◌≡◌, ℕ, Bool, true, false, inl, inr, List, [], ◌∷◌, Some, None, refl, ap}
use Rattle.std.proofs.Common.{sym, subst, ◌∙◌, arith}
use Rattle.lk_types.specs.declared.member.Member.{Member}
use Rattle.lk_types.specs.declared.vote.Vote.{Vote}
use Rattle.lk_members.specs.Majorities.{IsMajority}
use Rattle.lk_members.proofs.Memberships.{majorities_meet}
use Rattle.lk_leader.specs.Proposing.{promisers}
use Rattle.lk_leader.specs.Terms.{TermValue, begun}
use Rattle.lk_state.specs.Meanings.{Meaning}
use Rattle.lk_node_interface.specs.Outboxes.{OutboxValue, nothing}
use Rattle.lk_node_interface.specs.declared.input.Input.{Input}
use Rattle.lk_node_interface.specs.declared.input.Input.TheVariants as input
use Rattle.lk_node_interface.specs.declared.nudge_reason.NudgeReason.{NudgeReason}
use Rattle.lk_node_interface.specs.declared.nudge_reason.NudgeReason.TheVariants as reasons
use Rattle.lk_node.specs.Leading.{having_proposed, NothingToPropose, ProposesAll}
use Rattle.lk_node.specs.NodeValue.{NodeValue}
use Rattle.lk_node.specs.Nudging.{refreshed, SeeksAfresh, Nudges}
use Rattle.lk_node.specs.Reminding.{Ticks}
use Rattle.lk_node.specs.Steps.{Steps}
use Rattle.lk_node.specs.Waiting.{ticked, BeginsWhereDue}
use Rattle.lk_node.specs.Beginning.{next_ballot, beginning}

-- after the last of them nothing is
last_open : (xs : List Vote) (old new : NodeValue) (before out : OutboxValue)
    → ProposesAll xs old new before out → NothingToPropose new
last_open [] old new before out p = subst NothingToPropose (sym p.1) p.0
last_open (x ∷ xs) old new before out p = last_open xs (having_proposed old x p.0) new _ out p.1

-- without a term nothing is
idle_open : (node : NodeValue) → node.leader.term ≡ None → NothingToPropose node
idle_open node none i v p = absurd (cc (none, p.1))

-- nobody has promised, and nobody is no majority
nobody : (set : List Member) (i : ℕ) → promisers set i [] ≡ []
nobody [] i = refl
nobody (m ∷ ms) i = nobody ms i

no_majority : (set : List Member) → IsMajority [] set → ⊥
no_majority set m = let n = majorities_meet set [] [] m m in absurd (omega (arith, n.1.1))

-- so nothing is in a term that is begun
begun_open : (node : NodeValue) (t : TermValue) → node.leader.term ≡ Some t → t.received ≡ [] → NothingToPropose node
begun_open node t now none i v p =
    let same : p.0 ≡ t = cc (now, p.1) in
    let empty : promisers p.2.set i p.0.received ≡ [] = ap (λ (k : TermValue). promisers p.2.set i k.received) same
    ∙ ap (promisers p.2.set i) none ∙ nobody p.2.set i in
    no_majority p.2.set (subst (λ (ns : List ℕ). IsMajority ns p.2.set) empty p.2.promised)

due_open : (old new : NodeValue) (out : OutboxValue) → old.leader.term ≡ None
    → BeginsWhereDue old new out → NothingToPropose new
due_open old new out none (inl begins) =
    subst NothingToPropose (sym begins.1.becomes)
    (begun_open (beginning (next_ballot old) old) (begun (next_ballot old)) refl refl)
due_open old new out none (inr waits) = subst NothingToPropose (sym waits.1) (idle_open old none)

tick_open : (old new : NodeValue) (out : OutboxValue) → Ticks old new out → NothingToPropose new
tick_open old new out (inl reminds) =
    last_open reminds.2.proposes.0 old new reminds.2.offered reminds.2.proposed reminds.2.proposes.1
tick_open old new out (inr waits) = due_open (ticked old) new out waits.0 waits.1

afresh_open : (withheld : Bool) (old new : NodeValue) (out : OutboxValue) → SeeksAfresh withheld old new out
    → NothingToPropose new
afresh_open withheld old new out (inl asks) =
    last_open asks.2.proposes.0 (refreshed old) new asks.2.asked out asks.2.proposes.1
afresh_open withheld old new out (inr tells) = subst NothingToPropose (sym tells.1) (idle_open (refreshed old) tells.0)

nudge_open : (reason : NudgeReason) (old new : NodeValue) (out : OutboxValue) → Nudges reason old new out
    → NothingToPropose new
nudge_open reasons.Period old new out k = afresh_open false old new out k
nudge_open reasons.TicksWithheld old new out k = afresh_open true old new out k
nudge_open reasons.Fed old new out (inl proposes) = last_open proposes.2.0 old new nothing out proposes.2.1
nudge_open reasons.Fed old new out (inr asks) = subst NothingToPropose (sym asks.1) (idle_open old asks.0)

pub step_open : (m : Meaning) (IsText : List ℕ → Type 0) (old : NodeValue) (i : Input) (new : NodeValue)
    (out : OutboxValue) → Steps m IsText old i new out → NothingToPropose new
step_open m IsText old input.Tick new out k = tick_open old new out k
step_open m IsText old (input.Nudge reason) new out k = nudge_open reason old new out k
step_open m IsText old (input.Datagram bytes) new out k = last_open k.proposes.0 k.mid new k.first out k.proposes.1
