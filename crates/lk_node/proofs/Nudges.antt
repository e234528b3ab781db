-- What a node forgets and says at a nudge it may.
use Rattle.std.proofs.Common.{inl, inr, Bool, true, false, cond, eqb, refl, sym, subst}
use Rattle.lk_messages.specs.declared.message.NodeMessage.TheVariants as kinds
use Rattle.lk_state.specs.Meanings.{Meaning}
use Rattle.lk_learner.specs.Learners.{gathered_bytes, wanted}
use Rattle.lk_node_interface.specs.Outboxes.{OutboxValue, nothing}
use Rattle.lk_node.specs.Histories.{History}
use Rattle.lk_node.specs.NodeValue.{NodeValue}
use Rattle.lk_node.specs.Nudging.{remembering, without_gathered, refreshed, progress, AsksOthers, TellsProgress}
use Rattle.lk_node.specs.SafeSteps.{ActsSafely}
use Rattle.lk_node.proofs.Changing.{alike_goes_on}
use Rattle.lk_node.proofs.GapLaws.{idles}
use Rattle.lk_node.proofs.InstallLaws.{throws_goes_on}
use Rattle.lk_node.proofs.ManyEnvelopes.{says_all}
use Rattle.lk_node.proofs.SafeSteps.{then_goes_on}

-- ---- what is forgotten

remembers_goes_on : (m : Meaning) (Heard : History → Type 0) (node : NodeValue) (out : OutboxValue)
    → ActsSafely m Heard node (remembering node) out out
remembers_goes_on m Heard node out =
    alike_goes_on m Heard node (remembering node) out (record { header = refl; acceptor = refl; learner = refl }) refl

refresh_goes_on : (m : Meaning) (Heard : History → Type 0) (node : NodeValue) (out : OutboxValue)
    → ActsSafely m Heard node (refreshed node) out out
refresh_goes_on m Heard node out = by_test (eqb (gathered_bytes node.learner.gathered) node.gathered_before)
  where
    by_test : (t : Bool)
        → ActsSafely m Heard node (cond t (remembering (without_gathered node)) (remembering node)) out out
    by_test true = then_goes_on m Heard node (without_gathered node) (remembering (without_gathered node)) out out out
        (throws_goes_on m Heard node out) (remembers_goes_on m Heard (without_gathered node) out)
    by_test false = remembers_goes_on m Heard node out

-- what goes on once the node has refreshed what it gathers goes on with that
pub refreshed_goes_on : (m : Meaning) (Heard : History → Type 0) (old new : NodeValue) (out : OutboxValue)
    → ActsSafely m Heard (refreshed old) new nothing out → ActsSafely m Heard old new nothing out
refreshed_goes_on m Heard old new out f =
    then_goes_on m Heard old (refreshed old) new nothing nothing out (refresh_goes_on m Heard old nothing) f

-- ---- what is said

pub asks_others_goes_on : (m : Meaning) (Heard : History → Type 0) (node : NodeValue) (out : OutboxValue)
    → AsksOthers node out → ActsSafely m Heard node node nothing out
asks_others_goes_on m Heard node out (inl asks) =
    subst (ActsSafely m Heard node node nothing) (sym asks.1.2.1)
    (says_all m Heard node nothing asks.1.0 (kinds.Want (wanted node.learner)) asks.1.2.0 tt (λ e. tt)
    (λ o h n loose s heard. (
      tt,
      record { under = s.holding.paxos.done; chosen = s.fits.paxos.stems.done; bears = tt },
    )))
asks_others_goes_on m Heard node out (inr last) = idles m Heard node out last.1

pub tells_goes_on : (m : Meaning) (Heard : History → Type 0) (node : NodeValue) (out : OutboxValue)
    → TellsProgress node out → ActsSafely m Heard node node nothing out
tells_goes_on m Heard node out tells =
    subst (ActsSafely m Heard node node nothing) (sym tells.2.1)
    (says_all m Heard node nothing tells.0 (kinds.Nack (progress node)) tells.2.0 tt (λ e. tt)
    (λ o h n loose s heard. (
      tt,
      record { under = s.holding.paxos.done; chosen = s.fits.paxos.stems.done; bears = tt },
    )))
