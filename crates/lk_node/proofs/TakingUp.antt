-- A node that takes up an installed state goes on.
use Rattle.std.proofs.Common.{◌≡◌, ◌∙◌, ℕ, List, length, Some, slice_get, refl, sym, ap, subst, arith}
use Rattle.std.proofs.lemmas.Option.{slice_get_within, get_or_from_slice_get}
use Rattle.lk_state.specs.Meanings.{Meaning}
use Rattle.lk_state.specs.Sessions.{AreSessions, session_of}
use Rattle.lk_state.specs.declared.session.Session.{Session}
use Rattle.lk_state.proofs.Wholes.{kept_is_its_clients}
use Rattle.lk_learner.specs.Learners.{LearnerValue}
use Rattle.lk_node_interface.specs.Outboxes.{OutboxValue, nothing, with_rebase}
use Rattle.lk_node.specs.Executing.{without_term_if_outside}
use Rattle.lk_node.specs.Histories.{History}
use Rattle.lk_node.specs.Installing.{EndsFirstWaits, none_ended, one_ended, EndsWaits}
use Rattle.lk_node.specs.NodeValue.{NodeValue}
use Rattle.lk_node.specs.SafeSteps.{ActsSafely}
use Rattle.lk_node.proofs.ExecutionLaws.{settles_goes_on, named_goes_on}
use Rattle.lk_node.proofs.SafeSteps.{rests_here, then_goes_on}

-- in front of all that is sent, the store may be rebased
rebases_goes_on : (m : Meaning) (Heard : History → Type 0) (node : NodeValue)
    → ActsSafely m Heard node node nothing (with_rebase nothing)
rebases_goes_on m Heard node = record {
  binds = λ first b. record {
    header = b.header;
    written = b.written;
    unsynced = b.unsynced;
    still = λ e. b.written;
    tells = λ l c. absurd (omega (arith, c.1));
  };
  continues = λ h n loose s heard. record {
    lawful = s.lawful;
    whose = s.whose;
    holding = s.holding;
    held = s.held;
    fits = s.fits;
    rests = s.rests;
    known = s.known;
    known_unsynced = s.known_unsynced;
    may = s.may;
    noted = s.noted;
  };
}

settled_learner : (ss : List Session) (old : NodeValue) (before : OutboxValue) (k : ℕ) (new : NodeValue)
    (after : OutboxValue) → EndsFirstWaits ss old before k new after → new.learner ≡ old.learner
settled_learner ss old before k new after none_ended = refl
settled_learner ss old before k new after (one_ended {k = j} {mid = mid} {between = between} s so_far at one) =
    ap (λ (node : NodeValue). node.learner) one.becomes ∙ settled_learner ss old before j mid between so_far

-- each is its client's last
is_kept : (ss : List Session) (k : ℕ) (s : Session) → AreSessions ss → slice_get ss k ≡ Some s
    → session_of s.client ss ≡ Some s
is_kept ss k s are at = kept_is_its_clients ss s are (k, slice_get_within ss k s at, get_or_from_slice_get ss k s s at)

sessions_go_on : (m : Meaning) (Heard : History → Type 0) (ss : List Session) (old : NodeValue) (before : OutboxValue)
    (k : ℕ) (new : NodeValue) (after : OutboxValue) → AreSessions ss → old.learner.whole.sessions ≡ ss
    → EndsFirstWaits ss old before k new after → ActsSafely m Heard old new before after
sessions_go_on m Heard ss old before k new after are same none_ended = rests_here m Heard old before
sessions_go_on m Heard ss old before k new after are same
    (one_ended {k = j} {mid = mid} {between = between} s so_far at one) =
    let stays : mid.learner ≡ old.learner = settled_learner ss old before j mid between so_far in
    let here : mid.learner.whole.sessions ≡ ss = ap (λ (l : LearnerValue). l.whole.sessions) stays ∙ same in
    then_goes_on m Heard old mid new before between after
    (sessions_go_on m Heard ss old before j mid between are same so_far)
    (settles_goes_on m Heard s mid between new after
    (subst (λ (l : List Session). session_of s.client l ≡ Some s) (sym here) (is_kept ss j s are at)) one)

pub takes_up_goes_on : (m : Meaning) (Heard : History → Type 0) (old told new : NodeValue) (said after : OutboxValue)
    → AreSessions old.learner.whole.sessions
    → EndsWaits old.learner.whole.sessions old (with_rebase nothing) told said
    → ActsSafely m Heard (without_term_if_outside told) new said after → ActsSafely m Heard old new nothing after
takes_up_goes_on m Heard old told new said after are settles runs =
    let ss : List Session = old.learner.whole.sessions in
    then_goes_on m Heard old old new nothing (with_rebase nothing) after (rebases_goes_on m Heard old)
    (then_goes_on m Heard old told new (with_rebase nothing) said after
    (sessions_go_on m Heard ss old (with_rebase nothing) (length ss) told said are refl settles)
    (then_goes_on m Heard told (without_term_if_outside told) new said said after
    (named_goes_on m Heard told said) runs))
