-- What a client is told is the list's, and what waits was asked.
use Rattle.std.proofs.Common.{◌≡◌, ℕ, ◌⊎◌, inl, inr, Bool, true, false, cond, List, [], ◌∷◌, Contains, Option}
use Rattle.std.proofs.Common.{Some, None, refl, sym, ◌∙◌, ap, subst, subst₂, arith, nat_lt, eqb}
use Rattle.lk_types.specs.declared.answer.Answer.{Answer}
use Rattle.lk_types.specs.declared.command.Request.{Request as RequestValue}
use Rattle.lk_types.specs.declared.member.Member.{Member}
use Rattle.lk_messages.specs.declared.message.NodeMessage.TheVariants as kinds
use Rattle.lk_state.specs.Meanings.{Meaning}
use Rattle.lk_state.specs.Runs.{seen_as}
use Rattle.lk_state.specs.Sessions.{session_of}
use Rattle.lk_state.specs.States.{WholeValue, SumsUp, reply}
use Rattle.lk_state.specs.declared.session.Session.{Session}
use Rattle.lk_state.specs.declared.whole.Seen.{Seen}
use Rattle.lk_state.specs.declared.whole.Seen.TheVariants as seen
use Rattle.lk_state.proofs.Wholes.{same_is, passed_is, last_is_replied, seen_last}
use Rattle.lk_leader.specs.Terms.{TermValue}
use Rattle.lk_leader.specs.Waits.{newer, asked}
use Rattle.lk_node_interface.specs.Outboxes.{OutboxValue, nothing}
use Rattle.lk_node_interface.specs.declared.to.To.TheVariants as to
use Rattle.lk_node.specs.Asking.{with_waiting, leader_in, PointsTo, QueuesOrRedirects, RepliesAs, HandlesRequest}
use Rattle.lk_node.specs.Histories.{History, Genesis, Command}
use Rattle.lk_node.specs.NodeValue.{NodeValue}
use Rattle.lk_node.specs.SafeSteps.{ActsSafely}
use Rattle.lk_node.proofs.Changing.{change_goes_on}
use Rattle.lk_node.proofs.GapLaws.{idles, alone_goes_on}
use Rattle.lk_node.proofs.Lists.{cons_cases, contains_more, only}

-- ---- what the client's last request was replied

module _ (m : Meaning) (genesis : Genesis) (done : List Command) (w : WholeValue) (client : ℕ)
    (sums : SumsUp m genesis done w) where
  last : (s : Session) → session_of client w.sessions ≡ Some s → reply m genesis done client s.number ≡ Some s.answer
  last s is = last_is_replied m genesis done client s (sym (seen_last m genesis done w client sums) ∙ is)

  kept_is_replied : (number : ℕ) (a : Answer) → seen_as (session_of client w.sessions) number ≡ seen.Same a
      → reply m genesis done client number ≡ Some a
  kept_is_replied number a e =
      let s = same_is (session_of client w.sessions) number a e in
      ap (reply m genesis done client) s.2 ∙ last s.0 s.1 ∙ ap (λ (b : Answer). Some b) s.3

  last_number_is_replied : (number greater : ℕ) → seen_as (session_of client w.sessions) number ≡ seen.Passed greater
      → (a : Answer) × (reply m genesis done client greater ≡ Some a)
  last_number_is_replied number greater e =
      let s = passed_is (session_of client w.sessions) number greater e in
      (s.0.answer, ap (reply m genesis done client) (sym s.2) ∙ last s.0 s.1)

-- ---- what waits

-- what waits is the request, or waited before
asked_only : (r : RequestValue) (qs : List RequestValue) (x : RequestValue) → Contains (asked r qs) x
    → (r ≡ x) ⊎ Contains qs x
asked_only r [] x c = inl (only r x c)
asked_only r (q ∷ qs) x c = by_client (eqb r.client q.client) (λ d. asked_only r qs x d) c
  where
    by_number : (t : Bool) → Contains (cond t r q ∷ qs) x → (r ≡ x) ⊎ Contains (q ∷ qs) x
    by_number true d = elim (cons_cases r qs x d) [ inl e ↦ inl e | inr more ↦ inr (contains_more q qs x more) ]
    by_number false d = inr d

    by_client : (t : Bool) → (Contains (asked r qs) x → (r ≡ x) ⊎ Contains qs x)
        → Contains (cond t (newer r q ∷ qs) (q ∷ asked r qs)) x → (r ≡ x) ⊎ Contains (q ∷ qs) x
    by_client true after d = by_number (nat_lt q.number r.number) d
    by_client false after d = elim (cons_cases q (asked r qs) x d) [
      | inl e ↦ inr (0, omega arith, e)
      | inr more ↦ elim (after more) [ inl e ↦ inl e | inr old ↦ inr (contains_more q qs x old) ]
    ]

waits_goes_on : (m : Meaning) (r : RequestValue) (node : NodeValue) (out : OutboxValue)
    → ActsSafely m (λ h. Contains h.asked r) node (with_waiting r node) out out
waits_goes_on m r node out =
    change_goes_on m (λ h. Contains h.asked r) node (with_waiting r node) out refl refl (λ h n loose s heard. record {
      holding = record { paxos = s.holding.paxos; waiting = asked r s.holding.waiting; gathered = s.holding.gathered };
      held = record {
        acceptor = s.held.acceptor;
        follows = s.held.follows;
        leads = s.held.leads;
        waiting = ap (asked r) s.held.waiting;
        gathered = s.held.gathered;
      };
      fits = record {
        paxos = s.fits.paxos;
        waiting = λ x c. elim (asked_only r s.holding.waiting x c)
            [ inl is ↦ subst (Contains h.asked) is heard | inr old ↦ s.fits.waiting x old ];
        proposals = s.fits.proposals;
        gathered = s.fits.gathered;
      };
      grows = record { acceptor = refl; term = λ t is. (t, is, refl, λ p c. c) };
      knows = λ e k. k;
    })

-- ---- what comes of a request

points_goes_on : (m : Meaning) (Heard : History → Type 0) (o : Option Member) (old new : NodeValue) (r : RequestValue)
    (out : OutboxValue) → PointsTo o old r new out → ActsSafely m Heard old new nothing out
points_goes_on m Heard None old new r out k =
    subst (λ (node : NodeValue). ActsSafely m Heard old node nothing out) (sym k.0) (idles m Heard old out k.1)
points_goes_on m Heard (Some member) old new r out k =
    subst (λ (node : NodeValue). ActsSafely m Heard old node nothing out) (sym k.0)
    (alone_goes_on m Heard old (to.Client r.client)
    (kinds.Elsewhere (record { client = r.client; number = r.number; member = member })) out k.1 tt
    (λ h n loose s. (tt, tt)))

new_goes_on : (m : Meaning) (o : Option TermValue) (old new : NodeValue) (r : RequestValue) (out : OutboxValue)
    → QueuesOrRedirects o old r new out → ActsSafely m (λ h. Contains h.asked r) old new nothing out
new_goes_on m None old new r out k =
    points_goes_on m (λ h. Contains h.asked r) (leader_in old.known old.learner.whole.roster.sets) old new r out k
new_goes_on m (Some t) old new r out k =
    subst₂ (λ (node : NodeValue) (o : OutboxValue). ActsSafely m (λ h. Contains h.asked r) old node nothing o) (sym k.0)
    (sym k.1) (waits_goes_on m r old nothing)

pub request_goes_on : (m : Meaning) (old new : NodeValue) (r : RequestValue) (out : OutboxValue)
    → HandlesRequest old r new out → ActsSafely m (λ h. Contains h.asked r) old new nothing out
request_goes_on m old new r out k = by_seen (seen_as (session_of r.client old.learner.whole.sessions) r.number) refl k
  where
    by_seen : (x : Seen) → seen_as (session_of r.client old.learner.whole.sessions) r.number ≡ x
        → RepliesAs x old r new out → ActsSafely m (λ h. Contains h.asked r) old new nothing out
    by_seen seen.New is d = new_goes_on m old.leader.term old new r out d
    by_seen (seen.Same a) is d =
        subst (λ (node : NodeValue). ActsSafely m (λ h. Contains h.asked r) old node nothing out) (sym d.0)
        (alone_goes_on m (λ h. Contains h.asked r) old (to.Client r.client)
        (kinds.Answer (record { client = r.client; number = r.number; answer = a })) out d.1 tt
        (λ h n loose s. (
          tt,
          kept_is_replied m h.genesis s.holding.paxos.done old.learner.whole r.client
              s.held.follows.sums r.number a is,
        )))
    by_seen (seen.Passed last) is d =
        subst (λ (node : NodeValue). ActsSafely m (λ h. Contains h.asked r) old node nothing out) (sym d.0)
        (alone_goes_on m (λ h. Contains h.asked r) old (to.Client r.client)
        (kinds.Passed (record { client = r.client; number = r.number; last = last })) out d.1 tt
        (λ h n loose s. (
          tt,
          last_number_is_replied m h.genesis s.holding.paxos.done old.learner.whole r.client
              s.held.follows.sums r.number last is,
        )))
