-- What a node executes goes on: what it runs is chosen, and its list bears out what it notes and answers.
use Rattle.std.proofs.Common.{◌≡◌, ℕ, zero, suc, ◌+◌, ◌-◌, ◌<◌, ◌≤◌, ◌⊎◌, inl, inr, Bool, true, false, cond, eqb}
use Rattle.std.proofs.Common.{nat_lt, nat_le, List, [], ◌∷◌, ◌++◌, length, Option, Some, None, Contains, refl, sym, ◌∙◌}
use Rattle.std.proofs.Common.{ap, subst, subst₂, arith, eqb-true}
use Rattle.std.specs.Prelude.{slice_get}
use Rattle.std.proofs.lemmas.Bool.{cases_Bool, ltb-false, leb-true, eqb-false, eq-eqb, ne_eqb}
use Rattle.lk_types.specs.declared.entry.Entry.{Entry}
use Rattle.lk_types.specs.declared.entry.Entry.TheVariants as entry
use Rattle.lk_messages.specs.Grammar.{spelling, IsMessage}
use Rattle.lk_messages.specs.declared.message.NodeMessage.{NodeMessage}
use Rattle.lk_messages.specs.declared.message.NodeMessage.TheVariants as kinds
use Rattle.lk_members.specs.Effects.{RequestValue, Noop, Request}
use Rattle.lk_agreement_laws.specs.Changes.{with_done}
use Rattle.lk_agreement_laws.specs.Chosen.{Command, command_at}
use Rattle.lk_agreement_laws.specs.Datagrams.{Genesis, Datagram}
use Rattle.lk_agreement_laws.specs.Nodes.{Pair, PaxosState, Stems}
use Rattle.lk_agreement_laws.specs.Soundness.{Sound}
use Rattle.lk_agreement_laws.proofs.Histories.{change_fits, cons_cases, contains_more, one_chosen}
use Rattle.lk_state.specs.Meanings.{Meaning}
use Rattle.lk_state.specs.Runs.{ran, run_answer, session_for}
use Rattle.lk_state.specs.Sessions.{session_of, is_new, with_session}
use Rattle.lk_state.specs.declared.session.Session.{Session}
use Rattle.lk_state.specs.declared.whole.Ran.{Ran}
use Rattle.lk_state.specs.States.{WholeValue, reply}
use Rattle.lk_state.proofs.Wholes.{last_is_replied, seen_last}
use Rattle.lk_leader.specs.LedTerms.{AgreesWithTerm}
use Rattle.lk_leader.specs.Waits.{left_by, number_up_to, waiting_of}
use Rattle.lk_leader.proofs.Leaderships.{later_leads}
use Rattle.lk_learner.specs.Following.{AgreesWithList}
use Rattle.lk_learner.specs.Learners.{LearnerValue, IsLearner, executed, IsNext, advanced, IsRetained}
use Rattle.lk_learner.specs.Pairs.{without}
use Rattle.lk_learner.proofs.Learnerships.{ran_moves, advanced_follows, next_stands, running_changes, served_stands}
use Rattle.lk_node_interface.specs.KeptReplies.{session_reply, session_by}
use Rattle.lk_node_interface.specs.Outboxes.{OutboxValue, with_note, with_envelope}
use Rattle.lk_node_interface.specs.Saying.{saying}
use Rattle.lk_node_interface.specs.declared.note.Note.TheVariants as note
use Rattle.lk_node_interface.specs.declared.to.To.TheVariants as to
use Rattle.lk_node.specs.Executing.{waiting_number, with_session_reply, no_longer_waiting, EndsWait}
use Rattle.lk_node.specs.Executing.{EndsWaitIfAny, RunsNext, is_outside}
use Rattle.lk_node.specs.Executing.{without_term_if_outside, Executes, ExecutesOne, Runs, goes_on, RunsAll}
use Rattle.lk_node.specs.Histories.{History}
use Rattle.lk_node.specs.Keeping.{IsKnown}
use Rattle.lk_node.specs.Learning.{with_learner}
use Rattle.lk_node.specs.NodeValue.{NodeValue}
use Rattle.lk_node.specs.SafeSteps.{ActsSafely}
use Rattle.lk_node.specs.Yielding.{without_term}
use Rattle.lk_node.proofs.Changing.{change_goes_on, leaves_goes_on}
use Rattle.lk_node.proofs.SafeSteps.{rests_here, then_goes_on, says, notes}

-- ---- pairs

pub next_or_none : (i : ℕ) (ps : List Pair)
    → ((v : Command) × Contains ps (i, v)) ⊎ ((v : Command) → Contains ps (i, v) → ⊥)
next_or_none i [] = inr (λ v c. omega (arith, c.1))
next_or_none i (p ∷ ps) =
    elim (cases_Bool (eqb p.0 i)) [
      | inl same ↦ inl (p.1, subst (λ (j : ℕ). Contains (p ∷ ps) (j, p.1)) (eqb-true p.0 i same) (0, omega arith, refl))
      | inr other ↦ elim (next_or_none i ps) [
        | inl later ↦ inl (later.0, contains_more p ps (i, later.0) later.1)
        | inr none ↦ inr (λ v c. elim (cons_cases p ps (i, v) c) [
          | inl is ↦ eqb-false p.0 i other (ap (λ (q : Pair). q.0) is)
          | inr later ↦ none v later
        ])
      ]
    ]

others_left : (i : ℕ) (ps : List Pair) (p : Pair) → (p.0 ≡ i → ⊥) → Contains ps p → Contains (without i ps) p
others_left i [] p ne c = absurd (omega (arith, c.1))
others_left i (q ∷ qs) p ne c =
    elim (cases_Bool (eqb q.0 i)) [
      | inl same ↦ elim (cons_cases q qs p c) [
        | inl is ↦ absurd (ne (ap (λ (x : Pair). x.0) (sym is) ∙ eqb-true q.0 i same))
        | inr later ↦ rw same (others_left i qs p ne later)
      ]
      | inr other ↦ rw other (elim (cons_cases q qs p c) [
        | inl is ↦ (0, omega arith, is)
        | inr later ↦ contains_more q (without i qs) p (others_left i qs p ne later)
      ])
    ]

not_longer : (i : ℕ) (ps : List Pair) → length (without i ps) ≤ length ps
not_longer i [] = omega arith
not_longer i (p ∷ ps) =
    let rest = not_longer i ps in
    elim (cases_Bool (eqb p.0 i))
    [ inl same ↦ rw same (omega (arith, rest)) | inr other ↦ rw other (omega (arith, rest)) ]

-- without one of them there are fewer
pub fewer : (i : ℕ) (v : Command) (ps : List Pair) → Contains ps (i, v) → length (without i ps) < length ps
fewer i v [] c = absurd (omega (arith, c.1))
fewer i v (p ∷ ps) c =
    let rest = not_longer i ps in
    elim (cases_Bool (eqb p.0 i)) [
      | inl same ↦ rw same (omega (arith, rest))
      | inr other ↦ elim (cons_cases p ps (i, v) c) [
        | inl is ↦ absurd (eqb-false p.0 i other (ap (λ (x : Pair). x.0) is))
        | inr later ↦ (let shorter = fewer i v ps later in rw other (omega (arith, shorter)))
      ]
    ]

-- ---- a command is run

got_before : (xs ys : List Command) (k : ℕ) (v : Command) → slice_get xs k ≡ Some v → slice_get (xs ++ ys) k ≡ Some v
got_before [] ys k v e = absurd (nothing k e)
  where
    nothing : (j : ℕ) → slice_get [] j ≡ Some v → ⊥
    nothing zero e = cc e
    nothing (suc j) e = cc e
got_before (x ∷ xs) ys zero v e = e
got_before (x ∷ xs) ys (suc k) v e = got_before xs ys k v e

at_before : (done : List Command) (w : Command) (i : ℕ) (v : Command) → command_at done i ≡ Some v
    → command_at (done ++ w ∷ []) i ≡ Some v
at_before done w zero v e = absurd (cc e)
at_before done w (suc k) v e = got_before done (w ∷ []) k v e

module _ (m : Meaning) (genesis : Genesis) (sent : List Datagram) (w : PaxosState) (l : LearnerValue)
    (v : Command) where
  -- the state once it has run what the learner runs next
  abbrev ran_state : PaxosState
  ran_state = with_done w (w.done ++ v ∷ []) (advanced m v l).pairs

  knows_still : Sound genesis sent → Stems genesis sent w → AgreesWithList m genesis w.done w.pairs l → IsNext l v
      → (e : Entry) → IsKnown w e → IsKnown ran_state e
  knows_still sound stems f next (entry.Promise b) k = k
  knows_still sound stems f next (entry.Vote x) k = k
  knows_still sound stems f next (entry.Decided i c) (inr done) = inr (at_before w.done v i c done)
  knows_still sound stems f next (entry.Decided i c) (inl pair) =
      let n : ℕ = executed l + 1 in
      elim (cases_Bool (eqb i n)) [
        | inl same ↦
            (let is : i ≡ n = eqb-true i n same in
            let here : Contains w.pairs (n, c) = subst (λ (j : ℕ). Contains w.pairs (j, c)) is pair in
            let one : v ≡ c = one_chosen genesis sent sound n v c (stems.pairs n v (f.known (n, v) next))
            (stems.pairs n c here) in
            inr (ap (command_at (w.done ++ v ∷ [])) is ∙ next_stands m genesis w.done w.pairs l v f ∙ ap Some one))
        | inr other ↦ inl (others_left n l.pairs (i, c) (eqb-false i n other) (f.kept (i, c) pair))
      ]

advances_goes_on : (m : Meaning) (Heard : History → Type 0) (node : NodeValue) (out : OutboxValue) (v : Command)
    → IsLearner node.learner → IsNext node.learner v
    → ActsSafely m Heard node (with_learner node (advanced m v node.learner)) out out
advances_goes_on m Heard node out v is next =
    let l : LearnerValue = node.learner in
    let moves = ran_moves m v l.whole is.window.0 in
    change_goes_on m Heard node (with_learner node (advanced m v l)) out refl refl (λ h n loose s heard.
    let w : PaxosState = s.holding.paxos in
    record {
      holding = record {
        paxos = ran_state m h.genesis h.sent w l v;
        waiting = s.holding.waiting;
        gathered = s.holding.gathered;
      };
      held = record {
        acceptor = s.held.acceptor;
        follows = advanced_follows m h.genesis w.done w.pairs l v s.held.follows;
        leads = λ k at.
            let u = s.held.leads k at in (
              u.0,
              u.1,
              subst₂ (λ (e a : ℕ). AgreesWithTerm e a u.0 k) (sym moves.0) (sym moves.1)
                  (later_leads l.whole.roster.executed (l.whole.roster.executed + 1)
                  (length l.whole.roster.sets) u.0 k (omega arith) u.2),
            );
        waiting = s.held.waiting;
        gathered = s.held.gathered;
      };
      fits = record {
        paxos = change_fits h.genesis h.sent s.lawful.sound n w (ran_state m h.genesis h.sent w l v) s.fits.paxos
            (running_changes m h.genesis h.sent n w l v s.held.follows next);
        waiting = s.fits.waiting;
        proposals = s.fits.proposals;
        gathered = s.fits.gathered;
      };
      grows = record { acceptor = refl; term = λ t at. (t, at, refl, λ p c. c) };
      knows = knows_still m h.genesis h.sent w l v s.lawful.sound s.fits.paxos.stems s.held.follows next;
    })

-- ---- and noted

got_last : (xs : List Command) (v : Command) → slice_get (xs ++ v ∷ []) (length xs) ≡ Some v
got_last [] v = refl
got_last (x ∷ xs) v = got_last xs v

-- what has run last stands after what was served before
pub last_served_at : (m : Meaning) (l : LearnerValue) (v : Command) → IsLearner l
    → slice_get (advanced m v l).retained (executed l + 1 - (l.snapshot_position + 1)) ≡ Some v
last_served_at m l v is =
    let place : executed l + 1 - (l.snapshot_position + 1) ≡ length l.retained = omega (arith, is.reaches) in
    ap (slice_get (l.retained ++ v ∷ [])) place ∙ got_last l.retained v

-- what a learner tells of a run
module _ (m : Meaning) (was : NodeValue) (l : LearnerValue) where
  abbrev Ended : Command → Ran
  Ended v = record { position = executed was.learner + 1; answer = run_answer m v was.learner.whole }

  pub none_next : (r : Option Ran) → ((v : Command) → IsNext was.learner v → r ≡ Some (Ended v))
      → (((v : Command) → IsNext was.learner v → ⊥) → l ≡ was.learner)
      → ((x : Ran) → r ≡ Some x → ⊥) → RunsNext m was (with_learner was l) None
  none_next r ran still none =
      elim (next_or_none (executed was.learner + 1) was.learner.pairs) [
        | inl n ↦ absurd (none (Ended n.0) (ran n.0 n.1))
        | inr nothing ↦ (nothing, ap (with_learner was) (still nothing))
      ]

  module _ (r : Ran) (is : IsLearner was.learner)
      (next : (v : Command) → IsNext was.learner v → l ≡ advanced m v was.learner)
      (ran : (v : Command) → IsNext was.learner v → Some r ≡ Some (Ended v))
      (some : ((v : Command) → IsNext was.learner v → ⊥) → ⊥) where
    there : (v : Command) → IsNext was.learner v
        → IsRetained l r.position × (slice_get l.retained (r.position - (l.snapshot_position + 1)) ≡ Some v) × (r
        ≡ Ended v)
    there v h =
        let same : r ≡ Ended v = (let e = ran v h in cc e) in
        let is_next = next v h in
        let moves = ran_moves m v was.learner.whole is.window.0 in
        subst₂ (λ (k : LearnerValue) (x : Ran). IsRetained k x.position
        × (slice_get k.retained (x.position - (k.snapshot_position + 1)) ≡ Some v) × (x ≡ Ended v)) (sym is_next)
        (sym same)
        ((omega (arith, is.reaches), omega (arith, moves.0)), last_served_at m was.learner v is, refl)

    kept : (v : Command) × IsNext was.learner v
    kept = elim (next_or_none (executed was.learner + 1) was.learner.pairs)
        [ inl n ↦ n | inr nothing ↦ absurd (some nothing) ]

    pub is_served : IsRetained l r.position
    is_served = (there kept.0 kept.1).0

    pub some_next : (v : Command) → slice_get l.retained (r.position - (l.snapshot_position + 1)) ≡ Some v
        → RunsNext m was (with_learner was l) (Some (v, r))
    some_next v at =
        let k = there kept.0 kept.1 in
        let same : kept.0 ≡ v = (let e = sym k.1 ∙ at in cc e) in
        subst (λ (u : Command). RunsNext m was (with_learner was l) (Some (u, r))) same
        (kept.1, ap (with_learner was) (next kept.0 kept.1), k.2)

notes_ran : (m : Meaning) (Heard : History → Type 0) (node : NodeValue) (out : OutboxValue) (v : Command) (whose i : ℕ)
    → node.learner.snapshot_position < i
    → slice_get node.learner.retained (i - (node.learner.snapshot_position + 1)) ≡ Some v
    → ActsSafely m Heard node node out (with_note (note.Ran whose i v) out)
notes_ran m Heard node out v whose i above at =
    notes m Heard node out (note.Ran whose i v) tt (λ h n loose s heard.
    let w : PaxosState = s.holding.paxos in
    record {
      under = w.done;
      chosen = s.fits.paxos.stems.done;
      bears = served_stands m h.genesis w.done w.pairs node.learner i v s.held.follows above at;
    })

-- ---- clients

left_from : (client number : ℕ) (qs : List RequestValue) (r : RequestValue)
    → Contains (left_by client number qs) r → Contains qs r
left_from client number [] r c = c
left_from client number (q ∷ qs) r c =
    elim (cases_Bool (eqb client q.client)) [
      | inl mine ↦ elim (cases_Bool (nat_le q.number number)) [
        | inl reached ↦ contains_more q qs r (rw (mine, reached) at c)
        | inr above ↦ rw (mine, above) at c
      ]
      | inr other ↦ elim (cons_cases q (left_by client number qs) r (rw other at c)) [
        | inl is ↦ (0, omega arith, is)
        | inr later ↦ contains_more q qs r (left_from client number qs r later)
      ]
    ]

settled_goes_on : (m : Meaning) (Heard : History → Type 0) (node : NodeValue) (out : OutboxValue) (s : Session)
    → ActsSafely m Heard node (no_longer_waiting s node) out out
settled_goes_on m Heard node out x =
    change_goes_on m Heard node (no_longer_waiting x node) out refl refl (λ h n loose s heard. record {
      holding = record {
        paxos = s.holding.paxos;
        waiting = left_by x.client x.number s.holding.waiting;
        gathered = s.holding.gathered;
      };
      held = record {
        acceptor = s.held.acceptor;
        follows = s.held.follows;
        leads = s.held.leads;
        waiting = ap (left_by x.client x.number) s.held.waiting;
        gathered = s.held.gathered;
      };
      fits = record {
        paxos = s.fits.paxos;
        waiting = λ r c. s.fits.waiting r (left_from x.client x.number s.holding.waiting r c);
        proposals = s.fits.proposals;
        gathered = s.fits.gathered;
      };
      grows = record { acceptor = refl; term = λ t at. (t, at, refl, λ p c. c) };
      knows = λ e k. k;
    })

-- the client's last session is the list's reply to it
pub session_is_reply : (m : Meaning) (genesis : Genesis) (done : List Command) (pairs : List Pair) (l : LearnerValue)
    (client : ℕ) (s : Session) → AgreesWithList m genesis done pairs l
    → session_of client l.whole.sessions ≡ Some s → reply m genesis done client s.number ≡ Some s.answer
session_is_reply m genesis done pairs l client s f at =
    last_is_replied m genesis done client s (sym (seen_last m genesis done l.whole client f.sums) ∙ at)

up_to : (number : ℕ) (o : Option RequestValue) (k : ℕ) → number_up_to number o ≡ Some k → k ≤ number
up_to number None k e = absurd (cc e)
up_to number (Some q) k e =
    elim (cases_Bool (nat_le q.number number)) [
      | inl reached ↦ (let same : Some q.number ≡ Some k = rw reached at e in let is : q.number ≡ k = cc same in
          subst (λ (j : ℕ). j ≤ number) is (leb-true q.number number reached))
      | inr above ↦ (let none : None ≡ Some k = rw above at e in absurd (cc none))
    ]

-- what is told is the reply, or a number that is passed by one that has a reply
pub tells_client : (m : Meaning) (Heard : History → Type 0) (node : NodeValue) (out : OutboxValue) (s : Session)
    (number : ℕ) → number ≤ s.number
    → session_of s.client node.learner.whole.sessions ≡ Some s → IsMessage (saying node.header (session_reply s number))
    → ActsSafely m Heard node node out (with_session_reply node.header s (Some number) out)
tells_client m Heard node out s number le at fits = by_test (nat_lt number s.number) refl fits
  where
    message : Bool → NodeMessage
    message below = cond below (kinds.Passed (record { client = s.client; number = number; last = s.number }))
        (kinds.Answer (record { client = s.client; number = number; answer = s.answer }))

    by_test : (below : Bool) → nat_lt number s.number ≡ below → IsMessage (saying node.header (message below))
        → ActsSafely m Heard node node out
        (with_envelope (record { to = to.Client s.client; bytes = spelling (saying node.header (message below)) }) out)
    by_test true e f = says m Heard node out (to.Client s.client) (message true) f tt (λ e. tt) (λ h n loose k heard.
        let w : PaxosState = k.holding.paxos in (
          tt,
          record {
            under = w.done;
            chosen = k.fits.paxos.stems.done;
            bears = (s.answer, session_is_reply m h.genesis w.done w.pairs node.learner s.client s k.held.follows at);
          },
        ))
    by_test false e f =
        let same : s.number ≡ number = (let ge = ltb-false number s.number e in omega (arith, le, ge)) in
        says m Heard node out (to.Client s.client) (message false) f tt (λ e. tt) (λ h n loose k heard.
        let w : PaxosState = k.holding.paxos in (
          tt,
          record {
            under = w.done;
            chosen = k.fits.paxos.stems.done;
            bears = subst (λ (j : ℕ). reply m h.genesis w.done s.client j ≡ Some s.answer) same
                (session_is_reply m h.genesis w.done w.pairs node.learner s.client s k.held.follows at);
          },
        ))

pub settles_goes_on : (m : Meaning) (Heard : History → Type 0) (s : Session) (old : NodeValue) (before : OutboxValue)
    (new : NodeValue) (after : OutboxValue)
    → session_of s.client old.learner.whole.sessions ≡ Some s → EndsWait s old before new after
    → ActsSafely m Heard old new before after
settles_goes_on m Heard s old before new after at k =
    subst₂ (λ (node : NodeValue) (o : OutboxValue). ActsSafely m Heard old node before o) (sym k.becomes)
    (sym k.comes_to)
    (then_goes_on m Heard old (no_longer_waiting s old) (no_longer_waiting s old) before before
    (with_session_reply old.header s (waiting_number s old) before)
    (settled_goes_on m Heard old before s)
    (by_number (waiting_number s old) (up_to s.number (waiting_of s.client old.leader.waiting)) k.fits))
  where
    by_number : (o : Option ℕ) → ((number : ℕ) → o ≡ Some number → number ≤ s.number)
        → ((number : ℕ) → o ≡ Some number → IsMessage (saying old.header (session_reply s number)))
        → ActsSafely m Heard (no_longer_waiting s old) (no_longer_waiting s old) before
        (with_session_reply old.header s o before)
    by_number None le fits = rests_here m Heard (no_longer_waiting s old) before
    by_number (Some number) le fits =
        tells_client m Heard (no_longer_waiting s old) before s number (le number refl) at (fits number refl)

-- ---- the session that a command leaves

its_session : (s : Session) (l : List Session) → session_of s.client (with_session s l) ≡ Some s
its_session s [] = rw (eq-eqb s.client s.client refl) refl
its_session s (t ∷ l) =
    let mine : eqb s.client s.client ≡ true = eq-eqb s.client s.client refl in
    elim (cases_Bool (nat_lt s.client t.client)) [
      | inl below ↦ rw (below, mine) refl
      | inr not_below ↦ elim (cases_Bool (eqb s.client t.client)) [
        | inl same ↦ rw (not_below, same, mine) refl
        | inr apart ↦
            (let other : eqb t.client s.client ≡ false =
            ne_eqb t.client s.client (λ e. eqb-false s.client t.client apart (sym e)) in
            rw (not_below, apart, other) (its_session s l))
      ]
    ]

session_left : (m : Meaning) (w : WholeValue) (v : Command) (s : Session) → session_by v (run_answer m v w) ≡ Some s
    → session_of s.client (ran m v w).sessions ≡ Some s
session_left m w Noop s e = absurd (cc e)
session_left m w (Request r) s e =
    elim (cases_Bool (is_new (session_of r.client w.sessions) r.number)) [
      | inl new ↦
          (let now : Some (session_for m w r) ≡ Some s = rw new at e in
          let same : session_for m w r ≡ s = cc now in
          rw new (subst (λ (x : Session). session_of x.client (with_session (session_for m w r) w.sessions) ≡ Some x)
          same (its_session (session_for m w r) w.sessions)))
      | inr old ↦ (let none : None ≡ Some s = rw old at e in absurd (cc none))
    ]

any_goes_on : (m : Meaning) (Heard : History → Type 0) (o : Option Session) (old : NodeValue) (before : OutboxValue)
    (new : NodeValue) (after : OutboxValue)
    → ((s : Session) → o ≡ Some s → session_of s.client old.learner.whole.sessions ≡ Some s)
    → EndsWaitIfAny o old before new after → ActsSafely m Heard old new before after
any_goes_on m Heard None old before new after last k =
    subst₂ (λ (node : NodeValue) (o : OutboxValue). ActsSafely m Heard old node before o) (sym k.0) (sym k.1)
    (rests_here m Heard old before)
any_goes_on m Heard (Some s) old before new after last k =
    settles_goes_on m Heard s old before new after (last s refl) k

-- ---- the window

pub named_goes_on : (m : Meaning) (Heard : History → Type 0) (node : NodeValue) (out : OutboxValue)
    → ActsSafely m Heard node (without_term_if_outside node) out out
named_goes_on m Heard node out = by_test (is_outside node)
  where
    by_test : (t : Bool) → ActsSafely m Heard node (cond t (without_term node) node) out out
    by_test true = leaves_goes_on m Heard node (without_term node) out
        (record { header = refl; acceptor = refl; learner = refl }) refl
    by_test false = rests_here m Heard node out

-- ---- one execution

pub executes_goes_on : (m : Meaning) (Heard : History → Type 0) (old : NodeValue) (before : OutboxValue)
    (new : NodeValue) (after : OutboxValue) → IsLearner old.learner → Executes m old before new after
    → ActsSafely m Heard old new before after
executes_goes_on m Heard old before new after is k =
    let l : LearnerValue = old.learner in
    let v : Command = k.command in
    let i : ℕ = executed l + 1 in
    let ran_node : NodeValue = with_learner old (advanced m v l) in
    let noted : OutboxValue = with_note (note.Ran old.header.node i v) before in
    subst (λ (node : NodeValue). ActsSafely m Heard old node before after) (sym k.becomes)
    (then_goes_on m Heard old ran_node (without_term_if_outside k.mid) before before after
    (advances_goes_on m Heard old before v is k.next)
    (then_goes_on m Heard ran_node ran_node (without_term_if_outside k.mid) before noted after
    (notes_ran m Heard ran_node before v old.header.node i (omega (arith, is.reaches)) (last_served_at m l v is))
    (then_goes_on m Heard ran_node k.mid (without_term_if_outside k.mid) noted after after
    (any_goes_on m Heard (session_by v (run_answer m v l.whole)) ran_node noted k.mid after
    (session_left m l.whole v) k.ends_wait)
    (named_goes_on m Heard k.mid after))))

pub one_goes_on : (m : Meaning) (Heard : History → Type 0) (went : Bool) (old : NodeValue) (before : OutboxValue)
    (new : NodeValue) (after : OutboxValue) → IsLearner old.learner
    → ExecutesOne m went old before new after → ActsSafely m Heard old new before after
one_goes_on m Heard true old before new after is k = executes_goes_on m Heard old before new after is k
one_goes_on m Heard false old before new after is k =
    subst₂ (λ (node : NodeValue) (o : OutboxValue). ActsSafely m Heard old node before o) (sym k.1) (sym k.2)
    (rests_here m Heard old before)

-- ---- one after another

its_learner : (node : NodeValue) → (without_term_if_outside node).learner ≡ node.learner
its_learner node = by_test (is_outside node)
  where
    by_test : (t : Bool) → (cond t (without_term node) node).learner ≡ node.learner
    by_test true = refl
    by_test false = refl

any_learner : (o : Option Session) (old : NodeValue) (before : OutboxValue) (new : NodeValue) (after : OutboxValue)
    → EndsWaitIfAny o old before new after → new.learner ≡ old.learner
any_learner None old before new after k = ap (λ (node : NodeValue). node.learner) k.0
any_learner (Some s) old before new after k = ap (λ (node : NodeValue). node.learner) k.becomes

-- the learner has moved one position on
pub executes_learner : (m : Meaning) (old : NodeValue) (before : OutboxValue) (new : NodeValue) (after : OutboxValue)
    (k : Executes m old before new after) → new.learner ≡ advanced m k.command old.learner
executes_learner m old before new after k =
    let v : Command = k.command in
    ap (λ (node : NodeValue). node.learner) k.becomes ∙ its_learner k.mid
    ∙ any_learner (session_by v (run_answer m v old.learner.whole)) (with_learner old (advanced m v old.learner))
    (with_note (note.Ran old.header.node (executed old.learner + 1) v) before) k.mid after k.ends_wait

pub went_on : (m : Meaning) (went : Bool) (first : NodeValue) (begun : OutboxValue) (old : NodeValue)
    (before : OutboxValue) (new : NodeValue) (after : OutboxValue) → went ≡ true
    → Runs m first begun old before → ExecutesOne m went old before new after → Runs m first begun new after
went_on m true first begun old before new after e runs k = goes_on runs k
went_on m false first begun old before new after e runs k = absurd (cc e)

pub went_all : (m : Meaning) (went : Bool) (first : NodeValue) (begun : OutboxValue) (old : NodeValue)
    (before : OutboxValue) (new : NodeValue) (after : OutboxValue) → went ≡ false
    → Runs m first begun old before → ExecutesOne m went old before new after → RunsAll m first begun new after
went_all m true first begun old before new after e runs k = absurd (cc e)
went_all m false first begun old before new after e runs k =
    subst₂ (λ (node : NodeValue) (o : OutboxValue). RunsAll m first begun node o) (sym k.1) (sym k.2) (runs, k.0)

pub went_fewer : (m : Meaning) (went : Bool) (old : NodeValue) (before : OutboxValue) (new : NodeValue)
    (after : OutboxValue) → went ≡ true → ExecutesOne m went old before new after
    → length new.learner.pairs < length old.learner.pairs
went_fewer m true old before new after e k =
    subst (λ (l : LearnerValue). length l.pairs < length old.learner.pairs)
    (sym (executes_learner m old before new after k))
    (fewer (executed old.learner + 1) k.command old.learner.pairs k.next)
went_fewer m false old before new after e k = absurd (cc e)
