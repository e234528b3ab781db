-- A request that waits at the node which executes it is answered.
use Rattle.std.proofs.Common.{◌≡◌, ◌∙◌, ℕ, ◌+◌, Bool, true, false, cond, Option, Some, None, refl, sym, ap, subst}
use Rattle.std.proofs.Common.{Contains, arith}
use Rattle.std.proofs.lemmas.Bool.Decides.{nat_tests}
use Rattle.std.proofs.lemmas.List.Elements.{Contains-push}
use Rattle.std.specs.Prelude.{nat_le, nat_lt}
use Rattle.lk_types.specs.declared.answer.Answer.{Answer}
use Rattle.lk_members.specs.Effects.{Command, RequestValue, Request}
use Rattle.lk_messages.specs.declared.message.NodeMessage.{NodeMessage}
use Rattle.lk_messages.specs.declared.message.NodeMessage.TheVariants as kinds
use Rattle.lk_messages.specs.Grammar.{spelling}
use Rattle.lk_state.specs.Meanings.{Meaning}
use Rattle.lk_state.specs.Runs.{session_for, run_answer}
use Rattle.lk_state.specs.Sessions.{session_of, is_new}
use Rattle.lk_state.specs.declared.session.Session.{Session}
use Rattle.lk_state.specs.States.{WholeValue}
use Rattle.lk_leader.specs.Waits.{waiting_of, number_up_to}
use Rattle.lk_learner.specs.Learners.{advanced, executed}
use Rattle.lk_node_interface.specs.KeptReplies.{session_reply, session_by}
use Rattle.lk_node_interface.specs.Outboxes.{OutboxValue, with_envelope, with_note}
use Rattle.lk_node_interface.specs.Saying.{saying}
use Rattle.lk_node_interface.specs.declared.to.To.TheVariants as to
use Rattle.lk_node_interface.specs.declared.note.Note.TheVariants as note
use Rattle.lk_node.specs.Executing.{EndsWait, EndsWaitIfAny, Executes, waiting_number, with_session_reply}
use Rattle.lk_node.specs.Learning.{with_learner}
use Rattle.lk_node.specs.NodeValue.{NodeValue}
use Rattle.lk_progress.specs.Answering.{WaitsFresh, answer_envelope}

-- the session that a fresh request leaves
abbrev left_session : Meaning → WholeValue → RequestValue → Session
left_session m w r =
    record { client = r.client; number = r.number; answer = (session_for m w r).answer }

fresh_session : (m : Meaning) (w : WholeValue) (r : RequestValue)
    → is_new (session_of r.client w.sessions) r.number ≡ true
    → session_by (Request r) (run_answer m (Request r) w) ≡ Some (left_session m w r)
fresh_session m w r fresh = by_test (is_new (session_of r.client w.sessions) r.number) fresh
  where
    answer_if : Option RequestValue → Option Answer
    answer_if None = None
    answer_if (Some q) = Some (session_for m w q).answer

    by_test : (t : Bool) → t ≡ true
        → session_by (Request r) (answer_if (cond t (Some r) None)) ≡ Some (left_session m w r)
    by_test true e = refl
    by_test false e = absurd (cc e)

number_is : (r : RequestValue) → number_up_to r.number (Some r) ≡ Some r.number
number_is r = by_test (nat_le r.number r.number) (grind (arith, nat_tests))
  where
    by_test : (t : Bool) → t ≡ true → cond t (Some r.number) None ≡ Some r.number
    by_test true e = refl
    by_test false e = absurd (cc e)

reply_is : (s : Session) → session_reply s s.number
    ≡ kinds.Answer (record { client = s.client; number = s.number; answer = s.answer })
reply_is s = by_test (nat_lt s.number s.number) (grind (arith, nat_tests))
  where
    by_test : (t : Bool) → t ≡ false
        → cond t (kinds.Passed (record { client = s.client; number = s.number; last = s.number }))
        (kinds.Answer (record { client = s.client; number = s.number; answer = s.answer }))
        ≡ kinds.Answer (record { client = s.client; number = s.number; answer = s.answer })
    by_test false e = refl
    by_test true e = absurd (cc e)

-- the envelope of the session's reply is the last of them
told_last : (m : Meaning) (old node : NodeValue) (r : RequestValue) (before mid_out : OutboxValue) (mid : NodeValue)
    → node.header ≡ old.header → node.leader ≡ old.leader → waiting_of r.client old.leader.waiting ≡ Some r
    → EndsWait (left_session m old.learner.whole r) node before mid mid_out
    → Contains mid_out.envelopes (answer_envelope m old r)
told_last m old node r before after mid header leader waits k =
    let s : Session = left_session m old.learner.whole r in
    let number : waiting_number s node ≡ Some r.number =
    ap (λ l. number_up_to s.number (waiting_of s.client l.waiting)) leader
    ∙ ap (λ (o : Option RequestValue). number_up_to s.number o) waits ∙ number_is r in
    let is : after ≡ with_envelope (answer_envelope m old r) before =
    k.comes_to ∙ ap (λ (o : Option ℕ). with_session_reply node.header s o before) number
    ∙ ap (λ h. with_envelope (record {
      to = to.Client s.client;
      bytes =
          spelling (saying h (session_reply s r.number));
    })
    before) header
    ∙ ap (λ (reply : NodeMessage). with_envelope
    (record { to = to.Client s.client; bytes = spelling (saying old.header reply) }) before) (reply_is s) in
    subst (λ (o : OutboxValue). Contains o.envelopes (answer_envelope m old r)) (sym is)
    (Contains-push before.envelopes (answer_envelope m old r))

pub answers : (m : Meaning) (old new : NodeValue) (before after : OutboxValue) (r : RequestValue) → WaitsFresh old r
    → (k : Executes m old before new after) → k.command ≡ Request r → Contains after.envelopes (answer_envelope m old r)
answers m old new before after r w k is =
    let run : NodeValue = with_learner old (advanced m (Request r) old.learner) in
    let noted : OutboxValue = with_note (note.Ran old.header.node (executed old.learner + 1) (Request r)) before in
    let ends : EndsWaitIfAny (session_by (Request r) (run_answer m (Request r) old.learner.whole)) run noted k.mid
    after =
    subst (λ (v : Command). EndsWaitIfAny (session_by v (run_answer m v old.learner.whole))
    (with_learner old (advanced m v old.learner))
    (with_note (note.Ran old.header.node (executed old.learner + 1) v) before) k.mid after) is k.ends_wait in
    told_last m old run r noted after k.mid refl refl w.waits
    (subst (λ (o : Option Session). EndsWaitIfAny o run noted k.mid after)
    (fresh_session m old.learner.whole r w.fresh) ends)
