-- What a table server replies, by the list that it stands for.
use Rattle.std.proofs.Common.{◌≡◌, ℕ, ◌<◌, ◌≤◌, true, List, [], ◌∷◌, ◌++◌, Option, Some, None, refl, sym, ap, subst}
use Rattle.std.proofs.Common.{◌∙◌, arith}
use Rattle.std.specs.Prelude.{Contains}
use Rattle.std.specs.List.{AllByRecursion}
use Rattle.std.proofs.lemmas.Bool.{le-ltb}
use Rattle.lk_types.specs.Commands.{IsCommand, IsRequest}
use Rattle.lk_types.specs.declared.answer.Answer.{Answer}
use Rattle.lk_types.specs.declared.command.Op.{Op}
use Rattle.lk_types.specs.declared.command.Op.TheVariants.{Table, Join, Leave, Raise}
use Rattle.lk_messages.specs.declared.message.NodeMessage.{NodeMessage}
use Rattle.lk_messages.specs.declared.message.NodeMessage.TheVariants as message
use Rattle.lk_members.specs.Effects.{Command, RequestValue, Noop, Request, PositionedEntry, positioned, in_effect}
use Rattle.lk_members.specs.Effects.{IsLast}
use Rattle.lk_members.specs.Rosters.{Genesis, roster_of}
use Rattle.lk_members.specs.Windows.{roster_after}
use Rattle.lk_members.proofs.Memberships.{AllByRecursion-push, entries_follow_their_predecessors, in_effect_after}
use Rattle.lk_members.proofs.Memberships.{IsLast-new}
use Rattle.lk_state.specs.Meanings.{Running, Raising}
use Rattle.lk_state.specs.Sessions.{session_of, is_new}
use Rattle.lk_state.specs.States.{WholeValue, op_answer, session_in, text_of, reply, reply_of, last_session}
use Rattle.lk_state.specs.States.{whole_after}
use Rattle.lk_state.specs.States.{SumsUp as StandsFor}
use Rattle.lk_state.specs.Runs.{seen_as}
use Rattle.lk_state.specs.declared.session.Session.{Session}
use Rattle.lk_state.specs.declared.whole.Seen.{Seen}
use Rattle.lk_state.specs.declared.whole.Seen.TheVariants as seen
use Rattle.lk_state.proofs.Wholes.{same_is, passed_is, seen_last, takes_effect_above_last, last_is_greatest}
use Rattle.lk_state.proofs.Wholes.{last_is_replied, replies_come_from_entries}
use Rattle.lk_locks.specs.Lists.{table_of, table_answer}
use Rattle.lk_locks.specs.Meaning.{table_meaning}
use Rattle.lk_locks.proofs.Tables.{answer-text_of}
use Rattle.lk_node_interface.specs.KeptReplies.{kept_reply}
use Rattle.lk_node_interface.proofs.ReplyLaws.{answer_same, passed_same}
use Rattle.lk_script.specs.Replies.{IsReply, with_request}
use Rattle.lk_script.specs.TableMode.{is_for_table, Replies}
use Rattle.lk_script.specs.TableMode.Replies.{answers, passes}
use Rattle.lk_script.specs.TableRuns.{AsksTable, IsFirst, HasExecuted, executed_of}
use Rattle.lk_script.specs.declared.table_run.TableRun.{TableRun}

-- ---- before any request

module _ (genesis : Genesis) (server : TableRun) (whole : StandsFor table_meaning genesis [] server.whole) where
  pub begins : IsFirst server.cluster genesis → HasExecuted [] server
  begins first = record { genesis = genesis; first = first; asked = tt; whole = whole }

  pub nothing_executed : executed_of server ≡ 0
  unfolding whole_after roster_after
  nothing_executed = ap (λ (w : WholeValue). w.roster.executed) whole

-- ---- what stands in a list that only asks

commands_of : (L : List Command) → AllByRecursion AsksTable L → AllByRecursion IsCommand L
commands_of [] asked = tt
commands_of (Noop ∷ L) asked = absurd asked.0
commands_of (Request r ∷ L) asked = (asked.0.0, commands_of L asked.1)

-- an entry, and those before it
parts_of : (before : List Command) (c : Command) (rest : List Command)
    → AllByRecursion AsksTable (before ++ (c ∷ rest)) → AllByRecursion AsksTable before × AsksTable c
parts_of [] c rest asked = (tt, asked.0)
parts_of (b ∷ before) c rest asked = let parts = parts_of before c rest asked.1 in ((asked.0, parts.0), parts.1)

-- ---- the reply of a list is that of the plain table

-- what the machine answers at a place, if it asks the table, the plain table answers
table_answer-op_answer : (genesis : Genesis) (before : List Command) (client : ℕ) (op : Op)
    → AllByRecursion IsCommand before → is_for_table op ≡ true
    → table_answer client op (table_of before)
    ≡ Some (op_answer table_meaning (roster_of genesis before) (text_of table_meaning before) client op)
table_answer-op_answer genesis before client (Table body) commands table =
    ap Some (sym (answer-text_of before commands client (Running body)))
table_answer-op_answer genesis before client (Join node port) commands table = absurd cc
table_answer-op_answer genesis before client (Leave node) commands table = absurd cc
table_answer-op_answer genesis before client Raise commands table =
    ap Some (sym (answer-text_of before commands client Raising))

-- an entry that takes effect, with its answer
abbrev read_answer : Genesis → PositionedEntry → RequestValue → Answer
read_answer genesis p q =
    op_answer table_meaning (roster_of genesis p.before) (text_of table_meaning p.before) q.client q.op

module _ (genesis : Genesis) (L : List Command) (asked : AllByRecursion AsksTable L) (p : PositionedEntry)
    (stands : Contains (positioned L) p) where
  reply_at : (client number : ℕ) (a : Answer) (o : Option RequestValue) → in_effect p.before p.entry ≡ o
      → session_in table_meaning (roster_of genesis p.before) (text_of table_meaning p.before) o
      ≡ Some (record { client = client; number = number; answer = a }) → IsReply L client number a
  reply_at client number a None effective e = absurd cc
  reply_at client number a (Some q) effective e =
      let s : Session = record { client = q.client; number = q.number; answer = read_answer genesis p q } in
      let t : Session = record { client = client; number = number; answer = a } in
      let is : s ≡ t = same s t e in
      let behind = entries_follow_their_predecessors L p stands in
      let parts = parts_of p.before p.entry behind.0 (subst (AllByRecursion AsksTable) behind.1 asked) in
      let ask : AsksTable (Request q) = subst AsksTable (in_effect_after p.before p.entry q effective).0 parts.1 in
      record {
        entry = p;
        is_listed = stands;
        request = q;
        effective = effective;
        of_client = ap (λ (x : Session). x.client) is;
        of_number = ap (λ (x : Session). x.number) is;
        answered = table_answer-op_answer genesis p.before q.client q.op (commands_of p.before parts.0) ask.1
            ∙ ap (λ (x : Session). Some x.answer) is;
      }
    where
      same : (s t : Session) → Some s ≡ Some t → s ≡ t
      same s t e = cc

reply_is_plain : (genesis : Genesis) (L : List Command) (client number : ℕ) (a : Answer) → AllByRecursion AsksTable L
    → reply table_meaning genesis L client number ≡ Some a → IsReply L client number a
reply_is_plain genesis L client number a asked e =
    let found = replies_come_from_entries table_meaning genesis L client number a e in
    reply_at genesis L asked found.0 found.1 client number a (in_effect found.0.before found.0.entry) refl found.2

-- ---- a request that does not take effect adds nothing

module _ (L : List Command) (r : RequestValue) (server : TableRun) (sums : HasExecuted L server) where
  last : last_session table_meaning sums.genesis L r.client ≡ session_of r.client server.whole.sessions
  last = sym (seen_last table_meaning sums.genesis L server.whole r.client sums.whole)

  not_counted : (s : Session) → session_of r.client server.whole.sessions ≡ Some s → r.number ≤ s.number
      → in_effect L (Request r) ≡ None
  not_counted s is below =
      takes_effect_above_last table_meaning sums.genesis L r ∙ rw (last ∙ is, le-ltb s.number r.number below) refl

  unchanged : (m : NodeMessage) (s : Session) → session_of r.client server.whole.sessions ≡ Some s
      → r.number ≤ s.number → Replies L r m → Replies (with_request L r) r m × HasExecuted (with_request L r) server
  unchanged m s is below replies =
      let same : with_request L r ≡ L = rw (not_counted s is below) refl in
      subst (λ (K : List Command). Replies K r m × HasExecuted K server) (sym same) (replies, sums)

  -- the number of the client's last one again
  pub again : (a : Answer) → seen_as (session_of r.client server.whole.sessions) r.number ≡ seen.Same a
      → Replies (with_request L r) r (message.Answer (record { client = r.client; number = r.number; answer = a }))
      × HasExecuted (with_request L r) server
  again a e =
      let s = same_is (session_of r.client server.whole.sessions) r.number a e in
      let greatest = last_is_greatest table_meaning sums.genesis L r.client s.0 (last ∙ s.1) in
      let replied = last_is_replied table_meaning sums.genesis L r.client s.0 (last ∙ s.1) in
      let plain = reply_is_plain sums.genesis L r.client r.number a sums.asked
      (ap (reply table_meaning sums.genesis L r.client) s.2 ∙ replied ∙ ap Some s.3) in
      unchanged (message.Answer (record { client = r.client; number = r.number; answer = a })) s.0 s.1
      (omega (arith, s.2)) (answers a (subst (IsLast L r.client) (sym s.2) greatest) plain)

  -- a number below it
  pub passed : (number : ℕ) → seen_as (session_of r.client server.whole.sessions) r.number ≡ seen.Passed number
      → Replies (with_request L r) r (message.Passed (record { client = r.client; number = r.number; last = number }))
      × HasExecuted (with_request L r) server
  passed number e =
      let s = passed_is (session_of r.client server.whole.sessions) r.number number e in
      let greatest = last_is_greatest table_meaning sums.genesis L r.client s.0 (last ∙ s.1) in
      unchanged (message.Passed (record { client = r.client; number = r.number; last = number }))
      s.0 s.1 (omega (arith, s.3))
      (passes number (subst (IsLast L r.client) s.2 greatest) (subst (λ (n : ℕ). r.number < n) s.2 s.3))

  -- either of them
  pub kept : (told : NodeMessage)
      → kept_reply r.client r.number (seen_as (session_of r.client server.whole.sessions) r.number) ≡ Some told
      → Replies (with_request L r) r told × HasExecuted (with_request L r) server
  kept told e = by_seen (seen_as (session_of r.client server.whole.sessions) r.number) refl e
    where
      Comes : NodeMessage → Type 0
      Comes m = Replies (with_request L r) r m × HasExecuted (with_request L r) server

      by_seen : (x : Seen) → seen_as (session_of r.client server.whole.sessions) r.number ≡ x
          → kept_reply r.client r.number x ≡ Some told → Comes told
      by_seen seen.New is same = absurd (cc same)
      by_seen (seen.Same a) is same = subst Comes (answer_same r.client r.number a told same) (again a is)
      by_seen (seen.Passed number) is same =
          subst Comes (passed_same r.client r.number number told same) (passed number is)

-- ---- a request that takes effect goes to the end

-- what a server that has run it replies
pub runs : (L : List Command) (r : RequestValue) (a : Answer) (old new : TableRun) (answered : Option Answer)
    → IsRequest r → is_for_table r.op ≡ true
    → is_new (session_of r.client old.whole.sessions) r.number ≡ true → answered ≡ Some a → new.cluster ≡ old.cluster
    → ((genesis : Genesis) (L : List Command) → StandsFor table_meaning genesis L old.whole
    → StandsFor table_meaning genesis (L ++ Request r ∷ []) new.whole)
    → ((genesis : Genesis) (L : List Command) → StandsFor table_meaning genesis L old.whole
    → answered ≡ reply_of table_meaning genesis (L ++ Request r ∷ []) (in_effect L (Request r)))
    → HasExecuted L old → Replies (with_request L r) r
    (message.Answer (record { client = r.client; number = r.number; answer = a })) × HasExecuted (with_request L r) new
runs L r a old new answered fits table above is same behind replied sums =
    let effective : in_effect L (Request r) ≡ Some r = takes_effect_above_last table_meaning sums.genesis L r
    ∙ rw (last L r old sums, above) refl in
    let longer : with_request L r ≡ L ++ Request r ∷ [] = rw effective refl in
    let asked : AllByRecursion AsksTable (L ++ Request r ∷ []) =
    AllByRecursion-push AsksTable L (Request r) sums.asked (fits, table) in
    let told : reply table_meaning sums.genesis (L ++ Request r ∷ []) r.client r.number ≡ Some a =
    sym (replied sums.genesis L sums.whole ∙ ap (reply_of table_meaning sums.genesis (L ++ Request r ∷ [])) effective)
    ∙ is in
    let m : NodeMessage = message.Answer (record { client = r.client; number = r.number; answer = a }) in
    subst (λ (K : List Command). Replies K r m × HasExecuted K new) (sym longer) (
      answers a (IsLast-new L r (in_effect_after L (Request r) r effective).1)
          (reply_is_plain sums.genesis (L ++ Request r ∷ []) r.client r.number a asked told),
      record { genesis = sums.genesis; first = first; asked = asked; whole = behind sums.genesis L sums.whole },
    )
  where
    first : IsFirst new.cluster sums.genesis
    first = subst (λ (k : ℕ). IsFirst k sums.genesis) (sym same) sums.first
