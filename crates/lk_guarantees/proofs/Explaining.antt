-- What a list explains, and what takes effect before what, in the words of the guarantee.
use Rattle.std.proofs.Common.{◌≡◌, ℕ, zero, suc, List, [], ◌∷◌, ◌++◌, Option, Some, None, Contains, refl, ap, subst}
use Rattle.std.proofs.Common.{sym, ◌∙◌, inl, inr, arith}
use Rattle.std.specs.List.{AllByRecursion}
use Rattle.std.proofs.lemmas.Bool.{cases_Bool}
use Rattle.lk_types.specs.Commands.{IsCommand}
use Rattle.lk_types.specs.declared.answer.Answer.{Answer}
use Rattle.lk_types.specs.declared.command.Op.{Op}
use Rattle.lk_types.specs.declared.command.Op.TheVariants.{Table, Join, Leave, Raise}
use Rattle.lk_types.specs.declared.genesis.Genesis.{Genesis}
use Rattle.lk_members.specs.Effects.{Command, RequestValue, in_effect}
use Rattle.lk_members.specs.Rosters.{PlainRoster, roster_of, join_answer, leave_answer}
use Rattle.lk_members.proofs.Memberships.{entries_follow_their_predecessors, in_effect_after}
use Rattle.lk_state.specs.Meanings.{Running, Raising}
use Rattle.lk_state.specs.States.{text_of, op_answer, session_in, reply}
use Rattle.lk_state.specs.declared.session.Session.{Session}
use Rattle.lk_state.proofs.Wholes.{replies_come_from_entries}
use Rattle.lk_agreement_laws.specs.Datagrams.{Datagram}
use Rattle.lk_agreement_laws.specs.Chosen.{Chosen}
use Rattle.lk_agreement_laws.proofs.Histories.{chosen_fits, contains_more}
use Rattle.lk_locks.specs.Bodies.{body_of}
use Rattle.lk_locks.specs.Plain as plain
use Rattle.lk_locks.specs.Meaning.{table_meaning}
use Rattle.lk_locks.proofs.Tables.{answer-text_of}
use Rattle.lk_guarantees.specs.Plain.{State, table, raise, execute, after, GivesAnswer, at}
use Rattle.lk_guarantees.proofs.Locking.{locks_agree, join_agrees, leave_agrees}
use Rattle.lk_guarantees.proofs.Effects.{Leaves, leaves}
use Rattle.lk_guarantees.proofs.Quorums.{at_is}

-- ---- lists

pub stands_at : (L : List Command) (i : ℕ) (v : Command) → at L i ≡ Some v → Contains L v
stands_at L zero v e = absurd cc
stands_at [] (suc i) v e = absurd cc
stands_at (c ∷ L) (suc zero) v e = (0, omega arith, cc)
stands_at (c ∷ L) (suc (suc i)) v e = contains_more c L v (stands_at L (suc i) v e)

all_from : (P : Command → Type 0) (L : List Command)
    → ((i : ℕ) (v : Command) → at L i ≡ Some v → P v) → AllByRecursion P L
all_from P [] h = tt
all_from P (c ∷ L) h = (h 1 c refl, all_from P L later)
  where
    later : (i : ℕ) (v : Command) → at L i ≡ Some v → P v
    later zero v e = absurd cc
    later (suc i) v e = h (suc (suc i)) v e

all_front : (P : Command → Type 0) (L K : List Command) → AllByRecursion P (L ++ K) → AllByRecursion P L
all_front P [] K all = tt
all_front P (c ∷ L) K all = (all.0, all_front P L K all.1)

-- each command of a chosen list is in its range
pub all_fit : (genesis : Genesis) (sent : List Datagram) (L : List Command) → Chosen genesis sent L
    → AllByRecursion IsCommand L
all_fit genesis sent L chosen =
    all_from IsCommand L (λ i v e. (chosen_fits genesis sent L chosen i v (sym (at_is L i) ∙ e)).1)

-- ---- answers

raise_agrees : (s : State) → plain.raise_answer (table s) ≡ (raise s).0
raise_agrees s = elim (cases_Bool s.raised) [ inl is ↦ rw is refl | inr not_yet ↦ rw not_yet refl ]

op_answered : (genesis : Genesis) (L : List Command) (s : State) → Leaves genesis L s
    → AllByRecursion IsCommand L → (client : ℕ) (op : Op)
    → op_answer table_meaning (roster_of genesis L) (text_of table_meaning L) client op ≡ (execute client op s).0
op_answered genesis L s now all client (Table body) =
    answer-text_of L all client (Running body) ∙ ap (plain.answer client body) now.locks
    ∙ (locks_agree client s.raised (body_of body) s.locks).0
op_answered genesis L s now all client (Join node port) =
    ap (λ (x : PlainRoster). join_answer x node) now.roster ∙ (join_agrees node port s).answer_is
op_answered genesis L s now all client (Leave node) =
    ap (λ (x : PlainRoster). leave_answer x node) now.roster ∙ (leave_agrees node s).answer_is
op_answered genesis L s now all client Raise =
    answer-text_of L all client Raising ∙ ap plain.raise_answer now.locks ∙ raise_agrees s

effective_answer : (genesis : Genesis) (before later : List Command) (entry : Command) (client number : ℕ) (a : Answer)
    (o : Option RequestValue) → AllByRecursion IsCommand before → in_effect before entry ≡ o
    → session_in table_meaning (roster_of genesis before) (text_of table_meaning before) o
    ≡ Some (record { client = client; number = number; answer = a })
    → GivesAnswer genesis (before ++ (entry ∷ later)) client number a
effective_answer genesis before later entry client number a None all effective e = absurd cc
effective_answer genesis before later entry client number a (Some q) all effective e =
    let is = in_effect_after before entry q effective in
    let now = leaves genesis before in
    let given : Session = record {
      client = q.client;
      number = q.number;
      answer = op_answer table_meaning (roster_of genesis before) (text_of table_meaning before) q.client q.op;
    } in
    let wanted : Session = record { client = client; number = number; answer = a } in
    let same : given ≡ wanted = cc in
    let of_client : q.client ≡ client = ap (λ (s : Session). s.client) same in
    record {
      before = before;
      request = q;
      later = later;
      stands = ap (λ (c : Command). before ++ (c ∷ later)) is.0;
      of_client = of_client;
      of_number = ap (λ (s : Session). s.number) same;
      is_effective = sym (now.least q) ∙ is.1;
      answered = ap (λ (c : ℕ). (execute c q.op (after genesis before)).0) (sym of_client)
          ∙ sym (op_answered genesis before (after genesis before) now all q.client q.op)
          ∙ ap (λ (s : Session). s.answer) same;
    }

pub answered : (genesis : Genesis) (L : List Command) (client number : ℕ) (a : Answer) → AllByRecursion IsCommand L
    → reply table_meaning genesis L client number ≡ Some a → GivesAnswer genesis L client number a
answered genesis L client number a all e =
    let p = replies_come_from_entries table_meaning genesis L client number a e in
    let index = entries_follow_their_predecessors L p.0 p.1 in
    let fits = all_front IsCommand p.0.before (p.0.entry ∷ index.0) (subst (AllByRecursion IsCommand) index.1 all) in
    subst (λ (K : List Command). GivesAnswer genesis K client number a) (sym index.1)
    (effective_answer genesis p.0.before index.0 p.0.entry client number a
    (in_effect p.0.before p.0.entry) fits refl p.2)
