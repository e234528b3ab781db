-- What the nodes have executed, in the words of the guarantee.
use Rattle.std.proofs.Common.{◌≡◌, ℕ, zero, suc, ◌+◌, ◌≤◌, true, eqb, List, [], ◌∷◌, length, take, Option, Some, None}
use Rattle.std.proofs.Common.{Contains, refl, ap, subst, sym, ◌∙◌, inl, inr, arith}
use Rattle.std.specs.List.{list_all, AllByRecursion}
use Rattle.std.proofs.lemmas.Bool.{cases_Bool, and_parts, eqb-true}
use Rattle.lk_types.specs.Commands.{IsCommand}
use Rattle.lk_messages.specs.Values.{PartValue}
use Rattle.lk_types.specs.declared.genesis.Genesis.{Genesis}
use Rattle.lk_members.specs.Effects.{Command, RequestValue, Request, is_of_another, is_at_most}
use Rattle.lk_members.specs.Rosters.{PlainRoster, roster_of, last_change}
use Rattle.lk_members.specs.Windows.{RosterValue, roster_after}
use Rattle.lk_members.proofs.Memberships.{length_of_window, set_of_window}
use Rattle.lk_agreement_laws.specs.Chosen.{Chosen}
use Rattle.lk_agreement_laws.specs.Datagrams.{Datagram}
use Rattle.lk_agreement_laws.proofs.Histories.{cons_cases, contains_more}
use Rattle.lk_state.specs.Sessions.{session_of}
use Rattle.lk_state.specs.declared.session.Session.{Session}
use Rattle.lk_state.specs.States.{WholeValue, whole_after, SumsUp, last_session, sessions_of, text_of}
use Rattle.lk_state.proofs.Wholes.{last_is_replied, last_is_greatest, none_is_unused, sessions_are_last}
use Rattle.lk_state.proofs.Wholes.{last_session-session_of}
use Rattle.lk_locks.specs.Meaning.{table_meaning}
use Rattle.lk_locks.specs.Packed.{table_text}
use Rattle.lk_locks.proofs.Tables.{text_of-text}
use Rattle.lk_node.specs.BorneOut.{text, BearsOutPart}
use Rattle.lk_replica.specs.ReplicaValue.{ReplicaValue}
use Rattle.lk_guarantees.specs.Disks.{IsSnapshot}
use Rattle.lk_guarantees.specs.Plain.{Kept, IsKeptOf}
use Rattle.lk_guarantees.specs.Guarantee.{HasExecuted, IsPart}
use Rattle.lk_guarantees.proofs.Effects.{leaves}
use Rattle.lk_guarantees.proofs.Rising.{Rise, sessions_rise}
use Rattle.lk_guarantees.proofs.Quorums.{members_are, is_chosen}
use Rattle.lk_guarantees.proofs.Explaining.{all_fit, answered}

-- ---- the last request of each client

at_most_all : (L : List Command) (client number : ℕ) (r : RequestValue) → list_all (is_at_most client number) L ≡ true
    → Contains L (Request r) → r.client ≡ client → r.number ≤ number
at_most_all [] client number r all c same = absurd (omega (arith, c.1))
at_most_all (x ∷ L) client number r all c same =
    let parts = and_parts (is_at_most client number x) (list_all (is_at_most client number) L) all in
    elim (cons_cases x L (Request r) c) [
      | inl here ↦ one same (rw here at parts.0)
      | inr later ↦ at_most_all L client number r parts.1 later same
    ]
  where
    one : r.client ≡ client → is_at_most client number (Request r) ≡ true → r.number ≤ number
    one of_client e = grind arith

used_by_client : (L : List Command) (client : ℕ) (r : RequestValue) → list_all (is_of_another client) L ≡ true
    → Contains L (Request r) → r.client ≡ client → ⊥
used_by_client [] client r all c same = absurd (omega (arith, c.1))
used_by_client (x ∷ L) client r all c same =
    let parts = and_parts (is_of_another client x) (list_all (is_of_another client) L) all in
    elim (cons_cases x L (Request r) c) [
      | inl here ↦ one same (rw here at parts.0)
      | inr later ↦ used_by_client L client r parts.1 later same
    ]
  where
    one : r.client ≡ client → is_of_another client (Request r) ≡ true → ⊥
    one of_client e = grind arith

found : (client : ℕ) (sessions : List Session) (s : Session) → session_of client sessions ≡ Some s
    → Contains sessions s × (s.client ≡ client)
found client [] s e = absurd cc
found client (t ∷ sessions) s e = elim (cases_Bool (eqb t.client client)) [
  | inl here ↦
      let is : Some t ≡ Some s = rw here at e in
      let same : t ≡ s = cc in
      ((0, omega arith, same), subst (λ (x : Session). x.client ≡ client) same (eqb-true t.client client here))
  | inr there ↦
      let later = found client sessions s (rw there at e) in
      (contains_more t sessions s later.0, later.1)
]

client_kept : (genesis : Genesis) (L : List Command) (r : RequestValue) (o : Option Session)
    → last_session table_meaning genesis L r.client ≡ o → Contains L (Request r)
    → (s : Session) × Contains (sessions_of table_meaning genesis L) s × (s.client ≡ r.client)
client_kept genesis L r None e c =
    absurd (used_by_client L r.client r (none_is_unused table_meaning genesis L r.client e) c refl)
client_kept genesis L r (Some s) e c =
    let here = found r.client (sessions_of table_meaning genesis L) s
    (sym (last_session-session_of table_meaning genesis L r.client) ∙ e) in
    (s, here.0, here.1)

-- ---- the whole

roster_of_whole : (genesis : Genesis) (L : List Command) (w : WholeValue) → w ≡ whole_after table_meaning genesis L
    → w.roster ≡ roster_after genesis L
unfolding whole_after
roster_of_whole genesis L w e = ap (λ (x : WholeValue). x.roster) e

sessions_of_whole : (genesis : Genesis) (L : List Command) (w : WholeValue) → w ≡ whole_after table_meaning genesis L
    → w.sessions ≡ sessions_of table_meaning genesis L
unfolding whole_after
sessions_of_whole genesis L w e = ap (λ (x : WholeValue). x.sessions) e

text_of_whole : (genesis : Genesis) (L : List Command) (w : WholeValue) → w ≡ whole_after table_meaning genesis L
    → w.text ≡ text_of table_meaning L
unfolding whole_after
text_of_whole genesis L w e = ap (λ (x : WholeValue). x.text) e

executed_of : (genesis : Genesis) (L : List Command) (v : RosterValue)
    → v ≡ roster_after genesis L → v.executed ≡ length L
unfolding roster_after
executed_of genesis L v e = ap (λ (x : RosterValue). x.executed) e

greatest_of_roster : (genesis : Genesis) (L : List Command) (v : RosterValue) → v ≡ roster_after genesis L
    → v.greatest ≡ (roster_of genesis L).greatest
unfolding roster_after
greatest_of_roster genesis L v e = ap (λ (x : RosterValue). x.greatest) e

changed_of_roster : (genesis : Genesis) (L : List Command) (v : RosterValue) → v ≡ roster_after genesis L
    → v.changed ≡ last_change genesis L
unfolding roster_after
changed_of_roster genesis L v e = ap (λ (x : RosterValue). x.changed) e

-- ---- what is kept

abbrev pub kept_in : WholeValue → Kept
kept_in w = record {
  executed = w.roster.executed;
  incoming = w.roster.sets;
  greatest = w.roster.greatest;
  changed = w.roster.changed;
  sessions = w.sessions;
  locks = w.text;
}

pub is_kept : (genesis : Genesis) (L : List Command) (w : WholeValue) → AllByRecursion IsCommand L
    → SumsUp table_meaning genesis L w → IsKeptOf genesis L (kept_in w)
is_kept genesis L w fit sums =
    let roster = roster_of_whole genesis L w sums in
    let sessions = sessions_of_whole genesis L w sums in
    let now = leaves genesis L in
    let last : (s : Session) → Contains w.sessions s
    → last_session table_meaning genesis L s.client ≡ Some s =
    λ s c. sessions_are_last table_meaning genesis L s (subst (λ (l : List Session). Contains l s) sessions c) in
    record {
      executed = executed_of genesis L w.roster roster;
      as_many = length_of_window genesis L w.roster roster;
      incoming = λ k lt. set_of_window genesis L w.roster k roster lt
          ∙ ap Some (sym (members_are genesis L (length L + 1 + k)));
      greatest = greatest_of_roster genesis L w.roster roster ∙ ap (λ (x : PlainRoster). x.greatest) now.roster;
      changed = changed_of_roster genesis L w.roster roster ∙ now.changed;
      answers = λ s c. answered genesis L s.client s.number s.answer fit
          (last_is_replied table_meaning genesis L s.client s (last s c));
      last = λ s c q used same. at_most_all L s.client s.number q
          (last_is_greatest table_meaning genesis L s.client s (last s c)).greatest used same;
      clients = λ q used.
          let k = client_kept genesis L q (last_session table_meaning genesis L q.client) refl used in
          (k.0, subst (λ (l : List Session). Contains l k.0) (sym sessions) k.1, k.2);
      rise = subst Rise (sym sessions) (sessions_rise table_meaning genesis L);
      locks = text_of_whole genesis L w sums ∙ text_of-text L fit ∙ ap table_text now.locks;
    }

pub has_executed : (genesis : Genesis) (sent : List Datagram) (r : ReplicaValue) (L : List Command)
    → Chosen genesis sent L → SumsUp table_meaning genesis L r.node.learner.whole → HasExecuted genesis sent r
has_executed genesis sent r L chosen sums =
    (L, is_chosen genesis sent L chosen, is_kept genesis L r.node.learner.whole (all_fit genesis sent L chosen) sums)

-- ---- snapshots

pub is_snapshot : (genesis : Genesis) (L : List Command) → AllByRecursion IsCommand L
    → IsSnapshot genesis L (text table_meaning genesis L)
is_snapshot genesis L fit = let w = whole_after table_meaning genesis L in
    (kept_in w, is_kept genesis L w fit refl, refl)

pub all_taken : (n : ℕ) (L : List Command) → AllByRecursion IsCommand L → AllByRecursion IsCommand (take n L)
all_taken zero L all = tt
all_taken (suc n) [] all = tt
all_taken (suc n) (c ∷ L) all = (all.0, all_taken n L all.1)

pub is_part : (genesis : Genesis) (L : List Command) (p : PartValue) → AllByRecursion IsCommand L
    → BearsOutPart table_meaning genesis L p → IsPart genesis L p
is_part genesis L p fit b = record {
  reached = b.reaches;
  snapshot = text table_meaning genesis (take p.position L);
  is_snapshot = is_snapshot genesis (take p.position L) (all_taken p.position L fit);
  total = b.total;
  piece = b.slice;
}
