-- An answer that a world has sent was noted.
use Rattle.std.proofs.Common.{◌≡◌, ◌∙◌, inl, inr, ℕ, zero, suc, ◌+◌, ◌<◌, ◌≤◌, ◌++◌}
use Rattle.std.proofs.Common.{nat_lt, Bool, true, false, cond, eqb}
use Rattle.std.proofs.Common.{List, [], ◌∷◌, Some, Contains, length, refl, ap, sym, subst, arith, length-append}
use Rattle.std.proofs.lemmas.List.Elements.{Contains-append_cases, Contains-append_left, Contains-append_right}
use Rattle.std.specs.List.{AllByRecursion}
use Rattle.lk_types.specs.Answers.{IsAnswer}
use Rattle.lk_types.specs.Commands.{IsCommand, IsRequest}
use Rattle.lk_types.specs.Geneses.{IsGenesis}
use Rattle.lk_types.specs.declared.command.Request.{Request as RequestValue}
use Rattle.lk_types.specs.declared.genesis.Genesis.{Genesis}
use Rattle.lk_store_format.specs.Entries.{IsStored}
use Rattle.lk_store_format.specs.Headers.{IsHeader}
use Rattle.lk_store_format.specs.Standings.{HasHeader}
use Rattle.lk_store_format.specs.declared.stored.Stored.{Stored}
use Rattle.lk_store_format.specs.declared.stored.Stored.TheVariants.{Base, Plain}
use Rattle.lk_messages.proofs.Spellings.{one_message}
use Rattle.lk_messages.specs.Grammar.{Spells}
use Rattle.lk_messages.specs.declared.message.Message.{Message}
use Rattle.lk_members.proofs.Memberships.{AllByRecursion-push}
use Rattle.lk_members.specs.Effects.{Command, Request}
use Rattle.lk_members.specs.Windows.{roster_after}
use Rattle.lk_agreement_laws.proofs.Histories.{chosen_fits, cons_cases, contains_more, only}
use Rattle.lk_agreement_laws.specs.Chosen.{Chosen, command_at}
use Rattle.lk_agreement_laws.specs.Datagrams.{Datagram}
use Rattle.lk_state.proofs.Wholes.{ran-whole_after, states_fit}
use Rattle.lk_state.specs.Meanings.{KeepsTexts, Meaning}
use Rattle.lk_state.specs.Packed.{IsWhole}
use Rattle.lk_state.specs.Runs.{after_request, ran, session_for}
use Rattle.lk_state.specs.Sessions.{IsSession, is_new, session_of, with_session}
use Rattle.lk_state.specs.States.{WholeValue, whole_after}
use Rattle.lk_state.specs.declared.session.Session.{Session}
use Rattle.lk_node_interface.specs.declared.note.Note.{Note}
use Rattle.lk_node_interface.specs.declared.note.Note.TheVariants as note
use Rattle.lk_node.specs.Leavings.{header_of}
use Rattle.lk_sim.specs.Traces.{told_in, told_of}
use Rattle.lk_sim_nodes.specs.Told.{NotesReplies, told_by}

-- ---- a note for each answer

pub noted : (ds : List Datagram) (notes : List Note) → NotesReplies ds notes → (d : Datagram) → Contains ds d
    → (x : Message) → Spells x d.bytes → (y : Note) → Contains (told_by x.content) y → Contains notes y
noted [] notes k d c x spells y told = absurd (omega (arith, c.1))
noted (e ∷ ds) notes k d c x spells y told = subst (λ (l : List Note). Contains l y) (sym k.3)
    (elim (cons_cases e ds d c) [
      | inl is ↦ Contains-append_left (told_by k.0.content) k.1 y
          (subst (λ (z : Message). Contains (told_by z.content) y)
          (one_message x k.0 d.bytes spells (subst (λ (f : Datagram). Spells k.0 f.bytes) is k.2)) told)
      | inr later ↦ Contains-append_right (told_by k.0.content) k.1 y (noted ds k.1 k.4 d later x spells y told)
    ])

pub from_trace : (trace : List Note) (y : Note) → Contains (told_in trace) y → Contains trace y
from_trace [] y c = absurd (omega (arith, c.1))
from_trace (x ∷ trace) y c = elim (Contains-append_cases (told_of x) (told_in trace) y c) [
  | inl here ↦ (0, omega arith, told_is x here)
  | inr later ↦ contains_more x trace y (from_trace trace y later)
]
  where
    told_is : (z : Note) → Contains (told_of z) y → z ≡ y
    told_is (note.Asked r) d = absurd (omega (arith, d.1))
    told_is (note.Counted node i set v) d = absurd (omega (arith, d.1))
    told_is (note.Ran node i v) d = absurd (omega (arith, d.1))
    told_is (note.Answered node client number answer) d = only (note.Answered node client number answer) y d
    told_is (note.Told node client number last) d = only (note.Told node client number last) y d

-- ---- an answer in its range

-- the header that the store of a node tells is in its range
pub header_fits : (es : List Stored) (more : List Stored) (genesis : Genesis) (n : ℕ)
    → HasHeader es (header_of genesis n) → AllByRecursion IsStored (es ++ more) → IsHeader (header_of genesis n)
header_fits [] more genesis n has all = absurd has
header_fits (Plain e ∷ es) more genesis n has all = absurd has
header_fits (Base b ∷ es) more genesis n has all = subst IsHeader has all.0.0.1

pub genesis_fits : (genesis : Genesis) (n : ℕ) → IsHeader (header_of genesis n) → IsGenesis genesis
genesis_fits genesis n h = (h.0, h.2, h.4, h.3)

all_of : (P : Command → Type 0) (L : List Command) → ((i : ℕ) (v : Command) → command_at L i ≡ Some v → P v)
    → AllByRecursion P L
all_of P [] each = tt
all_of P (c ∷ L) each = (each 1 c refl, all_of P L later)
  where
    later : (i : ℕ) (v : Command) → command_at L i ≡ Some v → P v
    later zero v at = absurd (cc at)
    later (suc i) v at = each (suc (suc i)) v at

in_sessions : (s : Session) (ss : List Session) → AllByRecursion IsSession (with_session s ss) → IsSession s
in_sessions s [] all = all.0
in_sessions s (t ∷ ss) all = by_tests (in_sessions s ss) (nat_lt s.client t.client) (eqb s.client t.client) all
  where
    by_tests : (AllByRecursion IsSession (with_session s ss) → IsSession s) → (a b : Bool)
        → AllByRecursion IsSession (cond a (s ∷ t ∷ ss) (cond b (s ∷ ss) (t ∷ with_session s ss))) → IsSession s
    by_tests rest true b each = each.0
    by_tests rest false true each = each.0
    by_tests rest false false each = rest each.1

length_is : (m : Meaning) (genesis : Genesis) (L : List Command) → (whole_after m genesis L).roster.executed ≡ length L
unfolding whole_after roster_after
length_is m genesis L = refl

-- the answer to a fresh request after a chosen list
pub answer_fits : (m : Meaning) (IsText : List ℕ → Type 0) → KeepsTexts IsText m → (genesis : Genesis)
    (sent : List Datagram) (L : List Command) (w : WholeValue) (r : RequestValue) → IsGenesis genesis
    → Chosen genesis sent L → w ≡ whole_after m genesis L → w.roster.executed < 281474976710656 → IsRequest r
    → is_new (session_of r.client w.sessions) r.number ≡ true → IsAnswer (session_for m w r).answer
answer_fits m IsText keeps genesis sent L w r began chosen sums short valid fresh =
    (in_sessions (session_for m w r) w.sessions served.sessions.0).1.1
  where
    all : AllByRecursion IsCommand (L ++ Request r ∷ [])
    all = AllByRecursion-push IsCommand L (Request r)
        (all_of IsCommand L (λ i v at. (chosen_fits genesis sent L chosen i v at).1)) valid

    reach : length (L ++ Request r ∷ []) ≤ 281474976710656
    reach =
        let longer : length (L ++ Request r ∷ []) ≡ length L + 1 = length-append L (Request r ∷ []) in
        omega (arith, short, longer, length_is m genesis L, ap (λ (x : WholeValue). x.roster.executed) sums)

    after_is : ran m (Request r) w ≡ whole_after m genesis (L ++ Request r ∷ [])
    after_is = ap (ran m (Request r)) sums ∙ ran-whole_after m genesis L (Request r)

    ran_is : ran m (Request r) w ≡ after_request m w (Some r)
    ran_is = rw fresh refl

    served : IsWhole IsText (after_request m w (Some r))
    served = subst (IsWhole IsText) (sym after_is ∙ ran_is)
        (states_fit IsText m keeps genesis (L ++ Request r ∷ []) began all reach)
