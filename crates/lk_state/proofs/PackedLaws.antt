-- A packed state is read as what its text spells.
use Rattle.std.proofs.Common.{◌≡◌, ℕ, ◌^◌, ◌<◌, ◌≤◌, true, leb, List, ◌++◌, length, Some, None, refl, ap, sym, ◌∙◌}
use Rattle.std.proofs.Common.{arith}
use Rattle.std.specs.List.{AllByRecursion}
use Rattle.lk_types.specs.Ranges.{IsNode, IsClient, IsCount, IsTotal}
use Rattle.lk_types.specs.Answers.{IsAnswer}
use Rattle.lk_types.specs.declared.answer.Answer.{Answer}
use Rattle.lk_types.specs.declared.member.Member.{Member}
use Rattle.lk_codec.specs.Fields.{one, two, four, eight, members, answer}
use Rattle.lk_codec.specs.Parser.{read_byte, tested}
use Rattle.lk_codec.specs.FieldReading.{is_from_1_to, read_two, read_node, read_client, read_count, read_total}
use Rattle.lk_codec.specs.FieldReading.{read_members, read_answer}
use Rattle.lk_codec.proofs.Spellings.{IsBytes, Reads, fitting, both_reads, made_reads, tested_reads, byte_reads}
use Rattle.lk_codec.proofs.Spellings.{some_is, counted_reads, two_reads, ranged_reads, limited_reads, node_reads}
use Rattle.lk_codec.proofs.Spellings.{client_reads, count_reads, total_reads, members_reads, answer_reads}
use Rattle.lk_members.specs.Sets.{IsSet, are_at_most}
use Rattle.lk_members.specs.Windows.{RosterValue, IsRoster}
use Rattle.lk_state.specs.Sessions.{Session, are_sessions_above, IsSession, AreSessions}
use Rattle.lk_state.specs.States.{WholeValue}
use Rattle.lk_state.specs.Packed.{sets_text, roster_text, session_text, sessions_text, Packs}
use Rattle.lk_state.specs.Reading.{read_sets, read_roster, read_session, read_sessions, read_front}
use Rattle.lk_state.proofs.SessionLaws.{few_sessions}

abbrev IsIn : ℕ → ℕ → Type 0
IsIn most n = (1 ≤ n) × (n ≤ most)

sets_reads : Reads read_sets sets_text
    (λ (sets : List (List Member)). IsIn 64 (length sets) × AllByRecursion IsSet sets)
unfolding read_sets
sets_reads = counted_reads (tested (is_from_1_to 64) read_byte) one (IsIn 64)
    (ranged_reads 64 256 (omega arith) read_byte one byte_reads) read_members members IsSet members_reads

abbrev Parts : Type 0
Parts = ℕ × (List (List Member) × (ℕ × ℕ))

abbrev roster_from : Parts → RosterValue
roster_from r = record { executed = r.0; sets = r.1.0; greatest = r.1.1.0; changed = r.1.1.1 }

abbrev parts_of : RosterValue → Parts
parts_of v = (v.executed, (v.sets, (v.greatest, v.changed)))

abbrev ArePartsOf : RosterValue → Type 0
ArePartsOf v = IsTotal v.executed
    × ((IsIn 64 (length v.sets) × AllByRecursion IsSet v.sets) × (IsNode v.greatest × IsTotal v.changed))

roster_reads : Reads read_roster roster_text IsRoster
unfolding read_roster
roster_reads =
    fitting _ _ (λ (v : RosterValue). ArePartsOf v × (are_at_most v.greatest v.sets ≡ true)) IsRoster
    (λ v f. record {
      executed = f.0.0;
      sets = (f.0.1.0.0.1, f.0.1.0.1);
      some_set = f.0.1.0.0.0;
      greatest = f.0.1.1.0;
      bound = f.1;
      changed = f.0.1.1.1;
    })
    (λ v f. ((f.executed, (((f.some_set, f.sets.0), f.sets.1), (f.greatest, f.changed))), f.bound))
    (tested_reads (λ (v : RosterValue). are_at_most v.greatest v.sets) _ _ ArePartsOf
    (made_reads roster_from parts_of (λ x. refl) (λ y. refl) _ _ _
    (both_reads read_total eight IsTotal _ _ _ total_reads
    (both_reads read_sets sets_text _ _ _ _ sets_reads
    (both_reads read_node four IsNode read_total eight IsTotal node_reads total_reads)))))

session_reads : Reads read_session session_text IsSession
unfolding read_session
session_reads =
    made_reads (λ (s : ℕ × (ℕ × Answer)). let x : Session = record { client = s.0; number = s.1.0; answer = s.1.1 } in
    x) (λ (s : Session). (s.client, (s.number, s.answer))) (λ x. refl) (λ y. refl) _ _ _
    (both_reads read_client two IsClient _ _ _ client_reads
    (both_reads read_count eight IsCount read_answer answer IsAnswer count_reads answer_reads))

sessions_reads : Reads read_sessions sessions_text AreSessions
unfolding read_sessions
sessions_reads =
    fitting _ _ (λ (ss : List Session). ((length ss ≤ 256) × AllByRecursion IsSession ss)
    × (are_sessions_above 0 ss ≡ true)) AreSessions (λ ss f. (f.0.1, f.1)) (λ ss f. ((few_sessions ss f, f.0), f.1))
    (tested_reads (are_sessions_above 0)
    _ _ _ (counted_reads (tested (λ n. leb n 256) read_two) two (λ n. n ≤ 256)
    (limited_reads 256 (2 ^ 16) (omega arith) read_two two two_reads) read_session session_text
    IsSession session_reads))

abbrev front_text : RosterValue × List Session → List ℕ
front_text f = roster_text f.0 ++ sessions_text f.1

abbrev IsFront : RosterValue × List Session → Type 0
IsFront f = IsRoster f.0 × AreSessions f.1

front_reads : Reads read_front front_text IsFront
unfolding read_front
front_reads =
    both_reads read_roster roster_text IsRoster read_sessions sessions_text AreSessions roster_reads sessions_reads

-- what was read is what the bytes pack
pub unpacked : (IsText : List ℕ → Type 0) (bytes rest text : List ℕ) (r : RosterValue) (s : List Session)
    → IsBytes bytes → read_front bytes ≡ Some ((r, s), rest) → text ≡ rest → IsText rest
    → Packs IsText (record { roster = r; sessions = s; text = text }) bytes
unpacked IsText bytes rest text r s fits read is known =
    let took = front_reads.takes bytes (r, s) rest fits read in (
      record { roster = took.fits.0; sessions = took.fits.1; text = rw is known },
      took.parts ∙ ap (λ (t : List ℕ). front_text (r, s) ++ t) (sym is),
    )

-- the front of a packed state is read
front_of : (IsText : List ℕ → Type 0) (bytes : List ℕ) (w : WholeValue) → Packs IsText w bytes
    → read_front bytes ≡ Some ((w.roster, w.sessions), w.text)
front_of IsText bytes w p =
    ap read_front p.1 ∙ front_reads.again (w.roster, w.sessions) w.text (p.0.roster, p.0.sessions)

-- so bytes with no front pack nothing
pub no_front : (IsText : List ℕ → Type 0) (bytes : List ℕ) (w : WholeValue) → read_front bytes ≡ None
    → Packs IsText w bytes → ⊥
no_front IsText bytes w none p = let some = front_of IsText bytes w p in absurd cc

-- and what is read is what they pack
pub one_front : (IsText : List ℕ → Type 0) (bytes rest : List ℕ) (r : RosterValue) (s : List Session) (w : WholeValue)
    → read_front bytes ≡ Some ((r, s), rest) → Packs IsText w bytes
    → (record { roster = r; sessions = s; text = rest }) ≡ w
one_front IsText bytes rest r s w read p =
    let found : (RosterValue × List Session) × List ℕ = ((r, s), rest) in
    let packs : (RosterValue × List Session) × List ℕ = ((w.roster, w.sessions), w.text) in
    let same = some_is found packs (sym read ∙ front_of IsText bytes w p) in
    ap (λ (f : (RosterValue × List Session) × List ℕ). let x : WholeValue =
    record { roster = f.0.0; sessions = f.0.1; text = f.1 } in x) same

-- so bytes pack at most one state
pub one_packed : (IsText : List ℕ → Type 0) (bytes : List ℕ) (v w : WholeValue) → Packs IsText v bytes
    → Packs IsText w bytes → v ≡ w
one_packed IsText bytes v w first second =
    one_front IsText bytes v.text v.roster v.sessions w (front_of IsText bytes v first) second
