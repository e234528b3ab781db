-- How long a packed state is.
use Rattle.std.proofs.Common.{◌≡◌, ℕ, ◌+◌, ◌*◌, ◌≤◌, List, [], ◌∷◌, ◌++◌, length, arith, length-append}
use Rattle.std.specs.List.{flat_map, AllByRecursion}
use Rattle.std.proofs.Math.Nat.{suc-mul}
use Rattle.std.proofs.lemmas.List.Concat.{flat_map-cons}
use Rattle.lk_types.specs.declared.answer.Answer.{Answer}
use Rattle.lk_types.specs.declared.answer.Answer.TheVariants.{Granted, Busy, Free, Held, Shared, HeldShared}
use Rattle.lk_types.specs.declared.member.Member.{Member}
use Rattle.lk_types.specs.Rosters.{IsMember}
use Rattle.lk_codec.specs.Fields.{one, two, four, eight, member, members, answer}
use Rattle.lk_codec.proofs.Spellings.{length-two, length-four, length-eight}
use Rattle.lk_members.specs.Sets.{IsSet}
use Rattle.lk_members.specs.Windows.{RosterValue, IsRoster}
use Rattle.lk_state.specs.Sessions.{Session, IsSession, AreSessions}
use Rattle.lk_state.specs.States.{WholeValue}
use Rattle.lk_state.specs.Packed.{sets_text, roster_text, session_text, sessions_text, packed, IsWhole}
use Rattle.lk_state.proofs.SessionLaws.{few_sessions}

length-answer : (a : Answer) → length (answer a) ≤ 11
length-answer (Granted fence) = omega (arith, length-eight fence)
length-answer (Busy holder fence) =
    omega (arith, length-append (two holder) (eight fence), length-two holder, length-eight fence)
length-answer (Free fence) = omega (arith, length-eight fence)
length-answer (Held holder fence) =
    omega (arith, length-append (two holder) (eight fence), length-two holder, length-eight fence)
length-answer (Shared fence) = omega (arith, length-eight fence)
length-answer (HeldShared count fence) = omega (arith, length-append (one count) (eight fence), length-eight fence)
length-answer _ = omega arith

length-member : (m : Member) → length (member m) ≡ 6
length-member m = omega (arith, length-append (four m.node) (two m.port), length-four m.node, length-two m.port)

length-session : (s : Session) → length (session_text s) ≤ 21
length-session s =
    omega (
      arith,
      length-append (two s.client) (eight s.number ++ answer s.answer),
      length-append (eight s.number) (answer s.answer),
      length-two s.client,
      length-eight s.number,
      length-answer s.answer,
    )

module _ {X : Type 0} where
  -- pieces of at most k bytes
  length-pieces : (P : X → Type 0) (f : X → List ℕ) (k : ℕ) → ((x : X) → P x → length (f x) ≤ k) → (xs : List X)
      → AllByRecursion P xs → length (flat_map f xs) ≤ length xs * k
  length-pieces P f k short [] all = omega arith
  length-pieces P f k short (x ∷ xs) all =
      let rest = length-pieces P f k short xs all.1 in
      let here = short x all.0 in
      rw (flat_map-cons f x xs, length-append (f x) (flat_map f xs), suc-mul (length xs) k) (omega arith)

length-set : (set : List Member) → IsSet set → length (members set) ≤ 43
length-set set h =
    let few = h.0.1 in
    let pieces : length (flat_map member set) ≤ length set * 6 =
    length-pieces IsMember member 6 (λ m _. omega (arith, length-member m)) set h.1 in
    omega (arith, length-append (one (length set)) (flat_map member set))

length-roster : (r : RosterValue) → IsRoster r → length (roster_text r) ≤ 21 + 43 * length r.sets
length-roster r h =
    let pieces : length (flat_map members r.sets) ≤ length r.sets * 43 =
    length-pieces IsSet members 43 length-set r.sets h.sets.1 in
    omega (
      arith,
      length-append (eight r.executed) (sets_text r.sets ++ (four r.greatest ++ eight r.changed)),
      length-append (sets_text r.sets) (four r.greatest ++ eight r.changed),
      length-append (one (length r.sets)) (flat_map members r.sets),
      length-append (four r.greatest) (eight r.changed),
      length-eight r.executed,
      length-four r.greatest,
      length-eight r.changed,
    )

length-sessions : (l : List Session) → AreSessions l → length (sessions_text l) ≤ 5378
length-sessions l h =
    let few = few_sessions l h in
    let pieces : length (flat_map session_text l) ≤ length l * 21 =
    length-pieces IsSession session_text 21 (λ s _. length-session s) l h.0 in
    omega (arith, length-append (two (length l)) (flat_map session_text l), length-two (length l))

-- so it has at most 36,030 bytes beside the sets of members, and the machine has 30,631 of these
pub length-packed : (IsText : List ℕ → Type 0) → ((t : List ℕ) → IsText t → length t ≤ 30631) → (w : WholeValue)
    → IsWhole IsText w → length (packed w) ≤ 36030 + 43 * length w.roster.sets
length-packed IsText short w h =
    omega (
      arith,
      length-append (roster_text w.roster ++ sessions_text w.sessions) w.text,
      length-append (roster_text w.roster) (sessions_text w.sessions),
      length-roster w.roster h.roster,
      length-sessions w.sessions h.sessions,
      short w.text h.text,
    )

-- with 64 sets it has at most 38,782
pub length-all-packed : (IsText : List ℕ → Type 0) → ((t : List ℕ) → IsText t → length t ≤ 30631) → (w : WholeValue)
    → IsWhole IsText w → length (packed w) ≤ 38782
length-all-packed IsText short w h = omega (arith, length-packed IsText short w h, h.roster.sets.0)

-- and some: how many positions are executed has 8
pub packed_is_some : (w : WholeValue) → 1 ≤ length (packed w)
packed_is_some w =
    omega (
      arith,
      length-append (roster_text w.roster ++ sessions_text w.sessions) w.text,
      length-append (roster_text w.roster) (sessions_text w.sessions),
      length-append (eight w.roster.executed)
          (sets_text w.roster.sets ++ (four w.roster.greatest ++ eight w.roster.changed)),
      length-eight w.roster.executed,
    )
