-- The session stands where its client belongs.
use Rattle.std.proofs.Common.{◌≡◌, ◌∙◌, ℕ, Bool, true, false, List, length, drop, ap, subst, sym, arith, lit<}
use Rattle.std.specs.Prelude.{slice_get, slice_set, insert}
use Rattle.std.specs.List.{refill}
use Rattle.std.proofs.lemmas.List.{length-set, take_at}
use Rattle.lk_state.specs.Sessions.{Session, is_at, with_session, AreSessions}
use Rattle.lk_state.proofs.SessionLaws.{before, replaced, inserted, room_for, with_session-fits}
use Rattle.lk_state.proofs.session.Sessions.put.Goals as goal

place_is : (client at : ℕ) (l m : List Session) → m ≡ l → at ≡ before client m → at ≡ before client l
place_is client at l m e is = is ∙ ap (before client) e

standing : (client at : ℕ) (l m : List Session) (r b : Bool) → m ≡ l → at ≡ before client l
    → r ≡ is_at client (slice_get m at) → r ≡ b → is_at client (slice_get l (before client l)) ≡ b
standing client at l m r b e is told which =
    ap (λ (k : ℕ). is_at client (slice_get l k)) (sym is)
    ∙ ap (λ (s : List Session). is_at client (slice_get s at)) (sym e) ∙ sym told ∙ which

-- what was written through the slice is the list with the session replaced
written : (s : Session) (at : ℕ) (l m : List Session) → m ≡ l → at ≡ before s.client l
    → is_at s.client (slice_get l (before s.client l)) ≡ true
    → refill (length l) l (slice_set m at s) ≡ with_session s l
written s at l m e is here =
    let w : List Session = slice_set m at s in
    let len : length w ≡ length l = length-set m at s ∙ ap length e in
    take_at w (drop (length w) l) (length l) len ∙ ap (λ (x : List Session). slice_set x at s) e
    ∙ ap (λ (k : ℕ). slice_set l k s) is ∙ replaced s l here

added : (s : Session) (at : ℕ) (l new : List Session) → new ≡ insert l at s → at ≡ before s.client l
    → is_at s.client (slice_get l (before s.client l)) ≡ false → new ≡ with_session s l
added s at l new e is here = e ∙ ap (λ (k : ℕ). insert l k s) is ∙ inserted s l here

pub insert-requires : goal.insert-requires
insert-requires c =
    let s : Session = c.args.session.now in
    let l : List Session = c.self.inside.list.items in
    let place = place_is s.client c.index_of-at.result l c.as_slice.result.now c.as_slice.ensures.value
    c.index_of-at.ensures.index in
    let absent = standing s.client c.index_of-at.result l c.as_slice-2.result.now c.is_session_at.result false
    c.as_slice-2.ensures.value place c.is_session_at.ensures c.if-is_session_at.false in
    let within = c.index_of-at.ensures.within in
    (lit< tt, (omega (arith, ap length c.as_slice.ensures.value), room_for s l c.facts.ensures c.self.invariant absent))

pub returns-else-is_session_at : goal.returns-else-is_session_at
returns-else-is_session_at c =
    let s : Session = c.args.session.now in
    let l : List Session = c.self.inside.list.items in
    let place = place_is s.client c.index_of-at.result l c.as_slice.result.now c.as_slice.ensures.value
    c.index_of-at.ensures.index in
    let absent = standing s.client c.index_of-at.result l c.as_slice-2.result.now c.is_session_at.result false
    c.as_slice-2.ensures.value place c.is_session_at.ensures c.if-is_session_at.false in
    added s c.index_of-at.result l c.insert.new.self.items c.insert.ensures.items place absent
    ∙ ap (with_session s) c.self.view_is

pub invariant_of-self-else-is_session_at : goal.invariant_of-self-else-is_session_at
invariant_of-self-else-is_session_at c =
    let s : Session = c.args.session.now in
    let l : List Session = c.self.inside.list.items in
    let place = place_is s.client c.index_of-at.result l c.as_slice.result.now c.as_slice.ensures.value
    c.index_of-at.ensures.index in
    let absent = standing s.client c.index_of-at.result l c.as_slice-2.result.now c.is_session_at.result false
    c.as_slice-2.ensures.value place c.is_session_at.ensures c.if-is_session_at.false in
    rw (added s c.index_of-at.result l c.insert.new.self.items c.insert.ensures.items place absent)
    (with_session-fits s l c.facts.ensures c.self.invariant)

pub returns-then-is_session_at : goal.returns-then-is_session_at
returns-then-is_session_at c =
    let s : Session = c.args.session.now in
    let l : List Session = c.self.inside.list.items in
    let place = place_is s.client c.index_of-at.result l c.as_slice.result.now c.as_slice.ensures.value
    c.index_of-at.ensures.index in
    let here = standing s.client c.index_of-at.result l c.as_slice-2.result.now c.is_session_at.result true
    c.as_slice-2.ensures.value place c.is_session_at.ensures c.if-is_session_at.true in
    written s c.index_of-at.result l c.deref_mut.result.now c.deref_mut.ensures.value place here
    ∙ ap (with_session s) c.self.view_is

pub invariant_of-self : goal.invariant_of-self
invariant_of-self c =
    let s : Session = c.args.session.now in
    let l : List Session = c.self.inside.list.items in
    let place = place_is s.client c.index_of-at.result l c.as_slice.result.now c.as_slice.ensures.value
    c.index_of-at.ensures.index in
    let here = standing s.client c.index_of-at.result l c.as_slice-2.result.now c.is_session_at.result true
    c.as_slice-2.ensures.value place c.is_session_at.ensures c.if-is_session_at.true in
    subst AreSessions (sym (written s c.index_of-at.result l c.deref_mut.result.now c.deref_mut.ensures.value place
    here)) (with_session-fits s l c.facts.ensures c.self.invariant)
