-- What receives find, one after another.
use Rattle.std.proofs.Common.{◌≡◌, ◌∙◌, ◌+◌, ◌≤◌, ◌++◌, ◌∷◌, [], ℕ, List, Option, Some, None, length, arith, refl, sym}
use Rattle.std.proofs.Common.{ap, subst, append_assoc, append-nil, length-append}
use Rattle.std.specs.declared.net.socket_addr.SocketAddr.{SocketAddr}
use Rattle.lk_transport.specs.Streams.{Stream, Receives, ReceivesAll, ReceivesOne, ComeWithin, first_of, frames_in}
use Rattle.lk_transport.specs.Streams.{listed}

abbrev Frame : Type 0
Frame = SocketAddr × List ℕ

-- the next one finds it
pub receives_next : (found : Option Frame) (old new : Stream) → Receives found old new → first_of old ≡ found
receives_next found [] new r = sym r.0
receives_next found (head ∷ later) new r = sym r.0

-- the datagrams of a stream are what a receive finds, and those of the rest
pub receives_frames : (found : Option Frame) (old new : Stream) → Receives found old new
    → frames_in old ≡ listed found ++ frames_in new
receives_frames found [] new r =
    sym ((λ i. listed (r.0 i) ++ frames_in (r.1 i)))
receives_frames found (head ∷ later) new r = sym (λ i. listed (r.0 i) ++ frames_in (r.1 i))

all_frames : (found : List (Option Frame)) (old new : Stream) → ReceivesAll found old new
    → frames_in old ≡ frames_in found ++ frames_in new
all_frames [] old new same = ap frames_in (sym same)
all_frames (x ∷ xs) old new r =
    receives_frames x old r.0 r.1
    ∙ ap (λ (l : List Frame). listed x ++ l) (all_frames xs r.0 new r.2)
    ∙ sym (append_assoc (listed x) (frames_in xs) (frames_in new))

pub all_both : (xs ys : List (Option Frame)) (old mid new : Stream) → ReceivesAll xs old mid → ReceivesAll ys mid new
    → ReceivesAll (xs ++ ys) old new
all_both [] ys old mid new a b = subst (λ (s : Stream). ReceivesAll ys s new) a b
all_both (x ∷ xs) ys old mid new a b = (a.0, a.1, all_both xs ys a.0 mid new a.2 b)

pub frames_both : (xs ys : Stream) → frames_in (xs ++ ys) ≡ frames_in xs ++ frames_in ys
frames_both [] ys = refl
frames_both (x ∷ xs) ys =
    ap (λ (l : List Frame). listed x ++ l) (frames_both xs ys)
    ∙ sym (append_assoc (listed x) (frames_in xs) (frames_in ys))

-- ---- frames within so many receives

-- none, in none
pub come_none : (most : ℕ) (old new : Stream) → new ≡ old → ComeWithin most [] old new
come_none most old new same = record { found = []; few = omega arith; are = refl; takes = same }

-- what one receive finds
pub come_one : (found : Option Frame) (old new : Stream) → Receives found old new → ComeWithin 1 (listed found) old new
come_one found old new r = record {
  found = found ∷ [];
  few = omega arith;
  are = sym (append-nil (listed found));
  takes = (new, r, refl);
}

-- and then others
pub come_more : {most more : ℕ} {xs ys : List Frame} {old mid new : Stream} → ComeWithin most xs old mid
    → ComeWithin more ys mid new
    → ComeWithin (most + more) (xs ++ ys) old new
come_more {xs = xs} {ys = ys} {old = old} {mid = mid} {new = new} a b = record {
  found = a.found ++ b.found;
  few = omega (arith, a.few, b.few, length-append a.found b.found);
  are = (λ i. a.are i ++ b.are i) ∙ sym (frames_both a.found b.found);
  takes = all_both a.found b.found old mid new a.takes b.takes;
}

-- in as many or fewer
pub come_wider : {most more : ℕ} {frames : List Frame} {old new : Stream} → most ≤ more → ComeWithin most frames old new
    → ComeWithin more frames old new
come_wider le c = record { found = c.found; few = omega (arith, le, c.few); are = c.are; takes = c.takes }

-- they are the first of those to come
pub come_first : {most : ℕ} {frames : List Frame} {old new : Stream} → ComeWithin most frames old new
    → frames_in old ≡ frames ++ frames_in new
come_first {old = old} {new = new} c =
    all_frames c.found old new c.takes ∙ ap (λ (l : List Frame). l ++ frames_in new) (sym c.are)

-- in one receive, that found it
only_one : (found : List (Option Frame)) (frame : Frame) (old new : Stream) → length found ≤ 1
    → frame ∷ [] ≡ frames_in found → ReceivesAll found old new → Receives (Some frame) old new
only_one [] frame old new few are takes = absurd (cc are)
only_one (None ∷ []) frame old new few are takes = absurd (cc are)
only_one (Some d ∷ []) frame old new few are takes =
    subst (λ (s : Stream). Receives (Some frame) old s) (sym takes.2)
    (subst (λ (x : Frame). Receives (Some x) old takes.0) (sym (cc are)) takes.1)
only_one (x ∷ y ∷ more) frame old new few are takes = absurd (omega (arith, few))

pub receives_one : {frame : Frame} {old new : Stream} → ComeWithin 1 (frame ∷ []) old new
    → Receives (Some frame) old new
receives_one {frame = frame} {old = old} {new = new} c = only_one c.found frame old new c.few c.are c.takes
