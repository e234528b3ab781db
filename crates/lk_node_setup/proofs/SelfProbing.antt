-- Whether a datagram comes back, receive by receive.
use Rattle.std.proofs.Common.{◌≡◌, ◌↔◌, ◌<◌, ◌+◌, ◌++◌, ◌∷◌, [], ℕ, Bool, true, false, List, Option, Some, None}
use Rattle.std.proofs.Common.{arith, length-append, refl, sym, subst}
use Rattle.std.specs.Prelude.{IsTrue}
use Rattle.std.specs.declared.net.socket_addr.SocketAddr.{SocketAddr}
use Rattle.lk_transport.specs.Streams.{Stream, Receives, frames_in, listed}
use Rattle.lk_transport.proofs.Streaming.{all_both, frames_both}
use Rattle.lk_node_setup.specs.SelfProbes.{AreOthers, ComesNext, ComesBack, StaysAway}

abbrev Frame : Type 0
Frame = SocketAddr × List ℕ

-- a datagram came
pub next_some : (frame : List ℕ) (d : Frame) (is : Bool) (old new : Stream) → (IsTrue is ↔ (d.1 ≡ frame))
    → Receives (Some d) old new → ComesNext frame is old new
next_some frame d true old new same comes =
    (d.0, subst (λ (bytes : List ℕ). Receives (Some (d.0, bytes)) old new) (same.0 refl) comes)
next_some frame d false old new same comes = (Some d, ((λ e. absurd (cc (same.1 e))), tt), comes)

-- none came
pub next_none : (frame : List ℕ) (old new : Stream) → Receives None old new → ComesNext frame false old new
next_none frame old new none = (None, tt, none)

others_both : (frame : List ℕ) (lost more : List Frame) → AreOthers frame lost → AreOthers frame more
    → AreOthers frame (lost ++ more)
others_both frame [] more others other = other
others_both frame (x ∷ xs) more others other = (others.0, others_both frame xs more others.1 other)

others_more : (frame : List ℕ) (lost : Stream) (found : Option Frame) → AreOthers frame (frames_in lost)
    → AreOthers frame (listed found) → AreOthers frame (frames_in (lost ++ found ∷ []))
others_more frame lost found others other =
    subst (λ (l : List Frame). AreOthers frame l) (sym (frames_both lost (found ∷ [])))
    (others_both frame (frames_in lost) (listed found ++ []) others (others_both frame (listed found) [] other tt))

-- nothing has come yet
pub away_first : (frame : List ℕ) (old new : Stream) → new ≡ old → StaysAway frame 0 old new
away_first frame old new same = record { lost = []; all = refl; others = tt; came = same }

-- one more receive did not bring it
pub away_more : {frame : List ℕ} {count : ℕ} {old mid new : Stream} → StaysAway frame count old mid
    → ComesNext frame false mid new → StaysAway frame (count + 1) old new
away_more {frame = frame} {old = old} {mid = mid} {new = new} s n = record {
  lost = s.lost ++ n.0 ∷ [];
  all = omega (arith, s.all, length-append s.lost (n.0 ∷ []));
  others = others_more frame s.lost n.0 s.others n.1;
  came = all_both s.lost (n.0 ∷ []) old mid new s.came (new, n.2, refl);
}

-- the next receive brought it
pub back_now : {frame : List ℕ} {count most : ℕ} {old mid new : Stream} → count < most
    → StaysAway frame count old mid → ComesNext frame true mid new → ComesBack frame most old new
back_now {mid = mid} fewer s n = record {
  lost = s.lost;
  few = omega (arith, fewer, s.all);
  others = s.others;
  mid = mid;
  earlier = s.came;
  from = n.0;
  came = n.1;
}
