-- One report more of a round, and one receive more.
use Rattle.std.proofs.Common.{◌≡◌, ℕ, ◌+◌, true, false, List, [], ◌∷◌, ◌++◌, Option, Some, None, refl, sym, subst}
use Rattle.std.specs.Prelude.{is_some}
use Rattle.std.specs.declared.net.socket_addr.SocketAddr.{SocketAddr}
use Rattle.lk_probe.specs.declared.probe.Report.{Report}
use Rattle.lk_status.specs.declared.target.Inquiry.{Inquiry}
use Rattle.lk_transport.specs.Streams.{Stream, Receives, next_of}
use Rattle.lk_status.specs.Rounds.{IsOfRound, AreOfRound, Adds, HearsReport, ProbesEach, ProbesAgain, ReceivesNext}
use Rattle.lk_status.specs.Rounds.{HearsOne, Reacts}
use Rattle.lk_status.specs.Rounds.{HearsOut}
use Rattle.lk_status.specs.Rounds.{IsRound}

-- nothing came, or what came was added
pub hears_none : (i : Inquiry) (first : ℕ) (next : Option (SocketAddr × List ℕ)) (rs : List Report) → next ≡ None
    → HearsReport i first next rs rs
hears_none i first next rs none = subst (λ (n : Option (SocketAddr
    × List ℕ)). HearsReport i first n rs rs) (sym none) refl

pub hears_some : (i : Inquiry) (first : ℕ) (next : Option (SocketAddr × List ℕ)) (d : SocketAddr × List ℕ)
    (old new : List Report) → next ≡ Some d → Adds i first d.1 old new → HearsReport i first next old new
hears_some i first next d old new some adds =
    subst (λ (n : Option (SocketAddr × List ℕ)). HearsReport i first n old new) (sym some) adds

pub one_more : (i : Inquiry) (first : ℕ) (rs : List Report) (r : Report) → AreOfRound i first rs → IsOfRound i first r
    → AreOfRound i first (rs ++ r ∷ [])
one_more i first [] r are is = (is, tt)
one_more i first (other ∷ rs) r are is = (are.0, one_more i first rs r are.1 is)

-- ---- a receive

pub received : (next last : Option (SocketAddr × List ℕ)) (old new : Stream) → Receives last old new → next ≡ last
    → Receives next old new
received next last old new comes is =
    subst (λ (n : Option (SocketAddr × List ℕ)). Receives n old new) (sym is) comes

module _ {S : Type 0} (sent : S → List (SocketAddr × List ℕ)) (incoming : S → Stream) (failures : S → ℕ)
    (i : Inquiry) (first : ℕ) where
  reacts_to_some : (next : Option (SocketAddr × List ℕ)) (heard : S) (old new : List Report) (before : S)
      (silences : ℕ) → is_some next ≡ true
      → Reacts sent incoming failures i first next heard
      (record { socket = before; reports = old; silences = silences })
      (record { socket = heard; reports = new; silences = silences })
  reacts_to_some None heard old new before silences some = absurd cc
  reacts_to_some (Some d) heard old new before silences some = (refl, refl)

  reacts_to_none : (next : Option (SocketAddr × List ℕ)) (heard asked : S) (old new : List Report) (before : S)
      (silences : ℕ) → is_some next ≡ false
      → ProbesAgain sent incoming failures i first new heard asked
      → Reacts sent incoming failures i first next heard
      (record { socket = before; reports = old; silences = silences })
      (record { socket = asked; reports = new; silences = silences + 1 })
  reacts_to_none None heard asked old new before silences none asks = (refl, asks)
  reacts_to_none (Some d) heard asked old new before silences none asks = absurd cc

  -- something came
  pub hears_some_one : (before heard : S) (old new : List Report) (silences : ℕ)
      → ReceivesNext sent incoming failures before heard → HearsReport i first (next_of incoming before) old new
      → is_some (next_of incoming before) ≡ true
      → HearsOne sent incoming failures i first (record { socket = before; reports = old; silences = silences })
      (record { socket = heard; reports = new; silences = silences })
  hears_some_one before heard old new silences receives hears some =
      record {
        heard = heard;
        receives = receives;
        hears = hears;
        reacts = reacts_to_some (next_of incoming before) heard old new before silences some;
      }

  -- nothing came
  pub hears_no_one : (before heard asked : S) (old new : List Report) (silences : ℕ)
      → ReceivesNext sent incoming failures before heard → HearsReport i first (next_of incoming before) old new
      → is_some (next_of incoming before) ≡ false
      → ProbesAgain sent incoming failures i first new heard asked
      → HearsOne sent incoming failures i first (record { socket = before; reports = old; silences = silences })
      (record { socket = asked; reports = new; silences = silences + 1 })
  hears_no_one before heard asked old new silences receives hears none asks =
      record {
        heard = heard;
        receives = receives;
        hears = hears;
        reacts = reacts_to_none (next_of incoming before) heard asked old new before silences none asks;
      }

  -- ---- a round

  -- it begins with no report and no silence
  pub round_of : {old asked new : S} {silent start rs : List Report} {zero silences : ℕ}
      → ProbesEach sent incoming failures i true first i.targets.items silent old asked
      → HearsOut sent incoming failures i first (record { socket = asked; reports = start; silences = zero })
      (record { socket = new; reports = rs; silences = silences })
      → silent ≡ [] → start ≡ [] → zero ≡ 0 → IsRound sent incoming failures i first rs old new
  round_of {old = old} {asked = asked} {new = new} {rs = rs} {zero = zero} {silences = silences} asks hears
      none empty never = record {
        asked = asked;
        silences = silences;
        asks =
            subst (λ (l : List Report). ProbesEach sent incoming failures i true first i.targets.items l old asked) none
            asks;
        hears = subst (λ (n : ℕ). HearsOut sent incoming failures i first
            (record { socket = asked; reports = []; silences = n })
            (record { socket = new; reports = rs; silences = silences })) never
            (subst (λ (l : List Report). HearsOut sent incoming failures i first
            (record { socket = asked; reports = l; silences = zero })
            (record { socket = new; reports = rs; silences = silences })) empty hears);
      }
