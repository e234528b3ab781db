-- What is shown of a round.
use Rattle.std.specs.Prelude.{◌≡◌, ◌≢◌, ◌↔◌, ℕ, Bool, true, false, ◌&&◌, List, IsTrue}
use Rattle.std.proofs.lemmas.Bool.{false≢true}
use Rattle.std.specs.declared.net.socket_addr.SocketAddr.{SocketAddr}
use Rattle.lk_probe.specs.declared.probe.Report.{Report}
use Rattle.lk_transport.specs.Streams.{Stream}
use Rattle.lk_status.specs.Rounds.{AreHeard}
use Rattle.lk_status.specs.Verdicts.{IsServed}
use Rattle.lk_status_command.specs.Outcomes.{IsReady, Shows}
use Rattle.lk_status_command.specs.declared.status.Plan.{Plan}

module _ {S : Type 0} (sent : S → List (SocketAddr × List ℕ)) (incoming : S → Stream) (failures : S → ℕ)
    (tells : Type 0) (p : Plan) (ended : S) where
  -- served and ready, by the reports
  pub shows : (first : ℕ) (reports : List Report) (served ready : Bool)
      → AreHeard sent incoming failures p.inquiry first tells reports ended
      → (IsTrue served ↔ IsServed reports) → (p.seconds ≡ 0 → ready ≡ true)
      → (p.seconds ≢ 0 → IsTrue ready → IsReady p.inquiry reports)
      → Shows sent incoming failures tells p (served && ready) ended
  shows first reports true true heard is at_once waited =
      record { first = first; reports = reports; heard = heard; only = λ it. is.0 it; exact = λ at. is; ready = waited }
  shows first reports true false heard is at_once waited = record {
    first = first;
    reports = reports;
    heard = heard;
    only = λ it. absurd (false≢true it);
    exact = λ at. absurd (false≢true (at_once at));
    ready = λ waits it. absurd (false≢true it);
  }
  shows first reports false ready heard is at_once waited =
      record {
        first = first;
        reports = reports;
        heard = heard;
        only = λ it. is.0 it;
        exact = λ at. is;
        ready = λ waits it. absurd (false≢true it);
      }
