-- Which reports justify the exit status of `locks status`.
use Rattle.std.specs.Prelude.{◌≡◌, ◌≢◌, ◌↔◌, ℕ, Bool, true, List, length, IsTrue}
use Rattle.std.specs.declared.net.socket_addr.SocketAddr.{SocketAddr}
use Rattle.lk_probe.specs.declared.probe.Report.{Report}
use Rattle.lk_transport.specs.Streams.{Stream}
use Rattle.lk_status.specs.Rounds.{AreHeard}
use Rattle.lk_status.specs.Verdicts.{IsServed, is_ready}
use Rattle.lk_status.specs.declared.target.Inquiry.{Inquiry}
use Rattle.lk_status_command.specs.declared.status.Plan.{Plan}

-- the cluster is served, and each target reports that it has executed the goal, whatever that was
abbrev pub IsReady : Inquiry → List Report → Type 0
IsReady i rs = (executed : ℕ) × (is_ready (length i.targets.items) executed rs ≡ true)

module _ {S : Type 0} (sent : S → List (SocketAddr × List ℕ)) (incoming : S → Stream) (failures : S → ℕ)
    (tells : Type 0) where
  -- the status that is printed: these reports are those of a round. It is served only if they show that, and are ready
  -- if that is waited for; without waiting it is served exactly if they show that
  pub record Shows (p : Plan) (served : Bool) (ended : S) : Type 0 where
    pub first : ℕ
    pub reports : List Report
    pub heard : AreHeard sent incoming failures p.inquiry first tells reports ended
    pub only : IsTrue served → IsServed reports
    pub exact : p.seconds ≡ 0 → (IsTrue served ↔ IsServed reports)
    pub ready : p.seconds ≢ 0 → IsTrue served → IsReady p.inquiry reports

  -- a round of reports was received that show that the cluster is served, and ready if that is waited for
  pub record IsShownServed (p : Plan) (ended : S) : Type 0 where
    pub first : ℕ
    pub reports : List Report
    pub heard : AreHeard sent incoming failures p.inquiry first tells reports ended
    pub served : IsServed reports
    pub ready : p.seconds ≢ 0 → IsReady p.inquiry reports
