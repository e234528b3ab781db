-- The probe by which a node asks for the genesis of another one, and what it keeps of a report.
use Rattle.std.specs.Prelude.{◌≡◌, ℕ, false, List, Option, Some, None}
use Rattle.std.specs.declared.net.socket_addr.SocketAddr.{SocketAddr}
use Rattle.lk_probe.specs.Grammar.{SpellsReport, digest_in}
use Rattle.lk_probe.specs.declared.neighbours.Origin.{Origin}
use Rattle.lk_probe.specs.declared.probe.Probe.{Probe}
use Rattle.lk_probe.specs.declared.probe.Report.{Report}
use Rattle.lk_probe.specs.declared.reported.Reported.{Reported}

-- the probe of that node of the cluster: its number is the token too
abbrev pub question : ℕ → Origin → Probe
question cluster asker =
    record { cluster = cluster; origin = Some asker; client = None; token = asker.node; asks_reach = false }

-- a report of this cluster, which replies to a node
pub record IsForANode (c : ℕ) (r : Report) : Type 0 where
  pub cluster : r.cluster ≡ c
  pub client : r.client ≡ None

-- what is kept of a datagram that was received from there: what a report of the cluster names that replies to a node
abbrev pub IsReportedOf : ℕ → SocketAddr × List ℕ → Option Reported → Type 0
IsReportedOf cluster d None = (r : Report) → SpellsReport r d.1 → IsForANode cluster r → ⊥
IsReportedOf cluster d (Some t) =
    (r : Report) × SpellsReport r d.1 × IsForANode cluster r × (t.from ≡ d.0)
    × (t.reporter ≡ record { node = r.node; genesis = r.status.identity.genesis }) × (t.token ≡ r.token)
    × (t.state ≡ digest_in r.reach)
