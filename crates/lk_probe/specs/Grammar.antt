-- The bytes of a probe and of a report, and the ranges of their parts.
use Rattle.std.specs.Prelude.{◌≡◌, ℕ, ◌+◌, ◌-◌, ◌<◌, ◌^◌, Bool, true, false, is_some, Option, Some, None, List, [], ◌∷◌}
use Rattle.std.specs.Prelude.{◌++◌, length, replicate, IfSome}
use Rattle.std.specs.List.{AllByRecursion}
use Rattle.lk_types.specs.Ranges.{IsNode, IsClient, IsTotal}
use Rattle.lk_types.specs.Ballots.{IsBallot}
use Rattle.lk_types.specs.Rosters.{IsMember, AreMembers}
use Rattle.lk_codec.specs.Fields.{one, two, four, eight, ballot, members}
use Rattle.lk_auth.specs.Seals.{no_genesis}
use Rattle.lk_probe.specs.declared.neighbours.Origin.{Origin}
use Rattle.lk_probe.specs.declared.reach.Reach.{Reach}
use Rattle.lk_probe.specs.declared.state_digest.StateDigest.{StateDigest}
use Rattle.lk_probe.specs.declared.status.Version.{Version}
use Rattle.lk_probe.specs.declared.status.Identity.{Identity}
use Rattle.lk_probe.specs.declared.status.Leadership.{Leadership}
use Rattle.lk_probe.specs.declared.status.Progress.{Progress}
use Rattle.lk_probe.specs.declared.status.Traffic.{Traffic}
use Rattle.lk_probe.specs.declared.status.Status.{Status}
use Rattle.lk_probe.specs.declared.probe.Probe.{Probe}
use Rattle.lk_probe.specs.declared.probe.Report.{Report}

-- the bytes of a probe in form 1, and of a report
abbrev pub probe_length : ℕ
probe_length = 174

-- how many more form 2 has
abbrev pub reach_length : ℕ
reach_length = 32

-- a number that may not be there: 0 where it is not
abbrev pub or_zero : Option ℕ → ℕ
or_zero None = 0
or_zero (Some n) = n

-- 1 where it is so, else 0
abbrev pub flag : Bool → ℕ
flag true = 1
flag false = 0

abbrev pub version : Version → List ℕ
version v = one v.major ++ (one v.minor ++ one v.patch)

abbrev pub identity : Identity → List ℕ
identity i = i.genesis ++ (version i.program ++ (one i.format ++ one i.table))

abbrev pub leadership : Leadership → List ℕ
leadership l = one (flag l.leads) ++ (four (or_zero l.leader) ++ (eight l.silence ++ ballot l.promised))

abbrev pub progress : Progress → List ℕ
progress p = eight p.executed ++ (eight p.snapshot ++ one p.pending)

abbrev pub traffic : Traffic → List ℕ
traffic t = two t.waiting ++ (eight t.unread ++ (eight t.unsent ++ eight t.ticks))

abbrev pub status : Status → List ℕ
status s = identity s.identity
    ++ (leadership s.leadership ++ (progress s.progress ++ (traffic s.traffic ++ members s.members)))

-- how many members a node hears, plus 1; 0 if it does not find that out
abbrev pub heard_number : Option ℕ → ℕ
heard_number None = 0
heard_number (Some n) = n + 1

-- the position, and the digest of the state there
abbrev pub state_digest : StateDigest → List ℕ
state_digest d = eight d.position ++ d.digest

abbrev pub reach : Reach → List ℕ
reach t = two (heard_number t.heard)
    ++ (one (flag t.reads_bundles)
    ++ (one (flag t.sends_bundles) ++ (two t.watches ++ (two t.names ++ state_digest t.state))))

-- the number of the form: the second has a reach, or asks for one
abbrev pub form : Bool → ℕ
form false = 1
form true = 2

-- two letters and the form, and which of both it is: 9 a probe, 10 a report
abbrev pub front : ℕ → ℕ → List ℕ → List ℕ
front f k fields = 76 ∷ 80 ∷ f ∷ k ∷ fields

-- the node that asks, if one does
abbrev pub node_in : Option Origin → Option ℕ
node_in None = None
node_in (Some o) = Some o.node

-- the digest of its genesis, or zeros
abbrev pub genesis_in : Option Origin → List ℕ
genesis_in None = no_genesis
genesis_in (Some o) = o.genesis

-- the cluster, the node that asks, the client, the token, and the digest of the genesis of the node
abbrev pub probe : Probe → List ℕ
probe p = eight p.cluster
    ++ (four (or_zero (node_in p.origin)) ++ (two (or_zero p.client) ++ (eight p.token ++ genesis_in p.origin)))

-- the cluster, the node that answers, the client and the token of the probe, and the node's status
abbrev pub report : Report → List ℕ
report r = eight r.cluster ++ (four r.node ++ (two (or_zero r.client) ++ (eight r.token ++ status r.status)))

-- with zeros up to that length
unfoldable pub padded : List ℕ → List ℕ
padded bytes = bytes ++ replicate (probe_length - length bytes) 0

-- what a probe of form 2 has in the place of a reach: zeros
abbrev pub blank : Bool → List ℕ
blank false = []
blank true = replicate reach_length 0

abbrev pub probe_spelling : Probe → List ℕ
probe_spelling p = padded (front (form p.asks_reach) 9 (probe p)) ++ blank p.asks_reach

-- the reach, if there is one
abbrev pub reach_in : Option Reach → List ℕ
reach_in None = []
reach_in (Some t) = reach t

abbrev pub report_spelling : Report → List ℕ
report_spelling r = padded (front (form (is_some r.reach)) 10 (report r)) ++ reach_in r.reach

-- ---- validity

abbrev pub IsByte : ℕ → Type 0
IsByte n = n < 256

abbrev pub IsVersion : Version → Type 0
IsVersion v = IsByte v.major × IsByte v.minor × IsByte v.patch

abbrev pub IsIdentity : Identity → Type 0
IsIdentity i = (length i.genesis ≡ 32) × IsVersion i.program × IsByte i.format × IsByte i.table

abbrev pub IsLeadership : Leadership → Type 0
IsLeadership l = IfSome l.leader IsNode × (l.silence < 2 ^ 64) × IsBallot l.promised

abbrev pub IsProgress : Progress → Type 0
IsProgress p = IsTotal p.executed × IsTotal p.snapshot × IsByte p.pending

abbrev pub IsTraffic : Traffic → Type 0
IsTraffic t = (t.waiting < 2 ^ 16) × (t.unread < 2 ^ 64) × (t.unsent < 2 ^ 64) × (t.ticks < 2 ^ 64)

abbrev pub IsStatus : Status → Type 0
IsStatus s = IsIdentity s.identity × IsLeadership s.leadership × IsProgress s.progress × IsTraffic s.traffic
    × AreMembers s.members × AllByRecursion IsMember s.members

abbrev pub IsOrigin : Origin → Type 0
IsOrigin o = IsNode o.node × (length o.genesis ≡ 32)

abbrev pub IsProbe : Probe → Type 0
IsProbe p = (p.cluster < 2 ^ 64) × IfSome p.origin IsOrigin × IfSome p.client IsClient × (p.token < 2 ^ 64)

abbrev pub IsStateDigest : StateDigest → Type 0
IsStateDigest d = IsTotal d.position × (length d.digest ≡ 16)

abbrev pub IsReach : Reach → Type 0
IsReach t = IfSome t.heard IsByte × (t.watches < 2 ^ 16) × (t.names < 2 ^ 16) × IsStateDigest t.state

abbrev pub IsReport : Report → Type 0
IsReport r = (r.cluster < 2 ^ 64) × IsNode r.node × IfSome r.client IsClient × (r.token < 2 ^ 64) × IsStatus r.status
    × IfSome r.reach IsReach

-- the grammar: the bytes are those of the probe
abbrev pub SpellsProbe : Probe → List ℕ → Type 0
SpellsProbe p bytes = IsProbe p × (bytes ≡ probe_spelling p)

-- the bytes are those of the report
abbrev pub SpellsReport : Report → List ℕ → Type 0
SpellsReport r bytes = IsReport r × (bytes ≡ report_spelling r)

-- ---- what belongs together

-- no digest was taken yet
abbrev pub no_digest : StateDigest
no_digest = record { position = 0; digest = replicate 16 0 }

-- how many members a node hears, if that is said
abbrev pub heard_of : Option Reach → Option ℕ
heard_of None = None
heard_of (Some t) = t.heard

-- the digest of its state that a report tells; none without a reach
abbrev pub digest_in : Option Reach → StateDigest
digest_in None = no_digest
digest_in (Some t) = t.state

-- the report answers that probe
pub record IsReportFor (p : Probe) (r : Report) : Type 0 where
  pub cluster : r.cluster ≡ p.cluster
  pub client : r.client ≡ p.client
  pub token : r.token ≡ p.token
