-- The lines of a status: one for each target, and one for the cluster.
use Rattle.std.specs.Prelude.{ℕ, ◌-◌, ◌*◌, ◌==◌, nat_eq, nat_lt, nat_le, Bool, true, false, Option, Some}
use Rattle.std.specs.Prelude.{None, List, []}
use Rattle.std.specs.Prelude.{◌∷◌, ◌++◌, length, codes, if◌then◌else◌}
use Rattle.std.specs.Cmp.Lexicographic.{pointwise}
use Rattle.std.specs.Fmt.{decimal}
use Rattle.std.specs.List.{flat_map}
use Rattle.std.specs.Net.Text.{ip_text}
use Rattle.std.specs.declared.net.ip_addr.IpAddr.{IpAddr}
use Rattle.lk_types.specs.BallotValue.{BallotValue}
use Rattle.lk_types.specs.Limits.{max_names}
use Rattle.lk_types.specs.declared.member.Member.{Member}
use Rattle.lk_probe.specs.Grammar.{heard_of}
use Rattle.lk_probe.specs.declared.probe.Report.{Report}
use Rattle.lk_status.specs.Measures.{executed_of}
use Rattle.lk_status.specs.Rounds.{report_of}
use Rattle.lk_status.specs.Targets.{target_address}
use Rattle.lk_status.specs.Verdicts.{seeks_votes, count_reporting, one_genesis}
use Rattle.lk_status.specs.declared.target.Inquiry.{Inquiry}
use Rattle.lk_status.specs.declared.target.Target.{Target}
use Rattle.lk_status_command.specs.Fields.{names_in, watches_in}
use Rattle.lk_status_command.specs.Tokens.{by_token}
use Rattle.lk_status_reasons.specs.Reasons.{is_member}

-- ---- counts

-- the words for a count: these for 1, else the others
abbrev pub one_or_many : ℕ → List ℕ → List ℕ → List ℕ
one_or_many count one many = if count == 1 then one else many

abbrev pub ticks_word : ℕ → List ℕ
ticks_word ticks = one_or_many ticks (codes "tick") (codes "ticks")

-- a count and its words after a front, unless it is 0
abbrev pub count_text : List ℕ → ℕ → List ℕ → List ℕ → List ℕ
count_text front count one many =
    if count == 0 then [] else codes ", " ++ (front ++ (decimal count ++ (32 ∷ one_or_many count one many)))

-- ---- of a node

-- whom it follows, and how many ticks ago it heard of that leader
abbrev pub heard_text : ℕ → ℕ → List ℕ
heard_text leader ticks =
    codes "follows " ++ (decimal leader
    ++ (codes ", heard " ++ (decimal ticks ++ (32 ∷ (ticks_word ticks ++ codes " ago")))))

-- for how many ticks it knows no leader
abbrev pub unled_text : ℕ → List ℕ
unled_text ticks = codes "knows no leader for " ++ (decimal ticks ++ (32 ∷ ticks_word ticks))

-- that a node is none of the members that it names, or else for how long it knows no leader
abbrev pub unled : Bool → ℕ → List ℕ
unled true ticks = unled_text ticks
unled false ticks = codes "is not a member"

abbrev pub alone_text : Report → List ℕ
alone_text r = unled (is_member r.node r.status.members) r.status.leadership.silence

-- whom a node follows
abbrev pub followed_text : Option ℕ → Report → List ℕ
followed_text (Some leader) r = heard_text leader r.status.leadership.silence
followed_text None r = alone_text r

abbrev pub following_text : Report → List ℕ
following_text r =
    if r.status.leadership.leads then codes "leads" else followed_text r.status.leadership.leader r

-- so many of this many members are heard, if they are no majority
abbrev pub few_text : Option ℕ → ℕ → List ℕ
few_text None count = []
few_text (Some heard) count =
    if nat_le (2 * heard) count then
    codes ", hears " ++ (decimal heard ++ (codes " of " ++ (decimal count ++ codes " members, no majority"))) else []

-- the members that a node hears, if they are no majority of those that it names, and it says it
abbrev pub hearing_text : Report → List ℕ
hearing_text r = few_text (heard_of r.reach) (length r.status.members)

abbrev pub leadership_text : Report → List ℕ
leadership_text r = if seeks_votes r then codes "seeks votes" else following_text r

-- how many positions fewer than these it has executed, if it has
abbrev pub behind_text : ℕ → ℕ → List ℕ
behind_text executed most =
    if nat_lt executed most then codes " (" ++ (decimal (most - executed) ++ codes " behind)") else []

abbrev pub promised_text : BallotValue → List ℕ
promised_text b = codes ", promised " ++ (decimal b.round ++ (46 ∷ decimal b.node))

abbrev pub executed_text : Report → List ℕ
executed_text r = codes ", executed " ++ decimal r.status.progress.executed

abbrev pub snapshot_text : Report → List ℕ
snapshot_text r = codes ", snapshot " ++ decimal r.status.progress.snapshot

abbrev pub progress_text : Report → ℕ → List ℕ
progress_text r most = executed_text r
    ++ (behind_text r.status.progress.executed most ++ (promised_text r.status.leadership.promised ++ snapshot_text r))

abbrev pub members_text : List Member → List ℕ
members_text ms = codes ", members" ++ flat_map (λ (m : Member). 32 ∷ decimal m.node) ms

-- what waits and what failed
abbrev pub traffic_text : Report → List ℕ
traffic_text r =
    count_text (codes "a change takes effect in ") r.status.progress.pending (codes "position") (codes "positions")
    ++ (count_text [] r.status.traffic.waiting (codes "request waits") (codes "requests wait")
    ++ count_text [] r.status.traffic.unsent (codes "send failed") (codes "sends failed"))

-- how many watches, unless there are none or it is not said
abbrev pub watches_text : Option ℕ → List ℕ
watches_text None = []
watches_text (Some watches) = if watches == 0 then [] else codes ", watches " ++ decimal watches

abbrev pub kept_text : Report → List ℕ
kept_text r = watches_text (watches_in r.reach)

-- its number and its port
abbrev pub name_text : ℕ → ℕ → List ℕ
name_text node port = codes "node " ++ (decimal node ++ (codes ", port " ++ (decimal port ++ codes ": ")))

abbrev pub node_line : ℕ → Report → ℕ → List ℕ
node_line port r most =
    name_text r.node port
    ++ (leadership_text r
    ++ (hearing_text r
    ++ (progress_text r most ++ (members_text r.status.members ++ (traffic_text r ++ (kept_text r ++ 10 ∷ []))))))

-- ---- of all

-- the node that was asked, if that is known
abbrev pub asked_node : Option ℕ → List ℕ
asked_node None = []
asked_node (Some node) = codes "node " ++ (decimal node ++ codes ", ")

-- the port and the address from which nothing came
abbrev pub silent_place : IpAddr → ℕ → List ℕ
silent_place address port =
    codes "port " ++ (decimal port ++ (codes ": no answer from " ++ (ip_text address ++ 10 ∷ [])))

-- the line of a target that has not answered
abbrev pub silent_line : Inquiry → Target → List ℕ
silent_line i t = asked_node t.node ++ silent_place (target_address i t) t.port

-- the line of a target, by its report
abbrev pub target_line : Inquiry → Target → Option Report → ℕ → List ℕ
target_line i t (Some r) most = node_line t.port r most
target_line i t None most = silent_line i t

-- a line for each target, the first by the report with this token, and each other by that with the next
abbrev pub target_lines : ℕ → Inquiry → List Report → ℕ → List ℕ
target_lines first i rs most = by_token (λ token t. target_line i t (report_of token rs) most) first i.targets.items

-- a node that names another genesis than the measure
abbrev pub stranger_word : Report → Report → List ℕ
stranger_word measure r =
    if pointwise nat_eq r.status.identity.genesis measure.status.identity.genesis then [] else 32 ∷ decimal r.node

abbrev pub strangers_text : Report → List Report → List ℕ
strangers_text measure rs =
    if one_genesis rs then [] else codes "; genesis differs:" ++ flat_map (stranger_word measure) rs

-- whether its table is raised
abbrev pub raised_text : Report → List ℕ
raised_text r = if nat_le 2 r.status.identity.table then codes "; raised" else []

-- the greater of two numbers, of those that there are
abbrev pub greater : Option ℕ → Option ℕ → Option ℕ
greater None other = other
greater (Some n) None = Some n
greater (Some n) (Some m) = if nat_lt n m then Some m else Some n

-- the greatest of this number and those of names that the reports say
abbrev pub most_names : Option ℕ → List Report → Option ℕ
most_names most [] = most
most_names most (r ∷ rs) = most_names (greater most (names_in r.reach)) rs

-- how many names the lock table has, if that is known
abbrev pub names_text : Option ℕ → List ℕ
names_text None = []
names_text (Some names) = codes "; names " ++ (decimal names ++ (codes " of " ++ decimal max_names))

-- how many of its members are up
abbrev pub majority_text : Report → List Report → List ℕ
majority_text measure rs =
    codes "majority: " ++ (decimal (count_reporting measure.status.members rs)
    ++ (codes " of " ++ (decimal (length measure.status.members) ++ codes " up")))

-- the line of the cluster, if any node reports
abbrev pub cluster_line : Option Report → List Report → List ℕ
cluster_line None rs = []
cluster_line (Some measure) rs =
    majority_text measure rs
    ++ (names_text (most_names None rs) ++ (raised_text measure ++ (strangers_text measure rs ++ 10 ∷ [])))

-- all of them, with the distance to the measure
abbrev pub status_text : ℕ → Inquiry → List Report → Option Report → List ℕ
status_text first i rs measure = target_lines first i rs (executed_of measure) ++ cluster_line measure rs
