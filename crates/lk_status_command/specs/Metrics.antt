-- The metrics of a status, in the text format of Prometheus.
use Rattle.std.specs.Prelude.{ℕ, Option, Some, None, Bool, List, [], ◌∷◌, ◌++◌, codes, flat_map}
use Rattle.std.specs.Fmt.{decimal}
use Rattle.std.specs.Net.Text.{ip_text}
use Rattle.std.specs.declared.net.ip_addr.IpAddr.{IpAddr}
use Rattle.lk_probe.specs.Grammar.{flag}
use Rattle.lk_probe.specs.declared.probe.Report.{Report}
use Rattle.lk_status.specs.Rounds.{has_token, report_of}
use Rattle.lk_status.specs.Targets.{target_address}
use Rattle.lk_status.specs.States.{is_rivalled, one_state}
use Rattle.lk_status.specs.Verdicts.{count_reporting, is_served, one_genesis}
use Rattle.lk_status.specs.declared.target.Inquiry.{Inquiry}
use Rattle.lk_status.specs.declared.target.Target.{Target}
use Rattle.lk_status_command.specs.Fields.{field_name, field_kind, field_help, field_value, all_fields}
use Rattle.lk_status_command.specs.Tokens.{by_token}
use Rattle.lk_status_command.specs.declared.field.Field.{Field}

-- the two lines that say what a metric is
abbrev pub head_text : List ℕ → List ℕ → List ℕ → List ℕ
head_text name kind help =
    codes "# HELP locks_" ++ (name ++ (32 ∷ (help ++ (codes "\n# TYPE locks_" ++ (name ++ (32 ∷ (kind ++ 10 ∷ [])))))))

-- ---- of the cluster

abbrev pub gauge_line : ℕ → List ℕ → ℕ → List ℕ
gauge_line cluster name value =
    codes "locks_"
    ++ (name ++ (codes "{cluster=\"" ++ (decimal cluster ++ (codes "\"} " ++ (decimal value ++ 10 ∷ [])))))

abbrev pub gauge_text : ℕ → List ℕ → List ℕ → ℕ → List ℕ
gauge_text cluster name help value = head_text name (codes "gauge") help ++ gauge_line cluster name value

abbrev pub served_text : ℕ → List Report → List ℕ
served_text cluster rs =
    gauge_text cluster (codes "served")
    (codes "Whether a majority follows a leader, and nobody tells another genesis.") (flag (is_served rs))

abbrev pub genesis_text : ℕ → List Report → List ℕ
genesis_text cluster rs =
    gauge_text cluster (codes "one_genesis") (codes "Whether all nodes tell one genesis.") (flag (one_genesis rs))

abbrev pub one_state_text : ℕ → List Report → List ℕ
one_state_text cluster rs =
    gauge_text cluster (codes "one_state") (codes "Whether no two nodes hold different states at one position.")
    (flag (one_state rs))

-- how many members of the measure report
abbrev pub members_up : Option Report → List Report → ℕ
members_up None rs = 0
members_up (Some measure) rs = count_reporting measure.status.members rs

abbrev pub members_up_text : ℕ → Option Report → List Report → List ℕ
members_up_text cluster measure rs =
    gauge_text cluster (codes "members_up") (codes "Members that answer.") (members_up measure rs)

abbrev pub verdict_text : ℕ → Option Report → List Report → List ℕ
verdict_text cluster measure rs =
    served_text cluster rs
    ++ (genesis_text cluster rs ++ (one_state_text cluster rs ++ members_up_text cluster measure rs))

-- ---- of the targets and their nodes

-- the label of a node, where its number is known
abbrev pub node_label : Option ℕ → List ℕ
node_label None = []
node_label (Some node) = codes ",node=\"" ++ (decimal node ++ 34 ∷ [])

-- the labels of an address and a port, and the end of all labels
abbrev pub place_labels : IpAddr → ℕ → List ℕ
place_labels address port =
    codes ",address=\"" ++ (ip_text address ++ (codes "\",port=\"" ++ (decimal port ++ codes "\"} ")))

-- a metric and the label of its cluster
abbrev pub metric_front : List ℕ → ℕ → List ℕ
metric_front name cluster = codes "locks_" ++ (name ++ (codes "{cluster=\"" ++ (decimal cluster ++ 34 ∷ [])))

-- the sample of a metric for a target, with the label of this node
abbrev pub sample_text : List ℕ → Inquiry → Option ℕ → Target → ℕ → List ℕ
sample_text name i node t value =
    metric_front name i.cluster
    ++ (node_label node ++ (place_labels (target_address i t) t.port ++ (decimal value ++ 10 ∷ [])))

-- whether a target reports: its label of a node is the number by which it is asked
abbrev pub up_line : Inquiry → Target → Bool → List ℕ
up_line i t is_up = sample_text (codes "up") i t.node t (flag is_up)

-- a line for each target, the first by the report with this token, and each other by that with the next
abbrev pub up_lines : ℕ → Inquiry → List Report → List ℕ
up_lines first i rs = by_token (λ token t. up_line i t (has_token token rs)) first i.targets.items

abbrev pub up_text : ℕ → Inquiry → List Report → List ℕ
up_text first i rs =
    head_text (codes "up") (codes "gauge") (codes "Whether the node at this address and port answers.")
    ++ up_lines first i rs

abbrev pub differs_sample : Inquiry → ℕ → Target → Bool → List ℕ
differs_sample i node t differs = sample_text (codes "state_differs") i (Some node) t (flag differs)

-- whether at least as many nodes hold another state than that of a target's report, if there is one
abbrev pub differs_line : Inquiry → List Report → Target → Option Report → List ℕ
differs_line i rs t None = []
differs_line i rs t (Some r) = differs_sample i r.node t (is_rivalled rs r)

abbrev pub differs_lines : ℕ → Inquiry → List Report → List ℕ
differs_lines first i rs = by_token (λ token t. differs_line i rs t (report_of token rs)) first i.targets.items

abbrev pub differs_text : ℕ → Inquiry → List Report → List ℕ
differs_text first i rs =
    head_text (codes "state_differs") (codes "gauge")
    (codes "Whether as many nodes or more hold another state at its position.") ++ differs_lines first i rs

-- the sample of a target's node, if it has a value
abbrev pub value_line : List ℕ → Inquiry → ℕ → Target → Option ℕ → List ℕ
value_line name i node t None = []
value_line name i node t (Some value) = sample_text name i (Some node) t value

-- a field of a target's report, if there is one and it says the field: its label of a node is the number in it
abbrev pub sample_line : Field → Inquiry → Target → Option Report → List ℕ
sample_line field i t None = []
sample_line field i t (Some r) = value_line (field_name field) i r.node t (field_value field r)

-- a line for each target, by its report
abbrev pub sample_lines : Field → ℕ → Inquiry → List Report → List ℕ
sample_lines field first i rs = by_token (λ token t. sample_line field i t (report_of token rs)) first i.targets.items

-- what a field is, and a line for each target
abbrev pub field_text : ℕ → Inquiry → List Report → Field → List ℕ
field_text first i rs field =
    head_text (field_name field) (field_kind field) (field_help field) ++ sample_lines field first i rs

abbrev pub fields_text : ℕ → Inquiry → List Report → List ℕ
fields_text first i rs = flat_map (field_text first i rs) all_fields

-- ---- of all

abbrev pub metrics_text : ℕ → Inquiry → List Report → Option Report → List ℕ
metrics_text first i rs measure =
    verdict_text i.cluster measure rs ++ (up_text first i rs ++ (differs_text first i rs ++ fields_text first i rs))
