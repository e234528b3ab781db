-- A status as one JSON object. Its text is that which the kit's library `json` gives, with no spaces.
use Rattle.std.specs.Prelude.{◌≡◌, ℕ, true, false, Option, Some, None, List, [], ◌∷◌, ◌++◌, length, map, flat_map}
use Rattle.std.specs.Prelude.{codes}
use Rattle.std.specs.Fmt.{decimal}
use Rattle.hex.specs.Hex.{encode_lower}
use Rattle.json.specs.Json.{Json, boolean, number, string, array, object, Items, no_items, item, Members, no_members}
use Rattle.json.specs.Json.{member}
use Rattle.json.specs.Print.{print}
use Rattle.json.specs.Token.{Token, key}
use Rattle.json.specs.Tree.{json_tokens}
use Rattle.json.specs.Written.{Written}
use Rattle.lk_types.specs.declared.member.Member.{Member}
use Rattle.lk_probe.specs.declared.probe.Report.{Report}
use Rattle.lk_probe.specs.declared.status.Version.{Version}
use Rattle.lk_status.specs.Rounds.{report_of}
use Rattle.lk_status.specs.States.{is_rivalled, one_state}
use Rattle.lk_status.specs.Verdicts.{count_reporting, is_served, one_genesis}
use Rattle.lk_status.specs.declared.target.Target.{Target}
use Rattle.lk_status_command.specs.Fields.{field_name, field_value, all_fields}
use Rattle.lk_status_command.specs.Tokens.{by_token}
use Rattle.lk_status_command.specs.declared.field.Field.{Field}

-- ---- JSON of lists

-- a member of an object: its name and its value
abbrev pub Entry : Type 0
Entry = List ℕ × Json

abbrev pub members_of : List Entry → Members
members_of [] = no_members
members_of (e ∷ es) = member e.0 e.1 (members_of es)

abbrev pub items_of : List Json → Items
items_of [] = no_items
items_of (j ∷ js) = item j (items_of js)

abbrev pub object_of : List Entry → Json
object_of es = object (members_of es)

abbrev pub array_of : List Json → Json
array_of js = array (items_of js)

abbrev pub whole : ℕ → Json
whole n = number (decimal n)

-- ---- of a node

abbrev pub version_text : Version → List ℕ
version_text v = decimal v.major ++ (46 ∷ (decimal v.minor ++ (46 ∷ decimal v.patch)))

-- a named number, if there is one
abbrev pub number_entry : List ℕ → Option ℕ → List Entry
number_entry name None = []
number_entry name (Some n) = (name, whole n) ∷ []

abbrev pub field_entry : Report → Field → List Entry
field_entry r field = number_entry (field_name field) (field_value field r)

-- the numbers of these members
abbrev pub node_numbers : List Member → List Json
node_numbers ms = map (λ (m : Member). whole m.node) ms

-- what the node reports, and whether at least as many nodes hold another state
abbrev pub report_entries : List Report → Report → List Entry
report_entries rs r =
    (codes "node", whole r.node)
    ∷ (codes "program", string (version_text r.status.identity.program))
    ∷ (codes "genesis", string (encode_lower r.status.identity.genesis))
    ∷ (flat_map (field_entry r) all_fields
    ++ (codes "state_differs", boolean (is_rivalled rs r))
    ∷ (codes "member_nodes", array_of (node_numbers r.status.members)) ∷ [])

-- ---- of the targets

-- the target at this port, by its report among those of all
abbrev pub target_json : List Report → ℕ → Option Report → Json
target_json rs port None = object_of ((codes "port", whole port) ∷ (codes "up", boolean false) ∷ [])
target_json rs port (Some r) =
    object_of ((codes "port", whole port) ∷ (codes "up", boolean true) ∷ report_entries rs r)

-- these targets, of which the probe of the first carries this token, and that of each other the next
abbrev pub targets_json : List Report → ℕ → List Target → List Json
targets_json rs = by_token (λ token t. target_json rs t.port (report_of token rs) ∷ [])

-- ---- of all

-- how many of the members of the measure report, and how many there are
abbrev pub count_entries : Option Report → List Report → List Entry
count_entries None rs = []
count_entries (Some measure) rs =
    (codes "members_up", whole (count_reporting measure.status.members rs))
    ∷ (codes "members", whole (length measure.status.members)) ∷ []

-- the cluster, whether it is served, whether all nodes report one genesis, whether no two of them hold different states
-- at one position, and the rest
abbrev pub status_json : ℕ → ℕ → List Target → List Report → Option Report → Json
status_json cluster first ts rs measure =
    object_of ((codes "cluster", whole cluster)
    ∷ (codes "served", boolean (is_served rs))
    ∷ (codes "one_genesis", boolean (one_genesis rs))
    ∷ (codes "one_state", boolean (one_state rs))
    ∷ (count_entries measure rs
    ++ (codes "nodes", array_of (targets_json rs first ts)) ∷ []))

-- the object in a line
abbrev pub json_text : ℕ → ℕ → List Target → List Report → Option Report → List ℕ
json_text cluster first ts rs measure = print (json_tokens (status_json cluster first ts rs measure)) ++ 10 ∷ []

-- ---- for private clauses: what a writer is given

abbrev pub entry_tokens : Entry → List Token
entry_tokens e = key e.0 ∷ json_tokens e.1

-- the tokens are appended
pub record Adds (ts : List Token) (old new : Written) : Type 0 where
  pub before : new.before ≡ old.before
  pub tokens : new.tokens ≡ old.tokens ++ ts

-- these members of an object, this value, or these items of an array, are appended
abbrev pub AddsMembers : List Entry → Written → Written → Type 0
AddsMembers es = Adds (flat_map entry_tokens es)

abbrev pub AddsValue : Json → Written → Written → Type 0
AddsValue j = Adds (json_tokens j)

abbrev pub AddsItems : List Json → Written → Written → Type 0
AddsItems js = Adds (flat_map json_tokens js)
