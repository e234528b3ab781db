-- Which nodes hold another state than others, in words.
use Rattle.std.specs.Prelude.{ℕ, List, [], ◌++◌, ◌∷◌, codes, flat_map, if◌then◌else◌}
use Rattle.std.specs.Fmt.{decimal}
use Rattle.lk_probe.specs.declared.probe.Report.{Report}
use Rattle.lk_status.specs.States.{differs_from, is_outnumbered, is_rivalled}

-- the number of a node that holds another state than the first, after a space
abbrev pub other_word : Report → Report → List ℕ
other_word r o = if differs_from r o then 32 ∷ decimal o.node else []

abbrev pub state_front : Report → List ℕ
state_front r = codes "why: node " ++ (decimal r.node ++ codes " has executed other commands than")

-- more nodes hold another state
abbrev pub outnumbered_line : Report → List Report → List ℕ
outnumbered_line r rs = state_front r ++ (codes " nodes" ++ (flat_map (other_word r) rs ++ codes ": stop it\n"))

-- as many do
abbrev pub rivalled_line : Report → List Report → List ℕ
rivalled_line r rs =
    state_front r
    ++ (flat_map (other_word r) rs ++ codes ", as many nodes: decide which state is right, and stop the others\n")

abbrev pub state_reason : List Report → Report → List ℕ
state_reason rs r =
    if is_outnumbered rs r then outnumbered_line r rs else (if is_rivalled rs r then rivalled_line r rs else [])

abbrev pub states_reason : List Report → List ℕ
states_reason rs = flat_map (state_reason rs) rs
