-- The nodes of a set.
use Rattle.std.specs.Prelude.{ℕ, List, map}
use Rattle.lk_types.specs.declared.member.Member.{Member}

-- the nodes of a set, in rising order
abbrev pub nodes_of : List Member → List ℕ
nodes_of set = map (λ m. m.node) set
