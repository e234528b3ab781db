-- When nodes are a majority of a set.
use Rattle.std.specs.Prelude.{ℕ, ◌*◌, ◌<◌, ◌==◌, List, length, count_by, IsTrue}
use Rattle.std.specs.List.{list_any, list_all}
use Rattle.lk_types.specs.declared.member.Member.{Member}
use Rattle.lk_members.specs.Rosters.{is_member}

-- the nodes are in the set, and more than half of its members are among them
pub record IsMajority (nodes : List ℕ) (set : List Member) : Type 0 where
  pub within : IsTrue (list_all (λ n. is_member n set) nodes)
  pub more_than_half : length set < 2 * count_by (λ m. list_any (λ n. n == m.node) nodes) set
