-- How a replica takes a group: what it has taken of it so far, and what it says at its end.
use Rattle.std.specs.Prelude.{ℕ, List, [], ◌++◌, Option}
use Rattle.lk_node_interface.specs.Envelopes.{EnvelopeValue}
use Rattle.lk_replica.specs.Groups.{GroupValue}

-- the type of `Says`: the replica before a group, its input, the envelopes that it produces, and the replica after
abbrev pub Sayings : Type 0 → Type 1
Sayings R = R → List (Option (List ℕ)) → List EnvelopeValue → R → Type 0

-- the type of `Gathers`: the replica when the group began, its input since, the group so far, and the replica now
abbrev pub Gatherings : Type 0 → Type 1
Gatherings R = R → List (Option (List ℕ)) → GroupValue → R → Type 0

module _ {R : Type 0} (Gathers : Gatherings R) where
  -- whatever input this group had before, it now has this input too, and nothing is synced or sent for it
  abbrev pub GathersMore : List (Option (List ℕ)) → GroupValue → GroupValue → R → R → Type 0
  GathersMore more group now old new =
      (start : R) (given : List (Option (List ℕ))) → Gathers start given group old
      → Gathers start (given ++ more) now new

module _ {R : Type 0} (Says : Sayings R) (Gathers : Gatherings R) where
  -- whatever input the group had, this input has ended the replica, and nothing of the group is sent
  abbrev pub SaysNoMore : List (Option (List ℕ)) → GroupValue → R → R → Type 0
  SaysNoMore more group old new =
      (start : R) (given : List (Option (List ℕ))) → Gathers start given group old → Says start (given ++ more) [] new
