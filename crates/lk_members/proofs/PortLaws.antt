-- A window names exactly the nodes whose ports it gives.
use Rattle.std.proofs.Common.{◌≡◌, ℕ, true, eqb, List, [], ◌∷◌, refl, inl, inr}
use Rattle.std.specs.Prelude.{IsSome, IsTrue, ◌↔◌}
use Rattle.std.proofs.lemmas.Bool.{cases_Bool}
use Rattle.lk_members.specs.Rosters.{Member, is_member}
use Rattle.lk_members.specs.Ports.{is_named, port_in, port_of}

in_set : (node : ℕ) (set : List Member) → is_member node set ≡ true → IsSome (port_in node set)
in_set node [] h = absurd cc
in_set node (m ∷ ms) h =
    elim (cases_Bool (eqb m.node node)) [
      | inl t ↦ rw t refl
      | inr f ↦ rw f (in_set node ms (rw f at h))
    ]

named_has_port : (node : ℕ) (sets : List (List Member)) → is_named node sets ≡ true → IsSome (port_of node sets)
named_has_port node [] h = absurd cc
named_has_port node (set ∷ sets) h =
    elim (cases_Bool (is_member node set)) [
      | inl t ↦ rw t (in_set node set t)
      | inr f ↦ rw f (named_has_port node sets (rw f at h))
    ]

port_is_named : (node : ℕ) (sets : List (List Member)) → IsSome (port_of node sets) → is_named node sets ≡ true
port_is_named node [] h = absurd cc
port_is_named node (set ∷ sets) h =
    elim (cases_Bool (is_member node set)) [
      | inl t ↦ rw t refl
      | inr f ↦ rw f (port_is_named node sets (rw f at h))
    ]

-- a window gives a port to exactly the nodes that it names
pub ports_are_named : (node : ℕ) (sets : List (List Member)) → IsSome (port_of node sets) ↔ IsTrue (is_named node sets)
ports_are_named node sets = (port_is_named node sets, named_has_port node sets)
