-- The nodes that the words of an argument name.
use Rattle.std.specs.Prelude.{◌≡◌, ℕ, Option, Some, None, List, []}
use Rattle.lk_status.specs.Targets.{SpellTargets}
use Rattle.lk_status.specs.declared.target.Target.{Target}

-- each word spells its target; without words there are none
abbrev pub AreTargetsOf : Option (List (List ℕ)) → List Target → Type 0
AreTargetsOf None targets = targets ≡ []
AreTargetsOf (Some words) targets = SpellTargets words targets
