-- What a run of a schedule prints: its result, or a script of it.
use Rattle.std.specs.Prelude.{◌≡◌, ℕ, ◌≤◌, ◌⊎◌, List, [], ◌∷◌, ◌++◌, codes}
use Rattle.std.specs.Fmt.{decimal}
use Rattle.lk_node_interface.specs.declared.note.Note.{Note}
use Rattle.lk_node_interface.specs.declared.note.Note.TheVariants.{Ran}
use Rattle.lk_replica.specs.Behaviours.{Behaviour}
use Rattle.lk_script_lines.specs.EventLines.{lines_for}
use Rattle.lk_sim.specs.Runs.{AreExecuted}
use Rattle.lk_sim.specs.WorldStates.{WorldState}
use Rattle.lk_sim.specs.declared.event.Event.{Event}
use Rattle.lk_random_schedules.specs.Schedules.{IsNew, Fuzzes}
use Rattle.lk_random_schedules.specs.declared.plan.Plan.{Plan}

-- the position that the note reports as executed, or 0
abbrev pub ran_at : Note → ℕ
ran_at (Ran n p c) = p
ran_at _ = 0

-- some note reports this position
abbrev pub HasRun : List Note → ℕ → Type 0
HasRun [] p = ⊥
HasRun (note ∷ rest) p = (ran_at note ≡ p) ⊎ HasRun rest p

-- the greatest position that a node has executed, or 0
pub record IsFurthest (trace : List Note) (p : ℕ) : Type 0 where
  pub most : (q : ℕ) → HasRun trace q → q ≤ p
  pub run : (p ≡ 0) ⊎ HasRun trace p

-- the line of a run that nothing ended
abbrev pub done_line : ℕ → ℕ → List ℕ
done_line count furthest = (codes "done " ++ decimal count) ++ (codes " positions " ++ decimal furthest) ++ 10 ∷ []

-- a run of the plan in a new world, and how it ends
pub record IsRun {R : Type 0} (b : Behaviour R) (plan : Plan) (begun ended : WorldState R) : Type 0 where
  pub new_world : IsNew begun
  pub fuzzes : Fuzzes b plan begun ended

-- the text is what a run of the plan prints
pub record Reports {R : Type 0} (b : Behaviour R) (plan : Plan) (text : List ℕ) : Type 0 where
  pub begun : WorldState R
  pub ended : WorldState R
  pub run : IsRun b plan begun ended
  pub furthest : ℕ
  pub is_furthest : IsFurthest ended.trace furthest
  pub line : text ≡ done_line plan.count furthest

-- the line of a script that begins the world
abbrev pub world_line : List ℕ
world_line = codes "genesis 5 2 1:7001 2:7002 3:7003\n"

-- the text is a script of a run of the plan: its events lead from the new world to the end of that run
pub record IsScript {R : Type 0} (b : Behaviour R) (plan : Plan) (text : List ℕ) : Type 0 where
  pub begun : WorldState R
  pub ended : WorldState R
  pub run : IsRun b plan begun ended
  pub events : List Event
  pub are_executed : AreExecuted b events begun ended
  pub lines : text ≡ world_line ++ lines_for events
