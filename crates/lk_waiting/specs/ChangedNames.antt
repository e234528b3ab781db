-- The names whose holders may have changed since a server looked at them for the clients that wait.
use Rattle.std.specs.Prelude.{Bool, true, false, List, [], ◌∷◌, ◌++◌, Option, Some, None, ◌≡◌, ◌⊎◌, ℕ}
use Rattle.lk_types.specs.declared.command.Command.{Command}
use Rattle.lk_types.specs.declared.command.Command.TheVariants.{Noop, Request as Asks}
use Rattle.lk_types.specs.declared.command.Op.{Op}
use Rattle.lk_types.specs.declared.command.Op.TheVariants.{Table, Join, Leave, Raise}
use Rattle.lk_locks.specs.Bodies.{body_of, name_of}
use Rattle.lk_locks.specs.declared.body.Body.{Body}
use Rattle.lk_node_interface.specs.declared.note.Note.{Note}
use Rattle.lk_node_interface.specs.declared.note.Note.TheVariants.{Asked, Counted, Ran, Answered, Told}

-- the names in order, or all where more have changed than are kept
pub record ChangedValue : Type 0 where
  pub names : List (List ℕ)
  pub all : Bool

abbrev pub none_changed : ChangedValue
none_changed = record { names = []; all = false }

abbrev pub name_of_body : Option Body → List (List ℕ)
name_of_body None = []
name_of_body (Some body) = name_of body ∷ []

abbrev pub name_in_op : Op → List (List ℕ)
name_in_op (Table payload) = name_of_body (body_of payload)
name_in_op (Join node port) = []
name_in_op (Leave node) = []
name_in_op Raise = []

abbrev pub name_in_command : Command → List (List ℕ)
name_in_command Noop = []
name_in_command (Asks r) = name_in_op r.op

-- the name of a command that was executed
abbrev pub name_in : Note → List (List ℕ)
name_in (Asked request) = []
name_in (Counted node position members command) = []
name_in (Ran node position command) = name_in_command command
name_in (Answered node client number answer) = []
name_in (Told node client number last) = []

-- the names of all commands that were executed
abbrev pub names_in : List Note → List (List ℕ)
names_in [] = []
names_in (note ∷ notes) = name_in note ++ names_in notes

-- these have changed too, or all have
abbrev pub AreChanged : List (List ℕ) → ChangedValue → ChangedValue → Type 0
AreChanged names old new = (new.all ≡ true) ⊎ (new ≡ record old { names = old.names ++ names })
