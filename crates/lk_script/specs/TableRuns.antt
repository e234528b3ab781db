-- What a table server stands for: the list of the requests that took effect so far.
use Rattle.std.specs.Prelude.{◌≡◌, ℕ, true, List, [], ◌∷◌, ⊤}
use Rattle.std.specs.List.{AllByRecursion}
use Rattle.lk_types.specs.Commands.{IsRequest}
use Rattle.lk_members.specs.Effects.{Command, Noop, Request}
use Rattle.lk_members.specs.Rosters.{Genesis}
use Rattle.lk_state.specs.States as state
use Rattle.lk_locks.specs.Meaning.{table_meaning}
use Rattle.lk_script.specs.TableMode.{is_for_table}
use Rattle.lk_script.specs.Scripts.{Script, begun, table, world}
use Rattle.lk_script.specs.declared.mode.Mode.{Mode}
use Rattle.lk_script.specs.declared.mode.Mode.TheVariants as mode
use Rattle.lk_script.specs.declared.table_run.TableRun.{TableRun}

-- the entry is a request for the lock table
abbrev pub AsksTable : Command → Type 0
AsksTable Noop = ⊥
AsksTable (Request r) = IsRequest r × (is_for_table r.op ≡ true)

-- the cluster begins with node 1 alone
pub record IsFirst (cluster : ℕ) (genesis : Genesis) : Type 0 where
  pub number : genesis.cluster ≡ cluster
  pub alpha : genesis.alpha ≡ 1
  pub members : genesis.members ≡ record { node = 1; port = 1 } ∷ []

-- the server's state is that of the list, which has requests for the lock table only
pub record HasExecuted (L : List Command) (server : TableRun) : Type 0 where
  pub genesis : Genesis
  pub first : IsFirst server.cluster genesis
  pub asked : AllByRecursion AsksTable L
  pub whole : state.SumsUp table_meaning genesis L server.whole

-- how many positions a server has executed
abbrev pub executed_of : TableRun → ℕ
executed_of server = server.whole.roster.executed

-- what a script has set up so far, as the program keeps it
abbrev pub Fits : {R : Type 0} → Script R → Mode R → Type 0
Fits begun mode.Unset = ⊤
Fits begun (mode.Table server) = ⊥
Fits begun (mode.World run) = ⊥
Fits (table cluster L) mode.Unset = ⊥
Fits (table cluster L) (mode.Table server) = (server.cluster ≡ cluster) × HasExecuted L server
Fits (table cluster L) (mode.World run) = ⊥
Fits (world world_state done) mode.Unset = ⊥
Fits (world world_state done) (mode.Table server) = ⊥
Fits (world world_state done) (mode.World run) = (run.world ≡ world_state) × (run.done ≡ done)

-- how many positions, or events, were done for a script so far
abbrev pub done_in : {R : Type 0} → Mode R → ℕ
done_in mode.Unset = 0
done_in (mode.Table server) = executed_of server
done_in (mode.World run) = run.done
