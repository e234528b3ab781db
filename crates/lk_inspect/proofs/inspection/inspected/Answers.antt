use Rattle.std.proofs.Common.{◌∙◌, ◌++◌, List, length, ap}
use Rattle.std.specs.FinMap as map
use Rattle.lk_members.specs.Effects.{Command}
use Rattle.lk_state.specs.States.{WholeValue}
use Rattle.lk_recovery.specs.Revivals.{run_from}
use Rattle.lk_locks.specs.Meaning.{table_meaning}
use Rattle.lk_locks.specs.Plain.{Table}
use Rattle.lk_inspect.proofs.Standing.{executed_is, text_is, sets_are, sessions_are, same_table}
use Rattle.lk_inspect.proofs.inspection.inspected.Goals as goal

pub returns-clause-tells : goal.returns-clause-tells
returns-clause-tells c = λ genesis L packs all.
    let behind : List Command = L ++ run_from (length L) c.args.standing.now.pairs in
    let sums = c.in_ok-whole.ensures.sums genesis L packs in
    let table = same_table c.machine-table.result.now behind c.facts.ensures
    all (c.machine-table.ensures ∙ ap (λ (w : WholeValue). w.text) sums ∙ text_is table_meaning genesis behind) in
    record {
      executed = c.executed.ensures ∙ ap (λ (w : WholeValue). w.roster.executed) sums
          ∙ executed_is table_meaning genesis behind;
      members = c.copy.ensures ∙ c.window.ensures ∙ ap (λ r. r.sets) c.roster.ensures
          ∙ ap (λ (w : WholeValue). w.roster.sets) sums ∙ sets_are table_meaning genesis behind;
      names = c.in_ok-names.ensures ∙ ap (λ (t : Table). map.entries t.names) table;
      clients = ap length c.sessions.ensures ∙ ap (λ (w : WholeValue). length w.sessions) sums
          ∙ ap length (sessions_are table_meaning genesis behind);
    }
