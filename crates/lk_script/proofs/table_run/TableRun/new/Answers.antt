use Rattle.std.proofs.Common.{rules, ◌≡◌, ◌∙◌, ap, [], ◌∷◌}
use Rattle.lk_types.specs.declared.member.Member.{Member}
use Rattle.lk_script.proofs.TableRunLaws.{begins, nothing_executed}
use Rattle.lk_script.proofs.table_run.TableRun.new.Goals as goal

pub returns-clause-empty : goal.returns-clause-empty
returns-clause-empty c =
    let genesis = rw c.unwrap-genesis.ensures at c.of.ensures.ok in
    let node_one : c.default.result ≡ record { node = 1; port = 1 } = search rules in
    begins c.unwrap-genesis.result
    (record { cluster = c.args.cluster; whole = c.begin-whole.result }) c.begin-whole.ensures
    (record { number = genesis.0; alpha = genesis.1; members = genesis.2 ∙ ap (λ (m : Member). m ∷ []) node_one })

pub returns-clause-executed : goal.returns-clause-executed
returns-clause-executed c =
    nothing_executed c.unwrap-genesis.result
    (record { cluster = c.args.cluster; whole = c.begin-whole.result }) c.begin-whole.ensures
