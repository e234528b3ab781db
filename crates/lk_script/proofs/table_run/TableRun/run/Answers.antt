use Rattle.std.proofs.Common.{rules, refl}
use Rattle.lk_script.proofs.TableRunLaws.{runs}
use Rattle.lk_script.proofs.table_run.TableRun.run.Goals as goal

pub returns-clause-ok : goal.returns-clause-ok
returns-clause-ok c = λ L sums.
    runs L c.args.request.now c.unwrap.result c.args.self.now
    (record { cluster = c.args.self.now.cluster; whole = c.run.new.self }) c.in_ok-ran.ran.answer
    (search rules) c.requires.table c.requires.new (search rules) refl
    (λ genesis K stands. rw c.copy.ensures at c.in_ok-ran.ensures.sums genesis K stands)
    (λ genesis K stands. rw c.copy.ensures at c.in_ok-ran.ensures.reply genesis K stands)
    sums
