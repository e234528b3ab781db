use Rattle.std.proofs.Common.{◌∙◌, sym, ap}
use Rattle.lk_node_interface.specs.KeptReplies.{kept_reply}
use Rattle.lk_script.proofs.TableRunLaws.{kept}
use Rattle.lk_script.proofs.table_run.TableRun.reply.Goals as goal

pub returns-in-Some-clause-ok : goal.returns-in-Some-clause-ok
returns-in-Some-clause-ok c = λ L sums.
    kept L c.args.request.now c.args.self.now sums c.in-Some.reply
    (ap (kept_reply c.args.request.now.client c.args.request.now.number) (sym c.seen-seen.ensures.value)
    ∙ sym c.kept_reply.ensures ∙ c.in-Some.is)
