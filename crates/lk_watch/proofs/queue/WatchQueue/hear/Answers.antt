use Rattle.std.proofs.Common.{rules, ◌≡◌, ◌∙◌, List, ap}
use Rattle.lk_watch.specs.Queues.{heard, others}
use Rattle.lk_watch.specs.declared.waiter.Waiter.{Waiter}
use Rattle.lk_watch.proofs.OtherLaws.{others_heard}
use Rattle.lk_watch.proofs.queue.WatchQueue.hear.Goals as goal

pub returns-clause-others : goal.returns-clause-others
returns-clause-others c =
    let old : List Waiter = c.args.self.now.waiters in
    let is : c.if-is_waiting_at.self.waiters ≡ heard c.args.watch.now c.args.from c.args.standing old = search rules in
    ap (λ (ws : List Waiter). others c.args.watch.now.ticket ws) is
    ∙ others_heard c.args.watch.now c.args.from c.args.standing old
