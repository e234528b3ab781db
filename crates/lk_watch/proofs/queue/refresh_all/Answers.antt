use Rattle.std.proofs.Common.{◌≡◌, ◌∙◌, Bool, get_or, ap, arith}
use Rattle.std.proofs.lemmas.List.{get_or_default}
use Rattle.std.proofs.lemmas.List.Edits.{map_over_more}
use Rattle.lk_watch.specs.Waiters.{aged, refreshed, settled}
use Rattle.lk_watch.specs.declared.waiter.Waiter.{Waiter}
use Rattle.lk_watch.proofs.queue.refresh_all.Goals as goal

pub loop-waiter-preserved : goal.loop-waiter-preserved
loop-waiter-preserved g c =
    let holds = g.T.NameTable.holds c.args.table.now in
    let waiters = c.loop-waiter.waiters in
    let index = c.loop-waiter.waiter-index in
    let item : Waiter = get_or waiters index c.waiter-item.result in
    let is : c.settle.new.self ≡ refreshed holds c.args.count item =
    c.settle.ensures ∙ ap (λ (w : Waiter). settled c.holds-is_granted.result w) c.age.ensures
    ∙ ap (λ (b : Bool). settled b (aged c.args.count item)) c.holds-is_granted.ensures in
    rw is
    (map_over_more (refreshed holds c.args.count) c.args.waiters.now waiters index item c.loop-waiter-test.true
    c.loop-waiter.invariant
    (get_or_default waiters index c.waiter-item.result item (omega arith)))
