use Rattle.std.proofs.Common.{rules, ◌≡◌, false, List, Some, length, refl, take}
use Rattle.std.proofs.lemmas.Option.{slice_get_read}
use Rattle.std.specs.Prelude.{slice_get}
use Rattle.lk_watch.specs.Waiters.{is_due}
use Rattle.lk_watch.specs.Queues.{Table}
use Rattle.lk_watch.specs.declared.waiter.Waiter.{Waiter}
use Rattle.lk_watch.proofs.QueueLaws.{none_more, not_due_there}
use Rattle.lk_watch.proofs.queue.first_due.Goals as goal

pub loop-index-preserved : goal.loop-index-preserved
loop-index-preserved g c =
    let table : Table = g.T.NameTable.standing c.args.table.now in
    let ws : List Waiter = c.args.waiters.now in
    let i = c.loop-index.index in
    let w : Waiter = c.index-waiters-index.result in
    let there : slice_get ws i ≡ Some w =
    slice_get_read ws (length ws) i w refl c.loop-index-test.true c.index-waiters-index.is in
    let not_due : is_due c.standing-standing.result (take i ws) w ≡ false = search rules in
    none_more table ws i c.loop-index.invariant
    (not_due_there table ws i w c.standing-standing.result there c.standing-standing.ensures not_due)
