use Rattle.std.proofs.Common.{rules, ◌≡◌, ◌<◌, ◌∙◌, List, Some, length, refl, ap, arith}
use Rattle.std.proofs.lemmas.Grind.{common_steps}
use Rattle.std.proofs.lemmas.Option.{slice_get_read}
use Rattle.std.specs.Prelude.{slice_get, slice_index_or, slice_set}
use Rattle.lk_watch.specs.Waiters.{renewed}
use Rattle.lk_watch.specs.Queues.{renewed_in}
use Rattle.lk_watch.specs.declared.waiter.Waiter.{Waiter}
use Rattle.lk_watch.proofs.QueueLaws.{set_fits, is_waiter, renewed_fits, renewed_is}
use Rattle.lk_watch.proofs.queue.WatchQueue.renew.Goals as goal

pub invariant_of-self : goal.invariant_of-self
invariant_of-self c =
    let ws : List Waiter = c.self.inside.waiters.items in
    let w : Waiter = c.index_mut.result.now in
    let at = c.args.at in
    let within : at < length ws = grind (arith, common_steps) in
    let read : w ≡ slice_index_or ws at w = search rules in
    let there : slice_get ws at ≡ Some w = slice_get_read ws (length ws) at w refl within read in
    let fits = is_waiter ws c.self.inside.left at w c.self.invariant there in
    rw c.renew.ensures
    (set_fits ws c.self.inside.left at w (renewed c.args.watch.now w) c.self.invariant there refl refl
    (renewed_fits c.args.watch.now w fits))

pub returns-then-at-len-clause-waiters : goal.returns-then-at-len-clause-waiters
returns-then-at-len-clause-waiters c =
    let ws : List Waiter = c.self.inside.waiters.items in
    let w : Waiter = c.index_mut.result.now in
    let at = c.args.at in
    let within : at < length ws = grind (arith, common_steps) in
    let read : w ≡ slice_index_or ws at w = search rules in
    let there : slice_get ws at ≡ Some w = slice_get_read ws (length ws) at w refl within read in
    let same : ws ≡ c.args.self.now.waiters = search rules in
    ap (λ (v : Waiter). slice_set ws at v) c.renew.ensures
    ∙ renewed_is ws at c.args.watch.now w (search rules) there
    ∙ ap (λ (v : List Waiter). renewed_in c.args.watch.now v) same
