use Rattle.std.proofs.Common.{rules, ◌≡◌, ℕ, true, List, [], ◌∷◌, ◌++◌, subst, sym, arith}
use Rattle.std.proofs.lemmas.Grind.{common_steps}
use Rattle.std.specs.List.{count_by}
use Rattle.lk_watch.specs.Waiters.{is_of, newcomer}
use Rattle.lk_watch.specs.Queues.{IsQueue, position, without, has_room}
use Rattle.lk_watch.specs.declared.waiter.Waiter.{Waiter}
use Rattle.lk_watch.proofs.QueueLaws.{with_waiters, without_fits, none_without, push_fits, newcomer_fits}
use Rattle.lk_watch.proofs.queue.WatchQueue.enter.Goals as goal

pub invariant_of-self-then-has_room : goal.invariant_of-self-then-has_room
invariant_of-self-then-has_room c =
    let ws : List Waiter = without c.args.at c.self.inside.waiters.items in
    let n = c.self.inside.left in
    let v : Waiter = newcomer c.args.watch.now c.args.from in
    let pushed : c.push.new.self.items ≡ ws ++ v ∷ [] = grind (arith, common_steps) in
    let room : has_room v.ticket ws ≡ true = grind (arith, common_steps) in
    let at : c.args.at ≡ position c.args.watch.now.ticket c.self.inside.waiters.items = search rules in
    let fresh : count_by (is_of v.ticket.client v.ticket.name) ws ≡ 0 =
    subst (λ (i : ℕ). count_by (is_of v.ticket.client v.ticket.name) (without i c.self.inside.waiters.items) ≡ 0)
    (sym at) (none_without c.args.watch.now.ticket c.self.inside.waiters.items n v c.self.invariant) in
    subst (λ (vs : List Waiter). IsQueue (with_waiters vs n)) (sym pushed)
    (push_fits ws n v (without_fits c.self.inside.waiters.items n c.args.at v c.self.invariant) room fresh
    (newcomer_fits c.args.watch.now c.args.from c.requires.lives))

pub invariant_of-self-else-has_room : goal.invariant_of-self-else-has_room
invariant_of-self-else-has_room c =
    let removed : c.remove_at.new.waiters.items ≡ without c.args.at c.self.inside.waiters.items = search rules in
    subst (λ (vs : List Waiter). IsQueue (with_waiters vs c.self.inside.left)) (sym removed)
    (without_fits c.self.inside.waiters.items c.self.inside.left c.args.at (newcomer c.args.watch.now c.args.from)
    c.self.invariant)
