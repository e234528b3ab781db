use Rattle.std.proofs.Common.{rules, ◌≡◌, ◌∙◌, ℕ, Bool, List, ◌++◌, length, take, drop, map, ap, sym, subst, arith}
use Rattle.std.proofs.lemmas.Grind.{common_steps}
use Rattle.std.proofs.lemmas.List.{take_at}
use Rattle.lk_watch.specs.Waiters.{refreshed}
use Rattle.lk_watch.specs.Queues.{IsQueue, lived}
use Rattle.lk_watch.specs.declared.waiter.Waiter.{Waiter}
use Rattle.lk_watch.proofs.QueueLaws.{with_waiters, lived_fits, lived_now}
use Rattle.lk_watch.proofs.queue.WatchQueue.settle.Goals as goal

pub invariant_of-self : goal.invariant_of-self
invariant_of-self g c =
    let holds : ℕ → List ℕ → Bool = g.T.NameTable.holds c.args.table.now in
    let ws : List Waiter = c.self.inside.waiters.items in
    let older : List Waiter = c.refresh_all.new.waiters in
    let are : older ≡ map (refreshed holds 0) ws = search rules in
    let len : length older ≡ c.self.inside.waiters.len = grind (arith, common_steps) in
    let is : take c.self.inside.waiters.len (older ++ drop (length older) ws) ≡ lived holds 0 ws =
    take_at older (drop (length older) ws) _ len ∙ are ∙ sym (lived_now holds ws c.self.inside.left c.self.invariant) in
    subst (λ (vs : List Waiter). IsQueue (with_waiters vs c.self.inside.left)) (sym is)
    (lived_fits holds 0 ws c.self.inside.left c.self.invariant)

pub returns-clause-waiters : goal.returns-clause-waiters
returns-clause-waiters g c =
    let holds : ℕ → List ℕ → Bool = g.T.NameTable.holds c.args.table.now in
    let ws : List Waiter = c.self.inside.waiters.items in
    let older : List Waiter = c.refresh_all.new.waiters in
    let are : older ≡ map (refreshed holds 0) ws = search rules in
    let len : length older ≡ c.self.inside.waiters.len = grind (arith, common_steps) in
    let same : ws ≡ c.args.self.now.waiters = search rules in
    take_at older (drop (length older) ws) _ len ∙ are ∙ sym (lived_now holds ws c.self.inside.left c.self.invariant)
    ∙ ap (λ (vs : List Waiter). lived holds 0 vs) same
