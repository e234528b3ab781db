use Rattle.std.proofs.Common.{rules, ◌≡◌, ◌∙◌, ℕ, Bool, List, ◌++◌, length, take, drop, map, ap, sym, subst, arith}
use Rattle.std.proofs.lemmas.Fn.{filter_same}
use Rattle.std.proofs.lemmas.Grind.{common_steps}
use Rattle.std.proofs.lemmas.List.{take_at}
use Rattle.std.specs.Prelude.{filter}
use Rattle.lk_watch.specs.Waiters.{refreshed}
use Rattle.lk_watch.specs.Queues.{IsQueue, is_alive, lived}
use Rattle.lk_watch.specs.declared.waiter.Waiter.{Waiter}
use Rattle.lk_watch.proofs.QueueLaws.{with_waiters, lived_fits}
use Rattle.lk_watch.proofs.queue.WatchQueue.refresh.Goals as goal

pub invariant_of-self : goal.invariant_of-self
invariant_of-self g c =
    let holds : ℕ → List ℕ → Bool = g.T.NameTable.holds c.args.table.now in
    let n : ℕ = c.args.count in
    let ws : List Waiter = c.self.inside.waiters.items in
    let older : List Waiter = c.refresh_all.new.waiters in
    let are : older ≡ map (refreshed holds n) ws = search rules in
    let len : length older ≡ c.self.inside.waiters.len = grind (arith, common_steps) in
    let kept : c.retain.new.self.items
    ≡ filter is_alive (take c.self.inside.waiters.len (older ++ drop (length older) ws)) =
    filter_same _ is_alive _ (λ x b f' k. search rules) _ _ c.retain.ensures.filtered in
    let is : c.retain.new.self.items ≡ lived holds n ws =
    kept ∙ ap (λ (vs : List Waiter). filter is_alive vs) (take_at older (drop (length older) ws) _ len ∙ are) in
    subst (λ (vs : List Waiter). IsQueue (with_waiters vs c.self.inside.left)) (sym is)
    (lived_fits holds n ws c.self.inside.left c.self.invariant)

pub returns-clause-waiters : goal.returns-clause-waiters
returns-clause-waiters g c =
    let holds : ℕ → List ℕ → Bool = g.T.NameTable.holds c.args.table.now in
    let n : ℕ = c.args.count in
    let ws : List Waiter = c.self.inside.waiters.items in
    let older : List Waiter = c.refresh_all.new.waiters in
    let are : older ≡ map (refreshed holds n) ws = search rules in
    let len : length older ≡ c.self.inside.waiters.len = grind (arith, common_steps) in
    let kept : c.retain.new.self.items
    ≡ filter is_alive (take c.self.inside.waiters.len (older ++ drop (length older) ws)) =
    filter_same _ is_alive _ (λ x b f' k. search rules) _ _ c.retain.ensures.filtered in
    let same : ws ≡ c.args.self.now.waiters = search rules in
    kept ∙ ap (λ (vs : List Waiter). filter is_alive vs) (take_at older (drop (length older) ws) _ len ∙ are)
    ∙ ap (λ (vs : List Waiter). lived holds n vs) same
