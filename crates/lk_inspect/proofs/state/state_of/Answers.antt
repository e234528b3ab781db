use Rattle.std.proofs.Common.{rules, ◌≡◌}
use Rattle.lk_locks.specs.Meaning.{table_meaning}
use Rattle.lk_inspect.proofs.Standing.{stands_behind}
use Rattle.lk_inspect.proofs.state.state_of.Goals as goal

pub returns-clause-sums : goal.returns-clause-sums
returns-clause-sums c = λ genesis L packs.
    let same : c.deref.result.now ≡ c.args.standing.now.pairs = search rules in
    stands_behind table_meaning genesis L c.in_ok-whole.whole c.run_on.new.whole c.deref.result.now
    c.args.standing.now.pairs (c.in_ok-whole.ensures.one _ packs) same c.in_ok-run_on.ensures
