use Rattle.std.proofs.Common.{arith}
use Rattle.lk_messages.proofs.Spellings.{spelled, commands_read}
use Rattle.lk_wire.proofs.viewing.decided.facts_of.Goals as goal

pub returns-clause-count : goal.returns-clause-count
returns-clause-count c =
    λ are. (spelled _ _ _ (commands_read c.args.count) c.args.bytes.now
    _ (λ i. omega (arith, c.type_inv.bytes i)) are).1.0

pub returns-clause-in_range : goal.returns-clause-in_range
returns-clause-in_range c =
    λ are. (spelled _ _ _ (commands_read c.args.count) c.args.bytes.now
    _ (λ i. omega (arith, c.type_inv.bytes i)) are).1.1
