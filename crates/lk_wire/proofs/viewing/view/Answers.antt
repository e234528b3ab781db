use Rattle.std.proofs.Common.{◌∙◌, sym, arith}
use Rattle.lk_wire.specs.Shown.{shown}
use Rattle.lk_codec.proofs.Spellings.{some_is}
use Rattle.lk_messages.proofs.Spellings.{again, is_found}
use Rattle.lk_wire.proofs.OffsetLaws.{lie_at_their_offsets}
use Rattle.lk_wire.proofs.viewing.view.Goals as goal

pub returns-in_default-clause-only : goal.returns-in_default-clause-only
returns-in_default-clause-only c = λ m s. let some = again m c.args.bytes.now s in
    let none = c.in_default.ensures in absurd cc

pub returns-clause-found : goal.returns-clause-found
returns-clause-found c =
    is_found c.args.bytes.now (shown c.in-Some.message) (λ i. omega (arith, c.type_inv.bytes i)) c.in-Some.ensures

pub returns-clause-only : goal.returns-clause-only
returns-clause-only c = λ m s. some_is (shown c.in-Some.message) m (sym c.in-Some.ensures ∙ again m c.args.bytes.now s)

pub returns-clause-offsets : goal.returns-clause-offsets
returns-clause-offsets c =
    lie_at_their_offsets (shown c.in-Some.message) c.args.bytes.now
    (is_found c.args.bytes.now (shown c.in-Some.message) (λ i. omega (arith, c.type_inv.bytes i)) c.in-Some.ensures)
