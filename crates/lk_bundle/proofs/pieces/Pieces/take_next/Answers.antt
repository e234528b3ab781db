use Rattle.std.proofs.Common.{◌≡◌, ◌-◌, ℕ, List, length, take, drop, ap, sym, ◌∙◌}
use Rattle.std.proofs.Common.{arith, rules}
use Rattle.std.proofs.lemmas.List.{take_all, length-drop}
use Rattle.lk_bundle.specs.Bundles.{read_piece}
use Rattle.lk_bundle.proofs.PieceLaws.{after_first, cut_first}
use Rattle.lk_bundle.proofs.pieces.Pieces.take_next.Goals as goal

-- the slice that is read is what is left
whole : (n : ℕ) (bytes items : List ℕ) → bytes ≡ items → take (length bytes - n) (drop n bytes) ≡ drop n items
whole n bytes items is =
    take_all (length bytes - n) (drop n bytes) (omega (arith, length-drop n bytes)) ∙ ap (drop n) is

pub invariant_of-self : goal.invariant_of-self
invariant_of-self c =
    let sliced = whole c.self.inside.next c.deref.result.now c.self.inside.bytes.items c.deref.ensures.value in
    let after = after_first c.self.inside.next c.self.inside.count c.self.inside.bytes.items c.in-Some.datagram.now
    c.in-Some.field-0-1.now c.self.invariant.1 c.if-self-eq0.false (sym sliced ∙ c.in-Some.ensures.found.1)
    (ap read_piece (sym sliced) ∙ c.in-Some.ensures.parsed) in
    (omega (arith, after.0, c.deref.ensures.len, ap length c.deref.ensures.value), after.1)

pub returns-clause-some : goal.returns-clause-some
returns-clause-some c =
    let sliced = whole c.self.inside.next c.deref.result.now c.self.inside.bytes.items c.deref.ensures.value in
    let after = after_first c.self.inside.next c.self.inside.count c.self.inside.bytes.items c.in-Some.datagram.now
    c.in-Some.field-0-1.now c.self.invariant.1 c.if-self-eq0.false (sym sliced ∙ c.in-Some.ensures.found.1)
    (ap read_piece (sym sliced) ∙ c.in-Some.ensures.parsed) in
    record {
      first = c.in-Some.datagram.now;
      is = sym c.self.view_is ∙ after.2;
      bytes = cut_first c.in-Some.datagram.now c.copy_from_slice.new.self (drop c.min-length.result c.args.buffer.now)
          c.min-length.result (length c.args.buffer.now) (search rules) (search rules);
    }
