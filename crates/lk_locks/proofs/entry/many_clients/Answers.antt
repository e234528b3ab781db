-- Reading goes on where it stopped.
use Rattle.std.proofs.Common.{◌≡◌, ℕ, ◌+◌, ◌-◌, List, [], ◌∷◌, ◌++◌, length, ap, sym, subst, ◌∙◌, length-append}
use Rattle.lk_codec.specs.Parser.{many}
use Rattle.lk_codec.specs.FieldReading.{read_client}
use Rattle.lk_codec.proofs.Spellings.{with_front, goes_on, ends}
use Rattle.lk_locks.proofs.entry.many_clients.Goals as goal

one_longer : (cs ds : List ℕ) (c i : ℕ) → ds ≡ cs ++ c ∷ [] → length cs ≡ i → length ds ≡ i + 1
one_longer cs ds c i e is = ap length e ∙ length-append cs (c ∷ []) ∙ ap (λ (n : ℕ). n + 1) is

pub returns-in_default : goal.returns-in_default
returns-in_default c = record {
  read =
      ends read_client c.loop.clients.items c.args.count c.loop.counter c.loop.rest.now
      (many read_client c.args.count c.args.bytes.now) c.loop-test.true
      c.in_default.ensures.parsed c.loop.invariant.read;
  count = tt;
}

pub loop-preserved : goal.loop-preserved
loop-preserved c = record {
  read = subst (λ (cs : List ℕ). with_front cs
      (many read_client (c.args.count - (c.loop.counter + 1)) c.in-Some.found.1.now)
      ≡ many read_client c.args.count c.args.bytes.now) (sym c.push.ensures)
      (goes_on read_client c.loop.clients.items c.args.count c.loop.counter c.loop.rest.now c.in-Some.found.0
      c.in-Some.found.1.now (many read_client c.args.count c.args.bytes.now) c.loop-test.true
      c.in-Some.ensures.parsed c.loop.invariant.read);
  count = one_longer c.loop.clients.items c.push.new.clients.items c.in-Some.found.0 c.loop.counter
      c.push.ensures c.loop.invariant.count;
}
