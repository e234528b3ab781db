-- What is listed and what is left are all of them.
use Rattle.std.proofs.Common.{◌≡◌, ◌+◌, ◌++◌, length}
use Rattle.lk_wire.proofs.viewing.decided.Commands.to_vec.Given as goal

abbrev pub invariant-loop : goal.invariant-loop
invariant-loop l = record {
  all : l.list.items ++ l.rest ≡ l.fn.self;
  left : length l.rest + l.counter ≡ length l.fn.self;
}
