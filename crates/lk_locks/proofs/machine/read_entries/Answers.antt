use Rattle.std.specs.Prelude.{IsErrOf}
use Rattle.lk_state.specs.declared.machine.UnpackFault.{UnpackFault}
use Rattle.lk_state.specs.declared.machine.UnpackFault.TheVariants.{NotPacked}
use Rattle.std.proofs.Common.{Err, ◌≡◌, ◌+◌, ◌-◌, [], ◌∷◌, ◌++◌, ap, sym, refl, ◌∙◌}
use Rattle.std.proofs.lemmas.Result.{err_from_is_err_and}
use Rattle.std.specs.Cmp.Lexicographic.{slice_cmp}
use Rattle.std.specs.Ordering.{nat_cmp}
use Rattle.std.specs.FinMap as map
use Rattle.lk_codec.specs.Parser.{many}
use Rattle.lk_codec.proofs.Spellings.{goes_on}
use Rattle.std.proofs.Common.{Bool}
use Rattle.lk_locks.specs.Holders.{is_kept}
use Rattle.lk_locks.specs.Packed.{read_entry}
use Rattle.lk_locks.specs.declared.lock_entry.LockEntry.{LockEntry}
use Rattle.lk_locks.proofs.TableLaws.{starts, one_longer, falls}
use Rattle.lk_locks.proofs.machine.read_entries.Goals as goal

pub loop-init : goal.loop-init
loop-init c = rw c.new-table.ensures
    (record {
      so_far = starts c.args.raised c.args.count c.args.bytes.now;
      size = map.len-empty (slice_cmp nat_cmp) LockEntry;
      version = refl;
    })

pub loop-preserved : goal.loop-preserved
loop-preserved c = record {
  so_far = rw c.in_ok-push.ensures.ok
      (goes_on (read_entry c.args.raised) (map.entries c.loop.table.names) c.args.count c.loop.counter c.loop.rest.now
      (c.in-Some.name, c.in-Some.lock_entry) c.in-Some.after.now
      (many (read_entry c.args.raised) c.args.count c.args.bytes.now) c.loop-test.true c.in-Some.ensures.read
      c.loop.invariant.so_far);
  size = one_longer c.loop.table.names c.push.new.self.names
      (c.in-Some.name, c.in-Some.lock_entry) c.loop.counter c.in_ok-push.ensures.ok c.loop.invariant.size;
  version = c.in_ok-push.ensures.version ∙ c.loop.invariant.version;
}

same_fault : {T U : Type 0} (x y z : UnpackFault) → IsErrOf {T = T} (Err x) z → x ≡ y → IsErrOf {T = U} (Err y) z
same_fault x y z e f = let p : x ≡ z = cc in ap Err (sym f ∙ p)

pub returns-in_err-push-clause-not_packed : goal.returns-in_err-push-clause-not_packed
returns-in_err-push-clause-not_packed c =
    let p = err_from_is_err_and c.from_residual.result c.from_residual.ensures.1 in
    λ e.
    let stopped = c.in_err-push.ensures.not_packed
    (same_fault p.0 c.in_err-push.field-0.0 NotPacked (sym p.1 ∙ e) p.2) in
    falls (map.entries c.loop.table.names ++ (c.in-Some.name, c.in-Some.lock_entry) ∷ [])
    (many (read_entry c.args.raised) (c.args.count - (c.loop.counter + 1)) c.in-Some.after.now)
    (many (read_entry c.args.raised) c.args.count c.args.bytes.now) stopped
    (goes_on (read_entry c.args.raised) (map.entries c.loop.table.names) c.args.count c.loop.counter c.loop.rest.now
    (c.in-Some.name, c.in-Some.lock_entry) c.in-Some.after.now
    (many (read_entry c.args.raised) c.args.count c.args.bytes.now) c.loop-test.true
    c.in-Some.ensures.read c.loop.invariant.so_far)

pub push-requires-clause-kept : goal.push-requires-clause-kept
push-requires-clause-kept c =
    ap (λ (b : Bool). is_kept b c.in-Some.lock_entry.holders) c.loop.invariant.version ∙ c.in-Some.ensures.kept
