use Rattle.std.proofs.Common.{rules, arith, ◌≡◌, ◌<◌, Some, None, length, sym, refl}
use Rattle.std.proofs.lemmas.Grind.{common_steps}
use Rattle.std.specs.Prelude.{slice_get, slice_index_or}
use Rattle.lk_probe.specs.Neighbours.{Entries, entry_for}
use Rattle.lk_probe.proofs.Strangers.{read_there}
use Rattle.lk_probe.proofs.neighbours.Neighbours.readmit.Goals as goal

pub returns-in_default : goal.returns-in_default
returns-in_default c =
    let es : Entries = c.self.inside.entries in
    let at = c.entry_for-at.result in
    let within : at < length es = grind (arith, common_steps) in
    let read : slice_index_or es at c.result-1.given.0 ≡ None = search rules in
    let is : slice_get es at ≡ Some None = read_there es at None c.result-1.given.0 within (sym read) in
    let same : es ≡ c.args.self.now = search rules in
    let there : at ≡ entry_for c.args.address c.args.self.now = search rules in
    record {
      known = λ n e. absurd (cc (is, e, same, there));
      unknown = λ f. refl;
    }
