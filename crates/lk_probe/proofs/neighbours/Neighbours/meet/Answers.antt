use Rattle.std.proofs.Common.{rules, arith, ◌≡◌, ◌<◌, ◌∙◌, Some, length, ap}
use Rattle.std.proofs.lemmas.Grind.{common_steps}
use Rattle.std.specs.Prelude.{slice_get, slice_index_or, slice_set}
use Rattle.lk_probe.specs.Neighbours.{Entries, having_met, is_stranger}
use Rattle.lk_probe.specs.declared.neighbours.Neighbour.{Neighbour}
use Rattle.lk_probe.proofs.Strangers.{met_strangers, read_there}
use Rattle.lk_probe.proofs.neighbours.Neighbours.meet.Goals as goal

pub returns-then-at-lt-MAX_NEIGHBOURS-clause-strangers : goal.returns-then-at-lt-MAX_NEIGHBOURS-clause-strangers
returns-then-at-lt-MAX_NEIGHBOURS-clause-strangers c =
    let es : Entries = c.self.inside.entries in
    let within : c.entry_for-at.result < length es = grind (arith, common_steps) in
    let read : c.index-self-at.result ≡ slice_index_or es c.entry_for-at.result c.index-self-at.result = search rules in
    let is : slice_get es c.entry_for-at.result ≡ Some c.index-self-at.result =
    read_there es c.entry_for-at.result c.index-self-at.result c.index-self-at.result within read in
    let met : c.having_met.result ≡ having_met c.args.address c.args.binds c.index-self-at.result = search rules in
    let same : es ≡ c.args.self.now = search rules in
    ap (λ (n : Neighbour). is_stranger (slice_set es c.entry_for-at.result (Some n))) met
    ∙ met_strangers es c.entry_for-at.result c.index-self-at.result c.args.address c.args.binds is
    ∙ ap is_stranger same
