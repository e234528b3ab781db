use Rattle.std.proofs.Common.{rules, ◌≡◌, ◌∷◌, [], subst}
use Rattle.lk_sim.specs.Events.{IsRefused}
use Rattle.lk_random_schedules.specs.Transcripts.{kept_lines}
use Rattle.lk_random_schedules.proofs.Adding.{cut_back}
use Rattle.lk_random_schedules.proofs.Happening.{refused_by}
use Rattle.lk_random_schedules.proofs.transcript.Transcript.apply.Goals as goal

pub returns-in-Err-clause-skipped : goal.returns-in-Err-clause-skipped
returns-in-Err-clause-skipped g c = λ r is by.
    let same : c.in-Err.refused ≡ r = search (rules, is) in
    let refused = subst (λ q. IsRefused g.R.MemoryReplica.behaves c.args.world.now c.args.event q c.apply.new.self)
    same c.in-Err.ensures.refused in
    let nothing = refused_by g.R.MemoryReplica.behaves c.args.world.now c.apply.new.self c.args.event r by refused in (
      nothing.0,
      (
        nothing.1,
        search rules,
        cut_back c.args.self.now.is_kept c.args.self.now.text.items
            (kept_lines c.args.self.now.is_kept (c.args.event ∷ [])) c.truncate.new.self.items (search rules),
      ),
    )
