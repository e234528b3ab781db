use Rattle.std.proofs.Common.{rules, ◌≡◌, ◌∙◌, sym}
use Rattle.lk_hearing.specs.Probes.{hears}
use Rattle.lk_hearing.proofs.Heard.{to_heard, from_heard}
use Rattle.lk_hearing.proofs.hearing.Hearing.hears.Goals as goal

pub returns-clause-heard : goal.returns-clause-heard
returns-clause-heard c =
    let value : c.hears.result ≡ hears c.args.node c.args.now c.args.self.now.asked = search rules in (
      λ is. to_heard c.args.node c.args.now c.args.self.now.asked (sym value ∙ is),
      λ h. value ∙ from_heard c.args.node c.args.now c.args.self.now.asked h,
    )
