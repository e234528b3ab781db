use Rattle.std.proofs.Common.{subst}
use Rattle.std.proofs.lemmas.Result.{on_ok_weaker}
use Rattle.lk_types.specs.declared.command.Request.{Request as RequestValue}
use Rattle.lk_messages.specs.declared.message.Content.TheVariants as content
use Rattle.lk_world_progress.specs.Delivering.{Hears}
use Rattle.lk_healing.proofs.serving.propose.Goals as goal

pub returns-clause-ok : goal.returns-clause-ok
returns-clause-ok g c = on_ok_weaker c.hand.result (λ h. record {
  asked = c.ask.new.world;
  asks = c.in_ok-ask.ensures.ok;
  takes = subst (λ (q : RequestValue). Hears g.M.Machine.meaning g.M.Machine.IsText c.args.leader (content.Request q)
      c.ask.new.world c.hand.new.world) c.copy.ensures h;
}) c.hand.ensures.ok
