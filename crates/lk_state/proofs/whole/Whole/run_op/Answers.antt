-- A raised machine's text is one.
use Rattle.std.proofs.Common.{subst, sym, rules}
use Rattle.lk_state.specs.Meanings.{Raising}
use Rattle.lk_state.proofs.whole.Whole.run_op.Goals as goal

pub invariant_of-self-in-Raise-1 : goal.invariant_of-self-in-Raise-1
invariant_of-self-in-Raise-1 g c = record {
  roster = c.facts-in-Raise.ensures;
  sessions = c.self.invariant.sessions;
  text = subst g.M.Machine.IsText (sym (c.raise-answer.ensures.next c.args.client))
      (g.met.M.Machine.next_is_text c.args.client Raising
      (g.M.Machine.text c.self.inside.machine) c.get.ensures.in_range c.self.invariant.text);
}

pub returns-in-Join-clause-ok : goal.returns-in-Join-clause-ok
returns-in-Join-clause-ok g c = search rules
