use Rattle.lk_guarantees.proofs.Clauses.{guaranteed, compacts, on_ok, if_err, done, not_done, ends}
use Rattle.lk_guarantees.proofs.world.apply.Goals as goal

pub returns-clause-guaranteed : goal.returns-clause-guaranteed
returns-clause-guaranteed c = guaranteed c.apply.new.self c.apply.ensures.guaranteed

pub returns-clause-does : goal.returns-clause-does
returns-clause-does c = on_ok _ _ _ (done c.args.world.now c.apply.new.self c.args.event) c.apply.ensures.does

pub returns-clause-ends : goal.returns-clause-ends
returns-clause-ends c = on_ok _ _ _ (ends c.args.world.now c.apply.new.self c.args.event) c.apply.ensures.does

pub returns-clause-refused : goal.returns-clause-refused
returns-clause-refused c =
    if_err _ _ _ (not_done c.args.world.now c.apply.new.self c.args.event) c.apply.ensures.refused

pub returns-clause-compacts : goal.returns-clause-compacts
returns-clause-compacts c = on_ok _ _ _ (compacts c.args.event c.apply.new.self) c.apply.ensures.packed
