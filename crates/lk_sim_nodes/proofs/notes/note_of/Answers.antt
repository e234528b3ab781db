-- One tactic for each goal that a wrong body breaks.
use Rattle.std.proofs.Common.{rules}
use Rattle.lk_sim_nodes.proofs.notes.note_of.Goals as goal

pub returns-in-Node-default-Answer : goal.returns-in-Node-default-Answer
returns-in-Node-default-Answer c = search rules
