use Rattle.lk_node_events.proofs.Putting.{puts_both}
use Rattle.lk_node_events.proofs.story.Story.put_all.Goals as goal

pub returns : goal.returns
returns c = puts_both c.put_leads.ensures (puts_both c.put_members.ensures c.put_work.ensures)
