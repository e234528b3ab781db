use Rattle.lk_node_events.specs.Watches.{nothing, news}
use Rattle.lk_node_events.proofs.story.Story.put_leads.Goals as goal

pub returns : goal.returns
returns c = news c.ended.result c.ended.ensures c.put_some.ensures
    (news c.leads.result c.leads.ensures c.put_some-2.ensures
    (news c.follows.result c.follows.ensures c.put_some-3.ensures
    (news c.deaf.result c.deaf.ensures c.put_some-4.ensures
    (news c.hears.result c.hears.ensures c.put_some-5.ensures nothing))))
