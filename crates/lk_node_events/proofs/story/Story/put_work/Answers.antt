use Rattle.lk_node_events.specs.Watches.{nothing, news}
use Rattle.lk_node_events.proofs.story.Story.put_work.Goals as goal

pub returns : goal.returns
returns c = news c.wrote.result c.wrote.ensures c.put_some.ensures
    (news c.installed.result c.installed.ensures c.put_some-2.ensures
    (news c.unsent.result c.unsent.ensures c.put_some-3.ensures
    (news c.stranger.result c.stranger.ensures c.put_some-4.ensures
    (news c.foreign.result c.foreign.ensures c.put_some-5.ensures
    (news c.queue_full.result c.queue_full.ensures c.put_some-6.ensures
    (news c.names.result c.names.ensures c.put_some-7.ensures
    (news c.barred.result c.barred.ensures c.put_some-8.ensures
    (news c.unopened.result c.unopened.ensures c.put_some-9.ensures
    (news c.hosts.result c.hosts.ensures c.put_some-10.ensures
    (news c.apart.result c.apart.ensures c.put_some-11.ensures nothing))))))))))
