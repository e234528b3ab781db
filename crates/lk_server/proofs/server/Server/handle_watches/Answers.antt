use Rattle.std.proofs.Common.{◌≡◌, true, false, Option, [], inl, inr, refl, subst}
use Rattle.lk_transport.specs.declared.received_watch.ReceivedWatch.{ReceivedWatch}
use Rattle.lk_server.specs.WatchHandling.{HandlesWatches}
use Rattle.lk_server.proofs.Telling.{served}
use Rattle.lk_server.proofs.server.Server.handle_watches.Goals as goal

pub returns-then-is_quiet-clause-acts : goal.returns-then-is_quiet-clause-acts
returns-then-is_quiet-clause-acts g c =
    let q = c.is_quiet.ensures (cc c.if-is_quiet.true) in
    let t = c.pop_watch-watched.ensures in
    subst (λ (w : Option ReceivedWatch). HandlesWatches g.R.ServerReplica.table g.R.ServerReplica.Shows
    g.S.DatagramSocket.is_observable w c.args.self.now c.args.self.now) t.value
    (inl (record { none = q.0; nothing = inl q.1; same = refl }))

pub returns-then-has_nothing_new-clause-acts : goal.returns-then-has_nothing_new-clause-acts
returns-then-has_nothing_new-clause-acts g c =
    let q = c.has_nothing_new.ensures (cc c.if-has_nothing_new.true) in
    let t = c.pop_watch-watched.ensures in
    subst (λ (w : Option ReceivedWatch). HandlesWatches g.R.ServerReplica.table g.R.ServerReplica.Shows
    g.S.DatagramSocket.is_observable w c.args.self.now c.args.self.now) t.value
    (inl (record { none = q.0; nothing = inr (c.moment-moment.result, c.moment-moment.ensures, q.1); same = refl }))

pub returns-then-moment-clause-acts : goal.returns-then-moment-clause-acts
returns-then-moment-clause-acts g c =
    let table = g.R.ServerReplica.table in
    let shows = g.R.ServerReplica.Shows in
    let observable = g.S.DatagramSocket.is_observable in
    let t = c.pop_watch-watched.ensures in
    let a = c.answer_watch.ensures in
    let w = c.tell_waiters.ensures in
    let yes : c.moment-moment.result.speaks ≡ true = cc c.if-moment.true in
    subst (λ (o : Option ReceivedWatch). HandlesWatches table shows observable o c.args.self.now
    c.tell_waiters.new.self) t.value
    (inr (served table shows observable _ c.look-seen.result c.moment-moment.result c.args.self.now
    c.begin_watches.new.self c.answer_watch.new.self c.tell_waiters.new.self c.begin_watches.ensures
    c.look-seen.ensures c.moment-moment.ensures a.answers a.still a.others (rw yes w.tells) w.still w.others))

pub returns-clause-acts : goal.returns-clause-acts
returns-clause-acts g c =
    let table = g.R.ServerReplica.table in
    let shows = g.R.ServerReplica.Shows in
    let observable = g.S.DatagramSocket.is_observable in
    let t = c.pop_watch-watched.ensures in
    let a = c.answer_watch.ensures in
    let new = c.answer_watch.new.self in
    let silent : c.moment-moment.result.speaks ≡ false = cc c.if-moment.false in
    subst (λ (o : Option ReceivedWatch). HandlesWatches table shows observable o c.args.self.now new) t.value
    (inr (served table shows observable _ c.look-seen.result c.moment-moment.result c.args.self.now
    c.begin_watches.new.self new new c.begin_watches.ensures c.look-seen.ensures c.moment-moment.ensures a.answers
    a.still a.others (rw silent (record { envelopes = []; tells = (refl, refl); sends = refl })) (λ t. refl) refl))
