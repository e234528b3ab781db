use Rattle.std.proofs.Common.{rules, ◌≡◌, refl}
use Rattle.lk_server.proofs.Noting.{notes_none}
use Rattle.lk_server.proofs.server.Server.add_loopback.Goals as goal

pub returns-in_default-clause-notes : goal.returns-in_default-clause-notes
returns-in_default-clause-notes g c =
    let r = g.R.ServerReplica in
    let same : c.next_envelope.new.self ≡ c.args.self.now = search rules in
    notes_none r.Takes r.KeepsDigest r.HasStatus c.args.group.now c.args.group.now c.args.self.now
    c.next_envelope.new.self refl same
