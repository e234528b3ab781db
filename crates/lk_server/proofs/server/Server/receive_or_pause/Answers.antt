use Rattle.std.proofs.Common.{rules, ◌≡◌, subst}
use Rattle.lk_transport.specs.Streams.{Stream, ComeWithin, listed}
use Rattle.lk_server.proofs.Waiting.{pauses_within}
use Rattle.lk_server.proofs.server.Server.receive_or_pause.Goals as goal

pub returns-clause-comes : goal.returns-clause-comes
returns-clause-comes g c telling =
    let last = c.receive_or_pause.new.buffer.last in
    let rest = c.receive_or_pause.new.post.incoming in
    let begun : c.self.inside.post.incoming ≡ c.args.self.now.incoming = search rules in
    subst (λ (s : Stream). ComeWithin 2 (listed last) s rest) begun
    (pauses_within _ last c.self.inside.post.incoming rest (c.receive_or_pause.ensures.comes telling))
