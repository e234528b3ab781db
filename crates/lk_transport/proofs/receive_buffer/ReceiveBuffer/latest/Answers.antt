use Rattle.std.proofs.Common.{◌≤◌, ℕ, Option, subst}
use Rattle.std.specs.Prelude.{IfSome}
use Rattle.std.specs.declared.net.socket_addr.SocketAddr.{SocketAddr}
use Rattle.lk_transport.proofs.receive_buffer.ReceiveBuffer.latest.Goals as goal

pub shared_ref_as_front-result : goal.shared_ref_as_front-result
shared_ref_as_front-result c =
    subst (λ (o : Option (ℕ × SocketAddr)). IfSome o (λ l. l.0 ≤ 16421)) c.in-Some.is c.self.invariant
