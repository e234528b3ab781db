use Rattle.std.proofs.Common.{◌≡◌, false}
use Rattle.lk_status.specs.Rounds.{AreHeard}
use Rattle.lk_status_command.proofs.status.wait_until_ready.Given as goal

-- the last round has reports of its own, and does not show yet what is waited for
abbrev pub invariant-rounds : goal.invariant-rounds
invariant-rounds g l =
    (AreHeard g.S.DatagramSocket.sent g.S.DatagramSocket.incoming g.S.DatagramSocket.failures l.inquiry l.round.first
    g.S.DatagramSocket.is_observable l.round.reports.items l.socket)
    × (l.round.is_ready ≡ false)
