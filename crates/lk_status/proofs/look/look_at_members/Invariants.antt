use Rattle.lk_status.specs.Changes.{IsJudged}
use Rattle.lk_status.specs.Looks.{AsksAlike, AreLookedAt}
use Rattle.lk_status.proofs.look.look_at_members.Given as goal

-- the last look was judged by two rounds that were heard
abbrev pub invariant-looks : goal.invariant-looks
invariant-looks g l =
    AsksAlike l.initial.inquiry l.inquiry
    × IsJudged l.op l.look.earlier.items l.look.reports.items l.look.is_safe
    × AreLookedAt g.S.DatagramSocket.sent g.S.DatagramSocket.incoming g.S.DatagramSocket.failures
    g.S.DatagramSocket.is_observable l.inquiry l.look.earlier.items l.look.reports.items l.socket
