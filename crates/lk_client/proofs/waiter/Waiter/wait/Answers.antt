use Rattle.std.proofs.Common.{None, refl, subst}
use Rattle.lk_client.specs.Waiters.{StaysAfter}
use Rattle.lk_client.specs.Waits.{TriesOnce}
use Rattle.lk_client.specs.declared.attempts.Step.{Step}
use Rattle.lk_client.proofs.Lasting.{concludes_nothing, later_more, number_more, numbered_none, tried_sends}
use Rattle.lk_client.proofs.Lasting.{tries_more, waits_end, waits_send}
use Rattle.lk_client.proofs.waiter.Waiter.wait.Goals as goal

pub tries-init : goal.tries-init
tries-init g c = (c.requires, numbered_none c.args.question.now, λ tells. refl)

pub try_once-requires : goal.try_once-requires
try_once-requires g c = c.tries.invariant.0.0

pub returns-in_err-number-clause-sends : goal.returns-in_err-number-clause-sends
returns-in_err-number-clause-sends g c tells =
    tried_sends g.S.DatagramSocket.sent g.S.DatagramSocket.incoming c.args.question.now c.tries.question
    c.tries.counter c.tries.invariant.1 c.tries.self.is_watching c.tries.invariant.0.1 c.args.socket.now
    c.tries.socket (c.tries.invariant.2 tells) c.try_once.new.socket
    c.in_err-number.ensures.err

pub returns-in-Over-clause-sends : goal.returns-in-Over-clause-sends
returns-in-Over-clause-sends g c tells =
    waits_send g.S.DatagramSocket.sent g.S.DatagramSocket.incoming c.args.question.now c.tries.question.request.number
    c.in-Over.reply c.args.socket.now c.try_once.new.socket
    (waits_end g.S.DatagramSocket.sent g.S.DatagramSocket.incoming c.args.question.now c.tries.question
    c.tries.counter c.tries.invariant.1 c.tries.self.is_watching c.tries.invariant.0.1 c.args.socket.now
    c.tries.socket (c.tries.invariant.2 tells) c.in-Over.reply
    c.try_once.new.socket
    (subst (λ (s : Step). TriesOnce g.S.DatagramSocket.sent g.S.DatagramSocket.incoming
    c.tries.self.is_watching c.tries.question s c.tries.socket c.try_once.new.socket)
    c.in-Over.is (c.in_ok-number.ensures.tries tells)))

pub returns-in-Over-clause-waits : goal.returns-in-Over-clause-waits
returns-in-Over-clause-waits g c tells =
    waits_end g.S.DatagramSocket.sent g.S.DatagramSocket.incoming c.args.question.now c.tries.question
    c.tries.counter c.tries.invariant.1 c.tries.self.is_watching c.tries.invariant.0.1 c.args.socket.now
    c.tries.socket (c.tries.invariant.2 tells) c.in-Over.reply
    c.try_once.new.socket
    (subst (λ (s : Step). TriesOnce g.S.DatagramSocket.sent g.S.DatagramSocket.incoming
    c.tries.self.is_watching c.tries.question s c.tries.socket c.try_once.new.socket)
    c.in-Over.is (c.in_ok-number.ensures.tries tells))

pub tries-preserved : goal.tries-preserved
tries-preserved g c = (
  (
    (subst (λ (s : Step). StaysAfter c.tries.question s c.try_once.new.self) c.in-Again.is
        c.in_ok-number.ensures.stays).1.0,
    later_more c.tries.counter c.try_once.new.self.is_watching
        (subst (λ (s : Step). StaysAfter c.tries.question s c.try_once.new.self) c.in-Again.is
        c.in_ok-number.ensures.stays).1.1,
  ),
  number_more c.args.question.now c.tries.question c.tries.counter c.in-Again.number c.tries.invariant.1
      (subst (λ (s : Step). StaysAfter c.tries.question s c.try_once.new.self) c.in-Again.is
      c.in_ok-number.ensures.stays).0,
  λ tells.
      tries_more g.S.DatagramSocket.sent g.S.DatagramSocket.incoming c.args.question.now c.tries.question
      c.tries.counter c.tries.invariant.1 c.tries.self.is_watching c.tries.invariant.0.1 c.args.socket.now
      c.tries.socket (c.tries.invariant.2 tells)
      c.try_once.new.socket
      (subst (λ (s : Step). TriesOnce g.S.DatagramSocket.sent g.S.DatagramSocket.incoming
      c.tries.self.is_watching c.tries.question s c.tries.socket c.try_once.new.socket)
      c.in-Again.is (c.in_ok-number.ensures.tries tells)),
)

pub returns-clause-sends : goal.returns-clause-sends
returns-clause-sends g c tells =
    tried_sends g.S.DatagramSocket.sent g.S.DatagramSocket.incoming c.args.question.now c.tries.question
    c.tries.counter c.tries.invariant.1 c.tries.self.is_watching c.tries.invariant.0.1 c.args.socket.now
    c.tries.socket (c.tries.invariant.2 tells) c.tries.socket refl

pub returns-clause-waits : goal.returns-clause-waits
returns-clause-waits g c tells =
    waits_end g.S.DatagramSocket.sent g.S.DatagramSocket.incoming c.args.question.now c.tries.question
    c.tries.counter c.tries.invariant.1 c.tries.self.is_watching c.tries.invariant.0.1 c.args.socket.now
    c.tries.socket (c.tries.invariant.2 tells) None c.tries.socket
    (concludes_nothing g.S.DatagramSocket.sent g.S.DatagramSocket.incoming c.tries.self.is_watching c.tries.question
    c.tries.socket)
