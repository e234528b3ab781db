use Rattle.std.proofs.Common.{◌≡◌, ◌∙◌, [], arith, refl, sym}
use Rattle.lk_client.proofs.Receiving.{receives_more, receives_told, receives_none}
use Rattle.lk_client.proofs.question.ask_place.Goals as goal

pub receives-init : goal.receives-init
receives-init g c = (c.requires, λ tells. record { states = []; are = refl; chain = refl })

pub receives-preserved : goal.receives-preserved
receives-preserved g c = (
  c.receive_next-reply.ensures.most c.receives.invariant.0,
  λ tells.
      receives_more c.receive_next-reply.result (sym c.is_some.ensures ∙ c.if-is_some.false) refl
      (c.receives.invariant.1 tells) (c.receive_next-reply.ensures.heard tells),
)

pub returns-then-is_some-clause-tries : goal.returns-then-is_some-clause-tries
returns-then-is_some-clause-tries g c tells = record {
  asked_on = c.send.new.socket;
  asks = c.send.ensures.once tells;
  waits = receives_told c.receive_next-reply.result (sym c.is_some.ensures
      ∙ c.if-is_some.true) refl c.receives-test.true
      (c.receives.invariant.1 tells) (c.receive_next-reply.ensures.heard tells);
}

pub returns-clause-tries : goal.returns-clause-tries
returns-clause-tries g c tells =
    let all : c.receives.counter ≡ c.args.patience = omega arith in
    record {
      asked_on = c.send.new.socket;
      asks = c.send.ensures.once tells;
      waits = receives_none all (c.receives.invariant.1 tells);
    }
