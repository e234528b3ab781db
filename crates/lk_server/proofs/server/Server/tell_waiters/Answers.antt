use Rattle.std.proofs.Common.{◌≡◌, [], ◌∷◌, ◌++◌, refl, sym, subst, inl, length-append}
use Rattle.std.proofs.Common.{arith}
use Rattle.lk_watch.specs.Seen.{standing_by}
use Rattle.lk_server.specs.Servers.{ServerValue}
use Rattle.lk_server.proofs.Telling.{told_more, told_all, envelopes_left}
use Rattle.lk_server.proofs.server.Server.tell_waiters.Goals as goal

pub envelopes-init : goal.envelopes-init
envelopes-init g c = ([], refl, c.queue_facts.ensures, (refl, refl, (λ t. refl), refl))

pub envelopes-preserved : goal.envelopes-preserved
envelopes-preserved g c =
    let i = c.envelopes.invariant in
    let next = c.tell_next.ensures.told (cc c.if-not-tell_next.false) in (
      i.0 ++ next.envelope ∷ [],
      omega (arith, i.1, length-append i.0 (next.envelope ∷ [])),
      i.2,
      told_more (λ r. standing_by (g.R.ServerReplica.table r) c.args.seen.now) g.S.DatagramSocket.is_observable i.0
          c.args.self.now c.envelopes.self c.tell_next.new.self i.3 next c.tell_next.ensures.still
          c.tell_next.ensures.others,
    )

pub returns-then-not-tell_next-clause-tells : goal.returns-then-not-tell_next-clause-tells
returns-then-not-tell_next-clause-tells g c =
    let i = c.envelopes.invariant in
    let n = c.tell_next.ensures.none (cc c.if-not-tell_next.true) in
    told_all (λ r. standing_by (g.R.ServerReplica.table r) c.args.seen.now) g.S.DatagramSocket.is_observable i.0
    c.args.self.now c.envelopes.self
    c.tell_next.new.self i.3 n.0 n.1

pub returns-then-not-tell_next-clause-still : goal.returns-then-not-tell_next-clause-still
returns-then-not-tell_next-clause-still g c = λ t.
    let i = c.envelopes.invariant in
    let n = c.tell_next.ensures.none (cc c.if-not-tell_next.true) in
    subst (λ (s : ServerValue _). s.incoming ≡ c.args.self.now.incoming) (sym n.1) (i.3.2 t)

pub returns-clause-tells : goal.returns-clause-tells
returns-clause-tells g c =
    let i = c.envelopes.invariant in
    let all : c.envelopes.counter ≡ 64 = omega arith in
    let left = envelopes_left (standing_by (g.R.ServerReplica.table c.args.self.now.replica) c.args.seen.now) i.0
    c.args.self.now.waiting.queue c.envelopes.self.waiting.queue i.3.0 in
    told_all (λ r. standing_by (g.R.ServerReplica.table r) c.args.seen.now) g.S.DatagramSocket.is_observable i.0
    c.args.self.now c.envelopes.self
    c.envelopes.self i.3 (inl (omega (arith, left, i.1, i.2, all))) refl

pub returns-clause-still : goal.returns-clause-still
returns-clause-still g c = c.envelopes.invariant.3.2

pub returns-clause-others : goal.returns-clause-others
returns-clause-others g c = c.envelopes.invariant.3.3
