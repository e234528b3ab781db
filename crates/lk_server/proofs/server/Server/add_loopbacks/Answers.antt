use Rattle.std.proofs.Common.{◌≡◌, [], ◌∷◌, ◌++◌, refl, ap, sym, ◌∙◌, append_assoc, length-append, arith}
use Rattle.lk_server.specs.Servers.{ServerValue}
use Rattle.lk_server.specs.StepNotes.{nothing}
use Rattle.lk_server.proofs.Carrying.{on_err}
use Rattle.lk_server.proofs.Noting.{notes_both}
use Rattle.lk_server.proofs.Gatherings.{takes_nothing, own_stops, own_fills, own_goes, own_breaks}
use Rattle.lk_server.proofs.server.Server.add_loopbacks.Goals as goal

pub envelopes-init : goal.envelopes-init
envelopes-init g c = (
  [],
  refl,
  refl,
  takes_nothing g.R.ServerReplica.Gathers c.args.group.now c.args.group.now c.args.self.now c.args.self.now refl refl,
  refl,
  nothing,
)

pub envelopes-preserved : goal.envelopes-preserved
envelopes-preserved g c =
    let i = c.envelopes.invariant in
    let t = c.in_ok-add_loopback.ensures.adds (cc c.if-not-branch.false) in
    let new = c.add_loopback.new.self in (
      i.0 ++ t.0 ∷ [],
      i.1 ∙ ap (λ l. i.0 ++ l) t.1 ∙ sym (append_assoc i.0 (t.0 ∷ []) new.loopback),
      omega (arith, i.2, length-append i.0 (t.0 ∷ [])),
      own_goes g.R.ServerReplica.Gathers i.0 t.0 c.args.group.now c.envelopes.group c.add_loopback.new.group
          c.args.self.now c.envelopes.self new i.3 t.2,
      c.add_loopback.ensures.others
          ∙ ap (λ (s : ServerValue _). record s {
            replica = new.replica;
            failed = new.failed;
            digest = new.digest;
            quiet = new.quiet;
            fed = new.fed;
            received = new.received;
            ticks = new.ticks;
            loopback = new.loopback;
          }) i.4,
      notes_both g.R.ServerReplica.Takes g.R.ServerReplica.KeepsDigest g.R.ServerReplica.HasStatus c.args.group.now
          c.envelopes.group
          c.add_loopback.new.group c.args.self.now c.envelopes.self new i.5 c.in_ok-add_loopback.ensures.notes,
    )

pub returns-then-not-branch-clause-adds : goal.returns-then-not-branch-clause-adds
returns-then-not-branch-clause-adds g c =
    let i = c.envelopes.invariant in
    let n = c.in_ok-add_loopback.ensures.none (cc c.if-not-branch.true) in
    own_stops g.R.ServerReplica.Gathers i.0 c.args.group.now c.envelopes.group c.add_loopback.new.group c.args.self.now
    c.envelopes.self c.add_loopback.new.self i.1 (omega (arith, i.2, c.envelopes-test.true)) i.3 n.0 n.1 n.2

pub returns-clause-adds : goal.returns-clause-adds
returns-clause-adds g c =
    let i = c.envelopes.invariant in
    let all : c.envelopes.counter ≡ 63 = omega arith in
    own_fills g.R.ServerReplica.Gathers i.0 c.args.group.now c.envelopes.group c.args.self.now
    c.envelopes.self i.1 (i.2 ∙ all) i.3

pub returns-in_err-add_loopback-clause-ends : goal.returns-in_err-add_loopback-clause-ends
returns-in_err-add_loopback-clause-ends g c =
    let i = c.envelopes.invariant in
    let e = c.in_err-add_loopback.ensures.ends in
    on_err c.from_residual.result
    (own_breaks g.R.ServerReplica.Says g.R.ServerReplica.Gathers i.0 e.0 c.args.group.now c.envelopes.group
    c.args.self.now c.envelopes.self c.add_loopback.new.self i.1
    (omega (arith, i.2, c.envelopes-test.true)) e.1 i.3 e.2)

pub returns-then-not-branch-clause-notes : goal.returns-then-not-branch-clause-notes
returns-then-not-branch-clause-notes g c =
    let r = g.R.ServerReplica in
    notes_both r.Takes r.KeepsDigest r.HasStatus c.args.group.now c.envelopes.group c.add_loopback.new.group
    c.args.self.now
    c.envelopes.self c.add_loopback.new.self c.envelopes.invariant.5 c.in_ok-add_loopback.ensures.notes

pub returns-clause-notes : goal.returns-clause-notes
returns-clause-notes g c = c.envelopes.invariant.5
