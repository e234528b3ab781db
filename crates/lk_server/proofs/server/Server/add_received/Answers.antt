use Rattle.std.proofs.Common.{rules, ◌≡◌, false, ap, refl}
use Rattle.lk_probe.specs.Neighbours.{is_stranger}
use Rattle.lk_auth.specs.Seals.{heard}
use Rattle.lk_address_book.specs.Addresses.{filter_of}
use Rattle.lk_address_book.specs.Filters.{is_filtered_out, is_beside_protocol, is_dropped}
use Rattle.lk_server.specs.StepNotes.{nothing}
use Rattle.lk_server.proofs.FilteredOut.{is_not_out}
use Rattle.lk_server.proofs.Asking.{keeps_strange}
use Rattle.lk_server.proofs.Carrying.{on_err}
use Rattle.lk_server.proofs.Gatherings.{heard_one, ends_heard}
use Rattle.lk_server.specs.Servers.{ServerValue}
use Rattle.lk_server.proofs.Noting.{noted_heard, notes_as, notes_none}
use Rattle.lk_server.proofs.server.Server.add_received.Goals as goal

pub returns-clause-adds : goal.returns-clause-adds
returns-clause-adds g c = λ yes.
    let beside : is_beside_protocol (heard c.args.self.now.addresses.seals c.in-Some.frame.now) ≡ false =
    search rules in
    let known : is_stranger c.args.self.now.addresses.neighbours c.in-Some.from ≡ false = search rules in
    let taken : is_dropped (filter_of c.args.self.now.addresses)
    (heard c.args.self.now.addresses.seals c.in-Some.frame.now) ≡ false = search rules in
    let apart : is_filtered_out (filter_of c.args.self.now.addresses) (c.in-Some.from, c.in-Some.frame.now) ≡ false =
    is_not_out (filter_of c.args.self.now.addresses) (c.in-Some.from, c.in-Some.frame.now) beside known taken in (
      (c.in-Some.from, c.in-Some.frame.now),
      c.in-Some.ensures.some,
      apart,
      heard_one g.R.ServerReplica.Gathers (c.in-Some.from, c.in-Some.frame.now)
          (c.in-Some.from, c.of-viewed.result) c.args.group.now c.add_datagram.new.group c.args.self.now
          c.record_sender-arrival.new.self c.add_datagram.new.self
          (search rules) apart (search rules) (search rules) (search rules) (search rules) (search rules)
          (search rules) (search rules) c.in_ok-add_datagram.ensures.adds,
    )

pub returns-in_err-add_datagram-clause-ends : goal.returns-in_err-add_datagram-clause-ends
returns-in_err-add_datagram-clause-ends g c =
    let beside : is_beside_protocol (heard c.args.self.now.addresses.seals c.in-Some.frame.now) ≡ false =
    search rules in
    let known : is_stranger c.args.self.now.addresses.neighbours c.in-Some.from ≡ false = search rules in
    let taken : is_dropped (filter_of c.args.self.now.addresses)
    (heard c.args.self.now.addresses.seals c.in-Some.frame.now) ≡ false = search rules in
    let apart : is_filtered_out (filter_of c.args.self.now.addresses) (c.in-Some.from, c.in-Some.frame.now) ≡ false =
    is_not_out (filter_of c.args.self.now.addresses) (c.in-Some.from, c.in-Some.frame.now) beside known taken in
    on_err c.from_residual.result (
      (c.in-Some.from, c.in-Some.frame.now),
      c.in-Some.ensures.some,
      apart,
      ends_heard g.R.ServerReplica.Says g.R.ServerReplica.Gathers (c.in-Some.from, c.in-Some.frame.now)
          (c.in-Some.from, c.of-viewed.result) c.args.group.now c.args.self.now
          c.record_sender-arrival.new.self c.add_datagram.new.self
          (search rules) apart (search rules) (search rules) (search rules) (search rules) (search rules)
          (search rules) (search rules) c.in_err-add_datagram.ensures.ends,
    )

pub returns-in-Some-stranger-clause-kept : goal.returns-in-Some-stranger-clause-kept
returns-in-Some-stranger-clause-kept g c = λ found.
    let beside : is_beside_protocol (heard c.args.self.now.addresses.seals c.in-Some.frame.now) ≡ false =
    search rules in
    keeps_strange c.args.self.now.addresses.seals
    (c.in-Some.from, c.in-Some.frame.now) c.args.buffer.now c.in-Some.ensures.some beside

pub returns-then-drops-clause-kept : goal.returns-then-drops-clause-kept
returns-then-drops-clause-kept g c = λ found.
    let beside : is_beside_protocol (heard c.args.self.now.addresses.seals c.in-Some.frame.now) ≡ false =
    search rules in
    keeps_strange c.args.self.now.addresses.seals
    (c.in-Some.from, c.in-Some.frame.now) c.args.buffer.now c.in-Some.ensures.some beside

pub returns-in_default-clause-notes : goal.returns-in_default-clause-notes
returns-in_default-clause-notes g c = nothing

pub returns-then-is_beside_protocol-clause-notes : goal.returns-then-is_beside_protocol-clause-notes
returns-then-is_beside_protocol-clause-notes g c = nothing

pub returns-in-Some-stranger-clause-notes : goal.returns-in-Some-stranger-clause-notes
returns-in-Some-stranger-clause-notes g c =
    let r = g.R.ServerReplica in
    let same : c.warn_of_stranger.new.self ≡ c.args.self.now = search rules in
    notes_none r.Takes r.KeepsDigest r.HasStatus c.args.group.now c.args.group.now c.args.self.now
    c.warn_of_stranger.new.self refl same

pub returns-then-drops-clause-notes : goal.returns-then-drops-clause-notes
returns-then-drops-clause-notes g c =
    let r = g.R.ServerReplica in
    let same : c.note_dropped.new.self ≡ c.args.self.now = search rules in
    notes_none r.Takes r.KeepsDigest r.HasStatus c.args.group.now c.args.group.now c.args.self.now
    c.note_dropped.new.self refl same

pub returns-clause-notes : goal.returns-clause-notes
returns-clause-notes g c =
    let r = g.R.ServerReplica in
    let s = c.record_sender-arrival in
    notes_as r.Takes r.KeepsDigest r.HasStatus c.args.group.now c.add_datagram.new.group c.args.self.now s.new.self
    c.add_datagram.new.self c.add_datagram.new.self (ap (λ (s : ServerValue _). s.replica) s.ensures.others)
    (noted_heard c.args.self.now s.new.self s.ensures.others s.ensures.network) refl refl
    c.in_ok-add_datagram.ensures.notes
