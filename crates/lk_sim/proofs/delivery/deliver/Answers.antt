use Rattle.std.proofs.Common.{rules, ◌≡◌, ◌∙◌, Some, [], refl, inr, ap, subst}
use Rattle.lk_agreement_laws.specs.Datagrams.{Datagram}
use Rattle.lk_agreement_laws.specs.declared.party.Party.TheVariants as party
use Rattle.lk_node_interface.specs.declared.input.Input.TheVariants.{Datagram as Heard}
use Rattle.lk_sim.specs.Events.{IsGiven, IsHalted, IsRefused, LeftBy}
use Rattle.lk_sim.specs.Refusals.{HasRoom, datagram_at}
use Rattle.lk_sim_nodes.specs.SimNodes.{IsUpAt}
use Rattle.lk_sim.specs.Worlds.{world_state_of}
use Rattle.lk_sim.specs.declared.event.Event.TheVariants as event
use Rattle.lk_sim_nodes.specs.declared.refused.Refused.TheVariants.{WorldMemory}
use Rattle.lk_sim.proofs.Hearing.{heard_delivered, one_datagram}
use Rattle.lk_sim.proofs.delivery.deliver.Goals as goal

pub give-requires-clause-heard : goal.give-requires-clause-heard
give-requires-clause-heard g c =
    let p = c.args.parts.now in
    let b = c.in_ok-bytes.ensures in
    let same : c.deref.result.now ≡ c.in_ok-bytes.bytes.items = search rules in
    heard_delivered _ _ _ p.genesis p.sim_nodes.items p.sent.items p.trace.items c.requires c.args.k b.0 b.1 c.of.result
    (c.of.ensures ∙ same ∙ b.2)

pub returns-in_err-give-clause-err : goal.returns-in_err-give-clause-err
returns-in_err-give-clause-err g c =
    let p = c.args.parts.now in
    let n = c.in_ok-number.number in
    let d : (d : Datagram) × (datagram_at p.sent.items c.args.k ≡ Some d) × (d.to ≡ party.Node n) = search rules in
    let u : IsUpAt p.sim_nodes.items c.in_ok-i.i n × HasRoom p.sent.items = search rules in
    let b = c.in_ok-bytes.ensures in
    let same : c.deref.result.now ≡ c.in_ok-bytes.bytes.items = search rules in
    let bytes : c.of.result ≡ d.0.bytes = c.of.ensures ∙ same ∙ b.2
    ∙ ap (λ (z : Datagram). z.bytes) (one_datagram p.sent.items c.args.k b.0 d.0 b.1 d.1) in
    let halted = subst (λ l. IsHalted (LeftBy g.R.MemoryReplica.behaves (Heard l)) (world_state_of p)
    (world_state_of c.give.new.parts) n) bytes (c.in_err-give.ensures.halted n u.0) in
    let k : IsRefused g.R.MemoryReplica.behaves (world_state_of p) (event.Deliver c.args.k) WorldMemory
    (world_state_of c.give.new.parts) =
    inr (
      refl,
      (d.0, n, d.1, d.2, ((u.0.1, (c.in_ok-i.i, u.0.0, u.0.2, u.0.3, u.0.4)), u.1)),
      inr (n, d.0, d.1, d.2, halted),
    ) in
    search rules

pub returns-clause-ok : goal.returns-clause-ok
returns-clause-ok g c =
    let p = c.args.parts.now in
    let n = c.in_ok-number.number in
    let d : (d : Datagram) × (datagram_at p.sent.items c.args.k ≡ Some d) × (d.to ≡ party.Node n) = search rules in
    let u : IsUpAt p.sim_nodes.items c.in_ok-i.i n × HasRoom p.sent.items = search rules in
    let b = c.in_ok-bytes.ensures in
    let same : c.deref.result.now ≡ c.in_ok-bytes.bytes.items = search rules in
    let bytes : c.of.result ≡ d.0.bytes = c.of.ensures ∙ same ∙ b.2
    ∙ ap (λ (z : Datagram). z.bytes) (one_datagram p.sent.items c.args.k b.0 d.0 b.1 d.1) in (
      (d.0, n, d.1, d.2, ((u.0.1, (c.in_ok-i.i, u.0.0, u.0.2, u.0.3, u.0.4)), u.1)),
      record {
        datagram = d.0;
        stands = d.1;
        node = n;
        bound = d.2;
        given = subst (λ l. IsGiven g.R.MemoryReplica.behaves (world_state_of p) (world_state_of c.give.new.parts) n
            (Heard l) [])
            bytes (c.in_ok-give.ensures.given n u.0);
      },
    )
