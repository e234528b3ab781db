use Rattle.std.proofs.Common.{◌≡◌, ◌∙◌, ◌∷◌, ◌+◌, ℕ, List, drop, suc, refl, sym, ap, subst, drop-cons, arith}
use Rattle.std.proofs.lemmas.List.{drop_all}
use Rattle.lk_types.specs.declared.member.Member.{Member}
use Rattle.lk_transport.specs.Listening.{ProbesMember, ProbesMembers}
use Rattle.lk_transport.specs.Posts.{SocketPostValue, send_state_of}
use Rattle.lk_transport.proofs.post.SocketPost.probe_members.Goals as goal

same : (n : ℕ) → suc n ≡ n + 1
same n = omega arith

pub members-init : goal.members-init
members-init g c = (λ book state p. p, (refl, refl, refl), λ t. refl, refl)

pub members-preserved : goal.members-preserved
members-preserved g c =
    let observable = g.S.DatagramSocket.is_observable in
    let ms = c.args.members.now in
    let old = c.members.self in
    let new = c.probe_member.new.self in
    let i = c.members.invariant in
    let p = c.probe_member.ensures in
    let m = c.member-item.result in
    let next : drop c.members.member-index ms ≡ m ∷ drop (c.members.member-index + 1) ms =
    drop-cons ms c.members.member-index m c.members-test.true
    ∙ ap (λ (x : Member). x ∷ drop (suc c.members.member-index) ms) (sym c.member-item.is)
    ∙ ap (λ (n : ℕ). m ∷ drop n ms) (same c.members.member-index) in
    let probes = subst (λ (n : ℕ). ProbesMember observable n c.args.asks_state m c.draw.result old.addresses
    new.addresses (send_state_of old) (send_state_of new)) (ap (λ (s : SocketPostValue). s.node) i.3) p.probes in (
      λ book state rest. i.0 book state
          (subst (λ (l : List Member). ProbesMembers observable c.args.self.now.node c.args.asks_state l
          old.addresses book (send_state_of old) state) (sym next)
          (c.draw.result, new.addresses, send_state_of new, probes, rest)),
      (p.network.0 ∙ i.1.0, p.network.1 ∙ i.1.1, p.network.2 ∙ i.1.2),
      λ t. p.still t ∙ i.2 t,
      p.others ∙ ap (λ (s : SocketPostValue). record s {
        addresses = new.addresses;
        sent = new.sent;
        socket_failures = new.socket_failures;
        incoming = new.incoming;
      }) i.3,
    )

pub returns-clause-probes : goal.returns-clause-probes
returns-clause-probes g c =
    let observable = g.S.DatagramSocket.is_observable in
    let none = drop_all c.members.member-index c.args.members.now c.members-test.false in
    c.members.invariant.0 c.members.self.addresses (send_state_of c.members.self)
    (subst (λ (l : List Member). ProbesMembers observable c.args.self.now.node c.args.asks_state l
    c.members.self.addresses c.members.self.addresses (send_state_of c.members.self) (send_state_of c.members.self))
    (sym none) (refl, refl))
