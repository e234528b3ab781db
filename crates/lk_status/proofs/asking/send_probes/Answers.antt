use Rattle.std.proofs.Common.{rules, ◌≡◌, ◌∙◌, ◌∷◌, ◌+◌, ℕ, List, drop, suc, refl, sym, ap, subst, drop-cons, arith}
use Rattle.std.proofs.lemmas.List.{drop_all}
use Rattle.lk_status.specs.Rounds.{ProbesEach}
use Rattle.lk_status.specs.declared.target.Target.{Target}
use Rattle.lk_status.proofs.asking.send_probes.Goals as goal

same : (n : ℕ) → suc n ≡ n + 1
same n = omega arith

pub targets-init : goal.targets-init
targets-init g c = λ observable last asks. asks

pub targets-preserved : goal.targets-preserved
targets-preserved g c =
    let targets = c.as_slice-targets.result.now in
    let rs = c.args.reports.now in
    let asks = ProbesEach g.S.DatagramSocket.sent g.S.DatagramSocket.incoming
    g.S.DatagramSocket.failures c.args.inquiry.now c.args.asks_reach in
    let next : drop c.targets.target-index targets ≡ c.target-item.result ∷ drop (c.targets.target-index + 1) targets =
    drop-cons targets c.targets.target-index c.target-item.result c.targets-test.true
    ∙ ap (λ (t : Target). t ∷ drop (suc c.targets.target-index) targets) (sym c.target-item.is)
    ∙ ap (λ (n : ℕ). c.target-item.result ∷ drop n targets) (same c.targets.target-index) in
    λ observable last more.
    c.targets.invariant observable last
    (subst (λ (ts : List Target). asks c.targets.token ts rs c.targets.socket last) (sym next)
    (c.probe_target.new.socket, c.in_ok-probe_target.ensures observable, more))

pub returns : goal.returns
returns g c =
    let targets = c.as_slice-targets.result.now in
    let asks = ProbesEach g.S.DatagramSocket.sent g.S.DatagramSocket.incoming
    g.S.DatagramSocket.failures c.args.inquiry.now c.args.asks_reach in
    let none = drop_all c.targets.target-index targets c.targets-test.false in
    let are : targets ≡ c.args.inquiry.now.targets.items = search rules in
    λ observable.
    subst (λ (ts : List Target). asks c.args.first ts c.args.reports.now c.args.socket.now c.targets.socket) are
    (c.targets.invariant observable c.targets.socket
    (subst (λ (ts : List Target). asks c.targets.token ts c.args.reports.now c.targets.socket c.targets.socket)
    (sym none) refl))
