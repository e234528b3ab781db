use Rattle.std.proofs.Common.{◌≡◌, true, false, refl, rules}
use Rattle.lk_node_setup.proofs.HostLaws.{invalid_line, invalid_last, reads_last, reads_line}
use Rattle.lk_node_setup.proofs.host_file.read_hosts.Goals as goal

pub returns-then-not-branch-clause-invalid : goal.returns-then-not-branch-clause-invalid
returns-then-not-branch-clause-invalid c =
    let first = c.in-Some.ensures.some in
    let is_not : c.in_ok-add_line.field-0 ≡ false = search rules in
    invalid_line c.args.text.now c.lines.hosts.items c.lines.rest.now c.in-Some.line.now c.in-Some.behind.now
    c.lines.number first.0 first.1 (c.in_ok-add_line.ensures.invalid is_not) c.lines.invariant

pub lines-preserved : goal.lines-preserved
lines-preserved c =
    let first = c.in-Some.ensures.some in
    let is : c.in_ok-add_line.field-0 ≡ true = search rules in
    reads_line c.args.text.now c.lines.hosts.items c.add_line.new.hosts.items c.lines.rest.now c.in-Some.line.now
    c.in-Some.behind.now c.lines.number c.saturating_add-number.result first.0 first.1
    c.saturating_add-number.ensures (c.in_ok-add_line.ensures.adds is) c.lines.invariant

pub returns-then-not-branch-2-clause-invalid : goal.returns-then-not-branch-2-clause-invalid
returns-then-not-branch-2-clause-invalid c =
    let is_not : c.in_ok-add_line-2.field-0 ≡ false = search rules in
    invalid_last c.args.text.now c.lines.hosts.items c.lines.rest.now c.lines.number (c.in_default.ensures.none refl)
    (c.in_ok-add_line-2.ensures.invalid is_not) c.lines.invariant

pub returns-clause-hosts : goal.returns-clause-hosts
returns-clause-hosts c =
    let is : c.in_ok-add_line-2.field-0 ≡ true = search rules in
    reads_last c.args.text.now c.lines.hosts.items c.add_line-2.new.hosts.items c.lines.rest.now c.lines.number
    (c.in_default.ensures.none refl) (c.in_ok-add_line-2.ensures.adds is) c.lines.invariant
