use Rattle.std.proofs.Common.{refl}
use Rattle.lk_node_setup.proofs.HostLaws.{parted}
use Rattle.lk_node_setup.proofs.host_file.host_of.Goals as goal

pub returns-in_err-node-2-clause-none : goal.returns-in_err-node-2-clause-none
returns-in_err-node-2-clause-none c = λ none host spells.
    let first = c.in_ok-node.ensures.some in
    let words = parted c.args.line.now c.in_ok-node.node.now c.in_ok-node.host.now host first.0 first.1 spells in
    c.in_err-node-2.ensures.none refl host.0 spells.node words.0

pub returns-in-Err-clause-none : goal.returns-in-Err-clause-none
returns-in-Err-clause-none c = λ none host spells.
    let first = c.in_ok-node.ensures.some in
    let words = parted c.args.line.now c.in_ok-node.node.now c.in_ok-node.host.now host first.0 first.1 spells in
    c.in-Err.ensures host.1 words.1
