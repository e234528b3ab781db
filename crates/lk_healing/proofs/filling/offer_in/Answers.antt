use Rattle.std.proofs.Common.{rules, ◌≡◌, ℕ, List, subst}
use Rattle.lk_messages.specs.Grammar.{Spells}
use Rattle.lk_messages.specs.declared.message.Content.TheVariants as content
use Rattle.lk_messages.specs.declared.message.Message.{Message}
use Rattle.lk_messages.specs.declared.message.NodeMessage.TheVariants as kinds
use Rattle.lk_healing.proofs.filling.offer_in.Goals as goal

pub returns-in-Ok-clause-none : goal.returns-in-Ok-clause-none
returns-in-Ok-clause-none c none v o =
    let bytes : c.args.datagram.now.bytes ≡ c.of-viewed.result = search rules in
    let x : Message =
    record { cluster = c.args.asking.now.cluster; content = content.Node c.args.node (kinds.Accept v) } in
    c.offer_of.ensures.only v o.position o.ballot
    (c.in-Ok.ensures.only x (subst (λ (bs : List ℕ). Spells x bs) bytes o.spelled)) none

pub returns-in-Err-clause-none : goal.returns-in-Err-clause-none
returns-in-Err-clause-none c none v o =
    let bytes : c.args.datagram.now.bytes ≡ c.of-viewed.result = search rules in
    let x : Message =
    record { cluster = c.args.asking.now.cluster; content = content.Node c.args.node (kinds.Accept v) } in
    c.in-Err.ensures.only x (subst (λ (bs : List ℕ). Spells x bs) bytes o.spelled)
