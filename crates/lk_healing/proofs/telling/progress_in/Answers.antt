use Rattle.std.proofs.Common.{rules, ◌≡◌, ◌∙◌, ℕ, List, sym, subst}
use Rattle.lk_messages.specs.Grammar.{Spells}
use Rattle.lk_messages.specs.declared.message.Content.TheVariants as content
use Rattle.lk_messages.specs.declared.message.Message.{Message}
use Rattle.lk_messages.specs.declared.message.NodeMessage.TheVariants as kinds
use Rattle.lk_healing.proofs.Places.{same_some}
use Rattle.lk_healing.proofs.telling.progress_in.Goals as goal

pub unreachable-requires : goal.unreachable-requires
unreachable-requires c =
    let k = c.requires in
    let x : Message =
    record { cluster = k.cluster; content = content.Node k.from (kinds.Nack k.nack) } in
    let bytes : c.args.datagram.now.bytes ≡ c.of-viewed.result = search rules in
    cc (sym c.in-None.is ∙ c.progress_of.ensures k.cluster k.from k.nack
    (c.in-Ok.ensures.only x (subst (λ (bs : List ℕ). Spells x bs) bytes k.spelled)))

pub unreachable-requires-in-Err : goal.unreachable-requires-in-Err
unreachable-requires-in-Err c =
    let k = c.requires in
    let x : Message =
    record { cluster = k.cluster; content = content.Node k.from (kinds.Nack k.nack) } in
    let bytes : c.args.datagram.now.bytes ≡ c.of-viewed.result = search rules in
    c.in-Err.ensures.only x (subst (λ (bs : List ℕ). Spells x bs) bytes k.spelled)

pub returns : goal.returns
returns c k =
    let x : Message =
    record { cluster = k.cluster; content = content.Node k.from (kinds.Nack k.nack) } in
    let bytes : c.args.datagram.now.bytes ≡ c.of-viewed.result = search rules in
    same_some c.in-Some.progress (record { cluster = k.cluster; nack = k.nack })
    (sym c.in-Some.is ∙ c.progress_of.ensures k.cluster k.from k.nack
    (c.in-Ok.ensures.only x (subst (λ (bs : List ℕ). Spells x bs) bytes k.spelled)))
