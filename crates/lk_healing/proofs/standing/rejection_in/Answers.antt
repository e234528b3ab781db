use Rattle.std.proofs.Common.{rules, ◌≡◌, ℕ, List, refl, subst, sym}
use Rattle.std.proofs.lemmas.Option.{IfSome_then}
use Rattle.lk_messages.specs.Grammar.{Spells}
use Rattle.lk_messages.specs.declared.message.Content.TheVariants as content
use Rattle.lk_messages.specs.declared.message.Message.{Message}
use Rattle.lk_messages.specs.declared.message.NodeMessage.TheVariants as kinds
use Rattle.lk_healing.proofs.standing.rejection_in.Goals as goal

pub returns-in-Ok-clause-some : goal.returns-in-Ok-clause-some
returns-in-Ok-clause-some c =
    let bytes : c.args.datagram.now.bytes ≡ c.of-viewed.result = search rules in
    IfSome_then c.nack_of.result c.nack_of.ensures.some (λ k is. (
      record {
        cluster = c.in-Ok.message.now.cluster;
        from = is.0;
        nack = k;
        spelled = subst (λ (bs : List ℕ). Spells (record {
          cluster = c.in-Ok.message.now.cluster;
          content = content.Node is.0 (kinds.Nack k);
        }) bs) (sym bytes) (subst (λ (y : Message). Spells y c.of-viewed.result) is.1 c.in-Ok.ensures.found);
      },
      refl,
    ))

pub returns-in-Ok-clause-only : goal.returns-in-Ok-clause-only
returns-in-Ok-clause-only c r =
    let bytes : c.args.datagram.now.bytes ≡ c.of-viewed.result = search rules in
    let x : Message = record { cluster = r.cluster; content = content.Node r.from (kinds.Nack r.nack) } in
    c.nack_of.ensures.only r.cluster r.from r.nack
    (c.in-Ok.ensures.only x (subst (λ (bs : List ℕ). Spells x bs) bytes r.spelled))

pub returns-in-Err-clause-only : goal.returns-in-Err-clause-only
returns-in-Err-clause-only c r =
    let bytes : c.args.datagram.now.bytes ≡ c.of-viewed.result = search rules in
    let x : Message = record { cluster = r.cluster; content = content.Node r.from (kinds.Nack r.nack) } in
    absurd (c.in-Err.ensures.only x (subst (λ (bs : List ℕ). Spells x bs) bytes r.spelled))
