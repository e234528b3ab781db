use Rattle.std.proofs.Common.{◌≡◌, ◌∙◌, sym, ap, subst, List, ℕ}
use Rattle.hex.specs.Hex.{encode_lower}
use Rattle.lk_messages.specs.Grammar.{spelling}
use Rattle.lk_messages.specs.declared.message.Message.{Message}
use Rattle.lk_messages.specs.declared.message.Content.TheVariants.{Node}
use Rattle.lk_script.specs.Replies.{with_request}
use Rattle.lk_script.specs.TableMode.{from_node, Prints}
use Rattle.lk_script.specs.TableMode.Prints.{not_here, replied}
use Rattle.lk_script.proofs.PrintLaws.{on_ok}
use Rattle.lk_script.proofs.table_run.TableRun.print_request.Goals as goal

pub returns-then-not-is_for_table-clause-ok : goal.returns-then-not-is_for_table-clause-ok
returns-then-not-is_for_table-clause-ok c = on_ok c.print.result _ _ c.print.ensures.ok
    (λ text bytes L spells sums. (
      L,
      rw text (not_here c.args.request.now spells (sym c.is_for_table.ensures ∙ c.if-not-is_for_table.true)),
      sums,
    ))

pub returns-clause-ok : goal.returns-clause-ok
returns-clause-ok c = on_ok c.print_message.result _ _ c.print_message.ensures.ok
    (λ text bytes L spells sums.
    let sent : ℕ → ℕ → Message =
    λ cluster node. record { cluster = cluster; content = Node node c.in_ok-reply.reply } in
    let done = c.in_ok-reply.ensures.ok L sums in
    let is : c.print_message.new.self.text.items
    ≡ encode_lower (spelling (from_node c.args.self.now.cluster c.in_ok-reply.reply)) =
    text ∙ ap encode_lower (ap (λ (k : ℕ). spelling (sent k c.default.result)) c.reply.ensures.cluster
    ∙ ap (λ (n : ℕ). spelling (sent c.args.self.now.cluster n)) c.default.ensures) in (
      with_request L c.args.request.now,
      subst (λ (t : List ℕ). Prints c.args.self.now.cluster L bytes t (with_request L c.args.request.now)) (sym is)
          (replied c.args.request.now c.in_ok-reply.reply spells
          (sym c.is_for_table.ensures ∙ c.if-not-is_for_table.false) done.0),
      done.1,
    ))
