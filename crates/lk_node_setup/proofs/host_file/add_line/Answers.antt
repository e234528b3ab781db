use Rattle.std.proofs.Common.{◌≡◌, ◌-◌, ◌∙◌, length, refl, sym}
use Rattle.std.specs.List.{slice_get}
use Rattle.std.specs.Option.{option_copied}
use Rattle.lk_node_setup.proofs.HostLaws.{no_follower, spell_more}
use Rattle.lk_node_setup.proofs.host_file.add_line.Goals as goal

pub returns-in_default-clause-invalid : goal.returns-in_default-clause-invalid
returns-in_default-clause-invalid c = λ _.
    let last : option_copied c.last.result ≡ slice_get c.args.hosts.now.items (length c.args.hosts.now.items - 1) =
    rw (sym c.deref.ensures.value) c.last.ensures.value in
    no_follower c.args.hosts.now.items c.args.line.now c.in-Some.host (option_copied c.last.result)
    (sym c.is_blank_or_comment.ensures ∙ c.if-is_blank_or_comment.false) c.in-Some.ensures.some last
    (λ may. let is = c.may_follow.ensures.1 may in let not = c.if-may_follow.false in absurd cc)

pub returns-in_default-2-clause-invalid : goal.returns-in_default-2-clause-invalid
returns-in_default-2-clause-invalid c = λ _. record {
  some = sym c.is_blank_or_comment.ensures ∙ c.if-is_blank_or_comment.false;
  no_host = λ host spells order. c.host_of.ensures.none (rw c.in_default.is refl) host spells;
}

pub returns-clause-adds : goal.returns-clause-adds
returns-clause-adds c = λ _ ls are.
    let last : option_copied c.last.result ≡ slice_get c.args.hosts.now.items (length c.args.hosts.now.items - 1) =
    rw (sym c.deref.ensures.value) c.last.ensures.value in
    rw c.in_ok-push-in-Some.ensures.items
    (spell_more ls c.args.hosts.now.items c.args.line.now c.in-Some.host
    (sym c.is_blank_or_comment.ensures ∙ c.if-is_blank_or_comment.false) c.in-Some.ensures.some
    (rw (sym last) (c.may_follow.ensures.0 c.if-may_follow.true)) are)
