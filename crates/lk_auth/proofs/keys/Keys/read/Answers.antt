use Rattle.lk_auth.specs.Seals.{key_list}
use Rattle.lk_auth.proofs.KeyFileLaws.{line_read, line_refused, last_read, last_refused, some_keys, no_keys}
use Rattle.std.proofs.Common.{◌∙◌, refl}
use Rattle.lk_auth.proofs.keys.Keys.read.Goals as goal

pub returns-in_default-with_line-clause-none : goal.returns-in_default-with_line-clause-none
returns-in_default-with_line-clause-none c _ =
    let first = c.in-Some.ensures.some in
    line_refused c.args.text.now
    (key_list c.lines.keys) c.lines.rest.now c.in-Some.line.now c.in-Some.behind.now first.0 first.1
    (c.in_default-with_line.ensures.none refl) c.lines.invariant

pub lines-preserved : goal.lines-preserved
lines-preserved c =
    let first = c.in-Some.ensures.some in
    line_read c.args.text.now (key_list c.lines.keys)
    (key_list c.in-Some-with_line.more) c.lines.rest.now c.in-Some.line.now c.in-Some.behind.now first.0 first.1
    c.in-Some-with_line.ensures.some c.lines.invariant

pub returns-in_default-with_line-2-clause-none : goal.returns-in_default-with_line-2-clause-none
returns-in_default-with_line-2-clause-none c _ =
    last_refused c.args.text.now (key_list c.lines.keys) c.lines.rest.now (c.in_default.ensures.none refl)
    (c.in_default-with_line-2.ensures.none refl) c.lines.invariant

pub returns-then-is_none-clause-none : goal.returns-then-is_none-clause-none
returns-then-is_none-clause-none c _ =
    let keys = c.in-Some-with_line-2.keys in
    last_read c.args.text.now (key_list c.lines.keys) (key_list keys) c.lines.rest.now
    (c.in_default.ensures.none refl) c.in-Some-with_line-2.ensures.some c.lines.invariant
    ∙ no_keys keys (c.is_none.ensures.0 c.if-is_none.true)

pub returns-clause-some : goal.returns-clause-some
returns-clause-some c =
    let keys = c.in-Some-with_line-2.keys in
    last_read c.args.text.now (key_list c.lines.keys) (key_list keys) c.lines.rest.now
    (c.in_default.ensures.none refl) c.in-Some-with_line-2.ensures.some c.lines.invariant
    ∙ some_keys keys (λ none. let is = c.is_none.ensures.1 none in let not = c.if-is_none.false in absurd cc)
