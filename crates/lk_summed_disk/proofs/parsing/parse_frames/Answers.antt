use Rattle.std.proofs.Common.{◌∙◌, ◌++◌, List, ℕ, ◌-◌, length, take, drop, subst, sym, ap, refl, arith}
use Rattle.std.proofs.Common.{rules, length-append}
use Rattle.std.proofs.lemmas.Bool.{eqb-true}
use Rattle.std.proofs.lemmas.List.{nil_from_length}
use Rattle.lk_summed_disk.specs.Frames.{frame}
use Rattle.lk_summed_disk.proofs.FrameLaws.{length-frame}
use Rattle.lk_summed_disk.proofs.ParseLaws.{At, at_more, at_text, at_end, at_damaged, sliced_magic, says_summed}
use Rattle.lk_summed_disk.proofs.parsing.parse_frames.Goals as goal

pub frames-init : goal.frames-init
frames-init c =
    subst (λ (l : List ℕ). At c.args.side c.args.bytes.now l c.seed-chain.result
    (take (length c.args.bytes.now - 8) (drop 8 c.args.bytes.now))) (sym c.new-text.ensures.items)
    (sliced_magic c.args.side c.args.bytes.now c.seed-chain.result c.requires c.seed-chain.ensures)

pub frames-smaller : goal.frames-smaller
frames-smaller c =
    omega (
      arith,
      ap length c.in-Frame.ensures.0,
      length-append (frame c.frames.chain c.in-Frame.piece.now) c.in-Frame.more.now,
      length-frame c.frames.chain c.in-Frame.piece.now,
    )

pub frames-preserved : goal.frames-preserved
frames-preserved c =
    let found = c.in-Frame.ensures in
    subst (λ (l : List ℕ). At c.args.side c.args.bytes.now l c.in-Frame.after c.in-Frame.more.now)
    (sym c.in_ok-extend_from_slice-in-Frame.ensures.items)
    (subst
    (λ (l : List ℕ).
    At c.args.side c.args.bytes.now (c.frames.text.items ++ c.in-Frame.piece.now) l c.in-Frame.more.now)
    (sym found.1)
    (at_more c.args.side c.args.bytes.now c.frames.text.items c.frames.chain c.frames.rest.now c.in-Frame.piece.now
    c.in-Frame.more.now c.frames.invariant found.0 found.2))

pub overflow_sub-result : goal.overflow_sub-result
overflow_sub-result c =
    omega (
      arith,
      ap length c.frames.invariant.is,
      length-append c.frames.invariant.front c.frames.rest.now,
    )

pub overflow_sub-place : goal.overflow_sub-place
overflow_sub-place c =
    omega (
      arith,
      ap length c.frames.invariant.is,
      length-append c.frames.invariant.front c.frames.rest.now,
    )

pub returns-in-Damaged-clause-damaged : goal.returns-in-Damaged-clause-damaged
returns-in-Damaged-clause-damaged c =
    let found = c.in-Damaged.ensures in (
      refl,
      at_damaged c.args.side c.args.bytes.now c.frames.text.items c.frames.chain c.frames.rest.now c.frames.invariant
          found.0 found.1,
    )

pub returns-clause-parsed : goal.returns-clause-parsed
returns-clause-parsed c =
    record {
      text_is =
          at_text c.args.side c.args.bytes.now c.frames.text.items c.frames.chain c.frames.rest.now
          c.frames.invariant c.in-Torn.ensures;
      holds = at_end c.args.side c.args.bytes.now c.frames.text.items c.frames.chain c.frames.rest.now _
          c.frames.invariant c.in-Torn.ensures refl refl (search rules)
          (λ whole.
          nil_from_length c.frames.rest.now
          (eqb-true (length c.frames.rest.now) 0 (sym c.is_empty.ensures ∙ whole)));
    }

pub returns-clause-sums : goal.returns-clause-sums
returns-clause-sums c = says_summed c.args.side c.args.bytes.now c.frames.chain c.requires
