use Rattle.std.proofs.Common.{List, ℕ, ◌++◌, ◌-◌, length, take, drop, subst, sym, ap, arith, length-append}
use Rattle.lk_summed_disk.specs.Frames.{frame}
use Rattle.lk_summed_disk.proofs.FrameLaws.{length-frame}
use Rattle.lk_summed_disk.proofs.ParseLaws.{At, at_more, at_text, sliced_magic}
use Rattle.lk_summed_disk.proofs.LegibleLaws.{at_wrong}
use Rattle.lk_summed_disk.proofs.legible.frames_text.Goals as goal

pub frames-init : goal.frames-init
frames-init c =
    subst (λ (l : List ℕ). At c.args.side c.args.bytes.now l c.seed-chain.result
    (take (length c.args.bytes.now - 8) (drop 8 c.args.bytes.now))) (sym c.new-text.ensures.items)
    (sliced_magic c.args.side c.args.bytes.now c.seed-chain.result c.requires c.seed-chain.ensures)

pub frames-smaller : goal.frames-smaller
frames-smaller c =
    omega (
      arith,
      ap length c.in-Frame.ensures.0,
      length-append (frame c.frames.chain c.in-Frame.piece.now) c.in-Frame.more.now,
      length-frame c.frames.chain c.in-Frame.piece.now,
    )

pub frames-preserved : goal.frames-preserved
frames-preserved c =
    let found = c.in-Frame.ensures in
    subst (λ (l : List ℕ). At c.args.side c.args.bytes.now l c.in-Frame.after c.in-Frame.more.now)
    (sym c.in_ok-extend_from_slice-in-Frame.ensures.items)
    (subst
    (λ (l : List ℕ).
    At c.args.side c.args.bytes.now (c.frames.text.items ++ c.in-Frame.piece.now) l c.in-Frame.more.now)
    (sym found.1)
    (at_more c.args.side c.args.bytes.now c.frames.text.items c.frames.chain c.frames.rest.now c.in-Frame.piece.now
    c.in-Frame.more.now c.frames.invariant found.0 found.2))

pub returns-in-Torn-clause-text : goal.returns-in-Torn-clause-text
returns-in-Torn-clause-text c =
    at_text c.args.side c.args.bytes.now c.frames.text.items c.frames.chain c.frames.rest.now c.frames.invariant
    c.in-Torn.ensures

pub returns-in-Damaged-clause-text : goal.returns-in-Damaged-clause-text
returns-in-Damaged-clause-text c =
    at_wrong c.args.side c.args.bytes.now c.frames.text.items c.frames.chain c.frames.rest.now c.frames.invariant
    c.in-Damaged.ensures.1
