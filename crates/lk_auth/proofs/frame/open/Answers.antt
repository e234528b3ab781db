use Rattle.std.proofs.Common.{◌≡◌, ◌-◌, ℕ, List, length, take, drop, arith, sym, ap, ◌∙◌}
use Rattle.std.proofs.lemmas.List.{take_all, length-drop}
use Rattle.lk_auth.specs.Frames.{head, seal_tag, sealed}
use Rattle.lk_auth.proofs.FrameLaws.{length-sealed, drop-sealed, head-sealed, tag-sealed, frame-parts, opens, opens_not}
use Rattle.lk_auth.proofs.frame.open.Goals as goal

rest : (frame : List ℕ) → take (length frame - 36) (drop 36 frame) ≡ drop 36 frame
rest frame = take_all (length frame - 36) (drop 36 frame) (omega (arith, length-drop 36 frame))

pub returns-then-frame-lt-OVERHEAD-clause-none : goal.returns-then-frame-lt-OVERHEAD-clause-none
returns-then-frame-lt-OVERHEAD-clause-none c _ d e =
    let long : length c.args.frame.now ≡ length (sealed c.args.key.now c.args.scope.now d) = ap length e in
    omega (arith, long, length-sealed c.args.key.now c.args.scope.now d)

pub returns-then-not-has_head-clause-none : goal.returns-then-not-has_head-clause-none
returns-then-not-has_head-clause-none c _ d e =
    let front : take 4 c.args.frame.now ≡ head c.args.scope.now.purpose = ap (take 4) e
    ∙ head-sealed c.args.key.now c.args.scope.now d in
    grind arith

pub returns-then-not-is_same-clause-none : goal.returns-then-not-is_same-clause-none
returns-then-not-is_same-clause-none c _ d e =
    let whole = rest c.args.frame.now in
    let behind : drop 36 c.args.frame.now ≡ d = ap (drop 36) e ∙ drop-sealed c.args.key.now c.args.scope.now d in
    let tag : c.tag_in.result ≡ take 32 (drop 4 c.args.frame.now) =
    c.tag_in.ensures ∙ ap (seal_tag c.args.key.now c.args.scope.now) (whole ∙ behind)
    ∙ sym (tag-sealed c.args.key.now c.args.scope.now d) ∙ ap (λ (l : List ℕ). take 32 (drop 4 l)) (sym e) in
    grind arith

pub returns-clause-some : goal.returns-clause-some
returns-clause-some c =
    let whole = rest c.args.frame.now in
    let front : take 4 c.args.frame.now ≡ head c.args.scope.now.purpose = grind arith in
    let same : c.tag_in.result ≡ take 32 (drop 4 c.args.frame.now) = grind arith in
    let tag : take 32 (drop 4 c.args.frame.now) ≡ seal_tag c.args.key.now c.args.scope.now (drop 36 c.args.frame.now) =
    sym same ∙ c.tag_in.ensures ∙ ap (seal_tag c.args.key.now c.args.scope.now) whole in
    frame-parts c.args.key.now c.args.scope.now c.args.frame.now front tag
    ∙ ap (sealed c.args.key.now c.args.scope.now) (sym whole)

pub returns-then-frame-lt-OVERHEAD-clause-opens_not : goal.returns-then-frame-lt-OVERHEAD-clause-opens_not
returns-then-frame-lt-OVERHEAD-clause-opens_not c is = opens_not _ _ _ (returns-then-frame-lt-OVERHEAD-clause-none c is)

pub returns-then-not-has_head-clause-opens_not : goal.returns-then-not-has_head-clause-opens_not
returns-then-not-has_head-clause-opens_not c is = opens_not _ _ _ (returns-then-not-has_head-clause-none c is)

pub returns-then-not-is_same-clause-opens_not : goal.returns-then-not-is_same-clause-opens_not
returns-then-not-is_same-clause-opens_not c is = opens_not _ _ _ (returns-then-not-is_same-clause-none c is)

pub returns-clause-opens : goal.returns-clause-opens
returns-clause-opens c = opens _ _ _ _ (returns-clause-some c)
