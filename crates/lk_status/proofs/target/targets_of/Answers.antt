use Rattle.std.proofs.Common.{◌≡◌, List, [], ℕ, drop, map, Bor, sym, subst, append-nil}
use Rattle.std.proofs.lemmas.List.{drop_all}
use Rattle.lk_status.specs.Targets.{SpellTargets}
use Rattle.lk_status.specs.declared.target.Target.{Target}
use Rattle.lk_status.proofs.target.targets_of.Goals as goal

pub returns : goal.returns
returns c =
    let none : drop c.words.word-index c.args.words.now ≡ [] =
    drop_all c.words.word-index c.args.words.now c.words-test.false in
    let left : SpellTargets (map (λ (w : Bor (List ℕ)). w.now) (drop c.words.word-index c.args.words.now)) [] =
    subst (λ (ws : List (Bor (List ℕ))). SpellTargets (map (λ (w : Bor (List ℕ)). w.now) ws) []) (sym none) tt in
    subst (λ (ts : List Target). SpellTargets (map (λ (w : Bor (List ℕ)). w.now) c.args.words.now) ts)
    (append-nil c.words.targets.items) (c.words.invariant [] left)
