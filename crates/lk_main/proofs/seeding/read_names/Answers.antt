use Rattle.std.proofs.Common.{◌≡◌, List, [], ℕ, drop, map, Bor, sym, subst, append-nil}
use Rattle.std.proofs.lemmas.List.{drop_all}
use Rattle.lk_seed.specs.Words.{SpellAllWanted}
use Rattle.lk_seed.specs.declared.wanted.Wanted.{Wanted}
use Rattle.lk_main.proofs.seeding.read_names.Goals as goal

pub returns : goal.returns
returns c =
    let none : drop c.words.word-index c.args.words.now ≡ [] =
    drop_all c.words.word-index c.args.words.now c.words-test.false in
    let left : SpellAllWanted (map (λ (w : Bor (List ℕ)). w.now) (drop c.words.word-index c.args.words.now)) [] =
    subst (λ (ws : List (Bor (List ℕ))). SpellAllWanted (map (λ (w : Bor (List ℕ)). w.now) ws) []) (sym none) tt in
    subst (λ (ws : List Wanted). SpellAllWanted (map (λ (w : Bor (List ℕ)). w.now) c.args.words.now) ws)
    (append-nil c.words.wanted.items) (c.words.invariant [] left)
