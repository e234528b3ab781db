-- Every set is the genesis' own.
use Rattle.std.proofs.Common.{◌≡◌, ◌∙◌, ◌++◌, ◌∷◌, [], List, length, ap, sym, arith}
use Rattle.lk_members.specs.Rosters.{Member}
use Rattle.lk_members.specs.Windows.{sets_from}
use Rattle.lk_members.proofs.WindowLaws.{begins-push, length-sets_from}
use Rattle.lk_members.proofs.roster.first_window.Goals as goal

pub push-requires : goal.push-requires
push-requires c =
    let so_far : c.loop.window ≡ sets_from c.args.genesis.now [] 1 c.loop.counter = c.loop.invariant in
    let many = ap length so_far ∙ length-sets_from c.args.genesis.now [] 1 c.loop.counter in
    omega (arith, many, c.loop-test.true, c.args.genesis.now.in_range.1)

pub loop-preserved : goal.loop-preserved
loop-preserved c =
    c.push.ensures ∙ ap (λ (ms : List Member). c.loop.window ++ ms ∷ []) c.copy.ensures
    ∙ ap (λ (sets : List (List Member)). sets ++ c.args.genesis.now.members ∷ []) c.loop.invariant
    ∙ sym (begins-push c.args.genesis.now c.loop.counter)
