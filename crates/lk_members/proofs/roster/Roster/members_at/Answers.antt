-- The set at an index of the window is that of its position.
use Rattle.std.proofs.Common.{◌≡◌, ◌+◌, Option, Some, None, length, ap, ◌∙◌, arith}
use Rattle.std.specs.Prelude.{IfSome}
use Rattle.lk_members.specs.Windows.{RosterValue, roster_after}
use Rattle.lk_members.proofs.WindowLaws.{sets_from-get}
use Rattle.lk_members.proofs.roster.Roster.members_at.Goals as goal

weaker : {A : Type 0} (o : Option A) (P Q : A → Type 0) → ((x : A) → P x → Q x) → IfSome o P → IfSome o Q
weaker None P Q to h = h
weaker (Some x) P Q to h = to x h

pub returns-clause-sums : goal.returns-clause-sums
unfolding roster_after
returns-clause-sums c = λ genesis L e.
    let all : RosterValue = roster_after genesis L in
    let told = c.in_ok-ahead.ensures in
    let executed_is : c.self.inside.executed ≡ length L = ap (λ (v : RosterValue). v.executed) (c.self.view_is ∙ e) in
    let at : c.args.position ≡ length L + 1 + c.in_ok-ahead.ahead =
    omega (arith, told, executed_is, c.get.ensures.value, c.get-nearest.ensures.value) in
    weaker c.get-2.result _ _ (λ set h. sets_from-get genesis L c.args.position c.in_ok-ahead.ahead set.now
    c.self.inside.window (ap (λ (v : RosterValue). v.sets) (c.self.view_is ∙ e)) h at) c.get-2.ensures.value
