-- The client comes in where it belongs.
use Rattle.std.proofs.Common.{◌≡◌, ◌∙◌, ℕ, List, ap, sym, subst, arith}
use Rattle.std.specs.Prelude.{insert}
use Rattle.std.proofs.lemmas.Grind.{common_steps}
use Rattle.lk_locks.specs.Sharers.{AreSharers, with_client}
use Rattle.lk_locks.specs.SharerLaws.{before, inserted, with_client-fits}
use Rattle.lk_locks.proofs.sharers.Sharers.with.Goals as goal

put_in : (client at : ℕ) (new old cs : List ℕ) → new ≡ insert old at client → old ≡ cs → at ≡ before client cs
    → insert cs (before client cs) client ≡ with_client client cs → new ≡ with_client client cs
put_in client at new old cs e same place is =
    e ∙ ap (λ (l : List ℕ). insert l at client) same ∙ ap (λ (k : ℕ). insert cs k client) place ∙ is

pub invariant_of-result : goal.invariant_of-result
invariant_of-result c =
    let same : c.unwrap-clients.result.items ≡ c.args.self.now = grind (arith, common_steps) in
    let place : c.index_of-at.result ≡ before c.args.client c.args.self.now = c.index_of-at.ensures.index
    ∙ ap (before c.args.client) c.as_slice-2.ensures.value in
    subst AreSharers (sym (put_in c.args.client c.index_of-at.result c.insert.new.self.items
    c.unwrap-clients.result.items c.args.self.now c.insert.ensures.items same place
    (inserted c.args.client c.args.self.now c.requires.new)))
    (with_client-fits c.args.client c.args.self.now c.get.ensures.in_range c.requires.room c.as_slice.ensures.fits)

pub returns : goal.returns
returns c =
    let same : c.unwrap-clients.result.items ≡ c.args.self.now = grind (arith, common_steps) in
    let place : c.index_of-at.result ≡ before c.args.client c.args.self.now = c.index_of-at.ensures.index
    ∙ ap (before c.args.client) c.as_slice-2.ensures.value in
    put_in c.args.client c.index_of-at.result c.insert.new.self.items c.unwrap-clients.result.items c.args.self.now
    c.insert.ensures.items same place (inserted c.args.client c.args.self.now c.requires.new)
