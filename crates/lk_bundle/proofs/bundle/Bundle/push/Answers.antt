use Rattle.std.proofs.Common.{rules, ◌≡◌, ◌+◌, ◌++◌, ◌∷◌, [], ℕ, List, drop, ap, sym, subst, ◌∙◌}
use Rattle.lk_bundle.specs.Bundles.{datagrams_in, IsBundleOf}
use Rattle.lk_bundle.proofs.PieceLaws.{pushed}
use Rattle.lk_bundle.proofs.bundle.Bundle.push.Goals as goal

pub invariant_of-self-2 : goal.invariant_of-self-2
invariant_of-self-2 c =
    let more : c.in-Some.count ≡ c.self.inside.count + 1 = search rules in
    subst (λ (n : ℕ). IsBundleOf n c.put_piece.new.out.items) (sym more)
    (pushed c.self.inside.count c.self.inside.bytes.items c.args.datagram.now c.put_piece.new.out.items
    c.self.invariant c.requires c.in_ok-put_piece.ensures.ok).0

pub returns-clause-ok : goal.returns-clause-ok
returns-clause-ok c =
    let more : c.in-Some.count ≡ c.self.inside.count + 1 = search rules in
    ap (λ (n : ℕ). datagrams_in n (drop 4 c.put_piece.new.out.items)) more
    ∙ (pushed c.self.inside.count c.self.inside.bytes.items c.args.datagram.now c.put_piece.new.out.items
    c.self.invariant c.requires c.in_ok-put_piece.ensures.ok).1
    ∙ ap (λ (ds : List (List ℕ)). ds ++ c.args.datagram.now ∷ []) c.self.view_is
