use Rattle.std.proofs.Common.{◌≡◌, ℕ, ◌+◌, ◌*◌, true, nat_le, List, ◌∙◌, ap, sym, subst, rules, arith}
use Rattle.lk_acceptor.specs.States.{IsOrdered}
use Rattle.lk_learner.specs.Learners.{Command, LearnerValue, IsNext, executed}
use Rattle.lk_node.specs.NodeValue.{NodeValue}
use Rattle.lk_store_format.specs.Values.{StandingValue}
use Rattle.lk_state.specs.Packed.{Packs}
use Rattle.lk_state.specs.States.{WholeValue}
use Rattle.lk_node.specs.Leavings.{acceptor_of}
use Rattle.lk_recovery.specs.Revivals.{Unpacks, MayRevive, reached}
use Rattle.lk_types.specs.declared.vote.Vote.{Vote}
use Rattle.std.specs.List.{list_all}
use Rattle.lk_recovery.proofs.Restoring.{revived_near, some_ordered, pairs_far, votes_far, may_revive, restores}
use Rattle.lk_recovery.proofs.restart.restored.Goals as goal

pub new-acceptor-requires-clause-kept : goal.new-acceptor-requires-clause-kept
new-acceptor-requires-clause-kept g c =
    subst (λ (s : StandingValue). IsOrdered (acceptor_of s)) (sym c.standing.view_is)
    (some_ordered c.args.standing c.requires.stands)

pub returns-in_err-learner-clause-damaged : goal.returns-in_err-learner-clause-damaged
returns-in_err-learner-clause-damaged g c is =
    let text : c.deref.result.now ≡ c.args.standing.snapshot = c.deref.ensures.value
    ∙ ap (λ (s : StandingValue). s.snapshot) c.standing.view_is in
    let pairs : c.deref-2.result.now ≡ c.args.standing.pairs = c.deref-2.ensures.value
    ∙ ap (λ (s : StandingValue). s.pairs) c.standing.view_is in
    pairs_far g.M.Machine.IsText c.args.header.now c.args.standing c.in_ok-whole.whole c.deref-2.result.now pairs
    (λ v k. c.in_ok-whole.ensures.one v (subst (λ (bytes : List ℕ). Packs g.M.Machine.IsText v bytes) (sym text) k))
    (λ all. c.in_err-learner.ensures.damaged (search rules) all)

pub returns-then-not-are_near-clause-damaged : goal.returns-then-not-are_near-clause-damaged
returns-then-not-are_near-clause-damaged g c is v may =
    let text : c.deref.result.now ≡ c.args.standing.snapshot = c.deref.ensures.value
    ∙ ap (λ (s : StandingValue). s.snapshot) c.standing.view_is in
    let pairs : c.deref-2.result.now ≡ c.args.standing.pairs = c.deref-2.ensures.value
    ∙ ap (λ (s : StandingValue). s.pairs) c.standing.view_is in
    let votes : c.deref-3.result.now ≡ c.args.standing.votes = c.deref-3.ensures.value
    ∙ ap (λ (s : StandingValue). s.votes) c.standing.view_is in
    let position : c.standing.inside.position ≡ c.args.standing.position =
    ap (λ (s : StandingValue). s.position) c.standing.view_is in
    let whole : c.in_ok-whole.whole.roster.executed ≡ c.args.standing.position = c.in_ok-whole.ensures.unpacks.executed
    ∙ position in
    let reaches : executed c.in_ok-learner.learner ≡ reached c.args.standing.position c.args.standing.pairs =
    c.in_ok-learner.ensures.reaches ∙ (λ i. reached (whole i) (pairs i)) in
    let place : c.executed.result ≡ reached c.args.standing.position c.args.standing.pairs = c.executed.ensures
    ∙ ap (λ (w : WholeValue). w.roster.executed) c.whole.ensures ∙ reaches in
    let far : c.executed.result + 2 * c.genesis.result.now.alpha
    ≡ reached c.args.standing.position c.args.standing.pairs + 2 * c.args.header.now.alpha =
    λ i. place i + 2 * c.genesis.ensures.alpha i in
    votes_far g.M.Machine.IsText c.args.header.now c.args.standing c.in_ok-whole.whole c.deref-3.result.now
    (c.executed.result + 2 * c.genesis.result.now.alpha) votes far (sym c.are_near.ensures ∙ search rules) v may

pub returns-clause-restores : goal.returns-clause-restores
returns-clause-restores g c =
    let text : c.deref.result.now ≡ c.args.standing.snapshot = c.deref.ensures.value
    ∙ ap (λ (s : StandingValue). s.snapshot) c.standing.view_is in
    let pairs : c.deref-2.result.now ≡ c.args.standing.pairs = c.deref-2.ensures.value
    ∙ ap (λ (s : StandingValue). s.pairs) c.standing.view_is in
    let votes : c.deref-3.result.now ≡ c.args.standing.votes = c.deref-3.ensures.value
    ∙ ap (λ (s : StandingValue). s.votes) c.standing.view_is in
    let position : c.standing.inside.position ≡ c.args.standing.position =
    ap (λ (s : StandingValue). s.position) c.standing.view_is in
    let whole : c.in_ok-whole.whole.roster.executed ≡ c.args.standing.position = c.in_ok-whole.ensures.unpacks.executed
    ∙ position in
    let alpha : c.genesis.result.now.alpha ≡ c.args.header.now.alpha = c.genesis.ensures.alpha in
    let u : Unpacks g.M.Machine.IsText c.args.header.now.alpha c.args.standing.position
    c.args.standing.snapshot c.in_ok-whole.whole =
    record {
      packs = subst (λ (bytes : List ℕ). Packs g.M.Machine.IsText c.in_ok-whole.whole bytes) text
          c.in_ok-whole.ensures.unpacks.packs;
      executed = whole;
      sets = c.in_ok-whole.ensures.unpacks.sets ∙ alpha;
    } in
    let reaches : executed c.in_ok-learner.learner ≡ reached c.args.standing.position c.args.standing.pairs =
    c.in_ok-learner.ensures.reaches ∙ (λ i. reached (whole i) (pairs i)) in
    let place : c.executed.result ≡ reached c.args.standing.position c.args.standing.pairs = c.executed.ensures
    ∙ ap (λ (w : WholeValue). w.roster.executed) c.whole.ensures ∙ reaches in
    let far : c.executed.result + 2 * c.genesis.result.now.alpha
    ≡ reached c.args.standing.position c.args.standing.pairs + 2 * c.args.header.now.alpha =
    λ i. place i + 2 * alpha i in
    let may : MayRevive g.M.Machine.IsText c.args.header.now c.args.standing c.in_ok-whole.whole =
    may_revive g.M.Machine.IsText c.args.header.now c.args.standing c.in_ok-whole.whole c.deref-2.result.now
    c.deref-3.result.now (c.executed.result + 2 * c.genesis.result.now.alpha) u pairs
    c.in_ok-learner.ensures.near votes far
    (sym c.are_near.ensures ∙ search rules) in
    restores g.M.Machine.IsText c.args.header.now c.args.standing c.in_ok-whole.whole _ c.deref-2.result.now
    _ _ _ c.new.result c.in_ok-learner.notes.items _ may
    (λ v k. c.in_ok-whole.ensures.one v (subst (λ (bytes : List ℕ). Packs g.M.Machine.IsText v bytes) (sym text) k))
    pairs c.copy.ensures
    (c.new-acceptor.ensures ∙ (λ i. record { alpha = alpha i; state = acceptor_of (c.standing.view_is i) }))
    c.in_ok-learner.ensures.learner c.new.ensures c.node.ensures c.in_ok-learner.ensures.notes

pub returns-clause-runs : goal.returns-clause-runs
returns-clause-runs g c =
    subst (λ (l : LearnerValue). (v : Command) → IsNext l v → ⊥)
    (sym (ap (λ (n : NodeValue). n.learner) c.new.ensures)) c.in_ok-learner.ensures.quiet

pub new-requires : goal.new-requires
new-requires g c =
    let place : c.executed.result ≡ executed c.in_ok-learner.learner = c.executed.ensures
    ∙ ap (λ (w : WholeValue). w.roster.executed) c.whole.ensures in
    let all : list_all (λ (v : Vote). nat_le v.position (c.executed.result + 2 * c.genesis.result.now.alpha))
    c.deref-3.result.now ≡ true = sym c.are_near.ensures ∙ search rules in
    record {
      near = revived_near c.new-acceptor.result c.in_ok-learner.learner c.genesis.result.now.alpha
          (acceptor_of (record {
            promised = c.standing.inside.promised;
            position = c.standing.inside.position;
            snapshot = c.standing.inside.snapshot.items;
            votes = c.standing.inside.votes.items;
            pairs = c.standing.inside.pairs.items;
          }))
          (c.executed.result + 2 * c.genesis.result.now.alpha) c.new-acceptor.ensures
          (c.in_ok-learner.ensures.sets ∙ c.in_ok-whole.ensures.unpacks.sets)
          (omega (arith, c.in_ok-learner.ensures.reaches, c.in_ok-whole.ensures.unpacks.executed))
          (subst (λ (vs : List Vote). list_all
          (λ (v : Vote). nat_le v.position (c.executed.result + 2 * c.genesis.result.now.alpha)) vs ≡ true)
          c.deref-3.ensures.value all)
          (ap (λ (e : ℕ). e + 2 * c.genesis.result.now.alpha) place);
    }
