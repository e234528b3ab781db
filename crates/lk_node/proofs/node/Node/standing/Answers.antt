use Rattle.std.proofs.Common.{rules, ◌≡◌, ◌≤◌, ap, sym, subst, arith, List, ℕ, length}
use Rattle.lk_types.specs.Limits.{max_base_of}
use Rattle.lk_store_format.specs.Values.{StandingValue}
use Rattle.lk_log.specs.Stores.{FitsBase, base_room}
use Rattle.lk_node.specs.NodeValue.{NodeValue}
use Rattle.lk_node.specs.NewBases.{standing_of}
use Rattle.lk_node.proofs.NearLaws.{may_begin, base_short}
use Rattle.lk_node.proofs.node.Node.standing.Goals as goal

pub returns-clause-may : goal.returns-clause-may
returns-clause-may g c =
    let was : NodeValue = record {
      header = c.self.inside.header;
      acceptor = c.self.inside.acceptor;
      learner = c.self.inside.learner;
      leader = c.self.inside.leader;
      ticks = c.self.inside.ticks;
      rounds = c.self.inside.rounds;
      known = c.self.inside.known;
      gathered_before = c.self.inside.gathered_before;
      halted = c.self.inside.halted;
    } in
    let held : StandingValue =
    record {
      promised = c.promised.result;
      position = c.executed-executed.result;
      snapshot = c.in_ok-snapshot.snapshot.items;
      votes = c.in_ok-votes.votes.items;
      pairs = c.in_ok-pairs.pairs.items;
    } in
    let is : held ≡ standing_of was = search rules in
    let same = ap (λ (t : List ℕ). length t) c.in_ok-pack_now.ensures.text in
    subst FitsBase (sym is) (may_begin was c.facts.ensures c.facts-2.ensures c.self.invariant.1
    (omega (arith, same, c.in_ok-pack_now.ensures.some)) (omega (arith, same, c.in_ok-pack_now.ensures.room)))

pub returns-clause-short : goal.returns-clause-short
returns-clause-short g c =
    let was : NodeValue = record {
      header = c.self.inside.header;
      acceptor = c.self.inside.acceptor;
      learner = c.self.inside.learner;
      leader = c.self.inside.leader;
      ticks = c.self.inside.ticks;
      rounds = c.self.inside.rounds;
      known = c.self.inside.known;
      gathered_before = c.self.inside.gathered_before;
      halted = c.self.inside.halted;
    } in
    let held : StandingValue =
    record {
      promised = c.promised.result;
      position = c.executed-executed.result;
      snapshot = c.in_ok-snapshot.snapshot.items;
      votes = c.in_ok-votes.votes.items;
      pairs = c.in_ok-pairs.pairs.items;
    } in
    let is : held ≡ standing_of was = search rules in
    let same = ap (λ (t : List ℕ). length t) c.in_ok-pack_now.ensures.text in
    let short : base_room held ≤ max_base_of was.acceptor.alpha =
    subst (λ (s : StandingValue). base_room s ≤ max_base_of was.acceptor.alpha) (sym is)
    (base_short was c.facts.ensures c.facts-2.ensures c.self.invariant.1
    (omega (arith, same, c.in_ok-pack_now.ensures.by_alpha))) in
    subst (λ (n : NodeValue). base_room held ≤ max_base_of n.acceptor.alpha) c.self.view_is short
