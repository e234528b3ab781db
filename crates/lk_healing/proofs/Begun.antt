-- A candidate that is due, and of whose ballot nobody of its majority is a rival, has begun a ballot.
use Rattle.std.proofs.Common.{◌≡◌, ◌∙◌, inl, inr, ℕ, ◌+◌, ◌*◌, ◌<◌, ◌≤◌, List, [], ◌∷◌, map, Contains, refl, ap, sym}
use Rattle.std.proofs.Common.{subst, arith}
use Rattle.lk_types.specs.Ballots.{IsAtMost}
use Rattle.lk_types.specs.declared.command.Request.{Request as RequestValue}
use Rattle.lk_types.specs.declared.genesis.Genesis.{Genesis}
use Rattle.lk_store_format.specs.Values.{HeaderValue}
use Rattle.lk_agreement_laws.proofs.Histories.{at_most_unless_below, cons_cases, contains_more}
use Rattle.lk_members.specs.Majorities.{IsMajority}
use Rattle.lk_members.specs.Rosters.{is_member}
use Rattle.lk_state.specs.Meanings.{Meaning}
use Rattle.lk_learner.specs.Learners.{alpha, executed}
use Rattle.lk_node.proofs.Nodes.{map_has}
use Rattle.lk_node.specs.Beginning.{next_ballot}
use Rattle.lk_node.specs.Executing.{NothingToRun}
use Rattle.lk_node.specs.Nearness.{AreNear}
use Rattle.lk_progress.specs.Electing.{IsDue}
use Rattle.lk_progress.specs.Exchanges.{prepare_by}
use Rattle.lk_replica.specs.ReplicaValue.{ReplicaValue}
use Rattle.lk_sim.specs.WorldStates.{WorldState}
use Rattle.lk_sim.specs.declared.event.Event.TheVariants as event
use Rattle.lk_world_progress.proofs.Stepping.{has_header, one_replica}
use Rattle.lk_world_progress.specs.Delivering.{AreDistinct}
use Rattle.lk_world_progress.specs.Exchanging.{number_of}
use Rattle.lk_world_progress.specs.Stepping.{GoesWell, Holds, IsUpAs}
use Rattle.lk_world_leftovers.proofs.Fixed.{fixed_has_leftovers}
use Rattle.lk_world_leftovers.specs.Filling.{PairsUpTo}
use Rattle.lk_world_leftovers.specs.Fixed.{NobodyIsAhead}
use Rattle.lk_world_leftovers.specs.Persisting.{AreFixed, Contends, IsNoRival, MayVote, VotesUpTo}
use Rattle.lk_healing.specs.Contending.{AsksNothing}
use Rattle.lk_healing.specs.Polls.{HasBegun}
use Rattle.lk_healing.specs.declared.asking.Asking.{Asking}

-- whoever asks nothing changes no member
pub still_fixed : (old new : WorldState ReplicaValue) (x : ℕ) (others : List ℕ) → AsksNothing old new
    → AreFixed old x others → AreFixed new x others
still_fixed old new x others same fixed = record {
  changes = λ z c. fixed.changes z (subst (λ (rs : List RequestValue). Contains rs z) same.asked c);
  named = ap (λ (g : Genesis). is_member x g.members) same.genesis ∙ fixed.named;
  majority = subst (λ (g : Genesis). IsMajority (x ∷ others) g.members) (sym same.genesis) fixed.majority;
}

-- ---- the others as replicas

record AreGathered (w : WorldState ReplicaValue) (top last : ℕ) (ns : List ℕ) : Type 0 where
  replicas : List ReplicaValue
  numbers : map number_of replicas ≡ ns
  each : (r : ReplicaValue) → Contains replicas r → (v : MayVote w top last (number_of r)) × (v.replica ≡ r)

gathered : (m : Meaning) (IsText : List ℕ → Type 0) (w : WorldState ReplicaValue) → Holds m IsText w → (top last : ℕ)
    (ns : List ℕ) → ((n : ℕ) → Contains ns n → MayVote w top last n) → AreGathered w top last ns
gathered m IsText w holds top last [] may = record {
  replicas = [];
  numbers = refl;
  each = λ r c. absurd (omega (arith, c.1));
}
gathered m IsText w holds top last (n ∷ ns) may =
    let v : MayVote w top last n = may n (0, omega arith, refl) in
    let rest : AreGathered w top last ns = gathered m IsText w holds top last ns
    (λ k c. may k (contains_more n ns k c)) in
    let is : number_of v.replica ≡ n = ap (λ (h : HeaderValue). h.node)
    (has_header m IsText w holds n v.replica v.up) in
    record {
      replicas = v.replica ∷ rest.replicas;
      numbers = (λ i. is i ∷ rest.numbers i);
      each = λ r c. elim (cons_cases v.replica rest.replicas r c) [
        | inl same ↦ subst (λ (q : ReplicaValue). (u : MayVote w top last (number_of q)) × (u.replica ≡ q)) same
            (subst (λ (k : ℕ). (u : MayVote w top last k) × (u.replica ≡ v.replica)) (sym is) (v, refl))
        | inr later ↦ rest.each r later
      ];
    }

module _ (m : Meaning) (IsText : List ℕ → Type 0) (x : ℕ) (nodes others : List ℕ) (are : nodes ≡ x ∷ others)
    (due now : WorldState ReplicaValue) (asking : Asking) (c : ReplicaValue) (up : IsUpAs due x c)
    (is_due : IsDue c.node)
    (begins : GoesWell m IsText due (event.Tick x) now) (cluster : asking.cluster ≡ now.genesis.cluster)
    (ballot : asking.ballot ≡ next_ballot c.node) (first : asking.first ≡ executed c.node.learner + 1) (e h : ℕ)
    (low : e ≤ h) (room : h < 281474976710656) (ready : Contends m IsText due x e e others h)
    (no_rival : (n : ℕ) → Contains others n → IsNoRival due x n) (fixed : AreFixed due x others) where
  is_candidate : ready.candidate ≡ c
  is_candidate = one_replica m IsText due ready.holds x ready.candidate c ready.up up

  number_is : number_of c ≡ x
  number_is = ap (λ (y : HeaderValue). y.node) (has_header m IsText due ready.holds x c up)

  on : (P : ReplicaValue → Type 0) → P ready.candidate → P c
  on P p = subst P is_candidate p

  reach : executed c.node.learner ≡ e
  reach = on (λ y. executed y.node.learner ≡ e) ready.reach

  voters : AreGathered due e h others
  voters = gathered m IsText due ready.holds e h others ready.others_may

  one_of : (y : ReplicaValue) → Contains voters.replicas y → Contains others (number_of y)
  one_of y d = subst (λ (ns : List ℕ). Contains ns (number_of y)) voters.numbers
      (map_has number_of voters.replicas y d)

  module _ (y : ReplicaValue) (d : Contains voters.replicas y) where
    abbrev may_vote : MayVote due e h (number_of y)
    may_vote = (voters.each y d).0

    of_voter : (P : ReplicaValue → Type 0) → P may_vote.replica → P y
    of_voter P p = subst P (voters.each y d).1 p

    voter_up : IsUpAs due (number_of y) y
    voter_up = of_voter (λ z. IsUpAs due (number_of y) z) may_vote.up

    not_above : IsAtMost y.node.acceptor.state.promised (next_ballot c.node)
    not_above = at_most_unless_below y.node.acceptor.state.promised (next_ballot c.node)
        (λ above. no_rival (number_of y) (one_of y d) c up
        (record { replica = y; up = voter_up; above = above }))

  all_numbers : map number_of (c ∷ voters.replicas) ≡ x ∷ others
  all_numbers = λ i. number_is i ∷ voters.numbers i

  ahead : NobodyIsAhead m IsText due c voters.replicas h
  ahead = record {
    holds = ready.holds;
    changes = fixed.changes;
    up = subst (λ (n : ℕ). IsUpAs due n c) (sym number_is) up;
    due = is_due;
    named = ap (λ (n : ℕ). is_member n due.genesis.members) number_is ∙ fixed.named;
    idle = on (λ y. y.node.leader.waiting ≡ []) ready.waiting;
    known = on (λ y. NothingToRun y.node) ready.known;
    near = on (λ y. AreNear y.node.acceptor y.node.learner) ready.near;
    within = omega (arith, reach, low);
    others_up = voter_up;
    others_near = λ y d. of_voter y d (λ z. AreNear z.node.acceptor z.node.learner) (may_vote y d).near;
    ballot = not_above;
    behind = λ y d. of_voter y d (λ z. executed z.node.learner ≤ executed c.node.learner)
        (let low_one = (may_vote y d).behind in omega (arith, reach, low_one));
    reaches = λ y d. of_voter y d (λ z. h ≤ executed z.node.learner + 2 * alpha z.node.learner)
        (may_vote y d).reaches;
    pairs = λ y d. elim (cons_cases c voters.replicas y d) [
      | inl is ↦ subst (λ (z : ReplicaValue). PairsUpTo z.node h) is (on (λ z. PairsUpTo z.node h) ready.pairs)
      | inr other ↦ of_voter y other (λ z. PairsUpTo z.node h) (may_vote y other).pairs
    ];
    votes = λ y d. elim (cons_cases c voters.replicas y d) [
      | inl is ↦ subst (λ (z : ReplicaValue). VotesUpTo z.node h) is (on (λ z. VotesUpTo z.node h) ready.votes)
      | inr other ↦ of_voter y other (λ z. VotesUpTo z.node h) (may_vote y other).votes
    ];
    distinct = subst AreDistinct (sym all_numbers) ready.distinct;
    majority = subst (λ (ns : List ℕ). IsMajority ns due.genesis.members) (sym all_numbers) fixed.majority;
    room = room;
  }

  pub has_begun : HasBegun m IsText x nodes asking now
  has_begun = record {
    candidate = c;
    number = number_is;
    others = voters.replicas;
    are = are ∙ (λ i. (sym number_is) i ∷ (sym voters.numbers) i);
    set = due.genesis.members;
    highest = h;
    due = due;
    leftovers = fixed_has_leftovers m IsText due c voters.replicas h ahead;
    ticks = subst (λ (n : ℕ). GoesWell m IsText due (event.Tick n) now) (sym number_is) begins;
    cluster = cluster;
    ballot = ballot;
    first = first;
  }

  pub has_highest : has_begun.highest ≡ h
  unfolding has_begun
  has_highest = refl

  pub has_reach : executed has_begun.candidate.node.learner ≡ e
  unfolding has_begun
  has_reach = reach

  pub has_due : has_begun.due ≡ due
  unfolding has_begun
  has_due = refl

  pub has_candidate : prepare_by has_begun.candidate.node ≡ prepare_by c.node
  unfolding has_begun
  has_candidate = refl
