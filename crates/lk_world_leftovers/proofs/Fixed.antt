-- What the nodes of a world know if nobody has asked to change the members.
use Rattle.std.proofs.Common.{◌≡◌, ◌∙◌, inl, inr, ℕ, suc, ◌+◌, ◌-◌, ◌<◌, ◌≤◌, ◌&&◌, nat_lt, nat_le, true, false, List}
use Rattle.std.proofs.Common.{[], ◌∷◌, Option, Some, None, Contains, length, refl, ap, sym, subst, arith}
use Rattle.std.proofs.lemmas.Bool.Decides.{nat_tests}
use Rattle.std.proofs.lemmas.List.Elements.{Contains-append_left, Contains-push}
use Rattle.std.proofs.lemmas.Option.{slice_get-get_or}
use Rattle.std.specs.Prelude.{slice_get}
use Rattle.lk_types.specs.BallotValue.{BallotValue}
use Rattle.lk_types.specs.Ballots.{IsAtMost, IsBelow}
use Rattle.lk_types.specs.declared.genesis.Genesis.{Genesis}
use Rattle.lk_types.specs.declared.vote.Vote.{Vote}
use Rattle.lk_store_format.specs.Values.{HeaderValue}
use Rattle.lk_messages.specs.declared.message.NodeMessage.TheVariants as kinds
use Rattle.lk_agreement_laws.proofs.Histories.{at_most_trans, at_most_below, below_self, chosen_was_accepted}
use Rattle.lk_agreement_laws.proofs.Histories.{contains_more, entry_chosen}
use Rattle.lk_agreement_laws.specs.Acceptors.{AcceptorState}
use Rattle.lk_agreement_laws.specs.Chosen.{Chosen, ChosenAt}
use Rattle.lk_agreement_laws.specs.Datagrams.{HasSent, WasSent}
use Rattle.lk_members.proofs.Memberships.{set_of_window}
use Rattle.lk_members.specs.Effects.{Command, IsLast, Noop, Request, RequestValue}
use Rattle.lk_state.proofs.Wholes.{by_pushes, last_is_greatest, ran-whole_after, seen_last}
use Rattle.lk_state.specs.Meanings.{Meaning}
use Rattle.lk_state.specs.Sessions.{session_of, is_new}
use Rattle.lk_state.specs.States.{WholeValue, last_session, whole_after}
use Rattle.lk_state.specs.declared.session.Session.{Session}
use Rattle.lk_learner.proofs.Learnerships.{ran_moves}
use Rattle.lk_learner.specs.Learners.{executed}
use Rattle.lk_node.specs.Beginning.{greatest_round, next_ballot}
use Rattle.lk_node.specs.Histories.{WasAsked}
use Rattle.lk_node.specs.NodeValue.{NodeValue}
use Rattle.lk_progress.proofs.Beginnings.{first_members, nothing_changed, roster_is, window}
use Rattle.lk_progress.proofs.LeadingOn.{ran_fixed}
use Rattle.lk_progress.specs.LeadingOn.{AreAll, KeepsMembers}
use Rattle.lk_leftovers.proofs.Walking.{same_change}
use Rattle.lk_replica.specs.Behaviours.{disks_by}
use Rattle.lk_replica.specs.ReplicaValue.{ReplicaValue}
use Rattle.lk_sim.specs.WorldStates.{WorldState}
use Rattle.lk_sim.specs.Traces.{happened}
use Rattle.lk_sim_nodes.specs.SimNodes.{UpFits}
use Rattle.lk_world_progress.proofs.Overtaking.{promised_round, round_above}
use Rattle.lk_world_progress.proofs.Stepping.{has_header, up_fits}
use Rattle.lk_world_progress.specs.Exchanging.{number_of}
use Rattle.lk_world_progress.specs.Stepping.{Holds, IsUpAs, Shows, behaviour}
use Rattle.lk_world_leftovers.specs.Collecting.{AreLeftovers, HasLeftovers}
use Rattle.lk_world_leftovers.specs.Fixed.{FixedWorldHasLeftovers, FreshRequestsAreNew, IsFresh, KnowsMembers}
use Rattle.lk_world_leftovers.specs.Fixed.{NobodyChanges, NobodyIsAhead, NodesKnowMembers, VotesAreOlder}

-- ---- a list without changes

record HasFixed (genesis : Genesis) (w : WholeValue) : Type 0 where
  some : 1 ≤ length w.roster.sets
  fixed : AreAll w.roster.sets genesis.members
  changed : w.roster.changed ≡ 0

module _ (m : Meaning) (genesis : Genesis) (some : 1 ≤ genesis.alpha) where
  first_fixed : HasFixed genesis (whole_after m genesis [])
  first_fixed = record {
    some = omega (arith, some, window m genesis);
    fixed = λ k lt. set_of_window genesis [] (whole_after m genesis []).roster k (roster_is m genesis)
        (omega (arith, lt, window m genesis)) ∙ ap Some (first_members genesis (1 + k));
    changed = nothing_changed m genesis;
  }

  fixed_after : (L : List Command) → ((v : Command) → Contains L v → KeepsMembers v)
      → HasFixed genesis (whole_after m genesis L)
  fixed_after = by_pushes
      (λ L. ((v : Command) → Contains L v → KeepsMembers v) → HasFixed genesis (whole_after m genesis L))
      (λ keep. first_fixed)
      (λ L v before keep.
      let was : HasFixed genesis (whole_after m genesis L) =
      before (λ u c. keep u (Contains-append_left L (v ∷ []) u c)) in
      let plain : KeepsMembers v = keep v (Contains-push L v) in
      let moves = ran_moves m v (whole_after m genesis L) was.some in
      subst (HasFixed genesis) (ran-whole_after m genesis L v) (record {
        some = omega (arith, was.some, moves.1);
        fixed = ran_fixed m v (whole_after m genesis L) genesis.members plain was.some was.fixed;
        changed = same_change m v (whole_after m genesis L) plain ∙ was.changed;
      }))

-- ---- what was asked

module _ (m : Meaning) (IsText : List ℕ → Type 0) (w : WorldState ReplicaValue) (holds : Holds m IsText w) where
  chosen_asked : (i : ℕ) (v : Command) → ChosenAt w.genesis w.sent i v
      → WasAsked (happened w.genesis w.sent w.trace) v
  chosen_asked i v chosen =
      let n = chosen_was_accepted w.genesis w.sent i v chosen in
      holds.proposed (record { position = i; ballot = n.1; command = v })
      (holds.world.sound.proposed n.0 (record { position = i; ballot = n.1; command = v }) n.2)

  list_asked : (L : List Command) → Chosen w.genesis w.sent L → (v : Command) → Contains L v
      → WasAsked (happened w.genesis w.sent w.trace) v
  list_asked L chosen v c = chosen_asked (suc c.0) v
      (entry_chosen w.genesis w.sent L chosen (suc c.0) v (slice_get-get_or L c.0 v c.1 ∙ ap Some c.2))

  module _ (n : ℕ) (node : ReplicaValue) (r : RequestValue) (up : IsUpAs w n node) (fresh : IsFresh w r) where
    shown : UpFits (Shows m) (disks_by (behaviour m IsText)) m (happened w.genesis w.sent w.trace) (holds.states n) n
        node
    shown = up_fits m IsText w holds n node up

    by_session : (o : Option Session) → session_of r.client node.node.learner.whole.sessions ≡ o
        → is_new o r.number ≡ true
    by_session None e = refl
    by_session (Some s) e =
        let last : last_session m w.genesis shown.holding.paxos.done r.client ≡ Some s =
        sym (seen_last m w.genesis shown.holding.paxos.done node.node.learner.whole r.client
        shown.shown.held.follows.sums) ∙ e in
        let used : IsLast shown.holding.paxos.done r.client s.number =
        last_is_greatest m w.genesis shown.holding.paxos.done r.client s last in
        let less : used.request.number < r.number = fresh used.request
        (list_asked shown.holding.paxos.done shown.fits.paxos.stems.done (Request used.request) used.used)
        used.of_client in
        let same : used.request.number ≡ s.number = used.of_number in
        let below : s.number < r.number = omega (arith, less, same) in
        grind (arith, nat_tests)

pub fresh_new : (m : Meaning) (IsText : List ℕ → Type 0) → FreshRequestsAreNew m IsText
fresh_new m IsText w n node r holds up fresh = by_session m IsText w holds n node r up fresh
    (session_of r.client node.node.learner.whole.sessions) refl

-- ---- members

module _ (m : Meaning) (IsText : List ℕ → Type 0) (w : WorldState ReplicaValue) (holds : Holds m IsText w)
    (changes : NobodyChanges w) where
  asked_keeps : (v : Command) → WasAsked (happened w.genesis w.sent w.trace) v → KeepsMembers v
  asked_keeps Noop asked = tt
  asked_keeps (Request r) asked = changes r asked

  sent_keeps : (x : Vote) → WasSent w.genesis w.sent (kinds.Accept x) → KeepsMembers x.command
  sent_keeps x sent = asked_keeps x.command (holds.proposed x sent)

  chosen_keeps : (i : ℕ) (v : Command) → ChosenAt w.genesis w.sent i v → KeepsMembers v
  chosen_keeps i v chosen = asked_keeps v (chosen_asked m IsText w holds i v chosen)

  list_keeps : (L : List Command) → Chosen w.genesis w.sent L → (v : Command) → Contains L v → KeepsMembers v
  list_keeps L chosen v c = asked_keeps v (list_asked m IsText w holds L chosen v c)

  module _ (n : ℕ) (r : ReplicaValue) (up : IsUpAs w n r) where
    fits : UpFits (Shows m) (disks_by (behaviour m IsText)) m (happened w.genesis w.sent w.trace) (holds.states n) n r
    fits = up_fits m IsText w holds n r up

    some_alpha : 1 ≤ w.genesis.alpha
    some_alpha = (let told = fits.shown.told.tells in omega (arith, told.some))

    after : HasFixed w.genesis r.node.learner.whole
    after = subst (HasFixed w.genesis) (sym fits.shown.held.follows.sums)
        (fixed_after m w.genesis some_alpha fits.holding.paxos.done
        (list_keeps fits.holding.paxos.done fits.fits.paxos.stems.done))

    zero_is : executed r.node.learner + 1 - (executed r.node.learner + 1) ≡ 0
    zero_is = omega arith

    knows : KnowsMembers w.genesis r.node
    knows = record {
      fixed = after.fixed;
      members = (
        omega arith,
        subst (λ (i : ℕ). slice_get r.node.learner.whole.roster.sets i ≡ Some w.genesis.members) (sym zero_is)
            (after.fixed 0 (omega (arith, after.some))),
      );
      unchanged = subst (λ (i : ℕ). (nat_lt 0 i && nat_le (executed r.node.learner + 1)
          (i + length r.node.learner.whole.roster.sets)) ≡ false) (sym after.changed) refl;
      pairs = λ p c. chosen_keeps p.0 p.1 (fits.fits.paxos.stems.pairs p.0 p.1 (fits.shown.held.follows.known p c));
      votes = λ v c. sent_keeps v (fits.fits.paxos.stems.votes v
          (subst (λ (s : AcceptorState). Contains s.votes v) (sym fits.shown.held.acceptor) c)).0;
    }

pub nodes_know : (m : Meaning) (IsText : List ℕ → Type 0) → NodesKnowMembers m IsText
nodes_know m IsText w n r holds changes up = knows m IsText w holds changes n r up

-- ---- ballots

next_above : (node : NodeValue) → IsBelow node.acceptor.state.promised (next_ballot node)
next_above node = inl (round_above node.acceptor.state.promised.round node.acceptor.state.promised.round
    (greatest_round node) (promised_round node.acceptor.state.promised node.rounds) refl)

module _ (m : Meaning) (IsText : List ℕ → Type 0) (w : WorldState ReplicaValue) (n x : ℕ)
    (r c : ReplicaValue) (v : Vote)
    (holds : Holds m IsText w) (up : IsUpAs w n r) (candidate_up : IsUpAs w x c)
    (ballot : IsAtMost r.node.acceptor.state.promised (next_ballot c.node))
    (kept : Contains r.node.acceptor.state.votes v) where
  abbrev b : BallotValue
  b = next_ballot c.node

  proposed_vote : WasSent w.genesis w.sent (kinds.Accept v) × IsAtMost v.ballot r.node.acceptor.state.promised
  proposed_vote =
      let f = up_fits m IsText w holds n r up in
      subst (λ (s : AcceptorState). WasSent w.genesis w.sent (kinds.Accept v) × IsAtMost v.ballot s.promised)
      f.shown.held.acceptor
      (f.fits.paxos.stems.votes v (subst (λ (s : AcceptorState). Contains s.votes v) (sym f.shown.held.acceptor) kept))

  -- none is of that ballot, which nobody has begun
  not_that : v.ballot ≡ b → ⊥
  not_that is =
      let sender = proposed_vote.0.sender in
      let number : c.node.header.node ≡ x =
      ap (λ (h : HeaderValue). h.node) (has_header m IsText w holds x c candidate_up) in
      let own : v.ballot.node ≡ sender = holds.world.sound.own sender v proposed_vote.0.has_sent in
      let is_x : sender ≡ x = sym own ∙ ap (λ (y : BallotValue). y.node) is ∙ number in
      let f = up_fits m IsText w holds x c candidate_up in
      let covered : IsAtMost v.ballot f.holding.paxos.acceptor.promised = f.fits.paxos.covers (kinds.Accept v)
      (subst (λ (k : ℕ). HasSent w.genesis w.sent k (kinds.Accept v)) is_x proposed_vote.0.has_sent) in
      let low : IsAtMost b c.node.acceptor.state.promised =
      subst (λ (y : BallotValue). IsAtMost y c.node.acceptor.state.promised) is
      (subst (λ (s : AcceptorState). IsAtMost v.ballot s.promised) f.shown.held.acceptor covered) in
      below_self b (at_most_below b c.node.acceptor.state.promised b low (next_above c.node))

  older : IsBelow v.ballot b
  older = elim (at_most_trans v.ballot r.node.acceptor.state.promised b proposed_vote.1 ballot)
      [ inl below ↦ below | inr is ↦ absurd (not_that is) ]

pub votes_older : (m : Meaning) (IsText : List ℕ → Type 0) → VotesAreOlder m IsText
votes_older m IsText w n x r c v holds up candidate_up ballot kept =
    older m IsText w n x r c v holds up candidate_up ballot kept

-- ---- leftovers

module _ (m : Meaning) (IsText : List ℕ → Type 0) (w : WorldState ReplicaValue) (c : ReplicaValue)
    (others : List ReplicaValue) (last : ℕ) (k : NobodyIsAhead m IsText w c others last) where
  knows_of : (r : ReplicaValue) → IsUpAs w (number_of r) r → KnowsMembers w.genesis r.node
  knows_of r up = nodes_know m IsText w (number_of r) r k.holds k.changes up

  left_at : (r : ReplicaValue) → IsUpAs w (number_of r) r
      → IsAtMost r.node.acceptor.state.promised (next_ballot c.node) → Contains (c ∷ others) r
      → AreLeftovers r.node (next_ballot c.node) (executed c.node.learner) last
  left_at r up ballot d = record {
    low = λ v kept. k.votes r d v kept;
    older = λ v kept above. votes_older m IsText w (number_of r) (number_of c) r c v k.holds up k.up ballot kept;
    keeps = λ v kept above. (knows_of r up).votes v kept;
  }

  has_leftovers : HasLeftovers m IsText w c w.genesis.members others last
  has_leftovers = record {
    holds = k.holds;
    up = k.up;
    candidate_is =
        let known = knows_of c k.up in
        record {
          due = k.due;
          members = known.members;
          fixed = known.fixed;
          named = k.named;
          waiting = k.idle;
          known = k.known;
          unchanged = known.unchanged;
          near = k.near;
          keeps = known.pairs;
          pairs = k.pairs c (0, omega arith, refl);
          within = k.within;
          votes = left_at c k.up (inl (next_above c.node)) (0, omega arith, refl);
        };
    others_up = k.others_up;
    voters = λ r d. record {
      near = k.others_near r d;
      ballot = k.ballot r d;
      behind = k.behind r d;
      pairs = k.pairs r (contains_more c others r d);
      reaches = k.reaches r d;
      votes = left_at r (k.others_up r d) (k.ballot r d) (contains_more c others r d);
    };
    distinct = k.distinct;
    majority = k.majority;
    room = k.room;
  }

pub fixed_has_leftovers : (m : Meaning) (IsText : List ℕ → Type 0) → FixedWorldHasLeftovers m IsText
fixed_has_leftovers m IsText w c others last k = has_leftovers m IsText w c others last k
