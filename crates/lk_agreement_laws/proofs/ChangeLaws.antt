-- What changes within a node leaves it fitting to the history.
use Rattle.std.proofs.Common.{◌≡◌, ℕ, suc, ◌+◌, ◌≤◌, ◌⊎◌, List, [], ◌∷◌, ◌++◌, length, Option, Some, None, Contains}
use Rattle.std.proofs.Common.{refl, ap, sym, ◌∙◌, subst, subst₂, inl, inr, arith, length-append}
use Rattle.std.proofs.lemmas.Bool.{cases_eq}
use Rattle.std.proofs.lemmas.List.Elements.{Contains-push_cases, Contains-append_left}
use Rattle.lk_members.specs.Rosters.{members}
use Rattle.lk_members.specs.Majorities.{IsMajority}
use Rattle.lk_agreement_laws.specs.Ballots.{BallotValue, IsBelow, IsAtMost}
use Rattle.lk_agreement_laws.specs.Datagrams.{Genesis, Vote, NodeMessage, Datagram, Prepare, Promise, Accept, Accepted}
use Rattle.lk_agreement_laws.specs.Datagrams.{HasSent, WasSent}
use Rattle.lk_agreement_laws.specs.Chosen.{Command, Chosen, ChosenAt}
use Rattle.lk_agreement_laws.specs.Soundness.{ReceivedPromise, WasPromised, IsPromisedVote, Justified, Sound}
use Rattle.lk_agreement_laws.specs.Acceptors.{AcceptorState, CoversVote, Covers, CoversSent, AreProposed, AddsVote}
use Rattle.lk_agreement_laws.specs.Acceptors.{ForgetsVotes}
use Rattle.lk_agreement_laws.specs.Nodes.{Pair, Acceptance, Term, new_term, PaxosState, TermFits, Stems, PaxosFits}
use Rattle.lk_agreement_laws.specs.Changes.{MayPropose, with_promise, holding_acceptor, with_paxos_term, with_received}
use Rattle.lk_agreement_laws.specs.Changes.{with_proposal}
use Rattle.lk_agreement_laws.specs.Changes.{with_acceptance, Changes, promises, accepts, compacts, begins, hears}
use Rattle.lk_agreement_laws.specs.Changes.{proposes}
use Rattle.lk_agreement_laws.specs.Changes.{counts, leaves, learns, executes, installs, restarts, Becomes, stays}
use Rattle.lk_agreement_laws.specs.Changes.{goes_on}
use Rattle.lk_agreement_laws.proofs.BallotOrder.{below_self, below_trans, at_most_below, at_most_trans}
use Rattle.lk_agreement_laws.proofs.Agree.{vote}
use Rattle.lk_agreement_laws.proofs.Grow.{chosen_push}

-- the new standing has what the old one had, or what stands above it
record Advances (old new : AcceptorState) : Type 0 where
  promised : IsAtMost old.promised new.promised
  snapshot : old.snapshot_position ≤ new.snapshot_position
  votes : (x : Vote) → Contains old.votes x → (x.position ≤ new.snapshot_position) ⊎ CoversVote new.votes x

-- what a vote covers is covered by what covers the vote
cover_trans : (kept : List Vote) (x y : Vote) → y.position ≡ x.position
    → IsBelow x.ballot y.ballot ⊎ ((y.ballot ≡ x.ballot) × (y.command ≡ x.command))
    → CoversVote kept y → CoversVote kept x
cover_trans kept x y at over z = (z.0, z.1, z.2 ∙ at, both over z.3)
  where
    both : IsBelow x.ballot y.ballot ⊎ ((y.ballot ≡ x.ballot) × (y.command ≡ x.command))
        → IsBelow y.ballot z.0.ballot ⊎ ((z.0.ballot ≡ y.ballot) × (z.0.command ≡ y.command))
        → IsBelow x.ballot z.0.ballot ⊎ ((z.0.ballot ≡ x.ballot) × (z.0.command ≡ x.command))
    both (inl h) (inl k) = inl (below_trans x.ballot y.ballot z.0.ballot h k)
    both (inl h) (inr e) = inl (subst (λ d. IsBelow x.ballot d) (sym e.0) h)
    both (inr f) (inl k) = inl (subst (λ d. IsBelow d z.0.ballot) f.0 k)
    both (inr f) (inr e) = inr (e.0 ∙ f.0, e.1 ∙ f.1)

-- a standing that is ahead covers as much
covers_ahead : (old new : AcceptorState) → Advances old new → (m : NodeMessage) → Covers old m → Covers new m
covers_ahead old new a (Prepare b first) c = at_most_trans b old.promised new.promised c a.promised
covers_ahead old new a (Promise p) c = at_most_trans p.ballot old.promised new.promised c a.promised
covers_ahead old new a (Accept x) c = at_most_trans x.ballot old.promised new.promised c a.promised
covers_ahead old new a (Accepted x) c = (
  at_most_trans x.ballot old.promised new.promised c.0 a.promised,
  elim c.1 [
    | inl under ↦ inl (omega (arith, a.snapshot))
    | inr y ↦ elim (a.votes y.0 y.1)
        [ inl under ↦ inl (omega (arith, y.2)) | inr z ↦ inr (cover_trans new.votes x y.0 y.2 y.3 z) ]
  ],
)
covers_ahead old new a _ c = tt

-- the same votes, under a greater promise
promise_ahead : (s : AcceptorState) (b : BallotValue) → IsAtMost s.promised b → Advances s (with_promise s b)
promise_ahead s b le =
    record { promised = le; snapshot = omega arith; votes = λ x h. inr (x, h, refl, inr (refl, refl)) }

snapshot_ahead : (old new : AcceptorState) (i : ℕ) → ForgetsVotes old i new → Advances old new
snapshot_ahead old new i t = record {
  promised = inr (sym t.promised);
  snapshot = omega (arith, t.snapshot, t.later);
  votes = λ x h. elim (t.above x h)
      [ inl under ↦ inl (omega (arith, t.snapshot)) | inr kept ↦ inr (x, kept, refl, inr (refl, refl)) ];
}

-- an image that covers what was sent and stems from it, and has no term
pub restart_fits : (genesis : Genesis) (sent : List Datagram) (n : ℕ) (image : PaxosState)
    → CoversSent genesis sent n image.acceptor → Stems genesis sent image → image.term ≡ None
    → PaxosFits genesis sent n image
restart_fits genesis sent n image covers stems ended =
    record { covers = covers; stems = stems; term = λ t at. absurd (cc (ended, at)) }

module _ (genesis : Genesis) (sent : List Datagram) (sound : Sound genesis sent) where
  -- a vote that gives way is one of an earlier ballot, or the same
  replaced : (x y : Vote) → y.position ≡ x.position → IsAtMost y.ballot x.ballot → WasSent genesis sent (Accept y)
      → WasSent genesis sent (Accept x)
      → IsBelow y.ballot x.ballot ⊎ ((x.ballot ≡ y.ballot) × (x.command ≡ y.command))
  replaced x y at (inl lt) was now = inl lt
  replaced x y at (inr e) was now =
      let mine = subst₂ (λ i b. WasSent genesis sent (Accept (vote i b y.command))) at e was in
      inr (sym e, sound.one_value x.ballot x.position x.command y.command now mine)

  vote_ahead : (old new : AcceptorState) (x : Vote) → IsAtMost old.promised x.ballot → AreProposed genesis sent old
      → WasSent genesis sent (Accept x) → AddsVote old x new → Advances old new
  vote_ahead old new x le proposed was t = record {
    promised = subst (λ b. IsAtMost old.promised b) (sym t.promised) le;
    snapshot = omega (arith, t.snapshot);
    votes = λ y h. inr (elim (cases_eq y.position x.position) [
      | inl e ↦ (let p = proposed y h in
          (x, t.kept, sym e, replaced x y e (at_most_trans y.ballot old.promised x.ballot p.1 le) p.0 was))
      | inr ne ↦ (y, t.others y h ne, refl, inr (refl, refl))
    ]);
  }

  vote_proposed : (old new : AcceptorState) (x : Vote) → IsAtMost old.promised x.ballot → AreProposed genesis sent old
      → WasSent genesis sent (Accept x) → AddsVote old x new → AreProposed genesis sent new
  vote_proposed old new x le proposed was t y h =
      subst (λ b. WasSent genesis sent (Accept y) × IsAtMost y.ballot b) (sym t.promised) (elim (t.only y h) [
        | inl e ↦
            subst (λ (z : Vote). WasSent genesis sent (Accept z) × IsAtMost z.ballot x.ballot) (sym e) (was, inr refl)
        | inr old' ↦ (let p = proposed y old' in (p.0, at_most_trans y.ballot old.promised x.ballot p.1 le))
      ])

  module _ (n : ℕ) where
    term_ahead : (old new : AcceptorState) (t : Term) → IsAtMost old.promised new.promised
        → TermFits genesis sent n old t → TermFits genesis sent n new t
    term_ahead old new t le f = record {
      own = f.own;
      promised = at_most_trans t.ballot old.promised new.promised f.promised le;
      received = f.received;
      accepted = f.accepted;
      complete = f.complete;
      one_each = f.one_each;
      justified = f.justified;
    }

    with_acceptor_fits : (old : PaxosState) (s : AcceptorState) → PaxosFits genesis sent n old → Advances old.acceptor s
        → AreProposed genesis sent s → s.snapshot_position ≤ length old.done
        → PaxosFits genesis sent n (holding_acceptor old s)
    with_acceptor_fits old s f a proposed within = record {
      covers = λ m h. covers_ahead old.acceptor s a m (f.covers m h);
      stems = record { votes = proposed; done = f.stems.done; snapshot = within; pairs = f.stems.pairs };
      term = λ t at. term_ahead old.acceptor s t a.promised (f.term t at);
    }

    promise_fits : (old : PaxosState) (b : BallotValue) → PaxosFits genesis sent n old
        → IsAtMost old.acceptor.promised b
        → PaxosFits genesis sent n (holding_acceptor old (with_promise old.acceptor b))
    promise_fits old b f le = with_acceptor_fits old (with_promise old.acceptor b) f (promise_ahead old.acceptor b le)
        (λ x h. let p = f.stems.votes x h in (p.0, at_most_trans x.ballot old.acceptor.promised b p.1 le))
        f.stems.snapshot

    -- a ballot above all that the node promised was never used
    unused : (s : AcceptorState) (b : BallotValue) (i : ℕ) (v : Command) → CoversSent genesis sent n s → b.node ≡ n
        → IsBelow s.promised b → WasSent genesis sent (Accept (vote i b v)) → ⊥
    unused s b i v c own lt h =
        let mine : HasSent genesis sent n (Accept (vote i b v)) =
        subst (λ k. HasSent genesis sent k (Accept (vote i b v)))
        (sym (sound.own h.sender (vote i b v) h.has_sent) ∙ own) h.has_sent in
        below_self b (at_most_below b s.promised b (c (Accept (vote i b v)) mine) lt)

    new_term_fits : (s new : AcceptorState) (b : BallotValue) → new.promised ≡ b → CoversSent genesis sent n s
        → b.node ≡ n → IsBelow s.promised b
        → TermFits genesis sent n new (new_term b)
    new_term_fits s new b is c own lt = record {
      own = own;
      promised = inr (sym is);
      received = λ r h. absurd (omega (arith, h.1));
      accepted = λ a h. absurd (omega (arith, h.1));
      complete = λ i v h. absurd (unused s b i v c own lt h);
      one_each = λ i v w h. absurd (omega (arith, h.1));
      justified = λ i v h. absurd (omega (arith, h.1));
    }

    received_fits : (s : AcceptorState) (t : Term) (r : ReceivedPromise) → WasPromised genesis sent t.ballot r
        → TermFits genesis sent n s t → TermFits genesis sent n s (with_received t r)
    received_fits s t r h f = record {
      own = f.own;
      promised = f.promised;
      received = λ q c. elim (Contains-push_cases t.received r q c)
          [ inl old ↦ f.received q old | inr e ↦ subst (λ x. WasPromised genesis sent t.ballot x) e h ];
      accepted = f.accepted;
      complete = f.complete;
      one_each = f.one_each;
      justified = f.justified;
    }

    acceptance_fits : (s : AcceptorState) (t : Term) (a : Acceptance)
        → HasSent genesis sent a.node (Accepted (vote a.position t.ballot a.command)) → TermFits genesis sent n s t
        → TermFits genesis sent n s (with_acceptance t a)
    acceptance_fits s t a h f = record {
      own = f.own;
      promised = f.promised;
      received = f.received;
      accepted = λ q c. elim (Contains-push_cases t.accepted a q c) [
        | inl old ↦ f.accepted q old
        | inr e ↦
            subst (λ (x : Acceptance). HasSent genesis sent x.node (Accepted (vote x.position t.ballot x.command))) e h
      ];
      complete = f.complete;
      one_each = f.one_each;
      justified = f.justified;
    }

    -- a vote that a term's promises report, where the term has proposed nothing, is of an earlier ballot
    earlier_vote : (s : AcceptorState) (t : Term) (y : Vote) → TermFits genesis sent n s t → IsPromisedVote t.received y
        → ((w : Command) → Contains t.proposals (y.position, w) → ⊥) → IsBelow y.ballot t.ballot
    earlier_vote s t y f told new =
        let r = sound.reported told.0.node (record { ballot = t.ballot; first = told.0.first; votes = told.0.votes })
        (f.received told.0 told.1) y told.2 in
        elim r.1 [
          | inl lt ↦ lt
          | inr e ↦ absurd (new y.command
              (f.complete y.position y.command
              (subst (λ d. WasSent genesis sent (Accept (vote y.position d y.command))) e r.0)))
        ]

    justify : (s : AcceptorState) (done : List Command) (t : Term) (i : ℕ) (v : Command) → TermFits genesis sent n s t
        → Chosen genesis sent done → MayPropose genesis done t i v
        → Justified genesis sent t.ballot i v
    justify s done t i v f chosen c = record {
      under = done;
      chosen = chosen;
      reaches = c.reaches;
      received = c.received;
      nodes = c.nodes;
      majority = c.majority;
      promisers = c.promisers;
      promised = λ r h. let a = c.among r h in (a.1, f.received r a.0);
      highest = λ x told at. let y = c.highest x told at in
          let told' : IsPromisedVote t.received y.0 = (y.1.0, (c.among y.1.0 y.1.1).0, y.1.2) in (
            y.0,
            y.1,
            y.2,
            y.3,
            y.4,
            earlier_vote s t y.0 f told' (λ w h. c.new w (subst (λ j. Contains t.proposals (j, w)) y.2 h)),
          );
    }

    -- the proposals of a term, and one more
    pair_cases : (proposals : List Pair) (i j : ℕ) (v w : Command) → Contains (proposals ++ (i, v) ∷ []) (j, w)
        → Contains proposals (j, w) ⊎ ((i ≡ j) × (v ≡ w))
    pair_cases proposals i j v w h =
        elim (Contains-push_cases proposals (i, v) (j, w) h)
        [ inl old ↦ inl old | inr e ↦ inr (ap (λ (p : Pair). p.0) e, ap (λ (p : Pair). p.1) e) ]

    proposal_fits : (s : AcceptorState) (done : List Command) (t : Term) (i : ℕ) (v : Command)
        → Chosen genesis sent done → MayPropose genesis done t i v → TermFits genesis sent n s t
        → TermFits genesis sent n s (with_proposal t (i, v))
    proposal_fits s done t i v chosen c f = record {
      own = f.own;
      promised = f.promised;
      received = f.received;
      accepted = f.accepted;
      complete = λ j w h. Contains-append_left t.proposals ((i, v) ∷ []) _ (f.complete j w h);
      one_each = λ j u w hu hw. elim (pair_cases t.proposals i j v u hu) [
        | inl old ↦ elim (pair_cases t.proposals i j v w hw) [
          | inl old' ↦ f.one_each j u w old old'
          | inr is ↦ absurd (c.new u (subst (λ k. Contains t.proposals (k, u)) (sym is.0) old))
        ]
        | inr is ↦ elim (pair_cases t.proposals i j v w hw) [
          | inl old' ↦ absurd (c.new w (subst (λ k. Contains t.proposals (k, w)) (sym is.0) old'))
          | inr is' ↦ sym is.1 ∙ is'.1
        ]
      ];
      justified = λ j w h. elim (pair_cases t.proposals i j v w h) [
        | inl old ↦ f.justified j w old
        | inr is ↦ subst₂ (λ k u. Justified genesis sent t.ballot k u) is.0 is.1 (justify s done t i v f chosen c)
      ];
    }

    -- the term of a state that has just this one
    only_term : (s : AcceptorState) (t : Term) → TermFits genesis sent n s t → (u : Term) → Some t ≡ Some u
        → TermFits genesis sent n s u
    only_term s t f u e = let same : t ≡ u = cc e in subst (λ x. TermFits genesis sent n s x) same f

    with_term_stems : (w : PaxosState) (t : Option Term) → Stems genesis sent w
        → Stems genesis sent (with_paxos_term w t)
    with_term_stems w t f = record { votes = f.votes; done = f.done; snapshot = f.snapshot; pairs = f.pairs }

    with_term_fits : (w : PaxosState) (t : Term) → PaxosFits genesis sent n w → TermFits genesis sent n w.acceptor t
        → PaxosFits genesis sent n (with_paxos_term w (Some t))
    with_term_fits w t f g =
        record { covers = f.covers; stems = with_term_stems w (Some t) f.stems; term = only_term w.acceptor t g }

    pub change_fits : (old new : PaxosState) → PaxosFits genesis sent n old → Changes genesis sent n old new
        → PaxosFits genesis sent n new
    change_fits old new f (promises b le) = promise_fits old b f le
    change_fits old new f (accepts x s le was t) =
        with_acceptor_fits old s f (vote_ahead old.acceptor s x le f.stems.votes was t)
        (vote_proposed old.acceptor s x le f.stems.votes was t) (omega (arith, t.snapshot, f.stems.snapshot))
    change_fits old new f (compacts i s within t) =
        with_acceptor_fits old s f (snapshot_ahead old.acceptor s i t)
        (λ x h. subst (λ b. WasSent genesis sent (Accept x) × IsAtMost x.ballot b) (sym t.promised)
        (f.stems.votes x (t.only x h)))
        (omega (arith, t.snapshot))
    change_fits old new f (begins b own lt) =
        with_term_fits (holding_acceptor old (with_promise old.acceptor b)) (new_term b) (promise_fits old b f (inl lt))
        (new_term_fits old.acceptor (with_promise old.acceptor b) b refl f.covers own lt)
    change_fits old new f (hears t r at h) =
        with_term_fits old (with_received t r) f (received_fits old.acceptor t r h (f.term t at))
    change_fits old new f (proposes t i v at c) =
        with_term_fits old (with_proposal t (i, v)) f
        (proposal_fits old.acceptor old.done t i v f.stems.done c (f.term t at))
    change_fits old new f (counts t a at h) =
        with_term_fits old (with_acceptance t a) f (acceptance_fits old.acceptor t a h (f.term t at))
    change_fits old new f leaves =
        record { covers = f.covers; stems = with_term_stems old None f.stems; term = λ t at. absurd (cc at) }
    change_fits old new f (learns i v c) = record {
      covers = f.covers;
      stems = record {
        votes = f.stems.votes;
        done = f.stems.done;
        snapshot = f.stems.snapshot;
        pairs = λ j w h. elim (pair_cases old.pairs i j v w h)
            [ inl old' ↦ f.stems.pairs j w old' | inr is ↦ subst₂ (λ k u. ChosenAt genesis sent k u) is.0 is.1 c ];
      };
      term = f.term;
    }
    change_fits old new f (executes v rest h among) = record {
      covers = f.covers;
      stems = record {
        votes = f.stems.votes;
        done = chosen_push genesis sent sound old.done v f.stems.done (f.stems.pairs (suc (length old.done)) v h);
        snapshot = omega (arith, f.stems.snapshot, length-append old.done (v ∷ []));
        pairs = λ j w k. f.stems.pairs j w (among (j, w) k);
      };
      term = f.term;
    }
    change_fits old new f (installs L rest c within among) = record {
      covers = f.covers;
      stems = record {
        votes = f.stems.votes;
        done = c;
        snapshot = within;
        pairs = λ j w k. f.stems.pairs j w (among (j, w) k);
      };
      term = f.term;
    }
    change_fits old new f (restarts image covers stems ended) = restart_fits genesis sent n image covers stems ended

    pub changes_fit : (old new : PaxosState) → PaxosFits genesis sent n old → Becomes genesis sent n old new
        → PaxosFits genesis sent n new
    changes_fit old new f stays = f
    changes_fit old new f (goes_on {mid = mid} first last) = change_fits mid new (changes_fit old mid f first) last

-- a command that the term shows to be accepted by a majority of the members that the executed list names
pub accepted_is_chosen : (genesis : Genesis) (sent : List Datagram) (n : ℕ) (w : PaxosState) (t : Term) (i : ℕ)
    (v : Command)
    (nodes : List ℕ) → PaxosFits genesis sent n w → w.term ≡ Some t
    → i ≤ length w.done + genesis.alpha → IsMajority nodes (members genesis w.done i)
    → ((k : ℕ) → Contains nodes k → Contains t.accepted (record { node = k; position = i; command = v }))
    → ChosenAt genesis sent i v
accepted_is_chosen genesis sent n w t i v nodes f at reaches majority heard = record {
  under = w.done;
  chosen = f.stems.done;
  reaches = reaches;
  ballot = t.ballot;
  accepted = record { nodes = nodes; majority = majority; accepted = λ k h. (f.term t at).accepted _ (heard k h) };
}
