-- A leader that is ready proposes a fresh request at its next position, and goes on having proposed it.
use Rattle.std.proofs.Common.{◌≡◌, ◌∙◌, ◌⊎◌, inl, inr, ℕ, ◌+◌, ◌-◌, ◌<◌, ◌≤◌, ◌==◌, ◌&&◌, true, false, eqb, nat_lt}
use Rattle.std.proofs.Common.{nat_le, Option, Some, None, List, [], ◌∷◌, ◌++◌, length, find, map, Contains, refl, ap}
use Rattle.std.proofs.Common.{sym, subst, arith}
use Rattle.std.proofs.lemmas.Bool.{cases_Bool, eq-eqb, ne_eqb}
use Rattle.std.proofs.lemmas.Bool.Decides.{nat_tests}
use Rattle.std.proofs.lemmas.List.Elements.{Contains-append_right}
use Rattle.std.proofs.lemmas.List.Folds.{find-append}
use Rattle.std.proofs.lemmas.Option.{slice_get_within}
use Rattle.std.specs.Option.{option_or}
use Rattle.std.specs.Prelude.{slice_get}
use Rattle.lk_agreement_laws.proofs.Histories.{contains_more}
use Rattle.lk_leader.specs.Proposing.{AreMembersAt, Proposes, proposed, promisers}
use Rattle.lk_leader.specs.Terms.{ProposalValue, TermValue, proposal_at, in_window}
use Rattle.lk_leader.specs.Waits as waits
use Rattle.lk_leader.specs.Values.{promised_at, received_at, IsLeadersValue, highest, first_new, fills}
use Rattle.lk_learner.specs.Learners.{LearnerValue, executed, alpha}
use Rattle.lk_members.specs.Effects.{Command, RequestValue, Request}
use Rattle.lk_members.specs.Majorities.{IsMajority}
use Rattle.lk_members.specs.Nodes.{nodes_of}
use Rattle.lk_members.specs.Windows.{RosterValue}
use Rattle.lk_messages.specs.declared.message.Content.TheVariants as content
use Rattle.lk_messages.specs.declared.message.NodeMessage.TheVariants as kinds
use Rattle.lk_node.proofs.Nodes.{map_has}
use Rattle.lk_node.specs.Asking.{with_waiting, QueuesOrRedirects, RepliesAs}
use Rattle.lk_node.specs.Executing.{NothingToRun}
use Rattle.lk_node.specs.Leading.{having_proposed, ProposesAll, ProposesVote}
use Rattle.lk_node.specs.NodeValue.{NodeValue}
use Rattle.lk_node.specs.Telling.{envelope_to}
use Rattle.lk_node_interface.specs.Envelopes.{EnvelopeValue}
use Rattle.lk_node_interface.specs.Outboxes.{OutboxValue, nothing}
use Rattle.lk_progress.proofs.Executing.{reaches_or_not}
use Rattle.lk_progress.proofs.Majorities.{among_none, nobody_is_few}
use Rattle.lk_progress.proofs.Hearing.{Handled, handled, proposed_acceptor, proposed_header, proposed_learner}
use Rattle.lk_progress.proofs.Hearing.{proposed_envelopes}
use Rattle.lk_progress.specs.Deciding.{vote_for_next, HasProposed, AsksMembers, FreshRequestIsProposed}
use Rattle.lk_state.specs.Meanings.{Meaning}
use Rattle.lk_state.specs.Runs.{seen_as}
use Rattle.lk_state.specs.Sessions.{session_of, is_new}
use Rattle.lk_state.specs.declared.session.Session.{Session}
use Rattle.lk_state.specs.declared.whole.Seen.{Seen}
use Rattle.lk_state.specs.declared.whole.Seen.TheVariants as seen
use Rattle.lk_types.specs.declared.member.Member.{Member}
use Rattle.lk_types.specs.declared.vote.Vote.{Vote}

-- ---- the next position

pub none_of : {X : Type 0} (x : X) → Contains [] x → ⊥
none_of x c = omega (arith, c.1)

pub gone : {X : Type 0} (xs : List X) (x : X) → xs ≡ [] → Contains xs x → ⊥
gone {X} xs x none c = none_of x (subst (λ (ys : List X). Contains ys x) none c)

pub next_set : (roster : RosterValue) (set : List Member) → AreMembersAt roster (roster.executed + 1) set
    → slice_get roster.sets 0 ≡ Some set
next_set roster set k =
    let e : roster.executed + 1 - (roster.executed + 1) ≡ 0 = omega arith in
    subst (λ (n : ℕ). slice_get roster.sets n ≡ Some set) e k.1

-- so there is a set
pub some_set : (roster : RosterValue) (set : List Member) → AreMembersAt roster (roster.executed + 1) set
    → 1 ≤ length roster.sets
some_set roster set k = let lt = slice_get_within roster.sets 0 set (next_set roster set k) in omega (arith, lt)

-- ---- what a term has proposed

-- at a position above all proposals there is none
none_above : (e j : ℕ) (ps : List ProposalValue) → e < j → ((p : ProposalValue) → Contains ps p → p.position ≤ e)
    → proposal_at j ps ≡ None
none_above e j [] above all = refl
none_above e j (p ∷ ps) above all =
    let low = all p (0, omega arith, refl) in
    let other : eqb p.position j ≡ false = ne_eqb p.position j (λ same. omega (arith, same, low, above)) in
    rw other (none_above e j ps above (λ q c. all q (contains_more p ps q c)))

-- and none of them stays in the window
none_stays : (e a : ℕ) (ps : List ProposalValue) → ((p : ProposalValue) → Contains ps p → p.position ≤ e)
    → in_window e a ps ≡ []
none_stays e a [] all = refl
none_stays e a (p ∷ ps) all =
    let low = all p (0, omega arith, refl) in
    let out : nat_lt e p.position ≡ false = grind (arith, nat_tests) in
    rw out (none_stays e a ps (λ q c. all q (contains_more p ps q c)))

-- a proposal of the window stays
stays_there : (e a j : ℕ) (ps : List ProposalValue) (q : ProposalValue) → e < j → j ≤ e + a
    → proposal_at j ps ≡ Some q → proposal_at j (in_window e a ps) ≡ Some q
stays_there e a j [] q above within at = absurd (cc at)
stays_there e a j (p ∷ ps) q above within at =
    elim (cases_Bool (eqb p.position j)) [
      | inl same ↦ here same (rw same at at)
      | inr other ↦ elim (cases_Bool (nat_lt e p.position && nat_le p.position (e + a))) [
        | inl t ↦ rw (t, other) (stays_there e a j ps q above within (rw other at at))
        | inr f ↦ rw f (stays_there e a j ps q above within (rw other at at))
      ]
    ]
  where
    here : eqb p.position j ≡ true → Some p ≡ Some q → proposal_at j (in_window e a (p ∷ ps)) ≡ Some q
    here same is =
        let t : nat_lt e p.position && nat_le p.position (e + a) ≡ true = grind (arith, nat_tests) in
        rw (t, same) is

pub still_proposed : (roster : RosterValue) (i : ℕ) (v : Command) (t : TermValue) (j : ℕ) (q : ProposalValue)
    → roster.executed < j → j ≤ roster.executed + length roster.sets → proposal_at j t.proposals ≡ Some q
    → proposal_at j (proposed roster i v t).proposals ≡ Some q
still_proposed roster i v t j q above within at =
    let kept = stays_there roster.executed (length roster.sets) j t.proposals q above within at in
    let last : List ProposalValue = record { position = i; command = v; accepted = [] } ∷ [] in
    find-append (λ (p : ProposalValue). eqb p.position j) (in_window roster.executed (length roster.sets)
    t.proposals) last
    ∙ ap (λ (o : Option ProposalValue). option_or o (proposal_at j last)) kept

-- whatever a node proposes, what it has proposed at its next position stays
pub goes_on_proposing : (xs : List Vote) (old new : NodeValue) (before out : OutboxValue) (t : TermValue)
    (set : List Member) (v : Command) (accepted : List ℕ) → ProposesAll xs old new before out
    → HasProposed old t set v accepted
    → (u : TermValue) × (u.ballot ≡ t.ballot) × HasProposed new u set v accepted
goes_on_proposing [] old new before out t set v accepted all has =
    (t, refl, subst (λ (node : NodeValue). HasProposed node t set v accepted) (sym all.1) has)
goes_on_proposing (x ∷ xs) old new before out t set v accepted all has =
    let roster : RosterValue = old.learner.whole.roster in
    let one : all.0.term ≡ t = (let e : Some all.0.term ≡ Some t = sym all.0.current ∙ has.current in cc e) in
    let some = some_set roster set has.members in
    let next : HasProposed (having_proposed old x all.0) (proposed roster x.position x.command all.0.term) set v
    accepted =
    record {
      current = refl;
      members = has.members;
      proposal = still_proposed roster x.position x.command all.0.term (executed old.learner + 1) _ (omega arith)
          (omega (arith, some))
          (subst (λ (u : TermValue). proposal_at (executed old.learner + 1) u.proposals ≡ Some _) (sym one)
          has.proposal);
      few = has.few;
      known = has.known;
    } in
    let rest = goes_on_proposing xs (having_proposed old x all.0) new _ out _ set v accepted all.1 next in
    (rest.0, rest.1 ∙ ap (λ (u : TermValue). u.ballot) one, rest.2)

-- what waits stays too
pub goes_on_waiting : (xs : List Vote) (old new : NodeValue) (before out : OutboxValue)
    → ProposesAll xs old new before out
    → new.leader.waiting ≡ old.leader.waiting
goes_on_waiting [] old new before out all = ap (λ (node : NodeValue). node.leader.waiting) all.1
goes_on_waiting (x ∷ xs) old new before out all = goes_on_waiting xs (having_proposed old x all.0) new _ out all.1

-- ---- a ready leader in which the request waits

record IsAsked (node : NodeValue) (t : TermValue) (set : List Member) (r : RequestValue) : Type 0 where
  current : node.leader.term ≡ Some t
  members : AreMembersAt node.learner.whole.roster (executed node.learner + 1) set
  promised : IsMajority (promisers set (executed node.learner + 1) t.received) set
  unreported : promised_at (executed node.learner + 1) (received_at set (executed node.learner + 1) t.received) ≡ []
  proposed : (p : ProposalValue) → Contains t.proposals p → p.position ≤ executed node.learner
  waiting : node.leader.waiting ≡ r ∷ []
  known : NothingToRun node
  room : executed node.learner < 281474976710656
  fresh : is_new (session_of r.client node.learner.whole.sessions) r.number ≡ true

-- the only one that waits comes first
one_waits : (before behind : List RequestValue) (q r : RequestValue) → r ∷ [] ≡ before ++ (q ∷ behind) → q ≡ r
one_waits [] behind q r e = cc e
one_waits (b ∷ []) behind q r e = absurd (cc e)
one_waits (b ∷ c ∷ before) behind q r e = absurd (cc e)

value_is : (t : TermValue) (waiting : List RequestValue) (roster : RosterValue) (set : List Member) (i : ℕ)
    (v : Command) (r : RequestValue) → waiting ≡ r ∷ [] → promised_at i (received_at set i t.received) ≡ []
    → ((p : ProposalValue) → Contains t.proposals p → p.position ≤ roster.executed)
    → IsLeadersValue t waiting roster set i v → v ≡ Request r
value_is t waiting roster set i v r alone none all (highest h is) =
    absurd (gone _ h none is.among)
value_is t waiting roster set i v r alone none all (first_new q unreported first) =
    ap (λ (x : RequestValue). Request x) (one_waits first.before first.behind q r (sym alone ∙ first.parts))
value_is t waiting roster set i v r alone none all (fills unreported old why) =
    let under = old r (subst (λ (rs : List RequestValue). Contains rs r) (sym alone) (0, omega arith, refl)) in
    absurd (omega (arith, all under.0 under.1, under.2))

module _ (node : NodeValue) (t : TermValue) (set : List Member) (r : RequestValue) (k : IsAsked node t set r) where
  -- it can propose the request
  can_propose : Proposes t node.leader.waiting node.learner.whole.roster (executed node.learner + 1) (Request r)
  can_propose = record {
    next = record {
      above = omega arith;
      reaches = omega (arith, some_set node.learner.whole.roster set k.members);
      in_range = omega (arith, k.room);
      new = none_above (executed node.learner) (executed node.learner + 1) t.proposals (omega arith) k.proposed;
      least = λ j above below. absurd (omega (arith, above, below));
    };
    set = set;
    members = k.members;
    promised = k.promised;
    value = first_new r k.unreported (record {
      before = [];
      behind = [];
      parts = k.waiting;
      under_way = λ q c. absurd (none_of q c);
      new = λ under. omega (arith, k.proposed under.0 under.1, under.2);
    });
  }

  module _ (x : Vote) (p : ProposesVote node x) where
    same_term : p.term ≡ t
    same_term = let e : Some p.term ≡ Some t = sym p.current ∙ k.current in cc e

    -- and nothing else
    here : x.position ≡ executed node.learner + 1
    here = by_order (reaches_or_not x.position (executed node.learner + 1))
      where
        none : proposal_at (executed node.learner + 1) p.term.proposals ≡ None
        none = subst (λ (u : TermValue). proposal_at (executed node.learner + 1) u.proposals ≡ None) (sym same_term)
            (none_above (executed node.learner) (executed node.learner + 1) t.proposals (omega arith) k.proposed)

        by_order : (x.position ≤ executed node.learner + 1) ⊎ (executed node.learner + 1 < x.position)
            → x.position ≡ executed node.learner + 1
        by_order (inl low) = let above = p.proposes.next.above in omega (arith, low, above)
        by_order (inr high) =
            let some = p.proposes.next.least (executed node.learner + 1) (omega arith) high in
            absurd (cc (rw none at some))

    same_set : p.proposes.set ≡ set
    same_set =
        let at : AreMembersAt node.learner.whole.roster (executed node.learner + 1) p.proposes.set =
        subst (λ (i : ℕ). AreMembersAt node.learner.whole.roster i p.proposes.set) here p.proposes.members in
        let e : Some p.proposes.set ≡ Some set = sym at.1 ∙ k.members.1 in
        cc e

    same_command : x.command ≡ Request r
    same_command =
        value_is t node.leader.waiting node.learner.whole.roster set (executed node.learner + 1) x.command r k.waiting
        k.unreported k.proposed
        (subst (λ (i : ℕ). IsLeadersValue t node.leader.waiting node.learner.whole.roster set i x.command) here
        (subst (λ (s : List Member). IsLeadersValue t node.leader.waiting node.learner.whole.roster s x.position
        x.command)
        same_set
        (subst (λ (u : TermValue). IsLeadersValue u node.leader.waiting node.learner.whole.roster p.proposes.set
        x.position x.command) same_term p.proposes.value)))

    is_vote : x ≡ vote_for_next node t (Request r)
    is_vote = λ i. record {
      position = here i;
      ballot = (p.ballot ∙ ap (λ (u : TermValue). u.ballot) same_term) i;
      command = same_command i;
    }

    -- it has proposed it then
    now_proposed : HasProposed (having_proposed node x p)
        (proposed node.learner.whole.roster x.position x.command p.term) set (Request r) []
    now_proposed = record {
      current = refl;
      members = k.members;
      proposal = subst (λ (ps : List ProposalValue). proposal_at (executed node.learner + 1)
          (ps ++ record { position = x.position; command = x.command; accepted = [] } ∷ []) ≡ Some it)
          (sym empty) alone;
      few = λ major. nobody_is_few set (subst (λ (ns : List ℕ). IsMajority ns set) (among_none set) major);
      known = k.known;
    }
      where
        it : ProposalValue
        it = record { position = executed node.learner + 1; command = Request r; accepted = [] }

        empty : in_window (executed node.learner) (alpha node.learner) p.term.proposals ≡ []
        empty = subst
            (λ (u : TermValue). in_window (executed node.learner) (alpha node.learner) u.proposals ≡ []) (sym same_term)
            (none_stays (executed node.learner) (alpha node.learner) t.proposals k.proposed)

        alone : proposal_at (executed node.learner + 1)
            (record { position = x.position; command = x.command; accepted = [] } ∷ []) ≡ Some it
        alone =
            let same : eqb x.position (executed node.learner + 1) ≡ true =
            eq-eqb x.position (executed node.learner + 1) here in
            let is : Some (record { position = x.position; command = x.command; accepted = [] }) ≡ Some it =
            λ i. Some (record { position = here i; command = same_command i; accepted = [] }) in
            rw same is

proposes_it : (xs : List Vote) (node new : NodeValue) (t : TermValue) (set : List Member) (r : RequestValue)
    (out : OutboxValue) → IsAsked node t set r → ProposesAll xs node new nothing out → AsksMembers node t set r new out
proposes_it [] node new t set r out k all = absurd
    (all.0 (executed node.learner + 1) (Request r) (t, k.current, can_propose node t set r k))
proposes_it (x ∷ xs) node new t set r out k all =
    let p : ProposesVote node x = all.0 in
    let rest = goes_on_proposing xs (having_proposed node x p) new _ out _ set (Request r) [] all.1
    (now_proposed node t set r k x p) in
    record {
      told = λ n c. proposed_envelopes xs (having_proposed node x p) new _ out
          (envelope_to node (kinds.Accept (vote_for_next node t (Request r))) n) all.1
          (Contains-append_right nothing.envelopes (accepts p) _
          (subst (λ (y : Vote). Contains (accepts p) (envelope_to node (kinds.Accept y) n)) (is_vote node t set r k x p)
          (map_has (envelope_to node (kinds.Accept x)) (nodes_of p.proposes.set) n
          (subst (λ (s : List Member). Contains (nodes_of s) n) (sym (same_set node t set r k x p)) c))));
      term = rest.0;
      vote = λ i. record {
        position = ap (λ (l : LearnerValue). executed l + 1) (proposed_learner (x ∷ xs) node new nothing out all) i;
        ballot = (rest.1 ∙ ap (λ (u : TermValue). u.ballot) (same_term node t set r k x p)) i;
        command = Request r;
      };
      proposed = rest.2;
      acceptor = proposed_acceptor (x ∷ xs) node new nothing out all;
      learner = proposed_learner (x ∷ xs) node new nothing out all;
      header = proposed_header (x ∷ xs) node new nothing out all;
      waits = record {
        waits = subst (λ (rs : List RequestValue). find (λ q. r.client == q.client) rs ≡ Some r)
            (sym (goes_on_waiting (x ∷ xs) node new nothing out all ∙ k.waiting))
            (let same : eqb r.client r.client ≡ true = eq-eqb r.client r.client refl in rw same refl);
        fresh = subst (λ (l : LearnerValue). is_new (session_of r.client l.whole.sessions) r.number ≡ true)
            (sym (proposed_learner (x ∷ xs) node new nothing out all)) k.fresh;
      };
    }
  where
    accepts : ProposesVote node x → List EnvelopeValue
    accepts p = map (envelope_to node (kinds.Accept x)) (nodes_of p.proposes.set)

-- ---- a fresh request

seen_new : (o : Option Session) (number : ℕ) → is_new o number ≡ true → seen_as o number ≡ seen.New
seen_new None number e = refl
seen_new (Some s) number e =
    let other : eqb number s.number ≡ false = grind (arith, nat_tests) in
    let above : nat_lt number s.number ≡ false = grind (arith, nat_tests) in
    rw (other, above) refl

pub request_proposed : (m : Meaning) (IsText : List ℕ → Type 0) → FreshRequestIsProposed m IsText
request_proposed m IsText old new t set r out ready fresh takes =
    let k : Handled m IsText old (content.Request r) new out = handled m IsText old _ new out takes in
    let taken : RepliesAs seen.New old r k.mid k.first =
    subst (λ (s : Seen). RepliesAs s old r k.mid k.first)
    (seen_new (session_of r.client old.learner.whole.sessions) r.number fresh) k.handles in
    let queued : QueuesOrRedirects (Some t) old r k.mid k.first =
    subst (λ (o : Option TermValue). QueuesOrRedirects o old r k.mid k.first) ready.current taken in
    let all : ProposesAll k.proposes.0 (with_waiting r old) new nothing out =
    subst (λ (o : OutboxValue). ProposesAll k.proposes.0 (with_waiting r old) new o out) queued.1
    (subst (λ (node : NodeValue). ProposesAll k.proposes.0 node new k.first out) queued.0 k.proposes.1) in
    let asks = proposes_it k.proposes.0 (with_waiting r old) new t set r out asked all in
    record {
      told = asks.told;
      term = asks.term;
      vote = asks.vote;
      proposed = asks.proposed;
      waits = asks.waits;
      acceptor = asks.acceptor;
      learner = asks.learner;
      header = asks.header;
    }
  where
    asked : IsAsked (with_waiting r old) t set r
    asked = record {
      current = ready.current;
      members = ready.members;
      promised = ready.promised;
      unreported = ready.unreported;
      proposed = ready.proposed;
      waiting = subst (λ (rs : List RequestValue). waits.asked r rs ≡ r ∷ []) (sym ready.waiting) refl;
      known = ready.known;
      room = ready.room;
      fresh = fresh;
    }
