-- What a leader proposes and finds accepted is allowed to the term that it leads, and it goes on leading it.
use Rattle.std.proofs.Common.{◌≡◌, ◌∙◌, ◌⊎◌, ℕ, ◌+◌, ◌-◌, ◌≤◌, ◌==◌, ◌&&◌, Bool, true, eqb, nat_le, nat_lt, Some, List}
use Rattle.std.proofs.Common.{[], ◌∷◌, ◌++◌, length, Contains, filter, refl, ap, sym, subst, inl, inr, arith, eqb-true}
use Rattle.std.proofs.Common.{eq-eqb}
use Rattle.std.specs.List.{list_any}
use Rattle.std.proofs.lemmas.Bool.{cases_Bool, and_parts, and_from, leb-true, le-leb, lt-ltb}
use Rattle.std.proofs.lemmas.List.Elements.{Contains-append_left, Contains-append_right, Contains-append_cases}
use Rattle.std.proofs.lemmas.List.Elements.{Contains-push, Contains-push_cases}
use Rattle.lk_types.specs.BallotValue.{BallotValue}
use Rattle.lk_types.specs.Ballots.{IsAtMost}
use Rattle.lk_types.specs.declared.member.Member.{Member}
use Rattle.lk_types.specs.declared.vote.Vote.{Vote}
use Rattle.lk_members.specs.Effects.{Command, RequestValue, Noop, Request}
use Rattle.lk_members.specs.Rosters.{Genesis, is_member, members}
use Rattle.lk_members.specs.Majorities.{IsMajority}
use Rattle.lk_members.specs.Windows.{RosterValue, RosterSumsUp, roster_after}
use Rattle.lk_members.proofs.Memberships.{length_of_window, set_of_window}
use Rattle.lk_agreement_laws.specs.Soundness.{IsPromisedVote, IsPromiser}
use Rattle.lk_agreement_laws.specs.Nodes.{Term, new_term, Acceptance}
use Rattle.lk_agreement_laws.specs.Changes.{MayPropose, with_received, with_proposal, with_acceptance}
use Rattle.lk_leader.specs.Terms as terms
use Rattle.lk_leader.specs.Terms.{ReceivedPromise, ProposalValue, TermValue, proposal_at, in_window, with_proposals}
use Rattle.lk_leader.specs.Terms.{begun}
use Rattle.lk_leader.specs.Values.{PromisedVote, IsNotAbove, promised_by, promised_at, speaks_at, received_at}
use Rattle.lk_leader.specs.Values.{IsLeadersValue}
use Rattle.lk_leader.specs.Values.{highest, first_new, fills}
use Rattle.lk_leader.specs.Proposing.{promisers, IsNext, AreMembersAt, Proposes, proposed}
use Rattle.lk_leader.specs.Acceptances.{members_among, heard, heard_at, IsVoteFor, GainsMajority}
use Rattle.lk_leader.specs.LedTerms.{AgreesWithTerm}
use Rattle.lk_leader.proofs.Elements.{cons_cases, contains_more, filter_has, filter_from, filter_passes_at, map_has}
use Rattle.lk_leader.proofs.Elements.{map_from, any_from, find_from, find_none}

-- ---- what is told

told_has : (i : ℕ) (rs : List ReceivedPromise) (r : ReceivedPromise) (x : Vote) → Contains rs r → Contains r.votes x
    → x.position ≡ i
    → Contains (promised_at i rs) (record { node = r.node; vote = x })
told_has i [] r x h k at = absurd (omega (arith, h.1))
told_has i (q ∷ rs) r x h k at =
    let make : ReceivedPromise → Vote → PromisedVote = λ (p : ReceivedPromise)
    (y : Vote). record { node = p.node; vote = y } in
    elim (cons_cases q rs r h) [
      | inl is ↦ Contains-append_left (promised_by i q) (promised_at i rs) (make r x)
          (subst (λ (p : ReceivedPromise). Contains (promised_by i p) (make r x)) (sym is)
          (map_has (make r) (filter (λ (y : Vote). y.position == i) r.votes) x
          (filter_has (λ (y : Vote). y.position == i) r.votes x k (eq-eqb x.position i at))))
      | inr in' ↦ Contains-append_right (promised_by i q) (promised_at i rs) (make r x) (told_has i rs r x in' k at)
    ]

told_from : (i : ℕ) (rs : List ReceivedPromise) (h : PromisedVote) → Contains (promised_at i rs) h
    → IsPromisedVote rs h.vote × (h.vote.position ≡ i)
told_from i [] h in' = absurd (omega (arith, in'.1))
told_from i (q ∷ rs) h in' =
    elim (Contains-append_cases (promised_by i q) (promised_at i rs) h in') [
      | inl a ↦
          (let make : Vote → PromisedVote = λ (y : Vote). record { node = q.node; vote = y } in
          let from = map_from make (filter (λ (y : Vote). y.position == i) q.votes) h a in
          let same : from.0 ≡ h.vote = ap (λ (t : PromisedVote). t.vote) from.2 in
          let there : Contains q.votes from.0 = filter_from (λ (y : Vote). y.position == i) q.votes from.0 from.1 in
          let at : from.0.position ≡ i =
          eqb-true from.0.position i (filter_passes_at (λ (y : Vote). y.position == i) q.votes from.0 from.1) in (
            (q, (0, omega arith, refl), subst (λ (x : Vote). Contains q.votes x) same there),
            subst (λ (x : Vote). x.position ≡ i) same at,
          ))
      | inr b ↦ (let r = told_from i rs h b in ((r.0.0, contains_more q rs r.0.0 r.0.1, r.0.2), r.1))
    ]

-- what is proposed matches what the members' promises tell
matches : (t : TermValue) (waiting : List RequestValue) (roster : RosterValue) (set : List Member) (i : ℕ)
    (v : Command) → IsLeadersValue t waiting roster set i v
    → (x : Vote) → IsPromisedVote (received_at set i t.received) x → x.position ≡ i
    → (y : Vote) × IsPromisedVote (received_at set i t.received) y × (y.position ≡ i) × (y.command ≡ v)
    × IsAtMost x.ballot y.ballot
matches t waiting roster set i v (highest h best) x told at =
    let from = told_from i (received_at set i t.received) h best.among in (
      h.vote,
      from.0,
      from.1,
      refl,
      weaker (best.above (record { node = told.0.node; vote = x })
          (told_has i (received_at set i t.received) told.0 x told.1 told.2 at)),
    )
  where
    weaker : IsNotAbove (record { node = told.0.node; vote = x }) h → IsAtMost x.ballot h.vote.ballot
    weaker (inl below) = inl below
    weaker (inr same) = inr same.0
matches t waiting roster set i v (first_new q none first) x told at =
    absurd (omega (arith, (told_has i (received_at set i t.received) told.0 x told.1 told.2 at).1, ap length none))
matches t waiting roster set i v (fills none new gap) x told at =
    absurd (omega (arith, (told_has i (received_at set i t.received) told.0 x told.1 told.2 at).1, ap length none))

-- ---- members

promisers_report : (set : List Member) (i : ℕ) (received : List ReceivedPromise) (n : ℕ)
    → Contains (promisers set i received) n
    → IsPromiser (received_at set i received) n
promisers_report set i received n h =
    let promised : Member → Bool =
    λ (m : Member). list_any (λ (r : ReceivedPromise). r.node == m.node && nat_le r.first i) received in
    let from = map_from (λ (m : Member). m.node) (filter promised set) n h in
    let m : Member = from.0 in
    let listed : Contains set m = filter_from promised set m from.1 in
    let found = any_from (λ (r : ReceivedPromise). r.node == m.node && nat_le r.first i) received
    (filter_passes_at promised set m from.1) in
    let r : ReceivedPromise = found.0 in
    let parts = and_parts (r.node == m.node) (nat_le r.first i) found.2 in
    let same : r.node ≡ m.node = eqb-true r.node m.node parts.0 in
    let is : is_member r.node set ≡ true = member_of r.node set m listed (sym same) in (
      r,
      filter_has (speaks_at set i) received r found.1 (and_from (is_member r.node set) (nat_le r.first i) is parts.1),
      same ∙ from.2,
    )
  where
    member_of : (n : ℕ) (ms : List Member) (m : Member) → Contains ms m → m.node ≡ n → is_member n ms ≡ true
    member_of n [] m h e = absurd (omega (arith, h.1))
    member_of n (k ∷ ms) m h e =
        elim (cases_Bool (k.node == n)) [
          | inl t ↦ rw t refl
          | inr f ↦ elim (cons_cases k ms m h) [
            | inl is ↦ absurd (cc (f, eq-eqb k.node n (ap (λ (x : Member). x.node) is ∙ e)))
            | inr in' ↦ rw f (member_of n ms m in' e)
          ]
        ]

-- the set of a position of the window is the one that the executed list names
set_named : (genesis : Genesis) (done : List Command) (roster : RosterValue) (i : ℕ) (set : List Member)
    → RosterSumsUp genesis done roster → AreMembersAt roster i set
    → i ≤ roster.executed + length roster.sets → set ≡ members genesis done i
unfolding roster_after
set_named genesis done roster i set sums at reaches =
    let e : roster.executed ≡ length done = ap (λ (r : RosterValue). r.executed) sums in
    let a : length roster.sets ≡ genesis.alpha = length_of_window genesis done roster sums in
    let k : ℕ = i - (roster.executed + 1) in
    let there = set_of_window genesis done roster k sums (omega (arith, at.0, reaches, a)) in
    let place : length done + 1 + k ≡ i = omega (arith, at.0, e) in
    let same : set ≡ members genesis done (length done + 1 + k) = cc (at.1, there) in
    same ∙ ap (members genesis done) place

-- ---- what is proposed

pub proposes_allowed : (genesis : Genesis) (done : List Command) (t : Term) (k : TermValue)
    (waiting : List RequestValue) (roster : RosterValue) (i : ℕ) (v : Command)
    → RosterSumsUp genesis done roster → AgreesWithTerm roster.executed (length roster.sets) t k
    → Proposes k waiting roster i v → MayPropose genesis done t i v
unfolding roster_after
proposes_allowed genesis done t k waiting roster i v sums stands p =
    let e : roster.executed ≡ length done = ap (λ (r : RosterValue). r.executed) sums in
    let a : length roster.sets ≡ genesis.alpha = length_of_window genesis done roster sums in
    let named : p.set ≡ members genesis done i = set_named genesis done roster i p.set sums p.members p.next.reaches in
    record {
      new = λ w h. (let kept = stands.kept i w h p.next.above in
          find_none (λ (q : ProposalValue). q.position == i) k.proposals kept.0 p.next.new kept.1
          (eq-eqb kept.0.position i kept.2));
      reaches = omega (arith, p.next.reaches, e, a);
      received = received_at p.set i k.received;
      among = λ r h. (
        stands.received r (filter_from (speaks_at p.set i) k.received r h),
        leb-true r.first i (and_parts (is_member r.node p.set) (nat_le r.first i)
            (filter_passes_at (speaks_at p.set i) k.received r h)).1,
      );
      nodes = promisers p.set i k.received;
      majority = subst (IsMajority (promisers p.set i k.received)) named p.promised;
      promisers = λ n h. promisers_report p.set i k.received n h;
      highest = matches k waiting roster p.set i v p.value;
    }

-- a proposed command was reported, or waits, or is none
pub proposes_asked : (executed alpha : ℕ) (t : Term) (k : TermValue) (waiting : List RequestValue)
    (roster : RosterValue) (set : List Member) (i : ℕ) (v : Command)
    → AgreesWithTerm executed alpha t k → IsLeadersValue k waiting roster set i v
    → ((x : Vote) × IsPromisedVote t.received x × (x.command ≡ v))
    ⊎ (((q : RequestValue) × Contains waiting q × (v ≡ Request q)) ⊎ (v ≡ Noop))
proposes_asked executed alpha t k waiting roster set i v stands (highest h best) =
    let from = told_from i (received_at set i k.received) h best.among in
    let r : ReceivedPromise = from.0.0 in
    inl (h.vote, (r, stands.received r (filter_from (speaks_at set i) k.received r from.0.1), from.0.2), refl)
proposes_asked executed alpha t k waiting roster set i v stands (first_new q none first) =
    inr (inl (
      q,
      subst (λ (l : List RequestValue). Contains l q) (sym first.parts)
          (Contains-append_right first.before (q ∷ first.behind) q (0, omega arith, refl)),
      refl,
    ))
proposes_asked executed alpha t k waiting roster set i v stands (fills none new gap) = inr (inr refl)

-- ---- what a majority has accepted

heard_from : (set : List Member) (node : ℕ) (p : ProposalValue) (n : ℕ) → Contains (heard set node p).accepted n
    → Contains p.accepted n ⊎ (node ≡ n)
heard_from set node p n h =
    let among : Member → Bool = λ (m : Member). list_any (λ (k : ℕ). k == m.node) (p.accepted ++ node ∷ []) in
    let from = map_from (λ (m : Member). m.node) (filter among set) n h in
    let found = any_from (λ (k : ℕ). k == from.0.node) (p.accepted ++ node ∷ [])
    (filter_passes_at among set from.0 from.1) in
    let same : found.0 ≡ n = eqb-true found.0 from.0.node found.2 ∙ from.2 in
    Contains-push_cases p.accepted node n (subst (Contains (p.accepted ++ node ∷ [])) same found.1)

among_from : (set : List Member) (nodes : List ℕ) (n : ℕ) → Contains (members_among set nodes) n → Contains nodes n
among_from set nodes n h =
    let among : Member → Bool = λ (m : Member). list_any (λ (k : ℕ). k == m.node) nodes in
    let from = map_from (λ (m : Member). m.node) (filter among set) n h in
    let found = any_from (λ (k : ℕ). k == from.0.node) nodes (filter_passes_at among set from.0 from.1) in
    let same : found.0 ≡ n = eqb-true found.0 from.0.node found.2 ∙ from.2 in
    subst (Contains nodes) same found.1

vote_of : (t : TermValue) (roster : RosterValue) (b : BallotValue) (i : ℕ) (v : Command) (set : List Member)
    (p : ProposalValue) → IsVoteFor t roster b i v set p
    → Contains t.proposals p × (p.position ≡ i)
vote_of t roster b i v set p vote =
    let found = find_from (λ (q : ProposalValue). q.position == i) t.proposals p vote.proposal in
    (found.0, eqb-true p.position i found.1)

-- the members that have accepted it, with this node
abbrev pub accepted_by : List Member → ℕ → ProposalValue → List ℕ
accepted_by set node p = members_among set (heard set node p).accepted

pub majority_rests : (genesis : Genesis) (done : List Command) (t : Term) (k : TermValue) (roster : RosterValue)
    (b : BallotValue) (node i : ℕ) (v : Command) (set : List Member) (p : ProposalValue)
    → RosterSumsUp genesis done roster → i ≤ roster.executed + length roster.sets
    → AgreesWithTerm roster.executed (length roster.sets) t k → IsVoteFor k roster b i v set p
    → GainsMajority set node p
    → (i ≤ length done + genesis.alpha) × IsMajority (accepted_by set node p) (members genesis done i)
    × ((n : ℕ) → Contains (accepted_by set node p) n
    → Contains (with_acceptance t (record { node = node; position = i; command = v })).accepted
    (record { node = n; position = i; command = v }))
unfolding roster_after
majority_rests genesis done t k roster b node i v set p sums reaches stands vote becomes =
    let e : roster.executed ≡ length done = ap (λ (r : RosterValue). r.executed) sums in
    let a : length roster.sets ≡ genesis.alpha = length_of_window genesis done roster sums in
    let named : set ≡ members genesis done i = set_named genesis done roster i set sums vote.members reaches in
    let own = vote_of k roster b i v set p vote in
    let make : ℕ → ℕ → Command
    → Acceptance = λ (n j : ℕ) (w : Command). record { node = n; position = j; command = w } in (
      omega (arith, reaches, e, a),
      subst (IsMajority (accepted_by set node p)) named becomes.1,
      λ n h. elim (heard_from set node p n (among_from set (heard set node p).accepted n h)) [
        | inl old ↦ Contains-append_left t.accepted (make node i v ∷ []) (make n i v)
            (subst (λ (w : Command). Contains t.accepted (make n i w)) vote.command
            (subst (λ (j : ℕ). Contains t.accepted (make n j p.command)) own.1 (stands.accepted p n own.0 old)))
        | inr is ↦ subst (λ (m : ℕ). Contains (t.accepted ++ make node i v ∷ []) (make m i v)) is
            (Contains-push t.accepted (make node i v))
      ],
    )

-- ---- the term goes on being stood for

pub begun_leads : (executed alpha : ℕ) (b : BallotValue) → AgreesWithTerm executed alpha (new_term b) (begun b)
begun_leads executed alpha b = record {
  ballot = refl;
  received = λ r h. h;
  proposals = λ p h. absurd (omega (arith, h.1));
  kept = λ i v h above. absurd (omega (arith, h.1));
  within = λ i v h. absurd (omega (arith, h.1));
  accepted = λ p n h k. absurd (omega (arith, h.1));
}

pub later_leads : (executed later alpha : ℕ) (t : Term) (k : TermValue) → executed ≤ later
    → AgreesWithTerm executed alpha t k → AgreesWithTerm later alpha t k
later_leads executed later alpha t k le h = record {
  ballot = h.ballot;
  received = h.received;
  proposals = h.proposals;
  kept = λ i v c above. h.kept i v c (omega (arith, above, le));
  within = λ i v c. omega (arith, h.within i v c, le);
  accepted = h.accepted;
}

pub heard_leads : (executed alpha : ℕ) (t : Term) (k : TermValue) (r : ReceivedPromise)
    → AgreesWithTerm executed alpha t k
    → AgreesWithTerm executed alpha (with_received t r) (terms.with_received r k)
heard_leads executed alpha t k r h = record {
  ballot = h.ballot;
  received = λ q c. elim (Contains-push_cases k.received r q c) [
    | inl old ↦ Contains-append_left t.received (r ∷ []) q (h.received q old)
    | inr is ↦ subst (Contains (t.received ++ r ∷ [])) is (Contains-push t.received r)
  ];
  proposals = h.proposals;
  kept = h.kept;
  within = h.within;
  accepted = h.accepted;
}

pub proposed_leads : (t : Term) (k : TermValue) (roster : RosterValue) (i : ℕ) (v : Command)
    → IsNext roster k.proposals i → AgreesWithTerm roster.executed (length roster.sets) t k
    → AgreesWithTerm roster.executed (length roster.sets) (with_proposal t (i, v)) (proposed roster i v k)
proposed_leads t k roster i v next h =
    let e : ℕ = roster.executed in
    let a : ℕ = length roster.sets in
    let new : ProposalValue = record { position = i; command = v; accepted = [] } in
    let w : ProposalValue → Bool = λ (p : ProposalValue). nat_lt e p.position && nat_le p.position (e + a) in
    record {
      ballot = h.ballot;
      received = h.received;
      proposals = λ p c. elim (Contains-push_cases (filter w k.proposals) new p c) [
        | inl old ↦ Contains-append_left t.proposals ((i, v) ∷ []) (p.position, p.command)
            (h.proposals p (filter_from w k.proposals p old))
        | inr is ↦ subst (λ (q : ProposalValue). Contains (t.proposals ++ (i, v) ∷ []) (q.position, q.command)) is
            (Contains-push t.proposals (i, v))
      ];
      kept = λ j u c above. elim (Contains-push_cases t.proposals (i, v) (j, u) c) [
        | inl old ↦
            (let there = h.kept j u old above in
            let p : ProposalValue = there.0 in
            let passes : w p ≡ true =
            and_from (nat_lt e p.position) (nat_le p.position (e + a))
            (lt-ltb e p.position (omega (arith, above, there.2)))
            (le-leb p.position (e + a) (omega (arith, h.within j u old, there.2))) in (
              p,
              Contains-append_left (filter w k.proposals) (new ∷ []) p (filter_has w k.proposals p there.1 passes),
              there.2,
              there.3,
            ))
        | inr is ↦ (
          new,
          Contains-push (filter w k.proposals) new,
          ap (λ (q : ℕ × Command). q.0) is,
          ap (λ (q : ℕ × Command). q.1) is,
        )
      ];
      within = λ j u c. elim (Contains-push_cases t.proposals (i, v) (j, u) c) [
        | inl old ↦ h.within j u old
        | inr is ↦ (let same : i ≡ j = ap (λ (q : ℕ × Command). q.0) is in omega (arith, next.reaches, same))
      ];
      accepted = λ p n c g. elim (Contains-push_cases (filter w k.proposals) new p c) [
        | inl old ↦ h.accepted p n (filter_from w k.proposals p old) g
        | inr is ↦ (let none : Contains new.accepted n =
            subst (λ (q : ProposalValue). Contains q.accepted n) (sym is) g in absurd (omega (arith, none.1)))
      ];
    }

-- an element of the proposals once one was heard to be accepted is as it was, or is that one
heard_cases : (set : List Member) (node i : ℕ) (ps : List ProposalValue) (p q : ProposalValue)
    → proposal_at i ps ≡ Some p → Contains (heard_at set node i ps) q
    → Contains ps q ⊎ (heard set node p ≡ q)
heard_cases set node i [] p q found h = absurd (cc found)
heard_cases set node i (r ∷ ps) p q found h =
    elim (cases_Bool (eqb r.position i)) [
      | inl t ↦
          (let is : r ≡ p = (let there = rw t at found in cc there) in
          elim (cons_cases (heard set node r) ps q (rw t at h)) [
            | inl here ↦ inr (ap (heard set node) (sym is) ∙ here)
            | inr in' ↦ inl (contains_more r ps q in')
          ])
      | inr f ↦ elim (cons_cases r (heard_at set node i ps) q (rw f at h)) [
        | inl here ↦ inl (0, omega arith, here)
        | inr in' ↦ elim (heard_cases set node i ps p q (rw f at found) in')
            [ inl old ↦ inl (contains_more r ps q old) | inr is ↦ inr is ]
      ]
    ]

-- each proposal is still there, with its position and command
heard_has : (set : List Member) (node i : ℕ) (ps : List ProposalValue) (p : ProposalValue) → Contains ps p
    → (q : ProposalValue) × Contains (heard_at set node i ps) q × (q.position ≡ p.position) × (q.command ≡ p.command)
heard_has set node i [] p h = absurd (omega (arith, h.1))
heard_has set node i (r ∷ ps) p h =
    elim (cases_Bool (eqb r.position i)) [
      | inl t ↦ rw t (elim (cons_cases r ps p h) [
        | inl is ↦ (
          heard set node r,
          (0, omega arith, refl),
          ap (λ (x : ProposalValue). x.position) is,
          ap (λ (x : ProposalValue). x.command) is,
        )
        | inr in' ↦ (p, contains_more (heard set node r) ps p in', refl, refl)
      ])
      | inr f ↦ rw f (elim (cons_cases r ps p h) [
        | inl is ↦ (
          r,
          (0, omega arith, refl),
          ap (λ (x : ProposalValue). x.position) is,
          ap (λ (x : ProposalValue). x.command) is,
        )
        | inr in' ↦ (let rest = heard_has set node i ps p in' in
            (rest.0, contains_more r (heard_at set node i ps) rest.0 rest.1, rest.2, rest.3))
      ])
    ]

pub majority_leads : (executed alpha : ℕ) (t : Term) (k : TermValue) (roster : RosterValue) (b : BallotValue)
    (node i : ℕ) (v : Command) (set : List Member) (p : ProposalValue)
    → IsVoteFor k roster b i v set p → AgreesWithTerm executed alpha t k
    → AgreesWithTerm executed alpha (with_acceptance t (record { node = node; position = i; command = v }))
    (with_proposals (heard_at set node i k.proposals) k)
majority_leads executed alpha t k roster b node i v set p vote h =
    let own = vote_of k roster b i v set p vote in
    let a : Acceptance = record { node = node; position = i; command = v } in
    let make : ℕ → ProposalValue
    → Acceptance = λ (n : ℕ) (q : ProposalValue). record { node = n; position = q.position; command = q.command } in
    record {
      ballot = h.ballot;
      received = h.received;
      proposals = λ q c. elim (heard_cases set node i k.proposals p q vote.proposal c) [
        | inl old ↦ h.proposals q old
        | inr is ↦ subst (λ (x : ProposalValue). Contains t.proposals (x.position, x.command)) is (h.proposals p own.0)
      ];
      kept = λ j u c above.
          (let there = h.kept j u c above in
          let still = heard_has set node i k.proposals there.0 there.1 in
          (still.0, still.1, still.2 ∙ there.2, still.3 ∙ there.3));
      within = h.within;
      accepted = λ q n c g. elim (heard_cases set node i k.proposals p q vote.proposal c) [
        | inl old ↦ Contains-append_left t.accepted (a ∷ []) (make n q) (h.accepted q n old g)
        | inr is ↦ subst (λ (x : ProposalValue). Contains (t.accepted ++ a ∷ []) (make n x)) is
            (elim (heard_from set node p n (subst (λ (x : ProposalValue). Contains x.accepted n) (sym is) g)) [
              | inl old ↦ Contains-append_left t.accepted (a ∷ []) (make n p) (h.accepted p n own.0 old)
              | inr own_node ↦
                  (let same : a ≡ make n p =
                  λ j. record { node = own_node j; position = sym own.1 j; command = sym vote.command j } in
                  subst (Contains (t.accepted ++ a ∷ [])) same (Contains-push t.accepted a))
            ])
      ];
    }
