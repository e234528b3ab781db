-- A cluster of one, which a node joins: nothing is vacuous.
use Rattle.std.proofs.Common.{◌≡◌, ℕ, zero, suc, ◌<◌, ◌≤◌, List, [], ◌∷◌, ◌++◌, Some, None, Contains, refl, ap, sym}
use Rattle.std.proofs.Common.{subst, inl, inr, arith}
use Rattle.std.proofs.lemmas.List.Elements.{Contains-push, Contains-push_cases, Contains-append_left}
use Rattle.lk_types.specs.declared.command.Op.TheVariants.{Join}
use Rattle.lk_types.specs.declared.command.Command.TheVariants.{Noop, Request}
use Rattle.lk_messages.specs.Grammar.{IsNodeMessage, IsMessage, spelling}
use Rattle.lk_messages.specs.Values.{PromiseValue}
use Rattle.lk_members.specs.Rosters.{members, roster_of}
use Rattle.lk_members.specs.Effects.{positioned, effects}
use Rattle.lk_agreement_laws.specs.declared.party.Party.TheVariants as party
use Rattle.lk_agreement_laws.specs.Ballots.{BallotValue}
use Rattle.lk_agreement_laws.specs.Datagrams.{Genesis, Vote, NodeMessage, Datagram, said_by, Promise, Accept, Accepted}
use Rattle.lk_agreement_laws.specs.Datagrams.{HasSent, WasSent}
use Rattle.lk_agreement_laws.specs.Chosen.{Command, IsAcceptedIn, Chosen, ChosenAt}
use Rattle.lk_agreement_laws.specs.Soundness.{ReceivedPromise, IsPromisedVote, IsPromiser}
use Rattle.lk_agreement_laws.specs.Acceptors.{AcceptorState, AddsVote}
use Rattle.lk_agreement_laws.specs.Nodes.{Pair, Term, new_term, PaxosState, MayPromise, MaySend, MaySendDatagram}
use Rattle.lk_agreement_laws.specs.Nodes.{MaySendDatagrams}
use Rattle.lk_agreement_laws.specs.Changes.{MayPropose, AreAmong, promises, accepts, begins, hears, proposes, learns}
use Rattle.lk_agreement_laws.specs.Changes.{executes}
use Rattle.lk_agreement_laws.specs.Worlds.{PaxosWorld, start, with_sent, with_paxos, sends, changes}
use Rattle.lk_agreement_laws.specs.Worlds.{IsReachable, begin, next}
use Rattle.lk_agreement_laws.specs.Worlds.{MembersChange}
use Rattle.lk_agreement_laws.proofs.Lists.{cons_cases, only}

abbrev pub alone : Genesis
alone = record {
  cluster = 5;
  alpha = 1;
  members = record { node = 1; port = 7001 } ∷ [];
  in_range = (omega arith, omega arith);
}

abbrev ballot : BallotValue
ballot = record { round = 1; node = 1 }

abbrev join : Command
join = Request (record { client = 9; number = 1; op = Join 2 7002 })

abbrev pub two_commands : List Command
two_commands = join ∷ Noop ∷ []

abbrev first_vote : Vote
first_vote = record { position = 1; ballot = ballot; command = join }

abbrev second_vote : Vote
second_vote = record { position = 2; ballot = ballot; command = Noop }

-- a promise that reports no votes
abbrev promise_from : ℕ → PromiseValue
promise_from first = record { ballot = ballot; first = first; votes = [] }

abbrev empty_promise : ℕ → ℕ → ReceivedPromise
empty_promise n first = record { node = n; first = first; votes = [] }

abbrev say : ℕ → NodeMessage → Datagram
say n m = record { from = party.Node n; to = party.Node 1; bytes = spelling (said_by alone n m) }

-- what is sent, in order
abbrev all_sent : List Datagram
all_sent =
    say 1 (Promise (promise_from 1))
    ∷ say 1 (Accept first_vote)
    ∷ say 1 (Accepted first_vote)
    ∷ say 2 (Promise (promise_from 2))
    ∷ say 1 (Accept second_vote)
    ∷ say 1 (Accepted second_vote)
    ∷ say 2 (Accepted second_vote)
    ∷ []

-- ---- each message fits

says : (n : ℕ) (m : NodeMessage) → 1 ≤ n → n ≤ 2 → IsNodeMessage m → IsMessage (said_by alone n m)
says n m a b fits = (omega arith, ((omega arith, omega arith), fits))

promise_fits : (first : ℕ) → 1 ≤ first → first ≤ 2 → IsNodeMessage (Promise (promise_from first))
promise_fits first a b =
    (((omega arith, omega arith), (omega arith, omega arith)), (omega arith, omega arith), tt, refl)

first_fits : IsNodeMessage (Accept first_vote)
first_fits = (
  (omega arith, omega arith),
  ((omega arith, omega arith), (omega arith, omega arith)),
  ((omega arith, omega arith), (omega arith, omega arith), ((omega arith, omega arith), (omega arith, omega arith))),
)

second_fits : IsNodeMessage (Accept second_vote)
second_fits = ((omega arith, omega arith), ((omega arith, omega arith), (omega arith, omega arith)), tt)

one_promises : IsMessage (said_by alone 1 (Promise (promise_from 1)))
one_promises =
    says 1 (Promise (promise_from 1)) (omega arith) (omega arith) (promise_fits 1 (omega arith) (omega arith))

two_promises : IsMessage (said_by alone 2 (Promise (promise_from 2)))
two_promises =
    says 2 (Promise (promise_from 2)) (omega arith) (omega arith) (promise_fits 2 (omega arith) (omega arith))

-- ---- what is sent, and by whom

has_said : (sent : List Datagram) (n : ℕ) (m : NodeMessage) → IsMessage (said_by alone n m)
    → Contains sent (say n m) → HasSent alone sent n m
has_said sent n m fits h = record { datagram = say n m; listed = h; from = refl; spelled = (fits, refl) }

was_said : (sent : List Datagram) (n : ℕ) (m : NodeMessage) → IsMessage (said_by alone n m)
    → Contains sent (say n m) → WasSent alone sent m
was_said sent n m fits h = record { sender = n; has_sent = has_said sent n m fits h }

post : (sent : List Datagram) (n : ℕ) (w : PaxosState) (m : NodeMessage) → IsMessage (said_by alone n m)
    → MaySend alone sent w m → MaySendDatagrams alone sent n w (say n m ∷ [])
post sent n w m fits may d h =
    subst (λ x. MaySendDatagram alone sent n w x) (only (say n m) d h)
    (record { message = m; from = refl; spelled = (fits, refl); may = may })

-- ---- why it may be sent

abbrev empty : ℕ → AcceptorState
empty round = record { promised = record { round = round; node = round }; votes = []; snapshot_position = 0 }

promise_of : (first : ℕ) → 1 ≤ first → MayPromise (empty 1) (promise_from first)
promise_of first h =
    record { promised = refl; above = omega arith; all = λ x c. absurd (omega (arith, c.1)); only = λ x c. c }

takes : (old : AcceptorState) (x : Vote)
    → AddsVote old x (record {
      promised = x.ballot;
      votes = old.votes ++ x ∷ [];
      snapshot_position = old.snapshot_position;
    })
takes old x = record {
  promised = refl;
  snapshot = refl;
  kept = Contains-push old.votes x;
  others = λ y h ne. Contains-append_left old.votes (x ∷ []) y h;
  only = λ y h. elim (Contains-push_cases old.votes x y h) [ inl before ↦ inr before | inr e ↦ inl (sym e) ];
}

none_reported : (received : List ReceivedPromise) → ((r : ReceivedPromise) → Contains received r → r.votes ≡ [])
    → (x : Vote)
    → IsPromisedVote received x → ⊥
none_reported received none x told =
    let no : Contains {X = Vote} [] x = subst (λ l. Contains l x) (none told.0 told.1) told.2 in
    omega (arith, no.1)

abbrev one_heard : Term
one_heard = record { ballot = ballot; received = empty_promise 1 1 ∷ []; proposals = []; accepted = [] }

first_choice : MayPropose alone [] one_heard 1 join
unfolding members roster_of effects positioned
first_choice = record {
  new = λ w h. omega (arith, h.1);
  reaches = omega arith;
  received = empty_promise 1 1 ∷ [];
  among = λ r h. (h, subst (λ (q : ReceivedPromise). q.first ≤ 1) (only (empty_promise 1 1) r h) (omega arith));
  nodes = 1 ∷ [];
  majority = record { within = refl; more_than_half = omega arith };
  promisers = λ n h. (empty_promise 1 1, (0, omega arith, refl), only 1 n h);
  highest = λ x told at. absurd
      (none_reported (empty_promise 1 1 ∷ []) (λ r h. ap (λ (q : ReceivedPromise). q.votes)
      (sym (only (empty_promise 1 1) r h))) x told);
}

abbrev both_reports : List ReceivedPromise
both_reports = empty_promise 1 1 ∷ empty_promise 2 2 ∷ []

each_report : (P : ReceivedPromise → Type 0) → P (empty_promise 1 1) → P (empty_promise 2 2) → (r : ReceivedPromise)
    → Contains both_reports r → P r
each_report P one two r h =
    elim (cons_cases (empty_promise 1 1) (empty_promise 2 2 ∷ []) r h)
    [ inl e ↦ subst P e one | inr more ↦ subst P (only (empty_promise 2 2) r more) two ]

each_node : (P : ℕ → Type 0) → P 1 → P 2 → (n : ℕ) → Contains (1 ∷ 2 ∷ []) n → P n
each_node P one two n h =
    elim (cons_cases 1 (2 ∷ []) n h) [ inl e ↦ subst P e one | inr more ↦ subst P (only 2 n more) two ]

abbrev first_proposed : Term
first_proposed = record {
  ballot = ballot;
  received = empty_promise 1 1 ∷ [];
  proposals =
      (1, join) ∷ [];
  accepted = [];
}

abbrev both_heard : Term
both_heard = record { ballot = ballot; received = both_reports; proposals = (1, join) ∷ []; accepted = [] }

abbrev second_proposed : Term
second_proposed =
    record { ballot = ballot; received = both_reports; proposals = (1, join) ∷ (2, Noop) ∷ []; accepted = [] }

second_choice : MayPropose alone (join ∷ []) both_heard 2 Noop
unfolding members roster_of effects positioned
second_choice = record {
  new = λ w h. elsewhere w (only (1, join) (2, w) h);
  reaches = omega arith;
  received = both_reports;
  among = λ r h. (h, each_report (λ q. q.first ≤ 2) (omega arith) (omega arith) r h);
  nodes = 1 ∷ 2 ∷ [];
  majority = record { within = refl; more_than_half = omega arith };
  promisers = λ n h. each_node (λ k. IsPromiser both_reports k) (empty_promise 1 1, (0, omega arith, refl), refl)
      (empty_promise 2 2, (1, omega arith, refl), refl) n h;
  highest = λ x told at. absurd (none_reported both_reports (each_report (λ q. q.votes ≡ []) refl refl) x told);
}
  where
    elsewhere : (w : Command) → ◌≡◌ {A = Pair} (1, join) (2, w) → ⊥
    elsewhere w e = let no : ◌≡◌ {A = ℕ} 1 2 = ap (λ (p : Pair). p.0) e in omega arith

-- ---- what comes about

abbrev three_sent : List Datagram
three_sent = say 1 (Promise (promise_from 1)) ∷ say 1 (Accept first_vote) ∷ say 1 (Accepted first_vote) ∷ []

nothing_chosen : (sent : List Datagram) → Chosen alone sent []
unfolding Chosen
nothing_chosen sent zero v at = absurd cc
nothing_chosen sent (suc k) v at = absurd cc

first_accepted : (sent : List Datagram) (L : List Command) → Contains sent (say 1 (Accepted first_vote))
    → IsAcceptedIn alone sent (members alone L 1) ballot 1 join
unfolding members roster_of effects positioned
first_accepted sent L h = record {
  nodes = 1 ∷ [];
  majority = record { within = refl; more_than_half = omega arith };
  accepted = λ n c. subst (λ k. HasSent alone sent k (Accepted first_vote)) (only 1 n c)
      (has_said sent 1 (Accepted first_vote) (says 1 (Accepted first_vote) (omega arith) (omega arith) first_fits) h);
}

first_chosen : ChosenAt alone three_sent 1 join
first_chosen = record {
  under = [];
  chosen = nothing_chosen three_sent;
  reaches = omega arith;
  ballot = ballot;
  accepted = first_accepted three_sent [] (2, omega arith, refl);
}

one_proposes_first : IsMessage (said_by alone 1 (Accept first_vote))
one_proposes_first = says 1 (Accept first_vote) (omega arith) (omega arith) first_fits

one_votes_first : IsMessage (said_by alone 1 (Accepted first_vote))
one_votes_first = says 1 (Accepted first_vote) (omega arith) (omega arith) first_fits

one_proposes_second : IsMessage (said_by alone 1 (Accept second_vote))
one_proposes_second = says 1 (Accept second_vote) (omega arith) (omega arith) second_fits

one_votes_second : IsMessage (said_by alone 1 (Accepted second_vote))
one_votes_second = says 1 (Accepted second_vote) (omega arith) (omega arith) second_fits

two_votes_second : IsMessage (said_by alone 2 (Accepted second_vote))
two_votes_second = says 2 (Accepted second_vote) (omega arith) (omega arith) second_fits

promise_1 : MayPromise (empty 1) (promise_from 1)
promise_1 = promise_of 1 (omega arith)

promise_2 : MayPromise (empty 1) (promise_from 2)
promise_2 = promise_of 2 (omega arith)

0-of-1 : 0 < 1
0-of-1 = omega arith

1-of-2 : 1 < 2
1-of-2 = omega arith

3-of-4 : 3 < 4
3-of-4 = omega arith

4-of-5 : 4 < 5
4-of-5 = omega arith

4-of-6 : 4 < 6
4-of-6 = omega arith

no_pairs : (pairs : List Pair) → AreAmong [] pairs
no_pairs pairs p h = absurd (omega (arith, h.1))

-- ---- the world at each step

abbrev standing_of : List Vote → AcceptorState
standing_of votes = record { promised = ballot; votes = votes; snapshot_position = 0 }

abbrev one_state : List Vote → List Command → List Pair → Term → PaxosState
one_state votes done pairs t = record { acceptor = standing_of votes; done = done; pairs = pairs; term = Some t }

abbrev two_state : List Vote → PaxosState
two_state votes = record { acceptor = standing_of votes; done = []; pairs = []; term = None }

abbrev w1 : PaxosWorld
w1 = with_paxos start 1 (one_state [] [] [] (new_term ballot))

reach1 : IsReachable alone w1
reach1 = next begin (changes 1 (one_state [] [] [] (new_term ballot)) (begins ballot refl (inl 0-of-1)))

abbrev w2 : PaxosWorld
w2 = with_sent w1 (say 1 (Promise (promise_from 1)) ∷ [])

reach2 : IsReachable alone w2
reach2 = next reach1 (sends 1 (say 1 (Promise (promise_from 1)) ∷ [])
    (post w1.sent 1 (w1.states 1) (Promise (promise_from 1)) one_promises promise_1))

abbrev w3 : PaxosWorld
w3 = with_paxos w2 1 (one_state [] [] [] one_heard)

reach3 : IsReachable alone w3
reach3 = next reach2 (changes 1 (one_state [] [] [] one_heard)
    (hears (new_term ballot) (empty_promise 1 1) refl
    (has_said w2.sent 1 (Promise (promise_from 1)) one_promises (0, 0-of-1, refl))))

abbrev w4 : PaxosWorld
w4 = with_paxos w3 1 (one_state [] [] [] first_proposed)

reach4 : IsReachable alone w4
reach4 = next reach3 (changes 1 (one_state [] [] [] first_proposed) (proposes one_heard 1 join refl first_choice))

abbrev w5 : PaxosWorld
w5 = with_sent w4 (say 1 (Accept first_vote) ∷ [])

reach5 : IsReachable alone w5
reach5 = next reach4 (sends 1 (say 1 (Accept first_vote) ∷ [])
    (post w4.sent 1 (w4.states 1) (Accept first_vote) one_proposes_first
    (first_proposed, refl, refl, (0, 0-of-1, refl))))

abbrev w6 : PaxosWorld
w6 = with_paxos w5 1 (one_state (first_vote ∷ []) [] [] first_proposed)

reach6 : IsReachable alone w6
reach6 = next reach5 (changes 1 (one_state (first_vote ∷ []) [] [] first_proposed)
    (accepts first_vote (standing_of (first_vote ∷ [])) (inr refl)
    (was_said w5.sent 1 (Accept first_vote) one_proposes_first (1, 1-of-2, refl)) (takes (standing_of []) first_vote)))

abbrev w7 : PaxosWorld
w7 = with_sent w6 (say 1 (Accepted first_vote) ∷ [])

reach7 : IsReachable alone w7
reach7 = next reach6 (sends 1 (say 1 (Accepted first_vote) ∷ [])
    (post w6.sent 1 (w6.states 1) (Accepted first_vote) one_votes_first (refl, (0, 0-of-1, refl))))

abbrev w8 : PaxosWorld
w8 = with_paxos w7 1 (one_state (first_vote ∷ []) [] ((1, join) ∷ []) first_proposed)

reach8 : IsReachable alone w8
reach8 =
    next reach7 (changes 1 (one_state (first_vote ∷ []) [] ((1, join) ∷ []) first_proposed)
    (learns 1 join first_chosen))

abbrev w9 : PaxosWorld
w9 = with_paxos w8 1 (one_state (first_vote ∷ []) (join ∷ []) [] first_proposed)

reach9 : IsReachable alone w9
reach9 = next reach8 (changes 1 (one_state (first_vote ∷ []) (join ∷ []) [] first_proposed)
    (executes join [] (0, 0-of-1, refl) (no_pairs ((1, join) ∷ []))))

abbrev w10 : PaxosWorld
w10 = with_paxos w9 2 (two_state [])

reach10 : IsReachable alone w10
reach10 = next reach9 (changes 2 (two_state []) (promises ballot (inl (inl 0-of-1))))

abbrev w11 : PaxosWorld
w11 = with_sent w10 (say 2 (Promise (promise_from 2)) ∷ [])

reach11 : IsReachable alone w11
reach11 = next reach10 (sends 2 (say 2 (Promise (promise_from 2)) ∷ [])
    (post w10.sent 2 (w10.states 2) (Promise (promise_from 2)) two_promises promise_2))

abbrev w12 : PaxosWorld
w12 = with_paxos w11 1 (one_state (first_vote ∷ []) (join ∷ []) [] both_heard)

reach12 : IsReachable alone w12
reach12 = next reach11 (changes 1 (one_state (first_vote ∷ []) (join ∷ []) [] both_heard)
    (hears first_proposed (empty_promise 2 2) refl
    (has_said w11.sent 2 (Promise (promise_from 2)) two_promises (3, 3-of-4, refl))))

abbrev w13 : PaxosWorld
w13 = with_paxos w12 1 (one_state (first_vote ∷ []) (join ∷ []) [] second_proposed)

reach13 : IsReachable alone w13
reach13 = next reach12 (changes 1 (one_state (first_vote ∷ []) (join ∷ []) [] second_proposed)
    (proposes both_heard 2 Noop refl second_choice))

abbrev w14 : PaxosWorld
w14 = with_sent w13 (say 1 (Accept second_vote) ∷ [])

reach14 : IsReachable alone w14
reach14 = next reach13 (sends 1 (say 1 (Accept second_vote) ∷ [])
    (post w13.sent 1 (w13.states 1) (Accept second_vote) one_proposes_second
    (second_proposed, refl, refl, (1, 1-of-2, refl))))

abbrev w15 : PaxosWorld
w15 = with_paxos w14 1 (one_state (first_vote ∷ second_vote ∷ []) (join ∷ []) [] second_proposed)

reach15 : IsReachable alone w15
reach15 = next reach14 (changes 1 (one_state (first_vote ∷ second_vote ∷ []) (join ∷ []) [] second_proposed)
    (accepts second_vote (standing_of (first_vote ∷ second_vote ∷ [])) (inr refl)
    (was_said w14.sent 1 (Accept second_vote) one_proposes_second (4, 4-of-5, refl))
    (takes (standing_of (first_vote ∷ [])) second_vote)))

abbrev w16 : PaxosWorld
w16 = with_sent w15 (say 1 (Accepted second_vote) ∷ [])

reach16 : IsReachable alone w16
reach16 = next reach15 (sends 1 (say 1 (Accepted second_vote) ∷ [])
    (post w15.sent 1 (w15.states 1) (Accepted second_vote) one_votes_second (refl, (1, 1-of-2, refl))))

abbrev w17 : PaxosWorld
w17 = with_paxos w16 2 (two_state (second_vote ∷ []))

reach17 : IsReachable alone w17
reach17 = next reach16 (changes 2 (two_state (second_vote ∷ []))
    (accepts second_vote (standing_of (second_vote ∷ [])) (inr refl)
    (was_said w16.sent 1 (Accept second_vote) one_proposes_second (4, 4-of-6, refl))
    (takes (standing_of []) second_vote)))

abbrev w18 : PaxosWorld
w18 = with_sent w17 (say 2 (Accepted second_vote) ∷ [])

reach18 : IsReachable alone w18
reach18 = next reach17 (sends 2 (say 2 (Accepted second_vote) ∷ [])
    (post w17.sent 2 (w17.states 2) (Accepted second_vote) two_votes_second (refl, (0, 0-of-1, refl))))

abbrev pub last : PaxosWorld
last = w18

second_accepted : IsAcceptedIn alone all_sent (members alone two_commands 2) ballot 2 Noop
unfolding members roster_of effects positioned
second_accepted = record {
  nodes = 1 ∷ 2 ∷ [];
  majority = record { within = refl; more_than_half = omega arith };
  accepted = each_node (λ k. HasSent alone all_sent k (Accepted second_vote))
      (has_said all_sent 1 (Accepted second_vote) one_votes_second (5, omega arith, refl))
      (has_said all_sent 2 (Accepted second_vote) two_votes_second (6, omega arith, refl));
}

two_chosen : Chosen alone all_sent two_commands
unfolding Chosen
two_chosen zero v at = absurd cc
two_chosen (suc zero) v at = let same : join ≡ v = cc at in
    subst (λ u. (b : BallotValue) × IsAcceptedIn alone all_sent (members alone two_commands 1) b 1 u) same
    (ballot, first_accepted all_sent two_commands (2, omega arith, refl))
two_chosen (suc (suc zero)) v at = let same : Noop ≡ v = cc at in
    subst (λ u. (b : BallotValue) × IsAcceptedIn alone all_sent (members alone two_commands 2) b 2 u) same
    (ballot, second_accepted)
two_chosen (suc (suc (suc k))) v at = absurd (cc at)

pub change : MembersChange alone last two_commands
unfolding members roster_of effects positioned
change = record { reached = reach18; chosen = two_chosen; two = refl; one_member = refl; both = refl }
