-- Each message reads what its spelling is.
use Rattle.std.proofs.Common.{◌≡◌, ℕ, ◌+◌, ◌^◌, ◌<◌, ◌≤◌, true, false, ltb, leb, eqb, ◌&&◌, List, ◌++◌, length, Option}
use Rattle.std.proofs.Common.{Some, refl, arith}
use Rattle.std.specs.List.{AllByRecursion}
use Rattle.std.proofs.lemmas.Bool.Decides.{nat_tests}
use Rattle.lk_types.specs.Ranges.{IsClient, IsCount, IsTotal}
use Rattle.lk_types.specs.BallotValue.{BallotValue}
use Rattle.lk_types.specs.Ballots.{IsRealBallot, IsBallot}
use Rattle.lk_types.specs.Commands.{IsCommand}
use Rattle.lk_types.specs.Rosters.{IsMember}
use Rattle.lk_types.specs.Votes.{IsVote}
use Rattle.lk_types.specs.Answers.{IsAnswer}
use Rattle.lk_types.specs.declared.answer.Answer.{Answer}
use Rattle.lk_types.specs.declared.command.Command.{Command}
use Rattle.lk_types.specs.declared.member.Member.{Member}
use Rattle.lk_types.specs.declared.vote.Vote.{Vote}
use Rattle.lk_messages.specs.Values.{PromiseValue, IsPromise, are_votes_from, DecidedValue, IsDecided}
use Rattle.lk_messages.specs.Values.{are_commands_from, WantValue, IsWant, PartValue, IsWithin, IsPart, PassedValue}
use Rattle.lk_messages.specs.Values.{IsPassed}
use Rattle.lk_messages.specs.declared.message.Nack.{Nack}
use Rattle.lk_messages.specs.declared.message.Answered.{Answered}
use Rattle.lk_messages.specs.declared.message.Elsewhere.{Elsewhere}
use Rattle.lk_messages.specs.declared.message.NodeMessage.{NodeMessage}
use Rattle.lk_messages.specs.declared.message.NodeMessage.TheVariants as kinds
use Rattle.lk_codec.specs.Fields.{one, two, four, eight, ballot, member, command, vote, answer}
use Rattle.lk_messages.specs.Grammar.{votes, promise, proposal, nack, IsNack, commands, decided, want, part, answered}
use Rattle.lk_messages.specs.Grammar.{IsAnswered, elsewhere, IsElsewhere, passed, node_kind, node_fields, IsNodeMessage}
use Rattle.lk_codec.specs.Parser.{read_byte, both, made, kind}
use Rattle.lk_codec.specs.FieldReading.{read_two, read_four, read_client, read_count, read_total, read_ballot}
use Rattle.lk_codec.specs.FieldReading.{read_any_ballot, read_member, read_command, read_vote, read_answer}
use Rattle.lk_messages.specs.Reading.{read_prepare, read_votes, read_promise, read_proposal, read_nack, read_commands}
use Rattle.lk_messages.specs.Reading.{read_decided, read_want, is_within, read_part, read_answered, read_elsewhere}
use Rattle.lk_messages.specs.Reading.{read_passed, read_lead, small_of, read_node_message}
use Rattle.lk_codec.proofs.Spellings.{Reads, fitting, both_reads, made_reads, tested_reads, byte_reads, counted_reads}
use Rattle.lk_codec.proofs.Spellings.{two_reads, four_reads, sized_reads, TakesKinds, no_kind_takes, kind_takes}
use Rattle.lk_codec.proofs.Spellings.{at_most, is_at_most, client_reads, count_reads, total_reads, ballot_reads}
use Rattle.lk_codec.proofs.Spellings.{mark_reads, member_reads, command_reads, vote_reads, answer_reads}
use Rattle.lk_messages.proofs.Lengths.{few_votes, few_commands}

-- ---- the fields of each kind

votes_reads : Reads read_votes votes (λ vs. (length vs < 256) × AllByRecursion IsVote vs)
unfolding read_votes
votes_reads = counted_reads read_byte one (λ n. n < 256) byte_reads read_vote vote IsVote vote_reads

pub promise_reads : Reads read_promise promise IsPromise
unfolding read_promise
promise_reads = fitting read_promise promise
    (λ (p : PromiseValue). (IsRealBallot p.ballot
    × (IsCount p.first × ((length p.votes < 256) × AllByRecursion IsVote p.votes)))
    × (are_votes_from p.first p.votes ≡ true)) IsPromise
    (λ p f. (f.0.0, f.0.1.0, f.0.1.1.1, f.1))
    (λ p f. ((f.0, (f.1, (omega (arith, few_votes p.first p.votes f.3), f.2))), f.3))
    (tested_reads (λ (p : PromiseValue). are_votes_from p.first p.votes) _ promise _
    (made_reads (λ (v : BallotValue × (ℕ × List Vote)). let x : PromiseValue =
    record { ballot = v.0; first = v.1.0; votes = v.1.1 } in x) (λ (p : PromiseValue). (p.ballot, (p.first, p.votes)))
    (λ x. refl) (λ y. refl) _ _ _
    (both_reads read_ballot ballot IsRealBallot _ _ _ ballot_reads
    (both_reads read_count eight IsCount read_votes votes _ count_reads votes_reads))))

pub proposal_reads : Reads read_proposal proposal IsVote
unfolding read_proposal
proposal_reads = fitting read_proposal proposal
    (λ (v : Vote). IsRealBallot v.ballot × (IsCount v.position
    × IsCommand v.command)) IsVote (λ v f. (f.1.0, f.0, f.1.1))
    (λ v f. (f.1, (f.0, f.2)))
    (made_reads (λ (v : BallotValue × (ℕ × Command)). let x : Vote =
    record { position = v.1.0; ballot = v.0; command = v.1.1 } in x)
    (λ (v : Vote). (v.ballot, (v.position, v.command))) (λ x. refl) (λ y. refl) _ _ _
    (both_reads read_ballot ballot IsRealBallot _ _ _ ballot_reads
    (both_reads read_count eight IsCount read_command command IsCommand count_reads command_reads)))

pub nack_reads : Reads read_nack nack IsNack
unfolding read_nack
nack_reads = fitting read_nack nack (λ (n : Nack). IsRealBallot n.ballot × (IsBallot n.promised
    × IsTotal n.executed)) IsNack
    (λ n f. (f.0, f.1.0, f.1.1)) (λ n f. (f.0, (f.1, f.2)))
    (made_reads (λ (n : BallotValue × (BallotValue × ℕ)). let x : Nack =
    record { ballot = n.0; promised = n.1.0; executed = n.1.1 } in x)
    (λ (n : Nack). (n.ballot, (n.promised, n.executed))) (λ x. refl) (λ y. refl) _ _ _
    (both_reads read_ballot ballot IsRealBallot _ _ _ ballot_reads
    (both_reads read_any_ballot ballot IsBallot read_total eight IsTotal mark_reads total_reads)))

commands_reads : Reads read_commands commands (λ cs. (length cs < 256) × AllByRecursion IsCommand cs)
unfolding read_commands
commands_reads = counted_reads read_byte one (λ n. n < 256) byte_reads read_command command IsCommand command_reads

pub decided_reads : Reads read_decided decided IsDecided
unfolding read_decided
decided_reads = fitting read_decided decided
    (λ (d : DecidedValue). (IsCount d.first × ((length d.commands < 256) × AllByRecursion IsCommand d.commands))
    × (are_commands_from d.first d.commands ≡ true)) IsDecided
    (λ d f. (f.0.0, f.0.1.1, f.1)) (λ d f. ((f.0, (omega (arith, few_commands d.first d.commands f.2), f.1)), f.2))
    (tested_reads (λ (d : DecidedValue). are_commands_from d.first d.commands) _ decided _
    (made_reads (λ (v : ℕ × List Command). let x : DecidedValue = record { first = v.0; commands = v.1 } in x)
    (λ (d : DecidedValue). (d.first, d.commands)) (λ x. refl) (λ y. refl) _ _ _
    (both_reads read_count eight IsCount read_commands commands _ count_reads commands_reads)))

pub want_reads : Reads read_want want IsWant
unfolding read_want
want_reads = fitting read_want want
    (λ (w : WantValue). (IsCount w.first × (w.offset < 2 ^ 32)) × (leb w.offset 65536 ≡ true)) IsWant
    (λ w f. (f.0.0, at_most 65536 w.offset f.1)) (λ w f. ((f.0, omega (arith, f.1)), is_at_most 65536 w.offset f.1))
    (tested_reads (λ (w : WantValue). leb w.offset 65536) _ want _
    (made_reads (λ (v : ℕ × ℕ). let x : WantValue = record { first = v.0; offset = v.1 } in x)
    (λ (w : WantValue). (w.first, w.offset)) (λ x. refl) (λ y. refl) _ _ _
    (both_reads read_count eight IsCount read_four four (λ n. n < 2 ^ 32) count_reads four_reads)))

within_is : (total offset n : ℕ)
    → (leb 1 total && leb total 65536 && leb 1 n && leb n 1024 && leb (offset + n) total) ≡ true
    → (1 ≤ total) × (total ≤ 65536) × (1 ≤ n) × (n ≤ 1024) × (offset + n ≤ total)
within_is total offset n e = grind (arith, nat_tests)

is_within_lem : (total offset n : ℕ) → 1 ≤ total → total ≤ 65536 → 1 ≤ n → n ≤ 1024 → offset + n ≤ total
    → (leb 1 total && leb total 65536 && leb 1 n && leb n 1024 && leb (offset + n) total) ≡ true
is_within_lem total offset n a b c d e = grind (arith, nat_tests)

lies_within : (p : PartValue) → is_within p ≡ true → IsWithin p
lies_within p e = within_is p.total p.offset (length p.bytes) e

is_lying_within : (p : PartValue) → IsWithin p → is_within p ≡ true
is_lying_within p w = is_within_lem p.total p.offset (length p.bytes) w.0 w.1 w.2 w.3 w.4

pub part_reads : Reads read_part part IsPart
unfolding read_part
part_reads = fitting read_part part
    (λ (p : PartValue). (IsCount p.position × ((p.total < 2 ^ 32) × ((p.offset < 2 ^ 32) × (length p.bytes < 2 ^ 16))))
    × (is_within p ≡ true)) IsPart
    (λ p f. (f.0.0, lies_within p f.1))
    (λ p f. ((f.0, (omega (arith, f.1.1), (omega (arith, f.1), omega (arith, f.1.3)))), is_lying_within p f.1))
    (tested_reads is_within _ part _
    (made_reads (λ (v : ℕ × (ℕ × (ℕ × List ℕ))). let x : PartValue =
    record { position = v.0; total = v.1.0; offset = v.1.1.0; bytes = v.1.1.1 } in x)
    (λ (p : PartValue). (p.position, (p.total, (p.offset, p.bytes)))) (λ x. refl) (λ y. refl) _ _ _
    (both_reads read_count eight IsCount _ _ _ count_reads
    (both_reads read_four four (λ n. n < 2 ^ 32) _ _ _ four_reads
    (both_reads read_four four (λ n. n < 2 ^ 32) _ _ _ four_reads
    (sized_reads read_two two (λ n. n < 2 ^ 16) two_reads))))))

pub answered_reads : Reads read_answered answered IsAnswered
unfolding read_answered
answered_reads = fitting read_answered answered
    (λ (a : Answered). IsClient a.client × (IsCount a.number × IsAnswer a.answer)) IsAnswered
    (λ a f. (f.0, f.1.0, f.1.1)) (λ a f. (f.0, (f.1, f.2)))
    (made_reads (λ (v : ℕ × (ℕ × Answer)). let x : Answered =
    record { client = v.0; number = v.1.0; answer = v.1.1 } in x) (λ (a : Answered). (a.client, (a.number, a.answer)))
    (λ x. refl) (λ y. refl) _ _ _
    (both_reads read_client two IsClient _ _ _ client_reads
    (both_reads read_count eight IsCount read_answer answer IsAnswer count_reads answer_reads)))

pub elsewhere_reads : Reads read_elsewhere elsewhere IsElsewhere
unfolding read_elsewhere
elsewhere_reads = fitting read_elsewhere elsewhere
    (λ (e : Elsewhere). IsClient e.client × (IsCount e.number × IsMember e.member)) IsElsewhere
    (λ e f. (f.0, f.1.0, f.1.1)) (λ e f. (f.0, (f.1, f.2)))
    (made_reads (λ (v : ℕ × (ℕ × Member)). let x : Elsewhere =
    record { client = v.0; number = v.1.0; member = v.1.1 } in x) (λ (e : Elsewhere). (e.client, (e.number, e.member)))
    (λ x. refl) (λ y. refl) _ _ _
    (both_reads read_client two IsClient _ _ _ client_reads
    (both_reads read_count eight IsCount read_member member IsMember count_reads member_reads)))

below_is : (a b : ℕ) → ltb a b ≡ true → a < b
below_is a b e = grind (arith, nat_tests)

is_below : (a b : ℕ) → a < b → ltb a b ≡ true
is_below a b h = grind (arith, nat_tests)

pub passed_reads : Reads read_passed passed IsPassed
unfolding read_passed
passed_reads = fitting read_passed passed
    (λ (p : PassedValue). (IsClient p.client × (IsCount p.number × IsCount p.last)) × (ltb p.number p.last ≡ true))
    IsPassed
    (λ p f. (f.0.0, f.0.1.0, f.0.1.1, below_is p.number p.last f.1))
    (λ p f. ((f.0, (f.1, f.2)), is_below p.number p.last f.3))
    (tested_reads (λ (p : PassedValue). ltb p.number p.last) _ passed _
    (made_reads (λ (v : ℕ × (ℕ × ℕ)). let x : PassedValue = record { client = v.0; number = v.1.0; last = v.1.1 } in x)
    (λ (p : PassedValue). (p.client, (p.number, p.last))) (λ x. refl) (λ y. refl) _ _ _
    (both_reads read_client two IsClient _ _ _ client_reads
    (both_reads read_count eight IsCount read_count eight IsCount count_reads count_reads))))

-- ---- by kind

prepare_reads : Reads (both read_ballot read_count) (λ b. ballot b.0 ++ eight b.1) (λ b. IsRealBallot b.0 × IsCount b.1)
prepare_reads = both_reads read_ballot ballot IsRealBallot read_count eight IsCount ballot_reads count_reads

lead_reads : Reads (both read_ballot read_total) (λ b. ballot b.0 ++ eight b.1) (λ b. IsRealBallot b.0 × IsTotal b.1)
lead_reads = both_reads read_ballot ballot IsRealBallot read_total eight IsTotal ballot_reads total_reads

one_more : {Y : Type 0} (k : ℕ) (f : Y → NodeMessage) (p : List ℕ → Option (Y × List ℕ)) (t : Y → List ℕ)
    (G : Y → Type 0) → Reads p t G
    → ((y : Y) → node_kind (f y) ≡ k) → ((y : Y) → node_fields (f y) ≡ t y) → ((y : Y) → G y → IsNodeMessage (f y))
    → (q : ℕ → List ℕ → Option (NodeMessage × List ℕ)) → TakesKinds node_kind node_fields IsNodeMessage q
    → TakesKinds node_kind node_fields IsNodeMessage (kind k (made f p) q)
one_more = kind_takes node_kind node_fields IsNodeMessage

small_takes : TakesKinds node_kind node_fields IsNodeMessage small_of
unfolding small_of read_prepare read_lead
small_takes =
    one_more 1 (λ (b : BallotValue × ℕ). kinds.Prepare b.0 b.1) _ _ _ prepare_reads (λ y. refl) (λ y. refl) (λ y f. f) _
    (one_more 3 kinds.Accept read_proposal proposal IsVote proposal_reads (λ y. refl) (λ y. refl) (λ y f. f) _
    (one_more 4 kinds.Accepted read_proposal proposal IsVote proposal_reads (λ y. refl) (λ y. refl) (λ y f. f) _
    (one_more 5 kinds.Nack read_nack nack IsNack nack_reads (λ y. refl) (λ y. refl) (λ y f. f) _
    (one_more 7 kinds.Want read_want want IsWant want_reads (λ y. refl) (λ y. refl) (λ y f. f) _
    (one_more 10 kinds.Answer read_answered answered IsAnswered answered_reads (λ y. refl) (λ y. refl) (λ y f. f) _
    (one_more 11 kinds.Elsewhere read_elsewhere elsewhere IsElsewhere elsewhere_reads
    (λ y. refl) (λ y. refl) (λ y f. f) _
    (one_more 12 kinds.Passed read_passed passed IsPassed passed_reads (λ y. refl) (λ y. refl) (λ y f. f) _
    (one_more 13 (λ (b : BallotValue × ℕ). kinds.Lead b.0 b.1) _ _ _ lead_reads (λ y. refl) (λ y. refl) (λ y f. f) _
    (no_kind_takes node_kind node_fields IsNodeMessage)))))))))

pub node_takes : TakesKinds node_kind node_fields IsNodeMessage read_node_message
unfolding read_node_message
node_takes =
    one_more 2 kinds.Promise read_promise promise IsPromise promise_reads (λ y. refl) (λ y. refl) (λ y f. f) _
    (one_more 6 kinds.Decided read_decided decided IsDecided decided_reads (λ y. refl) (λ y. refl) (λ y f. f) _
    (one_more 8 kinds.Part read_part part IsPart part_reads (λ y. refl) (λ y. refl) (λ y f. f) _
    small_takes))

pub node_again : (m : NodeMessage) (rest : List ℕ) → IsNodeMessage m
    → read_node_message (node_kind m) (node_fields m ++ rest) ≡ Some (m, rest)
unfolding read_node_message small_of read_prepare read_lead
node_again (kinds.Prepare b first) rest fits = rw (prepare_reads.again (b, first) rest fits) refl
node_again (kinds.Promise p) rest fits = rw (promise_reads.again p rest fits) refl
node_again (kinds.Accept v) rest fits = rw (proposal_reads.again v rest fits) refl
node_again (kinds.Accepted v) rest fits = rw (proposal_reads.again v rest fits) refl
node_again (kinds.Nack n) rest fits = rw (nack_reads.again n rest fits) refl
node_again (kinds.Decided d) rest fits = rw (decided_reads.again d rest fits) refl
node_again (kinds.Want w) rest fits = rw (want_reads.again w rest fits) refl
node_again (kinds.Part p) rest fits = rw (part_reads.again p rest fits) refl
node_again (kinds.Answer a) rest fits = rw (answered_reads.again a rest fits) refl
node_again (kinds.Elsewhere e) rest fits = rw (elsewhere_reads.again e rest fits) refl
node_again (kinds.Passed p) rest fits = rw (passed_reads.again p rest fits) refl
node_again (kinds.Lead b executed) rest fits = rw (lead_reads.again (b, executed) rest fits) refl

pub kind_fits : (m : NodeMessage) → node_kind m < 256
kind_fits (kinds.Prepare b first) = omega arith
kind_fits (kinds.Promise p) = omega arith
kind_fits (kinds.Accept v) = omega arith
kind_fits (kinds.Accepted v) = omega arith
kind_fits (kinds.Nack n) = omega arith
kind_fits (kinds.Decided d) = omega arith
kind_fits (kinds.Want w) = omega arith
kind_fits (kinds.Part p) = omega arith
kind_fits (kinds.Answer a) = omega arith
kind_fits (kinds.Elsewhere e) = omega arith
kind_fits (kinds.Passed p) = omega arith
kind_fits (kinds.Lead b executed) = omega arith

-- a node's kind is not that of a client's request
pub kind_other : (m : NodeMessage) → eqb (node_kind m) 9 ≡ false
kind_other (kinds.Prepare b first) = refl
kind_other (kinds.Promise p) = refl
kind_other (kinds.Accept v) = refl
kind_other (kinds.Accepted v) = refl
kind_other (kinds.Nack n) = refl
kind_other (kinds.Decided d) = refl
kind_other (kinds.Want w) = refl
kind_other (kinds.Part p) = refl
kind_other (kinds.Answer a) = refl
kind_other (kinds.Elsewhere e) = refl
kind_other (kinds.Passed p) = refl
kind_other (kinds.Lead b executed) = refl
