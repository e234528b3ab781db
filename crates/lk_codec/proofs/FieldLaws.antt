-- Each field reads what its spelling is.
use Rattle.std.proofs.Common.{◌≡◌, ℕ, ◌^◌, ◌<◌, ◌≤◌, ◌⊎◌, Bool, true, false, leb, eqb, ◌&&◌, ◌||◌, lit<, inl, inr, List}
use Rattle.std.proofs.Common.{[], ◌++◌, length, Option, Some, refl, arith}
use Rattle.std.specs.List.{AllByRecursion}
use Rattle.std.proofs.lemmas.Bool.Decides.{nat_tests}
use Rattle.lk_types.specs.Ranges.{IsNode, IsClient, IsPort, IsCount, IsTotal, IsSharerCount}
use Rattle.lk_types.specs.Payloads.{IsPayload}
use Rattle.lk_types.specs.BallotValue.{BallotValue}
use Rattle.lk_types.specs.Ballots.{IsRealBallot, IsBallot, zero_ballot}
use Rattle.lk_types.specs.Commands.{IsOp, IsRequest, IsCommand}
use Rattle.lk_types.specs.Rosters.{IsMember, AreMembers, members_rise}
use Rattle.lk_types.specs.Votes.{IsVote}
use Rattle.lk_types.specs.Answers.{IsAnswer}
use Rattle.lk_types.specs.declared.answer.Answer.{Answer}
use Rattle.lk_types.specs.declared.answer.Answer.TheVariants.{Granted, Busy, Released, NotHeld, Free, Held, Valid}
use Rattle.lk_types.specs.declared.answer.Answer.TheVariants.{Stale, NoRoom, Bad, Spent, Shared, HeldShared, Broken}
use Rattle.lk_types.specs.declared.answer.Answer.TheVariants.{Joined, Used, Full, Left, NotMember, Last, Raised}
use Rattle.lk_types.specs.declared.answer.Answer.TheVariants.{AlreadyRaised}
use Rattle.lk_types.specs.declared.command.Op.{Op}
use Rattle.lk_types.specs.declared.command.Op.TheVariants.{Table, Join, Leave, Raise}
use Rattle.lk_types.specs.declared.command.Request.{Request as RequestValue}
use Rattle.lk_types.specs.declared.command.Command.{Command}
use Rattle.lk_types.specs.declared.command.Command.TheVariants.{Noop, Request}
use Rattle.lk_types.specs.declared.member.Member.{Member}
use Rattle.lk_types.specs.declared.vote.Vote.{Vote}
use Rattle.lk_codec.specs.Fields.{one, two, four, eight, ballot, member, members, payload, op_tag, op_fields, op}
use Rattle.lk_codec.specs.Fields.{request, command_tag, command_fields, command, vote, pair, answer_tag, answer_fields}
use Rattle.lk_codec.specs.Fields.{answer}
use Rattle.lk_codec.specs.Parser.{read_byte, sized, tested, counted, kind, bare, no_kind}
use Rattle.lk_codec.specs.FieldReading.{is_from_1_to, read_two, read_four, read_eight, read_node, read_client}
use Rattle.lk_codec.specs.FieldReading.{read_port, read_count, read_total, read_ballot, is_mark, read_any_ballot}
use Rattle.lk_codec.specs.FieldReading.{read_member, read_members, read_payload, read_version, op_of, read_op}
use Rattle.lk_codec.specs.FieldReading.{read_request, command_of, read_command, read_vote, read_pair, bare_answer}
use Rattle.lk_codec.specs.FieldReading.{read_held, read_sharer_count, read_sharing, answer_of, read_answer}
use Rattle.lk_codec.proofs.Codec.{Reads, fitting, both_reads, made_reads, tested_reads, byte_reads}
use Rattle.lk_codec.proofs.NumberLaws.{two_reads, four_reads, eight_reads, sized_reads}
use Rattle.lk_codec.proofs.Repeats.{counted_reads}
use Rattle.lk_codec.proofs.KindLaws.{TakesKinds, no_kind_takes, bare_takes, kind_takes, tagged_reads}

-- the test says what the range says
pub is_in : (most n : ℕ) → is_from_1_to most n ≡ true → (1 ≤ n) × (n ≤ most)
is_in most n e = grind (arith, nat_tests)

pub passes : (most n : ℕ) → 1 ≤ n → n ≤ most → is_from_1_to most n ≡ true
passes most n low high = grind (arith, nat_tests)

pub at_most : (most n : ℕ) → leb n most ≡ true → n ≤ most
at_most most n e = grind (arith, nat_tests)

pub is_at_most : (most n : ℕ) → n ≤ most → leb n most ≡ true
is_at_most most n h = grind (arith, nat_tests)

-- ---- numbers

-- a number from 1 to most
pub ranged_reads : (most limit : ℕ) → most < limit → (p : List ℕ → Option (ℕ × List ℕ)) (s : ℕ → List ℕ)
    → Reads p s (λ n. n < limit) → Reads (tested (is_from_1_to most) p) s (λ n. (1 ≤ n) × (n ≤ most))
ranged_reads most limit lt p s r =
    fitting (tested (is_from_1_to most) p) s (λ n. (n < limit) × (is_from_1_to most n ≡ true))
    (λ n. (1 ≤ n) × (n ≤ most))
    (λ n h. is_in most n h.1) (λ n h. (omega (arith, h.1), passes most n h.0 h.1))
    (tested_reads (is_from_1_to most) p s (λ n. n < limit) r)

-- a number from 0 to most
pub limited_reads : (most limit : ℕ) → most < limit → (p : List ℕ → Option (ℕ × List ℕ)) (s : ℕ → List ℕ)
    → Reads p s (λ n. n < limit) → Reads (tested (λ n. leb n most) p) s (λ n. n ≤ most)
limited_reads most limit lt p s r =
    fitting (tested (λ n. leb n most) p) s (λ n. (n < limit) × (leb n most ≡ true)) (λ n. n ≤ most)
    (λ n h. at_most most n h.1) (λ n h. (omega (arith, h), is_at_most most n h))
    (tested_reads (λ n. leb n most) p s (λ n. n < limit) r)

pub node_reads : Reads read_node four IsNode
unfolding read_node
node_reads = ranged_reads 2147483648 (2 ^ 32) (omega arith) read_four four four_reads

pub client_reads : Reads read_client two IsClient
unfolding read_client
client_reads = ranged_reads 256 (2 ^ 16) (omega arith) read_two two two_reads

pub port_reads : Reads read_port two IsPort
unfolding read_port
port_reads = ranged_reads 65535 (2 ^ 16) (omega arith) read_two two two_reads

pub count_reads : Reads read_count eight IsCount
unfolding read_count
count_reads = ranged_reads 281474976710656 (2 ^ 64) (omega arith) read_eight eight eight_reads

pub total_reads : Reads read_total eight IsTotal
unfolding read_total
total_reads = limited_reads 281474976710656 (2 ^ 64) (omega arith) read_eight eight eight_reads

-- ---- ballots and members

abbrev ballot_of : ℕ × ℕ → BallotValue
ballot_of b = record { round = b.0; node = b.1 }

pub ballot_reads : Reads read_ballot ballot IsRealBallot
unfolding read_ballot
ballot_reads = made_reads ballot_of (λ (v : BallotValue). (v.round, v.node)) (λ x. refl)
    (λ y. refl) _ _ _ (both_reads read_count eight IsCount read_node four IsNode count_reads node_reads)

either : (a b : Bool) → (a || b) ≡ true → (a ≡ true) ⊎ (b ≡ true)
either true b e = inl refl
either false b e = inr e

real_is : (round node : ℕ) → (is_from_1_to 281474976710656 round && is_from_1_to 2147483648 node) ≡ true
    → IsCount round × IsNode node
real_is round node e = grind (arith, nat_tests)

is_real : (round node : ℕ) → IsCount round → IsNode node
    → (is_from_1_to 281474976710656 round && is_from_1_to 2147483648 node) ≡ true
is_real round node r n = grind (arith, nat_tests)

zeros : (round node : ℕ) → (eqb round 0 && eqb node 0) ≡ true → ballot_of (round, node) ≡ zero_ballot
zeros round node e =
    let r : round ≡ 0 = grind (arith, nat_tests) in
    let n : node ≡ 0 = grind (arith, nat_tests) in
    rw (r, n) refl

marks : (b : BallotValue) → is_mark b ≡ true → IsBallot b
marks b e =
    elim (either (is_from_1_to 281474976710656 b.round && is_from_1_to 2147483648 b.node)
    (eqb b.round 0 && eqb b.node 0) e) [
      | inl real ↦ inl (real_is b.round b.node real)
      | inr zero ↦ inr (zeros b.round b.node zero)
    ]

are_marks : (b : BallotValue) → IsBallot b → (b.round < 2 ^ 64) × (b.node < 2 ^ 32) × (is_mark b ≡ true)
are_marks b (inl real) = (omega (arith, real.0), omega (arith, real.1), rw (is_real b.round b.node real.0 real.1) refl)
are_marks b (inr zero) = rw zero (lit< tt, lit< tt, refl)

pub mark_reads : Reads read_any_ballot ballot IsBallot
unfolding read_any_ballot
mark_reads =
    fitting read_any_ballot ballot (λ (b : BallotValue). ((b.round < 2 ^ 64) × (b.node < 2 ^ 32))
    × (is_mark b ≡ true)) IsBallot
    (λ b f. marks b f.1) (λ b f. let m = are_marks b f in ((m.0, m.1), m.2))
    (tested_reads is_mark _ ballot _
    (made_reads ballot_of (λ (v : BallotValue). (v.round, v.node)) (λ x. refl) (λ y. refl) _ _ _
    (both_reads read_eight eight (λ n. n < 2 ^ 64) read_four four (λ n. n < 2 ^ 32) eight_reads four_reads)))

pub member_reads : Reads read_member member IsMember
unfolding read_member
member_reads = made_reads (λ (m : ℕ × ℕ). let x : Member = record { node = m.0; port = m.1 } in x)
    (λ (m : Member). (m.node, m.port)) (λ x. refl)
    (λ y. refl) _ _ _ (both_reads read_node four IsNode read_port two IsPort node_reads port_reads)

abbrev AreFew : List Member → Type 0
AreFew ms = ((1 ≤ length ms) × (length ms ≤ 7)) × AllByRecursion IsMember ms

few_members_reads : Reads (counted (tested (is_from_1_to 7) read_byte) read_member) members AreFew
few_members_reads = counted_reads (tested (is_from_1_to 7) read_byte) one (λ n. (1 ≤ n) × (n ≤ 7))
    (ranged_reads 7 256 (omega arith) read_byte one byte_reads) read_member member IsMember member_reads

pub members_reads : Reads read_members members (λ (ms : List Member). AreMembers ms × AllByRecursion IsMember ms)
unfolding read_members
members_reads = fitting read_members members (λ (ms : List Member). AreFew ms × (members_rise 0 ms ≡ true))
    (λ (ms : List Member). AreMembers ms × AllByRecursion IsMember ms)
    (λ ms f. ((f.0.0.0, f.0.0.1, f.1), f.0.1)) (λ ms f. (((f.0.0, f.0.1), f.1), f.0.2))
    (tested_reads (members_rise 0)
    (counted (tested (is_from_1_to 7) read_byte) read_member) members AreFew few_members_reads)

-- ---- ops, requests and commands

pub payload_reads : Reads read_payload payload IsPayload
unfolding read_payload
payload_reads =
    fitting read_payload payload (λ bytes. (length bytes < 256) × (is_from_1_to 64 (length bytes) ≡ true)) IsPayload
    (λ bytes f. is_in 64 (length bytes) f.1) (λ bytes f. (omega (arith, f.1), passes 64 (length bytes) f.0 f.1))
    (tested_reads (λ bytes. is_from_1_to 64 (length bytes)) (sized read_byte) payload (λ bytes. length bytes < 256)
    (sized_reads read_byte one (λ n. n < 256) byte_reads))

version_reads : Reads read_version (λ (v : Unit {0}). one 2) (λ (v : Unit {0}). Unit {0})
unfolding read_version
version_reads =
    tagged_reads (λ (v : Unit {0}). 2) (λ (v : Unit {0}). []) (λ (v : Unit {0}). Unit {0}) (kind 2 (bare tt) no_kind)
    (bare_takes (λ (v : Unit {0}). 2) (λ (v : Unit {0}). [])
    (λ (v : Unit {0}). Unit {0}) 2 tt refl refl tt
    _ (no_kind_takes (λ (v : Unit {0}). 2) (λ (v : Unit {0}). []) (λ (v : Unit {0}). Unit {0})))
    (λ v rest fits. refl)

op_takes : TakesKinds op_tag op_fields IsOp op_of
unfolding op_of
op_takes =
    kind_takes op_tag op_fields IsOp 0 Table read_payload payload IsPayload payload_reads
    (λ y. refl) (λ y. refl) (λ y f. f) _
    (kind_takes op_tag op_fields IsOp 1 (λ (m : Member). Join m.node m.port) read_member member IsMember member_reads
    (λ y. refl) (λ y. refl) (λ y f. f) _
    (kind_takes op_tag op_fields IsOp 2 Leave read_node four IsNode node_reads (λ y. refl) (λ y. refl) (λ y f. f) _
    (kind_takes op_tag op_fields IsOp 3 (λ (v : Unit {0}). Raise) read_version (λ (v : Unit {0}). one 2)
    (λ (v : Unit {0}). Unit {0}) version_reads (λ y. refl) (λ y. refl) (λ y f. f) _
    (no_kind_takes op_tag op_fields IsOp))))

op_again : (o : Op) (rest : List ℕ) → IsOp o → op_of (op_tag o) (op_fields o ++ rest) ≡ Some (o, rest)
unfolding op_of
op_again (Table bytes) rest fits = rw (payload_reads.again bytes rest fits) refl
op_again (Join node port) rest fits = rw (member_reads.again (record { node = node; port = port }) rest fits) refl
op_again (Leave node) rest fits = rw (node_reads.again node rest fits) refl
op_again Raise rest fits = rw (version_reads.again tt rest tt) refl

pub op_reads : Reads read_op op IsOp
op_reads = tagged_reads op_tag op_fields IsOp op_of op_takes op_again

pub request_reads : Reads read_request request IsRequest
unfolding read_request
request_reads = fitting read_request request
    (λ (r : RequestValue). IsClient r.client × (IsCount r.number × IsOp r.op)) IsRequest (λ r f. (f.0, f.1.0, f.1.1))
    (λ r f. (f.0, (f.1, f.2)))
    (made_reads (λ (r : ℕ × (ℕ × Op)). let x : RequestValue = record { client = r.0; number = r.1.0; op = r.1.1 } in x)
    (λ (r : RequestValue). (r.client, (r.number, r.op))) (λ x. refl) (λ y. refl) _ _ _
    (both_reads read_client two IsClient _ _ _ client_reads
    (both_reads read_count eight IsCount read_op op IsOp count_reads op_reads)))

command_takes : TakesKinds command_tag command_fields IsCommand command_of
unfolding command_of
command_takes =
    bare_takes command_tag command_fields IsCommand 0 Noop refl refl tt _
    (kind_takes command_tag command_fields IsCommand 1 Request read_request request IsRequest request_reads
    (λ y. refl) (λ y. refl) (λ y f. f) _
    (no_kind_takes command_tag command_fields IsCommand))

command_again : (c : Command) (rest : List ℕ) → IsCommand c
    → command_of (command_tag c) (command_fields c ++ rest) ≡ Some (c, rest)
unfolding command_of
command_again Noop rest fits = refl
command_again (Request r) rest fits = rw (request_reads.again r rest fits) refl

pub command_reads : Reads read_command command IsCommand
command_reads = tagged_reads command_tag command_fields IsCommand command_of command_takes command_again

-- ---- votes and pairs

pub vote_reads : Reads read_vote vote IsVote
unfolding read_vote
vote_reads = fitting read_vote vote (λ (v : Vote). IsCount v.position × (IsRealBallot v.ballot
    × IsCommand v.command)) IsVote
    (λ v f. (f.0, f.1.0, f.1.1)) (λ v f. (f.0, (f.1, f.2)))
    (made_reads (λ (v : ℕ × (BallotValue × Command)). let x : Vote =
    record { position = v.0; ballot = v.1.0; command = v.1.1 } in x)
    (λ (v : Vote). (v.position, (v.ballot, v.command))) (λ x. refl) (λ y. refl) _ _ _
    (both_reads read_count eight IsCount _ _ _ count_reads
    (both_reads read_ballot ballot IsRealBallot read_command command IsCommand ballot_reads command_reads)))

pub pair_reads : Reads read_pair pair (λ (p : ℕ × Command). IsCount p.0 × IsCommand p.1)
unfolding read_pair
pair_reads = both_reads read_count eight IsCount read_command command IsCommand count_reads command_reads

-- ---- answers

abbrev IsHolder : ℕ × ℕ → Type 0
IsHolder h = IsClient h.0 × IsCount h.1

abbrev holder : ℕ × ℕ → List ℕ
holder h = two h.0 ++ eight h.1

held_reads : Reads read_held holder IsHolder
held_reads = both_reads read_client two IsClient read_count eight IsCount client_reads count_reads

sharer_count_reads : Reads read_sharer_count one IsSharerCount
unfolding read_sharer_count
sharer_count_reads = ranged_reads 8 256 (omega arith) read_byte one byte_reads

abbrev IsSharing : ℕ × ℕ → Type 0
IsSharing h = IsSharerCount h.0 × IsCount h.1

abbrev sharing : ℕ × ℕ → List ℕ
sharing h = one h.0 ++ eight h.1

sharing_reads : Reads read_sharing sharing IsSharing
sharing_reads = both_reads read_sharer_count one IsSharerCount read_count eight IsCount sharer_count_reads count_reads

one_more : (k : ℕ) (a : Answer) → answer_tag a ≡ k → answer_fields a ≡ [] → IsAnswer a
    → (q : ℕ → List ℕ → Option (Answer × List ℕ)) → TakesKinds answer_tag answer_fields IsAnswer q
    → TakesKinds answer_tag answer_fields IsAnswer (kind k (bare a) q)
one_more = bare_takes answer_tag answer_fields IsAnswer

bare_answer_takes : TakesKinds answer_tag answer_fields IsAnswer bare_answer
unfolding bare_answer
bare_answer_takes =
    one_more 3 Released refl refl tt _
    (one_more 4 NotHeld refl refl tt _
    (one_more 7 Valid refl refl tt _
    (one_more 8 Stale refl refl tt _
    (one_more 9 NoRoom refl refl tt _
    (one_more 10 Bad refl refl tt _
    (one_more 11 Spent refl refl tt _
    (one_more 14 Broken refl refl tt _
    (one_more 32 Joined refl refl tt _
    (one_more 33 Used refl refl tt _
    (one_more 34 Full refl refl tt _
    (one_more 35 Left refl refl tt _
    (one_more 36 NotMember refl refl tt _
    (one_more 37 Last refl refl tt _
    (one_more 38 Raised refl refl tt _
    (one_more 39 AlreadyRaised refl refl tt _
    (no_kind_takes answer_tag answer_fields IsAnswer))))))))))))))))

answer_takes : TakesKinds answer_tag answer_fields IsAnswer answer_of
unfolding answer_of
answer_takes =
    kind_takes answer_tag answer_fields IsAnswer 1 Granted read_count eight IsCount count_reads
    (λ y. refl) (λ y. refl) (λ y f. f) _
    (kind_takes answer_tag answer_fields IsAnswer 2 (λ (h : ℕ × ℕ). Busy h.0 h.1) read_held holder IsHolder held_reads
    (λ y. refl) (λ y. refl) (λ y f. f) _
    (kind_takes answer_tag answer_fields IsAnswer 5 Free read_total eight IsTotal total_reads
    (λ y. refl) (λ y. refl) (λ y f. f) _
    (kind_takes answer_tag answer_fields IsAnswer 6 (λ (h : ℕ × ℕ). Held h.0 h.1) read_held holder IsHolder held_reads
    (λ y. refl) (λ y. refl) (λ y f. f) _
    (kind_takes answer_tag answer_fields IsAnswer 12 Shared read_count eight IsCount count_reads
    (λ y. refl) (λ y. refl) (λ y f. f) _
    (kind_takes answer_tag answer_fields IsAnswer 13
    (λ (h : ℕ × ℕ). HeldShared h.0 h.1) read_sharing sharing IsSharing sharing_reads
    (λ y. refl) (λ y. refl) (λ y f. f) _
    bare_answer_takes)))))

answer_again : (a : Answer) (rest : List ℕ) → IsAnswer a
    → answer_of (answer_tag a) (answer_fields a ++ rest) ≡ Some (a, rest)
unfolding answer_of bare_answer
answer_again (Granted fence) rest fits = rw (count_reads.again fence rest fits) refl
answer_again (Busy client fence) rest fits = rw (held_reads.again (client, fence) rest fits) refl
answer_again Released rest fits = refl
answer_again NotHeld rest fits = refl
answer_again (Free fence) rest fits = rw (total_reads.again fence rest fits) refl
answer_again (Held client fence) rest fits = rw (held_reads.again (client, fence) rest fits) refl
answer_again Valid rest fits = refl
answer_again Stale rest fits = refl
answer_again NoRoom rest fits = refl
answer_again Bad rest fits = refl
answer_again Spent rest fits = refl
answer_again (Shared fence) rest fits = rw (count_reads.again fence rest fits) refl
answer_again (HeldShared count fence) rest fits = rw (sharing_reads.again (count, fence) rest fits) refl
answer_again Broken rest fits = refl
answer_again Joined rest fits = refl
answer_again Used rest fits = refl
answer_again Full rest fits = refl
answer_again Left rest fits = refl
answer_again NotMember rest fits = refl
answer_again Last rest fits = refl
answer_again Raised rest fits = refl
answer_again AlreadyRaised rest fits = refl

pub answer_reads : Reads read_answer answer IsAnswer
answer_reads = tagged_reads answer_tag answer_fields IsAnswer answer_of answer_takes answer_again
