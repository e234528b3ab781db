-- The parser of each field.
use Rattle.std.specs.Prelude.{ℕ, Bool, List, length, Option, nat_le, ◌&&◌, ◌||◌, ◌==◌}
use Rattle.std.specs.Int.{w16, w32, w64}
use Rattle.lk_types.specs.Limits.{max_count, max_node, max_client, max_port, max_members, max_payload, max_sharers}
use Rattle.lk_types.specs.BallotValue.{BallotValue}
use Rattle.lk_types.specs.Rosters.{members_rise}
use Rattle.lk_types.specs.declared.answer.Answer.{Answer}
use Rattle.lk_types.specs.declared.answer.Answer.TheVariants.{Granted, Busy, Released, NotHeld, Free, Held, Valid}
use Rattle.lk_types.specs.declared.answer.Answer.TheVariants.{Stale, NoRoom, Bad, Spent, Shared, HeldShared, Broken}
use Rattle.lk_types.specs.declared.answer.Answer.TheVariants.{Joined, Used, Full, Left, NotMember, Last, Raised}
use Rattle.lk_types.specs.declared.answer.Answer.TheVariants.{AlreadyRaised}
use Rattle.lk_types.specs.declared.command.Op.{Op}
use Rattle.lk_types.specs.declared.command.Op.TheVariants.{Table, Join, Leave, Raise}
use Rattle.lk_types.specs.declared.command.Request.{Request as RequestValue}
use Rattle.lk_types.specs.declared.command.Command.{Command}
use Rattle.lk_types.specs.declared.command.Command.TheVariants.{Noop, Request}
use Rattle.lk_types.specs.declared.member.Member.{Member}
use Rattle.lk_types.specs.declared.vote.Vote.{Vote}
use Rattle.lk_codec.specs.Parser.{read_byte, read_number, sized, both, made, tested, counted, tagged, kind, bare}
use Rattle.lk_codec.specs.Parser.{no_kind}

abbrev pub is_from_1_to : ℕ → ℕ → Bool
is_from_1_to most n = nat_le 1 n && nat_le n most

unfoldable pub read_two : List ℕ → Option (ℕ × List ℕ)
read_two = read_number w16

unfoldable pub read_four : List ℕ → Option (ℕ × List ℕ)
read_four = read_number w32

unfoldable pub read_eight : List ℕ → Option (ℕ × List ℕ)
read_eight = read_number w64

unfoldable pub read_node : List ℕ → Option (ℕ × List ℕ)
read_node = tested (is_from_1_to max_node) read_four

unfoldable pub read_client : List ℕ → Option (ℕ × List ℕ)
read_client = tested (is_from_1_to max_client) read_two

unfoldable pub read_port : List ℕ → Option (ℕ × List ℕ)
read_port = tested (is_from_1_to max_port) read_two

unfoldable pub read_count : List ℕ → Option (ℕ × List ℕ)
read_count = tested (is_from_1_to max_count) read_eight

unfoldable pub read_total : List ℕ → Option (ℕ × List ℕ)
read_total = tested (λ n. nat_le n max_count) read_eight

unfoldable pub read_ballot : List ℕ → Option (BallotValue × List ℕ)
read_ballot = made (λ b. record { round = b.0; node = b.1 }) (both read_count read_node)

-- a real ballot, or the one below all
abbrev pub is_mark : BallotValue → Bool
is_mark b = is_from_1_to max_count b.round && is_from_1_to max_node b.node || b.round == 0 && b.node == 0

unfoldable pub read_any_ballot : List ℕ → Option (BallotValue × List ℕ)
read_any_ballot = tested is_mark (made (λ b. record { round = b.0; node = b.1 }) (both read_eight read_four))

unfoldable pub read_member : List ℕ → Option (Member × List ℕ)
read_member = made (λ m. record { node = m.0; port = m.1 }) (both read_node read_port)

-- 1 to 7 members, rising by node
unfoldable pub read_members : List ℕ → Option (List Member × List ℕ)
read_members = tested (members_rise 0) (counted (tested (is_from_1_to max_members) read_byte) read_member)

unfoldable pub read_payload : List ℕ → Option (List ℕ × List ℕ)
read_payload = tested (λ bytes. is_from_1_to max_payload (length bytes)) (sized read_byte)

-- the version to which a machine is raised: 2
unfoldable pub read_version : List ℕ → Option (Unit {0} × List ℕ)
read_version = tagged (kind 2 (bare tt) no_kind)

unfoldable pub op_of : ℕ → List ℕ → Option (Op × List ℕ)
op_of =
    kind 0 (made Table read_payload)
    (kind 1 (made (λ m. Join m.node m.port) read_member)
    (kind 2 (made Leave read_node)
    (kind 3 (made (λ _. Raise) read_version)
    no_kind)))

abbrev pub read_op : List ℕ → Option (Op × List ℕ)
read_op = tagged op_of

unfoldable pub read_request : List ℕ → Option (RequestValue × List ℕ)
read_request =
    made (λ r. record { client = r.0; number = r.1.0; op = r.1.1 }) (both read_client (both read_count read_op))

unfoldable pub command_of : ℕ → List ℕ → Option (Command × List ℕ)
command_of = kind 0 (bare Noop) (kind 1 (made Request read_request) no_kind)

abbrev pub read_command : List ℕ → Option (Command × List ℕ)
read_command = tagged command_of

unfoldable pub read_vote : List ℕ → Option (Vote × List ℕ)
read_vote = made (λ v. record { position = v.0; ballot = v.1.0; command = v.1.1 })
    (both read_count (both read_ballot read_command))

unfoldable pub read_pair : List ℕ → Option ((ℕ × Command) × List ℕ)
read_pair = both read_count read_command

-- the answers without fields
unfoldable pub bare_answer : ℕ → List ℕ → Option (Answer × List ℕ)
bare_answer =
    kind 3 (bare Released)
    (kind 4 (bare NotHeld)
    (kind 7 (bare Valid)
    (kind 8 (bare Stale)
    (kind 9 (bare NoRoom)
    (kind 10 (bare Bad)
    (kind 11 (bare Spent)
    (kind 14 (bare Broken)
    (kind 32 (bare Joined)
    (kind 33 (bare Used)
    (kind 34 (bare Full)
    (kind 35 (bare Left)
    (kind 36 (bare NotMember)
    (kind 37 (bare Last)
    (kind 38 (bare Raised)
    (kind 39 (bare AlreadyRaised)
    no_kind)))))))))))))))

-- the fields of the answers that name a holder and its fence
abbrev pub read_held : List ℕ → Option ((ℕ × ℕ) × List ℕ)
read_held = both read_client read_count

-- how many clients share a name
unfoldable pub read_sharer_count : List ℕ → Option (ℕ × List ℕ)
read_sharer_count = tested (is_from_1_to max_sharers) read_byte

-- the fields of the answer that has the count of sharers and the fence
abbrev pub read_sharing : List ℕ → Option ((ℕ × ℕ) × List ℕ)
read_sharing = both read_sharer_count read_count

unfoldable pub answer_of : ℕ → List ℕ → Option (Answer × List ℕ)
answer_of =
    kind 1 (made Granted read_count)
    (kind 2 (made (λ h. Busy h.0 h.1) read_held)
    (kind 5 (made Free read_total)
    (kind 6 (made (λ h. Held h.0 h.1) read_held)
    (kind 12 (made Shared read_count)
    (kind 13 (made (λ h. HeldShared h.0 h.1) read_sharing)
    bare_answer)))))

abbrev pub read_answer : List ℕ → Option (Answer × List ℕ)
read_answer = tagged answer_of
