-- The canonical bytes of each field. Numbers are big-endian.
use Rattle.std.specs.Prelude.{ℕ, List, [], ◌∷◌, ◌++◌, length}
use Rattle.std.specs.Int.{w16, w32, w64, to_be_bytes}
use Rattle.std.specs.List.{flat_map}
use Rattle.lk_types.specs.BallotValue.{BallotValue}
use Rattle.lk_types.specs.declared.answer.Answer.{Answer}
use Rattle.lk_types.specs.declared.answer.Answer.TheVariants.{Granted, Busy, Released, NotHeld, Free, Held, Valid}
use Rattle.lk_types.specs.declared.answer.Answer.TheVariants.{Stale, NoRoom, Bad, Spent, Shared, HeldShared, Broken}
use Rattle.lk_types.specs.declared.answer.Answer.TheVariants.{Joined, Used, Full, Left, NotMember, Last, Raised}
use Rattle.lk_types.specs.declared.answer.Answer.TheVariants.{AlreadyRaised}
use Rattle.lk_types.specs.declared.command.Op.{Op}
use Rattle.lk_types.specs.declared.command.Op.TheVariants.{Table, Join, Leave, Raise}
use Rattle.lk_types.specs.declared.command.Request.{Request as RequestValue}
use Rattle.lk_types.specs.declared.command.Command.{Command}
use Rattle.lk_types.specs.declared.command.Command.TheVariants.{Noop, Request}
use Rattle.lk_types.specs.declared.member.Member.{Member}
use Rattle.lk_types.specs.declared.vote.Vote.{Vote}

-- a number in one byte
abbrev pub one : ℕ → List ℕ
one n = n ∷ []

-- a number in two bytes: a client, a port
unfoldable pub two : ℕ → List ℕ
two n = to_be_bytes w16 n

-- a number in four bytes: a node
unfoldable pub four : ℕ → List ℕ
four n = to_be_bytes w32 n

-- a number in eight bytes: a round, a position, a request's number, a fence, a count of positions
unfoldable pub eight : ℕ → List ℕ
eight n = to_be_bytes w64 n

-- a ballot, possibly the one below all, which is twelve zero bytes
abbrev pub ballot : BallotValue → List ℕ
ballot b = eight b.round ++ four b.node

abbrev pub member : Member → List ℕ
member m = four m.node ++ two m.port

-- a set of members: how many, and then each
abbrev pub members : List Member → List ℕ
members ms = one (length ms) ++ flat_map member ms

-- the length, and then the bytes
abbrev pub payload : List ℕ → List ℕ
payload bytes = length bytes ∷ bytes

abbrev pub op_tag : Op → ℕ
op_tag (Table bytes) = 0
op_tag (Join node port) = 1
op_tag (Leave node) = 2
op_tag Raise = 3

-- a Raise is followed by the version to which the machine is raised, which is 2
abbrev pub op_fields : Op → List ℕ
op_fields (Table bytes) = payload bytes
op_fields (Join node port) = member (record { node = node; port = port })
op_fields (Leave node) = four node
op_fields Raise = one 2

abbrev pub op : Op → List ℕ
op o = op_tag o ∷ op_fields o

abbrev pub request : RequestValue → List ℕ
request r = two r.client ++ (eight r.number ++ op r.op)

abbrev pub command_tag : Command → ℕ
command_tag Noop = 0
command_tag (Request r) = 1

abbrev pub command_fields : Command → List ℕ
command_fields Noop = []
command_fields (Request r) = request r

abbrev pub command : Command → List ℕ
command c = command_tag c ∷ command_fields c

abbrev pub vote : Vote → List ℕ
vote v = eight v.position ++ (ballot v.ballot ++ command v.command)

-- a position and its command
abbrev pub pair : ℕ × Command → List ℕ
pair p = eight p.0 ++ command p.1

abbrev pub answer_tag : Answer → ℕ
answer_tag (Granted fence) = 1
answer_tag (Busy holder fence) = 2
answer_tag Released = 3
answer_tag NotHeld = 4
answer_tag (Free fence) = 5
answer_tag (Held holder fence) = 6
answer_tag Valid = 7
answer_tag Stale = 8
answer_tag NoRoom = 9
answer_tag Bad = 10
answer_tag Spent = 11
answer_tag (Shared fence) = 12
answer_tag (HeldShared count fence) = 13
answer_tag Broken = 14
answer_tag Joined = 32
answer_tag Used = 33
answer_tag Full = 34
answer_tag Left = 35
answer_tag NotMember = 36
answer_tag Last = 37
answer_tag Raised = 38
answer_tag AlreadyRaised = 39

abbrev pub answer_fields : Answer → List ℕ
answer_fields (Granted fence) = eight fence
answer_fields (Busy holder fence) = two holder ++ eight fence
answer_fields (Free fence) = eight fence
answer_fields (Held holder fence) = two holder ++ eight fence
answer_fields (Shared fence) = eight fence
answer_fields (HeldShared count fence) = one count ++ eight fence
answer_fields Released = []
answer_fields NotHeld = []
answer_fields Valid = []
answer_fields Stale = []
answer_fields NoRoom = []
answer_fields Bad = []
answer_fields Spent = []
answer_fields Broken = []
answer_fields Joined = []
answer_fields Used = []
answer_fields Full = []
answer_fields Left = []
answer_fields NotMember = []
answer_fields Last = []
answer_fields Raised = []
answer_fields AlreadyRaised = []

abbrev pub answer : Answer → List ℕ
answer a = answer_tag a ∷ answer_fields a
