-- What a list of commands leaves: the plain lock table and the members, which requests take effect, and their answers;
-- and what a node keeps of a list that it has executed.
use Rattle.std.specs.Prelude.{◌≡◌, ℕ, zero, suc, ◌+◌, ◌-◌, ◌<◌, ◌≤◌, max, Bool, true, false, not, ◌&&◌, ◌==◌, nat_lt}
use Rattle.std.specs.Prelude.{nat_le, if◌then◌else◌, Option, Some, None, List, [], ◌∷◌, ◌++◌, length, take, fold}
use Rattle.std.specs.Prelude.{filter, slice_get, Contains, IsTrue}
use Rattle.std.specs.List.{list_any}
use Rattle.std.specs.Ordering.{nat_cmp}
use Rattle.std.specs.Cmp.Lexicographic.{slice_cmp}
use Rattle.std.specs.FinMap as map
use Rattle.lk_types.specs.declared.answer.Answer.{Answer}
use Rattle.lk_types.specs.declared.answer.Answer.TheVariants.{Granted, Busy, Released, NotHeld, Free, Held, Valid}
use Rattle.lk_types.specs.declared.answer.Answer.TheVariants.{Stale, NoRoom, Bad, Spent, Shared, HeldShared, Broken}
use Rattle.lk_types.specs.declared.answer.Answer.TheVariants.{Joined, Used, Full, Left, NotMember, Last, Raised}
use Rattle.lk_types.specs.declared.answer.Answer.TheVariants.{AlreadyRaised}
use Rattle.lk_types.specs.declared.command.Command.{Command}
use Rattle.lk_types.specs.declared.command.Command.TheVariants.{Noop, Request}
use Rattle.lk_types.specs.declared.command.Op.{Op}
use Rattle.lk_types.specs.declared.command.Op.TheVariants.{Table, Join, Leave, Raise}
use Rattle.lk_types.specs.declared.command.Request.{Request as Asking}
use Rattle.lk_types.specs.declared.genesis.Genesis.{Genesis}
use Rattle.lk_types.specs.declared.member.Member.{Member}
use Rattle.lk_state.specs.declared.session.Session.{Session}
use Rattle.lk_locks.specs.Bodies.{body_of}
use Rattle.lk_locks.specs.Packed.{table_text}
use Rattle.lk_locks.specs.Plain.{Table as TableValue}
use Rattle.lk_locks.specs.declared.body.Body.{Body}
use Rattle.lk_locks.specs.declared.body.Body.TheVariants.{Acquire, Release, Ask, Check, Share, Break}
use Rattle.lk_locks.specs.declared.lock_entry.Holders.{Holders}
use Rattle.lk_locks.specs.declared.lock_entry.Holders.TheVariants.{Nobody, ExclusiveHold, SharedHold}
use Rattle.lk_locks.specs.declared.lock_entry.LockEntry.{LockEntry as Lock}

-- ---- the plain lock table

-- each name that was ever given, with its last fence and its holders: nobody, one client alone, or one to eight
-- clients together, in rising order
abbrev pub Locks : Type 0
Locks = map.FinMap (slice_cmp nat_cmp) Lock

-- the name is held like this, at this fence
abbrev pub hold : List ℕ → ℕ → Holders → Locks → Locks
hold name fence holders locks = map.insert locks name (record { fence = fence; holders = holders })

-- a free name is given at the fence after its last one, while there are fences up to 2^48. (A number that rises with
-- each grant, which a holder shows to whoever must not serve an earlier one: "sequencers" in Burrows, The Chubby lock
-- service, 2006.)
abbrev pub give_again : (ℕ → Answer) → Holders → List ℕ → ℕ → Locks → Answer × Locks
give_again given holders name last locks =
    if nat_lt last 281474976710656 then (given (last + 1), hold name (last + 1) holders locks) else (Spent, locks)

-- a new name is given at fence 1, while there is room for 512 names
abbrev pub give_first : (ℕ → Answer) → Holders → List ℕ → Locks → Answer × Locks
give_first given holders name locks =
    if nat_lt (map.len locks) 512 then (given 1, hold name 1 holders locks) else (NoRoom, locks)

-- the first of the clients: as they rise, the least
abbrev pub first : List ℕ → ℕ
first [] = 0
first (c ∷ cs) = c

-- Acquire: gives a free name or a new one to one client alone
abbrev pub acquire_known : ℕ → List ℕ → ℕ → Holders → Locks → Answer × Locks
acquire_known client name last Nobody locks = give_again Granted (ExclusiveHold client) name last locks
acquire_known client name last (ExclusiveHold holder) locks = (Busy holder last, locks)
acquire_known client name last (SharedHold clients) locks = (Busy (first clients) last, locks)

abbrev pub acquire : ℕ → List ℕ → Option Lock → Locks → Answer × Locks
acquire client name None locks = give_first Granted (ExclusiveHold client) name locks
acquire client name (Some lock) locks = acquire_known client name lock.fence lock.holders locks

-- is the client one of these?
abbrev pub is_one_of : ℕ → List ℕ → Bool
is_one_of client clients = list_any (λ c. c == client) clients

-- the clients and one more, who is none of them, in rising order
abbrev pub adding_client : ℕ → List ℕ → List ℕ
adding_client client [] = client ∷ []
adding_client client (c ∷ cs) = if nat_lt c client then c ∷ adding_client client cs else client ∷ c ∷ cs

-- Share: gives a free name or a new one to a client as Acquire does, but others may join; or the client joins those
-- who hold the name together, at their fence, while they are fewer than eight
abbrev pub share_known : ℕ → List ℕ → ℕ → Holders → Locks → Answer × Locks
share_known client name last Nobody locks = give_again Shared (SharedHold (client ∷ [])) name last locks
share_known client name last (ExclusiveHold holder) locks = (Busy holder last, locks)
share_known client name last (SharedHold clients) locks =
    if is_one_of client clients then (Shared last, locks)
    else if nat_lt (length clients) 8 then (
      Shared last,
      hold name last
          (SharedHold (adding_client client clients)) locks,
    )
    else (Busy (first clients) last, locks)

abbrev pub share : ℕ → List ℕ → Option Lock → Locks → Answer × Locks
share client name None locks = give_first Shared (SharedHold (client ∷ [])) name locks
share client name (Some lock) locks = share_known client name lock.fence lock.holders locks

abbrev pub is_free : Holders → Bool
is_free Nobody = true
is_free (ExclusiveHold holder) = false
is_free (SharedHold clients) = false

abbrev pub is_held_by : ℕ → Holders → Bool
is_held_by client Nobody = false
is_held_by client (ExclusiveHold holder) = holder == client
is_held_by client (SharedHold clients) = is_one_of client clients

-- nobody, if none is left
abbrev pub those : List ℕ → Holders
those [] = Nobody
those (c ∷ cs) = SharedHold (c ∷ cs)

-- who holds a name after one of its holders has left
abbrev pub without : ℕ → Holders → Holders
without client Nobody = Nobody
without client (ExclusiveHold holder) = Nobody
without client (SharedHold clients) = those (filter (λ c. not (c == client)) clients)

-- Release: whoever holds the name at this fence holds it no longer. The fence is kept, so that it is given once
abbrev pub release : ℕ → List ℕ → ℕ → Option Lock → Locks → Answer × Locks
release client name fence None locks = (NotHeld, locks)
release client name fence (Some lock) locks =
    if is_held_by client lock.holders && lock.fence == fence
    then (Released, hold name fence (without client lock.holders) locks)
    else (NotHeld, locks)

-- somebody holds the name at this fence
abbrev pub is_held_at : ℕ → Option Lock → Bool
is_held_at fence None = false
is_held_at fence (Some lock) = not (is_free lock.holders) && lock.fence == fence

-- Break: whoever holds the name at this fence, alone or together, holds it no longer
abbrev pub break_lock : List ℕ → ℕ → Option Lock → Locks → Answer × Locks
break_lock name fence lock locks =
    if is_held_at fence lock then (Broken, hold name fence Nobody locks) else (Stale, locks)

-- Ask: who holds the name at which fence, or its last fence
abbrev pub told_of : ℕ → Holders → Answer
told_of last Nobody = Free last
told_of last (ExclusiveHold holder) = Held holder last
told_of last (SharedHold clients) = HeldShared (length clients) last

abbrev pub asks : Option Lock → Answer
asks None = Free 0
asks (Some lock) = told_of lock.fence lock.holders

-- Check: the name is held at this fence
abbrev pub checks : ℕ → Option Lock → Answer
checks fence lock = if is_held_at fence lock then Valid else Stale

-- the answer to a client, and the locks after that. Only a raised table knows Share and Break
abbrev pub use_locks : ℕ → Bool → Option Body → Locks → Answer × Locks
use_locks client raised None locks = (Bad, locks)
use_locks client raised (Some (Acquire name)) locks = acquire client name (map.get locks name) locks
use_locks client raised (Some (Release name fence)) locks = release client name fence (map.get locks name) locks
use_locks client raised (Some (Ask name)) locks = (asks (map.get locks name), locks)
use_locks client raised (Some (Check name fence)) locks = (checks fence (map.get locks name), locks)
use_locks client raised (Some (Share name)) locks =
    if raised then share client name (map.get locks name) locks else (Bad, locks)
use_locks client raised (Some (Break name fence)) locks =
    if raised then break_lock name fence (map.get locks name) locks else (Bad, locks)

-- ---- the state after a list of commands

pub record State : Type 0 where
  -- how many commands there were
  pub position : ℕ
  -- for each client the least number that its next request needs to take effect
  pub least : ℕ → ℕ
  -- the members; the greatest number that was ever a member's; and the position of the last join or leave that was
  -- granted, 0 if none
  pub members : List Member
  pub greatest : ℕ
  pub changed : ℕ
  -- whether the lock table was raised, which it stays; and the locks
  pub raised : Bool
  pub locks : Locks

-- the lock table of this state
abbrev pub table : State → TableValue
table s = record { raised = s.raised; names = s.locks }

abbrev pub greatest_of : List Member → ℕ
greatest_of [] = 0
greatest_of (m ∷ rest) = max m.node (greatest_of rest)

-- no client has asked, the members are those of the genesis, the table was not raised, and no name was given
abbrev pub begin : Genesis → State
begin genesis = record {
  position = 0;
  least = λ client. 0;
  members = genesis.members;
  greatest = greatest_of genesis.members;
  changed = 0;
  raised = false;
  locks = map.empty;
}

-- a node whose number is above those of all members so far becomes a member, while there are fewer than seven
abbrev pub join : ℕ → ℕ → State → Answer × State
join node port s =
    if nat_le node s.greatest then (Used, s)
    else if nat_le 7 (length s.members) then (Full, s)
    else (
      Joined,
      record s {
        members = s.members ++ record { node = node; port = port } ∷ [];
        greatest = node;
        changed = s.position + 1;
      },
    )

-- a member leaves, unless it is the only one
abbrev pub leave : ℕ → State → Answer × State
leave node s =
    if list_any (λ m. m.node == node) s.members then
    (if length (filter (λ m. not (m.node == node)) s.members) == 0 then (Last, s)
    else (Left, record s { members = filter (λ m. not (m.node == node)) s.members; changed = s.position + 1 }))
    else (NotMember, s)

-- the lock table is raised, once and for all
abbrev pub raise : State → Answer × State
raise s = if s.raised then (AlreadyRaised, s) else (Raised, record s { raised = true })

-- the answer to a request, and the state after that
abbrev pub execute : ℕ → Op → State → Answer × State
execute client (Table body) s = (
  (use_locks client s.raised (body_of body) s.locks).0,
  record s { locks = (use_locks client s.raised (body_of body) s.locks).1 },
)
execute client (Join node port) s = join node port s
execute client (Leave node) s = leave node s
execute client Raise s = raise s

-- a request takes effect if its number is above all that its client has used: so a number takes effect once
abbrev pub takes_effect : State → Asking → Bool
takes_effect s r = nat_le (s.least r.client) r.number

abbrev pub used : Asking → State → State
used r s = record s { least = λ client. if client == r.client then r.number + 1 else s.least client }

-- a no-op changes nothing, nor does a request that takes no effect
abbrev pub effect : State → Command → State
effect s Noop = s
effect s (Request r) = if takes_effect s r then used r (execute r.client r.op s).1 else s

abbrev pub after_one : State → Command → State
after_one s c = record (effect s c) { position = s.position + 1 }

-- the state that a list leaves. (A state machine that executes the chosen commands in order: Lamport, Paxos Made
-- Simple, 2001, section 3)
unfoldable pub after : Genesis → List Command → State
after genesis L = fold after_one (begin genesis) L

-- the request is in the list, takes effect there, and gets this answer from what the entries before it leave
pub record GivesAnswer (genesis : Genesis) (L : List Command) (client number : ℕ) (answer : Answer) : Type 0 where
  pub before : List Command
  pub request : Asking
  pub later : List Command
  pub stands : L ≡ before ++ (Request request ∷ later)
  pub of_client : request.client ≡ client
  pub of_number : request.number ≡ number
  pub is_effective : IsTrue (takes_effect (after genesis before) request)
  pub answered : (execute client request.op (after genesis before)).0 ≡ answer

-- ---- positions, and their members

-- the command at position i. Positions count from 1
abbrev pub at : List Command → ℕ → Option Command
at L zero = None
at [] (suc i) = None
at (c ∷ L) (suc zero) = Some c
at (c ∷ L) (suc (suc i)) = at L (suc i)

-- the request is at position i, and takes effect there
abbrev pub TakesEffectAt : Genesis → List Command → ℕ → Asking → Type 0
TakesEffectAt genesis L i r = (at L i ≡ Some (Request r)) × IsTrue (takes_effect (after genesis (take (i - 1) L)) r)

-- each number of a client takes effect at most at one position
abbrev pub TakesEffectOnce : Genesis → List Command → Type 0
TakesEffectOnce genesis L =
    (i j : ℕ) (q r : Asking) → TakesEffectAt genesis L i q → TakesEffectAt genesis L j r → q.client ≡ r.client
    → q.number ≡ r.number → i ≡ j

-- the members that decide position i: those that the entries up to alpha positions earlier leave. (Lamport, Paxos Made
-- Simple, 2001, section 3; Lamport, Malkhi, Zhou, Reconfiguring a State Machine, 2010)
abbrev pub members : Genesis → List Command → ℕ → List Member
members genesis L i = (after genesis (take (i - genesis.alpha) L)).members

abbrev pub changes : Op → Bool
changes (Table body) = false
changes (Join node port) = true
changes (Leave node) = true
changes Raise = false

-- the command asks to join or to leave
abbrev pub asks_change : Command → Bool
asks_change Noop = false
asks_change (Request r) = changes r.op

-- a list in which nobody asks to join or to leave names the members of the genesis at each position
abbrev pub FixedUnlessChanged : Genesis → List Command → Type 0
FixedUnlessChanged genesis L = list_any asks_change L ≡ false → (i : ℕ) → members genesis L i ≡ genesis.members

-- ---- what is kept of a list

-- what a node keeps of the commands that it has executed: how many there were, the members of the next positions, the
-- greatest number that was ever a member's, the position of the last change, for each client its last request with the
-- answer, and the text of the lock table
pub record Kept : Type 0 where
  pub executed : ℕ
  pub incoming : List (List Member)
  pub greatest : ℕ
  pub changed : ℕ
  pub sessions : List Session
  pub locks : List ℕ

-- this is kept of this list
pub record IsKeptOf (genesis : Genesis) (L : List Command) (kept : Kept) : Type 0 where
  pub executed : kept.executed ≡ length L
  -- the members of the next alpha positions
  pub as_many : length kept.incoming ≡ genesis.alpha
  pub incoming : (k : ℕ) → k < genesis.alpha → slice_get kept.incoming k ≡ Some (members genesis L (length L + 1 + k))
  pub greatest : kept.greatest ≡ (after genesis L).greatest
  pub changed : kept.changed ≡ (after genesis L).changed
  -- for each client that has asked, in rising order, its request of greatest number, and the answer to that
  pub answers : (s : Session) → Contains kept.sessions s → GivesAnswer genesis L s.client s.number s.answer
  pub last : (s : Session) → Contains kept.sessions s → (r : Asking) → Contains L (Request r)
      → r.client ≡ s.client → r.number ≤ s.number
  pub clients : (r : Asking) → Contains L (Request r) → (s : Session) × Contains kept.sessions s × (s.client ≡ r.client)
  pub rise : (k : ℕ) (s t : Session) → slice_get kept.sessions k ≡ Some s
      → slice_get kept.sessions (k + 1) ≡ Some t → s.client < t.client
  -- the plain table
  pub locks : kept.locks ≡ table_text (table (after genesis L))
