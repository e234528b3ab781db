-- What a client that waits for a lock sends, and what it returns.
use Rattle.std.specs.Prelude.{◌≡◌, ◌⊎◌, ◌+◌, ◌≤◌, ℕ, zero, suc, Bool, true, false, Option, Some, None, IfSome}
use Rattle.std.specs.Prelude.{IsSomeAnd, List, ◌++◌}
use Rattle.std.specs.List.{AllByRecursion}
use Rattle.std.specs.declared.net.socket_addr.SocketAddr.{SocketAddr}
use Rattle.lk_types.specs.declared.answer.Answer.{Answer}
use Rattle.lk_types.specs.declared.answer.Answer.TheVariants as answer
use Rattle.lk_types.specs.declared.command.Op.{Op}
use Rattle.lk_types.specs.declared.command.Op.TheVariants.{Table, Join, Leave, Raise}
use Rattle.lk_locks.specs.Bodies.{SpellsBody}
use Rattle.lk_locks.specs.declared.body.Body.TheVariants as body
use Rattle.lk_watch.specs.declared.ticket.Mode.{Mode}
use Rattle.lk_watch.specs.declared.ticket.Mode.TheVariants.{Exclusive, Share}
use Rattle.lk_watch.specs.declared.watch.Watch.{Watch}
use Rattle.lk_transport.specs.Streams.{Receives, ReceivesAll, Stream, next_of}
use Rattle.lk_client.specs.Questions.{HearsNext, IsAsked, IsFinal, ended_by}
use Rattle.lk_client.specs.Rules.{IsReplied}
use Rattle.lk_client.specs.Watches.{IsWatched}
use Rattle.lk_client.specs.declared.question.Heard.{Heard}
use Rattle.lk_client.specs.declared.question.Question.{Question}
use Rattle.lk_client.specs.declared.reply.Reply.{Reply as ReplyValue}
use Rattle.lk_client.specs.declared.reply.Reply.TheVariants.{Answer as Answered, Passed, Elsewhere}
use Rattle.lk_client.specs.declared.attempts.Step.{Step}
use Rattle.lk_client.specs.declared.attempts.Step.TheVariants.{Again, Over}

-- ---- what a client asks for and watches

-- the bytes of an op ask to hold this lock so
abbrev pub AsksToHold : Mode → List ℕ → List ℕ → Type 0
AsksToHold Exclusive name bytes = SpellsBody (body.Acquire name) bytes
AsksToHold Share name bytes = SpellsBody (body.Share name) bytes

-- the op asks for this lock
abbrev pub AsksFor : Op → Mode → List ℕ → Type 0
AsksFor (Table bytes) mode name = AsksToHold mode name bytes
AsksFor (Join node port) mode name = ⊥
AsksFor (Leave node) mode name = ⊥
AsksFor Raise mode name = ⊥

-- the watch is one of the client of the question, for the lock that this asks for
abbrev pub WatchesFor : Question → Watch → Type 0
WatchesFor q w = (w.cluster ≡ q.cluster) × (w.ticket.client ≡ q.request.client)
    × AsksFor q.request.op w.ticket.mode w.ticket.name

-- the bytes are those of such a watch
abbrev pub IsWatchOf : Question → List ℕ → Type 0
IsWatchOf q bytes = (w : Watch) × WatchesFor q w × IsWatched q.destination.seals w bytes

-- the same question, under this number
abbrev pub numbered : ℕ → Question → Question
numbered n q = record q { request = record q.request { number = n } }

-- ---- what it sends

-- each datagram sent since then has such bytes
pub record SendsAll (Is : List ℕ → Type 0) (old new : List (SocketAddr × List ℕ)) : Type 0 where
  pub more : List (SocketAddr × List ℕ)
  pub behind : new ≡ old ++ more
  pub all : AllByRecursion (λ (d : SocketAddr × List ℕ). Is d.1) more

-- a watch, from a client that watches
abbrev pub IsOwnWatch : Bool → Question → List ℕ → Type 0
IsOwnWatch is_watching q bytes = (is_watching ≡ true) × IsWatchOf q bytes

-- the request, or such a watch
abbrev pub IsAskedOrWatch : Bool → Question → List ℕ → Type 0
IsAskedOrWatch is_watching q bytes = IsAsked q bytes ⊎ IsOwnWatch is_watching q bytes

-- the request under a number from that of the question up to this one, or a watch
abbrev pub IsTryOrWatch : Question → ℕ → List ℕ → Type 0
IsTryOrWatch q last bytes =
    ((n : ℕ) × (q.request.number ≤ n) × (n ≤ last) × IsAsked (numbered n q) bytes) ⊎ IsWatchOf q bytes

-- ---- what it is told

-- another client holds the lock, at this fence
abbrev pub IsBusyAnswerAt : ℕ → ℕ → Answer → Type 0
IsBusyAnswerAt client fence (answer.Busy holder at) = (holder ≡ client → ⊥) × (at ≡ fence)
IsBusyAnswerAt client fence _ = ⊥

abbrev pub IsBusyAt : ℕ → ℕ → ReplyValue → Type 0
IsBusyAt client fence (Answered a) = IsBusyAnswerAt client fence a
IsBusyAt client fence (Passed last) = ⊥
IsBusyAt client fence (Elsewhere m) = ⊥

-- another client holds it, at some fence
abbrev pub IsBusyAnswer : ℕ → Answer → Type 0
IsBusyAnswer client (answer.Busy holder fence) = holder ≡ client → ⊥
IsBusyAnswer client _ = ⊥

abbrev pub IsBusy : ℕ → ReplyValue → Type 0
IsBusy client (Answered a) = IsBusyAnswer client a
IsBusy client (Passed last) = ⊥
IsBusy client (Elsewhere m) = ⊥

-- the client holds the lock
abbrev pub IsGrantAnswer : Answer → Type 0
IsGrantAnswer (answer.Granted fence) = Unit {0}
IsGrantAnswer (answer.Shared fence) = Unit {0}
IsGrantAnswer _ = ⊥

abbrev pub IsGrant : ReplyValue → Type 0
IsGrant (Answered a) = IsGrantAnswer a
IsGrant (Passed last) = ⊥
IsGrant (Elsewhere m) = ⊥

-- the reply with which a wait is over, if there is one, is an Answer or a Passed
abbrev pub IsFinalStep : Step → Type 0
IsFinalStep (Again number) = Unit {0}
IsFinalStep (Over told) = IfSome told IsFinal

-- ---- what its receives find

-- what a receive finds ends the request with this reply, or, with `None`, does not end it
abbrev pub Tells : Question → Option ReplyValue → Option (SocketAddr × List ℕ) → Type 0
Tells q told found = (heard : Heard) × HearsNext q found heard × (told ≡ ended_by heard)

-- nothing that its receives found ended the request
abbrev pub HearsInVain : Question → Stream → Stream → Type 0
HearsInVain q old new =
    (found : List (Option (SocketAddr × List ℕ))) × AllByRecursion (Tells q None) found × ReceivesAll found old new

-- the same; or, with a reply, only what the last one found did, and gave that
abbrev pub HearsUntil : Question → Option ReplyValue → Stream → Stream → Type 0
HearsUntil q None old new = HearsInVain q old new
HearsUntil q (Some reply) old new =
    (mid : Stream) × HearsInVain q old mid × (last : Option (SocketAddr × List ℕ)) × Tells q (Some reply) last
    × Receives last mid new

-- ---- a wait

-- the number is not the first one
abbrev pub is_later : ℕ → Bool
is_later zero = false
is_later (suc count) = true

-- what a kind of socket has sent, and what its receives find from now on; and a client at such a socket
module _ {S : Type 0} (sent : S → List (SocketAddr × List ℕ)) (incoming : S → Stream) where
  -- what is returned is what a datagram says, after which nothing was sent
  abbrev pub EndsWith : Question → Option ReplyValue → S → Type 0
  EndsWith q told new = IfSome told (λ (reply : ReplyValue). IsReplied sent (next_of incoming) q reply new)

  -- the client has sent its request and, if it watches, watches, and nothing else. It returns the first reply that ends
  -- the request, or, if it gives up, none came
  pub record Asks (is_watching : Bool) (q : Question) (told : Option ReplyValue) (old new : S) : Type 0 where
    pub sends : SendsAll (IsAskedOrWatch is_watching q) (sent old) (sent new)
    pub hears : HearsUntil q told (incoming old) (incoming new)
    pub ends : EndsWith q told new

  -- it was told that another client holds the lock, and then has sent watches alone
  pub record AsksInVain (is_watching : Bool) (q : Question) (old new : S) : Type 0 where
    pub reply : ReplyValue
    pub is_busy : IsBusy q.request.client reply
    pub told_on : S
    pub asks : Asks is_watching q (Some reply) old told_on
    pub watches : SendsAll (IsWatchOf q) (sent told_on) (sent new)

  -- it returns what it was told. Then it has sent watches alone, and nothing if it was told of a grant
  pub record Concludes (is_watching : Bool) (q : Question) (told : Option ReplyValue) (old new : S) : Type 0 where
    pub told_on : S
    pub asks : Asks is_watching q told old told_on
    pub watches : SendsAll (IsWatchOf q) (sent told_on) (sent new)
    pub granted : IsSomeAnd told IsGrant → sent new ≡ sent told_on

  -- under one number: it asks in vain, and then asks again; or the wait is over
  abbrev pub TriesOnce : Bool → Question → Step → S → S → Type 0
  TriesOnce is_watching q (Again number) old new = AsksInVain is_watching q old new
  TriesOnce is_watching q (Over told) old new = Concludes is_watching q told old new

  -- it asked in vain under this many numbers, one after another, from that of the question on. It watches from the
  -- second one on
  abbrev pub TriesInVain : Question → ℕ → S → S → Type 0
  TriesInVain q zero old new = new ≡ old
  TriesInVain q (suc count) old new =
      (mid : S) × TriesInVain q count old mid
      × AsksInVain (is_later count) (numbered (q.request.number + count) q) mid new

  -- a client that waits, up to this number: it asked in vain under each one before that, and then concludes
  pub record Waits (q : Question) (last : ℕ) (told : Option ReplyValue) (old new : S) : Type 0 where
    pub count : ℕ
    pub is : last ≡ q.request.number + count
    pub begun_on : S
    pub in_vain : TriesInVain q count old begun_on
    pub concludes : Concludes (is_later count) (numbered last q) told begun_on new

  -- it was told something, or nothing
  abbrev pub EndsWait : Question → ℕ → Bool → S → S → Type 0
  EndsWait q last true old new = (reply : ReplyValue) × IsFinal reply × Waits q last (Some reply) old new
  EndsWait q last false old new = Waits q last None old new
