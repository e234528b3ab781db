-- A client that asks in vain under one number after another, and what it has sent.
use Rattle.std.proofs.Common.{◌≡◌, ◌∙◌, ◌+◌, ◌≤◌, List, ℕ, zero, suc, Bool, true, false, Option, Some, None, Result}
use Rattle.std.proofs.Common.{Ok, Err, arith, ap, refl, sym, subst, inl, inr}
use Rattle.std.specs.Prelude.{◌↔◌, IfOk, IfSome, IsSomeAnd, OnErr}
use Rattle.std.specs.declared.net.socket_addr.SocketAddr.{SocketAddr}
use Rattle.lk_watch.specs.declared.watch.Watch.{Watch}
use Rattle.lk_client.specs.Questions.{Asker, IsAsked, IsFinal, Receives}
use Rattle.lk_client.specs.Rules.{SendsOnly}
use Rattle.lk_transport.specs.Streams.{Stream, next_of}
use Rattle.lk_client.specs.Waits.{Asks, AsksInVain, Concludes, EndsWait, EndsWith, IsAskedOrWatch, IsBusy, IsBusyAt}
use Rattle.lk_client.specs.Waits.{IsGrant}
use Rattle.lk_client.specs.Waits.{IsOwnWatch, IsTryOrWatch, IsWatchOf, SendsAll, TriesInVain, Waits, WatchesFor}
use Rattle.lk_client.specs.Waits.{is_later, numbered}
use Rattle.lk_client.specs.Watches.{Watches, due_endpoints, next_watch}
use Rattle.lk_client.specs.declared.notices.WatchedPlace.{WatchedPlace}
use Rattle.lk_client.specs.declared.question.Question.{Question}
use Rattle.lk_client.specs.declared.reply.Reply.{Reply as ReplyValue}
use Rattle.lk_client.specs.declared.reply.Reply.TheVariants.{Answer as Answered, Passed, Elsewhere}
use Rattle.lk_types.specs.declared.answer.Answer.TheVariants as answer
use Rattle.lk_client.proofs.Hearing.{hears_nothing}
use Rattle.lk_client.proofs.Keeping.{only_receive, replied}
use Rattle.lk_client.proofs.Sending.{only_sends, sends_nothing, sends_both, sends_as, sends_each}

abbrev Datagrams : Type 0
Datagrams = List (SocketAddr × List ℕ)

-- ---- one kind of datagram among others

try_or_watch : (is : Bool) (q : Question) (n last : ℕ) → q.request.number ≤ n → n ≤ last → (bytes : List ℕ)
    → IsAskedOrWatch is (numbered n q) bytes → IsTryOrWatch q last bytes
try_or_watch is q n last least most bytes (inl asked) = inl (n, least, most, asked)
try_or_watch is q n last least most bytes (inr watch) = inr watch.1

-- the watches of a client are among its request and watches
pub watches_among : (is : Bool) (q : Question) (old new : Datagrams) → SendsAll (IsOwnWatch is q) old new
    → SendsAll (IsAskedOrWatch is q) old new
watches_among is q old new sends = sends_as (λ bytes watch. inr watch) sends

-- and so is the request
pub requests_among : (is : Bool) (q : Question) (old new : Datagrams) → SendsOnly q old new
    → SendsAll (IsAskedOrWatch is q) old new
requests_among is q old new sends = sends_as (λ bytes asked. inl asked) (only_sends sends)

-- and both are, under this number, among those of a wait
pub tried : (is : Bool) (q : Question) (n last : ℕ) (old new : Datagrams) → q.request.number ≤ n → n ≤ last
    → SendsAll (IsAskedOrWatch is (numbered n q)) old new → SendsAll (IsTryOrWatch q last) old new
tried is q n last old new least most sends = sends_as (try_or_watch is q n last least most) sends

-- watches are, too
pub watched : (q : Question) (last : ℕ) (old new : Datagrams) → SendsAll (IsWatchOf q) old new
    → SendsAll (IsTryOrWatch q last) old new
watched q last old new sends = sends_as (λ bytes watch. inr watch) sends

-- ---- watches

-- what was sent where a watch was to be, whether that failed or not
pub watches_send : {S R E : Type 0} (sent : S → Datagrams) (failures : S → ℕ) (q : Question) (w : Watch)
    (places : List WatchedPlace) (old new : S) (result : Result R E) → WatchesFor q w
    → IfOk result (λ (r : R). Watches q.destination.seals w places (sent old) (failures old) (sent new) (failures new))
    → OnErr result (new ≡ old) → SendsAll (IsWatchOf q) (sent old) (sent new)
watches_send sent failures q w places old new (Ok r) is sends same =
    sends_each (due_endpoints places) sends.0 (sent old) (failures old) (sent new) (failures new) (w, is, sends.1)
    sends.2
watches_send sent failures q w places old new (Err e) is sends same = sends_nothing (ap sent same)

-- the next watch is of the same client and lock
pub next_for : (q : Question) (periods : ℕ) (w next : Watch) → next ≡ next_watch periods w → WatchesFor q w
    → WatchesFor q next
next_for q periods w next is watches = subst (λ (v : Watch). WatchesFor q v) (sym is) watches

-- ---- replies

-- what a receive has sent, and what it returns
pub receive_sends : {S : Type 0} (sent : S → Datagrams) (failures : S → ℕ)
    (next : S → Option (SocketAddr × List ℕ)) (is : Bool) (q : Question) (bytes : List ℕ) (told : Option ReplyValue)
    (old new : Asker S) → IsAsked q bytes → Receives sent failures next q bytes told old new
    → SendsAll (IsAskedOrWatch is q) (sent old.socket) (sent new.socket)
receive_sends sent failures next is q bytes told old new asked r =
    requests_among is q (sent old.socket) (sent new.socket) (only_receive sent failures next q asked r)

pub receive_ends : {S : Type 0} (sent : S → Datagrams) (failures : S → ℕ) (incoming : S → Stream) (q : Question)
    (bytes : List ℕ) (told : Option ReplyValue) (old new : Asker S)
    → Receives sent failures (next_of incoming) q bytes told old new → EndsWith sent incoming q told new.socket
receive_ends sent failures incoming q bytes None old new r = tt
receive_ends sent failures incoming q bytes (Some reply) old new r = replied sent failures (next_of incoming) q r

-- a Busy at a fence is a Busy
pub busy_of : (client fence : ℕ) (told : Option ReplyValue) → IsSomeAnd told (IsBusyAt client fence)
    → IsSomeAnd told (IsBusy client)
busy_of client fence None busy = busy
busy_of client fence (Some (Answered (answer.Busy holder at))) busy = busy.0
busy_of client fence (Some (Answered a)) busy = absurd busy
busy_of client fence (Some (Passed last)) busy = busy
busy_of client fence (Some (Elsewhere m)) busy = busy

-- and no grant
pub busy_not_grant : (client fence : ℕ) (told : Option ReplyValue) → IsSomeAnd told (IsBusyAt client fence)
    → IsSomeAnd told IsGrant → ⊥
busy_not_grant client fence None busy grant = busy
busy_not_grant client fence (Some (Answered (answer.Busy holder at))) busy grant = grant
busy_not_grant client fence (Some (Answered a)) busy grant = absurd busy
busy_not_grant client fence (Some (Passed last)) busy grant = busy
busy_not_grant client fence (Some (Elsewhere m)) busy grant = busy

-- ---- one number

module _ {S : Type 0} (sent : S → Datagrams) (incoming : S → Stream) (is : Bool) (q : Question) where
  -- it was answered by a Busy
  pub asks_in_vain : (told : Option ReplyValue) (old told_on new : S)
      → Asks sent incoming is q told old told_on
      → IsSomeAnd told (IsBusy q.request.client) → SendsAll (IsWatchOf q) (sent told_on) (sent new)
      → AsksInVain sent incoming is q old new
  asks_in_vain None old told_on new asks busy watches = absurd busy
  asks_in_vain (Some reply) old told_on new asks busy watches = record {
    reply = reply;
    is_busy = busy;
    told_on = told_on;
    asks = asks;
    watches = watches;
  }

  -- it was the last one. Watches were sent twice, or not at all if it was granted
  pub concludes : (told : Option ReplyValue) (old told_on paused new : S)
      → Asks sent incoming is q told old told_on
      → SendsAll (IsWatchOf q) (sent told_on) (sent paused) → SendsAll (IsWatchOf q) (sent paused) (sent new)
      → (IsSomeAnd told IsGrant → sent paused ≡ sent told_on) → (IsSomeAnd told IsGrant → sent new ≡ sent paused)
      → Concludes sent incoming is q told old new
  concludes told old told_on paused new asks one two granted still = record {
    told_on = told_on;
    asks = asks;
    watches = sends_both one two;
    granted = λ grant. still grant ∙ granted grant;
  }

  -- nothing happened
  pub concludes_nothing : (at : S) → Concludes sent incoming is q None at at
  concludes_nothing at = record {
    told_on = at;
    asks = record { sends = sends_nothing refl; hears = hears_nothing q refl; ends = tt };
    watches = sends_nothing refl;
    granted = λ grant. absurd grant;
  }

-- ---- one number after another

module _ {S : Type 0} (sent : S → Datagrams) (incoming : S → Stream) where
  vain_sends : (is : Bool) (q : Question) (n last : ℕ) (old new : S) → q.request.number ≤ n → n ≤ last
      → AsksInVain sent incoming is (numbered n q) old new → SendsAll (IsTryOrWatch q last) (sent old) (sent new)
  vain_sends is q n last old new least most v =
      sends_both (tried is q n last (sent old) (sent v.told_on) least most v.asks.sends)
      (watched q last (sent v.told_on) (sent new) v.watches)

  pub tries_send : (q : Question) (last count : ℕ) (old new : S) → q.request.number + count ≤ last
      → TriesInVain sent incoming q count old new → SendsAll (IsTryOrWatch q last) (sent old) (sent new)
  tries_send q last zero old new most tries = sends_nothing (ap sent tries)
  tries_send q last (suc count) old new most tries =
      sends_both (tries_send q last count old tries.0 (omega (arith, most)) tries.1)
      (vain_sends (is_later count) q (q.request.number + count) last tries.0 new (omega arith) (omega (arith, most))
      tries.2)

  -- what a client that waits has sent
  pub waits_send : (q : Question) (last : ℕ) (told : Option ReplyValue) (old new : S)
      → Waits sent incoming q last told old new → SendsAll (IsTryOrWatch q last) (sent old) (sent new)
  waits_send q last told old new w =
      sends_both (tries_send q last w.count old w.begun_on (omega (arith, w.is)) w.in_vain)
      (sends_both
      (tried (is_later w.count) q last last (sent w.begun_on) (sent w.concludes.told_on) (omega (arith, w.is))
      (omega arith) w.concludes.asks.sends)
      (watched q last (sent w.concludes.told_on) (sent new) w.concludes.watches))

-- a question that has got the number after as many numbers, at a client that asked in vain under those
module _ {S : Type 0} (sent : S → Datagrams) (incoming : S → Stream) (first q : Question) (count : ℕ)
    (is : q ≡ numbered (first.request.number + count) first) (watching : Bool) (later : watching ≡ is_later count)
    (old mid : S) (tries : TriesInVain sent incoming first count old mid) where
  -- what it has sent, if it stops here
  pub tried_sends : (new : S) → new ≡ mid → SendsAll (IsTryOrWatch first q.request.number) (sent old) (sent new)
  tried_sends new stops =
      let same : q.request.number ≡ first.request.number + count = ap (λ (x : Question). x.request.number) is in
      subst (λ (s : S). SendsAll (IsTryOrWatch first q.request.number) (sent old) (sent s)) (sym stops)
      (tries_send sent incoming first q.request.number count old mid (omega (arith, same)) tries)

  -- it asks in vain under this number too
  pub tries_more : (new : S) → AsksInVain sent incoming watching q mid new
      → TriesInVain sent incoming first (count + 1) old new
  tries_more new vain =
      let more : count + 1 ≡ suc count = omega arith in
      subst (λ (n : ℕ). TriesInVain sent incoming first n old new) (sym more) (
        mid,
        tries,
        subst (λ (x : Question). AsksInVain sent incoming (is_later count) x mid new) is
            (subst (λ (b : Bool). AsksInVain sent incoming b q mid new) later vain),
      )

  -- the wait is over
  pub waits_end : (told : Option ReplyValue) (new : S) → Concludes sent incoming watching q told mid new
      → Waits sent incoming first q.request.number told old new
  waits_end told new ends =
      let last : ℕ = first.request.number + count in
      let same : q.request.number ≡ last = ap (λ (x : Question). x.request.number) is in
      subst (λ (n : ℕ). Waits sent incoming first n told old new) (sym same) (record {
        count = count;
        is = refl;
        begun_on = mid;
        in_vain = tries;
        concludes = subst (λ (x : Question). Concludes sent incoming (is_later count) x told mid new) is
            (subst (λ (b : Bool). Concludes sent incoming b q told mid new) later ends);
      })

-- before the first number
pub numbered_none : (q : Question) → q ≡ numbered (q.request.number + 0) q
numbered_none q =
    let same : q.request.number + 0 ≡ q.request.number = omega arith in
    sym (ap (λ (n : ℕ). numbered n q) same)

-- the next number is one of those that follow
pub number_more : (first q : Question) (count n : ℕ) → q ≡ numbered (first.request.number + count) first
    → n ≡ q.request.number + 1 → numbered n q ≡ numbered (first.request.number + (count + 1)) first
number_more first q count n is more =
    let same : q.request.number ≡ first.request.number + count = ap (λ (x : Question). x.request.number) is in
    let sum : n ≡ first.request.number + (count + 1) = omega (arith, same, more) in
    ap (λ (x : Question). numbered n x) is ∙ ap (λ (m : ℕ). numbered m first) sum

pub later_more : (count : ℕ) (is : Bool) → is ≡ true → is ≡ is_later (count + 1)
later_more count is watching =
    let more : count + 1 ≡ suc count = omega arith in
    subst (λ (n : ℕ). is ≡ is_later n) (sym more) watching

-- what is printed of it
pub ends_wait : {S : Type 0} (sent : S → Datagrams) (incoming : S → Stream) (q : Question) (last : ℕ)
    (told : Option ReplyValue) (is : Bool) (old new : S) → (is ≡ true ↔ IsSomeAnd told IsFinal) → IfSome told IsFinal
    → Waits sent incoming q last told old new → EndsWait sent incoming q last is old new
ends_wait sent incoming q last None true old new written final waits = absurd (written.0 refl)
ends_wait sent incoming q last None false old new written final waits = waits
ends_wait sent incoming q last (Some reply) true old new written final waits = (reply, final, waits)
ends_wait sent incoming q last (Some reply) false old new written final waits = absurd (cc (written.1 final))
