-- A server handles watches: it hears one, and tells those who wait.
use Rattle.std.proofs.Common.{◌≡◌, ◌⊎◌, ℕ, ◌+◌, Bool, true, List, [], ◌∷◌, ◌++◌, length, Option, Some, refl, sym, ap}
use Rattle.std.proofs.Common.{subst, subst₂, ◌∙◌, arith}
use Rattle.lk_locks.specs.Plain.{Table}
use Rattle.lk_auth.specs.declared.seals.Seals.{Seals}
use Rattle.lk_watch.specs.Tables.{standing_in}
use Rattle.lk_watch.specs.Queues.{QueueValue, Table as Standings, HearsOrNot, NoneDueBefore, TellsFirst}
use Rattle.lk_watch.specs.Queues.{TellsEach}
use Rattle.lk_watch.specs.declared.waiter.Envelope.{Envelope}
use Rattle.lk_transport.specs.Posts.{SendState}
use Rattle.lk_transport.specs.Watches.{SendsNotice, SendsNotices}
use Rattle.lk_transport.specs.declared.received_watch.ReceivedWatch.{ReceivedWatch}
use Rattle.lk_server.specs.Servers.{ServerValue, send_state_at}
use Rattle.lk_server.specs.WatchHandling.{IsMoment, ServesWaiters, AnswersWatch, TellsNext, TellsWaiters}
use Rattle.lk_server.specs.WatchHandling.{ChangesByNotices, ChangesQueue, IsAllNew}
use Rattle.lk_waiting.specs.Waits.{WaitingValue, begun_at}
use Rattle.lk_waiting.specs.declared.moment.Moment.{Moment}
use Rattle.lk_watch.specs.Seen.{standing_by}
use Rattle.lk_watch.specs.declared.seen.SeenName.{SeenName}
use Rattle.std.specs.Prelude.{IfSome}
use Rattle.lk_server_replica.specs.declared.probed_state.ProbedState.{ProbedState}

-- ---- one envelope after another

tells_more : (table : Standings) (envelopes : List Envelope) (envelope : Envelope) (old mid new : QueueValue)
    → TellsEach table old envelopes mid → TellsFirst table mid envelope new
    → TellsEach table old (envelopes ++ envelope ∷ []) new
tells_more table [] envelope old mid new each one =
    (new, subst (λ (q : QueueValue). TellsFirst table q envelope new) each one, refl)
tells_more table (l ∷ envelopes) envelope old mid new each one =
    (each.0, each.1, tells_more table envelopes envelope each.0 mid new each.2 one)

pub sends_both : (observable : Type 0) (s : Seals) (node : ℕ) (xs ys : List Envelope) (old mid new : SendState)
    → SendsNotices observable s node xs old mid → SendsNotices observable s node ys mid new
    → SendsNotices observable s node (xs ++ ys) old new
sends_both observable s node [] ys old mid new none two =
    subst (λ (t : SendState). SendsNotices observable s node ys t new) none two
sends_both observable s node (x ∷ xs) ys old mid new one two =
    (one.0, one.1, sends_both observable s node xs ys one.0 mid new one.2 two)

-- each envelope is counted
pub envelopes_left : (table : Standings) (envelopes : List Envelope) (old new : QueueValue) → TellsEach table old
    envelopes new
    → new.left + length envelopes ≡ old.left
envelopes_left table [] old new same = let left : new.left ≡ old.left = ap (λ (q : QueueValue). q.left) same in
    omega (arith, left)
envelopes_left table (l ∷ envelopes) old new each =
    omega (arith, each.1.counted, envelopes_left table envelopes each.0 new each.2)

module _ {R : Type 0} (T : R → Standings) (observable : Type 0) where
  -- those so far were told
  abbrev pub HasTold : List Envelope → ServerValue R → ServerValue R → Type 0
  HasTold envelopes old new =
      TellsEach (T old.replica) old.waiting.queue envelopes new.waiting.queue
      × SendsNotices observable old.addresses.seals old.node envelopes (send_state_at old.loopback old)
      (send_state_at new.loopback new)
      × (observable → new.incoming ≡ old.incoming)
      × ChangesByNotices old new

  -- the next one
  pub tells_next : (envelope : Envelope) (mid one new : ServerValue R)
      → TellsFirst (T mid.replica) mid.waiting.queue envelope one.waiting.queue
      → ChangesQueue mid one
      → SendsNotice observable one.addresses.seals one.node envelope (send_state_at one.loopback one)
      (send_state_at new.loopback new)
      → new ≡ record one {
        sent = new.sent;
        socket_failures = new.socket_failures;
        incoming = new.incoming;
      }
      → TellsNext (T mid.replica) observable mid new
  tells_next envelope mid one new tells one_is sends new_is =
      let seals : one.addresses.seals ≡ mid.addresses.seals =
      ap (λ (s : ServerValue R). s.addresses.seals) one_is in
      let node : one.node ≡ mid.node = ap (λ (s : ServerValue R). s.node) one_is in
      let before : send_state_at one.loopback one ≡ send_state_at mid.loopback mid =
      ap (λ (s : ServerValue R). send_state_at s.loopback s) one_is in
      let queue : one.waiting.queue ≡ new.waiting.queue = sym (ap (λ (s : ServerValue R). s.waiting.queue) new_is) in
      let after = send_state_at new.loopback new in
      let by_keys : SendsNotice observable mid.addresses.seals mid.node envelope
      (send_state_at one.loopback one) after =
      subst₂ (λ (s : Seals) (n : ℕ). SendsNotice observable s n envelope (send_state_at one.loopback one) after)
      seals node sends in
      record {
        envelope = envelope;
        tells = subst (λ (q : QueueValue). TellsFirst (T mid.replica) mid.waiting.queue envelope q) queue tells;
        sends = subst (λ (t : SendState). SendsNotice observable mid.addresses.seals mid.node envelope t after) before
            by_keys;
      }

  -- and one more
  pub told_more : (envelopes : List Envelope) (old mid new : ServerValue R) → HasTold envelopes old mid
      → (next : TellsNext (T mid.replica) observable mid new)
      → (observable → new.incoming ≡ mid.incoming) → ChangesByNotices mid new
      → HasTold (envelopes ++ next.envelope ∷ []) old new
  told_more envelopes old mid new so_far next still new_is =
      let changes = so_far.3 in
      let envelope = next.envelope in
      let replica : mid.replica ≡ old.replica = ap (λ (s : ServerValue R). s.replica) changes in
      let seals : mid.addresses.seals ≡ old.addresses.seals =
      ap (λ (s : ServerValue R). s.addresses.seals) changes in
      let node : mid.node ≡ old.node = ap (λ (s : ServerValue R). s.node) changes in
      let told : TellsFirst (T old.replica) mid.waiting.queue envelope new.waiting.queue =
      subst (λ (r : R). TellsFirst (T r) mid.waiting.queue envelope new.waiting.queue) replica next.tells in
      let after = send_state_at new.loopback new in
      let sent : SendsNotice observable old.addresses.seals old.node envelope (send_state_at mid.loopback mid) after =
      subst₂ (λ (s : Seals) (n : ℕ). SendsNotice observable s n envelope (send_state_at mid.loopback mid) after)
      seals node next.sends in (
        tells_more (T old.replica) envelopes envelope old.waiting.queue mid.waiting.queue new.waiting.queue
            so_far.0 told,
        sends_both observable old.addresses.seals old.node envelopes (envelope ∷ []) (send_state_at old.loopback old)
            (send_state_at mid.loopback mid) after so_far.1 (after, sent, refl),
        λ t. still t ∙ so_far.2 t,
        new_is ∙ ap (λ (s : ServerValue R). record s {
          waiting = record s.waiting { queue = new.waiting.queue };
          sent = new.sent;
          socket_failures = new.socket_failures;
          incoming = new.incoming;
        }) changes,
      )

module _ {R : Type 0} (T : R → Standings) (observable : Type 0) where
  -- those who were to be told are
  pub told_all : (envelopes : List Envelope) (old mid new : ServerValue R) → HasTold T observable envelopes old mid
      → ((mid.waiting.queue.left ≡ 0) ⊎ NoneDueBefore (T mid.replica) mid.waiting.queue.waiters
      (length mid.waiting.queue.waiters))
      → new ≡ mid → TellsWaiters (T old.replica) observable true old new
  told_all envelopes old mid new so_far ends same =
      let replica : mid.replica ≡ old.replica = ap (λ (s : ServerValue R). s.replica) so_far.3 in
      let told : TellsWaiters (T old.replica) observable true old mid = record {
        envelopes = envelopes;
        tells = record {
          each = so_far.0;
          ends = subst (λ (r : R). (mid.waiting.queue.left ≡ 0) ⊎ NoneDueBefore (T r) mid.waiting.queue.waiters
              (length mid.waiting.queue.waiters)) replica ends;
        };
        sends = so_far.1;
      } in
      subst (λ (s : ServerValue R). TellsWaiters (T old.replica) observable true old s) (sym same) told

-- ---- a watch is answered

module _ {R : Type 0} (table : Table) (observable : Type 0) (speaks : Bool) (r : ReceivedWatch) where
  -- by an envelope
  pub answered : (envelope : Envelope) (old mid new : ServerValue R)
      → HearsOrNot (standing_in table) speaks r.watch r.from old.waiting.queue (envelope ∷ []) mid.waiting.queue
      → ChangesQueue old mid
      → SendsNotice observable mid.addresses.seals mid.node envelope (send_state_at mid.loopback mid)
      (send_state_at new.loopback new)
      → new ≡ record mid {
        sent = new.sent;
        socket_failures = new.socket_failures;
        incoming = new.incoming;
      }
      → AnswersWatch table observable speaks (Some r) old new
  answered envelope old mid new hears mid_is sends new_is =
      let seals : mid.addresses.seals ≡ old.addresses.seals =
      ap (λ (s : ServerValue R). s.addresses.seals) mid_is in
      let node : mid.node ≡ old.node = ap (λ (s : ServerValue R). s.node) mid_is in
      let before : send_state_at mid.loopback mid ≡ send_state_at old.loopback old =
      ap (λ (s : ServerValue R). send_state_at s.loopback s) mid_is in
      let queue : mid.waiting.queue ≡ new.waiting.queue = sym (ap (λ (s : ServerValue R). s.waiting.queue) new_is) in
      let after = send_state_at new.loopback new in
      let by_keys : SendsNotice observable old.addresses.seals old.node envelope
      (send_state_at mid.loopback mid) after =
      subst₂ (λ (s : Seals) (n : ℕ). SendsNotice observable s n envelope (send_state_at mid.loopback mid) after)
      seals node sends in
      record {
        envelopes = envelope ∷ [];
        hears = subst (λ (q : QueueValue). HearsOrNot (standing_in table) speaks r.watch r.from old.waiting.queue
            (envelope ∷ []) q) queue hears;
        sends = (
          after,
          subst (λ (t : SendState). SendsNotice observable old.addresses.seals old.node envelope t after)
              before by_keys,
          refl,
        );
      }

  -- or by none
  pub unanswered : (old new : ServerValue R)
      → HearsOrNot (standing_in table) speaks r.watch r.from old.waiting.queue [] new.waiting.queue
      → ChangesQueue old new → AnswersWatch table observable speaks (Some r) old new
  unanswered old new hears new_is = record {
    envelopes = [];
    hears = hears;
    sends = ap (λ (s : ServerValue R). send_state_at s.loopback s) new_is;
  }

-- ---- a whole turn of the queue

module _ {R : Type 0} (T : R → Table) (Shows : R → ProbedState → Type 0) (observable : Type 0)
    (watched : Option ReceivedWatch) (seen : Option (List SeenName)) (moment : Moment)
    (old first mid new : ServerValue R) where
  -- it begins, hears the watch that is kept, and tells those who wait
  pub served : first ≡ record old { waiting = begun_at (T old.replica) seen moment old.waiting }
      → IfSome seen (IsAllNew (T old.replica) watched old.waiting moment) → IsMoment Shows old moment
      → AnswersWatch (T first.replica) observable moment.speaks watched first mid
      → (observable → mid.incoming ≡ first.incoming) → ChangesByNotices first mid
      → TellsWaiters (standing_by (T mid.replica) seen) observable moment.speaks mid new
      → (observable → new.incoming ≡ mid.incoming)
      → ChangesByNotices mid new → ServesWaiters (T old.replica) Shows observable watched old new
  served first_is looks says answers quiet mid_is tells still new_is =
      let begun = begun_at (T old.replica) seen moment old.waiting in
      let mid_so : mid ≡ record old {
        waiting = record begun { queue = mid.waiting.queue };
        sent = mid.sent;
        socket_failures = mid.socket_failures;
        incoming = mid.incoming;
      } =
      mid_is ∙ ap (λ (s : ServerValue R). record s {
        waiting = record s.waiting { queue = mid.waiting.queue };
        sent = mid.sent;
        socket_failures = mid.socket_failures;
        incoming = mid.incoming;
      }) first_is in
      let new_so : new ≡ record old {
        waiting = record begun { queue = new.waiting.queue };
        sent = new.sent;
        socket_failures = new.socket_failures;
        incoming = new.incoming;
      } =
      new_is ∙ ap (λ (s : ServerValue R). record s {
        waiting = record s.waiting { queue = new.waiting.queue };
        sent = new.sent;
        socket_failures = new.socket_failures;
        incoming = new.incoming;
      }) mid_so in
      let waiting : new.waiting ≡ record begun { queue = new.waiting.queue } =
      ap (λ (s : ServerValue R). s.waiting) new_so in
      let heard : AnswersWatch (T old.replica) observable moment.speaks watched (record old { waiting = begun }) mid =
      subst (λ (s : ServerValue R). AnswersWatch (T s.replica) observable moment.speaks watched s mid) first_is
      answers in
      let replica : mid.replica ≡ old.replica = ap (λ (s : ServerValue R). s.replica) mid_so in
      let seals : mid.addresses.seals ≡ old.addresses.seals =
      ap (λ (s : ServerValue R). s.addresses.seals) mid_so in
      let node : mid.node ≡ old.node = ap (λ (s : ServerValue R). s.node) mid_so in
      let after = send_state_at new.loopback new in
      let told : TellsWaiters (standing_by (T old.replica) seen) observable moment.speaks mid new =
      subst (λ (r : R). TellsWaiters (standing_by (T r) seen) observable moment.speaks mid new) replica tells in
      record {
        moment = moment;
        is_now = says;
        seen = seen;
        looks = looks;
        answers = heard.envelopes;
        heard = mid.waiting.queue;
        hears = heard.hears;
        told = told.envelopes;
        tells = told.tells;
        sends = sends_both observable old.addresses.seals old.node heard.envelopes told.envelopes
            (send_state_at old.loopback old) (send_state_at mid.loopback mid) after heard.sends
            (subst₂ (λ (s : Seals) (n : ℕ). SendsNotices observable s n told.envelopes (send_state_at mid.loopback mid)
            after) seals node told.sends);
        still = λ t. still t ∙ quiet t ∙ ap (λ (s : ServerValue R). s.incoming) first_is;
        waiting = waiting;
        same = new_so ∙ ap (λ (w : WaitingValue). record old {
          waiting = w;
          sent = new.sent;
          socket_failures = new.socket_failures;
          incoming = new.incoming;
        }) (sym waiting);
      }
