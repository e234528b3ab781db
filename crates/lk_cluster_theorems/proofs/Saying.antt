-- What a server says on an honest device.
use Rattle.std.proofs.Common.{ℕ, List, Option, Result, Ok, Err, inl, inr}
use Rattle.std.specs.Prelude.{OnOk, OnErr}
use Rattle.std.specs.declared.net.socket_addr.SocketAddr.{SocketAddr}
use Rattle.lk_node_interface.specs.Envelopes.{EnvelopeValue}
use Rattle.lk_address_book.specs.Addresses.{Filter, filter_of}
use Rattle.lk_address_book.specs.Filters.{all_filtered}
use Rattle.lk_server.specs.Servers.{ServerValue, DeliversEnvelopes, HasReceived, Turn, LastTurn, TurnOrIdle}

module _ {R : Type 0} (S T : R → List (Option (List ℕ)) → List EnvelopeValue → R → Type 0)
    (so : (old : R) (given : List (Option (List ℕ))) (envelopes : List EnvelopeValue) (new : R)
    → S old given envelopes new
    → T old given envelopes new) where
  abbrev pub hands_so : (observable : Type 0) (given : List (Option (List ℕ))) (loopback : List EnvelopeValue)
      (old new : ServerValue R) → DeliversEnvelopes S observable given loopback old new
      → DeliversEnvelopes T observable given loopback old new
  hands_so observable given loopback old new h =
      record {
        envelopes = h.envelopes;
        says = so old.replica given h.envelopes new.replica h.says;
        kept = h.kept;
        carried = h.carried;
      }

  abbrev pub turn_so : (observable : Type 0) (came : List (SocketAddr × List ℕ)) (old new : ServerValue R)
      → Turn S observable came old new → Turn T observable came old new
  turn_so observable came old new t = record {
    envelopes_first = t.envelopes_first;
    timed = t.timed;
    may = t.may;
    given = t.given;
    nudged = t.nudged;
    hands_on = hands_so observable t.given _ old new t.hands_on;
    counted = t.counted;
    ticks = t.ticks;
    withholds = t.withholds;
    heard = t.heard;
    same = t.same;
    alive = t.alive;
  }

  pub taken_so : (observable : Type 0) (frames : List (SocketAddr × List ℕ)) (old new : ServerValue R)
      → TurnOrIdle S observable frames old new → TurnOrIdle T observable frames old new
  taken_so observable frames old new (inl t) = inl (turn_so observable (all_filtered
      (filter_of old.addresses) frames) old new t)
  taken_so observable frames old new (inr idle) = inr idle

  abbrev pub last_so : (observable : Type 0) (came : List (SocketAddr × List ℕ)) (old new : ServerValue R)
      → LastTurn S observable came old new → LastTurn T observable came old new
  last_so observable came old new t = record {
    envelopes_first = t.envelopes_first;
    count = t.count;
    envelopes = t.envelopes;
    timed = t.timed;
    first = t.first;
    given = t.given;
    nudged = t.nudged;
    after_all = t.after_all;
    hands_on = hands_so observable t.given _ old new t.hands_on;
    silent = t.silent;
    ticks = t.ticks;
    heard = t.heard;
    same = t.same;
    ended = t.ended;
  }

  pub on_ok_so : {A E : Type 0} (Keeps : List (SocketAddr × List ℕ) → Type 0) (r : Result A E) (observable : Type 0)
      (old new : ServerValue R)
      → OnOk r ((frames : List (SocketAddr × List ℕ)) × HasReceived observable frames old new
      × TurnOrIdle S observable frames old new × Keeps frames)
      → OnOk r ((frames : List (SocketAddr × List ℕ)) × HasReceived observable frames old new
      × TurnOrIdle T observable frames old new × Keeps frames)
  on_ok_so Keeps (Ok x) observable old new t = (t.0, t.1, taken_so observable t.0 old new t.2, t.3)
  on_ok_so Keeps (Err e) observable old new t = tt

  pub on_err_so : {A E : Type 0} (r : Result A E) (observable : Type 0) (filter : Filter) (old new : ServerValue R)
      → OnErr r ((frames : List (SocketAddr × List ℕ)) × HasReceived observable frames old new
      × LastTurn S observable (all_filtered filter frames) old new)
      → OnErr r ((frames : List (SocketAddr × List ℕ)) × HasReceived observable frames old new
      × LastTurn T observable (all_filtered filter frames) old new)
  on_err_so (Ok x) observable filter old new t = tt
  on_err_so (Err e) observable filter old new t = (t.0, t.1, last_so observable (all_filtered filter t.0) old new t.2)
