-- Watches that a node answers, and the notices that it sends.
use Rattle.std.specs.Prelude.{◌≡◌, ◌⊎◌, ℕ, List, [], ◌∷◌, Option, Some, None}
use Rattle.std.specs.declared.net.socket_addr.SocketAddr.{SocketAddr}
use Rattle.lk_auth.specs.Seals.{heard}
use Rattle.lk_auth.specs.declared.seals.Seals.{Seals}
use Rattle.lk_node_interface.specs.declared.to.To.TheVariants.{Client}
use Rattle.lk_watch.specs.Grammar.{SpellsWatch, SpellsNotice}
use Rattle.lk_watch.specs.declared.watch.Watch.{Watch}
use Rattle.lk_watch.specs.declared.notice.Notice.{Notice}
use Rattle.lk_watch.specs.declared.waiter.Envelope.{Envelope}
use Rattle.lk_transport.specs.Askers.{SendsTo}
use Rattle.lk_transport.specs.Posts.{SendState, Loses, frame_of, keys_for}
use Rattle.lk_transport.specs.declared.received_watch.ReceivedWatch.{ReceivedWatch}

-- the frame carries this watch, which the node that has these seals answers
pub record CarriesWatch (s : Seals) (frame : List ℕ) (w : Watch) : Type 0 where
  pub spelled : SpellsWatch w (heard s frame)
  pub cluster : w.cluster ≡ s.cluster

-- a frame, with its source, carries this watch, or none that the node answers
abbrev pub BringsWatch : Seals → SocketAddr × List ℕ → Option ReceivedWatch → Type 0
BringsWatch s d None = (w : Watch) → CarriesWatch s d.1 w → ⊥
BringsWatch s d (Some r) = (r.from ≡ d.0) × CarriesWatch s d.1 r.watch

-- the notice of that node with these seals, by an envelope
abbrev pub notice_by : Seals → ℕ → Envelope → Notice
notice_by s node envelope = record {
  cluster = s.cluster;
  node = node;
  ticket = envelope.ticket;
  news = envelope.news;
  place = envelope.place;
}

-- the notice of an envelope goes to its address, once, framed for the client of the watch that it answers, or is lost
pub record SendsNotice (observable : Type 0) (s : Seals) (node : ℕ) (envelope : Envelope)
    (old new : SendState) : Type 0 where
  pub bytes : List ℕ
  pub spelled : SpellsNotice (notice_by s node envelope) bytes
  pub sends : SendsTo observable envelope.to (frame_of s (Client envelope.ticket.client) bytes) old new
      ⊎ Loses observable (keys_for s (Client envelope.ticket.client)) old new

-- the same for each of these envelopes, one after another
abbrev pub SendsNotices : Type 0 → Seals → ℕ → List Envelope → SendState → SendState → Type 0
SendsNotices observable s node [] old new = new ≡ old
SendsNotices observable s node (envelope ∷ envelopes) old new =
    (mid : SendState) × SendsNotice observable s node envelope old mid
    × SendsNotices observable s node envelopes mid new
