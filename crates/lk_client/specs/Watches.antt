-- What a client sends to watch a lock, to whom, and which notices answer it.
use Rattle.std.specs.Prelude.{◌≡◌, ◌+◌, min, ◌%◌, ◌==◌, ◌||◌, ◌&&◌, ℕ, Bool, false, not, nat_lt, List, [], ◌∷◌}
use Rattle.std.specs.Prelude.{◌++◌, Option, None, Some, if◌then◌else◌}
use Rattle.std.specs.declared.net.socket_addr.SocketAddr.{SocketAddr}
use Rattle.lk_auth.specs.Seals.{key_list, framed_by, replied}
use Rattle.lk_auth.specs.Seals as seals
use Rattle.lk_auth.specs.declared.asker.AskerSeals.{AskerSeals}
use Rattle.lk_watch.specs.Grammar.{SpellsWatch, SpellsNotice}
use Rattle.lk_watch.specs.declared.watch.Watch.{Watch}
use Rattle.lk_watch.specs.declared.notice.Notice.{Notice}
use Rattle.lk_watch.specs.declared.notice.News.{News}
use Rattle.lk_watch.specs.declared.notice.News.TheVariants.{Free, Held, NotHere}
use Rattle.lk_client.specs.Questions.{Endpoint, SendsEach}
use Rattle.lk_client.specs.declared.notices.WatchedPlace.{WatchedPlace}
use Rattle.lk_client.specs.declared.watcher.EarlyAnswer.{EarlyAnswer}

-- the bytes to send for a watch: its spelling, in a frame of its client if there is a key
abbrev pub IsWatched : AskerSeals → Watch → List ℕ → Type 0
IsWatched s w frame = (bytes : List ℕ) × SpellsWatch w bytes
    × (frame ≡ framed_by (key_list s.keys) (seals.asking s.cluster w.ticket.client) bytes)

-- the next watch, for so many periods: its number is greater by one, as far as there is a greater one
abbrev pub next_watch : ℕ → Watch → Watch
next_watch periods w = record w {
  ticket = record w.ticket { number = min (w.ticket.number + 1) 18446744073709551615 };
  periods = periods;
}

abbrev pub with_fence : ℕ → Watch → Watch
with_fence fence w = record w { ticket = record w.ticket { fence = fence } }

-- a place gets each watch, or each eighth one if it has not answered the last two
abbrev pub is_due : WatchedPlace → Bool
is_due p = nat_lt p.unanswered 2 || p.unanswered % 8 == 0

-- its endpoint, if it gets the next watch
abbrev pub endpoint_if_due : WatchedPlace → List Endpoint
endpoint_if_due p = if is_due p then (p.place.address, p.place.port) ∷ [] else []

-- the endpoints of those that get it
abbrev pub due_endpoints : List WatchedPlace → List Endpoint
due_endpoints [] = []
due_endpoints (p ∷ places) = endpoint_if_due p ++ due_endpoints places

-- that watch went to each of these places that gets it, and nothing else was sent
abbrev pub Watches : AskerSeals → Watch → List WatchedPlace → List (SocketAddr × List ℕ) → ℕ
    → List (SocketAddr × List ℕ) → ℕ → Type 0
Watches s w places old failures new failures_new = (bytes : List ℕ) × IsWatched s w bytes
    × SendsEach (due_endpoints places) bytes old failures new failures_new

-- the notice repeats cluster and ticket of the watch
abbrev pub IsAnswerTo : Watch → Notice → Type 0
IsAnswerTo w n = (n.cluster ≡ w.cluster) × (n.ticket ≡ w.ticket)

-- the datagram, out of its frame if there is a key, is that notice, and answers the watch
abbrev pub IsNoticeTo : AskerSeals → Watch → List ℕ → Notice → Type 0
IsNoticeTo s w bytes n =
    SpellsNotice n (replied (key_list s.keys) s.cluster w.ticket.client bytes) × IsAnswerTo w n

-- ---- what a notice says to the client

-- it says that the name is free for those who came before
abbrev pub says_early : News → ℕ → Bool
says_early Free place = nat_lt 1 place
says_early Held place = false
says_early NotHere place = false

-- it repeats the last early answer of its node
abbrev pub is_again : Notice → Option EarlyAnswer → Bool
is_again n None = false
is_again n (Some early) = early.node == n.node && early.place == n.place

-- an answer to a watch is early if it says so, and is not such a repetition
abbrev pub is_early : Notice → Option EarlyAnswer → Bool
is_early n early = says_early n.news n.place && not (is_again n early)

-- the last early answer, unless it is one of that node
abbrev pub forgotten : ℕ → Option EarlyAnswer → Option EarlyAnswer
forgotten node None = None
forgotten node (Some early) = if early.node == node then None else Some early

-- the last early answer after this answer
abbrev pub noted : Notice → Option EarlyAnswer → Option EarlyAnswer
noted n early = if is_early n early then Some (record { node = n.node; place = n.place }) else forgotten n.node early

-- a name that is free with a place above 1 is held, if an early answer says so
abbrev pub news_at : Bool → ℕ → News → News
news_at is_early place Free = if is_early && nat_lt 1 place then Held else Free
news_at is_early place Held = Held
news_at is_early place NotHere = NotHere

abbrev pub news_to : Bool → Notice → News
news_to is_early n = news_at is_early n.place n.news
