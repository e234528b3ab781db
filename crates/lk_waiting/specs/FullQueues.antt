-- When an answer to a watch says that the queue is full.
use Rattle.std.specs.Prelude.{Bool, true, false, nat_lt, ◌&&◌, ◌==◌}
use Rattle.lk_watch.specs.declared.notice.News.{News}
use Rattle.lk_watch.specs.declared.notice.News.TheVariants.{Free, Held, NotHere}
use Rattle.lk_watch.specs.declared.waiter.Envelope.{Envelope}
use Rattle.lk_watch.specs.declared.watch.Watch.{Watch}

abbrev pub is_held : News → Bool
is_held Free = false
is_held Held = true
is_held NotHere = false

-- the name is held, and a client that does not withdraw has no place
abbrev pub says_full : Watch → Envelope → Bool
says_full watch answer = nat_lt 0 watch.periods && answer.place == 0 && is_held answer.news
