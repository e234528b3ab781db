-- The bytes of a watch and of a notice, and the ranges of their parts.
use Rattle.std.specs.Prelude.{◌≡◌, ℕ, ◌-◌, ◌<◌, ◌^◌, List, ◌∷◌, ◌++◌, length, replicate}
use Rattle.lk_types.specs.Ranges.{IsNode, IsClient, IsCount}
use Rattle.lk_types.specs.Limits.{max_name}
use Rattle.lk_codec.specs.Fields.{one, two, four, eight}
use Rattle.lk_locks.specs.Names.{IsName}
use Rattle.lk_locks.specs.Bodies.{lock_name}
use Rattle.lk_watch.specs.declared.ticket.Mode.{Mode}
use Rattle.lk_watch.specs.declared.ticket.Mode.TheVariants.{Exclusive, Share}
use Rattle.lk_watch.specs.declared.ticket.Ticket.{Ticket}
use Rattle.lk_watch.specs.declared.watch.Watch.{Watch}
use Rattle.lk_watch.specs.declared.notice.News.{News}
use Rattle.lk_watch.specs.declared.notice.News.TheVariants.{Free, Held, NotHere}
use Rattle.lk_watch.specs.declared.notice.Notice.{Notice}

abbrev pub mode_number : Mode → ℕ
mode_number Exclusive = 1
mode_number Share = 2

abbrev pub news_number : News → ℕ
news_number Free = 1
news_number Held = 2
news_number NotHere = 3

-- a name in 33 bytes: its length, its bytes, and zeros
unfoldable pub name_field : List ℕ → List ℕ
name_field name = lock_name name ++ replicate (max_name - length name) 0

-- the client, the number, the fence, the mode and the name
abbrev pub ticket : Ticket → List ℕ
ticket t = two t.client ++ (eight t.number ++ (eight t.fence ++ (one (mode_number t.mode) ++ name_field t.name)))

-- two letters and the version, and which of both it is: 9 a watch, 10 a notice
abbrev pub front : ℕ → List ℕ → List ℕ
front k fields = 76 ∷ 87 ∷ 1 ∷ k ∷ fields

-- the cluster, zeros in place of a node, the ticket, the periods, and zeros in place of a place
abbrev pub watch : Watch → List ℕ
watch w = eight w.cluster ++ (four 0 ++ (ticket w.ticket ++ (one w.periods ++ two 0)))

-- the cluster, the node that tells, the ticket of the watch, what the node says of the name, and the place
abbrev pub notice : Notice → List ℕ
notice n = eight n.cluster ++ (four n.node ++ (ticket n.ticket ++ (one (news_number n.news) ++ two n.place)))

abbrev pub watch_spelling : Watch → List ℕ
watch_spelling w = front 9 (watch w)

abbrev pub notice_spelling : Notice → List ℕ
notice_spelling n = front 10 (notice n)

-- ---- validity

abbrev pub IsTicket : Ticket → Type 0
IsTicket t = IsClient t.client × (t.number < 2 ^ 64) × IsCount t.fence × IsName t.name

abbrev pub IsWatch : Watch → Type 0
IsWatch w = (w.cluster < 2 ^ 64) × IsTicket w.ticket × (w.periods < 256)

abbrev pub IsNotice : Notice → Type 0
IsNotice n = (n.cluster < 2 ^ 64) × IsNode n.node × IsTicket n.ticket × (n.place < 2 ^ 16)

-- the grammar: the bytes are those of the watch
abbrev pub SpellsWatch : Watch → List ℕ → Type 0
SpellsWatch w bytes = IsWatch w × (bytes ≡ watch_spelling w)

-- the bytes are those of the notice
abbrev pub SpellsNotice : Notice → List ℕ → Type 0
SpellsNotice n bytes = IsNotice n × (bytes ≡ notice_spelling n)
