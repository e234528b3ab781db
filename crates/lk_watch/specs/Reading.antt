-- Readers of each part of a watch and of a notice, and of both.
use Rattle.std.specs.Prelude.{ℕ, Bool, true, Option, Some, None, List, [], ◌∷◌, length, take, drop, nat_lt}
use Rattle.std.specs.Prelude.{◌==◌, ◌&&◌, if◌then◌else◌}
use Rattle.lk_codec.specs.Parser.{◌>>=◌, read_byte, both, made, tested, whole}
use Rattle.lk_codec.specs.FieldReading.{is_from_1_to, read_two, read_four, read_eight, read_node, read_client}
use Rattle.lk_codec.specs.FieldReading.{read_count}
use Rattle.lk_locks.specs.Bodies.{read_name}
use Rattle.lk_watch.specs.declared.ticket.Mode.{Mode}
use Rattle.lk_watch.specs.declared.ticket.Mode.TheVariants.{Exclusive, Share}
use Rattle.lk_watch.specs.declared.ticket.Ticket.{Ticket}
use Rattle.lk_watch.specs.declared.watch.Watch.{Watch}
use Rattle.lk_watch.specs.declared.notice.News.{News}
use Rattle.lk_watch.specs.declared.notice.News.TheVariants.{Free, Held, NotHere}
use Rattle.lk_watch.specs.declared.notice.Notice.{Notice}

abbrev pub mode_of : ℕ → Mode
mode_of n = if n == 1 then Exclusive else Share

unfoldable pub read_mode : List ℕ → Option (Mode × List ℕ)
read_mode = made mode_of (tested (is_from_1_to 2) read_byte)

abbrev pub news_of : ℕ → News
news_of n = if n == 1 then Free else (if n == 2 then Held else NotHere)

unfoldable pub read_news : List ℕ → Option (News × List ℕ)
read_news = made news_of (tested (is_from_1_to 3) read_byte)

-- nothing but zeros
abbrev pub are_zeros : List ℕ → Bool
are_zeros [] = true
are_zeros (b ∷ bytes) = b == 0 && are_zeros bytes

-- a name in 33 bytes
unfoldable pub read_name_field : List ℕ → Option (List ℕ × List ℕ)
read_name_field bytes =
    if nat_lt (length bytes) 33 then None else
    read_name (take 33 bytes) >>= λ a. if are_zeros a.1 then Some (a.0, drop 33 bytes) else None

unfoldable pub read_ticket : List ℕ → Option (Ticket × List ℕ)
read_ticket = made (λ t. record { client = t.0; number = t.1.0; fence = t.1.1.0; mode = t.1.1.1.0; name = t.1.1.1.1 })
    (both read_client (both read_eight (both read_count (both read_mode read_name_field))))

-- a number that is 0
abbrev pub no_number : (List ℕ → Option (ℕ × List ℕ)) → List ℕ → Option (ℕ × List ℕ)
no_number p = tested (λ n. n == 0) p

unfoldable pub read_watch_fields : List ℕ → Option (Watch × List ℕ)
read_watch_fields = made (λ w. record { cluster = w.0; ticket = w.1.1.0; periods = w.1.1.1.0 })
    (both read_eight (both (no_number read_four) (both read_ticket (both read_byte (no_number read_two)))))

unfoldable pub read_notice_fields : List ℕ → Option (Notice × List ℕ)
read_notice_fields = made (λ n. record {
  cluster = n.0;
  node = n.1.0;
  ticket = n.1.1.0;
  news = n.1.1.1.0;
  place = n.1.1.1.1;
})
    (both read_eight (both read_node (both read_ticket (both read_news read_two))))

-- after two letters, the version and that number
abbrev pub fronted : {X : Type 0} → ℕ → (List ℕ → Option (X × List ℕ)) → List ℕ → Option (X × List ℕ)
fronted k p (a ∷ b ∷ c ∷ d ∷ rest) = if a == 76 && b == 87 && c == 1 && d == k then p rest else None
fronted k p _ = None

unfoldable pub watch_of : List ℕ → Option Watch
watch_of = whole (fronted 9 read_watch_fields)

unfoldable pub notice_of : List ℕ → Option Notice
notice_of = whole (fronted 10 read_notice_fields)
