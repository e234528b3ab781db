-- What a lock table says of a name, and what that means for a client that waits for it.
use Rattle.std.specs.Prelude.{◌≡◌, ℕ, ◌-◌, Bool, nat_le, nat_lt, ◌&&◌, if◌then◌else◌, List}
use Rattle.lk_types.specs.Limits.{max_sharers}
use Rattle.lk_watch.specs.declared.standing.Standing.{Standing}
use Rattle.lk_watch.specs.declared.standing.Standing.TheVariants as standing
use Rattle.lk_watch.specs.declared.ticket.Mode.{Mode}
use Rattle.lk_watch.specs.declared.ticket.Mode.TheVariants.{Exclusive, Share}
use Rattle.lk_watch.specs.declared.ticket.Ticket.{Ticket}
use Rattle.lk_watch.specs.declared.notice.News.{News}
use Rattle.lk_watch.specs.declared.notice.News.TheVariants.{Free, Held, NotHere}

abbrev pub fence_in : Standing → ℕ
fence_in (standing.Free fence) = fence
fence_in (standing.ExclusiveHold fence) = fence
fence_in (standing.SharedHold fence count) = fence

-- how many more clients may take the name in that mode, each by itself
abbrev pub places : Mode → Standing → ℕ
places Exclusive (standing.Free fence) = 1
places Exclusive (standing.ExclusiveHold fence) = 0
places Exclusive (standing.SharedHold fence count) = 0
places Share (standing.Free fence) = max_sharers
places Share (standing.ExclusiveHold fence) = 0
places Share (standing.SharedHold fence count) = max_sharers - count

-- by what is said of each name, none is free for anybody
abbrev pub HasNoPlace : (List ℕ → Standing) → Type 0
HasNoPlace table = (name : List ℕ) (mode : Mode) → places mode (table name) ≡ 0

-- the fence at which the name was free last: the first grant after that took the next one
abbrev pub opening : Standing → ℕ
opening (standing.Free fence) = fence
opening (standing.ExclusiveHold fence) = fence - 1
opening (standing.SharedHold fence count) = fence - 1

-- the table is not older than the watch, and the name is free for it
abbrev pub serves : Standing → Ticket → Bool
serves s t = nat_le t.fence (fence_in s) && nat_lt 0 (places t.mode s)

-- what a node says of the name to that watch, if it speaks for the cluster or not
abbrev pub news : Bool → Standing → Ticket → News
news speaks s t =
    if speaks && nat_le t.fence (fence_in s) then (if nat_lt 0 (places t.mode s) then Free else Held) else NotHere
