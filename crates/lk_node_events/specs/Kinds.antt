-- The kinds of events, and which of them are warnings.
use Rattle.std.specs.Prelude.{ℕ, Bool, true, false, not}
use Rattle.lk_node_events.specs.declared.event.Event.{Event}
use Rattle.lk_node_events.specs.declared.event.Event.TheVariants.{StartedEmpty, Found, Leads, Ended, Follows}
use Rattle.lk_node_events.specs.declared.event.Event.TheVariants.{Leaderless}
use Rattle.lk_node_events.specs.declared.event.Event.TheVariants.{Joined}
use Rattle.lk_node_events.specs.declared.event.Event.TheVariants.{Left, Wrote, Installed, Unsent, Behind, CaughtUp}
use Rattle.lk_node_events.specs.declared.event.Event.TheVariants.{OtherGenesis, OtherCluster, Deaf, Hears, Outside}
use Rattle.lk_node_events.specs.declared.event.Event.TheVariants.{QueueFull, Names, Barred, Unopened, Hosts, Apart}

-- how many kinds of events there are
abbrev pub kinds : ℕ
kinds = 24

-- the index of an event's kind, below that number
abbrev pub kind_of : Event → ℕ
kind_of StartedEmpty = 0
kind_of (Found executed) = 1
kind_of (Leads ballot) = 2
kind_of (Ended ballot why) = 3
kind_of (Follows node) = 4
kind_of (Leaderless seconds) = 5
kind_of (Joined node members) = 6
kind_of (Left node members) = 7
kind_of (Wrote position) = 8
kind_of (Installed position node) = 9
kind_of (Unsent node) = 10
kind_of (Behind node) = 11
kind_of (CaughtUp executed) = 12
kind_of (OtherGenesis node) = 13
kind_of (OtherCluster count) = 14
kind_of (Deaf heard members) = 15
kind_of (Hears heard members) = 16
kind_of (Outside seconds) = 17
kind_of QueueFull = 18
kind_of (Names count) = 19
kind_of (Barred client) = 20
kind_of (Unopened from cluster) = 21
kind_of (Hosts are_usable) = 22
kind_of (Apart node position) = 23

-- an operator has to look at it
abbrev pub is_warning : Event → Bool
is_warning (Leaderless seconds) = true
is_warning (Unsent node) = true
is_warning (OtherGenesis node) = true
is_warning (OtherCluster count) = true
is_warning (Deaf heard members) = true
is_warning QueueFull = true
is_warning (Names count) = true
is_warning (Barred client) = true
is_warning (Unopened from cluster) = true
is_warning (Hosts are_usable) = not are_usable
is_warning (Apart node position) = true
is_warning _ = false
