-- Which events an observation of a node yields, compared with what was reported of it.
use Rattle.std.specs.Prelude.{◌≡◌, ◌≢◌, ◌<◌, ◌≤◌, ◌==◌, ◌||◌, ℕ, Bool, true, false, if◌then◌else◌}
use Rattle.std.specs.Prelude.{List, [], ◌∷◌, ◌++◌, replicate, take, Option, Some, None}
use Rattle.std.specs.List.{list_any}
use Rattle.std.specs.declared.net.socket_addr.SocketAddr.{SocketAddr}
use Rattle.lk_types.specs.declared.member.Member.{Member}
use Rattle.lk_types.specs.BallotValue.{BallotValue}
use Rattle.lk_node_events.specs.Observations.{apart_in, why_of}
use Rattle.lk_node_events.specs.declared.event.Event.{Event}
use Rattle.lk_node_events.specs.declared.event.Event.TheVariants.{StartedEmpty, Found, Leads, Ended, Follows}
use Rattle.lk_node_events.specs.declared.event.Event.TheVariants.{Leaderless}
use Rattle.lk_node_events.specs.declared.event.Event.TheVariants.{Joined}
use Rattle.lk_node_events.specs.declared.event.Event.TheVariants.{Left, Wrote, Installed, Unsent, Behind, CaughtUp}
use Rattle.lk_node_events.specs.declared.event.Event.TheVariants.{OtherGenesis, OtherCluster, Deaf, Hears, Outside}
use Rattle.lk_node_events.specs.declared.event.Event.TheVariants.{QueueFull, Names, Barred, Unopened, Hosts, Apart}
use Rattle.lk_node_events.specs.declared.event.Why.{Why}
use Rattle.lk_node_events.specs.declared.story.Story.{Story}
use Rattle.lk_node_events.specs.declared.observation.Observation.{Observation}

abbrev pub is_one_of : ℕ → List Member → Bool
is_one_of node members = list_any (λ m. m.node == node) members

-- the newer one, where there is one
abbrev pub newer : Option ℕ → Option ℕ → Option ℕ
newer None old = old
newer (Some node) old = Some node

-- so many names of the lock table are reported: nine tenths of the 512 that it can have
abbrev pub many_names : ℕ
many_names = 461

-- ---- the nodes that were reported to have another state, the last first, after which the missing ones follow

-- there is none yet
abbrev pub none_apart : List (Option ℕ)
none_apart = replicate 16 None

-- the node is one of them
abbrev pub is_entry_of : ℕ → Option ℕ → Bool
is_entry_of node None = false
is_entry_of node (Some other) = other == node

abbrev pub is_reported : ℕ → List (Option ℕ) → Bool
is_reported node [] = false
is_reported node (e ∷ es) = is_entry_of node e || is_reported node es

-- a node was found to have another state: it is one of them, and only 16 are remembered
abbrev pub having_reported : ℕ → List (Option ℕ) → List (Option ℕ)
having_reported node es = if is_reported node es then es else Some node ∷ take 15 es

-- the same if one was found, with the position
abbrev pub apart_after : Option (ℕ × ℕ) → List (Option ℕ) → List (Option ℕ)
apart_after None es = es
apart_after (Some found) es = having_reported found.0 es

-- ---- news

-- the event is due: the observation differs from the story in this way, or the turn has brought it
abbrev pub IsNews : Story → Observation → Event → Type 0
IsNews story seen (Leads ballot) = (seen.leads ≡ Some ballot) × (story.leads ≢ Some ballot)
IsNews story seen (Ended ballot why) =
    (story.leads ≡ Some ballot) × (seen.leads ≢ Some ballot) × (why ≡ why_of seen ballot)
IsNews story seen (Follows node) = (seen.follows ≡ Some node) × (story.follows ≢ Some node)
IsNews story seen (Joined node members) =
    (members ≡ seen.members) × (is_one_of node seen.members ≡ true) × (is_one_of node story.members ≡ false)
IsNews story seen (Left node members) =
    (members ≡ seen.members) × (is_one_of node story.members ≡ true) × (is_one_of node seen.members ≡ false)
IsNews story seen (Wrote position) = (position ≡ seen.snapshot) × (story.snapshot < position) × (seen.installed ≡ None)
IsNews story seen (Installed position node) = seen.installed ≡ Some (position, node)
IsNews story seen (Unsent node) = seen.unsent ≡ Some node
IsNews story seen (OtherGenesis node) = seen.stranger ≡ Some node
IsNews story seen (OtherCluster count) = seen.foreign ≡ Some count
IsNews story seen (Deaf heard members) =
    (seen.deaf ≡ true) × (story.deaf ≡ false) × (heard ≡ seen.heard) × (members ≡ seen.members)
IsNews story seen (Hears heard members) =
    (seen.deaf ≡ false) × (story.deaf ≡ true) × (heard ≡ seen.heard) × (members ≡ seen.members)
IsNews story seen QueueFull = seen.is_queue_full ≡ true
IsNews story seen (Names count) = (count ≡ seen.names) × (many_names ≤ count) × (story.names < count)
IsNews story seen (Barred client) = seen.barred ≡ Some client
IsNews story seen (Unopened from cluster) = seen.unopened ≡ Some (from, cluster)
IsNews story seen (Hosts are_usable) = seen.are_hosts_usable ≡ Some are_usable
IsNews story seen (Apart node position) =
    (apart_in seen ≡ Some (node, position)) × (is_reported node story.apart ≡ false)
IsNews story seen StartedEmpty = ⊥
IsNews story seen (Found executed) = ⊥
IsNews story seen (Leaderless seconds) = ⊥
IsNews story seen (Outside seconds) = ⊥
IsNews story seen (Behind node) = ⊥
IsNews story seen (CaughtUp executed) = ⊥

-- the story after an observation was reported
abbrev pub story_with : Observation → Story → Story
story_with seen story = record {
  leads = seen.leads;
  follows = newer seen.follows story.follows;
  members = seen.members;
  snapshot = seen.snapshot;
  deaf = seen.deaf;
  names = seen.names;
  apart = apart_after (apart_in seen) story.apart;
}

-- the story after it was reported that nobody leads, if it was: then any leader is news
abbrev pub forgetting : Option Event → Story → Story
forgetting None story = story
forgetting (Some event) story = record story { follows = None }

-- the story of a node that was first seen like this: no number of names was reported, and no other state
abbrev pub story_of : Observation → Story
story_of seen = record {
  leads = seen.leads;
  follows = seen.follows;
  members = seen.members;
  snapshot = seen.snapshot;
  deaf = seen.deaf;
  names = 0;
  apart = none_apart;
}

-- ---- news by what it is about

-- who leads: that it leads no more, that it leads, and whom it follows; whether it hears a majority: that it does no
-- more, and that it does; who is a member: that a node joined, and that one left; and its work: a snapshot that it
-- wrote, one that it installed, what it could not send, whom it heard of another genesis, what it heard of another
-- cluster, that it had no room for a watch, that the lock table fills up, that a request was barred, what it could not
-- open, what it read of its hosts, and whose state is another one
pub data Topic : Type 0 where
  ending : Topic
  leading : Topic
  following : Topic
  deafening : Topic
  hearing : Topic
  joining : ℕ → Topic
  leaving : ℕ → Topic
  writing : Topic
  installing : Topic
  failing : Topic
  meeting : Topic
  straying : Topic
  refusing : Topic
  filling : Topic
  barring : Topic
  mismatching : Topic
  rehosting : Topic
  differing : Topic

abbrev pub lead_topics : List Topic
lead_topics = ending ∷ leading ∷ following ∷ deafening ∷ hearing ∷ []

-- each member may have joined
abbrev pub joins : List Member → List Topic
joins [] = []
joins (m ∷ ms) = joining m.node ∷ joins ms

-- each may have left
abbrev pub leaves : List Member → List Topic
leaves [] = []
leaves (m ∷ ms) = leaving m.node ∷ leaves ms

-- the members that are seen may have joined, and those of the story may have left
abbrev pub member_topics : Story → Observation → List Topic
member_topics story seen = joins seen.members ++ leaves story.members

abbrev pub work_topics : List Topic
work_topics =
    writing ∷ installing ∷ failing ∷ meeting ∷ straying ∷ refusing ∷ filling ∷ barring ∷ mismatching ∷ rehosting
    ∷ differing ∷ []

abbrev pub topics : Story → Observation → List Topic
topics story seen = lead_topics ++ (member_topics story seen ++ work_topics)

-- the event has this topic, and is news
abbrev pub IsNewsOf : Topic → Story → Observation → Event → Type 0
IsNewsOf ending story seen event =
    (ballot : BallotValue) × (why : Why) × (event ≡ Ended ballot why) × IsNews story seen (Ended ballot why)
IsNewsOf leading story seen event = (ballot : BallotValue) × (event ≡ Leads ballot) × IsNews story seen (Leads ballot)
IsNewsOf following story seen event = (node : ℕ) × (event ≡ Follows node) × IsNews story seen (Follows node)
IsNewsOf deafening story seen event =
    (heard : ℕ) × (members : List Member) × (event ≡ Deaf heard members) × IsNews story seen (Deaf heard members)
IsNewsOf hearing story seen event =
    (heard : ℕ) × (members : List Member) × (event ≡ Hears heard members) × IsNews story seen (Hears heard members)
IsNewsOf (joining node) story seen event =
    (members : List Member) × (event ≡ Joined node members) × IsNews story seen (Joined node members)
IsNewsOf (leaving node) story seen event =
    (members : List Member) × (event ≡ Left node members) × IsNews story seen (Left node members)
IsNewsOf writing story seen event = (position : ℕ) × (event ≡ Wrote position) × IsNews story seen (Wrote position)
IsNewsOf installing story seen event =
    (position : ℕ) × (node : ℕ) × (event ≡ Installed position node) × IsNews story seen (Installed position node)
IsNewsOf failing story seen event = (node : ℕ) × (event ≡ Unsent node) × IsNews story seen (Unsent node)
IsNewsOf meeting story seen event = (node : ℕ) × (event ≡ OtherGenesis node) × IsNews story seen (OtherGenesis node)
IsNewsOf straying story seen event = (count : ℕ) × (event ≡ OtherCluster count) × IsNews story seen (OtherCluster count)
IsNewsOf refusing story seen event = (event ≡ QueueFull) × IsNews story seen QueueFull
IsNewsOf filling story seen event = (count : ℕ) × (event ≡ Names count) × IsNews story seen (Names count)
IsNewsOf barring story seen event = (client : ℕ) × (event ≡ Barred client) × IsNews story seen (Barred client)
IsNewsOf mismatching story seen event =
    (from : SocketAddr) × (cluster : Option ℕ) × (event ≡ Unopened from cluster)
    × IsNews story seen (Unopened from cluster)
IsNewsOf rehosting story seen event =
    (are_usable : Bool) × (event ≡ Hosts are_usable) × IsNews story seen (Hosts are_usable)
IsNewsOf differing story seen event =
    (node : ℕ) × (position : ℕ) × (event ≡ Apart node position) × IsNews story seen (Apart node position)

-- the event is news of this topic; without an event there is no such news
abbrev pub Gives : Topic → Story → Observation → Option Event → Type 0
Gives topic story seen (Some event) = IsNewsOf topic story seen event
Gives topic story seen None = (event : Event) → IsNewsOf topic story seen event → ⊥
