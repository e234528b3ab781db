-- Why requests may not be answered, in words.
use Rattle.std.specs.Prelude.{ℕ, Bool, false, nat_le, nat_lt, not, ◌&&◌, ◌||◌, ◌==◌, if◌then◌else◌, Option, Some, None}
use Rattle.std.specs.Prelude.{List, [], ◌∷◌, ◌++◌, codes, flat_map, is_some}
use Rattle.std.specs.List.{list_all, list_any}
use Rattle.std.specs.Fmt.{decimal}
use Rattle.lk_types.specs.declared.member.Member.{Member}
use Rattle.lk_probe.specs.Grammar.{heard_of}
use Rattle.lk_probe.specs.declared.probe.Report.{Report}
use Rattle.lk_probe.specs.declared.reach.Reach.{Reach}
use Rattle.lk_status.specs.Verdicts.{seeks_votes, one_genesis, has_followers, has_majority, has_reported, hears_enough}
use Rattle.lk_status_reasons.specs.States.{states_reason}

-- ---- whom a node follows

-- the node is one of these members
abbrev pub is_member : ℕ → List Member → Bool
is_member node members = list_any (λ m. m.node == node) members

-- it follows a leader, of which it has heard in the last 28 ticks
abbrev pub follows : Report → Bool
follows r = is_some r.status.leadership.leader && nat_lt r.status.leadership.silence 28 && not (seeks_votes r)

-- the leader that the first of these reports follows
abbrev pub followed : List Report → Option ℕ
followed [] = None
followed (r ∷ rs) = if follows r then r.status.leadership.leader else followed rs

-- ---- a leader that does not answer

-- the node, if there is one and it has not reported
abbrev pub unless_reported : Option ℕ → List Report → Option ℕ
unless_reported None rs = None
unless_reported (Some node) rs = if has_reported node rs then None else Some node

-- the node that is followed, if it has not reported
abbrev pub silent_in : List Report → Option ℕ
silent_in rs = unless_reported (followed rs) rs

-- ---- of a node

abbrev pub deaf_line : ℕ → List ℕ
deaf_line node =
    codes "why: node " ++ (decimal node ++ codes " hears nobody: check its --port, the hosts and the keys\n")

abbrev pub seeking_line : ℕ → List ℕ
seeking_line node = codes "why: node "
    ++ (decimal node ++ codes " seeks votes: if that lasts, check its --port, the hosts and the keys\n")

-- it does not lead, and has heard of no leader for 28 ticks
abbrev pub deaf_reason : Report → List ℕ
deaf_reason r = if not r.status.leadership.leads && nat_le 28 r.status.leadership.silence then deaf_line r.node else []

-- it says that it hears a majority of the members that it names
abbrev pub hears : Report → Bool
hears r = is_some (heard_of r.reach) && hears_enough r

-- long datagrams do not pass where the probes do
abbrev pub fragments_line : ℕ → List ℕ
fragments_line node =
    codes "why: node "
    ++ (decimal node
    ++ codes " seeks votes, and hears a majority: if that lasts, let long datagrams pass (fragments)\n")

-- it seeks votes: others do not hear it, or long votes do not reach it where it hears them
abbrev pub seeking_reason : Report → List ℕ
seeking_reason r = if hears r then fragments_line r.node else seeking_line r.node

-- it hears no majority, and so many datagrams came that it could not read
abbrev pub other_key_line : ℕ → ℕ → List ℕ
other_key_line node unread =
    codes "why: node " ++ (decimal node
    ++ (codes " hears no majority, and could not read " ++ (decimal unread
    ++ codes " of what came: compare its key with the others'\n")))

abbrev pub cut_off_line : ℕ → List ℕ
cut_off_line node =
    codes "why: node "
    ++ (decimal node ++ codes " hears no majority: if that lasts, check its --port, the hosts and its network\n")

abbrev pub deaf_leader_line : ℕ → List ℕ
deaf_leader_line node = codes "why: node "
    ++ (decimal node ++ codes ", which leads, hears no majority: check what keeps the members' datagrams from it\n")

-- it does not lead and hears no majority: it has another key, if it could not read what came, or else nothing comes
abbrev pub follower_reason : Report → List ℕ
follower_reason r =
    if r.status.traffic.unread == 0 then cut_off_line r.node else other_key_line r.node r.status.traffic.unread

-- it hears no majority
abbrev pub unheard_reason : Report → List ℕ
unheard_reason r = if r.status.leadership.leads then deaf_leader_line r.node else follower_reason r

-- the same, but not while a leader is still followed that does not answer: then the election has just begun
abbrev pub candidate_reason : Bool → Report → List ℕ
candidate_reason early r = if early then [] else seeking_reason r

-- it hears no majority, or seeks votes, or hears nobody
abbrev pub hearing_reason : Bool → Report → List ℕ
hearing_reason early r =
    if hears_enough r then (if seeks_votes r then candidate_reason early r else deaf_reason r) else unheard_reason r

abbrev pub outside_line : ℕ → List ℕ
outside_line node = codes "why: node " ++ (decimal node ++ codes " is not a member: it has left, or has to join\n")

-- of one of these members what it hears, where a majority of them is up, and of another node that it is none
abbrev pub node_reason : Bool → Bool → List Member → Report → List ℕ
node_reason majority early members r =
    if is_member r.node members then (if majority then hearing_reason early r else []) else outside_line r.node

-- ---- of the cluster

abbrev pub nobody_line : List ℕ
nobody_line = codes "why: nobody answers: no node runs there, or it has another cluster number or other keys\n"

abbrev pub majority_line : List ℕ
majority_line = codes "why: no majority: ask every member, and start those that are down, on their own folders\n"

abbrev pub geneses_line : List ℕ
geneses_line = codes "why: two geneses: stop the nodes that were started with another --genesis\n"

-- a node that is followed and does not lead sends, and hears nobody
abbrev pub mute_text : Option ℕ → List ℕ
mute_text (Some node) =
    codes "node " ++ (decimal node
    ++ codes " sends and hears nobody: stop it, and check its --port, the hosts and the keys\n")
mute_text None = codes "the members do not hear each other\n"

-- it seeks votes, and has run for the 4 ticks after which the first member begins to: a node that has just begun and
-- had led before shows the same
abbrev pub is_candidate : Report → Bool
is_candidate r = seeks_votes r && nat_le 4 r.status.traffic.ticks

-- that node reports so
abbrev pub has_candidate : ℕ → List Report → Bool
has_candidate node rs = list_any (λ r. r.node == node && is_candidate r) rs

abbrev pub not_yet_text : ℕ → List ℕ
not_yet_text node =
    codes "look again: node " ++ (decimal node ++ codes ", which others follow, does not lead yet\n")

-- a node that is followed and seeks votes sends, and hears nobody; one that does not has just begun, or will be led
abbrev pub followed_text : Option ℕ → List Report → List ℕ
followed_text None rs = mute_text None
followed_text (Some node) rs = if has_candidate node rs then mute_text (Some node) else not_yet_text node

-- a node is followed and does not answer: it has just died, or else it sends and hears nobody
abbrev pub silent_text : ℕ → List ℕ
silent_text node =
    codes "node " ++ (decimal node
    ++ codes ", which others follow, does not answer: stop it, and check its --port, the hosts and the keys\n")

-- why nobody leads, if that lasts: where all nodes that report hear a majority, long datagrams are lost between them
abbrev pub cause_text : List Report → List ℕ
cause_text rs =
    if list_all hears rs then codes "let long datagrams pass (fragments): the members hear each other\n"
    else followed_text (followed rs) rs

-- what to do if that lasts: where the node that is followed does not answer, the others show nothing of the cause yet
abbrev pub remedy_text : Option ℕ → List Report → List ℕ
remedy_text (Some node) rs = silent_text node
remedy_text None rs = cause_text rs

abbrev pub leaderless_line : List Report → List ℕ
leaderless_line rs =
    codes "why: nobody leads: an election takes seconds; if it lasts, " ++ remedy_text (silent_in rs) rs

abbrev pub geneses_reason : List Report → List ℕ
geneses_reason rs = if one_genesis rs then [] else geneses_line

abbrev pub unfollowed_line : ℕ → List ℕ
unfollowed_line node =
    codes "why: no majority follows node "
    ++ (decimal node ++ codes ", which leads: they do not hear it, or it does not hear them\n")

-- a leader hears a majority, and none follows it; of one that hears none its own reason says it
abbrev pub unfollowed_reason : Report → List Report → List ℕ
unfollowed_reason measure rs =
    if hears_enough measure && not (has_followers measure rs) then unfollowed_line measure.node else []

abbrev pub leader_reason : Report → List Report → List ℕ
leader_reason measure rs =
    if measure.status.leadership.leads then unfollowed_reason measure rs else leaderless_line rs

abbrev pub node_reasons : Bool → Bool → List Member → List Report → List ℕ
node_reasons majority early members rs = flat_map (node_reason majority early members) rs

-- without a majority nobody can lead, and members that are up hear nobody
abbrev pub leaders_reason : Bool → Report → List Report → List ℕ
leaders_reason majority measure rs = if majority then leader_reason measure rs else majority_line

abbrev pub members_reason : Report → List Report → List ℕ
members_reason measure rs =
    leaders_reason (has_majority measure rs) measure rs
    ++ node_reasons (has_majority measure rs) (is_some (silent_in rs)) measure.status.members rs

-- ---- of bundles

-- a node says that it sends bundles, and that it reads them
abbrev pub sends : Option Reach → Bool
sends None = false
sends (Some t) = t.sends_bundles

abbrev pub reads : Option Reach → Bool
reads None = false
reads (Some t) = t.reads_bundles

abbrev pub some_send : List Report → Bool
some_send [] = false
some_send (r ∷ rs) = sends r.reach || some_send rs

abbrev pub unread_line : ℕ → List ℕ
unread_line node = codes "why: node "
    ++ (decimal node
    ++ codes " may not read the bundles of others: start it with this program, or them without --bundle\n")

abbrev pub unread_reason : Report → List ℕ
unread_reason r = if reads r.reach then [] else unread_line r.node

-- each node that does not say that it reads them, where one sends them
abbrev pub bundles_reason : List Report → List ℕ
bundles_reason rs = if some_send rs then flat_map unread_reason rs else []

-- ---- of all

-- what the reports show, by the members of the measure
abbrev pub shown_text : Report → List Report → List ℕ
shown_text measure rs =
    geneses_reason rs ++ (states_reason rs ++ (members_reason measure rs ++ bundles_reason rs))

abbrev pub why_text : Option Report → List Report → List ℕ
why_text None rs = nobody_line
why_text (Some measure) rs = shown_text measure rs
