-- When the reports of nodes show a cluster that is served.
use Rattle.std.specs.Prelude.{◌≡◌, ◌⊎◌, ℕ, suc, ◌*◌, ◌<◌, Bool, true, false, nat_eq, nat_lt, nat_le, ◌==◌, not, ◌&&◌}
use Rattle.std.specs.Prelude.{◌||◌, if◌then◌else◌, Option, Some, None, List, [], ◌∷◌, length}
use Rattle.std.specs.Cmp.Lexicographic.{pointwise}
use Rattle.std.specs.List.{AllByRecursion}
use Rattle.lk_types.specs.declared.member.Member.{Member}
use Rattle.lk_probe.specs.Grammar.{heard_of}
use Rattle.lk_probe.specs.declared.probe.Report.{Report}
use Rattle.lk_status.specs.States.{AgreeAll, one_state}

-- it is one of the reports
abbrev pub IsAmong : Report → List Report → Type 0
IsAmong r [] = ⊥
IsAmong r (other ∷ rs) = (r ≡ other) ⊎ IsAmong r rs

-- it does not lead, the ballot that it has promised is its own, and it counts no tick without a leader: it has a term
abbrev pub seeks_votes : Report → Bool
seeks_votes r =
    not r.status.leadership.leads && r.status.leadership.promised.node == r.node && r.status.leadership.silence == 0

-- that node is among those that report
abbrev pub has_reported : ℕ → List Report → Bool
has_reported node [] = false
has_reported node (r ∷ rs) = r.node == node || has_reported node rs

-- how many of the members report
abbrev pub count_reporting : List Member → List Report → ℕ
count_reporting [] rs = 0
count_reporting (m ∷ ms) rs = if has_reported m.node rs then suc (count_reporting ms rs) else count_reporting ms rs

-- a majority of the members that this report names have reported
abbrev pub has_majority : Report → List Report → Bool
has_majority r rs = nat_lt (length r.status.members) (2 * count_reporting r.status.members rs)

-- ---- who hears a majority

-- so many of this many members are a majority, or it is not said
abbrev pub is_enough : Option ℕ → ℕ → Bool
is_enough None count = true
is_enough (Some heard) count = nat_lt count (2 * heard)

-- the node of a report hears a majority of the members that it names, or does not say it
abbrev pub hears_enough : Report → Bool
hears_enough r = is_enough (heard_of r.reach) (length r.status.members)

-- ---- who follows whom

abbrev pub names : Option ℕ → ℕ → Bool
names None node = false
names (Some leader) node = leader == node

-- both have promised the same ballot
abbrev pub is_same_ballot : Report → Report → Bool
is_same_ballot r o =
    r.status.leadership.promised.round == o.status.leadership.promised.round
    && r.status.leadership.promised.node == o.status.leadership.promised.node

-- it names that leader, has promised its ballot, and has heard of it within its last 8 ticks
abbrev pub is_led_by : Report → Report → Bool
is_led_by leader r =
    names r.status.leadership.leader leader.node && (is_same_ballot r leader && nat_lt r.status.leadership.silence 8)

-- so, or it is the leader itself; and it hears a majority, or does not say it
abbrev pub follows : Report → Report → Bool
follows leader r = hears_enough r && ((r.status.leadership.leads && r.node == leader.node) || is_led_by leader r)

-- that node reports that it follows the leader
abbrev pub has_follower : Report → ℕ → List Report → Bool
has_follower leader node [] = false
has_follower leader node (r ∷ rs) = (r.node == node && follows leader r) || has_follower leader node rs

-- how many of these members do
abbrev pub count_followers : Report → List Member → List Report → ℕ
count_followers leader [] rs = 0
count_followers leader (m ∷ ms) rs =
    if has_follower leader m.node rs then suc (count_followers leader ms rs) else count_followers leader ms rs

-- a majority of the members that the leader names follow it
abbrev pub has_followers : Report → List Report → Bool
has_followers leader rs =
    nat_lt (length leader.status.members) (2 * count_followers leader leader.status.members rs)

-- all of these follow it
abbrev pub all_follow : Report → List Report → Bool
all_follow leader [] = true
all_follow leader (r ∷ rs) = follows leader r && all_follow leader rs

-- one of these leads, and all of those follow it
abbrev pub leads_all : List Report → List Report → Bool
leads_all [] rs = false
leads_all (r ∷ leaders) rs = r.status.leadership.leads && all_follow r rs || leads_all leaders rs

-- the members that a node says it hears are a majority of those that it names
abbrev pub HearsMajority : Report → Type 0
HearsMajority r = (heard : ℕ) → heard_of r.reach ≡ Some heard → length r.status.members < 2 * heard

-- the cluster is served: a node leads, a majority of the members that it names follow it, it hears a majority where its
-- report says whom it hears, all reports name its genesis, and those that tell a digest of their states at one position
-- tell the same
pub record IsServed (rs : List Report) : Type 0 where
  pub leader : Report
  pub is_there : IsAmong leader rs
  pub leads : leader.status.leadership.leads ≡ true
  pub majority : length leader.status.members < 2 * count_followers leader leader.status.members rs
  pub hears : HearsMajority leader
  pub one_genesis : AllByRecursion (λ (r : Report). r.status.identity.genesis ≡ leader.status.identity.genesis) rs
  pub one_state : AgreeAll rs

-- ---- the same as a test

abbrev pub some_leads : List Report → List Report → Bool
some_leads [] rs = false
some_leads (r ∷ leaders) rs =
    r.status.leadership.leads && hears_enough r && has_followers r rs || some_leads leaders rs

-- all name that genesis
abbrev pub all_name : List ℕ → List Report → Bool
all_name genesis [] = true
all_name genesis (r ∷ rs) = pointwise nat_eq r.status.identity.genesis genesis && all_name genesis rs

abbrev pub one_genesis : List Report → Bool
one_genesis [] = true
one_genesis (r ∷ rs) = all_name r.status.identity.genesis (r ∷ rs)

abbrev pub is_served : List Report → Bool
is_served rs = some_leads rs rs && one_genesis rs && one_state rs

-- each has executed at least so many positions
abbrev pub all_have : ℕ → List Report → Bool
all_have executed [] = true
all_have executed (r ∷ rs) = nat_le executed r.status.progress.executed && all_have executed rs

-- the cluster is served, as many nodes report as were asked, all follow one leader, and each has executed so many
-- positions
abbrev pub is_ready : ℕ → ℕ → List Report → Bool
is_ready asked executed rs = length rs == asked && (all_have executed rs && (leads_all rs rs && is_served rs))

-- so with the positions that were the goal, where there is one
abbrev pub is_at : Option ℕ → ℕ → List Report → Bool
is_at None asked rs = false
is_at (Some executed) asked rs = is_ready asked executed rs
