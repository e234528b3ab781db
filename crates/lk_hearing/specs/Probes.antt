-- The probes that a node remembers, and whom it hears by them.
use Rattle.std.specs.Prelude.{◌≡◌, ◌⊎◌, ◌<◌, ℕ, ◌+◌, ◌-◌, ◌*◌, nat_lt, nat_le, min, ◌==◌, ◌&&◌, ◌||◌, Bool, true, false}
use Rattle.std.specs.Prelude.{if◌then◌else◌, suc}
use Rattle.std.specs.Prelude.{List, [], ◌∷◌, map, take, replicate, length, Option, Some, None}
use Rattle.lk_types.specs.declared.member.Member.{Member}
use Rattle.lk_hearing.specs.declared.hearing.SentProbe.{SentProbe}
use Rattle.lk_hearing.specs.declared.hearing.Reply.{Reply}
use Rattle.lk_hearing.specs.declared.hearing.Asked.{Asked}

-- the last probes, the most recent first, of which the missing ones follow the others
abbrev pub Entries : Type 0
Entries = List (Option Asked)

-- what a node remembers: its last probes, and the period in which the next ones are due
pub record HearingValue : Type 0 where
  pub asked : Entries
  pub next_round : ℕ

-- it has sent nothing, and the first probes are due in the first period
abbrev pub nothing_sent : HearingValue
nothing_sent = record { asked = replicate 112 None; next_round = 1 }

-- ---- when it probes

-- probes are due in this period
abbrev pub is_round_due : ℕ → HearingValue → Bool
is_round_due now h = nat_le h.next_round now

-- the next ones are due two periods after these, which no count of 64 bits exceeds
abbrev pub having_begun : ℕ → HearingValue → HearingValue
having_begun now h =
    if is_round_due now h then record h { next_round = min (now + 2) 18446744073709551615 } else h

-- ---- replies

-- the report replies to this probe: node and token are the same
abbrev pub is_reply : Reply → SentProbe → Bool
is_reply r p = r.node == p.node && r.token == p.token

-- the probe after the report that came in that period: the first that replies to it is noted
abbrev pub answered_if : Bool → ℕ → Asked → Asked
answered_if true now a = record { probe = a.probe; replied = Some now }
answered_if false now a = a

abbrev pub answered_or : Option ℕ → Reply → ℕ → Asked → Asked
answered_or (Some period) r now a = a
answered_or None r now a = answered_if (is_reply r a.probe) now a

abbrev pub answered : Reply → ℕ → Asked → Asked
answered r now a = answered_or a.replied r now a

abbrev pub answered_at : Reply → ℕ → Option Asked → Option Asked
answered_at r now None = None
answered_at r now (Some a) = Some (answered r now a)

-- the report replies to one of these probes
abbrev pub is_reply_at : Reply → Option Asked → Bool
is_reply_at r None = false
is_reply_at r (Some a) = is_reply r a.probe

abbrev pub is_expected : Reply → Entries → Bool
is_expected r [] = false
is_expected r (e ∷ es) = is_reply_at r e || is_expected r es

-- ---- what changes

-- one more probe was sent: it is the most recent, and only 112 are remembered
abbrev pub having_sent : SentProbe → Entries → Entries
having_sent p es = Some (record { probe = p; replied = None }) ∷ take 111 es

-- a report came in that period
abbrev pub having_heard : Reply → ℕ → Entries → Entries
having_heard r now es = map (answered_at r now) es

-- ---- whom it hears

-- the reply came in this period, or in one of the seven before it
abbrev pub is_recent : ℕ → Option ℕ → Bool
is_recent now None = false
is_recent now (Some period) = nat_lt (now - period) 8

-- it is a probe to that node, and has a recent reply
abbrev pub counts_for : ℕ → ℕ → Option Asked → Bool
counts_for node now None = false
counts_for node now (Some a) = a.probe.node == node && is_recent now a.replied

abbrev pub hears : ℕ → ℕ → Entries → Bool
hears node now [] = false
hears node now (e ∷ es) = counts_for node now e || hears node now es

-- it is one of the entries
abbrev pub IsAmong : Asked → Entries → Type 0
IsAmong a [] = ⊥
IsAmong a (None ∷ es) = IsAmong a es
IsAmong a (Some b ∷ es) = (a ≡ b) ⊎ IsAmong a es

-- one of the last probes went to that node, and the first reply to it came in this period, or in one of the seven
-- before it
pub record IsHeard (node now : ℕ) (es : Entries) : Type 0 where
  pub asked : Asked
  pub among : IsAmong asked es
  pub to : asked.probe.node ≡ node
  pub period : ℕ
  pub replied : asked.replied ≡ Some period
  pub recent : now - period < 8

-- how many of these members are heard: the node itself always is
abbrev pub count_heard : ℕ → ℕ → Entries → List Member → ℕ
count_heard own now es [] = 0
count_heard own now es (m ∷ ms) =
    if m.node == own || hears m.node now es then suc (count_heard own now es ms) else count_heard own now es ms

-- these are more than half
abbrev pub hears_majority : ℕ → ℕ → Entries → List Member → Bool
hears_majority own now es ms = nat_lt (length ms) (2 * count_heard own now es ms)
