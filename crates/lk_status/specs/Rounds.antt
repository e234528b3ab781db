-- A round: what is asked, which reports answer its probes, and how they are gathered from what comes.
use Rattle.std.specs.Prelude.{◌≡◌, ◌⊎◌, ℕ, ◌+◌, ◌%◌, ◌^◌, ◌<◌, ◌≤◌, Bool, true, false, ◌==◌, ◌||◌, Option, Some, None}
use Rattle.std.specs.Prelude.{List, [], ◌∷◌, ◌++◌, length, if◌then◌else◌}
use Rattle.std.specs.List.{AllByRecursion}
use Rattle.std.specs.declared.net.socket_addr.SocketAddr.{SocketAddr}
use Rattle.lk_auth.specs.Seals.{key_list, asking, framed_by, replied}
use Rattle.lk_probe.specs.Grammar.{SpellsReport, probe_spelling, or_zero}
use Rattle.lk_probe.specs.declared.probe.Report.{Report}
use Rattle.lk_transport.specs.Chains.{Repeats}
use Rattle.lk_transport.specs.Streams.{Stream, Receives, next_of}
use Rattle.lk_client.specs.Questions.{SendsOnce}
use Rattle.lk_status.specs.Targets.{target_address}
use Rattle.lk_status.specs.declared.target.Inquiry.{Inquiry}
use Rattle.lk_status.specs.declared.target.Target.{Target}

-- ---- the reports of a round

-- it answers the probe of a target: that of the first carries this token, and that of each other the next
pub record IsOfRound (i : Inquiry) (first : ℕ) (r : Report) : Type 0 where
  pub cluster : r.cluster ≡ i.cluster
  pub client : r.client ≡ i.client
  pub least : first ≤ r.token
  pub most : r.token < first + length i.targets.items

abbrev pub AreOfRound : Inquiry → ℕ → List Report → Type 0
AreOfRound i first rs = AllByRecursion (IsOfRound i first) rs

-- one of these has that token
abbrev pub has_token : ℕ → List Report → Bool
has_token token [] = false
has_token token (r ∷ rs) = r.token == token || has_token token rs

-- the first that has it
abbrev pub report_of : ℕ → List Report → Option Report
report_of token [] = None
report_of token (r ∷ rs) = if r.token == token then Some r else report_of token rs

-- ---- what comes

-- the datagram, out of its frame if there is a key, is that report
abbrev pub IsReport : Inquiry → List ℕ → Report → Type 0
IsReport i bytes r =
    SpellsReport r (replied (key_list i.destination.seals.keys) i.destination.seals.cluster (or_zero i.client) bytes)

-- it answers a probe of the round that none of these has answered
pub record IsAwaited (i : Inquiry) (first : ℕ) (rs : List Report) (r : Report) : Type 0 where
  pub of_round : IsOfRound i first r
  pub unreported : has_token r.token rs ≡ false

-- this report is added if the datagram is one that is awaited, and nothing otherwise
abbrev pub Adds : Inquiry → ℕ → List ℕ → List Report → List Report → Type 0
Adds i first bytes old new =
    ((r : Report) × IsReport i bytes r × IsAwaited i first old r × (new ≡ old ++ r ∷ []))
    ⊎ (((r : Report) → IsReport i bytes r → IsAwaited i first old r → ⊥) × (new ≡ old))

-- so of what a receive found, if it did
abbrev pub HearsReport : Inquiry → ℕ → Option (SocketAddr × List ℕ) → List Report → List Report → Type 0
HearsReport i first None old new = new ≡ old
HearsReport i first (Some d) old new = Adds i first d.1 old new

-- ---- what is sent

-- the bytes of the probe with this token, which asks for a reach or does not, in a frame of its client if there is a
-- key
abbrev pub probe_frame : Inquiry → Bool → ℕ → List ℕ
probe_frame i asks token =
    framed_by (key_list i.destination.seals.keys) (asking i.destination.seals.cluster (or_zero i.client))
    (probe_spelling (record {
      cluster = i.cluster;
      origin = None;
      client = i.client;
      token = token;
      asks_reach = asks;
    }))

-- what a kind of socket has sent, what its receives are to find, and how many of its sends have failed
module _ {S : Type 0} (sent : S → List (SocketAddr × List ℕ)) (incoming : S → Stream) (failures : S → ℕ)
    (i : Inquiry) where
  -- the probe goes to a target, or its send fails, which is counted; nothing is received meanwhile
  pub record Probes (asks : Bool) (token : ℕ) (t : Target) (old new : S) : Type 0 where
    pub sends : SendsOnce (target_address i t, t.port) (probe_frame i asks token) (sent old) (failures old)
        (sent new) (failures new)
    pub still : incoming new ≡ incoming old

  -- nothing is sent to one that has answered
  abbrev pub ProbesUnless : Bool → Bool → ℕ → Target → S → S → Type 0
  ProbesUnless asks true token t old new = new ≡ old
  ProbesUnless asks false token t old new = Probes asks token t old new

  -- each target that has not answered is asked, in turn: the first with this token, and each other with the next
  abbrev pub ProbesEach : Bool → ℕ → List Target → List Report → S → S → Type 0
  ProbesEach asks token [] rs old new = new ≡ old
  ProbesEach asks token (t ∷ ts) rs old new =
      (mid : S) × ProbesUnless asks (has_token token rs) token t old mid
      × ProbesEach asks ((token + 1) % (2 ^ 64)) ts rs mid new

  -- each is asked once more, first for a reach, and then without one, since older nodes answer only that
  abbrev pub ProbesAgain : ℕ → List Report → S → S → Type 0
  ProbesAgain first rs old new =
      (mid : S) × ProbesEach true first i.targets.items rs old mid × ProbesEach false first i.targets.items rs mid new

-- ---- a round

-- whoever asks: its socket, the reports that it has gathered, and how many receives found nothing
pub record Asker (S : Type 0) : Type 0 where
  pub socket : S
  pub reports : List Report
  pub silences : ℕ

-- some target has not answered, and there is patience left
abbrev pub GoesOn : Inquiry → List Report → ℕ → Type 0
GoesOn i rs silences = (length rs < length i.targets.items) × (silences < i.patience)

-- each target has answered, or as many receives found nothing as there is patience
abbrev pub IsOver : Inquiry → List Report → ℕ → Type 0
IsOver i rs silences = (length i.targets.items ≤ length rs) ⊎ (i.patience ≤ silences)

module _ {S : Type 0} (sent : S → List (SocketAddr × List ℕ)) (incoming : S → Stream) (failures : S → ℕ) where
  -- a receive, which finds what is next, and nothing is sent
  pub record ReceivesNext (old new : S) : Type 0 where
    pub comes : Receives (next_of incoming old) (incoming old) (incoming new)
    pub silent : sent new ≡ sent old
    pub spared : failures new ≡ failures old

  module _ (i : Inquiry) (first : ℕ) where
    -- where it found nothing, that is counted, and each target is asked again that has not answered
    abbrev pub Reacts : Option (SocketAddr × List ℕ) → S → Asker S → Asker S → Type 0
    Reacts None heard old new =
        (new.silences ≡ old.silences + 1)
        × ProbesAgain sent incoming failures i first new.reports heard new.socket
    Reacts (Some d) heard old new = (new.silences ≡ old.silences) × (new.socket ≡ heard)

    -- a receive: what came is added if it is a report that is awaited
    pub record HearsOne (old new : Asker S) : Type 0 where
      pub heard : S
      pub receives : ReceivesNext old.socket heard
      pub hears : HearsReport i first (next_of incoming old.socket) old.reports new.reports
      pub reacts : Reacts (next_of incoming old.socket) heard old new

    -- the same while the round goes on
    abbrev pub HearsNext : Asker S → Asker S → Type 0
    HearsNext old new = GoesOn i old.reports old.silences × HearsOne old new

    -- one receive after another, until the round is over, or there were 10,000
    pub record HearsOut (old new : Asker S) : Type 0 where
      pub receives : ℕ
      pub heard : Repeats HearsNext receives old new
      pub over : IsOver i new.reports new.silences ⊎ (receives ≡ 10000)

    -- a round: all targets are asked for a reach, and then these reports, and no others, are what is heard
    pub record IsRound (reports : List Report) (old new : S) : Type 0 where
      pub asked : S
      pub silences : ℕ
      pub asks : ProbesEach sent incoming failures i true first i.targets.items [] old asked
      pub hears : HearsOut (record { socket = asked; reports = []; silences = 0 })
          (record { socket = new; reports = reports; silences = silences })

    -- they are the reports of a round up to this socket, if it tells what it sends and what comes
    pub record AreHeard (observable : Type 0) (reports : List Report) (ended : S) : Type 0 where
      pub of_round : AreOfRound i first reports
      pub heard : observable → (begun : S) × IsRound reports begun ended
