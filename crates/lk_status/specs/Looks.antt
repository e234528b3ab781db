-- A look at the members: two rounds of reports, one after the other.
use Rattle.std.specs.Prelude.{◌≡◌, ℕ, Bool, Option, Some, None, List, []}
use Rattle.std.specs.declared.net.socket_addr.SocketAddr.{SocketAddr}
use Rattle.lk_types.specs.declared.command.Op.{Op}
use Rattle.lk_probe.specs.declared.probe.Report.{Report}
use Rattle.lk_transport.specs.Streams.{Stream}
use Rattle.lk_status.specs.Changes.{IsJudged}
use Rattle.lk_status.specs.Measures.{IsFurthestNamedOf}
use Rattle.lk_status.specs.Rounds.{AreHeard}
use Rattle.lk_status.specs.Targets.{targets_at}
use Rattle.lk_status.specs.declared.target.Inquiry.{Inquiry}
use Rattle.lk_status.specs.declared.target.Target.{Target}

-- both ask the same cluster with the same key, of nodes at the same addresses
pub record AsksAlike (i j : Inquiry) : Type 0 where
  pub cluster : i.cluster ≡ j.cluster
  pub client : i.client ≡ j.client
  pub destination : i.destination ≡ j.destination

-- the targets that a report names: its members
abbrev pub targets_named : Option Report → List Target
targets_named None = []
targets_named (Some r) = targets_at r.status.members

-- they are the members that the furthest of these reports names
pub record AreNamedBy (rs : List Report) (targets : List Target) : Type 0 where
  pub furthest : Option Report
  pub is_furthest : IsFurthestNamedOf rs furthest
  pub are : targets ≡ targets_named furthest

module _ {S : Type 0} (sent : S → List (SocketAddr × List ℕ)) (incoming : S → Stream) (failures : S → ℕ)
    (observable : Type 0) where
  -- these are the reports of a round of that inquiry's asker, up to this socket, whomever it asked
  pub record AreOfAsker (i : Inquiry) (rs : List Report) (ended : S) : Type 0 where
    pub asked : Inquiry
    pub alike : AsksAlike asked i
    pub first : ℕ
    pub heard : AreHeard sent incoming failures asked first observable rs ended

  -- two rounds of reports were heard, of which the later asked the members that the furthest of the earlier names
  pub record AreLookedAt (i : Inquiry) (earlier rs : List Report) (ended : S) : Type 0 where
    pub between : S
    pub is_earlier : AreOfAsker i earlier between
    pub first : ℕ
    pub is_later : AreHeard sent incoming failures i first observable rs ended
    pub named : AreNamedBy earlier i.targets.items

  -- an op is judged to be safe, or not, by two rounds that were heard
  pub record IsShown (i : Inquiry) (op : Op) (safe : Bool) (ended : S) : Type 0 where
    pub earlier : List Report
    pub reports : List Report
    pub looked : AreLookedAt i earlier reports ended
    pub judged : IsJudged op earlier reports safe
