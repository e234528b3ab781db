-- What fits goes on fitting as more is sent and asked.
use Rattle.std.proofs.Common.{ℕ, List, ◌++◌, Contains}
use Rattle.lk_disk.specs.Disk.{Disk}
use Rattle.lk_disk.specs.declared.device.Side.{Side}
use Rattle.lk_state.specs.Meanings.{Meaning}
use Rattle.lk_agreement_laws.specs.Acceptors.{AcceptorState, CoversSent}
use Rattle.lk_agreement_laws.specs.Nodes.{PaxosState, Stems, PaxosFits}
use Rattle.lk_agreement_laws.proofs.Histories.{still_chosen_at}
use Rattle.lk_agreement_laws.proofs.Histories.{still_slice}
use Rattle.lk_node_interface.specs.declared.note.Note.{Note}
use Rattle.lk_node_interface.specs.declared.note.Note.TheVariants as note
use Rattle.lk_node.specs.Histories.{History, Genesis, Datagram, Command, Noop, Request, RequestValue, WasAsked}
use Rattle.lk_node.specs.BorneOut.{text, BearsOut}
use Rattle.lk_node.specs.Holdings.{Holding, HoldingFits}
use Rattle.lk_node.specs.Leavings.{DisksFit}

-- images fit to another history that they cover, and from which they stem
pub disks_move : (m : Meaning) (genesis : Genesis) (sent now : List Datagram) (asked since : List RequestValue)
    (n : ℕ) (disks : Side → Disk)
    → ((s : AcceptorState) → CoversSent genesis sent n s → CoversSent genesis now n s)
    → ((w : PaxosState) → Stems genesis sent w → Stems genesis now w)
    → DisksFit m (record { genesis = genesis; sent = sent; asked = asked }) n disks
    → DisksFit m (record { genesis = genesis; sent = now; asked = since }) n disks
disks_move m genesis sent now asked since n disks covers stems f image may =
    let i = f image may in
    record {
      standing = i.standing;
      stands = i.stands;
      under = i.under;
      position = i.position;
      snapshot = i.snapshot;
      covers = covers _ i.covers;
      stems = stems _ i.stems;
      near = i.near;
    }

module _ (genesis : Genesis) (sent more : List Datagram) (asked since : List RequestValue)
    (among : (r : RequestValue) → Contains asked r → Contains since r) where
  abbrev before : History
  before = record { genesis = genesis; sent = sent; asked = asked }

  abbrev after : History
  after = record { genesis = genesis; sent = sent ++ more; asked = since }

  pub still_asked : (v : Command) → WasAsked before v → WasAsked after v
  still_asked Noop a = tt
  still_asked (Request r) a = among r a

  pub still_holding : (m : Meaning) (n : ℕ) (x : Holding) → PaxosFits genesis (sent ++ more) n x.paxos
      → HoldingFits m before n x → HoldingFits m after n x
  still_holding m n x paxos f = record {
    paxos = paxos;
    waiting = λ r c. among r (f.waiting r c);
    proposals = λ t at i v c. still_asked v (f.proposals t at i v c);
    gathered = λ g at. still_slice genesis sent more (text m genesis) g.position g.total 0 g.bytes (f.gathered g at);
  }

  pub still_bears : (m : Meaning) (L : List Command) (x : Note) → BearsOut m before L x → BearsOut m after L x
  still_bears m L (note.Asked r) b = among r b
  still_bears m L (note.Counted node i set v) b = (b.0, b.1, still_chosen_at genesis sent more i v b.2)
  still_bears m L (note.Ran node i v) b = b
  still_bears m L (note.Answered node client number answer) b = b
  still_bears m L (note.Told node client number last) b = b
