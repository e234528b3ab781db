use Rattle.std.proofs.Common.{◌≡◌, ℕ, ◌<◌, get_or}
use Rattle.lk_agreement_laws.specs.Datagrams.{Datagram}
use Rattle.lk_agreement_laws.specs.declared.party.Party.TheVariants as party
use Rattle.lk_healing.proofs.finding.place_of.Given as goal

abbrev pub invariant-places : goal.invariant-places
invariant-places l =
    (k : ℕ) (d : Datagram) → k < l.i → get_or l.fn.sent k d ≡ d → d.to ≡ party.Node l.fn.to → d.bytes ≡ l.fn.bytes → ⊥
