use Rattle.std.proofs.Common.{◌≡◌, ℕ, ◌<◌, get_or}
use Rattle.lk_types.specs.declared.vote.Vote.{Vote}
use Rattle.lk_agreement_laws.specs.Datagrams.{Datagram}
use Rattle.lk_healing.proofs.filling.offer_at.Given as goal
use Rattle.lk_healing.specs.Standing.{IsOfferIn}

abbrev pub invariant-datagrams : goal.invariant-datagrams
invariant-datagrams l =
    (k : ℕ) (d : Datagram) (v : Vote) → k < l.i → get_or l.fn.sent k d ≡ d
    → IsOfferIn d l.fn.node l.fn.asking l.fn.position v → ⊥
