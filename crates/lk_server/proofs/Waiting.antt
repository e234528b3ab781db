-- What a server receives before a sync, with a pause if one is due.
use Rattle.std.proofs.Common.{◌≡◌, List, ℕ, Option, None, inl, inr, arith, sym, subst₂}
use Rattle.std.specs.declared.net.socket_addr.SocketAddr.{SocketAddr}
use Rattle.lk_transport.specs.Streams.{Stream, ComeWithin, first_of, listed}
use Rattle.lk_transport.proofs.Streaming.{receives_next, come_one, come_more, come_wider}
use Rattle.lk_server.specs.Pauses.{ReceivesOrPauses}

-- it is in two receives at most
pub pauses_within : (due : Type 0) (found : Option (SocketAddr × List ℕ)) (old new : Stream)
    → ReceivesOrPauses due found old new → ComeWithin 2 (listed found) old new
pauses_within due found old new r = elim r [
  | inl w ↦ come_wider (omega arith) (come_one found old new w.2)
  | inr p ↦
      elim p.2 [
        | inl d ↦ come_more (come_one None old p.0 p.1) (come_one found p.0 new d.1)
        | inr s ↦
            subst₂ (λ (o : Option (SocketAddr × List ℕ)) (last : Stream). ComeWithin 2 (listed o) old last) (sym s.1)
            (sym s.2) (come_wider (omega arith) (come_one None old p.0 p.1))
      ]
]

-- where nothing is found the first receive found nothing
pub pauses_none : (due : Type 0) (found : Option (SocketAddr × List ℕ)) (old new : Stream)
    → ReceivesOrPauses due found old new → found ≡ None → first_of old ≡ None
pauses_none due found old new r none = elim r [
  | inl w ↦ absurd (cc (none, w.1))
  | inr p ↦ receives_next None old p.0 p.1
]
