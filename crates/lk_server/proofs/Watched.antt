-- Who sealed a watch that is kept.
use Rattle.std.proofs.Common.{◌≡◌, ◌≢◌, inl, inr, ◌∙◌, ℕ, List, [], Some, sym, subst}
use Rattle.std.specs.declared.net.socket_addr.SocketAddr.{SocketAddr}
use Rattle.lk_auth.specs.Seals.{key_list, heard}
use Rattle.lk_auth.specs.Vouching.{IsSealedByClient}
use Rattle.lk_auth.specs.declared.seals.Seals.{Seals}
use Rattle.lk_auth.proofs.VouchLaws.{is_of_who_it_names}
use Rattle.lk_watch.specs.Grammar.{SpellsWatch, watch_spelling}
use Rattle.lk_watch.specs.declared.watch.Watch.{Watch}
use Rattle.lk_watch.proofs.DatagramLaws.{names_its_client}
use Rattle.lk_transport.specs.Watches.{BringsWatch}
use Rattle.lk_transport.specs.declared.received_watch.ReceivedWatch.{ReceivedWatch}
use Rattle.lk_server.specs.Premises.{IsWatchedByItsClient}

is_some : (w : Watch) (bytes : List ℕ) → SpellsWatch w bytes → bytes ≡ [] → ⊥
is_some w bytes spelled none =
    let empty : [] ≡ watch_spelling w = sym none ∙ spelled.1 in
    absurd cc

pub by_its_client : (s : Seals) (d : SocketAddr × List ℕ) (r : ReceivedWatch) → key_list s.nodes ≢ []
    → key_list s.clients ≢ [] → BringsWatch s d (Some r) → IsWatchedByItsClient s d.1 r.watch
by_its_client s d r some masters kept = elim (is_of_who_it_names s d.1 some masters) [
  | inl told ↦ inl told
  | inr (inl none) ↦ absurd (is_some r.watch (heard s d.1) kept.1.spelled none)
  | inr (inr own) ↦ inr (subst (λ (n : ℕ). IsSealedByClient s n d.1 (heard s d.1))
      (names_its_client r.watch (heard s d.1) kept.1.spelled) own)
]
