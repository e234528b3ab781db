-- Who sealed a probe that is kept.
use Rattle.std.proofs.Common.{◌≡◌, ◌≢◌, ◌⊎◌, inl, inr, ◌==◌, ◌<◌, ◌^◌, ℕ, List, [], ◌∷◌, length, Option, Some, None}
use Rattle.std.proofs.Common.{lit<, ap, sym, subst, ◌∙◌, refl, arith, slice_index}
use Rattle.std.specs.Prelude.{IfSome, IsSome}
use Rattle.std.proofs.lemmas.Nat.{from_be_bytes-to_be_bytes_2}
use Rattle.std.specs.declared.net.socket_addr.SocketAddr.{SocketAddr}
use Rattle.lk_types.specs.Ranges.{IsClient}
use Rattle.lk_codec.specs.Fields.{two, four, eight}
use Rattle.lk_probe.specs.Grammar.{or_zero, padded, probe_spelling, SpellsProbe}
use Rattle.lk_probe.specs.declared.probe.Probe.{Probe}
use Rattle.lk_auth.specs.Clients.{client_in}
use Rattle.lk_auth.specs.Seals.{key_list, to_node, opened_by, only_request, heard_of_client, said_or, heard_with, heard}
use Rattle.lk_auth.specs.Seals.{IsSealedBy}
use Rattle.lk_auth.specs.Vouching.{IsSealedByClient}
use Rattle.lk_auth.specs.declared.frame.Scope.{Scope}
use Rattle.lk_auth.specs.declared.seals.Seals.{Seals}
use Rattle.lk_auth.proofs.FrameLaws.{either_way}
use Rattle.lk_auth.proofs.VouchLaws.{opened_by_is, is_of_who_it_names}
use Rattle.lk_transport.specs.Askers.{BringsProbe}
use Rattle.lk_transport.specs.declared.received_probe.ReceivedProbe.{ReceivedProbe}
use Rattle.lk_server.specs.Premises.{IsProbedByANode, IsProbedByWhomItNames}

-- ---- the bytes of a probe

is_some : (p : Probe) (bytes : List ℕ) → SpellsProbe p bytes → bytes ≡ [] → ⊥
unfolding padded
is_some p bytes spelled none =
    let empty : [] ≡ probe_spelling p = sym none ∙ spelled.1 in
    absurd cc

most_of : (o : Option ℕ) → IfSome o IsClient → or_zero o < 2 ^ 16
most_of None fits = lit< tt
most_of (Some n) fits = omega (arith, fits.1)

names_its_client : (p : Probe) (bytes : List ℕ) → SpellsProbe p bytes → client_in bytes ≡ or_zero p.client
unfolding padded two four eight
names_its_client p bytes spelled =
    rw spelled.1 (from_be_bytes-to_be_bytes_2 (or_zero p.client) (most_of p.client spelled.0.2))

-- ---- nodes and clients have keys

pub by_whom_it_names : (s : Seals) (d : SocketAddr × List ℕ) (a : ReceivedProbe) → key_list s.nodes ≢ []
    → key_list s.clients ≢ [] → BringsProbe s d (Some a) → IsProbedByWhomItNames s d.1 a.probe
by_whom_it_names s d a some masters kept = elim (is_of_who_it_names s d.1 some masters) [
  | inl told ↦ inl told
  | inr (inl none) ↦ absurd (is_some a.probe (heard s d.1) kept.1.spelled none)
  | inr (inr loopback) ↦ inr (subst (λ (n : ℕ). IsSealedByClient s n d.1 (heard s d.1))
      (names_its_client a.probe (heard s d.1) kept.1.spelled) loopback)
]

-- ---- the nodes alone have a key

only_is : (frame : List ℕ) → (only_request frame ≡ []) ⊎ (only_request frame ≡ frame)
only_is frame = elim (either_way (slice_index frame 3 == 9)) [
  | inl is ↦ rw is (inr refl)
  | inr differs ↦ rw differs (inl refl)
]

opened_or_as_it_is : (keys : List (List ℕ)) (scope : Scope) (frame other : List ℕ) (o : Option (List ℕ))
    → opened_by keys scope frame ≡ o → (other ≡ []) ⊎ (other ≡ frame)
    → IsSealedBy keys scope frame (said_or o other) ⊎ (said_or o other ≡ []) ⊎ (said_or o other ≡ frame)
opened_or_as_it_is keys scope frame other None e loopback = inr loopback
opened_or_as_it_is keys scope frame other (Some d) e loopback = inl (opened_by_is keys scope frame d e)

heard_as_it_is : (keys : List (List ℕ)) (s : Seals) (frame : List ℕ) → keys ≢ [] → key_list s.clients ≡ []
    → IsSealedBy keys (to_node s s.node) frame (heard_with keys s frame) ⊎ (heard_with keys s frame ≡ [])
    ⊎ (heard_with keys s frame ≡ frame)
heard_as_it_is [] s frame some none = absurd (some refl)
heard_as_it_is (key ∷ keys) s frame some none =
    opened_or_as_it_is (key ∷ keys) (to_node s s.node) frame (heard_of_client (key_list s.clients) s.cluster frame)
    (opened_by (key ∷ keys) (to_node s s.node) frame) refl
    (subst (λ (masters : List (List ℕ)). (heard_of_client masters s.cluster frame ≡ [])
    ⊎ (heard_of_client masters s.cluster frame ≡ frame)) (sym none) (only_is frame))

pub by_a_node : (s : Seals) (d : SocketAddr × List ℕ) (a : ReceivedProbe) → key_list s.nodes ≢ []
    → key_list s.clients ≡ [] → IsSome a.probe.origin → BringsProbe s d (Some a) → IsProbedByANode s d.1
by_a_node s d a some none names kept = elim (heard_as_it_is (key_list s.nodes) s d.1 some none) [
  | inl told ↦ told
  | inr (inl empty) ↦ absurd (is_some a.probe (heard s d.1) kept.1.spelled empty)
  | inr (inr same) ↦ absurd (kept.1.sealed names some (sym (ap length same)))
]
