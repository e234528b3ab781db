-- What no node says.
use Rattle.std.proofs.Common.{◌≡◌, ◌≢◌, ◌⊎◌, inl, inr, ℕ, List, [], ap, sym, subst, ◌∙◌, refl, arith, slice_index, ◌++◌}
use Rattle.std.proofs.lemmas.Nat.{from_be_bytes-to_be_bytes_2}
use Rattle.lk_types.specs.declared.command.Request.{Request}
use Rattle.lk_codec.specs.Fields.{two, four, eight}
use Rattle.lk_types.specs.Ranges.{IsClient}
use Rattle.lk_messages.specs.Grammar.{spelling, kind, sender, fields, header, Spells, IsContent}
use Rattle.lk_messages.specs.declared.message.Message.{Message}
use Rattle.lk_messages.specs.declared.message.Content.{Content}
use Rattle.lk_messages.specs.declared.message.Content.TheVariants as content
use Rattle.lk_messages.specs.declared.message.NodeMessage.TheVariants as kinds
use Rattle.lk_auth.specs.Seals.{key_list, heard, IsOfNoNode}
use Rattle.lk_auth.specs.declared.seals.Seals.{Seals}
use Rattle.lk_auth.specs.Clients.{client_in}
use Rattle.lk_auth.specs.Vouching.{IsSealedByClient}
use Rattle.lk_auth.proofs.VouchLaws.{is_vouched, is_of_who_it_names}
use Rattle.lk_node.specs.NodeValue.{NodeValue}
use Rattle.lk_node.specs.Steps.{IsForeign}
use Rattle.lk_server.specs.Premises.{IsNoNodeMessage, IsFromANode, IsToldOrAsked, IsUnsealed}

-- a message of kind 9 is a request
of_kind_9 : (c : Content) → kind c ≡ 9 → (r : Request) × (c ≡ content.Request r)
of_kind_9 (content.Request r) e = (r, refl)
of_kind_9 (content.Node node (kinds.Prepare b first)) e = absurd (omega (arith, e))
of_kind_9 (content.Node node (kinds.Promise p)) e = absurd (omega (arith, e))
of_kind_9 (content.Node node (kinds.Accept v)) e = absurd (omega (arith, e))
of_kind_9 (content.Node node (kinds.Accepted v)) e = absurd (omega (arith, e))
of_kind_9 (content.Node node (kinds.Nack n)) e = absurd (omega (arith, e))
of_kind_9 (content.Node node (kinds.Decided d)) e = absurd (omega (arith, e))
of_kind_9 (content.Node node (kinds.Want w)) e = absurd (omega (arith, e))
of_kind_9 (content.Node node (kinds.Part p)) e = absurd (omega (arith, e))
of_kind_9 (content.Node node (kinds.Answer a)) e = absurd (omega (arith, e))
of_kind_9 (content.Node node (kinds.Elsewhere x)) e = absurd (omega (arith, e))
of_kind_9 (content.Node node (kinds.Passed p)) e = absurd (omega (arith, e))
of_kind_9 (content.Node node (kinds.Lead b executed)) e = absurd (omega (arith, e))

free : (bytes : List ℕ) → IsOfNoNode bytes → IsNoNodeMessage bytes
free bytes (inl none) m spells =
    let empty : [] ≡ spelling m = sym none ∙ spells.1 in
    absurd cc
free bytes (inr is) m spells = of_kind_9 m.content (sym (ap (λ (l : List ℕ). slice_index l 3) spells.1) ∙ is)

pub told_by_a_node : (s : Seals) (frame : List ℕ) → key_list s.nodes ≢ [] → IsFromANode s frame
told_by_a_node s frame some = elim (is_vouched s frame some) [
  | inl sealed ↦ inl sealed
  | inr other ↦ inr (free (heard s frame) other)
]

-- the client that stands in the bytes of a request
request_names : (m : Message) (r : Request) → m.content ≡ content.Request r → IsClient r.client
    → client_in (spelling m) ≡ r.client
unfolding two four eight
request_names m r is fits =
    ap (λ (c : Content). client_in (header (kind c) m.cluster (sender c) ++ fields c)) is
    ∙ from_be_bytes-to_be_bytes_2 r.client (omega (arith, fits.1))

-- what spells a request, and was sealed by the client that it names
asked : (s : Seals) (frame bytes : List ℕ) → IsNoNodeMessage bytes
    → (bytes ≡ []) ⊎ IsSealedByClient s (client_in bytes) frame bytes
    → (m : Message) → Spells m bytes
    → (r : Request) × (m.content ≡ content.Request r) × IsSealedByClient s r.client frame bytes
asked s frame bytes free (inl none) m spells =
    let empty : [] ≡ spelling m = sym none ∙ spells.1 in
    absurd cc
asked s frame bytes free (inr loopback) m spells =
    let request = free m spells in
    let fits = subst IsContent request.1 spells.0.1 in
    let names : client_in bytes ≡ request.0.client = ap client_in spells.1
    ∙ request_names m request.0 request.1 fits.0 in
    (request.0, request.1, subst (λ (n : ℕ). IsSealedByClient s n frame bytes) names loopback)

pub told_or_asked : (s : Seals) (frame : List ℕ) → key_list s.nodes ≢ []
    → key_list s.clients ≢ [] → IsToldOrAsked s frame
told_or_asked s frame some masters = elim (told_by_a_node s frame some) [
  | inl told ↦ inl told
  | inr none_says ↦ elim (is_of_who_it_names s frame some masters) [
    | inl told ↦ inl told
    | inr loopback ↦ inr (asked s frame (heard s frame) none_says loopback)
  ]
]

-- what nobody has sealed opens to nothing
pub unsealed_opens : (s : Seals) (frame : List ℕ) → key_list s.nodes ≢ [] → key_list s.clients ≢ []
    → IsUnsealed s frame → heard s frame ≡ []
unsealed_opens s frame some masters unsealed = elim (is_of_who_it_names s frame some masters) [
  | inl by_node ↦ absurd (unsealed.by_nodes (heard s frame) by_node)
  | inr (inl none) ↦ none
  | inr (inr by_client) ↦ absurd (unsealed.by_clients (client_in (heard s frame)) (heard s frame) by_client)
]

-- nothing spells no message
pub empty_is_foreign : (node : NodeValue) → IsForeign node []
empty_is_foreign node m spells same =
    let empty : [] ≡ spelling m = spells.1 in
    absurd cc
