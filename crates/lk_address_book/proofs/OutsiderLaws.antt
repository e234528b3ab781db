-- Which Wants are an outsider's, by the messages that bytes spell.
use Rattle.std.proofs.Common.{◌≡◌, ◌<◌, ℕ, Bool, true, false, ◌&&◌, nat_lt, List, ◌++◌, refl, ap, sym, subst}
use Rattle.std.proofs.Common.{arith, ◌∙◌}
use Rattle.std.proofs.lemmas.Nat.{from_be_bytes-to_be_bytes_4}
use Rattle.lk_types.specs.declared.command.Request.{Request}
use Rattle.lk_codec.specs.Fields.{two, four, eight}
use Rattle.lk_messages.specs.Grammar.{Spells, IsContent, header, kind, sender, fields, node_kind, node_fields}
use Rattle.lk_messages.specs.Values.{WantValue}
use Rattle.lk_messages.specs.declared.message.Message.{Message}
use Rattle.lk_messages.specs.declared.message.Content.{Content}
use Rattle.lk_messages.specs.declared.message.Content.TheVariants as content
use Rattle.lk_messages.specs.declared.message.NodeMessage.{NodeMessage}
use Rattle.lk_messages.specs.declared.message.NodeMessage.TheVariants as kinds
use Rattle.lk_address_book.specs.Outsiders.{is_outsiders_want}

-- a Want of this node
of_want : (joined cluster node : ℕ) (w : WantValue) → node < 4294967296
    → is_outsiders_want joined (header 7 cluster node ++ node_fields (kinds.Want w)) ≡ nat_lt joined node
unfolding two four eight
of_want joined cluster node w few = ap (λ (n : ℕ). nat_lt joined n) (from_be_bytes-to_be_bytes_4 node few)

-- the bytes of a message, by its content
by_content : (joined : ℕ) (m : Message) (bytes : List ℕ) (x : Content) → Spells m bytes → m.content ≡ x
    → is_outsiders_want joined bytes ≡ is_outsiders_want joined (header (kind x) m.cluster (sender x) ++ fields x)
by_content joined m bytes x spells is =
    ap (is_outsiders_want joined) spells.1
    ∙ ap (λ (c : Content). is_outsiders_want joined (header (kind c) m.cluster (sender c) ++ fields c)) is

pub drops_want : (joined : ℕ) (m : Message) (node : ℕ) (w : WantValue) (bytes : List ℕ) → Spells m bytes
    → m.content ≡ content.Node node (kinds.Want w) → is_outsiders_want joined bytes ≡ nat_lt joined node
drops_want joined m node w bytes spells is =
    let fits = subst IsContent is spells.0.1 in
    by_content joined m bytes (content.Node node (kinds.Want w)) spells is
    ∙ of_want joined m.cluster node w (omega (arith, fits.0))

-- another message of a node
of_other : (joined cluster node : ℕ) (said : NodeMessage) → ((w : WantValue) → said ≡ kinds.Want w → ⊥)
    → is_outsiders_want joined (header (node_kind said) cluster node ++ node_fields said) ≡ false
of_other joined cluster node (kinds.Prepare b first) none = refl
of_other joined cluster node (kinds.Promise p) none = refl
of_other joined cluster node (kinds.Accept v) none = refl
of_other joined cluster node (kinds.Accepted v) none = refl
of_other joined cluster node (kinds.Nack n) none = refl
of_other joined cluster node (kinds.Decided d) none = refl
of_other joined cluster node (kinds.Want w) none = absurd (none w refl)
of_other joined cluster node (kinds.Part p) none = refl
of_other joined cluster node (kinds.Answer x) none = refl
of_other joined cluster node (kinds.Elsewhere e) none = refl
of_other joined cluster node (kinds.Passed p) none = refl
of_other joined cluster node (kinds.Lead b executed) none = refl

pub drops_no_other : (joined : ℕ) (m : Message) (node : ℕ) (said : NodeMessage) (bytes : List ℕ) → Spells m bytes
    → m.content ≡ content.Node node said → ((w : WantValue) → said ≡ kinds.Want w → ⊥)
    → is_outsiders_want joined bytes ≡ false
drops_no_other joined m node said bytes spells is none =
    by_content joined m bytes (content.Node node said) spells is ∙ of_other joined m.cluster node said none

pub drops_no_request : (joined : ℕ) (m : Message) (r : Request) (bytes : List ℕ) → Spells m bytes
    → m.content ≡ content.Request r → is_outsiders_want joined bytes ≡ false
drops_no_request joined m r bytes spells is = by_content joined m bytes (content.Request r) spells is
