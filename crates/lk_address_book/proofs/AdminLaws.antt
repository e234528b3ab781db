-- What is barred, by the messages that bytes spell.
use Rattle.std.proofs.Common.{◌≡◌, ◌<◌, ℕ, Bool, true, false, not, ◌&&◌, ◌==◌, List, ◌++◌, get_or, refl, ap, sym, subst}
use Rattle.std.proofs.Common.{arith, ◌∙◌}
use Rattle.std.proofs.lemmas.Nat.{from_be_bytes-to_be_bytes_2}
use Rattle.lk_types.specs.declared.command.Op.{Op}
use Rattle.lk_types.specs.declared.command.Op.TheVariants.{Table, Join, Leave, Raise}
use Rattle.lk_types.specs.declared.command.Request.{Request}
use Rattle.lk_codec.specs.Fields.{two, four, eight, request}
use Rattle.lk_messages.specs.Grammar.{Spells, IsContent, header, kind, sender, fields, node_kind, node_fields}
use Rattle.lk_messages.specs.declared.message.Message.{Message}
use Rattle.lk_messages.specs.declared.message.Content.{Content}
use Rattle.lk_messages.specs.declared.message.Content.TheVariants as content
use Rattle.lk_messages.specs.declared.message.NodeMessage.{NodeMessage}
use Rattle.lk_messages.specs.declared.message.NodeMessage.TheVariants as kinds
use Rattle.lk_address_book.specs.declared.admins.Admins.{Admins}
use Rattle.lk_address_book.specs.declared.admins.Admins.TheVariants.{Everyone}
use Rattle.lk_address_book.specs.Admins.{bars, changes_cluster, is_admin, is_administrative}

-- a request of this client with this op
of_op : (a : Admins) (cluster client number : ℕ) (o : Op) → client < 65536
    → bars a (header 9 cluster 0 ++ request (record { client = client; number = number; op = o }))
    ≡ (changes_cluster o && not (is_admin a client))
unfolding two four eight
of_op a cluster client number (Table body) few =
    ap (λ (n : ℕ). (get_or body 0 0 == 6) && not (is_admin a n)) (from_be_bytes-to_be_bytes_2 client few)
of_op a cluster client number (Join node port) few =
    ap (λ (n : ℕ). not (is_admin a n)) (from_be_bytes-to_be_bytes_2 client few)
of_op a cluster client number (Leave node) few =
    ap (λ (n : ℕ). not (is_admin a n)) (from_be_bytes-to_be_bytes_2 client few)
of_op a cluster client number Raise few =
    ap (λ (n : ℕ). not (is_admin a n)) (from_be_bytes-to_be_bytes_2 client few)

pub bars_request : (a : Admins) (m : Message) (r : Request) (bytes : List ℕ) → Spells m bytes
    → m.content ≡ content.Request r → bars a bytes ≡ (changes_cluster r.op && not (is_admin a r.client))
bars_request a m r bytes spells is =
    let fits = subst IsContent is spells.0.1 in
    ap (bars a) spells.1
    ∙ ap (λ (c : Content). bars a (header (kind c) m.cluster (sender c) ++ fields c)) is
    ∙ of_op a m.cluster r.client r.number r.op (omega (arith, fits.0.1))

-- a node's message is no request
of_node : (a : Admins) (cluster node : ℕ) (said : NodeMessage)
    → bars a (header (node_kind said) cluster node ++ node_fields said) ≡ false
of_node a cluster node (kinds.Prepare b first) = refl
of_node a cluster node (kinds.Promise p) = refl
of_node a cluster node (kinds.Accept v) = refl
of_node a cluster node (kinds.Accepted v) = refl
of_node a cluster node (kinds.Nack n) = refl
of_node a cluster node (kinds.Decided d) = refl
of_node a cluster node (kinds.Want w) = refl
of_node a cluster node (kinds.Part p) = refl
of_node a cluster node (kinds.Answer x) = refl
of_node a cluster node (kinds.Elsewhere e) = refl
of_node a cluster node (kinds.Passed p) = refl
of_node a cluster node (kinds.Lead b executed) = refl

pub bars_no_node : (a : Admins) (m : Message) (node : ℕ) (said : NodeMessage) (bytes : List ℕ) → Spells m bytes
    → m.content ≡ content.Node node said → bars a bytes ≡ false
bars_no_node a m node said bytes spells is =
    ap (bars a) spells.1
    ∙ ap (λ (c : Content). bars a (header (kind c) m.cluster (sender c) ++ fields c)) is
    ∙ of_node a m.cluster node said

nothing_more : (b : Bool) → b && false ≡ false
nothing_more true = refl
nothing_more false = refl

pub everyone_may : (bytes : List ℕ) → bars Everyone bytes ≡ false
everyone_may bytes = nothing_more (is_administrative bytes)
