-- Where the slices of a datagram lie.
use Rattle.std.proofs.Common.{◌≡◌, ℕ, ◌+◌, List, ◌++◌, length, drop, refl, sym, ap, subst, ◌∙◌}
use Rattle.std.proofs.Math.Seq.{drop-append-add}
use Rattle.std.proofs.lemmas.List.{length-append}
use Rattle.lk_messages.specs.declared.message.NodeMessage.TheVariants as kinds
use Rattle.lk_messages.specs.declared.message.Content.{Content}
use Rattle.lk_messages.specs.declared.message.Content.TheVariants as content
use Rattle.lk_messages.specs.declared.message.Message.{Message}
use Rattle.lk_codec.specs.Fields.{two, four, eight, ballot}
use Rattle.lk_messages.specs.Grammar.{fields, header, kind, sender, Spells}
use Rattle.lk_wire.specs.Shown.{LieAtTheirOffsets}
use Rattle.lk_codec.proofs.Spellings.{length-two, length-four, length-eight}
use Rattle.lk_messages.proofs.Spellings.{length-ballot}

-- what lies so far into the rest lies that much further into all
past : (front rest slice : List ℕ) (n k : ℕ) → length front ≡ n → drop k rest ≡ slice
    → drop (n + k) (front ++ rest) ≡ slice
past front rest slice n k e is =
    ap (λ (m : ℕ). drop (m + k) (front ++ rest)) (sym e) ∙ drop-append-add front rest k ∙ is

length-header : (k cluster from : ℕ) → length (header k cluster from) ≡ 16
length-header k cluster from = simp (length-append, length-four, length-eight)

-- of whatever has a header of sixteen bytes
lie : (c : Content) (h : List ℕ) → length h ≡ 16 → LieAtTheirOffsets c (h ++ fields c)
lie (content.Request r) h e = past h _ _ 16 0 e refl
lie (content.Node node (kinds.Promise p)) h e =
    past h _ _ 16 21 e (past (ballot p.ballot) _ _ 12 9 (length-ballot p.ballot)
    (past (eight p.first) _ _ 8 1 (length-eight p.first) refl))
lie (content.Node node (kinds.Accept v)) h e =
    past h _ _ 16 20 e (past (ballot v.ballot) _ _ 12 8 (length-ballot v.ballot)
    (past (eight v.position) _ _ 8 0 (length-eight v.position) refl))
lie (content.Node node (kinds.Accepted v)) h e =
    past h _ _ 16 20 e (past (ballot v.ballot) _ _ 12 8 (length-ballot v.ballot)
    (past (eight v.position) _ _ 8 0 (length-eight v.position) refl))
lie (content.Node node (kinds.Decided d)) h e =
    past h _ _ 16 9 e (past (eight d.first) _ _ 8 1 (length-eight d.first) refl)
lie (content.Node node (kinds.Part p)) h e =
    past h _ _ 16 18 e (past (eight p.position) _ _ 8 10 (length-eight p.position)
    (past (four p.total) _ _ 4 6 (length-four p.total)
    (past (four p.offset) _ _ 4 2 (length-four p.offset)
    (past (two (length p.bytes)) _ _ 2 0 (length-two (length p.bytes)) refl))))
lie (content.Node node (kinds.Prepare b first)) h e = tt
lie (content.Node node (kinds.Nack n)) h e = tt
lie (content.Node node (kinds.Want w)) h e = tt
lie (content.Node node (kinds.Answer a)) h e = tt
lie (content.Node node (kinds.Elsewhere f)) h e = tt
lie (content.Node node (kinds.Passed p)) h e = tt
lie (content.Node node (kinds.Lead b executed)) h e = tt

-- each slice lies at its offset in whatever spells the message
pub lie_at_their_offsets : (m : Message) (bytes : List ℕ) → Spells m bytes → LieAtTheirOffsets m.content bytes
lie_at_their_offsets m bytes s =
    subst (λ (b : List ℕ). LieAtTheirOffsets m.content b) (sym s.1)
    (lie m.content (header (kind m.content) m.cluster (sender m.content))
    (length-header (kind m.content) m.cluster (sender m.content)))
