-- A datagram reads what its spelling is.
use Rattle.std.proofs.Common.{◌≡◌, ℕ, suc, ◌^◌, ◌<◌, true, eqb, ◌&&◌, List, [], ◌∷◌, ◌++◌, Some, None, refl, sym, ap}
use Rattle.std.proofs.Common.{subst, ◌∙◌, append_assoc, arith, inl, inr}
use Rattle.std.proofs.lemmas.Bool.{eqb-true}
use Rattle.std.proofs.lemmas.Bool.Decides.{nat_tests}
use Rattle.std.proofs.lemmas.List.{append-nil}
use Rattle.lk_types.specs.Ranges.{IsNode}
use Rattle.lk_types.specs.Commands.{IsRequest}
use Rattle.lk_messages.specs.declared.message.Content.{Content}
use Rattle.lk_messages.specs.declared.message.Content.TheVariants as content
use Rattle.lk_messages.specs.declared.message.Message.{Message}
use Rattle.lk_codec.specs.Fields.{one, four, eight, request}
use Rattle.lk_messages.specs.Grammar.{kind, sender, fields, header, spelling, IsContent, IsMessage, Spells}
use Rattle.lk_codec.specs.Parser.{◌>>=◌, read_byte, both, made}
use Rattle.lk_codec.specs.FieldReading.{is_from_1_to, read_four, read_eight, read_request}
use Rattle.lk_messages.specs.Reading.{read_node_message, read_asked, content_of, read_header, read_message, all_of}
use Rattle.lk_codec.proofs.Spellings.{IsBytes, bind_ok, chosen, some_is, Took, Reads, both_reads, made_as, byte_reads}
use Rattle.lk_codec.proofs.Spellings.{one_front, whole_takes, whole_again, four_reads, eight_reads, is_in, passes}
use Rattle.lk_codec.proofs.Spellings.{request_reads}
use Rattle.lk_messages.proofs.MessageLaws.{node_takes, node_again, kind_fits, kind_other}

-- ---- after the header

-- what stands after a header of this kind and sender
record Holds (k from : ℕ) (bytes : List ℕ) (c : Content) (rest : List ℕ) : Type 0 where
  kind_is : kind c ≡ k
  sender_is : sender c ≡ from
  took : Took fields IsContent bytes c rest

asked_takes : (k from : ℕ) (bytes : List ℕ) (c : Content) (rest : List ℕ) → k ≡ 9 → IsBytes bytes
    → read_asked from bytes ≡ Some (c, rest) → Holds k from bytes c rest
unfolding read_asked
asked_takes k from bytes c rest k9 h e =
    elim (chosen (eqb from 0) (made content.Request read_request bytes) None (Some (c, rest)) e) [
      | inl nobody ↦ made_as content.Request read_request request IsRequest request_reads
          (Holds k from bytes) bytes c rest h nobody.1
          (λ r t. record {
            kind_is = sym k9;
            sender_is = sym (eqb-true _ _ nobody.0);
            took = record { parts = t.parts; rest_fits = t.rest_fits; fits = t.fits };
          })
      | inr failing ↦ let bad = failing.1 in absurd cc
    ]

told_takes : (k from : ℕ) (bytes : List ℕ) (c : Content) (rest : List ℕ) → IsNode from → IsBytes bytes
    → made (content.Node from) (read_node_message k) bytes ≡ Some (c, rest) → Holds k from bytes c rest
told_takes k from bytes c rest node h e =
    let a = bind_ok (read_node_message k bytes) (λ a. Some (content.Node from a.0, a.1)) (c, rest) e in
    let b = node_takes.takes k bytes a.0.0 a.0.1 h a.1 in
    let read : Content × List ℕ = (content.Node from a.0.0, a.0.1) in
    subst (λ (z : Content × List ℕ). Holds k from bytes z.0 z.1) (some_is read (c, rest) a.2)
    (record {
      kind_is = b.tag_is;
      sender_is = refl;
      took = record { parts = b.took.parts; rest_fits = b.took.rest_fits; fits = (node, b.took.fits) };
    })

content_takes : (k from : ℕ) (bytes : List ℕ) (c : Content) (rest : List ℕ) → IsBytes bytes
    → content_of k from bytes ≡ Some (c, rest) → Holds k from bytes c rest
unfolding content_of
content_takes k from bytes c rest h e =
    elim (chosen (eqb k 9) _ _ (Some (c, rest)) e) [
      | inl asked ↦ asked_takes k from bytes c rest (eqb-true _ _ asked.0) h asked.1
      | inr told ↦ elim (chosen (is_from_1_to 2147483648 from) _ _ (Some (c, rest)) told.1) [
        | inl node ↦ told_takes k from bytes c rest (is_in 2147483648 from node.0) h node.1
        | inr failing ↦ let bad = failing.1 in absurd cc
      ]
    ]

content_again : (c : Content) (rest : List ℕ) → IsContent c
    → content_of (kind c) (sender c) (fields c ++ rest) ≡ Some (c, rest)
unfolding content_of read_asked
content_again (content.Request r) rest fits = rw (request_reads.again r rest fits) refl
content_again (content.Node node m) rest fits =
    rw (kind_other m, passes 2147483648 node fits.0.0 fits.0.1, node_again m rest fits.1) refl

-- ---- the header

-- the kind, the cluster and the sender
abbrev plain : ℕ × (ℕ × ℕ) → List ℕ
plain h = one h.0 ++ (eight h.1.0 ++ four h.1.1)

abbrev IsHeader : ℕ × (ℕ × ℕ) → Type 0
IsHeader h = (h.0 < 256) × ((h.1.0 < 2 ^ 64) × (h.1.1 < 2 ^ 32))

plain_reads : Reads (both read_byte (both read_eight read_four)) plain IsHeader
plain_reads = both_reads read_byte one (λ n. n < 256) _ _ _ byte_reads
    (both_reads read_eight eight (λ n. n < 2 ^ 64) read_four four (λ n. n < 2 ^ 32) eight_reads four_reads)

abbrev header_of : ℕ × (ℕ × ℕ) → List ℕ
header_of h = header h.0 h.1.0 h.1.1

letters : (a b c : ℕ) → (eqb a 76 && eqb b 75 && eqb c 1) ≡ true → (a ≡ 76) × (b ≡ 75) × (c ≡ 1)
letters a b c e = grind (arith, nat_tests)

header_takes : (bytes : List ℕ) (x : ℕ × (ℕ × ℕ)) (rest : List ℕ) → IsBytes bytes → read_header bytes ≡ Some (x, rest)
    → Took header_of IsHeader bytes x rest
unfolding read_header
header_takes (a ∷ b ∷ c ∷ bytes) x rest h e =
    elim (chosen (eqb a 76 && eqb b 75 && eqb c 1) _ _ (Some (x, rest)) e) [
      | inr failing ↦ let bad = failing.1 in absurd cc
      | inl passing ↦
          let are = letters a b c passing.0 in
          let t = plain_reads.takes bytes x rest (λ i. h (suc (suc (suc i)))) passing.1 in
          record {
            parts = rw (are.0, are.1, are.2) (ap (λ (r : List ℕ). 76 ∷ 75 ∷ 1 ∷ r) t.parts);
            rest_fits = t.rest_fits;
            fits = t.fits;
          }
    ]
header_takes [] x rest h e = absurd cc
header_takes (a ∷ []) x rest h e = absurd cc
header_takes (a ∷ b ∷ []) x rest h e = absurd cc

header_reads : Reads read_header header_of IsHeader
unfolding read_header
header_reads = record { takes = header_takes; again = λ x rest fits. plain_reads.again x rest fits }

-- ---- a message

kind_is_byte : (c : Content) → kind c < 256
kind_is_byte (content.Request r) = omega arith
kind_is_byte (content.Node node m) = kind_fits m

sender_fits : (c : Content) → IsContent c → sender c < 2 ^ 32
sender_fits (content.Request r) f = omega arith
sender_fits (content.Node node m) f = omega (arith, f.0)

joined : (bytes front other mid first rest : List ℕ) → bytes ≡ front ++ mid → mid ≡ first ++ rest → other ≡ front
    → bytes ≡ (other ++ first) ++ rest
joined bytes front other mid first rest p q e =
    p ∙ ap (λ (w : List ℕ). front ++ w) q ∙ ap (λ (w : List ℕ). w ++ (first ++ rest)) (sym e)
    ∙ sym (append_assoc other first rest)

message_takes : (bytes : List ℕ) (m : Message) (rest : List ℕ) → IsBytes bytes → read_message bytes ≡ Some (m, rest)
    → Took spelling IsMessage bytes m rest
unfolding read_message
message_takes bytes m rest h e =
    let a = bind_ok (read_header bytes)
    (λ h. content_of h.0.0 h.0.1.1 h.1 >>= λ c. Some (record { cluster = h.0.1.0; content = c.0 }, c.1)) (m, rest) e in
    let b = bind_ok (content_of a.0.0.0 a.0.0.1.1 a.0.1)
    (λ c. Some (record { cluster = a.0.0.1.0; content = c.0 }, c.1)) (m, rest) a.2 in
    let first = header_reads.takes bytes a.0.0 a.0.1 h a.1 in
    let second = content_takes a.0.0.0 a.0.0.1.1 a.0.1 b.0.0 b.0.1 first.rest_fits b.1 in
    let front : header (kind b.0.0) a.0.0.1.0 (sender b.0.0) ≡ header_of a.0.0 =
    rw (second.kind_is, second.sender_is) refl in
    let read : Message × List ℕ = (record { cluster = a.0.0.1.0; content = b.0.0 }, b.0.1) in
    subst (λ (z : Message × List ℕ). Took spelling IsMessage bytes z.0 z.1) (some_is read (m, rest) b.2)
    (record {
      parts = joined bytes (header_of a.0.0) (header (kind b.0.0) a.0.0.1.0 (sender b.0.0)) a.0.1
          (fields b.0.0) b.0.1 first.parts second.took.parts front;
      rest_fits = second.took.rest_fits;
      fits = (first.fits.1.0, second.took.fits);
    })

message_again : (m : Message) (rest : List ℕ) → IsMessage m → read_message (spelling m ++ rest) ≡ Some (m, rest)
unfolding read_message
message_again m rest fits =
    ap read_message (append_assoc (header (kind m.content) m.cluster (sender m.content)) (fields m.content) rest)
    ∙ rw (
      header_reads.again (kind m.content, (m.cluster, sender m.content)) (fields m.content ++ rest)
          (kind_is_byte m.content, (fits.0, sender_fits m.content fits.1)),
      content_again m.content rest fits.1,
    ) refl

pub message_reads : Reads read_message spelling IsMessage
message_reads = record { takes = message_takes; again = message_again }

-- ---- what a view promises

pub is_found : (bytes : List ℕ) (m : Message) → IsBytes bytes → all_of bytes ≡ Some m → Spells m bytes
is_found bytes m h e = whole_takes read_message spelling IsMessage message_reads bytes m h e

pub again : (m : Message) (bytes : List ℕ) → Spells m bytes → all_of bytes ≡ Some m
again m bytes s = ap all_of s.1 ∙ whole_again read_message spelling IsMessage message_reads m s.0

-- ---- the laws of the grammar

pub one_message : (m n : Message) (bytes : List ℕ) → Spells m bytes → Spells n bytes → m ≡ n
one_message m n bytes s t = some_is m n (sym (again m bytes s) ∙ again n bytes t)

pub prefix_free : (m n : Message) (rest : List ℕ) → IsMessage m → IsMessage n
    → spelling m ++ rest ≡ spelling n → (m ≡ n) × (rest ≡ [])
prefix_free m n rest fm fn e =
    one_front read_message spelling IsMessage message_reads m n rest [] fm fn (e ∙ sym (append-nil (spelling n)))
