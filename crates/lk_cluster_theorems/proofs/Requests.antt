-- Of any bytes it can be told whether they are a client's request, and of datagrams that read what they answer.
use Rattle.std.proofs.Common.{◌≡◌, ℕ, ◌<◌, ◌≤◌, ◌^◌, ◌⊎◌, inl, inr, Option, Some, None, List, [], ◌∷◌, ◌++◌, length}
use Rattle.std.proofs.Common.{drop, Contains, refl, ap, sym, ◌∙◌, subst, append_assoc, arith}
use Rattle.std.proofs.lemmas.Bool.{cases_lt, cases_eq}
use Rattle.lk_types.specs.Commands.{IsOp, IsRequest}
use Rattle.lk_types.specs.declared.command.Op.{Op}
use Rattle.lk_types.specs.declared.command.Op.TheVariants.{Table, Join, Leave, Raise}
use Rattle.lk_codec.specs.Fields.{four, eight, request}
use Rattle.lk_codec.specs.FieldReading.{read_four, read_eight, read_request}
use Rattle.lk_codec.specs.Parser.{both, whole}
use Rattle.lk_codec.proofs.Spellings.{Reads, both_reads, whole_again, four_reads, eight_reads, request_reads}
use Rattle.lk_messages.specs.Grammar.{Spells, spelling}
use Rattle.lk_messages.specs.declared.message.Content.TheVariants as content
use Rattle.lk_messages.specs.declared.message.Message.{Message}
use Rattle.lk_messages.proofs.Spellings.{one_message}
use Rattle.lk_agreement_laws.proofs.Histories.{contains_more}
use Rattle.lk_node_interface.specs.declared.note.Note.{Note}
use Rattle.lk_node.specs.Histories.{Datagram, RequestValue}
use Rattle.lk_sim.specs.Networks.{IsRequestIn, AreAsking, RecordsReplies}
use Rattle.lk_sim_nodes.specs.Told.{told_by}

-- ---- what can be decided

-- it holds, or it does not
abbrev Decided : Type 0 → Type 0
Decided A = A ⊎ (A → ⊥)

decided_both : {A B : Type 0} → Decided A → Decided B → Decided (A × B)
decided_both (inl a) (inl b) = inl (a, b)
decided_both (inl a) (inr no_b) = inr (λ p. no_b p.1)
decided_both (inr no_a) b = inr (λ p. no_a p.0)

decided_as : {A B : Type 0} → (A → B) → (B → A) → Decided A → Decided B
decided_as to back (inl a) = inl (to a)
decided_as to back (inr no_a) = inr (λ b. no_a (back b))

decided_below : (m n : ℕ) → Decided (m < n)
decided_below m n =
    elim (cases_lt m n) [ inl below ↦ inl below | inr above ↦ inr (λ below. omega (arith, above, below)) ]

decided_most : (m n : ℕ) → Decided (m ≤ n)
decided_most m n = elim (cases_lt n m) [ inl above ↦ inr (λ most. omega (arith, above, most)) | inr most ↦ inl most ]

decided_within : (low m high : ℕ) → Decided ((low ≤ m) × (m ≤ high))
decided_within low m high = decided_both (decided_most low m) (decided_most m high)

decided_same : (xs ys : List ℕ) → Decided (xs ≡ ys)
decided_same [] [] = inl refl
decided_same [] (y ∷ ys) = inr (λ e. absurd cc)
decided_same (x ∷ xs) [] = inr (λ e. absurd cc)
decided_same (x ∷ xs) (y ∷ ys) = elim (cases_eq x y) [
  | inl head ↦ elim (decided_same xs ys) [
    | inl tail ↦ inl (λ i. head i ∷ tail i)
    | inr differ ↦ inr (λ e. differ (ap (drop 1) e))
  ]
  | inr differ ↦ inr (λ e. differ (let same : x ≡ y = cc in same))
]

-- ---- a request

decided_op : (o : Op) → Decided (IsOp o)
decided_op (Table payload) = decided_within 1 (length payload) 64
decided_op (Join node port) = decided_both (decided_within 1 node (2 ^ 31)) (decided_within 1 port 65535)
decided_op (Leave node) = decided_within 1 node (2 ^ 31)
decided_op Raise = inl tt

decided_request : (r : RequestValue) → Decided (IsRequest r)
decided_request r =
    decided_as (λ p. (p.0, p.1.0, p.1.1)) (λ p. (p.0, (p.1, p.2)))
    (decided_both (decided_within 1 r.client 256) (decided_both (decided_within 1 r.number (2 ^ 48)) (decided_op r.op)))

-- a client asks that, in that cluster
abbrev asks_in : ℕ → RequestValue → Message
asks_in cluster r = record { cluster = cluster; content = content.Request r }

decided_asking : (cluster : ℕ) (r : RequestValue) (bytes : List ℕ) → Decided (Spells (asks_in cluster r) bytes)
decided_asking cluster r bytes =
    decided_both (decided_both (decided_below cluster (2 ^ 64)) (decided_request r))
    (decided_same bytes (spelling (asks_in cluster r)))

-- what stands behind the first four bytes of a request: the cluster, four bytes, and the request
abbrev read_behind : List ℕ → Option ((ℕ × (ℕ × RequestValue)) × List ℕ)
read_behind = both read_eight (both read_four read_request)

abbrev behind : ℕ × (ℕ × RequestValue) → List ℕ
behind x = eight x.0 ++ (four x.1.0 ++ request x.1.1)

abbrev IsBehind : ℕ × (ℕ × RequestValue) → Type 0
IsBehind x = (x.0 < 2 ^ 64) × ((x.1.0 < 2 ^ 32) × IsRequest x.1.1)

behind_reads : Reads read_behind behind IsBehind
behind_reads = both_reads read_eight eight (λ n. n < 2 ^ 64) _ _ _ eight_reads
    (both_reads read_four four (λ n. n < 2 ^ 32) read_request request IsRequest four_reads request_reads)

-- a request is read there
read_there : (cluster : ℕ) (r : RequestValue) (bytes : List ℕ) → Spells (asks_in cluster r) bytes
    → whole read_behind (drop 4 bytes) ≡ Some (cluster, (0, r))
read_there cluster r bytes s =
    let here : drop 4 bytes ≡ behind (cluster, (0, r)) = ap (drop 4) s.1
    ∙ append_assoc (eight cluster) (four 0) (request r) in
    ap (whole read_behind) here
    ∙ whole_again read_behind behind IsBehind behind_reads (cluster, (0, r)) (s.0.0, (omega arith, s.0.1))

request_of : (a b : RequestValue) → content.Request a ≡ content.Request b → a ≡ b
request_of a b e = cc e

some_same : {A : Type 0} (x y : A) → Some x ≡ Some y → x ≡ y
some_same x y e = cc e

-- no other request is spelled so
one_request : (k cluster : ℕ) (q r : RequestValue) (bytes : List ℕ) → Spells (asks_in k q) bytes
    → Spells (asks_in cluster r) bytes → q ≡ r
one_request k cluster q r bytes s t =
    request_of q r (ap (λ (m : Message). m.content) (one_message (asks_in k q) (asks_in cluster r) bytes s t))

request_in : (cluster : ℕ) (bytes : List ℕ) (read : Option (ℕ × (ℕ × RequestValue)))
    → whole read_behind (drop 4 bytes) ≡ read → (o : Option RequestValue) × IsRequestIn cluster bytes o
request_in cluster bytes None is = (
  None,
  record {
    only = λ r s. absurd
        (let bad : None ≡ Some (cluster, (0, r)) = sym is ∙ read_there cluster r bytes s in cc bad);
    some = λ r e. absurd (cc e);
  },
)
request_in cluster bytes (Some x) is = elim (decided_asking cluster x.1.1 bytes) [
  | inl s ↦ (
    Some x.1.1,
    record {
      only = λ r t. ap Some (one_request cluster cluster x.1.1 r bytes s t);
      some = λ r e. subst (λ (q : RequestValue). Spells (asks_in cluster q) bytes) (some_same x.1.1 r e) s;
    },
  )
  | inr none ↦ (
    None,
    record {
      only = λ r t. absurd
          (none (subst (λ (y : ℕ × (ℕ × RequestValue)). Spells (asks_in cluster y.1.1) bytes)
          (sym (some_same x (cluster, (0, r)) (sym is ∙ read_there cluster r bytes t))) t));
      some = λ r e. absurd (cc e);
    },
  )
]

-- some request to the cluster is asked by what comes, or none
pub asks_something : (cluster : ℕ) (came : Option (List ℕ)) → (o : Option RequestValue) × AreAsking cluster came o
asks_something cluster None = (None, refl)
asks_something cluster (Some bytes) = request_in cluster bytes (whole read_behind (drop 4 bytes)) refl

-- ---- what datagrams answer

-- where each of them reads there are notes of their answers and passes
pub tells_something : (datagrams : List Datagram)
    → ((d : Datagram) → Contains datagrams d → (m : Message) × Spells m d.bytes)
    → (told : List Note) × RecordsReplies datagrams told
tells_something [] reads = ([], refl)
tells_something (d ∷ datagrams) reads =
    let m = reads d (0, omega arith, refl) in
    let rest = tells_something datagrams (λ x c. reads x (contains_more d datagrams x c)) in
    (told_by m.0.content ++ rest.0, inl (m.0, rest.0, m.1, refl, rest.1))
