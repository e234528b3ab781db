-- What a seal vouches for.
use Rattle.std.proofs.Common.{◌≡◌, ◌≢◌, ◌⊎◌, inl, inr, ◌==◌, ℕ, List, [], ◌∷◌, ◌++◌, take, drop, length, Option, Some}
use Rattle.std.proofs.Common.{None, arith, refl, sym, ap, ◌∙◌, nat_eq, slice_index, append_assoc, subst}
use Rattle.std.proofs.lemmas.List.{drop-append-le, drop_all}
use Rattle.std.proofs.lemmas.Nat.{from_be_bytes-to_be_bytes_4, from_be_bytes-to_be_bytes_8}
use Rattle.std.specs.Cmp.Lexicographic.{pointwise}
use Rattle.std.specs.Int.{w32, w64, to_be_bytes, from_be_bytes}
use lib.Pointwise.{bytes_decides}
use Rattle.lk_auth.specs.Hmac.{hmac}
use Rattle.lk_auth.specs.Frames.{label, purpose_byte, head, front, seal_tag, sealed, opened}
use Rattle.lk_auth.specs.Clients.{client_keys, client_in}
use Rattle.lk_auth.specs.Seals.{key_list, to_node, asking, first_of, opened_by, only_request, only_request_in}
use Rattle.lk_auth.specs.Seals.{heard_of_client, said_or, heard_with, IsSealedBy, IsOfNoNode, IsAmong}
use Rattle.lk_auth.specs.Vouching.{IsScope, Collide, IsForOne, IsVouched, IsSealedByClient, IsOfWhoItNames}
use Rattle.lk_auth.specs.declared.frame.Purpose.{Purpose}
use Rattle.lk_auth.specs.declared.frame.Purpose.TheVariants.{ToNode, Asking, Replying}
use Rattle.lk_auth.specs.declared.frame.Scope.{Scope}
use Rattle.lk_auth.specs.declared.seals.Seals.{Seals}
use Rattle.lk_auth.proofs.FrameLaws.{either_way, before, behind, opens, drop-sealed, head-sealed, tag-sealed}

-- ---- what opens was sealed

pub opened_is : (key : List ℕ) (s : Scope) (frame d : List ℕ) → opened key s frame ≡ Some d → frame ≡ sealed key s d
unfolding opened
opened_is key s frame d e = elim (either_way (pointwise nat_eq frame (sealed key s (drop 36 frame)))) [
  | inl is ↦
      let whole = (bytes_decides frame (sealed key s (drop 36 frame))).0 is in
      let some : Some (drop 36 frame) ≡ Some d = rw is at e in
      let behind : drop 36 frame ≡ d = cc in
      whole ∙ ap (sealed key s) behind
  | inr differs ↦
      let none : None ≡ Some d = rw differs at e in
      absurd cc
]

first_is : (o p : Option (List ℕ)) (d : List ℕ) → first_of o p ≡ Some d → (o ≡ Some d) ⊎ (p ≡ Some d)
first_is None p d e = inr e
first_is (Some x) p d e = inl e

pub opened_by_is : (keys : List (List ℕ)) (s : Scope) (frame d : List ℕ) → opened_by keys s frame ≡ Some d
    → IsSealedBy keys s frame d
opened_by_is [] s frame d e = absurd cc
opened_by_is (key ∷ keys) s frame d e = elim (first_is (opened key s frame) (opened_by keys s frame) d e) [
  | inl is ↦ inl (opened_is key s frame d is)
  | inr is ↦ inr (opened_by_is keys s frame d is)
]

-- what was sealed stands behind the tag
pub rest_of : (keys : List (List ℕ)) (s : Scope) (frame d : List ℕ) → IsSealedBy keys s frame d → drop 36 frame ≡ d
rest_of [] s frame d sealed_so = absurd sealed_so
rest_of (key ∷ keys) s frame d (inl is) = ap (drop 36) is ∙ drop-sealed key s d
rest_of (key ∷ keys) s frame d (inr other) = rest_of keys s frame d other

-- ---- what is sealed opens

some_or_none : (o : Option (List ℕ)) → (o ≡ None) ⊎ ((d : List ℕ) × (o ≡ Some d))
some_or_none None = inl refl
some_or_none (Some d) = inr (d, refl)

pub opened_among : (key : List ℕ) (keys : List (List ℕ)) (s : Scope) (d : List ℕ) → IsAmong key keys
    → opened_by keys s (sealed key s d) ≡ Some d
opened_among key [] s d among = absurd among
opened_among key (other ∷ keys) s d (inl same) =
    let opens_it : opened other s (sealed key s d) ≡ Some d =
    opens other s (sealed key s d) d (ap (λ (k : List ℕ). sealed k s d) same) in
    ap (λ (o : Option (List ℕ)). first_of o (opened_by keys s (sealed key s d))) opens_it
opened_among key (other ∷ keys) s d (inr among) = elim (some_or_none (opened other s (sealed key s d))) [
  | inl none ↦ ap (λ (o : Option (List ℕ)). first_of o (opened_by keys s (sealed key s d))) none
      ∙ opened_among key keys s d among
  | inr some ↦
      let is = opened_is other s (sealed key s d) some.0 some.1 in
      let same : d ≡ some.0 = sym (drop-sealed key s d) ∙ ap (drop 36) is ∙ drop-sealed other s some.0 in
      ap (λ (o : Option (List ℕ)). first_of o (opened_by keys s (sealed key s d))) some.1 ∙ ap Some (sym same)
]

-- ---- what is heard

request_or_none : (d : List ℕ) → IsOfNoNode (only_request d)
request_or_none d = elim (either_way (slice_index d 3 == 9)) [
  | inl is ↦ rw is (inr (grind arith))
  | inr differs ↦ rw differs (inl refl)
]

in_request : (o : Option (List ℕ)) → IsOfNoNode (only_request_in o)
in_request None = inl refl
in_request (Some d) = request_or_none d

of_client : (keys : List (List ℕ)) (cluster : ℕ) (frame : List ℕ) → IsOfNoNode (heard_of_client keys cluster frame)
of_client [] cluster frame = request_or_none frame
of_client (key ∷ keys) cluster frame = let client = client_in (drop 36 frame) in
    in_request (opened_by (client_keys client (key ∷ keys)) (asking cluster client) frame)

said : (keys : List (List ℕ)) (s : Scope) (frame other : List ℕ) (o : Option (List ℕ)) → opened_by keys s frame ≡ o
    → IsOfNoNode other → IsSealedBy keys s frame (said_or o other) ⊎ IsOfNoNode (said_or o other)
said keys s frame other None e free = inr free
said keys s frame other (Some d) e free = inl (opened_by_is keys s frame d e)

vouched_with : (keys : List (List ℕ)) (s : Seals) (frame : List ℕ) → keys ≢ []
    → IsSealedBy keys (to_node s s.node) frame (heard_with keys s frame) ⊎ IsOfNoNode (heard_with keys s frame)
vouched_with [] s frame some = absurd (some refl)
vouched_with (key ∷ keys) s frame some =
    said (key ∷ keys) (to_node s s.node) frame _ _ refl (of_client (key_list s.clients) s.cluster frame)

pub is_vouched : (s : Seals) (frame : List ℕ) → key_list s.nodes ≢ [] → IsVouched s frame
is_vouched s frame some = vouched_with (key_list s.nodes) s frame some

-- ---- a client acts as no other

-- what is heard of a client is nothing, or what it sealed
only_is : (d : List ℕ) → (only_request d ≡ []) ⊎ (only_request d ≡ d)
only_is d = elim (either_way (slice_index d 3 == 9)) [
  | inl is ↦ rw is (inr refl)
  | inr differs ↦ rw differs (inl refl)
]

-- so of what opens under the keys of the client that stands in the datagram
sealed_or_none : (s : Seals) (frame : List ℕ) (o : Option (List ℕ))
    → opened_by (client_keys (client_in (drop 36 frame)) (key_list s.clients))
    (asking s.cluster (client_in (drop 36 frame))) frame ≡ o
    → (only_request_in o ≡ []) ⊎ IsSealedByClient s (client_in (only_request_in o)) frame (only_request_in o)
sealed_or_none s frame None e = inl refl
sealed_or_none s frame (Some d) e =
    let client = client_in (drop 36 frame) in
    let sealed_so = opened_by_is (client_keys client (key_list s.clients)) (asking s.cluster client) frame d e in
    let is : drop 36 frame ≡ d =
    rest_of (client_keys client (key_list s.clients)) (asking s.cluster client) frame d sealed_so in
    elim (only_is d) [
      | inl none ↦ inl none
      | inr whole ↦ inr (subst (λ (x : List ℕ). IsSealedByClient s (client_in x) frame x) (sym whole)
          (subst (λ (x : List ℕ). IsSealedByClient s (client_in x) frame d) is sealed_so))
    ]

of_its_client : (masters : List (List ℕ)) (s : Seals) (frame : List ℕ) → key_list s.clients ≡ masters → masters ≢ []
    → (heard_of_client masters s.cluster frame ≡ [])
    ⊎ IsSealedByClient s (client_in (heard_of_client masters s.cluster frame)) frame
    (heard_of_client masters s.cluster frame)
of_its_client [] s frame e some = absurd (some refl)
of_its_client (key ∷ keys) s frame e some =
    let client = client_in (drop 36 frame) in
    sealed_or_none s frame (opened_by (client_keys client (key ∷ keys)) (asking s.cluster client) frame)
    (ap (λ (l : List (List ℕ)). opened_by (client_keys client l) (asking s.cluster client) frame) e)

named_or_said : (keys : List (List ℕ)) (s : Seals) (frame other : List ℕ) (o : Option (List ℕ))
    → opened_by keys (to_node s s.node) frame ≡ o → (other ≡ []) ⊎ IsSealedByClient s (client_in other) frame other
    → IsSealedBy keys (to_node s s.node) frame (said_or o other) ⊎ (said_or o other ≡ [])
    ⊎ IsSealedByClient s (client_in (said_or o other)) frame (said_or o other)
named_or_said keys s frame other None e own = inr own
named_or_said keys s frame other (Some d) e own = inl (opened_by_is keys (to_node s s.node) frame d e)

named_with : (keys : List (List ℕ)) (s : Seals) (frame : List ℕ) → keys ≢ [] → key_list s.clients ≢ []
    → IsSealedBy keys (to_node s s.node) frame (heard_with keys s frame) ⊎ (heard_with keys s frame ≡ [])
    ⊎ IsSealedByClient s (client_in (heard_with keys s frame)) frame (heard_with keys s frame)
named_with [] s frame some masters = absurd (some refl)
named_with (key ∷ keys) s frame some masters =
    named_or_said (key ∷ keys) s frame _ _ refl (of_its_client (key_list s.clients) s frame refl masters)

pub is_of_who_it_names : (s : Seals) (frame : List ℕ) → key_list s.nodes ≢ []
    → key_list s.clients ≢ [] → IsOfWhoItNames s frame
is_of_who_it_names s frame some masters = named_with (key_list s.nodes) s frame some masters

-- ---- a frame is for one

purpose_is : (p q : Purpose) → purpose_byte p ≡ purpose_byte q → p ≡ q
purpose_is ToNode ToNode e = refl
purpose_is ToNode Asking e = absurd (omega (arith, e))
purpose_is ToNode Replying e = absurd (omega (arith, e))
purpose_is Asking ToNode e = absurd (omega (arith, e))
purpose_is Asking Asking e = refl
purpose_is Asking Replying e = absurd (omega (arith, e))
purpose_is Replying ToNode e = absurd (omega (arith, e))
purpose_is Replying Asking e = absurd (omega (arith, e))
purpose_is Replying Replying e = refl

label-long : (p : Purpose) → length (label p) ≡ 16
label-long ToNode = refl
label-long Asking = refl
label-long Replying = refl

-- the fields of a scope behind its label
fields : Scope → List ℕ
fields s = to_be_bytes w64 s.cluster ++ (s.genesis ++ to_be_bytes w32 s.bound)

behind-label : (s : Scope) (d : List ℕ) → drop 16 (front s ++ d) ≡ fields s ++ d
unfolding front fields
behind-label s d =
    let long = label-long s.purpose in
    let rest = fields s in
    ap (drop 16) (append_assoc (label s.purpose) rest d)
    ∙ drop-append-le 16 (label s.purpose) (rest ++ d) (omega (arith, long))
    ∙ ap (λ (l : List ℕ). l ++ (rest ++ d)) (drop_all 16 (label s.purpose) (omega (arith, long)))

-- what stands behind the cluster
behind-cluster : (s : Scope) (d : List ℕ) → drop 8 (fields s ++ d) ≡ s.genesis ++ (to_be_bytes w32 s.bound ++ d)
unfolding fields
behind-cluster s d = append_assoc s.genesis (to_be_bytes w32 s.bound) d

pub parts_are : (s t : Scope) (d e : List ℕ) → IsScope s → IsScope t → front s ++ d ≡ front t ++ e
    → (s.cluster ≡ t.cluster) × (s.genesis ≡ t.genesis) × (s.bound ≡ t.bound)
unfolding fields
parts_are s t d e fits fit same =
    let rests = sym (behind-label s d) ∙ ap (drop 16) same ∙ behind-label t e in
    let clusters : to_be_bytes w64 s.cluster ≡ to_be_bytes w64 t.cluster = ap (take 8) rests in
    let tails = sym (behind-cluster s d) ∙ ap (drop 8) rests ∙ behind-cluster t e in
    let geneses : s.genesis ≡ t.genesis = sym (before s.genesis _ fits.genesis) ∙ ap (take 32) tails
    ∙ before t.genesis _ fit.genesis in
    let ends = sym (behind s.genesis _ fits.genesis) ∙ ap (drop 32) tails ∙ behind t.genesis _ fit.genesis in
    let bounds : to_be_bytes w32 s.bound ≡ to_be_bytes w32 t.bound = ap (take 4) ends in (
      sym (from_be_bytes-to_be_bytes_8 s.cluster fits.cluster) ∙ ap (from_be_bytes w64) clusters
          ∙ from_be_bytes-to_be_bytes_8 t.cluster fit.cluster,
      geneses,
      sym (from_be_bytes-to_be_bytes_4 s.bound fits.bound) ∙ ap (from_be_bytes w32) bounds
          ∙ from_be_bytes-to_be_bytes_4 t.bound fit.bound,
    )

tags_are : (key : List ℕ) (s t : Scope) (d e : List ℕ) → sealed key s d ≡ sealed key t e
    → hmac key (front s ++ d) ≡ hmac key (front t ++ e)
unfolding seal_tag
tags_are key s t d e same = sym (tag-sealed key s d) ∙ ap (λ (l : List ℕ). take 32 (drop 4 l)) same ∙ tag-sealed key t e

pub is_for_one : (key : List ℕ) (s t : Scope) (d e : List ℕ) → IsScope s → IsScope t → sealed key s d ≡ sealed key t e
    → IsForOne s t d e ⊎ Collide key (front s ++ d) (front t ++ e)
is_for_one key s t d e fits fit same =
    let m = front s ++ d in
    let n = front t ++ e in
    let heads : head s.purpose ≡ head t.purpose = sym (head-sealed key s d) ∙ ap (take 4) same ∙ head-sealed key t e in
    let purpose = purpose_is s.purpose t.purpose (ap (λ (l : List ℕ). slice_index l 3) heads) in
    elim (either_way (pointwise nat_eq m n)) [
      | inl is ↦
          let parts = parts_are s t d e fits fit ((bytes_decides m n).0 is) in
          inl (record {
            purpose = purpose;
            cluster = parts.0;
            genesis = parts.1;
            bound = parts.2;
            datagram = sym (drop-sealed key s d) ∙ ap (drop 36) same ∙ drop-sealed key t e;
          })
      | inr differs ↦
          inr (record {
            differ = λ equal. let is = (bytes_decides m n).1 equal in
                cc;
            same = tags_are key s t d e same;
          })
    ]
