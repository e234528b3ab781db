-- Pieces are read as what their spelling is.
use Rattle.std.proofs.Common.{◌≡◌, ℕ, zero, suc, ◌+◌, ◌-◌, ◌<◌, ◌≤◌, ◌^◌, min, List, [], ◌∷◌, ◌++◌, length, take, drop}
use Rattle.std.proofs.Common.{true, Option, Some, None, refl, sym, ap, subst, ◌∙◌, append_assoc, arith, inl, inr}
use Rattle.std.specs.List.{flat_map, AllByRecursion}
use Rattle.std.proofs.lemmas.List.{append-nil, length-append, length-take, length-drop, flat_map_more, drop-drop}
use Rattle.std.proofs.lemmas.List.{drop_at, take_at, take_all}
use Rattle.std.proofs.lemmas.Bool.{cases_lt}
use Rattle.std.proofs.lemmas.Bool.Decides.{nat_tests}
use Rattle.lk_codec.specs.Fields.{two}
use Rattle.lk_codec.specs.FieldReading.{read_two}
use Rattle.lk_codec.specs.Parser.{◌>>=◌, many, sized, tested}
use Rattle.lk_codec.proofs.Spellings.{IsBytes, Reads, fitting, bind_ok, some_is, one_front, sized_reads, tested_reads}
use Rattle.lk_codec.proofs.Spellings.{two_reads, length-two, many_again}
use Rattle.lk_messages.specs.Views.{value_or}
use Rattle.lk_bundle.specs.Bundles.{head, piece, IsPiece, is_long, bundle, payload, Bundles, read_piece, datagrams_in}
use Rattle.lk_bundle.specs.Bundles.{ArePieces, IsBundleOf}

long_enough_is : (d : List ℕ) → is_long d ≡ true → 16 ≤ length d
long_enough_is d h = grind (arith, nat_tests)

is_long_enough : (d : List ℕ) → 16 ≤ length d → is_long d ≡ true
is_long_enough d h = grind (arith, nat_tests)

pub piece_reads : Reads read_piece piece IsPiece
piece_reads =
    fitting (tested is_long (sized read_two)) piece (λ d. (length d < 2 ^ 16) × (is_long d ≡ true)) IsPiece
    (λ d h. (long_enough_is d h.1, h.0)) (λ d h. (h.1, is_long_enough d h.0))
    (tested_reads is_long (sized read_two) piece (λ d. length d < 2 ^ 16)
    (sized_reads read_two two (λ (n : ℕ). n < 2 ^ 16) two_reads))

pub piece_found : (bytes datagram rest : List ℕ) → IsBytes bytes → read_piece bytes ≡ Some (datagram, rest)
    → IsPiece datagram × (bytes ≡ piece datagram ++ rest)
piece_found bytes datagram rest h e =
    let t = piece_reads.takes bytes datagram rest h e in
    (t.fits, t.parts)

pub length-piece : (datagram : List ℕ) → length (piece datagram) ≡ 2 + length datagram
length-piece datagram = omega (arith, length-append (two (length datagram)) datagram, length-two (length datagram))

-- ---- all pieces

pub again : (ds : List (List ℕ)) → AllByRecursion IsPiece ds
    → many read_piece (length ds) (flat_map piece ds) ≡ Some (ds, [])
again ds fit =
    ap (many read_piece (length ds)) (sym (append-nil (flat_map piece ds)))
    ∙ many_again read_piece piece IsPiece piece_reads ds [] fit

pub in_again : (ds : List (List ℕ)) → AllByRecursion IsPiece ds → datagrams_in (length ds) (flat_map piece ds) ≡ ds
in_again ds fit = ap (value_or []) (again ds fit)

-- what is there, of pieces of which these are the first
pub rest_is : (front ds : List (List ℕ)) (rest : List ℕ) → AllByRecursion IsPiece front → AllByRecursion IsPiece ds
    → flat_map piece front ++ rest ≡ flat_map piece ds
    → (more : List (List ℕ)) × AllByRecursion IsPiece more × (rest ≡ flat_map piece more) × (ds ≡ front ++ more)
rest_is [] ds rest f g e = (ds, g, e, refl)
rest_is (d ∷ front) [] rest f g e =
    let long : length ((piece d ++ flat_map piece front) ++ rest) ≡ 0 = ap length e in
    absurd (omega (
      arith,
      long,
      length-append (piece d ++ flat_map piece front) rest,
      length-append (piece d) (flat_map piece front),
      length-piece d,
    ))
rest_is (d ∷ front) (x ∷ ds) rest f g e =
    let regrouped : piece d ++ (flat_map piece front ++ rest) ≡ piece x ++ flat_map piece ds =
    sym (append_assoc (piece d) (flat_map piece front) rest) ∙ e in
    let one = one_front read_piece piece IsPiece piece_reads d x (flat_map piece front ++ rest)
    (flat_map piece ds) f.0 g.0 regrouped in
    let r = rest_is front ds rest f.1 g.1 one.1 in (
      r.0,
      r.1,
      r.2,
      ap (λ (w : List ℕ). w ∷ ds) (sym one.0) ∙ ap (λ (ws : List (List ℕ)). d ∷ ws) r.3,
    )

none_left : (more : List (List ℕ)) → [] ≡ flat_map piece more → more ≡ []
none_left [] e = refl
none_left (m ∷ ms) e =
    let long : 0 ≡ length (piece m ++ flat_map piece ms) = ap length e in
    absurd (omega (arith, long, length-append (piece m) (flat_map piece ms), length-piece m))

pub same_pieces : (ds es : List (List ℕ)) → AllByRecursion IsPiece ds → AllByRecursion IsPiece es
    → flat_map piece ds ≡ flat_map piece es → ds ≡ es
same_pieces ds es f g e =
    let r = rest_is ds es [] f g (append-nil (flat_map piece ds) ∙ e) in
    sym (r.3 ∙ ap (λ (ws : List (List ℕ)). ds ++ ws) (none_left r.0 r.2) ∙ append-nil ds)

-- no whole piece begins what is left, and something is left: then it is not pieces
pub stuck : (front ds : List (List ℕ)) (bytes rest : List ℕ) → AllByRecursion IsPiece front
    → AllByRecursion IsPiece ds → bytes ≡ flat_map piece front ++ rest → bytes ≡ flat_map piece ds
    → read_piece rest ≡ None → 0 < length rest → ⊥
stuck front ds bytes rest f g e is none some =
    let r = rest_is front ds rest f g (sym e ∙ is) in
    begun r.0 rest r.1 r.2 none some
  where
    begun : (more : List (List ℕ)) (rest : List ℕ) → AllByRecursion IsPiece more → rest ≡ flat_map piece more
        → read_piece rest ≡ None → 0 < length rest → ⊥
    begun [] rest fit is none some = let long : length rest ≡ 0 = ap length is in omega (arith, long, some)
    begun (m ∷ ms) rest fit is none some =
        let read : read_piece rest ≡ Some (m, flat_map piece ms) =
        ap read_piece is ∙ piece_reads.again m (flat_map piece ms) fit.0 in
        absurd cc

-- ---- one more

pub bundle-more : (ds : List (List ℕ)) (d : List ℕ) → bundle ds ++ piece d ≡ bundle (ds ++ d ∷ [])
bundle-more ds d = flat_map_more piece head ds d

pub length-more : (ds : List (List ℕ)) (d : List ℕ)
    → length (bundle (ds ++ d ∷ [])) ≡ length (bundle ds) + (2 + length d)
length-more ds d =
    ap length (sym (bundle-more ds d)) ∙ length-append (bundle ds) (piece d)
    ∙ ap (λ (n : ℕ). length (bundle ds) + n) (length-piece d)

pub all_more : (ds : List (List ℕ)) (d : List ℕ) → AllByRecursion IsPiece ds → IsPiece d
    → AllByRecursion IsPiece (ds ++ d ∷ [])
all_more [] d f g = (g, tt)
all_more (x ∷ ds) d f g = (f.0, all_more ds d f.1 g)

pub in_bundle : (ds : List (List ℕ)) (bytes : List ℕ) → AllByRecursion IsPiece ds → bytes ≡ bundle ds
    → datagrams_in (length ds) (drop 4 bytes) ≡ ds
in_bundle ds bytes f e = ap (λ (w : List ℕ). datagrams_in (length ds) (drop 4 w)) e ∙ in_again ds f

-- these bytes are the bundle of these datagrams
pub is_of : (ds : List (List ℕ)) (count : ℕ) (bytes : List ℕ) → length ds ≡ count → AllByRecursion IsPiece ds
    → bytes ≡ bundle ds → IsBundleOf count bytes × (datagrams_in count (drop 4 bytes) ≡ ds)
is_of ds count bytes counted fit is =
    let all : datagrams_in count (drop 4 bytes) ≡ ds =
    ap (λ (n : ℕ). datagrams_in n (drop 4 bytes)) (sym counted) ∙ in_bundle ds bytes fit is in (
      record {
        count_is = ap length all ∙ counted;
        fit = subst (AllByRecursion IsPiece) (sym all) fit;
        is = is ∙ ap bundle (sym all);
      },
      all,
    )

pub pushed : (count : ℕ) (bytes d new : List ℕ) → IsBundleOf count bytes → IsPiece d → new ≡ bytes ++ piece d
    → IsBundleOf (count + 1) new
    × (datagrams_in (count + 1) (drop 4 new) ≡ datagrams_in count (drop 4 bytes) ++ d ∷ [])
pushed count bytes d new b fits e =
    let ds : List (List ℕ) = datagrams_in count (drop 4 bytes) in
    is_of (ds ++ d ∷ []) (count + 1) new
    (length-append ds (d ∷ []) ∙ ap (λ (n : ℕ). n + 1) b.count_is)
    (all_more ds d b.fit fits)
    (e ∙ ap (λ (w : List ℕ). w ++ piece d) b.is ∙ bundle-more ds d)

pub cleared : (count : ℕ) (bytes new : List ℕ) → IsBundleOf count bytes → new ≡ take 4 bytes → IsBundleOf 0 new
cleared count bytes new b e = record { count_is = refl; fit = tt; is = e ∙ ap (take 4) b.is }

-- ---- what is sent

bare : (ds : List (List ℕ)) (bytes : List ℕ) → bytes ≡ bundle ds → length ds ≡ 1 → drop 6 bytes ≡ payload ds
unfolding two
bare [] bytes e one = absurd (omega (arith, one))
bare (d ∷ []) bytes e one = ap (drop 6) e ∙ append-nil d
bare (d ∷ (x ∷ ds)) bytes e one = absurd (omega (arith, one))

together : (ds : List (List ℕ)) (bytes : List ℕ) → bytes ≡ bundle ds → (length ds ≡ 1 → ⊥) → bytes ≡ payload ds
together [] bytes e several = e
together (d ∷ []) bytes e several = absurd (several refl)
together (d ∷ (x ∷ ds)) bytes e several = e

pub sent_bare : (count : ℕ) (bytes : List ℕ) → IsBundleOf count bytes → count ≡ 1
    → drop 6 bytes ≡ payload (datagrams_in count (drop 4 bytes))
sent_bare count bytes b one = bare (datagrams_in count (drop 4 bytes)) bytes b.is (b.count_is ∙ one)

pub sent_together : (count : ℕ) (bytes : List ℕ) → IsBundleOf count bytes → (count ≡ 1 → ⊥)
    → bytes ≡ payload (datagrams_in count (drop 4 bytes))
sent_together count bytes b several =
    together (datagrams_in count (drop 4 bytes)) bytes b.is (λ one. several (sym b.count_is ∙ one))

pub long_enough : (count : ℕ) (bytes : List ℕ) → IsBundleOf count bytes → count ≡ 1 → 6 ≤ length bytes
long_enough count bytes b one = begun (datagrams_in count (drop 4 bytes)) (ap length b.is) (b.count_is ∙ one)
  where
    begun : (ds : List (List ℕ)) → length bytes ≡ length (bundle ds) → length ds ≡ 1 → 6 ≤ length bytes
    begun [] e one = absurd (omega (arith, one))
    begun (d ∷ ds) e one = omega (arith, e, length-append (piece d) (flat_map piece ds), length-piece d)

-- ---- the first is taken

pub taken : (n : ℕ) (bytes d rest : List ℕ) → ArePieces (suc n) bytes → read_piece bytes ≡ Some (d, rest)
    → ArePieces n rest × (datagrams_in (suc n) bytes ≡ d ∷ datagrams_in n rest)
taken n bytes d rest are read =
    let ds : List (List ℕ) = datagrams_in (suc n) bytes in
    let at : many read_piece (suc n) bytes ≡ (many read_piece n rest >>= λ b. Some (d ∷ b.0, b.1)) =
    ap (λ (r : Option (List ℕ × List ℕ)). r >>= λ a. many read_piece n a.1 >>= λ b. Some (a.0 ∷ b.0, b.1)) read in
    let b = bind_ok (many read_piece n rest) (λ b. Some (d ∷ b.0, b.1)) (ds, []) (sym at ∙ are) in
    let made : List (List ℕ) × List ℕ = (d ∷ b.0.0, b.0.1) in
    let same = some_is made (ds, []) b.2 in
    let nothing : b.0.1 ≡ [] = ap (λ (z : List (List ℕ) × List ℕ). z.1) same in
    let all : d ∷ b.0.0 ≡ ds = ap (λ (z : List (List ℕ) × List ℕ). z.0) same in
    let value : datagrams_in n rest ≡ b.0.0 = ap (value_or []) b.1 in (
      b.1 ∙ ap (λ (w : List ℕ). Some (b.0.0, w)) nothing
          ∙ ap (λ (z : List (List ℕ)). Some (z, [])) (sym value),
      sym all ∙ ap (λ (z : List (List ℕ)). d ∷ z) (sym value),
    )

-- ---- the laws

pub one_list : (ds es : List (List ℕ)) (bytes : List ℕ) → Bundles ds bytes → Bundles es bytes → ds ≡ es
one_list ds es bytes a b = same_pieces ds es a.fit b.fit (ap (drop 4) (sym a.is ∙ b.is))

pub split_again : (ds : List (List ℕ)) (bytes : List ℕ) → Bundles ds bytes
    → datagrams_in (length ds) (drop 4 bytes) ≡ ds
split_again ds bytes b = ap (λ (w : List ℕ). datagrams_in (length ds) (drop 4 w)) b.is ∙ in_again ds b.fit

-- ---- what the functions show

pub length-taken : (bytes d rest : List ℕ) → bytes ≡ piece d ++ rest → length d + length rest + 2 ≡ length bytes
length-taken bytes d rest e =
    let long : length bytes ≡ length (piece d ++ rest) = ap length e in
    omega (arith, long, length-append (piece d) rest, length-piece d)

-- one piece more begins the bytes
pub passes : (front : List (List ℕ)) (bytes rest d behind : List ℕ) (count : ℕ) → length front ≡ count
    → AllByRecursion IsPiece front → bytes ≡ flat_map piece front ++ rest → IsPiece d → rest ≡ piece d ++ behind
    → (more : List (List ℕ)) × (length more ≡ count + 1) × AllByRecursion IsPiece more
    × (bytes ≡ flat_map piece more ++ behind)
passes front bytes rest d behind count counted fit so_far fits e = (
  front ++ d ∷ [],
  length-append front (d ∷ []) ∙ ap (λ (n : ℕ). n + 1) counted,
  all_more front d fit fits,
  so_far ∙ ap (λ (w : List ℕ). flat_map piece front ++ w) e
      ∙ sym (append_assoc (flat_map piece front) (piece d) behind)
      ∙ ap (λ (w : List ℕ). w ++ behind) (flat_map_more piece [] front d),
)

-- bytes behind a head are a bundle of these
pub are_pieces : (ds : List (List ℕ)) (count : ℕ) (bytes : List ℕ) → length ds ≡ count → AllByRecursion IsPiece ds
    → bytes ≡ flat_map piece ds → ArePieces count bytes × (datagrams_in count bytes ≡ ds)
are_pieces ds count bytes counted fit is =
    let read : many read_piece count bytes ≡ Some (ds, []) =
    ap (λ (n : ℕ). many read_piece n bytes) (sym counted) ∙ ap (many read_piece (length ds)) is ∙ again ds fit in
    let same : datagrams_in count bytes ≡ ds = ap (value_or []) read in
    (read ∙ ap (λ (z : List (List ℕ)). Some (z, [])) (sym same), same)

pub bundles_these : (ds : List (List ℕ)) (count : ℕ) (bytes : List ℕ) → length ds ≡ count → 2 ≤ count
    → AllByRecursion IsPiece ds → bytes ≡ bundle ds → Bundles (datagrams_in count (drop 4 bytes)) bytes
bundles_these ds count bytes counted several fit is =
    let same : datagrams_in count (drop 4 bytes) ≡ ds =
    (are_pieces ds count (drop 4 bytes) counted fit (ap (drop 4) is)).1 in
    subst (λ (z : List (List ℕ)). Bundles z bytes) (sym same)
    (record { fit = fit; several = omega (arith, counted, several); is = is })

pub not_one : (ds es : List (List ℕ)) (count : ℕ) (bytes : List ℕ) → length ds ≡ count → count < 2
    → AllByRecursion IsPiece ds → drop 4 bytes ≡ flat_map piece ds → Bundles es bytes → ⊥
not_one ds es count bytes counted few fit is b =
    let same : ds ≡ es = same_pieces ds es fit b.fit (sym is ∙ ap (drop 4) b.is) in
    omega (arith, counted, few, b.several, ap length same)

-- where the next piece begins
pub behind-piece : (next : ℕ) (items d rest : List ℕ) → drop next items ≡ piece d ++ rest
    → drop (next + 2 + length d) items ≡ rest
behind-piece next items d rest e =
    let at : next + 2 + length d ≡ next + (2 + length d) = omega arith in
    ap (λ (n : ℕ). drop n items) at ∙ sym (drop-drop (2 + length d) next items) ∙ ap (drop (2 + length d)) e
    ∙ drop_at (piece d) rest (2 + length d) (length-piece d)

pred : (n : ℕ) → (n ≡ 0 → ⊥) → n ≡ suc (n - 1)
pred zero some = absurd (some refl)
pred (suc n) some = omega arith

-- the first is taken of those that begin there
pub after_first : (next count : ℕ) (items d rest : List ℕ) → ArePieces count (drop next items) → (count ≡ 0 → ⊥)
    → drop next items ≡ piece d ++ rest → read_piece (drop next items) ≡ Some (d, rest)
    → (next + 2 + length d ≤ length items)
    × ArePieces (count - 1) (drop (next + 2 + length d) items)
    × (datagrams_in count (drop next items) ≡ d ∷ datagrams_in (count - 1) (drop (next + 2 + length d) items))
after_first next count items d rest are some parts read =
    let left : List ℕ = drop next items in
    let behind = behind-piece next items d rest parts in
    let one : count ≡ suc (count - 1) = pred count some in
    let t = taken (count - 1) left d rest (subst (λ (n : ℕ). ArePieces n left) one are) read in (
      omega (arith, length-taken left d rest parts, length-drop next items),
      subst (ArePieces (count - 1)) (sym behind) t.0,
      ap (λ (n : ℕ). datagrams_in n left) one ∙ t.1
          ∙ ap (λ (w : List ℕ). d ∷ datagrams_in (count - 1) w) (sym behind),
    )

-- the copied front of a datagram
pub cut_first : (d copied rest : List ℕ) (n room : ℕ) → n ≡ min (length d) room → copied ≡ take n d
    → take n (copied ++ rest) ≡ take room d
cut_first d copied rest n room e is =
    let long : length copied ≡ n = omega (arith, e, ap length is, length-take n d) in
    take_at copied rest n long ∙ is ∙ same d n room e
  where
    same : (d : List ℕ) (n room : ℕ) → n ≡ min (length d) room → take n d ≡ take room d
    same d n room e = elim (cases_lt room (length d)) [
      | inl longer ↦ (let is : n ≡ room = omega (arith, e, longer) in ap (λ (k : ℕ). take k d) is)
      | inr fits ↦ take_all n d (omega (arith, e, fits)) ∙ sym (take_all room d (omega (arith, fits)))
    ]
