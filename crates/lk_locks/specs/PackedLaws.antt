-- Laws: reading the packed text of a table gives that table, and only packed texts are read.
use Rattle.std.proofs.Common.{◌≡◌, ℕ, zero, suc, ◌+◌, ◌*◌, ◌<◌, ◌≤◌, ◌^◌, ◌⊎◌, Bool, true, false, cond, leb, eqb, List}
use Rattle.std.proofs.Common.{[], ◌∷◌, ◌++◌, length, Option, Some, None, T, refl, sym, ap, subst, ◌∙◌, append_assoc}
use Rattle.std.proofs.Common.{arith, inl, inr}
use Rattle.std.specs.Prelude.{is_some}
use Rattle.std.specs.declared.cmp.Ordering.{Ordering}
use Rattle.std.specs.declared.cmp.Ordering.TheVariants.{Less, Equal, Greater}
use Rattle.std.specs.List.{flat_map, AllByRecursion}
use Rattle.std.specs.Ordering.{nat_cmp}
use Rattle.std.specs.Cmp.Lexicographic.{slice_cmp, nat_list_cmp_total}
use Rattle.std.specs.FinMap as map
use Rattle.std.specs.FinMap.Entries.{by_order}
use Rattle.std.proofs.lemmas.Bool.{eqb-true, eqb-false, ne_eqb, le-leb}
use Rattle.std.proofs.lemmas.List.{length-append, nil_from_length}
use Rattle.std.proofs.lemmas.List.Concat.{flat_map-cons}
use Rattle.lk_types.specs.Ranges.{IsCount, IsClient}
use Rattle.lk_codec.specs.Fields.{one, two, eight}
use Rattle.lk_codec.specs.FieldReading.{is_from_1_to, read_two, read_count, read_client}
use Rattle.lk_codec.specs.Parser.{read_byte, tested, counted, tagged, whole}
use Rattle.lk_codec.proofs.Spellings.{IsBytes, Took, Reads, both_reads, made_reads, made_as, tested_reads, fitting}
use Rattle.lk_codec.proofs.Spellings.{byte_reads, bind_ok, whole_takes, whole_again, two_reads, client_reads}
use Rattle.lk_codec.proofs.Spellings.{count_reads, limited_reads, ranged_reads, counted_reads, TakesKinds, kind_takes}
use Rattle.lk_codec.proofs.Spellings.{no_kind_takes, bare_takes, tagged_reads}
use Rattle.lk_locks.specs.Names.{IsName}
use Rattle.lk_locks.specs.Bodies.{lock_name, read_name}
use Rattle.lk_locks.specs.Holders.{IsHolders, is_kept}
use Rattle.lk_locks.specs.Sharers.{AreSharers, are_clients_above}
use Rattle.lk_locks.specs.Plain.{Names, Table, empty}
use Rattle.lk_locks.specs.Packed.{Entry, holder_number, mode, sharers, in_mode, holders, lock_entry, entry, entries}
use Rattle.lk_locks.specs.Packed.{raised_mark, packed_table, table_text, IsLockEntryIn, IsTableEntry, AreNames, IsTable}
use Rattle.lk_locks.specs.Packed.{IsTableText, holder_of, read_holder, read_sharers, holders_of, read_holders}
use Rattle.lk_locks.specs.Packed.{read_lock_entry, read_entry, read_size, rise, read_entries, read_by, read_table}
use Rattle.lk_locks.specs.Packed.{table_of_entries, table_in}
use Rattle.lk_locks.specs.declared.lock_entry.Holders.{Holders}
use Rattle.lk_locks.specs.declared.lock_entry.Holders.TheVariants.{Nobody, ExclusiveHold, SharedHold}
use Rattle.lk_locks.specs.declared.lock_entry.LockEntry.{LockEntry}
use Rattle.lk_locks.specs.NameLaws.{name_length, name_reads}

pub decided : (b : Bool) → (b ≡ true) ⊎ (b ≡ false)
decided true = inl refl
decided false = inr refl

-- ---- who holds a name

abbrev FitsIn : Bool → Holders → Type 0
FitsIn raised h = IsHolders h × (is_kept raised h ≡ true)

holder_again : (h : Holders) (rest : List ℕ) → FitsIn false h
    → read_holder (two (holder_number h) ++ rest) ≡ Some (h, rest)
unfolding read_holder
holder_again Nobody rest fits = rw (two_reads.again 0 rest (omega arith)) refl
holder_again (ExclusiveHold client) rest fits =
    let low : eqb client 0 ≡ false = ne_eqb client 0 (λ e. omega (arith, e, fits.0.0)) in
    let high : leb client 256 ≡ true = le-leb _ _ fits.0.1 in
    rw (two_reads.again client rest (omega (arith, fits.0)), high, low) refl
holder_again (SharedHold clients) rest fits = let no = fits.1 in absurd cc

above : (n : ℕ) → (n ≡ 0 → ⊥) → 1 ≤ n
above zero h = absurd (h refl)
above (suc n) h = omega arith

number_is : (n : ℕ) → n ≤ 256 → FitsIn false (holder_of n) × (holder_number (holder_of n) ≡ n)
number_is n le =
    elim (decided (eqb n 0)) [
      | inl e ↦ rw e ((tt, refl), sym (eqb-true n 0 e))
      | inr e ↦ rw e (((above n (eqb-false n 0 e), le), refl), refl)
    ]

holder_reads : Reads read_holder (λ (h : Holders). two (holder_number h)) (FitsIn false)
unfolding read_holder
holder_reads = record {
  takes = λ bytes h rest ok e. made_as holder_of (tested (λ n. leb n 256) read_two) two (λ (n : ℕ). n ≤ 256)
      (limited_reads 256 (2 ^ 16) (omega arith) read_two two two_reads)
      (λ (z : Holders) (w : List ℕ). Took (λ (h : Holders). two (holder_number h)) (FitsIn false) bytes z w) bytes h
      rest ok e
      (λ n t. let is = number_is n t.fits in record { parts = rw is.1 t.parts; rest_fits = t.rest_fits; fits = is.0 });
  again = holder_again;
}

sharers_reads : Reads read_sharers sharers AreSharers
unfolding read_sharers
sharers_reads = fitting read_sharers sharers
    (λ (cs : List ℕ). (((1 ≤ length cs) × (length cs ≤ 8)) × AllByRecursion IsClient cs)
    × (are_clients_above 0 cs ≡ true)) AreSharers
    (λ cs f. (f.0.0.0, f.0.0.1, f.0.1, f.1)) (λ cs f. (((f.0, f.1), f.2), f.3))
    (tested_reads (are_clients_above 0) (counted (tested (is_from_1_to 8) read_byte) read_client) sharers
    (λ (cs : List ℕ). ((1 ≤ length cs) × (length cs ≤ 8)) × AllByRecursion IsClient cs)
    (counted_reads (tested (is_from_1_to 8) read_byte) one (λ (n : ℕ). (1 ≤ n) × (n ≤ 8))
    (ranged_reads 8 256 (omega arith) read_byte one byte_reads) read_client two IsClient client_reads))

mode_takes : TakesKinds mode in_mode IsHolders holders_of
unfolding holders_of
mode_takes =
    bare_takes mode in_mode IsHolders 0 Nobody refl refl tt _
    (kind_takes mode in_mode IsHolders 1 ExclusiveHold read_client two IsClient client_reads
    (λ y. refl) (λ y. refl) (λ y f. f) _
    (kind_takes mode in_mode IsHolders 2 SharedHold read_sharers sharers AreSharers sharers_reads
    (λ y. refl) (λ y. refl) (λ y f. f) _
    (no_kind_takes mode in_mode IsHolders)))

mode_again : (h : Holders) (rest : List ℕ) → IsHolders h → holders_of (mode h) (in_mode h ++ rest) ≡ Some (h, rest)
unfolding holders_of
mode_again Nobody rest fits = refl
mode_again (ExclusiveHold client) rest fits = rw (client_reads.again client rest fits) refl
mode_again (SharedHold clients) rest fits = rw (sharers_reads.again clients rest fits) refl

all_kept : (h : Holders) → is_kept true h ≡ true
all_kept Nobody = refl
all_kept (ExclusiveHold client) = refl
all_kept (SharedHold clients) = refl

pub holders_reads : (raised : Bool) → Reads (read_holders raised) (holders raised) (FitsIn raised)
holders_reads false = holder_reads
holders_reads true =
    fitting (tagged holders_of) (holders true) IsHolders (FitsIn true) (λ h f. (f, all_kept h)) (λ h f. f.0)
    (tagged_reads mode in_mode IsHolders holders_of mode_takes mode_again)

-- ---- a lock entry, an entry, all entries

lock_entry_reads : (raised : Bool) → Reads (read_lock_entry raised) (lock_entry raised) (IsLockEntryIn raised)
unfolding read_lock_entry
lock_entry_reads raised = made_reads (λ (s : ℕ × Holders). let x : LockEntry =
    record { fence = s.0; holders = s.1 } in x)
    (λ (s : LockEntry). (s.fence, s.holders)) (λ x. refl) (λ y. refl) _ _ _
    (both_reads read_count eight IsCount (read_holders raised) (holders raised)
    (FitsIn raised) count_reads (holders_reads raised))

pub entry_reads : (raised : Bool) → Reads (read_entry raised) (entry raised) (IsTableEntry raised)
unfolding read_entry
entry_reads raised = both_reads read_name lock_name IsName (read_lock_entry raised) (lock_entry raised)
    (IsLockEntryIn raised) name_reads (lock_entry_reads raised)

size_reads : Reads read_size two (λ (n : ℕ). n ≤ 512)
unfolding read_size
size_reads = limited_reads 512 (2 ^ 16) (omega arith) read_two two two_reads

abbrev AreEntries : Bool → List Entry → Type 0
AreEntries raised es = ((length es ≤ 512) × AllByRecursion (IsTableEntry raised) es) × (rise es ≡ true)

entries_reads : (raised : Bool) → Reads (read_entries raised) (entries raised) (AreEntries raised)
unfolding read_entries
entries_reads raised = tested_reads rise (counted read_size (read_entry raised)) (entries raised)
    (λ (es : List Entry). (length es ≤ 512) × AllByRecursion (IsTableEntry raised) es)
    (counted_reads read_size two (λ (n : ℕ). n ≤ 512) size_reads (read_entry raised) (entry raised)
    (IsTableEntry raised) (entry_reads raised))

-- ---- the version, and then the entries

abbrev Versioned : Type 0
Versioned = Bool × List Entry

abbrev Fits : Versioned → Type 0
Fits v = AreEntries v.0 v.1

by_takes : (b : Bool) (n : ℕ) (behind bytes : List ℕ) (v : Versioned) (rest : List ℕ) → IsBytes behind → IsBytes bytes
    → eqb n raised_mark ≡ b → bytes ≡ two n ++ behind
    → read_by b behind bytes ≡ Some (v, rest) → Took packed_table Fits bytes v rest
by_takes true n behind bytes v rest hb h is parts e =
    made_as (λ (es : List Entry). let x : Versioned = (true, es) in x) (read_entries true) (entries true)
    (AreEntries true) (entries_reads true)
    (λ (z : Versioned) (w : List ℕ). Took packed_table Fits bytes z w) behind v rest hb e
    (λ es t. record {
      parts = parts ∙ ap (λ (k : ℕ). two k ++ behind) (eqb-true n raised_mark is)
          ∙ ap (λ (w : List ℕ). two raised_mark ++ w) t.parts
          ∙ sym (append_assoc (two raised_mark) (entries true es) rest);
      rest_fits = t.rest_fits;
      fits = t.fits;
    })
by_takes false n behind bytes v rest hb h is parts e =
    made_as (λ (es : List Entry). let x : Versioned = (false, es) in x) (read_entries false) (entries false)
    (AreEntries false) (entries_reads false)
    (λ (z : Versioned) (w : List ℕ). Took packed_table Fits bytes z w) bytes v rest h e
    (λ es t. record { parts = t.parts; rest_fits = t.rest_fits; fits = t.fits })

table_takes : (bytes : List ℕ) (v : Versioned) (rest : List ℕ) → IsBytes bytes → read_table bytes ≡ Some (v, rest)
    → Took packed_table Fits bytes v rest
unfolding read_table
table_takes bytes v rest h e =
    let a = bind_ok (read_two bytes) (λ n. read_by (eqb n.0 raised_mark) n.1 bytes) (v, rest) e in
    let t = two_reads.takes bytes a.0.0 a.0.1 h a.1 in
    by_takes (eqb a.0.0 raised_mark) a.0.0 a.0.1 bytes v rest t.rest_fits h refl t.parts a.2

table_again : (v : Versioned) (rest : List ℕ) → Fits v → read_table (packed_table v ++ rest) ≡ Some (v, rest)
unfolding read_table
table_again (true, es) rest fits =
    let front : read_two ((two raised_mark ++ entries true es) ++ rest) ≡ Some (raised_mark, entries true es ++ rest) =
    ap read_two (append_assoc (two raised_mark) (entries true es) rest)
    ∙ two_reads.again raised_mark (entries true es ++ rest) (omega arith) in
    rw (front, (entries_reads true).again es rest fits) refl
table_again (false, es) rest fits =
    let few : length es ≤ 512 = fits.0.0 in
    let tail : List ℕ = flat_map (entry false) es in
    let front : read_two ((two (length es) ++ tail) ++ rest) ≡ Some (length es, tail ++ rest) =
    ap read_two (append_assoc (two (length es)) tail rest)
    ∙ two_reads.again (length es) (tail ++ rest) (omega (arith, few)) in
    let not_raised : eqb (length es) 65282 ≡ false = ne_eqb (length es) 65282 (λ e. omega (arith, few, e)) in
    rw (front, not_raised, (entries_reads false).again es rest fits) refl

pub table_reads : Reads read_table packed_table Fits
table_reads = record { takes = table_takes; again = table_again }

-- ---- tables

true_of : (b : Bool) → T b → b ≡ true
true_of true h = refl
true_of false h = absurd h

of_true : (b : Bool) → b ≡ true → T b
of_true true e = tt
of_true false e = absurd cc

pub entries_rise : (m : Names) → rise (map.entries m) ≡ true
entries_rise m = true_of _ (map.entries_sorted m)

pub are_entries : (raised : Bool) (m : Names) → AreNames raised m → AreEntries raised (map.entries m)
unfolding AreNames
are_entries raised m fits = ((subst (λ (n : ℕ). n ≤ 512) (map.len-entries m) fits.0, fits.1), entries_rise m)

abbrev pub parts_of : Table → Versioned
parts_of t = (t.raised, map.entries t.names)

pub entries_again : (t : Table) → IsTable t → whole read_table (table_text t) ≡ Some (parts_of t)
unfolding table_text
entries_again t fits =
    whole_again read_table packed_table Fits table_reads (parts_of t) (are_entries t.raised t.names fits)

same_again : (m : Names) → map.from_sorted (map.entries m) ≡ m
same_again m = map.same_entries_map (map.from_sorted (map.entries m)) m
    (map.entries-from_sorted (slice_cmp nat_cmp) (map.entries m) (map.entries_sorted m))

pub again : (t : Table) → IsTable t → table_in (table_text t) ≡ t
unfolding table_in
again t fits = ap table_of_entries (entries_again t fits)
    ∙ ap (λ (m : Names). let x : Table = record { raised = t.raised; names = m } in x) (same_again t.names)

-- the table of some bytes that were read
pub read_back : (bytes : List ℕ) (v : Versioned) → IsBytes bytes → whole read_table bytes ≡ Some v
    → let t : Table = record { raised = v.0; names = map.from_sorted v.1 } in IsTable t × (bytes ≡ table_text t)
unfolding AreNames table_text
read_back bytes v h e =
    let t = whole_takes read_table packed_table Fits table_reads bytes v h e in
    let same : map.entries (map.from_sorted v.1) ≡ v.1 =
    map.entries-from_sorted (slice_cmp nat_cmp) v.1 (of_true _ t.0.1) in
    let len : map.len (map.from_sorted v.1) ≡ length v.1 = map.len-entries (map.from_sorted v.1) ∙ ap length same in (
      (subst (λ (n : ℕ). n ≤ 512) (sym len) t.0.0.0, subst (AllByRecursion (IsTableEntry v.0)) (sym same) t.0.0.1),
      t.1 ∙ ap (λ (es : List Entry). packed_table (v.0, es)) (sym same),
    )

pub unpacked : (bytes : List ℕ) (t : Table) → IsBytes bytes → whole read_table bytes ≡ Some (parts_of t)
    → IsTable t × (table_text t ≡ bytes)
unpacked bytes t h e =
    let k = read_back bytes (parts_of t) h e in
    let is : ◌≡◌ {A = Table} (record { raised = t.raised; names = map.from_sorted (map.entries t.names) }) t =
    ap (λ (m : Names). let x : Table = record { raised = t.raised; names = m } in x) (same_again t.names) in
    (subst IsTable is k.0, ap table_text (sym is) ∙ sym k.1)

-- what is read of a text
pub text_is : (bytes : List ℕ) → IsTableText bytes
    → (t : Table) × IsTable t × (whole read_table bytes ≡ Some (parts_of t)) × (table_in bytes ≡ t)
text_is bytes t = (t.0, t.1, ap (whole read_table) t.2 ∙ entries_again t.0 t.1, ap table_in t.2 ∙ again t.0 t.1)

-- ---- how long a text is

two_length : (n : ℕ) → length (two n) ≡ 2
unfolding two
two_length n = refl

eight_length : (n : ℕ) → length (eight n) ≡ 8
unfolding eight
eight_length n = refl

clients_length : (cs : List ℕ) → length (flat_map two cs) ≡ 2 * length cs
clients_length [] = refl
clients_length (c ∷ cs) =
    let parts : length (flat_map two (c ∷ cs)) ≡ length (two c) + length (flat_map two cs) =
    ap length (flat_map-cons two c cs) ∙ length-append (two c) (flat_map two cs) in
    omega (arith, parts, two_length c, clients_length cs)

holders_length : (raised : Bool) (h : Holders) → IsHolders h → length (holders raised h) ≤ 18
holders_length false h fits = omega (arith, two_length (holder_number h))
holders_length true Nobody fits = omega arith
holders_length true (ExclusiveHold client) fits = omega (arith, two_length client)
holders_length true (SharedHold clients) fits = omega (arith, clients_length clients, fits.1)

entry_length : (raised : Bool) (e : Entry) → IsTableEntry raised e → length (entry raised e) ≤ 59
entry_length raised e fits =
    let short = (name_length e.0 fits.0).1 in
    omega (
      arith,
      length-append (lock_name e.0) (lock_entry raised e.1),
      length-append (eight e.1.fence) (holders raised e.1.holders),
      eight_length e.1.fence,
      holders_length raised e.1.holders fits.1.1.0,
      short,
    )

entries_length : (raised : Bool) (es : List Entry) → AllByRecursion (IsTableEntry raised) es
    → length (flat_map (entry raised) es) ≤ 59 * length es
entries_length raised [] fits = omega arith
entries_length raised (e ∷ es) fits =
    let first = entry_length raised e fits.0 in
    let rest = entries_length raised es fits.1 in
    let parts : length (flat_map (entry raised) (e ∷ es))
    ≡ length (entry raised e) + length (flat_map (entry raised) es) =
    ap length (flat_map-cons (entry raised) e es) ∙ length-append (entry raised e) (flat_map (entry raised) es) in
    omega (arith, first, rest, parts)

all_length : (raised : Bool) (es : List Entry) → length es ≤ 512 → AllByRecursion (IsTableEntry raised) es
    → length (entries raised es) ≤ 30210
all_length raised es few fits =
    omega (
      arith,
      few,
      entries_length raised es fits,
      length-append (two (length es)) (flat_map (entry raised) es),
      two_length (length es),
    )

packed_length : (raised : Bool) (es : List Entry) → length es ≤ 512 → AllByRecursion (IsTableEntry raised) es
    → length (packed_table (raised, es)) ≤ 30212
packed_length false es few fits = omega (arith, all_length false es few fits)
packed_length true es few fits =
    omega (
      arith,
      all_length true es few fits,
      length-append (two raised_mark) (entries true es),
      two_length raised_mark,
    )

pub short : (bytes : List ℕ) → IsTableText bytes → length bytes ≤ 30212
unfolding table_text AreNames
short bytes t =
    let es = map.entries t.0.names in
    let some : length es ≤ 512 = subst (λ (n : ℕ). n ≤ 512) (map.len-entries t.0.names) t.1.0 in
    omega (arith, packed_length t.0.raised es some t.1.1, ap length t.2)

pub at_most_30631 : (bytes : List ℕ) → IsTableText bytes → length bytes ≤ 30631
at_most_30631 bytes t = omega (arith, short bytes t)

-- ---- what keeps a table one

pub empty_entries : map.entries {X = LockEntry} {R = slice_cmp nat_cmp} map.empty ≡ []
empty_entries = nil_from_length _ (sym (map.len-entries map.empty) ∙ map.len-empty (slice_cmp nat_cmp) LockEntry)

pub empty_are_names : (raised : Bool) → AreNames raised map.empty
unfolding AreNames
empty_are_names raised =
    let len : map.len {X = LockEntry} map.empty ≡ 0 = map.len-empty (slice_cmp nat_cmp) LockEntry in
    (rw len (omega arith), rw empty_entries tt)

pub empty_is_text : IsTableText (table_text empty)
empty_is_text = (empty, empty_are_names false, refl)

module _ (raised : Bool) where
  all_put : (name : List ℕ) (s : LockEntry) (es : List Entry) → IsTableEntry raised (name, s)
      → AllByRecursion (IsTableEntry raised) es
      → AllByRecursion (IsTableEntry raised) (map.put (slice_cmp nat_cmp) name s es)
  all_put name s [] new fits = (new, tt)
  all_put name s (e ∷ es) new fits = by (slice_cmp nat_cmp name e.0) (all_put name s es new fits.1)
    where
      by : (o : Ordering) → AllByRecursion (IsTableEntry raised) (map.put (slice_cmp nat_cmp) name s es)
          → AllByRecursion (IsTableEntry raised)
          (by_order o ((name, s) ∷ e ∷ es) ((e.0, s) ∷ es) (e ∷ map.put (slice_cmp nat_cmp) name s es))
      by Less rest = (new, fits)
      by Equal rest = ((fits.0.0, new.1), fits.1)
      by Greater rest = (fits.0, rest)

  pub insert_are_names : (m : Names) (name : List ℕ) (s : LockEntry) → AreNames raised m → IsTableEntry raised (name, s)
      → (map.get m name ≡ None → map.len m < 512) → AreNames raised (map.insert m name s)
  unfolding AreNames
  insert_are_names m name s fits new room = (
    rw (map.len-insert nat_list_cmp_total m name s) (len_after (map.get m name) room),
    subst (AllByRecursion (IsTableEntry raised)) (sym (map.entries-insert nat_list_cmp_total m name s))
        (all_put name s (map.entries m) new fits.1),
  )
    where
      len_after : (o : Option LockEntry) → (o ≡ None → map.len m < 512) → cond (is_some o) (map.len m)
          (map.len m + 1) ≤ 512
      len_after None room = omega (arith, room refl)
      len_after (Some t) room = fits.0

-- raising changes no name, and a raised table may hold whatever one that was not raised may
raised_entry : (raised : Bool) (es : List Entry) → AllByRecursion (IsTableEntry raised) es
    → AllByRecursion (IsTableEntry true) es
raised_entry raised [] fits = tt
raised_entry raised (e ∷ es) fits =
    ((fits.0.0, (fits.0.1.0, (fits.0.1.1.0, all_kept e.1.holders))), raised_entry raised es fits.1)

pub raised_are_names : (raised : Bool) (m : Names) → AreNames raised m → AreNames true m
unfolding AreNames
raised_are_names raised m fits = (fits.0, raised_entry raised (map.entries m) fits.1)
