-- Reading an entry takes what its spelling is.
use Rattle.std.proofs.Common.{◌≡◌, ℕ, ◌^◌, ◌<◌, ◌≤◌, Bool, true, ◌&&◌, List, ◌++◌, length, Option, Some, None, Result}
use Rattle.std.proofs.Common.{Ok, Err, IfOk, refl, ap, subst, ◌∙◌, append_assoc, arith, lit≤, take, drop}
use Rattle.std.specs.List.{AllByRecursion}
use Rattle.std.proofs.lemmas.List.{take_at, drop_at}
use Rattle.lk_types.specs.Ranges.{IsNode, IsCount, IsTotal, IsAlpha}
use Rattle.lk_types.specs.Ballots.{IsRealBallot, IsBallot}
use Rattle.lk_types.specs.BallotValue.{BallotValue}
use Rattle.lk_types.specs.Commands.{IsCommand, IsOp}
use Rattle.lk_types.specs.Rosters.{IsMember, AreMembers}
use Rattle.lk_types.specs.Votes.{IsVote, are_votes_above}
use Rattle.lk_types.specs.declared.command.Command.{Command}
use Rattle.lk_types.specs.declared.command.Command.TheVariants.{Noop, Request}
use Rattle.lk_types.specs.declared.command.Op.{Op}
use Rattle.lk_types.specs.declared.command.Op.TheVariants.{Table, Join, Leave, Raise}
use Rattle.lk_types.specs.declared.entry.Entry.{Entry}
use Rattle.lk_types.specs.declared.entry.Entry.TheVariants.{Promise, Vote, Decided}
use Rattle.lk_types.specs.declared.member.Member.{Member}
use Rattle.lk_types.specs.declared.vote.Vote.{Vote as VoteValue}
use Rattle.lk_codec.specs.Fields.{one, two, four, eight, ballot, members, op, command, vote, pair}
use Rattle.lk_codec.specs.Parser.{◌>>=◌, read_byte, tested, sized, whole}
use Rattle.lk_codec.specs.FieldReading.{is_from_1_to, read_two, read_four, read_eight, read_node, read_count}
use Rattle.lk_codec.specs.FieldReading.{read_total, read_ballot, read_any_ballot, read_members, read_vote, read_pair}
use Rattle.lk_codec.proofs.Spellings.{IsBytes, IsBytes-drop, IsBytes-take, Took, Reads, bind_ok, some_is, fitting}
use Rattle.lk_codec.proofs.Spellings.{both_reads, made_reads, tested_reads, byte_reads, whole_takes, whole_again}
use Rattle.lk_codec.proofs.Spellings.{two_reads, four_reads, eight_reads, sized_reads, counted_reads, TakesKinds}
use Rattle.lk_codec.proofs.Spellings.{no_kind_takes, kind_takes, tagged_reads, ranged_reads, limited_reads, node_reads}
use Rattle.lk_codec.proofs.Spellings.{count_reads, total_reads, ballot_reads, mark_reads, members_reads, vote_reads}
use Rattle.lk_codec.proofs.Spellings.{pair_reads}
use Rattle.lk_store_format.specs.Values.{HeaderValue, StandingValue, BaseValue}
use Rattle.lk_store_format.specs.Formats.{IsFormat}
use Rattle.lk_store_format.specs.Headers.{IsHeader}
use Rattle.lk_store_format.specs.Entries.{header, snapshot, votes, pairs, standing, base, kind, fields, body, spelling}
use Rattle.lk_store_format.specs.Entries.{IsPair, are_pairs_above, IsStanding, IsBase, IsEntry, IsStored}
use Rattle.lk_store_format.specs.Parsing.{read_alpha, read_format, read_header, read_snapshot, read_few, read_votes}
use Rattle.lk_store_format.specs.Parsing.{read_pairs, is_in_order, read_standing, read_base, read_fields, read_body}
use Rattle.lk_store_format.specs.Parsing.{read_size, within, read_entry, Gives}
use Rattle.lk_store_format.specs.Files.{NoEntryNext}
use Rattle.lk_store_format.specs.declared.entry_fault.EntryFault.{EntryFault}
use Rattle.lk_store_format.specs.declared.entry_fault.EntryFault.TheVariants.{NoEntry, NoMemory}
use Rattle.lk_store_format.specs.declared.stored.Stored.{Stored}
use Rattle.lk_store_format.specs.declared.stored.Stored.TheVariants.{Base, Plain}

-- ---- the header

alpha_reads : Reads read_alpha one IsAlpha
unfolding read_alpha
alpha_reads = ranged_reads 64 256 (omega arith) read_byte one byte_reads

AreAll : List Member → Type 0
AreAll ms = AreMembers ms × AllByRecursion IsMember ms

header_of : ℕ × (ℕ × (ℕ × List Member)) → HeaderValue
header_of h = record { node = h.1.0; cluster = h.0; alpha = h.1.1.0; members = h.1.1.1 }

pub header_reads : Reads read_header header IsHeader
unfolding read_header header_of AreAll
header_reads = fitting read_header header
    (λ (h : HeaderValue). (h.cluster < 2 ^ 64) × (IsNode h.node × (IsAlpha h.alpha × AreAll h.members))) IsHeader
    (λ h f. (f.0, f.1.0, f.1.1.0, f.1.1.1.1, f.1.1.1.0)) (λ h f. (f.0, (f.1, (f.2, (f.4, f.3)))))
    (made_reads header_of (λ (h : HeaderValue). (h.cluster, (h.node, (h.alpha, h.members))))
    (λ x. refl) (λ y. refl) _ _ _
    (both_reads read_eight eight (λ n. n < 2 ^ 64) _ _ _ eight_reads
    (both_reads read_node four IsNode _ _ _ node_reads
    (both_reads read_alpha one IsAlpha read_members members AreAll alpha_reads members_reads))))

format_reads : Reads read_format one IsFormat
unfolding read_format
format_reads = ranged_reads 2 256 (omega arith) read_byte one byte_reads

-- ---- the standing

snapshot_reads : Reads read_snapshot snapshot (λ (text : List ℕ). (1 ≤ length text) × (length text ≤ 65536))
unfolding read_snapshot
snapshot_reads = sized_reads (tested (is_from_1_to 65536) read_four) four (λ n. (1 ≤ n) × (n ≤ 65536))
    (ranged_reads 65536 (2 ^ 32) (omega arith) read_four four four_reads)

few_reads : Reads read_few two (λ n. n ≤ 128)
unfolding read_few
few_reads = limited_reads 128 (2 ^ 16) (omega arith) read_two two two_reads

AreVotes : List VoteValue → Type 0
AreVotes vs = (length vs ≤ 128) × AllByRecursion IsVote vs

ArePairs : List (ℕ × Command) → Type 0
ArePairs ps = (length ps ≤ 128) × AllByRecursion IsPair ps

votes_reads : Reads read_votes votes AreVotes
unfolding read_votes AreVotes
votes_reads = counted_reads read_few two (λ n. n ≤ 128) few_reads read_vote vote IsVote vote_reads

pairs_reads : Reads read_pairs pairs ArePairs
unfolding read_pairs ArePairs
pairs_reads = counted_reads read_few two (λ n. n ≤ 128) few_reads read_pair pair IsPair pair_reads

standing_of : BallotValue × (ℕ × (List ℕ × (List VoteValue × List (ℕ × Command)))) → StandingValue
standing_of s = record { promised = s.0; position = s.1.0; snapshot = s.1.1.0; votes = s.1.1.1.0; pairs = s.1.1.1.1 }

both_true : (a b : Bool) → (a && b) ≡ true → (a ≡ true) × (b ≡ true)
both_true true true e = (refl, refl)
both_true true _ e = absurd cc
both_true _ b e = absurd cc

are_true : (a b : Bool) → a ≡ true → b ≡ true → (a && b) ≡ true
are_true a b x y = rw (x, y) refl

Parts : StandingValue → Type 0
Parts s = IsBallot s.promised
    × (IsTotal s.position × (((1 ≤ length s.snapshot) × (length s.snapshot ≤ 65536))
    × (AreVotes s.votes × ArePairs s.pairs)))

parts_fit : (s : StandingValue) → Parts s × (is_in_order s ≡ true) → IsStanding s
unfolding Parts AreVotes ArePairs
parts_fit s f =
    let order = both_true (are_votes_above s.position s.votes) (are_pairs_above s.position s.pairs) f.1 in (
      f.0.0,
      f.0.1.0,
      f.0.1.1.0.0,
      f.0.1.1.0.1,
      f.0.1.1.1.0.0,
      f.0.1.1.1.0.1,
      order.0,
      f.0.1.1.1.1.0,
      f.0.1.1.1.1.1,
      order.1,
    )

fit_parts : (s : StandingValue) → IsStanding s → Parts s × (is_in_order s ≡ true)
unfolding Parts AreVotes ArePairs
fit_parts s f = (
  (f.0, (f.1, ((f.2, f.3), ((f.4, f.5), (f.7, f.8))))),
  are_true (are_votes_above s.position s.votes) (are_pairs_above s.position s.pairs) f.6 f.9,
)

standing_reads : Reads read_standing standing IsStanding
unfolding read_standing standing_of Parts
standing_reads = fitting read_standing standing
    (λ (s : StandingValue). Parts s × (is_in_order s ≡ true)) IsStanding parts_fit fit_parts
    (tested_reads is_in_order _ standing Parts
    (made_reads standing_of (λ (s : StandingValue). (s.promised, (s.position, (s.snapshot, (s.votes, s.pairs)))))
    (λ x. refl) (λ y. refl) _ _ _
    (both_reads read_any_ballot ballot IsBallot _ _ _ mark_reads
    (both_reads read_total eight IsTotal _ _ _ total_reads
    (both_reads read_snapshot snapshot
    (λ (text : List ℕ). (1 ≤ length text) × (length text ≤ 65536)) _ _ _ snapshot_reads
    (both_reads read_votes votes AreVotes read_pairs pairs ArePairs votes_reads pairs_reads))))))

base_of : ℕ × (ℕ × (HeaderValue × StandingValue)) → BaseValue
base_of b = record { generation = b.0; format = b.1.0; header = b.1.1.0; standing = b.1.1.1 }

base_reads : Reads read_base base IsBase
unfolding read_base base base_of
base_reads = fitting read_base base
    (λ (b : BaseValue). IsCount b.generation × (IsFormat b.format × (IsHeader b.header × IsStanding b.standing)))
    IsBase (λ b f. (f.0, f.1.1.0, f.1.1.1, f.1.0)) (λ b f. (f.0, (f.3, (f.1, f.2))))
    (made_reads base_of (λ (b : BaseValue). (b.generation, (b.format, (b.header, b.standing))))
    (λ x. refl) (λ y. refl) _ _ _
    (both_reads read_count eight IsCount _ _ _ count_reads
    (both_reads read_format one IsFormat _ _ _ format_reads
    (both_reads read_header header IsHeader read_standing standing IsStanding header_reads standing_reads))))

-- ---- the body of an entry

abbrev IsBody : Stored → Type 0
IsBody (Base b) = IsBase b
IsBody (Plain e) = IsEntry e

fields_takes : TakesKinds kind fields IsBody read_fields
unfolding read_fields
fields_takes =
    kind_takes kind fields IsBody 1 Base read_base base IsBase base_reads (λ y. refl) (λ y. refl) (λ y f. f) _
    (kind_takes kind fields IsBody 2 (λ (b : BallotValue). Plain
    (Promise b)) read_ballot ballot IsRealBallot ballot_reads
    (λ y. refl) (λ y. refl) (λ y f. f) _
    (kind_takes kind fields IsBody 3 (λ (v : VoteValue). Plain (Vote v)) read_vote vote IsVote vote_reads
    (λ y. refl) (λ y. refl) (λ y f. f) _
    (kind_takes kind fields IsBody 4 (λ (p : ℕ × Command). Plain (Decided p.0 p.1)) read_pair pair IsPair pair_reads
    (λ y. refl) (λ y. refl) (λ y f. f) _
    (no_kind_takes kind fields IsBody))))

fields_again : (e : Stored) (rest : List ℕ) → IsBody e → read_fields (kind e) (fields e ++ rest) ≡ Some (e, rest)
unfolding read_fields
fields_again (Base b) rest fits = rw (base_reads.again b rest fits) refl
fields_again (Plain (Promise b)) rest fits = rw (ballot_reads.again b rest fits) refl
fields_again (Plain (Vote v)) rest fits = rw (vote_reads.again v rest fits) refl
fields_again (Plain (Decided position c)) rest fits = rw (pair_reads.again (position, c) rest fits) refl

body_reads : Reads read_body body IsBody
body_reads = tagged_reads kind fields IsBody read_fields fields_takes fields_again

-- ---- the length before it

size_reads : Reads read_size four (λ n. n ≤ 65532)
unfolding read_size
size_reads = limited_reads 65532 (2 ^ 32) (omega arith) read_four four four_reads

bytes_between : (a text rest bytes : List ℕ) → bytes ≡ (a ++ text) ++ rest → IsBytes bytes → IsBytes text
bytes_between a text rest bytes is h =
    let whole : bytes ≡ a ++ (text ++ rest) = is ∙ append_assoc a text rest in
    let behind : drop (length a) bytes ≡ text ++ rest = ap (drop (length a)) whole
    ∙ drop_at a (text ++ rest) (length a) refl in
    let here : take (length text) (drop (length a) bytes) ≡ text = ap (take (length text)) behind
    ∙ take_at text rest (length text) refl in
    subst IsBytes here (IsBytes-take (length text) (drop (length a) bytes) (IsBytes-drop (length a) bytes h))

module _ {X : Type 0} where
  within_takes : (c : List ℕ → Option (ℕ × List ℕ)) (t : ℕ → List ℕ) (C : ℕ → Type 0) → Reads c t C
      → (p : List ℕ → Option (X × List ℕ)) (s : X → List ℕ) (F : X → Type 0) → Reads p s F
      → (bytes : List ℕ) (x : X) (rest : List ℕ) → IsBytes bytes → within c p bytes ≡ Some (x, rest)
      → Took (λ (x : X). t (length (s x)) ++ s x) (λ (x : X). F x × C (length (s x))) bytes x rest
  within_takes c t C rc p s F r bytes x rest h e =
      let a = bind_ok (sized c bytes) (λ text. whole p text.0 >>= λ x. Some (x, text.1)) (x, rest) e in
      let b = bind_ok (whole p a.0.0) (λ x. Some (x, a.0.1)) (x, rest) a.2 in
      let text = (sized_reads c t C rc).takes bytes a.0.0 a.0.1 h a.1 in
      let inner = whole_takes p s F r a.0.0 b.0 (bytes_between (t (length a.0.0)) a.0.0 a.0.1 bytes text.parts h) b.1 in
      let all : X × List ℕ = (b.0, a.0.1) in
      subst (λ (z : X × List ℕ). Took (λ (x : X). t (length (s x)) ++ s x)
      (λ (x : X). F x × C (length (s x))) bytes z.0 z.1) (some_is all (x, rest) b.2)
      (record {
        parts = text.parts ∙ ap (λ (w : List ℕ). (t (length w) ++ w) ++ a.0.1) inner.1;
        rest_fits = text.rest_fits;
        fits = (inner.0, subst (λ (w : List ℕ). C (length w)) inner.1 text.fits);
      })

  -- a length, and so many bytes that are one whole thing
  within_reads : (c : List ℕ → Option (ℕ × List ℕ)) (t : ℕ → List ℕ) (C : ℕ → Type 0) → Reads c t C
      → (p : List ℕ → Option (X × List ℕ)) (s : X → List ℕ) (F : X → Type 0) → Reads p s F
      → Reads (within c p) (λ (x : X). t (length (s x)) ++ s x) (λ (x : X). F x × C (length (s x)))
  within_reads c t C rc p s F r = record {
    takes = within_takes c t C rc p s F r;
    again = λ x rest fits. rw ((sized_reads c t C rc).again (s x) rest fits.1, whole_again p s F r x fits.0) refl;
  }

-- ---- entries

pub len_ballot : (b : BallotValue) → length (ballot b) ≡ 12
unfolding eight four
len_ballot b = refl

len_op : (o : Op) → IsOp o → length (op o) ≤ 66
unfolding four two
len_op (Table bytes) f = omega (arith, f.1)
len_op (Join node port) f = lit≤ tt
len_op (Leave node) f = lit≤ tt
len_op Raise f = lit≤ tt

pub len_command : (c : Command) → IsCommand c → length (command c) ≤ 77
unfolding eight four two
len_command Noop f = omega arith
len_command (Request r) f = omega (arith, len_op r.op f.2)

pub plain_short : (e : Entry) → IsEntry e → length (body (Plain e)) ≤ 65532
unfolding eight four
plain_short (Promise b) f = omega (arith, len_ballot b)
plain_short (Vote v) f = omega (arith, len_command v.command f.2)
plain_short (Decided position c) f = omega (arith, len_command c f.1)

stored_fits : (e : Stored) → IsBody e × (length (body e) ≤ 65532) → IsStored e
stored_fits (Base b) f = (f.0, omega (arith, f.1))
stored_fits (Plain e) f = f.0

fits_stored : (e : Stored) → IsStored e → IsBody e × (length (body e) ≤ 65532)
fits_stored (Base b) f = (f.0, omega (arith, f.1))
fits_stored (Plain e) f = (f, plain_short e f)

pub entry_reads : Reads read_entry spelling IsStored
unfolding read_entry spelling
entry_reads = fitting read_entry spelling
    (λ (e : Stored). IsBody e × (length (body e) ≤ 65532)) IsStored stored_fits fits_stored
    (within_reads read_size four (λ n. n ≤ 65532) size_reads read_body body IsBody body_reads)

pub body_short : (e : Stored) → IsStored e → length (body e) ≤ 65532
body_short e f = (fits_stored e f).1

-- ---- the entry in front

pub is_found : {Y : Type 0} (view : Y → Stored × List ℕ) (bytes : List ℕ) (result : Result Y EntryFault)
    → IsBytes bytes → Gives view result (read_entry bytes)
    → IfOk result (λ y. IsStored (view y).0 × (bytes ≡ spelling (view y).0 ++ (view y).1))
is_found view bytes (Ok y) h given = let t = entry_reads.takes bytes (view y).0 (view y).1 h given in (t.fits, t.parts)
is_found view bytes (Err e) h given = tt

pub none_at : (bytes : List ℕ) → read_entry bytes ≡ None → NoEntryNext bytes
none_at bytes none e more fits is =
    let some : read_entry bytes ≡ Some (e, more) = ap read_entry is ∙ entry_reads.again e more fits in absurd cc

pub is_none : {Y : Type 0} (view : Y → Stored × List ℕ) (bytes : List ℕ) (result : Result Y EntryFault)
    → Gives view result (read_entry bytes) → result ≡ Err NoEntry → NoEntryNext bytes
is_none view bytes (Ok y) given bad = absurd cc
is_none view bytes (Err NoEntry) given bad = none_at bytes given
is_none view bytes (Err NoMemory) given bad = absurd cc
