-- Reading the entries of a file from the start of a list.
use Rattle.std.specs.Prelude.{◌≡◌, ℕ, Bool, List, Option, Some, None, Result, Ok, Err, nat_le, ◌&&◌, ◌-◌}
use Rattle.lk_types.specs.Limits.{max_wide_alpha, max_votes, max_base}
use Rattle.lk_types.specs.declared.command.Command.{Command}
use Rattle.lk_types.specs.declared.entry.Entry.TheVariants.{Promise, Vote, Decided}
use Rattle.lk_types.specs.declared.vote.Vote.{Vote as VoteValue}
use Rattle.lk_codec.specs.Parser.{◌>>=◌, read_byte, both, made, tested, counted, sized, tagged, kind, no_kind, whole}
use Rattle.lk_codec.specs.FieldReading.{is_from_1_to, read_two, read_four, read_eight, read_node, read_count}
use Rattle.lk_codec.specs.FieldReading.{read_total, read_ballot, read_any_ballot, read_members, read_vote, read_pair}
use Rattle.lk_types.specs.Votes.{are_votes_above}
use Rattle.lk_store_format.specs.Entries.{are_pairs_above}
use Rattle.lk_store_format.specs.Values.{HeaderValue, StandingValue, BaseValue}
use Rattle.lk_store_format.specs.declared.entry_fault.EntryFault.{EntryFault}
use Rattle.lk_store_format.specs.declared.entry_fault.EntryFault.TheVariants.{NoEntry, NoMemory}
use Rattle.lk_store_format.specs.declared.stored.Stored.{Stored}
use Rattle.lk_store_format.specs.declared.stored.Stored.TheVariants.{Base, Plain}

-- reading gives nothing, or memory ran out
abbrev pub Fails : {Y : Type 0} → EntryFault → Option Y → Type 0
Fails NoEntry read = read ≡ None
Fails NoMemory read = Unit {0}

-- what a function returned, in the form that `shown` gives it, is what reading gives, unless memory ran out
abbrev pub Gives : {X Y : Type 0} → (X → Y) → Result X EntryFault → Option Y → Type 0
Gives shown (Ok x) read = read ≡ Some (shown x)
Gives shown (Err e) read = Fails e read

unfoldable pub read_alpha : List ℕ → Option (ℕ × List ℕ)
read_alpha = tested (is_from_1_to max_wide_alpha) read_byte

unfoldable pub read_format : List ℕ → Option (ℕ × List ℕ)
read_format = tested (is_from_1_to 2) read_byte

unfoldable pub read_header : List ℕ → Option (HeaderValue × List ℕ)
read_header = made (λ h. record { node = h.1.0; cluster = h.0; alpha = h.1.1.0; members = h.1.1.1 })
    (both read_eight (both read_node (both read_alpha read_members)))

unfoldable pub read_snapshot : List ℕ → Option (List ℕ × List ℕ)
read_snapshot = sized (tested (is_from_1_to max_base) read_four)

-- how many votes or pairs
unfoldable pub read_few : List ℕ → Option (ℕ × List ℕ)
read_few = tested (λ n. nat_le n max_votes) read_two

unfoldable pub read_votes : List ℕ → Option (List VoteValue × List ℕ)
read_votes = counted read_few read_vote

unfoldable pub read_pairs : List ℕ → Option (List (ℕ × Command) × List ℕ)
read_pairs = counted read_few read_pair

-- all votes and pairs are above the snapshot
abbrev pub is_in_order : StandingValue → Bool
is_in_order s = are_votes_above s.position s.votes && are_pairs_above s.position s.pairs

unfoldable pub read_standing : List ℕ → Option (StandingValue × List ℕ)
read_standing = tested is_in_order
    (made (λ s. record { promised = s.0; position = s.1.0; snapshot = s.1.1.0; votes = s.1.1.1.0; pairs = s.1.1.1.1 })
    (both read_any_ballot (both read_total (both read_snapshot (both read_votes read_pairs)))))

unfoldable pub read_base : List ℕ → Option (BaseValue × List ℕ)
read_base = made (λ b. record { generation = b.0; format = b.1.0; header = b.1.1.0; standing = b.1.1.1 })
    (both read_count (both read_format (both read_header read_standing)))

unfoldable pub read_fields : ℕ → List ℕ → Option (Stored × List ℕ)
read_fields =
    kind 1 (made Base read_base)
    (kind 2 (made (λ b. Plain (Promise b)) read_ballot)
    (kind 3 (made (λ v. Plain (Vote v)) read_vote)
    (kind 4 (made (λ p. Plain (Decided p.0 p.1)) read_pair)
    no_kind)))

abbrev pub read_body : List ℕ → Option (Stored × List ℕ)
read_body = tagged read_fields

-- how many bytes follow the length: including its own four at most 65,536
unfoldable pub read_size : List ℕ → Option (ℕ × List ℕ)
read_size = tested (λ n. nat_le n (max_base - 4)) read_four

-- all of the bytes that the length covers are one body
abbrev pub within : {X : Type 0} → (List ℕ → Option (ℕ × List ℕ)) → (List ℕ → Option (X × List ℕ))
    → List ℕ → Option (X × List ℕ)
within c p bytes = sized c bytes >>= λ text. whole p text.0 >>= λ x. Some (x, text.1)

unfoldable pub read_entry : List ℕ → Option (Stored × List ℕ)
read_entry = within read_size read_body
