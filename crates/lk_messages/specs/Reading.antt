-- Reading each part of a message, and a message.
use Rattle.std.specs.Prelude.{ℕ, ◌+◌, Bool, List, ◌∷◌, length, Option, Some, None, nat_lt, nat_le, ◌&&◌, ◌==◌}
use Rattle.std.specs.Prelude.{if◌then◌else◌}
use Rattle.lk_types.specs.Limits.{max_node, max_part, max_base}
use Rattle.lk_types.specs.declared.command.Command.{Command}
use Rattle.lk_types.specs.declared.vote.Vote.{Vote}
use Rattle.lk_messages.specs.Values.{PromiseValue, are_votes_from, DecidedValue, are_commands_from, WantValue}
use Rattle.lk_messages.specs.Values.{PartValue, PassedValue}
use Rattle.lk_messages.specs.declared.message.Nack.{Nack}
use Rattle.lk_messages.specs.declared.message.Answered.{Answered}
use Rattle.lk_messages.specs.declared.message.Elsewhere.{Elsewhere}
use Rattle.lk_messages.specs.declared.message.NodeMessage.{NodeMessage}
use Rattle.lk_messages.specs.declared.message.NodeMessage.TheVariants as kinds
use Rattle.lk_messages.specs.declared.message.Content.{Content}
use Rattle.lk_messages.specs.declared.message.Content.TheVariants as content
use Rattle.lk_messages.specs.declared.message.Message.{Message}
use Rattle.lk_codec.specs.Parser.{◌>>=◌, read_byte, both, made, tested, counted, sized, kind, no_kind, whole}
use Rattle.lk_codec.specs.FieldReading.{is_from_1_to, read_two, read_four, read_eight, read_client, read_count}
use Rattle.lk_codec.specs.FieldReading.{read_total, read_ballot, read_any_ballot, read_member, read_request}
use Rattle.lk_codec.specs.FieldReading.{read_command}
use Rattle.lk_codec.specs.FieldReading.{read_vote, read_answer}

-- ---- the fields of each kind

unfoldable pub read_prepare : List ℕ → Option (NodeMessage × List ℕ)
read_prepare = made (λ p. kinds.Prepare p.0 p.1) (both read_ballot read_count)

unfoldable pub read_votes : List ℕ → Option (List Vote × List ℕ)
read_votes = counted read_byte read_vote

unfoldable pub read_promise : List ℕ → Option (PromiseValue × List ℕ)
read_promise = tested (λ p. are_votes_from p.first p.votes)
    (made (λ p. record { ballot = p.0; first = p.1.0; votes = p.1.1 }) (both read_ballot (both read_count read_votes)))

unfoldable pub read_proposal : List ℕ → Option (Vote × List ℕ)
read_proposal = made (λ v. record { position = v.1.0; ballot = v.0; command = v.1.1 })
    (both read_ballot (both read_count read_command))

unfoldable pub read_nack : List ℕ → Option (Nack × List ℕ)
read_nack = made (λ n. record { ballot = n.0; promised = n.1.0; executed = n.1.1 })
    (both read_ballot (both read_any_ballot read_total))

unfoldable pub read_commands : List ℕ → Option (List Command × List ℕ)
read_commands = counted read_byte read_command

unfoldable pub read_decided : List ℕ → Option (DecidedValue × List ℕ)
read_decided = tested (λ d. are_commands_from d.first d.commands)
    (made (λ d. record { first = d.0; commands = d.1 }) (both read_count read_commands))

unfoldable pub read_want : List ℕ → Option (WantValue × List ℕ)
read_want = tested (λ w. nat_le w.offset max_base)
    (made (λ w. record { first = w.0; offset = w.1 }) (both read_count read_four))

-- a total of 1 to 65,536, 1 to 1,024 bytes, and these within the total
abbrev pub is_within : PartValue → Bool
is_within p = nat_le 1 p.total && nat_le p.total max_base && nat_le 1 (length p.bytes)
    && nat_le (length p.bytes) max_part && nat_le (p.offset + length p.bytes) p.total

unfoldable pub read_part : List ℕ → Option (PartValue × List ℕ)
read_part = tested is_within
    (made (λ p. record { position = p.0; total = p.1.0; offset = p.1.1.0; bytes = p.1.1.1 })
    (both read_count (both read_four (both read_four (sized read_two)))))

unfoldable pub read_answered : List ℕ → Option (Answered × List ℕ)
read_answered =
    made (λ a. record { client = a.0; number = a.1.0; answer = a.1.1 }) (both read_client (both read_count read_answer))

unfoldable pub read_elsewhere : List ℕ → Option (Elsewhere × List ℕ)
read_elsewhere =
    made (λ e. record { client = e.0; number = e.1.0; member = e.1.1 }) (both read_client (both read_count read_member))

unfoldable pub read_passed : List ℕ → Option (PassedValue × List ℕ)
read_passed = tested (λ p. nat_lt p.number p.last)
    (made (λ p. record { client = p.0; number = p.1.0; last = p.1.1 }) (both read_client (both read_count read_count)))

unfoldable pub read_lead : List ℕ → Option (NodeMessage × List ℕ)
read_lead = made (λ l. kinds.Lead l.0 l.1) (both read_ballot read_total)

-- ---- by kind

-- the kinds with neither a list nor a piece of a snapshot
unfoldable pub small_of : ℕ → List ℕ → Option (NodeMessage × List ℕ)
small_of =
    kind 1 read_prepare
    (kind 3 (made kinds.Accept read_proposal)
    (kind 4 (made kinds.Accepted read_proposal)
    (kind 5 (made kinds.Nack read_nack)
    (kind 7 (made kinds.Want read_want)
    (kind 10 (made kinds.Answer read_answered)
    (kind 11 (made kinds.Elsewhere read_elsewhere)
    (kind 12 (made kinds.Passed read_passed)
    (kind 13 read_lead
    no_kind))))))))

unfoldable pub read_node_message : ℕ → List ℕ → Option (NodeMessage × List ℕ)
read_node_message =
    kind 2 (made kinds.Promise read_promise)
    (kind 6 (made kinds.Decided read_decided)
    (kind 8 (made kinds.Part read_part)
    small_of))

-- a client's request, which no node sends
unfoldable pub read_asked : ℕ → List ℕ → Option (Content × List ℕ)
read_asked from bytes = if from == 0 then made content.Request read_request bytes else None

-- what follows the header
unfoldable pub content_of : ℕ → ℕ → List ℕ → Option (Content × List ℕ)
content_of k from bytes =
    if k == 9 then read_asked from bytes
    else if is_from_1_to max_node from then made (content.Node from) (read_node_message k) bytes
    else None

-- the two letters and the version, and then the kind, the cluster and the sender
unfoldable pub read_header : List ℕ → Option ((ℕ × (ℕ × ℕ)) × List ℕ)
read_header (a ∷ b ∷ c ∷ rest) =
    if a == 76 && b == 75 && c == 1 then both read_byte (both read_eight read_four) rest else None
read_header _ = None

unfoldable pub read_message : List ℕ → Option (Message × List ℕ)
read_message bytes = read_header bytes >>= λ h. content_of h.0.0 h.0.1.1 h.1 >>= λ c. Some
    (record { cluster = h.0.1.0; content = c.0 }, c.1)

abbrev pub all_of : List ℕ → Option Message
all_of = whole read_message
