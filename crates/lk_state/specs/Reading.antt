-- Reading the start of a packed state: everything before the machine's text.
use Rattle.std.specs.Prelude.{ℕ, nat_le, List, Option}
use Rattle.lk_types.specs.Limits.{max_wide_alpha}
use Rattle.lk_types.specs.declared.member.Member.{Member}
use Rattle.lk_codec.specs.Parser.{read_byte, both, made, tested, counted}
use Rattle.lk_codec.specs.FieldReading.{is_from_1_to, read_two, read_node, read_client, read_count, read_total}
use Rattle.lk_codec.specs.FieldReading.{read_members, read_answer}
use Rattle.lk_members.specs.Sets.{are_at_most}
use Rattle.lk_members.specs.Windows.{RosterValue}
use Rattle.lk_state.specs.Sessions.{Session, are_sessions_above}

unfoldable pub read_sets : List ℕ → Option (List (List Member) × List ℕ)
read_sets = counted (tested (is_from_1_to max_wide_alpha) read_byte) read_members

unfoldable pub read_roster : List ℕ → Option (RosterValue × List ℕ)
read_roster =
    tested (λ r. are_at_most r.greatest r.sets)
    (made (λ r. record { executed = r.0; sets = r.1.0; greatest = r.1.1.0; changed = r.1.1.1 })
    (both read_total (both read_sets (both read_node read_total))))

unfoldable pub read_session : List ℕ → Option (Session × List ℕ)
read_session =
    made (λ s. record { client = s.0; number = s.1.0; answer = s.1.1 }) (both read_client (both read_count read_answer))

unfoldable pub read_sessions : List ℕ → Option (List Session × List ℕ)
read_sessions = tested (are_sessions_above 0) (counted (tested (λ n. nat_le n 256) read_two) read_session)

unfoldable pub read_front : List ℕ → Option ((RosterValue × List Session) × List ℕ)
read_front = both read_roster read_sessions
