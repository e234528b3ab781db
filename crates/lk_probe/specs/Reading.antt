-- Readers of each part of a probe and of a report, and of both.
use Rattle.std.specs.Prelude.{ℕ, ◌-◌, Bool, true, false, is_some, Option, Some, None, List, [], ◌∷◌, length, take, drop}
use Rattle.std.specs.Prelude.{nat_le, nat_lt}
use Rattle.std.specs.Prelude.{◌==◌, ◌&&◌, if◌then◌else◌}
use Rattle.lk_types.specs.Limits.{max_node, max_client}
use Rattle.lk_codec.specs.Parser.{◌>>=◌, read_byte, both, made, tested, whole}
use Rattle.lk_codec.specs.FieldReading.{read_two, read_four, read_eight, read_node, read_total, read_any_ballot}
use Rattle.lk_codec.specs.FieldReading.{read_members}
use Rattle.lk_probe.specs.Grammar.{form, probe_length, reach_length}
use Rattle.lk_probe.specs.declared.neighbours.Origin.{Origin}
use Rattle.lk_probe.specs.declared.reach.Reach.{Reach}
use Rattle.lk_probe.specs.declared.state_digest.StateDigest.{StateDigest}
use Rattle.lk_probe.specs.declared.status.Version.{Version}
use Rattle.lk_probe.specs.declared.status.Identity.{Identity}
use Rattle.lk_probe.specs.declared.status.Leadership.{Leadership}
use Rattle.lk_probe.specs.declared.status.Progress.{Progress}
use Rattle.lk_probe.specs.declared.status.Traffic.{Traffic}
use Rattle.lk_probe.specs.declared.status.Status.{Status}
use Rattle.lk_probe.specs.declared.probe.Probe.{Probe}
use Rattle.lk_probe.specs.declared.probe.Report.{Report}

-- no number where it is 0
abbrev pub or_none : ℕ → Option ℕ
or_none n = if n == 0 then None else Some n

-- a number from 1 to most, or none
abbrev pub optional : ℕ → (List ℕ → Option (ℕ × List ℕ)) → List ℕ → Option (Option ℕ × List ℕ)
optional most p = made or_none (tested (λ n. nat_le n most) p)

unfoldable pub read_maybe_node : List ℕ → Option (Option ℕ × List ℕ)
read_maybe_node = optional max_node read_four

unfoldable pub read_maybe_client : List ℕ → Option (Option ℕ × List ℕ)
read_maybe_client = optional max_client read_two

unfoldable pub read_flag : List ℕ → Option (Bool × List ℕ)
read_flag = made (λ n. n == 1) (tested (λ n. nat_le n 1) read_byte)

-- so many bytes
abbrev pub read_first : ℕ → List ℕ → Option (List ℕ × List ℕ)
read_first n bytes = if nat_lt (length bytes) n then None else Some (take n bytes, drop n bytes)

unfoldable pub read_digest : List ℕ → Option (List ℕ × List ℕ)
read_digest = read_first 32

unfoldable pub read_version : List ℕ → Option (Version × List ℕ)
read_version =
    made (λ v. record { major = v.0; minor = v.1.0; patch = v.1.1 }) (both read_byte (both read_byte read_byte))

unfoldable pub read_identity : List ℕ → Option (Identity × List ℕ)
read_identity = made (λ i. record { genesis = i.0; program = i.1.0; format = i.1.1.0; table = i.1.1.1 })
    (both read_digest (both read_version (both read_byte read_byte)))

unfoldable pub read_leadership : List ℕ → Option (Leadership × List ℕ)
read_leadership = made (λ l. record { leads = l.0; leader = l.1.0; silence = l.1.1.0; promised = l.1.1.1 })
    (both read_flag (both read_maybe_node (both read_eight read_any_ballot)))

unfoldable pub read_progress : List ℕ → Option (Progress × List ℕ)
read_progress = made (λ p. record { executed = p.0; snapshot = p.1.0; pending = p.1.1 })
    (both read_total (both read_total read_byte))

unfoldable pub read_traffic : List ℕ → Option (Traffic × List ℕ)
read_traffic = made (λ t. record { waiting = t.0; unread = t.1.0; unsent = t.1.1.0; ticks = t.1.1.1 })
    (both read_two (both read_eight (both read_eight read_eight)))

unfoldable pub read_status : List ℕ → Option (Status × List ℕ)
read_status = made (λ s. record {
  identity = s.0;
  leadership = s.1.0;
  progress = s.1.1.0;
  traffic = s.1.1.1.0;
  members = s.1.1.1.1;
})
    (both read_identity (both read_leadership (both read_progress (both read_traffic read_members))))

-- nothing but zeros
abbrev pub are_zeros : List ℕ → Bool
are_zeros [] = true
are_zeros (b ∷ bytes) = b == 0 && are_zeros bytes

-- a digest stands only with a node, and zeros without one
abbrev pub is_with_node : Option ℕ → List ℕ → Bool
is_with_node None genesis = are_zeros genesis
is_with_node (Some n) genesis = true

-- the node that asks, and its genesis
abbrev pub origin_of : Option ℕ → List ℕ → Option Origin
origin_of None genesis = None
origin_of (Some n) genesis = Some (record { node = n; genesis = genesis })

-- both, out of a digest
abbrev pub read_origin : Option ℕ → List ℕ → Option (Option Origin × List ℕ)
read_origin node = made (origin_of node) (tested (is_with_node node) read_digest)

-- of a probe that asks for a reach, or does not
unfoldable pub read_probe_fields : Bool → List ℕ → Option (Probe × List ℕ)
read_probe_fields asks =
    made (λ p. record {
      cluster = p.0;
      origin = origin_of p.1.0 p.1.1.1.1;
      client = p.1.1.0;
      token = p.1.1.1.0;
      asks_reach = asks;
    })
    (tested (λ p. is_with_node p.1.0 p.1.1.1.1)
    (both read_eight (both read_maybe_node (both read_maybe_client (both read_eight read_digest)))))

-- of a report with that reach, or with none
unfoldable pub read_report_fields : Option Reach → List ℕ → Option (Report × List ℕ)
read_report_fields reach =
    made (λ r. record {
      cluster = r.0;
      node = r.1.0;
      client = r.1.1.0;
      token = r.1.1.1.0;
      status = r.1.1.1.1;
      reach = reach;
    })
    (both read_eight (both read_node (both read_maybe_client (both read_eight read_status))))

-- how many members are heard, by a number one above that, or nothing by 0
abbrev pub heard_in : ℕ → Option ℕ
heard_in n = if n == 0 then None else Some (n - 1)

unfoldable pub read_heard : List ℕ → Option (Option ℕ × List ℕ)
read_heard = made heard_in (tested (λ n. nat_le n 256) read_two)

unfoldable pub read_state_digest : List ℕ → Option (StateDigest × List ℕ)
read_state_digest =
    made (λ d. record { position = d.0; digest = d.1 }) (both read_total (read_first 16))

unfoldable pub read_reach : List ℕ → Option (Reach × List ℕ)
read_reach = made (λ t. record {
  heard = t.0;
  reads_bundles = t.1.0;
  sends_bundles = t.1.1.0;
  watches = t.1.1.1.0;
  names = t.1.1.1.1.0;
  state = t.1.1.1.1.1;
})
    (both read_heard (both read_flag (both read_flag (both read_two (both read_two read_state_digest)))))

-- what follows the bytes of form 1 in a report: nothing, or a reach
unfoldable pub read_tail : List ℕ → Option (Option Reach)
read_tail bytes = if length bytes == 0 then Some None else whole read_reach bytes >>= λ t. Some (Some t)

-- what follows them in a probe: nothing, or as many zeros
unfoldable pub read_blank : List ℕ → Option Bool
read_blank bytes =
    if length bytes == 0 then Some false else
    (if length bytes == reach_length && are_zeros bytes then Some true else None)

module _ {X : Type 0} where
  -- after two letters, that form and that number
  abbrev pub fronted : ℕ → ℕ → (List ℕ → Option (X × List ℕ)) → List ℕ → Option (X × List ℕ)
  fronted f k p (a ∷ b ∷ c ∷ d ∷ rest) = if a == 76 && b == 80 && c == f && d == k then p rest else None
  fronted f k p _ = None

  -- all of the bytes, which have that length and end in zeros
  abbrev pub filled : (List ℕ → Option (X × List ℕ)) → List ℕ → Option X
  filled p bytes =
      if length bytes == probe_length then (p bytes >>= λ a. if are_zeros a.1 then Some a.0 else None) else None

-- the bytes of form 1, by what follows them
abbrev pub cut : {X Y : Type 0} → (List ℕ → Option Y) → (Y → List ℕ → Option X) → List ℕ → Option X
cut tail p bytes =
    if nat_lt (length bytes) probe_length then None else
    tail (drop probe_length bytes) >>= λ t. p t (take probe_length bytes)

unfoldable pub probe_in : Bool → List ℕ → Option Probe
probe_in asks = filled (fronted (form asks) 9 (read_probe_fields asks))

unfoldable pub probe_of : List ℕ → Option Probe
probe_of = cut read_blank probe_in

unfoldable pub report_in : Option Reach → List ℕ → Option Report
report_in reach = filled (fronted (form (is_some reach)) 10 (read_report_fields reach))

unfoldable pub report_of : List ℕ → Option Report
report_of = cut read_tail report_in
