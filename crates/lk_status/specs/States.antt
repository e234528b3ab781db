-- Which nodes hold another state than others at one position: they have executed other commands.
use Rattle.std.specs.Prelude.{◌≡◌, ◌≢◌, ℕ, suc, nat_eq, nat_le, nat_lt, ◌==◌, not, ◌&&◌, ◌||◌, Bool, false, List, []}
use Rattle.std.specs.Prelude.{◌∷◌, if◌then◌else◌}
use Rattle.std.specs.Cmp.Lexicographic.{pointwise}
use Rattle.std.specs.List.{AllByRecursion, list_any}
use Rattle.lk_probe.specs.Grammar.{digest_in}
use Rattle.lk_probe.specs.StateDigests.{are_comparable, do_differ}
use Rattle.lk_probe.specs.declared.probe.Report.{Report}
use Rattle.lk_probe.specs.declared.state_digest.StateDigest.{StateDigest}

-- ---- of two reports

-- where both tell a digest of their states at one position, it is the same
abbrev pub HoldAlike : StateDigest → StateDigest → Type 0
HoldAlike d e = d.position ≢ 0 → d.position ≡ e.position → d.digest ≡ e.digest

abbrev pub AgreesWith : Report → Report → Type 0
AgreesWith r o = HoldAlike (digest_in r.reach) (digest_in o.reach)

-- both tell a digest of one position, and it is the same
abbrev pub are_alike : StateDigest → StateDigest → Bool
are_alike d e = are_comparable d e && pointwise nat_eq d.digest e.digest

abbrev pub is_alike : Report → Report → Bool
is_alike r o = are_alike (digest_in r.reach) (digest_in o.reach)

abbrev pub differs_from : Report → Report → Bool
differs_from r o = do_differ (digest_in r.reach) (digest_in o.reach)

-- ---- how many nodes hold a state

-- a report of that node tells the state of the first one
abbrev pub is_held_by : Report → ℕ → List Report → Bool
is_held_by r node [] = false
is_held_by r node (o ∷ rs) = o.node == node && is_alike r o || is_held_by r node rs

-- it tells that state, and no report of its node among these, which follow it, does
abbrev pub is_last_to_hold : Report → Report → List Report → Bool
is_last_to_hold r o rs = is_alike r o && not (is_held_by r o.node rs)

-- how many nodes hold the state of a report
abbrev pub count_holding : Report → List Report → ℕ
count_holding r [] = 0
count_holding r (o ∷ rs) = if is_last_to_hold r o rs then suc (count_holding r rs) else count_holding r rs

-- ---- of all reports

-- one of these tells another state
abbrev pub is_apart : List Report → Report → Bool
is_apart rs r = list_any (differs_from r) rs

-- it tells another state, and more nodes hold that, or at least as many
abbrev pub outnumbers : List Report → Report → Report → Bool
outnumbers rs r o = differs_from r o && nat_lt (count_holding r rs) (count_holding o rs)

abbrev pub rivals : List Report → Report → Report → Bool
rivals rs r o = differs_from r o && nat_le (count_holding r rs) (count_holding o rs)

-- more nodes hold another state than hold that of the report
abbrev pub is_outnumbered : List Report → Report → Bool
is_outnumbered rs r = list_any (outnumbers rs r) rs

-- at least as many do
abbrev pub is_rivalled : List Report → Report → Bool
is_rivalled rs r = list_any (rivals rs r) rs

-- one of these tells another state than one of those
abbrev pub some_apart : List Report → List Report → Bool
some_apart [] rs = false
some_apart (r ∷ some) rs = is_apart rs r || some_apart some rs

-- no two differ
abbrev pub one_state : List Report → Bool
one_state rs = not (some_apart rs rs)

abbrev pub AgreeAll : List Report → Type 0
AgreeAll rs = AllByRecursion (λ r. AllByRecursion (AgreesWith r) rs) rs
