-- Which datagrams of a call are sent, up to an armed stop at one of them.
use Rattle.std.specs.Prelude.{◌≡◌, ℕ, zero, suc, ◌-◌, ◌&&◌, nat_lt, nat_le, length, take, List, [], ◌∷◌, Option, Some}
use Rattle.std.specs.Prelude.{None, if◌then◌else◌}
use Rattle.lk_disk.specs.declared.trap.Trap.{Trap}
use Rattle.lk_disk.specs.declared.trap.Trap.TheVariants.{Off, Fail, Arm}
use Rattle.lk_node.specs.Histories.{Datagram}
use Rattle.lk_replica.specs.Behaviours.{Behaviour}
use Rattle.lk_replica.specs.Together.{Said}

-- an armed stop at one of this many sends: how many precede it, and for how many bytes it is
abbrev pub stop_among : Trap → ℕ → Option (ℕ × ℕ)
stop_among Off sends = None
stop_among (Fail count) sends = None
stop_among (Arm count bytes) sends = if nat_lt 0 count && nat_le count sends then Some (count - 1, bytes) else None

-- the replica, with this many sends counted by an armed trap of its device
abbrev pub counting : {R : Type 0} → Behaviour R → Trap → ℕ → R → R
counting b Off sends r = r
counting b (Fail count) sends r = r
counting b (Arm count bytes) sends r = b.with_trap (Arm (count - sends) bytes) r

-- the replica after this many sends, if its armed trap stops it at none of them
abbrev pub after_sends : {R : Type 0} → Behaviour R → ℕ → R → R
after_sends b sends r = counting b (b.memory r).meter.trap sends r

-- all of these were sent, and counted; or an armed stop happened at one of them, and those before it were sent
abbrev pub SentUpTo : {R : Type 0} → Behaviour R → Option ℕ → R → R → List Datagram → List Datagram → Type 0
SentUpTo b None r q all sent =
    (stop_among (b.memory r).meter.trap (length all) ≡ None) × (q ≡ after_sends b (length all) r) × (sent ≡ all)
SentUpTo b (Some bytes) r q all sent =
    (k : ℕ) × (stop_among (b.memory r).meter.trap (length all) ≡ Some (k, bytes)) × (q ≡ r) × (sent ≡ take k all)

-- ---- of the steps of a group

-- this number less the length of the list, or 0
abbrev pub left_over : {X : Type 0} → ℕ → List X → ℕ
left_over k [] = k
left_over zero (x ∷ xs) = zero
left_over (suc k) (x ∷ xs) = left_over k xs

-- these steps, with the first `k` of all their datagrams
abbrev pub cut_short : ℕ → List Said → List Said
cut_short k [] = []
cut_short k (x ∷ xs) = (x.0, take k x.1) ∷ cut_short (left_over k x.1) xs
