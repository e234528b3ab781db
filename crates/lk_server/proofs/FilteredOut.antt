-- When a replica is given nothing of what came.
use Rattle.std.proofs.Common.{◌≡◌, ℕ, Bool, ◌||◌, true, false, List, refl}
use Rattle.std.specs.declared.net.socket_addr.SocketAddr.{SocketAddr}
use Rattle.lk_auth.specs.Seals.{heard}
use Rattle.lk_address_book.specs.Addresses.{Filter}
use Rattle.lk_address_book.specs.Filters.{is_filtered_out, is_beside_protocol, is_dropped}

first_true : (a b : Bool) → a ≡ true → a || b ≡ true
first_true true b is = refl
first_true false b is = absurd (cc is)

second_true : (a b : Bool) → b ≡ true → a || b ≡ true
second_true true b is = refl
second_true false b is = is

none_true : (a b : Bool) → a ≡ false → b ≡ false → a || b ≡ false
none_true true b a_is b_is = absurd (cc a_is)
none_true false b a_is b_is = b_is

first_false : (a b : Bool) → a || b ≡ false → a ≡ false
first_false true b is = is
first_false false b is = refl

-- it came from a node of another genesis, or it is dropped
abbrev is_strange : Filter → SocketAddr × List ℕ → Bool
is_strange s d = s.strangers d.0 || is_dropped s (heard s.seals d.1)

-- it stands beside the protocol
pub beside_is_out : (s : Filter) (d : SocketAddr × List ℕ) → is_beside_protocol (heard s.seals d.1) ≡ true
    → is_filtered_out s d ≡ true
beside_is_out s d is = first_true (is_beside_protocol (heard s.seals d.1)) (is_strange s d) is

-- it came from a node of another genesis
pub stranger_is_out : (s : Filter) (d : SocketAddr × List ℕ) → s.strangers d.0 ≡ true → is_filtered_out s d ≡ true
stranger_is_out s d is =
    second_true (is_beside_protocol (heard s.seals d.1)) (is_strange s d)
    (first_true (s.strangers d.0) (is_dropped s (heard s.seals d.1)) is)

-- it is a client's request that is dropped
pub dropped_is_out : (s : Filter) (d : SocketAddr × List ℕ) → is_dropped s (heard s.seals d.1) ≡ true
    → is_filtered_out s d ≡ true
dropped_is_out s d is =
    second_true (is_beside_protocol (heard s.seals d.1)) (is_strange s d)
    (second_true (s.strangers d.0) (is_dropped s (heard s.seals d.1)) is)

-- none of these
pub is_not_out : (s : Filter) (d : SocketAddr × List ℕ) → is_beside_protocol (heard s.seals d.1) ≡ false
    → s.strangers d.0 ≡ false → is_dropped s (heard s.seals d.1) ≡ false → is_filtered_out s d ≡ false
is_not_out s d beside known taken =
    none_true (is_beside_protocol (heard s.seals d.1)) (is_strange s d) beside
    (none_true (s.strangers d.0) (is_dropped s (heard s.seals d.1)) known taken)

pub not_beside : (s : Filter) (d : SocketAddr × List ℕ) → is_filtered_out s d ≡ false
    → is_beside_protocol (heard s.seals d.1) ≡ false
not_beside s d apart = first_false (is_beside_protocol (heard s.seals d.1)) (is_strange s d) apart
