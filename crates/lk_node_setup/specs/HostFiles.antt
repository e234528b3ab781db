-- The file of the hosts: where nodes live, a line for each.
use Rattle.std.specs.Prelude.{◌≡◌, ◌<◌, ⊤, ℕ, suc, min, false, not, List, [], ◌∷◌, ◌++◌, length, filter}
use Rattle.std.specs.Prelude.{Option, Some, None}
use Rattle.std.specs.Fmt.{decimal}
use Rattle.std.specs.Net.Addr.{is_ipv4}
use Rattle.std.specs.Net.Grammar.{IsIpText}
use Rattle.std.specs.declared.net.ip_addr.IpAddr.{IpAddr}
use Rattle.lk_types.specs.Ranges.{IsNode}
use Rattle.lk_auth.specs.KeyFiles.{is_blank_or_comment, lines}

-- the line of a node: NODE ADDRESS
pub record SpellsHost (line : List ℕ) (host : ℕ × IpAddr) : Type 0 where
  pub node : IsNode host.0
  pub address : List ℕ
  pub spelled : line ≡ decimal host.0 ++ 32 ∷ address
  pub is_address : IsIpText address host.1

-- each line is that of the host at its place
abbrev pub SpellEach : List (List ℕ) → List (ℕ × IpAddr) → Type 0
SpellEach [] [] = ⊤
SpellEach [] (host ∷ hosts) = ⊥
SpellEach (line ∷ lines) [] = ⊥
SpellEach (line ∷ lines) (host ∷ hosts) = SpellsHost line host × SpellEach lines hosts

-- a host may follow the one before it, if there is one: its node is higher, and its address is of the same family
abbrev pub MayFollow : Option (ℕ × IpAddr) → ℕ × IpAddr → Type 0
MayFollow None host = ⊤
MayFollow (Some last) host = (last.0 < host.0) × (is_ipv4 last.1 ≡ is_ipv4 host.1)

-- each of these hosts may follow the one before it, and the first may follow this one
abbrev pub FollowOn : Option (ℕ × IpAddr) → List (ℕ × IpAddr) → Type 0
FollowOn last [] = ⊤
FollowOn last (host ∷ hosts) = MayFollow last host × FollowOn (Some host) hosts

-- the nodes rise, and all addresses are of one family
abbrev pub AreInOrder : List (ℕ × IpAddr) → Type 0
AreInOrder hosts = FollowOn None hosts

-- the lines that are neither empty nor a comment
abbrev pub host_lines : List (List ℕ) → List (List ℕ)
host_lines lines = filter (λ line. not (is_blank_or_comment line)) lines

-- these lines spell these hosts
pub record SpellHosts (lines : List (List ℕ)) (hosts : List (ℕ × IpAddr)) : Type 0 where
  pub each : SpellEach (host_lines lines) hosts
  pub in_order : AreInOrder hosts

-- after these hosts the line is invalid: it is neither empty nor a comment, and that of no host that may follow
pub record IsInvalidAfter (hosts : List (ℕ × IpAddr)) (line : List ℕ) : Type 0 where
  pub some : is_blank_or_comment line ≡ false
  pub no_host : (host : ℕ × IpAddr) → SpellsHost line host → AreInOrder (hosts ++ host ∷ []) → ⊥

-- this is the number, from 1, of the first invalid line of a text; a greater one than the greatest of 32 bits is told
-- as that
pub record IsFirstInvalid (text : List ℕ) (number : ℕ) : Type 0 where
  pub front : List (List ℕ)
  pub line : List ℕ
  pub behind : List (List ℕ)
  pub are : lines text ≡ front ++ line ∷ behind
  pub hosts : List (ℕ × IpAddr)
  pub spelled : SpellHosts front hosts
  pub invalid : IsInvalidAfter hosts line
  pub numbered : number ≡ min (suc (length front)) 4294967295
