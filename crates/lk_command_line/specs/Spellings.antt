-- Which numbers and addresses words spell, and the error of a word that spells none.
use Rattle.std.specs.Prelude.{◌≡◌, ◌≤◌, ℕ, List, codes}
use Rattle.std.specs.Fmt.{decimal}
use Rattle.std.specs.Net.Grammar.{IsIpText}
use Rattle.std.specs.declared.net.ip_addr.IpAddr.{IpAddr}
use Rattle.lk_types.specs.declared.member.Member.{Member}
use Rattle.lk_word_parsers.specs.Geneses.{SpellsGenesis}
use Rattle.lk_command_line.specs.Arguments.{Names}
use Rattle.lk_command_line.specs.declared.argument_error.ArgumentError.{ArgumentError}

-- a number of 64 bits
abbrev pub IsNumber : ℕ → Type 0
IsNumber n = n ≤ 18446744073709551615

-- the word spells this number, which is one of these
abbrev pub Spells : (ℕ → Type 0) → List ℕ → ℕ → Type 0
Spells Is word n = Is n × (word ≡ decimal n)

-- the word spells none of these
abbrev pub SpellsNone : (ℕ → Type 0) → List ℕ → Type 0
SpellsNone Is word = (n : ℕ) → Is n → word ≡ decimal n → ⊥

-- the error of an argument whose word spells none of these
abbrev pub IsRefused : (ℕ → Type 0) → List ℕ → List ℕ → ArgumentError → Type 0
IsRefused Is name word e = SpellsNone Is word × Names name word e

-- the error of an argument whose word spells no address
abbrev pub IsNoAddress : List ℕ → List ℕ → ArgumentError → Type 0
IsNoAddress name word e = ((a : IpAddr) → IsIpText word a → ⊥) × Names name word e

-- the error of a text that spells no genesis
abbrev pub IsNoGenesis : List ℕ → ArgumentError → Type 0
IsNoGenesis text e =
    ((cluster alpha : ℕ) (ms : List Member) → SpellsGenesis text cluster alpha ms → ⊥) × Names (codes "genesis") text e
