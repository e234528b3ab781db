-- The targets of a round: the words that spell them, and their addresses.
use Rattle.std.specs.Prelude.{◌≡◌, ⊤, ℕ, Option, Some, None, List, [], ◌∷◌, map}
use Rattle.std.specs.Fmt.{decimal}
use Rattle.std.specs.declared.net.ip_addr.IpAddr.{IpAddr}
use Rattle.lk_types.specs.Ranges.{IsPort}
use Rattle.lk_types.specs.declared.member.Member.{Member}
use Rattle.lk_word_parsers.specs.Geneses.{IsMemberWord}
use Rattle.lk_address_book.specs.Hosts.{host_of}
use Rattle.lk_client.specs.Questions.{known_or}
use Rattle.lk_client.specs.declared.destination.Place.{Place}
use Rattle.lk_status.specs.declared.target.Inquiry.{Inquiry}
use Rattle.lk_status.specs.declared.target.Target.{Target}

-- the word spells a node and its port, or a port alone
abbrev pub SpellsTarget : List ℕ → Option ℕ → ℕ → Type 0
SpellsTarget word (Some node) port = IsMemberWord (record { node = node; port = port }) word
SpellsTarget word None port = IsPort port × (word ≡ decimal port)

-- each word spells its target
abbrev pub SpellTargets : List (List ℕ) → List Target → Type 0
SpellTargets [] [] = ⊤
SpellTargets [] (t ∷ ts) = ⊥
SpellTargets (w ∷ ws) [] = ⊥
SpellTargets (w ∷ ws) (t ∷ ts) = SpellsTarget w t.node t.port × SpellTargets ws ts

-- members as targets, each at its own port
abbrev pub targets_at : List Member → List Target
targets_at ms = map (λ m. record { node = Some m.node; port = m.port }) ms

-- the address at which a node lives, if there is one and that is known
abbrev pub host_if : Inquiry → Option ℕ → Option IpAddr
host_if i None = None
host_if i (Some node) = host_of i.destination.hosts node

-- where a target is asked: at the address of its node, or at that of the inquiry
abbrev pub target_address : Inquiry → Target → IpAddr
target_address i t = known_or (host_if i t.node) i.destination.address

abbrev pub target_place : Inquiry → Target → Place
target_place i t = record { address = target_address i t; port = t.port }
