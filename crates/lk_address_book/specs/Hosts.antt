-- The addresses at which nodes live.
use Rattle.std.specs.Prelude.{ℕ, ◌==◌, List, [], ◌∷◌, Option, Some, None, if◌then◌else◌}
use Rattle.std.specs.declared.net.ip_addr.IpAddr.{IpAddr}
use Rattle.std.specs.declared.net.ip_addr.IpAddr.TheVariants as ip
use Rattle.lk_address_book.specs.declared.hosts.Hosts.{Hosts}
use Rattle.lk_address_book.specs.declared.hosts.Hosts.TheVariants.{Local, Listed}
use Rattle.lk_address_book.specs.declared.hosts.HostNews.{HostNews}
use Rattle.lk_address_book.specs.declared.hosts.HostNews.TheVariants.{Nothing, Read, Unusable}

-- 127.0.0.1
abbrev pub this_machine : IpAddr
this_machine = ip.V4 (record { octets = 127 ∷ 0 ∷ 0 ∷ 1 ∷ [] })

-- the address in the first line of a node
abbrev pub host_in : List (ℕ × IpAddr) → ℕ → Option IpAddr
host_in [] node = None
host_in (line ∷ lines) node = if line.0 == node then Some line.1 else host_in lines node

-- the address of a node, if it is known
abbrev pub host_of : Hosts → ℕ → Option IpAddr
host_of Local node = Some this_machine
host_of (Listed lines) node = host_in lines.items node

-- where nodes live then: where the file says, if it was read and can be used; else where they did
abbrev pub hosts_after : HostNews → Hosts → Hosts
hosts_after Nothing hosts = hosts
hosts_after (Read found) hosts = found
hosts_after Unusable hosts = hosts
