-- The address book of a node: its entries for clients and nodes, and the filter of what arrives.
use Rattle.std.specs.Prelude.{◌≡◌, ℕ, ◌+◌, ◌-◌, ◌==◌, Bool, false, List, [], ◌∷◌, ◌++◌, Option, Some, None}
use Rattle.std.specs.Prelude.{if◌then◌else◌, length, take, drop, min, slice_index_or}
use Rattle.std.specs.declared.net.socket_addr.SocketAddr.{SocketAddr}
use Rattle.lk_probe.specs.Neighbours.{Entries, is_stranger}
use Rattle.lk_auth.specs.declared.seals.Seals.{Seals}
use Rattle.lk_hearing.specs.Probes.{HearingValue}
use Rattle.lk_address_book.specs.Hosts.{hosts_after}
use Rattle.lk_address_book.specs.declared.hosts.Hosts.{Hosts}
use Rattle.lk_address_book.specs.declared.hosts.HostNews.{HostNews}
use Rattle.lk_address_book.specs.declared.admins.Admins.{Admins}

-- an entry for each client, the entries of nodes that wrote, most recent first, where nodes live, the keys, the admins,
-- what is known of the genesis of the node at each address from which one wrote, the probes by which the node hears
-- others, whether it is deaf: it hears too few, and the greatest number of a node that had joined when it last looked
pub record AddressBook : Type 0 where
  pub clients : List (Option SocketAddr)
  pub nodes : List (Option (ℕ × SocketAddr))
  pub hosts : Hosts
  pub seals : Seals
  pub admins : Admins
  pub neighbours : Entries
  pub hearing : HearingValue
  pub deaf : Bool
  pub joined : ℕ

-- the address of a client
abbrev pub client_at : AddressBook → ℕ → Option SocketAddr
client_at b client = slice_index_or b.clients (client - 1) None

-- the address of an entry if it is the node's
abbrev pub in_entry : Option (ℕ × SocketAddr) → ℕ → Option SocketAddr → Option SocketAddr
in_entry None node behind = behind
in_entry (Some p) node behind = if p.0 == node then Some p.1 else behind

-- the address of a node: that of its first entry
abbrev pub node_in : List (Option (ℕ × SocketAddr)) → ℕ → Option SocketAddr
node_in [] node = None
node_in (entry ∷ entries) node = in_entry entry node (node_in entries node)

abbrev pub node_at : AddressBook → ℕ → Option SocketAddr
node_at b node = node_in b.nodes node

-- whether an entry is the node's
abbrev pub is_entry_of : ℕ → Option (ℕ × SocketAddr) → Bool
is_entry_of node None = false
is_entry_of node (Some p) = p.0 == node

-- how many entries precede the node's; all of them if it has none
abbrev pub index_in : List (Option (ℕ × SocketAddr)) → ℕ → ℕ
index_in [] node = 0
index_in (entry ∷ entries) node = if is_entry_of node entry then 0 else index_in entries node + 1

-- all entries but that one
abbrev pub without : ℕ → List (Option (ℕ × SocketAddr)) → List (Option (ℕ × SocketAddr))
without at entries = take at entries ++ drop (at + 1) entries

-- the node's entry comes first, and the others keep their order: its former entry is gone, or the last one if it had
-- none
abbrev pub moved_up : List (Option (ℕ × SocketAddr)) → ℕ → SocketAddr → List (Option (ℕ × SocketAddr))
moved_up entries node from = Some (node, from) ∷ without (min (index_in entries node) (length entries - 1)) entries

-- where nodes live, the keys and the admins are the same
abbrev pub IsSameNetwork : AddressBook → AddressBook → Type 0
IsSameNetwork old new = (new.hosts ≡ old.hosts) × (new.seals ≡ old.seals) × (new.admins ≡ old.admins)

-- the keys and the admins are the same, and nodes live where this news says, or where they did
abbrev pub IsNetworkAfter : HostNews → AddressBook → AddressBook → Type 0
IsNetworkAfter news old new =
    (new.hosts ≡ hosts_after news old.hosts) × (new.seals ≡ old.seals) × (new.admins ≡ old.admins)

-- the filter of the datagrams that arrive at a node: its keys, the admins, the addresses at which nodes of another
-- genesis are, whether it is deaf, and the greatest number that had joined
pub record Filter : Type 0 where
  pub seals : Seals
  pub admins : Admins
  pub strangers : SocketAddr → Bool
  pub deaf : Bool
  pub joined : ℕ

abbrev pub filter_of : AddressBook → Filter
filter_of b =
    record {
      seals = b.seals;
      admins = b.admins;
      strangers = is_stranger b.neighbours;
      deaf = b.deaf;
      joined = b.joined;
    }

-- where nodes live and what a node filters out are the same
abbrev pub IsSameFilter : AddressBook → AddressBook → Type 0
IsSameFilter old new = (new.hosts ≡ old.hosts) × (filter_of new ≡ filter_of old)
