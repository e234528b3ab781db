-- What a node or a client reads in the files that its command line names, and where it listens.
use Rattle.std.specs.Prelude.{◌≡◌, ℕ, List, [], Option, Some, None, option_map, unwrap_or}
use Rattle.std.specs.Net.Socket.{socket_ip, socket_port}
use Rattle.std.specs.declared.net.ip_addr.IpAddr.{IpAddr}
use Rattle.std.specs.declared.net.socket_addr.SocketAddr.{SocketAddr}
use Rattle.std.specs.Option.{option_or}
use Rattle.lk_auth.specs.KeyFiles.{key_file, lines}
use Rattle.lk_auth.specs.Seals.{key_list, Share}
use Rattle.lk_client.specs.declared.destination.Destination.{Destination}
use Rattle.lk_store_format.specs.Values.{HeaderValue}
use Rattle.lk_address_book.specs.Hosts.{host_of, this_machine}
use Rattle.lk_address_book.specs.declared.hosts.Hosts.{Hosts}
use Rattle.lk_address_book.specs.declared.hosts.Hosts.TheVariants.{Local, Listed}
use Rattle.lk_address_book.specs.declared.network.Network.{Network}
use Rattle.lk_node_setup.specs.Guards.{IsReachedWithKey}
use Rattle.lk_node_setup.specs.HostFiles.{SpellHosts}
use Rattle.lk_node_setup.specs.KeysOfNode.{AreSealsOf}
use Rattle.lk_node_setup.specs.declared.network.NetworkOptions.{NetworkOptions}

-- the address at which a node listens: the one that it is told to bind, or else its own among the hosts
abbrev pub IsListening : HeaderValue → ℕ → Option IpAddr → Hosts → SocketAddr → Type 0
IsListening header port bind hosts address =
    (option_or bind (host_of hosts header.node) ≡ Some (socket_ip address)) × (socket_port address ≡ port)

-- these hosts are those that the lines of this text spell
abbrev pub AreListedIn : List ℕ → Hosts → Type 0
AreListedIn text Local = ⊥
AreListedIn text (Listed hosts) = SpellHosts (lines text) hosts.items

-- clients have keys only if the nodes have, and no key is one of both
pub record AreApart (nodes clients : List (List ℕ)) : Type 0 where
  pub keyed : nodes ≡ [] → clients ≡ []
  pub apart : Share nodes clients → ⊥

-- `is_text` says which bytes the file of a path had when it was read
module _ (is_text : List ℕ → List ℕ → Type 0) where
  -- these are the keys of the key file of this path
  pub record IsKeyFileAt (path : List ℕ) (keys : List (List ℕ)) : Type 0 where
    pub text : List ℕ
    pub was_read : is_text path text
    pub spells : key_file text ≡ Some keys

  -- these are the keys of the file that is named, and none if none is named
  abbrev pub AreKeysIn : Option (List ℕ) → List (List ℕ) → Type 0
  AreKeysIn None keys = keys ≡ []
  AreKeysIn (Some path) keys = IsKeyFileAt path keys

  -- these hosts are read in the file that is named; if none is named, all nodes are at 127.0.0.1
  abbrev pub AreHostsIn : Option (List ℕ) → Hosts → Type 0
  AreHostsIn None hosts = hosts ≡ Local
  AreHostsIn (Some path) hosts = (text : List ℕ) × is_text path text × AreListedIn text hosts

  -- this is what the options name for a node: its hosts, its seals under the keys of the files, the admins, and the
  -- address at which it listens, where it has a key if other machines can reach that
  pub record IsNetworkOf (header : HeaderValue) (port : ℕ) (options : NetworkOptions) (n : Network)
      (address : SocketAddr) : Type 0 where
    pub hosts : AreHostsIn (option_map (λ p. p.now) options.hosts) n.hosts
    pub seals : AreSealsOf header n.seals
    pub nodes : AreKeysIn (option_map (λ p. p.now) options.key) (key_list n.seals.nodes)
    pub clients : AreKeysIn (option_map (λ p. p.now) options.client_key) (key_list n.seals.clients)
    pub apart : AreApart (key_list n.seals.nodes) (key_list n.seals.clients)
    pub admins : n.admins ≡ options.admins
    pub listens : IsListening header port options.bind n.hosts address
    pub guarded : IsReachedWithKey n.seals address

  -- this is what the options name for a client: the address that it asks first, 127.0.0.1 if none is given, the hosts,
  -- and the keys by which it knows who of this cluster replies
  pub record IsDestinationOf (cluster : ℕ) (options : NetworkOptions) (d : Destination) : Type 0 where
    pub first : d.address ≡ unwrap_or options.bind this_machine
    pub hosts : AreHostsIn (option_map (λ p. p.now) options.hosts) d.hosts
    pub asked : d.seals.cluster ≡ cluster
    pub keys : AreKeysIn (option_map (λ p. p.now) options.client_key) (key_list d.seals.keys)
