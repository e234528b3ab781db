-- What is found in the file of the hosts when it is read again.
use Rattle.std.specs.Prelude.{◌≡◌, ◌⊎◌, ℕ, true, false, List, Option, Some, option_map}
use Rattle.lk_address_book.specs.declared.hosts.Hosts.{Hosts}
use Rattle.lk_address_book.specs.declared.hosts.HostNews.{HostNews}
use Rattle.lk_address_book.specs.declared.hosts.HostNews.TheVariants.{Nothing, Read, Unusable}
use Rattle.lk_node_setup.specs.Named.{AreHostsIn}
use Rattle.lk_node_setup.specs.declared.host_watch.HostWatch.{HostWatch}
use Rattle.lk_node_setup.specs.declared.network.NetworkOptions.{NetworkOptions}

-- hosts that were read are those of the file; `is_text` says which bytes the file of a path had when it was read
abbrev pub FindsHosts : (List ℕ → List ℕ → Type 0) → Option (List ℕ) → HostNews → Type 0
FindsHosts is_text path Nothing = Unit {0}
FindsHosts is_text path (Read hosts) = AreHostsIn is_text path hosts
FindsHosts is_text path Unusable = Unit {0}

-- of a file that was looked at: it could not be used before, and cannot now; it can be used; or it cannot, as before it
-- could
abbrev pub TellsUse : HostWatch → HostWatch → HostNews → Type 0
TellsUse old new Nothing = (old.is_unusable ≡ true) × (new.is_unusable ≡ true)
TellsUse old new (Read hosts) = new.is_unusable ≡ false
TellsUse old new Unusable = (old.is_unusable ≡ false) × (new.is_unusable ≡ true)

-- the path of the file of the hosts, if the options name one
abbrev pub host_path : NetworkOptions → Option (List ℕ)
host_path options = option_map (λ p. p.now) options.hosts

-- nodes live where they did, or where the file says
abbrev pub AreHosts : (List ℕ → List ℕ → Type 0) → Option (List ℕ) → Hosts → Hosts → Type 0
AreHosts is_text path old new = (new ≡ old) ⊎ AreHostsIn is_text path new
