-- The addresses from which nodes write to a node: whether it has asked which genesis the node there was started with,
-- and what that reported.
use Rattle.std.specs.Prelude.{◌≡◌, ◌≤◌, ◌+◌, ◌||◌, ℕ, nat_lt, nat_eq, Bool, true, false, if◌then◌else◌, List, [], ◌∷◌}
use Rattle.std.specs.Prelude.{slice_get, slice_set, Option, Some, None}
use Rattle.std.specs.Cmp.Lexicographic.{pointwise}
use Rattle.std.specs.List.{list_any}
use Rattle.std.specs.contracts.net.socket_addr.SocketAddrPartialEq.TheImpl as address
use Rattle.std.specs.declared.net.socket_addr.SocketAddr.{SocketAddr}
use Rattle.lk_probe.specs.declared.neighbours.Origin.{Origin}
use Rattle.lk_probe.specs.declared.neighbours.Knowledge.{Knowledge}
use Rattle.lk_probe.specs.declared.neighbours.Knowledge.TheVariants.{Unknown, Asked, AskedTwice, Same, Other}
use Rattle.lk_probe.specs.declared.neighbours.Neighbour.{Neighbour}

-- entries, of which the free ones follow the others
abbrev pub Entries : Type 0
Entries = List (Option Neighbour)

abbrev pub is_at : SocketAddr → SocketAddr → Bool
is_at = (address.ghosts).eq

-- ---- which entry

-- an entry is that of an address, or free
abbrev pub is_for : SocketAddr → Option Neighbour → Bool
is_for address None = true
is_for address (Some n) = is_at n.address address

-- how many entries precede that of an address, or the first free one; all of them if there is neither
abbrev pub entry_for : SocketAddr → Entries → ℕ
entry_for address [] = 0
entry_for address (e ∷ es) = if is_for address e then 0 else entry_for address es + 1

-- ---- whose datagrams are dropped

-- this truth value if another genesis is known there, else false
abbrev pub if_other : Knowledge → Bool → Bool
if_other (Other origin) so = so
if_other Unknown so = false
if_other (Asked ticks) so = false
if_other AskedTwice so = false
if_other Same so = false

abbrev pub is_stranger_at : SocketAddr → Option Neighbour → Bool
is_stranger_at address None = false
is_stranger_at address (Some n) = if_other n.knowledge (is_at n.address address)

-- a node of another genesis is at that address
unfoldable pub is_stranger : Entries → SocketAddr → Bool
is_stranger es address = list_any (is_stranger_at address) es

-- ---- who is asked

-- at that count of ticks a probe is due: it was not asked, or once and before the last tick
abbrev pub is_due : ℕ → Knowledge → Bool
is_due now Unknown = true
is_due now (Asked ticks) = nat_lt ticks now
is_due now AskedTwice = false
is_due now Same = false
is_due now (Other origin) = false

abbrev pub is_due_at : ℕ → Option Neighbour → Bool
is_due_at now None = false
is_due_at now (Some n) = is_due now n.knowledge

-- once it is asked then
abbrev pub having_asked : ℕ → Knowledge → Knowledge
having_asked now Unknown = Asked now
having_asked now (Asked ticks) = AskedTwice
having_asked now AskedTwice = AskedTwice
having_asked now Same = Same
having_asked now (Other origin) = Other origin

-- ---- who is heard again

-- once a node of this genesis asks from there: another genesis is forgotten, as if it was never asked
abbrev pub readmitted : Knowledge → Knowledge
readmitted Unknown = Unknown
readmitted (Asked ticks) = Asked ticks
readmitted AskedTwice = AskedTwice
readmitted Same = Same
readmitted (Other origin) = Unknown

-- ---- what changes

-- the entry after a node has written from there: it binds where it did before or does so now
abbrev pub having_met : SocketAddr → Bool → Option Neighbour → Neighbour
having_met address binds None = record { address = address; knowledge = Unknown; binds = binds }
having_met address binds (Some n) = record { address = n.address; knowledge = n.knowledge; binds = n.binds || binds }

-- a node wrote from this address: its entry, or a free one, records that; if there is neither, nothing changes
pub record Meets (address : SocketAddr) (binds : Bool) (old new : Entries) : Type 0 where
  pub room : entry_for address old ≤ 63
      → (e : Option Neighbour) × (slice_get old (entry_for address old) ≡ Some e)
      × (new ≡ slice_set old (entry_for address old) (Some (having_met address binds e)))
  pub full : 64 ≤ entry_for address old → new ≡ old

-- a probe is due there, and is noted as sent; every other entry is as it was
pub record ProbesNeighbour (now : ℕ) (address : SocketAddr) (old new : Entries) : Type 0 where
  pub entry : ℕ
  pub neighbour : Neighbour
  pub is : slice_get old entry ≡ Some (Some neighbour)
  pub there : address ≡ neighbour.address
  pub due : is_due now neighbour.knowledge ≡ true
  pub becomes : new ≡ slice_set old entry (Some (record neighbour { knowledge = having_asked now neighbour.knowledge }))

-- the node at that address is readmitted, where it has an entry; every other entry is as it was
pub record Readmits (address : SocketAddr) (old new : Entries) : Type 0 where
  pub known : (n : Neighbour) → slice_get old (entry_for address old) ≡ Some (Some n)
      → new ≡ slice_set old (entry_for address old) (Some (record n { knowledge = readmitted n.knowledge }))
  pub unknown : ((n : Neighbour) → slice_get old (entry_for address old) ≡ Some (Some n) → ⊥) → new ≡ old

-- it was asked, and has not reported
abbrev pub is_open : Knowledge → Bool
is_open Unknown = false
is_open (Asked ticks) = true
is_open AskedTwice = true
is_open Same = false
is_open (Other origin) = false

-- the entry exists, is not free, and its node was asked and has not reported
abbrev pub is_open_at : Option (Option Neighbour) → Bool
is_open_at None = false
is_open_at (Some None) = false
is_open_at (Some (Some n)) = is_open n.knowledge

-- the origin of a node of another genesis
abbrev pub other_of : Knowledge → Option Origin
other_of (Other origin) = Some origin
other_of Unknown = None
other_of (Asked ticks) = None
other_of AskedTwice = None
other_of Same = None

-- the same where it binds
abbrev pub bound_by : Neighbour → Option Origin
bound_by n = if n.binds then other_of n.knowledge else None

-- the same of an entry, none if it is free
abbrev pub bound_at : Option Neighbour → Option Origin
bound_at None = None
bound_at (Some n) = bound_by n

-- the first of two, if one is there
abbrev pub or_else : Option Origin → Option Origin → Option Origin
or_else None other = other
or_else (Some origin) other = Some origin

-- the first node of another genesis that binds this one, if one does
abbrev pub bound_in : Entries → Option Origin
bound_in [] = None
bound_in (e ∷ es) = or_else (bound_at e) (bound_in es)

-- what a node of that genesis knows of a node that has reported this origin
abbrev pub knowledge_after : List ℕ → Origin → Knowledge
knowledge_after own_genesis reporter = if pointwise nat_eq reporter.genesis own_genesis then Same else Other reporter

-- the node there was asked and has reported that origin; every other entry is unchanged
pub record Learns (address : SocketAddr) (own_genesis : List ℕ) (reporter : Origin) (is : Neighbour)
    (old new : Entries) : Type 0 where
  pub neighbour : Neighbour
  pub entry : slice_get old (entry_for address old) ≡ Some (Some neighbour)
  pub asked : is_open neighbour.knowledge ≡ true
  pub learned : is ≡ record neighbour { knowledge = knowledge_after own_genesis reporter }
  pub becomes : new ≡ slice_set old (entry_for address old) (Some is)
