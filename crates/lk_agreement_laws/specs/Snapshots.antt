-- Parts of snapshots that are sent. `text` gives the packed text of the state that a list of commands leaves.
use Rattle.std.specs.Prelude.{◌≡◌, ℕ, List, length, take, drop}
use Rattle.lk_agreement_laws.specs.Datagrams.{Genesis, Datagram}
use Rattle.lk_agreement_laws.specs.Chosen.{Command, Chosen}

-- the bytes are a slice, at the offset, of the text of a chosen list with this many commands; the text has this many
-- bytes
pub record IsSlice (genesis : Genesis) (sent : List Datagram) (text : List Command → List ℕ)
    (position total offset : ℕ) (bytes : List ℕ) : Type 0 where
  pub under : List Command
  pub chosen : Chosen genesis sent under
  pub position_is : length under ≡ position
  pub total_is : length (text under) ≡ total
  pub slice : bytes ≡ take (length bytes) (drop offset (text under))
