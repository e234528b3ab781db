-- What a datagram holds beside its bytes.
use Rattle.std.specs.Prelude.{◌≡◌, ℕ, List, Result, IfOk, IsOkAnd}
use Rattle.lk_messages.specs.Grammar.{Spells}
use Rattle.lk_wire.specs.Shown.{shown, LieAtTheirOffsets}
use Rattle.lk_wire.specs.declared.fault.Bad.{Bad}
use Rattle.lk_messages.specs.declared.message.Message.{Message}
use Rattle.lk_wire.specs.declared.viewing.message.MessageRef.{MessageRef}

-- what `view` returns of the bytes: the message that they spell, with each slice at its offset, or that they spell none
pub record IsViewOf (viewed : Result MessageRef Bad) (bytes : List ℕ) : Type 0 where
  pub found : IfOk viewed (λ m. Spells (shown m) bytes)
  pub only : (m : Message) → Spells m bytes → IsOkAnd viewed (λ r. shown r ≡ m)
  pub offsets : IfOk viewed (λ m. LieAtTheirOffsets (shown m).content bytes)
