-- HMAC under a key, of which the first blocks are kept.
use Rattle.std.specs.Prelude.{ℕ, List}
use Rattle.sha2.specs.Hashers.{Holds256}
use Rattle.lk_auth.specs.Hmac.{key_block, with_pad}
use Rattle.lk_auth.specs.declared.mac.Mac.{Mac}

-- each hasher holds the key's block with its pad
pub record IsKeyed (key : List ℕ) (m : Mac) : Type 0 where
  pub inner : Holds256 m.inner (with_pad 0x36 (key_block key))
  pub outer : Holds256 m.outer (with_pad 0x5c (key_block key))
