-- HMAC with SHA-256 (RFC 2104) as a function on lists of bytes.
use Rattle.std.specs.Prelude.{ℕ, ◌-◌, List, ◌++◌, length, replicate, map, bit_xor, nat_le, if◌then◌else◌}
use Rattle.sha2.specs.Sha256.{sha256}

-- the key in a block of 64 bytes: a longer key is replaced by its digest, and zeros fill the block (section 2)
unfoldable pub key_block : List ℕ → List ℕ
key_block key = if nat_le (length key) 64 then key ++ replicate (64 - length key) 0 else sha256 key ++ replicate 32 0

-- each byte of a block, exclusive-or with that byte
abbrev pub with_pad : ℕ → List ℕ → List ℕ
with_pad pad block = map (λ byte. bit_xor byte pad) block

-- the tag of a message under a key in its block (section 2)
unfoldable pub hmac_by : List ℕ → List ℕ → List ℕ
hmac_by block message = sha256 (with_pad 0x5c block ++ sha256 (with_pad 0x36 block ++ message))

-- the tag of a message under a key
abbrev pub hmac : List ℕ → List ℕ → List ℕ
hmac key message = hmac_by (key_block key) message
