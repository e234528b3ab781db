-- How the tokens of probes are drawn.
use Rattle.std.specs.Prelude.{ℕ, ◌+◌, ◌*◌, ◌%◌, ◌^◌, List, ◌++◌, take, replicate}
use Rattle.std.specs.Int.{w64, w128, to_be_bytes, from_be_bytes}
use Rattle.sha2.specs.Sha256.{sha256}

-- what the next token is drawn from
pub record SourceValue : Type 0 where
  -- 32 bytes
  pub state : List ℕ
  -- all readings of a clock so far, mixed to a number of 128 bits
  pub readings : ℕ

-- nothing was mixed in, and nothing drawn
abbrev pub fresh : SourceValue
fresh = record { state = replicate 32 0; readings = 0 }

-- an odd number, so that no reading is lost by the multiplication
abbrev pub step : ℕ
step = 47026247687942121848144207491837523525

-- one more reading is mixed in: the earlier ones are multiplied by that number, and it is added
abbrev pub mixed : ℕ → ℕ → ℕ
mixed readings reading = ((readings * step) % 2 ^ 128 + reading) % 2 ^ 128

-- one token is drawn: the new state is the digest of the old one and of the readings
unfoldable pub next_state : SourceValue → List ℕ
next_state s = sha256 (s.state ++ to_be_bytes w128 s.readings)

-- the token that goes with a state: its first eight bytes, big-endian
abbrev pub token : List ℕ → ℕ
token state = from_be_bytes w64 (take 8 state)
