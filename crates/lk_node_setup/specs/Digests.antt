-- The digest of a genesis.
use Rattle.std.specs.Prelude.{ℕ, List, ◌++◌}
use Rattle.sha2.specs.Sha256.{sha256}
use Rattle.lk_codec.specs.Fields.{one, eight}
use Rattle.lk_store_format.specs.Entries.{members}
use Rattle.lk_store_format.specs.Values.{HeaderValue}

-- the canonical bytes of a header's genesis: cluster, alpha, the count of the members, and the members by rising node
abbrev pub genesis_spelling : HeaderValue → List ℕ
genesis_spelling h = eight h.cluster ++ (one h.alpha ++ members h.members)

-- its SHA-256
unfoldable pub genesis_digest : HeaderValue → List ℕ
genesis_digest h = sha256 (genesis_spelling h)
