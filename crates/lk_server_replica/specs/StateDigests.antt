-- The digest of a replica's state, which its server keeps and reports.
use Rattle.std.specs.Prelude.{◌≡◌, ◌⊎◌, ◌==◌, ◌&&◌, ◌%◌, ℕ, Bool, true, not, List, take}
use Rattle.sha2.specs.Sha256.{sha256}
use Rattle.lk_node.specs.NodeValue.{NodeValue}
use Rattle.lk_probe.specs.declared.state_digest.StateDigest.{StateDigest}
use Rattle.lk_replica.specs.ReplicaValue.{ReplicaValue}
use Rattle.lk_state.specs.Packed.{packed}

-- the first 16 bytes of the SHA-256 digest of a packed state
unfoldable pub digest_bytes : List ℕ → List ℕ
digest_bytes text = take 16 (sha256 text)

-- the digest of the state of a node, at the position that it has executed
abbrev pub digest_at : NodeValue → StateDigest
digest_at node = record {
  position = node.learner.whole.roster.executed;
  digest = digest_bytes (packed node.learner.whole);
}

-- one is due: the position is a multiple of 64, and the kept digest is of another position
abbrev pub is_digest_due : ℕ → ℕ → Bool
is_digest_due executed kept = executed % 64 == 0 && not (executed == kept)

-- what is kept after a step: the digest of the state that the node has then, where one is due, or the earlier one
abbrev pub KeepsNodeDigest : NodeValue → StateDigest → StateDigest → Type 0
KeepsNodeDigest node old new =
    (new ≡ old) ⊎ ((is_digest_due node.learner.whole.roster.executed old.position ≡ true) × (new ≡ digest_at node))

abbrev pub KeepsDigestOf : ReplicaValue → StateDigest → StateDigest → Type 0
KeepsDigestOf r old new = KeepsNodeDigest r.node old new
