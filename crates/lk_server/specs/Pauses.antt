-- When a server pauses before a sync, and what it then receives.
use Rattle.std.specs.Prelude.{◌≡◌, ◌≢◌, ◌⊎◌, ◌≤◌, ◌<◌, ◌/◌, ℕ, true, length, List, Option, Some, None}
use Rattle.std.specs.declared.net.socket_addr.SocketAddr.{SocketAddr}
use Rattle.lk_pacing.specs.declared.sync_pause.SyncPause.{SyncPause}
use Rattle.lk_replica.specs.Groups.{GroupValue}
use Rattle.lk_transport.specs.Streams.{Stream, Receives}

-- a pause is due before the sync of this group: something of it waits for one, the pause is at least 50 microseconds
-- long, more envelopes waited for an earlier sync, and the group may have a further pause
pub record IsPauseDue (p : SyncPause) (group : GroupValue) : Type 0 where
  pub needs_sync : group.needs_sync ≡ true
  pub long : 50 ≤ p.longest / 16
  pub fuller : length group.envelopes < p.fullest
  pub further : p.left ≢ 0

-- where a pause is due, a receive after it finds this; else nothing is received
abbrev pub ReceivesAfterPause : Type 0 → Option (SocketAddr × List ℕ) → Stream → Stream → Type 0
ReceivesAfterPause due found old new = (due × Receives found old new) ⊎ ((due → ⊥) × (found ≡ None) × (new ≡ old))

-- a receive finds this frame at once; or it finds nothing, and what comes then is found after a pause, if one is due
abbrev pub ReceivesOrPauses : Type 0 → Option (SocketAddr × List ℕ) → Stream → Stream → Type 0
ReceivesOrPauses due found old new =
    ((frame : SocketAddr × List ℕ) × (found ≡ Some frame) × Receives found old new)
    ⊎ ((mid : Stream) × Receives None old mid × ReceivesAfterPause due found mid new)
