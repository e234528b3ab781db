-- A turn that a stop cuts short is one that ended the replica there.
use Rattle.std.proofs.Common.{◌≡◌, ℕ, true, Option, List, [], refl, inr, sym, append-nil}
use Rattle.std.specs.Prelude.{drop}
use Rattle.std.specs.declared.net.socket_addr.SocketAddr.{SocketAddr}
use Rattle.lk_locks.specs.Meaning.{table_meaning}
use Rattle.lk_locks.specs.Packed.{IsTableText}
use Rattle.lk_replica.specs.Groups.{GroupValue}
use Rattle.lk_replica.specs.ReplicaValue.{ReplicaValue}
use Rattle.lk_server_replica.specs.Sayings.{GathersOf}
use Rattle.lk_server.specs.Servers.{ServerValue, LastTurn, all_ticks}
use Rattle.lk_node_process.specs.Turns.{TellsFailure}
use Rattle.lk_cluster_theorems.specs.Clusters.{Says}
use Rattle.lk_cluster_theorems.specs.Processes.{SaysIfHonest}
use Rattle.lk_cluster_theorems.specs.Stopping.{IsInTurn}

-- a group that was cut short says nothing
cut_short : (Metered : Type 0) (start now : ReplicaValue) (given : List (Option (List ℕ))) (group : GroupValue)
    → GathersOf table_meaning IsTableText Metered start given group now
    → Says Metered start given [] (record now { failed = true })
cut_short Metered start now given group gathers = record {
  inputs = gathers.inputs;
  are_given = gathers.are_given;
  comes = inr (record { none = refl; ended = refl });
  leaves = record {
    ends = λ h n fits all. (gathers.stays h n fits all).left;
    covers = gathers.covers;
    room = gathers.room;
    grows = gathers.grows;
  };
  once = λ failed i. record {
    node = (gathers.once failed i).node;
    store = (gathers.once failed i).store;
    failed = sym failed i;
  };
}

module _ (Metered observable Honest : Type 0) (came : List (SocketAddr × List ℕ)) (server : ServerValue ReplicaValue)
    (given : List (Option (List ℕ))) (now : ReplicaValue) where
  pub ends_turn : IsInTurn Metered observable Honest came server given now → (after : ServerValue ReplicaValue)
      × LastTurn (SaysIfHonest Metered Honest) observable came server after × TellsFailure after
      × (after.replica ≡ record now { failed = true })
  ends_turn x =
      let after : ServerValue ReplicaValue = record server {
        replica = record now { failed = true };
        loopback = drop x.count server.loopback;
        addresses = x.addresses;
        ticks = all_ticks server.ticks x.timed;
        failed = true;
      } in
      let last : LastTurn (SaysIfHonest Metered Honest) observable came server after = record {
        envelopes_first = x.envelopes_first;
        count = x.count;
        envelopes = x.envelopes;
        timed = x.timed;
        first = x.first;
        given = given;
        nudged = x.nudged;
        after_all = x.after_all;
        hands_on = record {
          envelopes = [];
          says = λ honest. cut_short Metered server.replica now given x.group (x.gathers honest);
          kept = record { added = []; is = sym (append-nil (drop x.count server.loopback)) };
          carried = refl;
        };
        silent = refl;
        ticks = refl;
        heard = x.heard;
        same = record {
          cluster = refl;
          node = refl;
          pace = refl;
          queue = refl;
          aged = refl;
          spoke = refl;
          served = refl;
        };
        ended = refl;
      } in
      (after, last, refl, refl)
