use Rattle.std.proofs.Common.{◌∙◌, sym, ap}
use Rattle.lk_types.specs.Limits.{max_base_of}
use Rattle.lk_log.specs.StoreValue.{disks}
use Rattle.lk_log.proofs.Room.{most_base, refused_room, never_longer}
use Rattle.lk_node.specs.Histories.{Genesis}
use Rattle.lk_node.specs.Leavings.{header_of}
use Rattle.lk_cluster_theorems.proofs.turning.start.Goals as goal

pub returns : goal.returns
returns g c honest genesis whose =
    let n = c.args.header.now.node in
    let s = c.in_ok-server.server in
    let old = g.D.LogDisk.disk c.args.resources.device in
    let begun = c.in_ok-server.ensures.started in
    let up = begun.comes_up honest in
    let alpha = c.args.header.now.alpha in
    record {
      notes = up.notes;
      restarts = record {
        goes = λ h is lawful fit. up.goes h n (whose ∙ ap (λ (z : Genesis). header_of z n) (sym is)) lawful fit;
        short =
            λ short. never_longer old (disks s.replica.store)
            (refused_room (max_base_of alpha) old (disks s.replica.store) (most_base alpha) up.room) short;
      };
      loopback = begun.loopback;
      alive = sym c.replica.ensures.failed ∙ begun.alive;
    }
