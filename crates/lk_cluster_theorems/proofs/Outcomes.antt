-- A node that the program runs continues its cluster.
use Rattle.std.proofs.Common.{◌≡◌, ◌⊎◌, ℕ, List, Result, Ok, Err, inl, inr, subst}
use Rattle.std.specs.Prelude.{IsOkAnd, IfOk, IfErr}
use Rattle.lk_disk.specs.Disk.{Disk}
use Rattle.lk_disk.specs.declared.device.Side.{Side}
use Rattle.lk_store_format.specs.Values.{HeaderValue}
use Rattle.lk_locks.specs.Meaning.{table_meaning}
use Rattle.lk_locks.specs.Packed.{IsTableText}
use Rattle.lk_node.specs.Histories.{Genesis}
use Rattle.lk_node.specs.Leavings.{header_of}
use Rattle.lk_replica.specs.ReplicaValue.{ReplicaValue}
use Rattle.lk_server.specs.Servers.{ServerValue}
use Rattle.lk_program_fault.specs.declared.fault.ProgramFault.{ProgramFault}
use Rattle.lk_node_process.specs.Revivals.{IsRefusedWith, StartsOn, Surroundings}
use Rattle.lk_node_process.specs.Turns.{RunsTurns, EndsEarly, EndsEarlyByStranger}
use Rattle.lk_sim_nodes.specs.declared.sim_node.RunState.{RunState}
use Rattle.lk_sim_nodes.specs.declared.sim_node.RunState.TheVariants.{Up, Down}
use Rattle.lk_cluster_theorems.specs.Clusters.{Cluster, ForgesNothing, IsReachable}
use Rattle.lk_cluster_theorems.specs.Continuing.{node_of}
use Rattle.lk_cluster_theorems.specs.Processes.{SaysIfHonest, Move, RunTo, Fit, GoOn}
use Rattle.lk_cluster_theorems.specs.Running.{IsDownOn, ContinuesAmong, RunsIn, EndsIn, EndsInByStranger, EndsInEither}
use Rattle.lk_cluster_theorems.specs.Running.{RestsIn}
use Rattle.lk_cluster_theorems.specs.Sealing.{IsSealed, AllMoveSealed}
use Rattle.lk_cluster_theorems.proofs.Keeping.{forges_nothing}
use Rattle.lk_cluster_theorems.proofs.Processes.{moves_go_on, mixed_fit, mixed_with, run_leaves}
use Rattle.lk_cluster_theorems.proofs.Runs.{run_runs, broken_run_runs, led_run_runs, refused_runs}

-- what follows of what stands of a value and of an error, each
pub on_value : {X Y : Type 0} (r : Result X Y) (P Q : X → Type 0) → ((x : X) → P x → Q x) → IsOkAnd r P → IsOkAnd r Q
on_value (Ok x) P Q f p = f x p
on_value (Err y) P Q f p = p

pub if_value : {X Y : Type 0} (r : Result X Y) (P Q : X → Type 0) → ((x : X) → P x → Q x) → IfOk r P → IfOk r Q
if_value (Ok x) P Q f p = f x p
if_value (Err y) P Q f p = tt

pub if_error : {X Y : Type 0} (r : Result X Y) (P Q : Y → Type 0) → ((y : Y) → P y → Q y) → IfErr r P → IfErr r Q
if_error (Ok x) P Q f p = tt
if_error (Err y) P Q f p = f y p

-- what processes with the nodes' key do goes on from this cluster
abbrev pub SealedGoOn : (Metered observable Honest : Type 0) → Honest → Genesis → Cluster → Type 0
SealedGoOn Metered observable Honest honest genesis old =
    IsReachable IsSealed Metered observable genesis old
    → (moves : List (Move Metered observable Honest old.genesis))
    → Fit Metered observable Honest old.genesis old.sim_nodes moves
    → AllMoveSealed Metered observable Honest old.genesis old.sent moves
    → GoOn Metered observable Honest old.genesis honest IsSealed genesis old moves

module _ (Metered observable Honest : Type 0) (honest : Honest) (genesis : Genesis) (old : Cluster)
    (all : IsReachable ForgesNothing Metered observable genesis old)
    (sealed : SealedGoOn Metered observable Honest honest genesis old) (index n : ℕ) (disks : Side → Disk)
    (at : IsDownOn old index n disks) (given : Surroundings) (header : HeaderValue)
    (whose : header ≡ header_of old.genesis n) where
  among : (own : List (Move Metered observable Honest old.genesis)) (run_state : RunState (ServerValue ReplicaValue))
      → RunTo Metered observable Honest old.genesis index (node_of n (Down at.device)) own (node_of n run_state)
      → ContinuesAmong Metered observable Honest honest genesis old index n disks at given own run_state
  among own run_state run =
      let node = node_of n (Down at.device) in
      record {
        run = run;
        go_on = λ moves mix may. (
          moves_go_on Metered observable Honest honest ForgesNothing forges_nothing genesis old
              all moves (mixed_fit Metered observable Honest old.genesis old.sim_nodes moves
              (mixed_with Metered observable Honest old.genesis old.sim_nodes index node at.down own
              moves (node_of n run_state) run mix)) may,
          run_leaves Metered observable Honest old.genesis moves old.sim_nodes index node at.down own
              (node_of n run_state) run mix.are_own,
        );
        go_on_sealed = λ reached moves mix only. (
          sealed reached moves (mixed_fit Metered observable Honest old.genesis old.sim_nodes moves
              (mixed_with Metered observable Honest old.genesis old.sim_nodes index node at.down own
              moves (node_of n run_state) run mix)) only,
          run_leaves Metered observable Honest old.genesis moves old.sim_nodes index node at.down own
              (node_of n run_state) run mix.are_own,
        );
      }

  pub serves_in : (count : ℕ) (ended : ServerValue ReplicaValue) → RunsTurns
      (StartsOn table_meaning Honest disks header given) (SaysIfHonest Metered Honest) observable count ended
      → RunsIn Metered observable Honest honest genesis old index n disks at given count ended
  serves_in count ended here =
      let node_run = subst (λ (h : HeaderValue). RunsTurns
      (StartsOn table_meaning Honest disks h given) (SaysIfHonest Metered Honest) observable count ended) whose here in
      record {
        node_run = node_run;
        continues = among _ (Up ended)
            (run_runs Metered observable Honest old.genesis n disks index at.device at.same node_run);
      }

  ends_in : (most : ℕ) (ended : ServerValue ReplicaValue) → EndsEarly
      (StartsOn table_meaning Honest disks header given) (SaysIfHonest Metered Honest) observable most ended
      → EndsIn Metered observable Honest honest genesis old index n disks at given most ended
  ends_in most ended here =
      let node_run = subst (λ (h : HeaderValue). EndsEarly
      (StartsOn table_meaning Honest disks h given) (SaysIfHonest Metered Honest) observable most ended) whose here in
      record {
        node_run = node_run;
        continues = λ left leaves. among _ (Down left)
            (broken_run_runs Metered observable Honest old.genesis n disks index at.device at.same node_run left
            leaves);
      }

  leaves_in : (most : ℕ) (ended : ServerValue ReplicaValue) → EndsEarlyByStranger
      (StartsOn table_meaning Honest disks header given) (SaysIfHonest Metered Honest) observable most ended
      → EndsInByStranger Metered observable Honest honest genesis old index n disks at given most ended
  leaves_in most ended here =
      let node_run = subst (λ (h : HeaderValue). EndsEarlyByStranger
      (StartsOn table_meaning Honest disks h given) (SaysIfHonest Metered Honest) observable most ended) whose here in
      record {
        node_run = node_run;
        continues = λ left kept. among _ (Down left)
            (led_run_runs Metered observable Honest old.genesis n disks index at.device at.same node_run left kept);
      }

  pub rests_in : (told : ProgramFault) (rests : Side → Disk)
      → IsRefusedWith table_meaning IsTableText Honest disks header told rests
      → RestsIn Metered observable Honest honest genesis old index n disks at given told rests
  rests_in told rests here =
      let refused = subst (λ (h : HeaderValue). IsRefusedWith table_meaning IsTableText Honest disks h told rests) whose
      here in
      record {
        refused = refused;
        continues = λ left leaves. among _ (Down left)
            (refused_runs Metered observable Honest old.genesis n disks index at.device at.same refused left leaves);
      }

  pub breaks_in : (most : ℕ) (ended : ServerValue ReplicaValue)
      → EndsEarly (StartsOn table_meaning Honest disks header given) (SaysIfHonest Metered Honest) observable most ended
      ⊎ EndsEarlyByStranger (StartsOn table_meaning Honest disks header given) (SaysIfHonest Metered Honest) observable
      most ended
      → EndsInEither Metered observable Honest honest genesis old index n disks at given most ended
  breaks_in most ended (inl breaks) = inl (ends_in most ended breaks)
  breaks_in most ended (inr leaves) = inr (leaves_in most ended leaves)
