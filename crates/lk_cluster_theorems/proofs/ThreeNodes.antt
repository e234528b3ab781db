-- Three nodes that run between sockets meet what the theorem about clients assumes.
use Rattle.std.proofs.Common.{◌≡◌, ◌≢◌, ◌<◌, ℕ, zero, suc, List, [], ◌∷◌, ◌++◌, refl, ap, sym, ◌∙◌, subst, arith}
use Rattle.lk_types.specs.declared.genesis.Genesis.{Genesis}
use Rattle.lk_replica.specs.ReplicaValue.{ReplicaValue}
use Rattle.lk_server.specs.Servers.{ServerValue}
use Rattle.lk_sim_nodes.specs.SimNodes.{At, HasNo}
use Rattle.lk_sim_nodes.specs.declared.sim_node.RunState.TheVariants.{Up, Down}
use Rattle.lk_cluster_theorems.specs.Clusters.{Node}
use Rattle.lk_cluster_theorems.specs.Continuing.{node_of}
use Rattle.lk_cluster_theorems.specs.Processes.{Move, AreOwn, HasRun, MixRuns, AreNew}
use Rattle.lk_cluster_theorems.specs.ThreeNodes.{NewRun, node_before, moves_at, ThreeNodesRun, three_nodes}
use Rattle.lk_cluster_theorems.proofs.Runs.{run_runs}

module _ (Metered observable Honest : Type 0) (genesis : Genesis) where
  module _ (moves : List (Move Metered observable Honest genesis)) where
    -- the run of one of them is among the moves
    has_run : (n index : ℕ) (r : NewRun Metered observable Honest genesis n)
        → AreOwn Metered observable Honest genesis index (moves_at Metered observable Honest genesis index r) moves
        → (node : Node) → node_before Metered observable Honest genesis r ≡ node
        → HasRun Metered observable Honest genesis index node moves
    has_run n index r are node same =
        subst (λ (x : Node). HasRun Metered observable Honest genesis index x moves) same (record {
          own = moves_at Metered observable Honest genesis index r;
          last = node_of n (Up r.ended);
          run = run_runs Metered observable Honest genesis n (λ s. record { synced = []; unsynced = [] }) index r.device
              r.empty r.run;
          are = are;
        })

    module _ (t : ThreeNodesRun Metered observable Honest genesis moves) where
      runs : (index : ℕ) (node : Node) → At (three_nodes Metered observable Honest genesis t) index node
          → HasRun Metered observable Honest genesis index node moves
      runs zero node at = has_run 1 0 t.first t.are_first node at.1
      runs (suc zero) node at = has_run 2 1 t.second t.are_second node at.1
      runs (suc (suc zero)) node at = has_run 3 2 t.third t.are_third node at.1
      runs (suc (suc (suc k))) node at = absurd (omega (arith, at.0))

      pub three_mix : MixRuns Metered observable Honest genesis (three_nodes Metered observable Honest genesis t) moves
      three_mix = record { placed = t.placed; runs = runs }

      -- no two have one number
      none_yet : (number : ℕ) → HasNo {R = ServerValue ReplicaValue} [] number
      none_yet number k s at same = omega (arith, at.0)

      not_first : HasNo (node_before Metered observable Honest genesis t.first ∷ []) 2
      not_first zero s at same =
          let one : 1 ≡ 2 = ap (λ (x : Node). x.number) at.1 ∙ same in
          cc one
      not_first (suc k) s at same = omega (arith, at.0)

      not_these : HasNo (node_before Metered observable Honest genesis t.first
          ∷ node_before Metered observable Honest genesis t.second ∷ []) 3
      not_these zero s at same =
          let one : 1 ≡ 3 = ap (λ (x : Node). x.number) at.1 ∙ same in
          cc one
      not_these (suc zero) s at same =
          let two : 2 ≡ 3 = ap (λ (x : Node). x.number) at.1 ∙ same in
          cc two
      not_these (suc (suc k)) s at same = omega (arith, at.0)

      pub three_new : AreNew (three_nodes Metered observable Honest genesis t)
      three_new = ((
        t.first.device,
        refl,
        t.first.empty,
        none_yet 1,
        (
          t.second.device,
          refl,
          t.second.empty,
          not_first,
          (t.third.device, refl, t.third.empty, not_these, tt),
        ),
      )
          )
