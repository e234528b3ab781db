-- Two empty disks cover nothing that has to be remembered.
use Rattle.std.proofs.Common.{◌≡◌, ℕ, inl, inr, List, [], ◌∷◌, refl, ap, sym, ◌∙◌, subst, arith}
use Rattle.lk_types.specs.BallotValue.{BallotValue}
use Rattle.lk_types.specs.Ballots.{IsRealBallot, IsAtMost, zero_ballot}
use Rattle.lk_types.specs.declared.genesis.Genesis.{Genesis}
use Rattle.lk_disk.specs.Disk.{Disk}
use Rattle.lk_disk.specs.declared.device.Side.{Side}
use Rattle.lk_disk.specs.declared.device.Side.TheVariants.{A, B}
use Rattle.lk_messages.specs.Grammar.{IsNodeMessage}
use Rattle.lk_messages.specs.declared.message.NodeMessage.{NodeMessage}
use Rattle.lk_messages.specs.declared.message.NodeMessage.TheVariants as message
use Rattle.lk_store_format.specs.Standings.{StandsFor}
use Rattle.lk_store_format.specs.Values.{HeaderValue, StandingValue}
use Rattle.lk_store_format.specs.declared.stored.Stored.{Stored}
use Rattle.lk_store_format.specs.declared.stored.Stored.TheVariants.{Base}
use Rattle.lk_log.specs.Stores.{first_base}
use Rattle.lk_log.proofs.StoreLaws.{empty_image, first_stands, not_both, one_standing}
use Rattle.lk_agreement_laws.specs.Datagrams.{HasSent}
use Rattle.lk_replica.specs.ReplicaValue.{ReplicaValue}
use Rattle.lk_server.specs.Servers.{ServerValue}
use Rattle.lk_sim_nodes.specs.declared.sim_node.RunState.{RunState}
use Rattle.lk_sim_nodes.specs.declared.sim_node.RunState.TheVariants.{Up, Down}
use Rattle.lk_guarantees.specs.Guarantee.{MeetsGuarantee, MayRemain, MayRemainOf, Remembers, IsCovered, Says}
use Rattle.lk_cluster_theorems.specs.Clusters.{Node, Cluster, run_state_of, sim_node_of, world_state_of}
use Rattle.lk_cluster_theorems.specs.Forgetting.{HasEmptyDisks, MustBeRemembered}
use Rattle.lk_cluster_theorems.proofs.Keeping.{in_map}
use Rattle.lk_cluster_theorems.proofs.Mapped.{device_disks}
use Rattle.std.specs.Prelude.{Contains}

abbrev no_bytes : Side → List ℕ
no_bytes s = []

-- ---- a stop leaves nothing of two empty disks

remains : (d : Disk) → d ≡ record { synced = []; unsynced = [] } → MayRemain d []
remains d e = subst (λ (x : Disk). MayRemain x []) (sym e) (0, refl)

remain : (run_state : RunState (ServerValue ReplicaValue)) → HasEmptyDisks run_state
    → MayRemainOf (run_state_of run_state) no_bytes
remain (Up server) empty = (
  remains _ (sym (device_disks server.replica.store A) ∙ empty A),
  remains _ (sym (device_disks server.replica.store B) ∙ empty B),
)
remain (Down device) empty = (remains _ (empty A), remains _ (empty B))

-- ---- and nothing is remembered by that

begun_with_none : (whose : HeaderValue) (blank : List ℕ) (entries : List Stored) (memory : StandingValue)
    → StandsFor entries memory → entries ≡ Base (first_base whose blank) ∷ [] → memory.promised ≡ zero_ballot
begun_with_none whose blank entries memory stands e =
    ap (λ (s : StandingValue). s.promised)
    (one_standing entries memory (first_base whose blank).standing stands
    (subst (λ (es : List Stored). StandsFor es (first_base whose blank).standing) (sym e) (first_stands whose blank)))

no_promise : (genesis : Genesis) (n : ℕ) (memory : StandingValue) → Remembers genesis n no_bytes memory
    → memory.promised ≡ zero_ballot
no_promise genesis n memory r = elim r.live [
  | inl live ↦ absurd (not_both no_bytes r.entries live (empty_image no_bytes (λ s. refl)))
  | inr none ↦ begun_with_none _ none.1.0 r.entries memory r.stand_for none.1.2
]

-- ---- so what was sent is not covered

not_below_all : (b promised : BallotValue) → IsRealBallot b → promised ≡ zero_ballot → IsAtMost b promised → ⊥
not_below_all b promised real e (inl (inl round)) = omega (arith, round, ap (λ (x : BallotValue). x.round) e)
not_below_all b promised real e (inl (inr node)) = omega (arith, node.1, ap (λ (x : BallotValue). x.node) e)
not_below_all b promised real e (inr same) = omega (arith, real.0.0, ap (λ (x : BallotValue). x.round) (same ∙ e))

forgotten : (memory : StandingValue) (m : NodeMessage) → MustBeRemembered m → IsNodeMessage m
    → memory.promised ≡ zero_ballot → IsCovered memory m → ⊥
forgotten memory (message.Prepare ballot first) must fits none covered =
    not_below_all ballot memory.promised fits.0 none covered
forgotten memory (message.Promise p) must fits none covered = not_below_all p.ballot memory.promised fits.0 none covered
forgotten memory (message.Accept x) must fits none covered = not_below_all x.ballot memory.promised fits.1 none covered
forgotten memory (message.Accepted x) must fits none covered =
    not_below_all x.ballot memory.promised fits.1 none covered.0
forgotten memory _ must fits none covered = must

pub not_forgotten : (c : Cluster) → MeetsGuarantee (world_state_of c) → (node : Node) → Contains c.sim_nodes node
    → (m : NodeMessage) → MustBeRemembered m → HasSent c.genesis c.sent node.number m → HasEmptyDisks node.run_state → ⊥
not_forgotten c keeps node here m must sent empty =
    let x = keeps.covered (sim_node_of node) (in_map sim_node_of c.sim_nodes node here) no_bytes
    (remain node.run_state empty) in
    let says : Says c.genesis c.sent node.number m =
    record { datagram = sent.datagram; is_sent = sent.listed; by_node = sent.from; in_words = sent.spelled } in
    forgotten x.0 m must sent.spelled.0.1.1 (no_promise c.genesis node.number x.0 x.1) (x.2 m says)
