-- Nodes that have restarted may contend for answering, and once they are level, a request is answered.
use Rattle.std.proofs.Common.{◌≡◌, ◌∙◌, ℕ, ◌+◌, ◌*◌, ◌≤◌, List, ◌∷◌, refl, ap, sym, subst, arith}
use Rattle.lk_agreement_laws.proofs.Histories.{contains_more}
use Rattle.lk_state.specs.Meanings.{Meaning}
use Rattle.lk_leader.specs.Terms.{LeaderValue}
use Rattle.lk_learner.specs.Learners.{alpha, executed}
use Rattle.lk_replica.specs.ReplicaValue.{ReplicaValue}
use Rattle.lk_world_feeding.proofs.Knowing.{window_alpha}
use Rattle.lk_world_progress.proofs.Stepping.{one_replica}
use Rattle.lk_world_progress.specs.Restarting.{IsRestarted, NodesRestart}
use Rattle.lk_world_leftovers.specs.Lagging.{MayContend}
use Rattle.lk_world_leftovers.specs.Leveling.{ExchangesFeedAll, HaveFed, LevelNodesContend}
use Rattle.lk_world_leftovers.specs.Persisting.{PersistingCandidateAnswers}
use Rattle.lk_world_leftovers.specs.Restarted.{EndsBy, RestartedMajorityAnswers, RestartedNodesEnd}
use Rattle.lk_world_leftovers.specs.Restarted.{RestartedNodesAreOpen, RestartedNodesMayContend}

-- a restarted node's votes and pairs are at most 2 alpha above what it has executed
ends_by : (r : ReplicaValue) (most a : ℕ) → IsRestarted r.node → executed r.node.learner ≤ most
    → alpha r.node.learner ≡ a → EndsBy r.node (most + 2 * a)
ends_by r most a is low window = record {
  within = omega (arith, low);
  pairs = λ p c. let near = is.pairs p c in omega (arith, near, low, window);
  votes = λ v c. let near = is.near.votes v c in omega (arith, near, low, window);
}

pub restarted_end : (m : Meaning) (IsText : List ℕ → Type 0) → RestartedNodesEnd m IsText
restarted_end m IsText nodes most old new has holds low n c r up =
    let one = has.each n c in
    ends_by r most new.genesis.alpha
    (subst (λ (y : ReplicaValue). IsRestarted y.node) (one_replica m IsText new holds n one.0 r one.1 up) one.2)
    (low n c r up) (window_alpha m IsText new holds n r up)

pub restarted_open : (m : Meaning) (IsText : List ℕ → Type 0) → RestartedNodesAreOpen m IsText
restarted_open m IsText nodes old new has holds j i c d r q up up_other g is =
    let one = has.each j c in
    let same : one.0 ≡ r = one_replica m IsText new holds j one.0 r one.1 up in
    absurd (cc (sym (ap (λ (y : ReplicaValue). y.node.learner.gathered) (sym same) ∙ one.2.gathered) ∙ is))

pub restarted_may_contend : (m : Meaning) (IsText : List ℕ → Type 0) → RestartedNodesMayContend m IsText
restarted_may_contend m IsText x others last old new has holds distinct tell =
    let own = has.each x (0, omega arith, refl) in
    let ends : EndsBy own.0.node last = tell x (0, omega arith, refl) own.0 own.1 in (
      executed own.0.node.learner,
      record {
        candidate = record {
          holds = holds;
          candidate = own.0;
          up = own.1;
          reach = refl;
          idle = ap (λ (l : LeaderValue). l.term) own.2.leader;
          waiting = ap (λ (l : LeaderValue). l.waiting) own.2.leader;
          known = own.2.runs;
          near = own.2.near;
          pairs = ends.pairs;
          votes = ends.votes;
          others_may = λ n c. absurd (omega (arith, c.1));
          distinct = (λ c. absurd (omega (arith, c.1)), tt);
        };
        within = ends.within;
        others_lag = λ n c.
            let one = has.each n (contains_more x others n c) in
            let their : EndsBy one.0.node last = tell n (contains_more x others n c) one.0 one.1 in
            record {
              replica = one.0;
              up = one.1;
              near = one.2.near;
              within = their.within;
              pairs = their.pairs;
              votes = their.votes;
            };
        distinct = distinct;
      },
    )

pub restarted_majority_answers : (m : Meaning) (IsText : List ℕ → Type 0) → NodesRestart m IsText
    → RestartedNodesMayContend m IsText → ExchangesFeedAll m IsText → LevelNodesContend m IsText
    → PersistingCandidateAnswers m IsText → RestartedMajorityAnswers m IsText
restarted_majority_answers m IsText restarts contend feed level answers x others highest fs r old restarted first last
    distinct turns holds tell feeding are_level room run fixed fresh =
    let may : (e : ℕ) × MayContend m IsText restarted x e others highest =
    contend x others highest old restarted (restarts old restarted (x ∷ others) distinct turns) holds distinct tell in
    let fed : HaveFed m IsText x may.0 others highest fs restarted first =
    feed x may.0 others highest fs restarted first may.1 feeding in (
      fed.f,
      answers x fed.f fed.f others highest r first last (level x fed.f others highest first fed.may are_level)
          (omega arith) fed.may.within room run fixed fresh,
    )
