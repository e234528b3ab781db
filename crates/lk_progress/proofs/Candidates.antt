-- Either all of a majority promise, or one of them rejects for a cause.
use Rattle.std.proofs.Common.{◌∙◌, ◌≤◌, ◌≡◌, ◌⊎◌, inl, inr, ℕ, ◌+◌, ◌<◌, List, [], ◌∷◌, map, Contains, refl, ap, sym}
use Rattle.std.proofs.Common.{subst, arith}
use Rattle.lk_acceptor.specs.AcceptorValue.{AcceptorValue}
use Rattle.lk_agreement_laws.proofs.Histories.{below_self, cons_cases, contains_more}
use Rattle.lk_leader.specs.Proposing.{AreMembersAt, LeaderProposes, Leads}
use Rattle.lk_leader.specs.Terms.{LeaderValue, begun}
use Rattle.lk_learner.specs.Learners.{LearnerValue, executed}
use Rattle.lk_members.specs.Majorities.{IsMajority}
use Rattle.lk_messages.specs.Values.{PromiseValue}
use Rattle.lk_messages.specs.declared.message.Content.TheVariants as content
use Rattle.lk_messages.specs.declared.message.NodeMessage.TheVariants as kinds
use Rattle.lk_node.proofs.Nodes.{map_contains}
use Rattle.lk_node.specs.Leading.{ProposesAll, ProposesVote}
use Rattle.lk_node_interface.specs.Envelopes.{EnvelopeValue}
use Rattle.lk_node.specs.Beginning.{next_ballot}
use Rattle.lk_node.specs.CatchingUp.{refusal}
use Rattle.lk_node.specs.NodeValue.{NodeValue}
use Rattle.lk_node_interface.specs.Outboxes.{OutboxValue}
use Rattle.lk_progress.proofs.Electing.{due_asks, promised_leads, rejected_above}
use Rattle.lk_progress.proofs.Feeding.{nack_asks}
use Rattle.lk_progress.proofs.Hearing.{Handled, handled, same_acceptor, same_learner}
use Rattle.lk_progress.proofs.Rejecting.{keeps_leader, prepare_has_cause}
use Rattle.lk_progress.specs.Hearing.{TakesEach}
use Rattle.lk_progress.specs.Candidates.{Asked, AskMajority, promise_of, IsElectedBy, HearsWhyNot}
use Rattle.lk_progress.specs.Candidates.{CandidateLeadsOrHearsWhyNot, IsStill, OwnPrepareKeepsTerm}
use Rattle.lk_progress.specs.Electing.{AsksWindow, AreUsable, promises}
use Rattle.lk_progress.specs.Rejecting.{Promises, RejectsPrepare}
use Rattle.lk_state.specs.Meanings.{Meaning}
use Rattle.lk_types.specs.BallotValue.{BallotValue}
use Rattle.lk_types.specs.Ballots.{IsBelow}
use Rattle.lk_types.specs.declared.vote.Vote.{Vote}
use Rattle.lk_types.specs.declared.member.Member.{Member}

-- all are of one kind, or one is of the other
all_or_one : {X : Type 0} (P Q : X → Type 0) (xs : List X) → ((x : X) → Contains xs x → P x ⊎ Q x)
    → ((x : X) → Contains xs x → P x) ⊎ ((x : X) × Contains xs x × Q x)
all_or_one P Q [] each = inl (λ x c. absurd (omega (arith, c.1)))
all_or_one P Q (y ∷ ys) each =
    elim (each y (0, omega arith, refl)) [
      | inr other ↦ inr (y, (0, omega arith, refl), other)
      | inl this ↦ elim (all_or_one P Q ys (λ x c. each x (contains_more y ys x c))) [
        | inr one ↦ inr (one.0, contains_more y ys one.0 one.1, one.2)
        | inl all ↦ inl (λ x c. elim (cons_cases y ys x c) [ inl is ↦ subst P is this | inr later ↦ all x later ])
      ]
    ]

numbers : (f : Asked → PromiseValue) (asked : List Asked)
    → map (λ (h : ℕ × PromiseValue). h.0) (map (λ (v : Asked). (v.number, f v)) asked)
    ≡ map (λ (v : Asked). v.number) asked
numbers f [] = refl
numbers f (v ∷ asked) = ap (λ (ns : List ℕ). v.number ∷ ns) (numbers f asked)

module _ (m : Meaning) (IsText : List ℕ → Type 0) (candidate first : NodeValue) (asking : OutboxValue)
    (set : List Member) (asked : List Asked) (asks : AsksWindow candidate first asking)
    (room : executed candidate.learner < 281474976710656)
    (members : AreMembersAt candidate.learner.whole.roster (executed candidate.learner + 1) set)
    (k : AskMajority m IsText candidate set asked) where
  learner : first.learner ≡ candidate.learner
  learner = ap (λ (node : NodeValue). node.learner) asks.becomes

  abbrev heard : List (ℕ × PromiseValue)
  heard = map (λ (v : Asked). (v.number, promise_of candidate v)) asked

  -- it still has its term and its learner
  module _ (now : NodeValue) (still : IsStill first now) where
    same : now.learner ≡ candidate.learner
    same = still.learner ∙ learner

    usable : AreUsable now (begun (next_ballot candidate)) heard
    usable = record {
      ballot = λ h c. let v = map_contains (λ (v : Asked). (v.number, promise_of candidate v)) asked h c in
          ap (λ (g : ℕ × PromiseValue). g.1.ballot) (sym v.2);
      first = λ h c. let v = map_contains (λ (v : Asked). (v.number, promise_of candidate v)) asked h c in
          omega (arith, ap (λ (g : ℕ × PromiseValue). g.1.first) v.2, ap (λ (l : LearnerValue). executed l) same);
      before = λ q c. absurd (omega (arith, c.1));
    }

    leads : (last : NodeValue) (envelopes : List EnvelopeValue) → TakesEach m IsText (promises heard) now last envelopes
        → Leads last.leader last.learner.whole.roster
    leads last envelopes takes = promised_leads m IsText now last (begun (next_ballot candidate)) set heard envelopes
        (still.term ∙ ap (λ (node : NodeValue). node.leader.term) asks.becomes)
        (subst (λ (l : LearnerValue). AreMembersAt l.whole.roster (executed l + 1) set) (sym same) members)
        (omega (arith, room, ap (λ (l : LearnerValue). executed l) same)) usable
        (subst (λ (ns : List ℕ). IsMajority ns set) (sym (numbers (promise_of candidate) asked)) k.majority) takes

  elected : ((v : Asked) → Contains asked v → Promises v.old candidate.header.node (next_ballot candidate)
      (executed candidate.learner + 1) v.new v.out) → IsElectedBy m IsText candidate first asked
  elected all = record {
    told = λ v c. (all v c).told;
    leads = λ now last envelopes still takes. leads now still last envelopes takes;
  }

  rejected : (v : Asked) → Contains asked v → RejectsPrepare v.old candidate.header.node (next_ballot candidate)
      (executed candidate.learner + 1) v.new v.out → HearsWhyNot m IsText candidate first asked
  rejected v c why = record {
    one = v;
    among = c;
    rejects = why;
    acts = λ now last out still hears. (
      rejected_above m IsText now last v.number (refusal (next_ballot candidate) v.old) out hears,
      elim why.why [
        | inl greater ↦ inl greater
        | inr ahead ↦ inr (nack_asks m IsText now last v.number (refusal (next_ballot candidate) v.old) out hears
            (omega (arith, ahead, ap (λ (l : LearnerValue). executed l) (same now still))))
      ],
    );
  }

pub leads_or_hears : (m : Meaning) (IsText : List ℕ → Type 0) → CandidateLeadsOrHearsWhyNot m IsText
leads_or_hears m IsText candidate first asking set asked due ticks members k =
    let asks : AsksWindow candidate first asking = due_asks candidate first asking due ticks in
    elim (all_or_one
    (λ (v : Asked). Promises v.old candidate.header.node (next_ballot candidate) (executed candidate.learner + 1) v.new
    v.out)
    (λ (v : Asked). RejectsPrepare v.old candidate.header.node (next_ballot candidate) (executed candidate.learner + 1)
    v.new v.out) asked
    (λ v c. prepare_has_cause m IsText v.old v.new candidate.header.node (next_ballot candidate)
    (executed candidate.learner + 1) v.out (k.near v c) (k.hears v c))) [
      | inl all ↦ inl (elected m IsText candidate first asking set asked asks due.position members k all)
      | inr one ↦ inr (rejected m IsText candidate first asking set asked asks due.position members k one.0 one.1 one.2)
    ]

-- ---- its own Prepare

pub own_keeps : (m : Meaning) (IsText : List ℕ → Type 0) → OwnPrepareKeepsTerm m IsText
own_keeps m IsText old new t from first out current near promised behind nothing hears =
    by_cause (prepare_has_cause m IsText old new from t.ballot first out near hears)
  where
    why_not : IsBelow t.ballot old.acceptor.state.promised ⊎ (first ≤ executed old.learner) → ⊥
    why_not (inl greater) =
        below_self t.ballot (subst (λ (b : BallotValue). IsBelow t.ballot b) promised greater)
    why_not (inr ahead) = omega (arith, ahead, behind)

    h : Handled m IsText old (content.Node from (kinds.Prepare t.ballot first)) new out
    h = handled m IsText old _ new out hears

    unchanged : h.mid.leader ≡ old.leader → h.mid.learner ≡ old.learner → (xs : List Vote)
        → ProposesAll xs h.mid new h.first out → new ≡ h.mid
    unchanged led same [] all = all.1
    unchanged led same (x ∷ xs) all =
        let p : ProposesVote h.mid x = all.0 in
        let leads : LeaderProposes h.mid.leader h.mid.learner.whole.roster x.position x.command =
        (p.term, p.current, p.proposes) in
        absurd (nothing x.position x.command
        (subst (λ (l : LeaderValue). LeaderProposes l old.learner.whole.roster x.position x.command) led
        (subst (λ (l : LearnerValue). LeaderProposes h.mid.leader l.whole.roster x.position x.command) same leads)))

    by_cause : Promises old from t.ballot first new out ⊎ RejectsPrepare old from t.ballot first new out
        → IsStill old new
    by_cause (inr rejects) = absurd (why_not rejects.why)
    by_cause (inl promises) =
        let learner : h.mid.learner ≡ old.learner = sym (same_learner m IsText old _ new out h) ∙ promises.learner in
        let leader : h.mid.leader ≡ old.leader =
        keeps_leader old h.mid from _ h.first h.handles t current
        (ap (λ (a : AcceptorValue). a.state.promised) (sym (same_acceptor m IsText old _ new out h))
        ∙ ap (λ (a : AcceptorValue). a.state.promised) promises.acceptor) in
        let is : new ≡ h.mid = unchanged leader learner h.proposes.0 h.proposes.1 in
        record {
          term = ap (λ (node : NodeValue). node.leader.term) is ∙ ap (λ (l : LeaderValue). l.term) leader;
          learner = promises.learner;
        }
