-- What a leader has proposed at its next position is found among what was sent, and nothing else is.
use Rattle.std.proofs.Common.{◌≡◌, ◌∙◌, ◌==◌, inl, inr, ℕ, ◌+◌, true, false, List, [], ◌∷◌, Some, Contains, refl}
use Rattle.std.proofs.Common.{ap, sym, subst, arith}
use Rattle.std.proofs.lemmas.Bool.{cases_Bool, eq-eqb}
use Rattle.lk_types.specs.BallotValue.{BallotValue}
use Rattle.lk_types.specs.Ballots.{IsRealBallot}
use Rattle.lk_types.specs.Ranges.{IsCount}
use Rattle.lk_types.specs.declared.vote.Vote.{Vote}
use Rattle.lk_messages.specs.Grammar.{Spells, spelling}
use Rattle.lk_messages.specs.declared.message.Content.TheVariants as content
use Rattle.lk_messages.specs.declared.message.Message.{Message}
use Rattle.lk_messages.specs.declared.message.NodeMessage.TheVariants as kinds
use Rattle.lk_agreement_laws.proofs.Histories.{cons_cases}
use Rattle.lk_agreement_laws.specs.Datagrams.{Datagram, HasSent, said_by}
use Rattle.lk_agreement_laws.specs.Nodes.{TermFits}
use Rattle.lk_agreement_laws.specs.declared.party.Party.TheVariants as party
use Rattle.lk_members.proofs.Memberships.{majority_lies_within}
use Rattle.lk_state.specs.Meanings.{Meaning}
use Rattle.lk_leader.specs.Terms.{ProposalValue, proposal_at}
use Rattle.lk_leader.specs.Values.{has_vote_from}
use Rattle.lk_learner.specs.Learners.{executed}
use Rattle.lk_leftovers.proofs.Filling.{found_at}
use Rattle.lk_replica.specs.Behaviours.{disks_by}
use Rattle.lk_replica.specs.ReplicaValue.{ReplicaValue}
use Rattle.lk_sim.specs.WorldStates.{WorldState}
use Rattle.lk_sim.specs.Traces.{happened, told_in}
use Rattle.lk_sim_nodes.specs.SimNodes.{UpFits}
use Rattle.lk_world_progress.proofs.Stepping.{up_fits}
use Rattle.lk_world_progress.specs.Stepping.{Shows, behaviour}
use Rattle.lk_world_leftovers.specs.Filling.{FillingLeaderOffers, IsNextVote, OffersNext}
use Rattle.lk_healing.proofs.Fronts.{IsAcceptLike, accept_like, spells_some}
use Rattle.lk_healing.proofs.Serves.{member_there}
use Rattle.lk_healing.proofs.Stands.{header_valid}
use Rattle.lk_healing.specs.Standing.{FillsFrom, IsOffer}
use Rattle.lk_healing.specs.declared.asking.Asking.{Asking}

-- the first proposal at a position where there is one
proposal_there : (i : ℕ) (ps : List ProposalValue) (p : ProposalValue) → Contains ps p → p.position ≡ i
    → (q : ProposalValue) × (proposal_at i ps ≡ Some q)
proposal_there i [] p c at = absurd (omega (arith, c.1))
proposal_there i (q ∷ ps) p c at = elim (cases_Bool (q.position == i)) [
  | inl t ↦ (q, rw t refl)
  | inr f ↦ elim (cons_cases q ps p c) [
    | inl is ↦ absurd (cc (sym f ∙ eq-eqb q.position i (ap (λ (r : ProposalValue). r.position) is ∙ at)))
    | inr later ↦ (let rest = proposal_there i ps p later at in (rest.0, rw f rest.1))
  ]
]

module _ (m : Meaning) (IsText : List ℕ → Type 0) (w : WorldState ReplicaValue) (x : ℕ) (nodes : List ℕ)
    (asking : Asking)
    (next : ℕ) (k : FillsFrom m IsText w x nodes asking next) where
  abbrev e : ℕ
  e = executed k.leader.node.learner

  -- ---- found

  module _ (v : Vote) (o : IsOffer w.sent x asking next v) where
    fits : UpFits (Shows m) (disks_by (behaviour m IsText)) m (happened w.genesis w.sent w.trace)
        (k.fills.holds.states x) x k.leader
    fits = up_fits m IsText w k.fills.holds x k.leader k.fills.up

    spelled : Spells (said_by w.genesis x (kinds.Accept v)) o.0.bytes
    spelled = subst (λ (c : ℕ). Spells (record { cluster = c; content = content.Node x (kinds.Accept v) }) o.0.bytes)
        k.cluster o.2.spelled

    has_sent : HasSent w.genesis w.sent x (kinds.Accept v)
    has_sent = record {
      datagram = o.0;
      listed = o.1;
      from = k.fills.holds.world.sound.signed o.0 o.1 x (kinds.Accept v) spelled;
      spelled = spelled;
    }

    offered_next : IsNextVote k.leader.node k.term v
    offered_next =
        let led = fits.shown.held.leads k.term k.fills.fills.leads.leads.current in
        let term : TermFits w.genesis w.sent x fits.holding.paxos.acceptor led.0 =
        fits.fits.paxos.term led.0 led.1 in
        let ballot : v.ballot ≡ led.0.ballot = o.2.ballot ∙ k.ballot ∙ sym led.2.ballot in
        let listed : Contains led.0.proposals (v.position, v.command) = term.complete v.position v.command (record {
          sender = x;
          has_sent = subst (λ (b : BallotValue). HasSent w.genesis w.sent x (kinds.Accept (record {
            position = v.position;
            ballot = b;
            command = v.command;
          }))) ballot has_sent;
        }) in
        let position : v.position ≡ e + 1 = o.2.position ∙ k.next_is in
        let kept = led.2.kept v.position v.command listed (omega (arith, position)) in
        let there = proposal_there (e + 1) k.term.proposals kept.0 kept.1 (kept.2 ∙ position) in
        let among = found_at (e + 1) k.term.proposals there.0 there.1 in
        let command : there.0.command ≡ v.command = term.one_each v.position there.0.command v.command
        (subst (λ (i : ℕ). Contains led.0.proposals (i, there.0.command)) (among.1 ∙ sym position)
        (led.2.proposals there.0 among.0)) listed in
        record {
          proposal = there.0;
          there = there.1;
          is = λ i. record {
            position = position i;
            ballot = (o.2.ballot ∙ k.ballot) i;
            command = (sym command) i;
          };
        }

  pub offers_next : (v : Vote) → IsOffer w.sent x asking next v → IsNextVote k.leader.node k.term v
  offers_next v o = offered_next v o

  -- ---- not found

  module _ (law : FillingLeaderOffers m IsText) (real : IsRealBallot asking.ballot) (count : IsCount next)
      (none : (v : Vote) → IsOffer w.sent x asking next v → ⊥) where
    not_left : has_vote_from k.term.received next ≡ true → ⊥
    not_left left =
        let offers : OffersNext w x k.leader k.term k.set = law w x k.leader k.term k.set k.others k.last k.fills
        (subst (λ (i : ℕ). has_vote_from k.term.received i ≡ true) k.next_is left) in
        let sent = offers.sent x (member_there k.set x
        (majority_lies_within k.set (x ∷ k.others) x k.fills.majority (0, omega arith, refl))) in
        let d : Datagram = record {
          from = party.Node x;
          to = party.Node x;
          bytes = spelling (said_by w.genesis x (kinds.Accept offers.vote));
        } in
        let y = spells_some w.sent (told_in w.trace) k.fills.holds.told d sent in
        let header = header_valid m IsText w k.fills.holds x k.leader k.fills.up in
        let position : offers.vote.position ≡ next =
        ap (λ (v : Vote). v.position) offers.is.is ∙ sym k.next_is in
        let ballot : offers.vote.ballot ≡ asking.ballot =
        ap (λ (v : Vote). v.ballot) offers.is.is ∙ sym k.ballot in
        let like : IsAcceptLike w.genesis.cluster x offers.vote header.0 header.1
        (subst IsRealBallot (sym ballot) real) (subst IsCount (sym position) count) y.0 =
        accept_like w.genesis.cluster x offers.vote header.0 header.1 (subst IsRealBallot (sym ballot) real)
        (subst IsCount (sym position) count) y.0 y.1 in
        none like.vote (
          d,
          sent,
          record {
            position = like.position ∙ position;
            ballot = like.ballot ∙ ballot;
            spelled = subst (λ (c : ℕ). Spells (record {
              cluster = c;
              content = content.Node x
                  (kinds.Accept like.vote);
            })
                d.bytes) (sym k.cluster) (subst (λ (z : Message). Spells z d.bytes) like.is y.1);
          },
        )

    pub none_left : has_vote_from k.term.received next ≡ false
    none_left = elim (cases_Bool (has_vote_from k.term.received next)) [
      | inl left ↦ absurd (not_left left)
      | inr f ↦ f
    ]
