-- What a node may send leaves the history sound, and every node fitting to it.
use Rattle.std.proofs.Common.{◌≡◌, ℕ, ◌≤◌, ◌⊎◌, List, ◌++◌, Some, Contains, refl, ap, sym, ◌∙◌, subst, inl, inr, arith}
use Rattle.std.proofs.lemmas.List.Elements.{Contains-append_cases}
use Rattle.lk_messages.specs.Grammar.{Spells}
use Rattle.lk_messages.specs.Values.{PromiseValue}
use Rattle.lk_agreement_laws.specs.declared.party.Party.TheVariants as party
use Rattle.lk_agreement_laws.specs.Ballots.{BallotValue, IsBelow, IsAtMost}
use Rattle.lk_agreement_laws.specs.Datagrams.{Genesis, Vote, NodeMessage, Datagram, said_by, Prepare, Promise, Accept}
use Rattle.lk_agreement_laws.specs.Datagrams.{Accepted, Decided, HasSent, WasSent}
use Rattle.lk_agreement_laws.specs.Chosen.{Command}
use Rattle.lk_agreement_laws.specs.Soundness.{HasVoteAtOrAbove, Justified, Sound}
use Rattle.lk_agreement_laws.specs.Acceptors.{AcceptorState, Covers}
use Rattle.lk_agreement_laws.specs.Nodes.{Term, PaxosState, TermFits, PaxosFits, MayPromise, MaySend}
use Rattle.lk_agreement_laws.proofs.BallotOrder.{below_self, below_at_most}
use Rattle.lk_agreement_laws.proofs.Agree.{vote}
use Rattle.lk_agreement_laws.proofs.Grow.{still_sent, still_was, still_chosen_from, still_justified, still_stems}

-- a promise reports what its node has accepted
complete_now : (s : AcceptorState) (p : PromiseValue) (x : Vote) → MayPromise s p → Covers s (Accepted x)
    → p.first ≤ x.position → HasVoteAtOrAbove p.votes x.position x.ballot
complete_now s p x o c le =
    elim c.1 [
      | inl under ↦ absurd (omega (arith, o.above))
      | inr y ↦ (y.0, o.all y.0 y.1 (omega (arith, y.2)), y.2, elim y.3 [ inl l ↦ inl l | inr e ↦ inr (sym e.0) ])
    ]

-- a promise and a vote of one standing: the vote is not in an earlier ballot
not_earlier : (s : AcceptorState) (p : PromiseValue) (x : Vote) → s.promised ≡ x.ballot → IsAtMost p.ballot s.promised
    → IsBelow x.ballot p.ballot → ⊥
not_earlier s p x e le lt =
    below_self x.ballot (subst (λ d. IsBelow x.ballot d) e (below_at_most x.ballot p.ballot s.promised lt le))

-- two proposals of one term
same_value : (genesis : Genesis) (sent : List Datagram) (n : ℕ) (w : PaxosState) (b : BallotValue) (i : ℕ)
    (v u : Command) → ((t : Term) → w.term ≡ Some t → TermFits genesis sent n w.acceptor t)
    → MaySend genesis sent w (Accept (vote i b v)) → MaySend genesis sent w (Accept (vote i b u)) → v ≡ u
same_value genesis sent n w b i v u f o p =
    let same : p.0 ≡ o.0 = cc (p.1, o.1) in
    (f o.0 o.1).one_each i v u o.3 (subst (λ (t : Term). Contains t.proposals (i, u)) same p.3)

-- a proposal of a term, and one that was sent before
own_value : (genesis : Genesis) (sent : List Datagram) (n : ℕ) (w : PaxosState) (b : BallotValue) (i : ℕ)
    (v u : Command) → ((t : Term) → w.term ≡ Some t → TermFits genesis sent n w.acceptor t)
    → MaySend genesis sent w (Accept (vote i b v)) → WasSent genesis sent (Accept (vote i b u)) → v ≡ u
own_value genesis sent n w b i v u f o h =
    let t = f o.0 o.1 in
    t.one_each i v u o.3 (t.complete i u (subst (λ d. WasSent genesis sent (Accept (vote i d u))) (sym o.2) h))

module _ (genesis : Genesis) (sent new : List Datagram) (states : ℕ → PaxosState) (sound : Sound genesis sent)
    (fits : (k : ℕ) → PaxosFits genesis sent k (states k))
    (signed : (d : Datagram) → Contains new d → (k : ℕ) (m : NodeMessage)
    → Spells (said_by genesis k m) d.bytes → d.from ≡ party.Node k)
    (n : ℕ) (cases : (k : ℕ) (m : NodeMessage) → HasSent genesis (sent ++ new) k m
    → HasSent genesis sent k m ⊎ ((n ≡ k) × MaySend genesis sent (states k) m)) where
  was_cases : (m : NodeMessage) → WasSent genesis (sent ++ new) m
      → WasSent genesis sent m ⊎ ((k : ℕ) × (n ≡ k) × MaySend genesis sent (states k) m)
  was_cases m h = elim (cases h.sender m h.has_sent)
      [ inl old ↦ inl (record { sender = h.sender; has_sent = old }) | inr o ↦ inr (h.sender, o.0, o.1) ]

  one_value : (b : BallotValue) (i : ℕ) (v w : Command) → WasSent genesis (sent ++ new) (Accept (vote i b v))
      → WasSent genesis (sent ++ new) (Accept (vote i b w)) → v ≡ w
  one_value b i v w p q =
      elim (was_cases (Accept (vote i b v)) p) [
        | inl old ↦ elim (was_cases (Accept (vote i b w)) q) [
          | inl old' ↦ sound.one_value b i v w old old'
          | inr o ↦ sym (own_value genesis sent o.0 (states o.0) b i w v (fits o.0).term o.2 old)
        ]
        | inr o ↦ elim (was_cases (Accept (vote i b w)) q) [
          | inl old' ↦ own_value genesis sent o.0 (states o.0) b i v w (fits o.0).term o.2 old'
          | inr o' ↦ same_value genesis sent o.0 (states o.0) b i v w (fits o.0).term o.2
              (subst (λ k. MaySend genesis sent (states k) (Accept (vote i b w))) (sym o'.1 ∙ o.1) o'.2)
        ]
      ]

  reported_now : (k : ℕ) (p : PromiseValue) → MayPromise (states k).acceptor p → (x : Vote) → Contains p.votes x
      → WasSent genesis sent (Accept x) × IsAtMost x.ballot p.ballot
  reported_now k p o x h = let q = (fits k).stems.votes x (o.only x h) in
      (q.0, subst (λ d. IsAtMost x.ballot d) o.promised q.1)

  complete : (k : ℕ) (p : PromiseValue) (x : Vote) → HasSent genesis (sent ++ new) k (Promise p)
      → HasSent genesis (sent ++ new) k (Accepted x)
      → IsBelow x.ballot p.ballot → p.first ≤ x.position → HasVoteAtOrAbove p.votes x.position x.ballot
  complete k p x hp ha lt le =
      elim (cases k (Promise p) hp) [
        | inl old ↦ elim (cases k (Accepted x) ha) [
          | inl old' ↦ sound.complete k p x old old' lt le
          | inr o ↦ absurd (not_earlier (states k).acceptor p x o.1.0 ((fits k).covers (Promise p) old) lt)
        ]
        | inr o ↦ elim (cases k (Accepted x) ha) [
          | inl old' ↦ complete_now (states k).acceptor p x o.1 ((fits k).covers (Accepted x) old') le
          | inr o' ↦ absurd (not_earlier (states k).acceptor p x o'.1.0 (inr (sym o.1.promised)) lt)
        ]
      ]

  pub sound_after : Sound genesis (sent ++ new)
  sound_after = record {
    signed = λ d h. elim (Contains-append_cases sent new d h) [ inl old ↦ sound.signed d old | inr now ↦ signed d now ];
    one_value = one_value;
    own = λ k x h. elim (cases k (Accept x) h) [
      | inl old ↦ sound.own k x old
      | inr o ↦ ap (λ (d : BallotValue). d.node) (sym o.1.2) ∙ ((fits k).term o.1.0 o.1.1).own
    ];
    proposed = λ k x h. still_was genesis sent new (Accept x) (elim (cases k (Accepted x) h) [
      | inl old ↦ sound.proposed k x old
      | inr o ↦ ((fits k).stems.votes x o.1.1).0
    ]);
    reported = λ k p h x c. elim (cases k (Promise p) h) [
      | inl old ↦ (let r = sound.reported k p old x c in (still_was genesis sent new (Accept x) r.0, r.1))
      | inr o ↦ (let r = reported_now k p o.1 x c in (still_was genesis sent new (Accept x) r.0, r.1))
    ];
    complete = complete;
    justified = λ x h. still_justified genesis sent new x.ballot x.position x.command (elim (was_cases (Accept x) h) [
      | inl old ↦ sound.justified x old
      | inr o ↦ subst (λ d. Justified genesis sent d x.position x.command) o.2.2
          (((fits o.0).term o.2.0 o.2.1).justified x.position x.command o.2.3)
    ]);
    told = λ k d h. still_chosen_from genesis sent new d.first d.commands (elim (cases k (Decided d) h) [
      | inl old ↦ sound.told k d old
      | inr o ↦ o.1
    ]);
  }

  -- a node covers what it may send
  covers_own : (k : ℕ) (m : NodeMessage) → MaySend genesis sent (states k) m → Covers (states k).acceptor m
  covers_own k (Prepare b first) o = o
  covers_own k (Promise p) o = inr (sym o.promised)
  covers_own k (Accept x) o = subst (λ d. IsAtMost d (states k).acceptor.promised) o.2 ((fits k).term o.0 o.1).promised
  covers_own k (Accepted x) o = (inr (sym o.0), inr (x, o.1, refl, inr (refl, refl)))
  covers_own k _ o = tt

  -- a proposal that is sent is its term's
  complete_after : (k i : ℕ) (v : Command) (t : Term) → (states k).term ≡ Some t
      → WasSent genesis (sent ++ new) (Accept (vote i t.ballot v)) → Contains t.proposals (i, v)
  complete_after k i v t at h =
      elim (was_cases (Accept (vote i t.ballot v)) h) [
        | inl old ↦ ((fits k).term t at).complete i v old
        | inr o ↦ (let e : o.0 ≡ k = sym ((fits o.0).term o.2.0 o.2.1).own
            ∙ (ap (λ (d : BallotValue). d.node) o.2.2 ∙ ((fits k).term t at).own) in
            let p = subst (λ j. MaySend genesis sent (states j) (Accept (vote i t.ballot v))) e o.2 in
            let same : p.0 ≡ t = cc (p.1, at) in
            subst (λ (u : Term). Contains u.proposals (i, v)) same p.3)
      ]

  pub fits_after : (k : ℕ) → PaxosFits genesis (sent ++ new) k (states k)
  fits_after k = record {
    covers = λ m h. elim (cases k m h) [ inl old ↦ (fits k).covers m old | inr o ↦ covers_own k m o.1 ];
    stems = still_stems genesis sent new (states k) (fits k).stems;
    term = λ t at. let f = (fits k).term t at in record {
      own = f.own;
      promised = f.promised;
      received = λ r c. still_sent genesis sent new _ _ (f.received r c);
      accepted = λ a c. still_sent genesis sent new _ _ (f.accepted a c);
      complete = λ i v h. complete_after k i v t at h;
      one_each = f.one_each;
      justified = λ i v c. still_justified genesis sent new _ _ _ (f.justified i v c);
    };
  }
