-- Every world that can be reached has a sound history, to which each node fits.
use Rattle.std.proofs.Common.{◌≡◌, ℕ, zero, suc, ◌≤◌, ◌⊎◌, ◌==◌, Bool, true, false, cond, List, [], ◌∷◌, ◌++◌, length}
use Rattle.std.proofs.Common.{Some, Contains, refl, ap, sym, ◌∙◌, subst, inl, inr, arith, eqb-true}
use Rattle.lk_messages.specs.Grammar.{Spells}
use Rattle.lk_members.specs.Rosters.{members}
use Rattle.lk_agreement_laws.specs.declared.party.Party.TheVariants as party
use Rattle.lk_agreement_laws.specs.Ballots.{BallotValue, IsBelow}
use Rattle.lk_agreement_laws.specs.Datagrams.{Genesis, Vote, NodeMessage, Datagram, said_by, Accept, Accepted, HasSent}
use Rattle.lk_agreement_laws.specs.Datagrams.{WasSent}
use Rattle.lk_agreement_laws.specs.Chosen.{Command, command_at, IsAcceptedIn, Chosen}
use Rattle.lk_agreement_laws.specs.Soundness.{Sound}
use Rattle.lk_agreement_laws.specs.Acceptors.{AcceptorState, Covers, CoversSent}
use Rattle.lk_agreement_laws.specs.Nodes.{PaxosState, fresh, Stems, PaxosFits, MaySend, MaySendDatagrams}
use Rattle.lk_agreement_laws.specs.Changes.{Becomes}
use Rattle.lk_agreement_laws.specs.Worlds.{PaxosWorld, start, with_sent, with_paxos}
use Rattle.lk_agreement_laws.specs.Worlds.{IsClientRequest, Happens, sends, asks}
use Rattle.lk_agreement_laws.specs.Worlds.{changes, IsReachable, begin, next, WorldFits, HoldsCommand, IsKept}
use Rattle.lk_agreement_laws.proofs.Lists.{entry_at, only}
use Rattle.lk_agreement_laws.proofs.Agree.{vote, command_within, entry_chosen, one_chosen, later_value_in}
use Rattle.lk_agreement_laws.proofs.Signed.{said_alike, asked_is_no_saying, sent_cases}
use Rattle.lk_agreement_laws.proofs.Sends.{sound_after, fits_after}
use Rattle.lk_agreement_laws.proofs.ChangeLaws.{change_fits, changes_fit}

nothing_sent : (genesis : Genesis) (n : ℕ) (m : NodeMessage) → HasSent genesis [] n m → ⊥
nothing_sent genesis n m h = omega (arith, h.listed.1)

nothing_was : (genesis : Genesis) (m : NodeMessage) → WasSent genesis [] m → ⊥
nothing_was genesis m h = nothing_sent genesis h.sender m h.has_sent

fresh_stems : (genesis : Genesis) → Stems genesis [] fresh
unfolding Chosen
fresh_stems genesis = record {
  votes = λ x h. absurd (omega (arith, h.1));
  done = none;
  snapshot = omega arith;
  pairs = λ i v h. absurd (omega (arith, h.1));
}
  where
    none : (i : ℕ) (v : Command) → command_at [] i ≡ Some v
        → (b : BallotValue) × IsAcceptedIn genesis [] (members genesis [] i) b i v
    none zero v at = absurd cc
    none (suc k) v at = absurd cc

pub start_fits : (genesis : Genesis) → WorldFits genesis start
start_fits genesis = record {
  sound = record {
    signed = λ d h. absurd (omega (arith, h.1));
    one_value = λ b i v w p. absurd (nothing_was genesis _ p);
    own = λ n x p. absurd (nothing_sent genesis n _ p);
    proposed = λ n x p. absurd (nothing_sent genesis n _ p);
    reported = λ n p h. absurd (nothing_sent genesis n _ h);
    complete = λ n p x h. absurd (nothing_sent genesis n _ h);
    justified = λ x h. absurd (nothing_was genesis _ h);
    told = λ n d h. absurd (nothing_sent genesis n _ h);
  };
  states = λ n. record {
    covers = λ m h. absurd (nothing_sent genesis n m h);
    stems = fresh_stems genesis;
    term = λ t at. absurd (cc at);
  };
}

-- an image that covers what was sent before, and what is sent now
pub covers_both : (genesis : Genesis) (sent batch : List Datagram) (n : ℕ) (s : AcceptorState)
    → CoversSent genesis sent n s → CoversSent genesis batch n s → CoversSent genesis (sent ++ batch) n s
covers_both genesis sent batch n s before now m h =
    elim (sent_cases genesis sent batch n m h) [ inl old ↦ before m old | inr new ↦ now m new ]

-- a batch that a node may send
module _ (genesis : Genesis) (w : PaxosWorld) (n : ℕ) (batch : List Datagram)
    (may : MaySendDatagrams genesis w.sent n (w.states n) batch) where
  batch_says : (k : ℕ) (m : NodeMessage) (d : Datagram) → Contains batch d → Spells (said_by genesis k m) d.bytes
      → (n ≡ k) × MaySend genesis w.sent (w.states k) m
  batch_says k m d h s =
      let p = may d h in
      let e = said_alike genesis n k p.message m d.bytes p.spelled s in (
        e.0,
        subst (λ j. MaySend genesis w.sent (w.states j) m) e.0
            (subst (λ x. MaySend genesis w.sent (w.states n) x) e.1 p.may),
      )

  batch_signed : (d : Datagram) → Contains batch d → (k : ℕ) (m : NodeMessage)
      → Spells (said_by genesis k m) d.bytes → d.from ≡ party.Node k
  batch_signed d h k m s = (may d h).from ∙ ap party.Node (batch_says k m d h s).0

  batch_cases : (k : ℕ) (m : NodeMessage) → HasSent genesis (w.sent ++ batch) k m
      → HasSent genesis w.sent k m ⊎ ((n ≡ k) × MaySend genesis w.sent (w.states k) m)
  batch_cases k m h = elim (sent_cases genesis w.sent batch k m h)
      [ inl old ↦ inl old | inr now ↦ inr (batch_says k m now.datagram now.listed now.spelled) ]

  pub batch_fits : WorldFits genesis w → WorldFits genesis (with_sent w batch)
  batch_fits f = record {
    sound = sound_after genesis w.sent batch w.states f.sound f.states batch_signed n batch_cases;
    states = fits_after genesis w.sent batch w.states f.sound f.states batch_signed n batch_cases;
  }

  -- the images of other nodes go on covering
  pub covers_elsewhere : (k : ℕ) (s : AcceptorState) → (n ≡ k → ⊥) → CoversSent genesis w.sent k s
      → CoversSent genesis (w.sent ++ batch) k s
  covers_elsewhere k s other covers =
      covers_both genesis w.sent batch k s covers
      (λ m now. absurd (other (batch_says k m now.datagram now.listed now.spelled).0))

-- a client's request
pub asked_fits : (genesis : Genesis) (w : PaxosWorld) (d : Datagram) → WorldFits genesis w → IsClientRequest d
    → WorldFits genesis (with_sent w (d ∷ []))
asked_fits genesis w d f a = record {
  sound = sound_after genesis w.sent (d ∷ []) w.states f.sound f.states signed 0 cases;
  states = fits_after genesis w.sent (d ∷ []) w.states f.sound f.states signed 0 cases;
}
  where
    silent : (x : Datagram) → Contains (d ∷ []) x → (k : ℕ) (m : NodeMessage) → Spells (said_by genesis k m) x.bytes → ⊥
    silent x h k m s = asked_is_no_saying genesis d a k m
        (subst (λ (y : Datagram). Spells (said_by genesis k m) y.bytes) (sym (only d x h)) s)

    signed : (x : Datagram) → Contains (d ∷ []) x → (k : ℕ) (m : NodeMessage)
        → Spells (said_by genesis k m) x.bytes → x.from ≡ party.Node k
    signed x h k m s = absurd (silent x h k m s)

    cases : (k : ℕ) (m : NodeMessage) → HasSent genesis (w.sent ++ d ∷ []) k m
        → HasSent genesis w.sent k m ⊎ ((0 ≡ k) × MaySend genesis w.sent (w.states k) m)
    cases k m h = elim (sent_cases genesis w.sent (d ∷ []) k m h)
        [ inl old ↦ inl old | inr now ↦ absurd (silent now.datagram now.listed k m now.spelled) ]

-- another state of one node, which fits
pub with_paxos_fits : (genesis : Genesis) (w : PaxosWorld) (n : ℕ) (new : PaxosState) → WorldFits genesis w
    → PaxosFits genesis w.sent n new → WorldFits genesis (with_paxos w n new)
with_paxos_fits genesis w n new f g = record { sound = f.sound; states = λ k. at k (k == n) refl }
  where
    at : (k : ℕ) (t : Bool) → (k == n) ≡ t → PaxosFits genesis w.sent k (cond t new (w.states k))
    at k true e = subst (λ j. PaxosFits genesis w.sent j new) (sym (eqb-true k n e)) g
    at k false e = f.states k

pub becomes_fits : (genesis : Genesis) (w : PaxosWorld) (n : ℕ) (new : PaxosState) → WorldFits genesis w
    → Becomes genesis w.sent n (w.states n) new → WorldFits genesis (with_paxos w n new)
becomes_fits genesis w n new f b =
    with_paxos_fits genesis w n new f (changes_fit genesis w.sent f.sound n (w.states n) new (f.states n) b)

happens_fits : (genesis : Genesis) (w w' : PaxosWorld) → WorldFits genesis w → Happens genesis w w'
    → WorldFits genesis w'
happens_fits genesis w w' f (sends n batch may) = batch_fits genesis w n batch may f
happens_fits genesis w w' f (asks d a) = asked_fits genesis w d f a
happens_fits genesis w w' f (changes n new c) =
    with_paxos_fits genesis w n new f (change_fits genesis w.sent f.sound n (w.states n) new (f.states n) c)

pub reaches_fits : (genesis : Genesis) (w : PaxosWorld) → IsReachable genesis w → WorldFits genesis w
reaches_fits genesis w begin = start_fits genesis
reaches_fits genesis w' (next {w = w} r h) = happens_fits genesis w w' (reaches_fits genesis w r) h

command_there : (L K : List Command) (i : ℕ) (v : Command) → command_at L i ≡ Some v → i ≤ length K
    → (u : Command) × (command_at K i ≡ Some u)
command_there L K zero v at le = absurd cc
command_there L K (suc k) v at le = entry_at K k (omega arith)

-- a majority keeps each command of a chosen list
module _ (genesis : Genesis) (sent : List Datagram) (sound : Sound genesis sent) (L : List Command)
    (chosen : Chosen genesis sent L) (i : ℕ) (v : Command) (at : command_at L i ≡ Some v) where
  in_snapshot : (state : PaxosState) → Stems genesis sent state → i ≤ state.acceptor.snapshot_position
      → command_at state.done i ≡ Some v
  in_snapshot state s under =
      let u = command_there L state.done i v at (omega (arith, s.snapshot)) in
      u.1 ∙ ap Some (one_chosen genesis sent sound i u.0 v (entry_chosen genesis sent state.done s.done i u.0 u.1)
      (entry_chosen genesis sent L chosen i v at))

  of_vote : (b : BallotValue) → IsAcceptedIn genesis sent (members genesis L i) b i v → (x : Vote)
      → WasSent genesis sent (Accept x) → x.position ≡ i
      → IsBelow b x.ballot ⊎ ((x.ballot ≡ b) × (x.command ≡ v)) → x.command ≡ v
  of_vote b a x was place (inr e) = e.1
  of_vote b a x was place (inl lt) =
      let now : WasSent genesis sent (Accept (vote i x.ballot x.command)) =
      subst (λ j. WasSent genesis sent (Accept (vote j x.ballot x.command))) place was in
      later_value_in genesis sent sound i L chosen
      (omega (arith, command_within L i v at)) b v a x.ballot x.command lt now

  holds : (state : PaxosState) (b : BallotValue) → Stems genesis sent state
      → IsAcceptedIn genesis sent (members genesis L i) b i v
      → Covers state.acceptor (Accepted (vote i b v)) → HoldsCommand state i v
  holds state b s a c =
      elim c.1 [
        | inl under ↦ inl (under, in_snapshot state s under)
        | inr x ↦
            inr (x.0, x.1, x.2, of_vote b a x.0 (s.votes x.0 x.1).0 x.2 x.3)
      ]

  pub kept_by_majority : IsKept genesis sent L i v
      (λ n state. CoversSent genesis sent n state.acceptor × Stems genesis sent state)
  unfolding Chosen
  kept_by_majority =
      let c = chosen i v at in
      record {
        ballot = c.0;
        nodes = c.1.nodes;
        majority = c.1.majority;
        accepted = c.1.accepted;
        held = λ n h state m. holds state c.0 m.1 c.1 (m.0 (Accepted (vote i c.0 v)) (c.1.accepted n h));
      }

-- so do the nodes of a world, as they are
pub kept_in_world : (genesis : Genesis) (w : PaxosWorld) → WorldFits genesis w → (L : List Command)
    → Chosen genesis w.sent L → (i : ℕ) (v : Command) → command_at L i ≡ Some v
    → IsKept genesis w.sent L i v (λ n state. state ≡ w.states n)
kept_in_world genesis w f L chosen i v at =
    let k = kept_by_majority genesis w.sent f.sound L chosen i v at in
    record {
      ballot = k.ballot;
      nodes = k.nodes;
      majority = k.majority;
      accepted = k.accepted;
      held = λ n h state is. subst (λ s. HoldsCommand s i v) (sym is)
          (k.held n h (w.states n) ((f.states n).covers, (f.states n).stems));
    }
