-- A node that gathers a part goes on, and so it does with the state of another chosen list that it installs.
use Rattle.std.proofs.Common.{◌≡◌, ◌∙◌, ℕ, zero, suc, ◌≤◌, inl, inr, Bool, ltb, List, [], ◌∷◌, length, Option, Some}
use Rattle.std.proofs.Common.{None, refl, sym, ap, subst, arith}
use Rattle.std.specs.List.{AllByRecursion}
use Rattle.std.proofs.lemmas.Bool.{cases_lt, lt-ltb}
use Rattle.lk_types.specs.Commands.{IsCommand}
use Rattle.lk_types.specs.Geneses.{IsGenesis}
use Rattle.lk_types.proofs.Values.{same_genesis}
use Rattle.lk_types.specs.declared.entry.Entry.{Entry}
use Rattle.lk_types.specs.declared.entry.Entry.TheVariants as entry
use Rattle.lk_messages.specs.Values.{PartValue}
use Rattle.lk_messages.specs.declared.message.NodeMessage.TheVariants as kinds
use Rattle.lk_agreement_laws.specs.Changes.{with_done, installs}
use Rattle.lk_agreement_laws.specs.Chosen.{Command, command_at, Chosen, ChosenAt}
use Rattle.lk_agreement_laws.specs.Datagrams.{HasSent}
use Rattle.lk_agreement_laws.specs.Nodes.{Pair, PaxosState}
use Rattle.lk_agreement_laws.specs.Snapshots.{IsSlice}
use Rattle.lk_agreement_laws.specs.Soundness.{Sound}
use Rattle.lk_agreement_laws.proofs.Histories.{command_within, entry_chosen, one_chosen, chosen_at_fits, chosen_fits}
use Rattle.lk_agreement_laws.proofs.Histories.{chosen_short, change_fits, filter_from, whole_slice}
use Rattle.lk_store_format.specs.Values.{HeaderValue}
use Rattle.lk_state.specs.Meanings.{Meaning, KeepsTexts}
use Rattle.lk_state.specs.States.{WholeValue, SumsUp, whole_after}
use Rattle.lk_state.proofs.Wholes.{one_packed, states_fit}
use Rattle.lk_acceptor.specs.AcceptorValue.{AcceptorValue}
use Rattle.lk_leader.specs.LedTerms.{AgreesWithTerm}
use Rattle.lk_leader.proofs.Leaderships.{later_leads}
use Rattle.lk_learner.specs.Installing.{with_gathered, hearing, MayInstall, pairs_above, installed, Installs}
use Rattle.lk_learner.specs.Learners.{LearnerValue, GatheredValue, executed, alpha}
use Rattle.lk_learner.proofs.Learnerships.{filter_has, executed_is, heard_front, installed_follows}
use Rattle.lk_node_interface.specs.Outboxes.{OutboxValue}
use Rattle.lk_node.specs.Histories.{History, Genesis, Datagram, text}
use Rattle.lk_node.specs.Holdings.{Holding, HoldingFits}
use Rattle.lk_node.specs.Installing.{GathersPart}
use Rattle.lk_node.specs.Keeping.{IsKnown, IsHeld}
use Rattle.lk_node.specs.Learning.{with_learner}
use Rattle.lk_node.specs.Leavings.{header_of}
use Rattle.lk_node.specs.Nearness.{AreNear}
use Rattle.lk_node.specs.NodeValue.{NodeValue}
use Rattle.lk_node.specs.SafeSteps.{ActsSafely}
use Rattle.lk_node.proofs.Changing.{IsFollowed, change_goes_on}
use Rattle.lk_node.proofs.SafeSteps.{rests_here, then_goes_on}

-- ---- an acceptor and a learner stay near each other

pub hearing_near : (p : PartValue) (a : AcceptorValue) (l : LearnerValue) → AreNear a l → AreNear a (hearing p l)
hearing_near p a l n = record { alpha_is = n.alpha_is; snapshot = n.snapshot; votes = n.votes }

pub forgotten_near : (a : AcceptorValue) (l new : LearnerValue) → AreNear a l → new ≡ with_gathered None l
    → AreNear a new
forgotten_near a l new n is =
    subst (AreNear a) (sym is) (record { alpha_is = n.alpha_is; snapshot = n.snapshot; votes = n.votes })

pub gathered_near : (IsText : List ℕ → Type 0) (went : Bool) (p : PartValue) (a : AcceptorValue) (l new : LearnerValue)
    → AreNear a l → Installs IsText went (hearing p l) new → AreNear a new
gathered_near IsText went p a l new n (inl went_on) =
    let w : WholeValue = went_on.1.0 in
    let may = went_on.1.1 in
    subst (AreNear a) (sym went_on.1.2) (record {
      alpha_is = n.alpha_is ∙ sym may.unpacks.sets;
      snapshot = omega (arith, n.snapshot, may.above, may.unpacks.executed);
      votes = λ v c. omega (arith, n.votes v c, may.above, may.unpacks.executed, may.unpacks.sets);
    })
gathered_near IsText went p a l new n (inr (inl thrown)) =
    subst (AreNear a) (sym thrown.3) (record { alpha_is = n.alpha_is; snapshot = n.snapshot; votes = n.votes })
gathered_near IsText went p a l new n (inr (inr none)) = subst (AreNear a) (sym none.2) (hearing_near p a l n)

-- ---- what is gathered changes

-- the same, with this gathered in place of what was
module _ (m : Meaning) (h : History) (n : ℕ) (node : NodeValue) (x : Holding) (held : IsHeld m node h.genesis x)
    (fits : HoldingFits m h n x)
    (g : Option GatheredValue)
    (slices : (k : GatheredValue) → g ≡ Some k
    → IsSlice h.genesis h.sent (text m h.genesis) k.position k.total 0 k.bytes) where
  gathering_followed : IsFollowed m h n x.paxos (with_learner node (with_gathered g node.learner))
  gathering_followed = record {
    holding = record { paxos = x.paxos; waiting = x.waiting; gathered = g };
    held = record {
      acceptor = held.acceptor;
      follows = record {
        sums = held.follows.sums;
        within = held.follows.within;
        text = held.follows.text;
        retained = held.follows.retained;
        known = held.follows.known;
        kept = held.follows.kept;
      };
      leads = held.leads;
      waiting = held.waiting;
      gathered = refl;
    };
    fits = record { paxos = fits.paxos; waiting = fits.waiting; proposals = fits.proposals; gathered = slices };
    grows = record { acceptor = refl; term = λ t at. (t, at, refl, λ p c. c) };
    knows = λ e k. k;
  }

-- a part was said by the node
abbrev Told : ℕ → PartValue → History → Type 0
Told from p h = HasSent h.genesis h.sent from (kinds.Part p)

hearing_goes_on : (m : Meaning) (from : ℕ) (p : PartValue) (node : NodeValue) (out : OutboxValue)
    → ActsSafely m (Told from p) node (with_learner node (hearing p node.learner)) out out
hearing_goes_on m from p node out =
    let l : LearnerValue = node.learner in
    change_goes_on m (Told from p) node (with_learner node (hearing p l)) out refl refl (λ h n loose s heard.
    gathering_followed m h n node s.holding s.held s.fits (hearing p l).gathered
    (heard_front h.genesis h.sent (text m h.genesis) s.lawful.sound p (s.lawful.parts from p heard)
    (executed l) l.gathered (λ k is. s.fits.gathered k (s.held.gathered ∙ is))))

pub throws_goes_on : (m : Meaning) (Heard : History → Type 0) (node : NodeValue) (out : OutboxValue)
    → ActsSafely m Heard node (with_learner node (with_gathered None node.learner)) out out
throws_goes_on m Heard node out =
    change_goes_on m Heard node
    (with_learner node (with_gathered None node.learner)) out refl refl (λ h n loose s heard.
    gathering_followed m h n node s.holding s.held s.fits None (λ k is. absurd (cc is)))

-- ---- a state is installed

below_some : (L : List Command) (i : ℕ) → 1 ≤ i → i ≤ length L → (v : Command) × (command_at L i ≡ Some v)
below_some [] i some within = absurd (omega (arith, some, within))
below_some (v ∷ L) zero some within = absurd (omega (arith, some))
below_some (v ∷ L) (suc zero) some within = (v, refl)
below_some (v ∷ L) (suc (suc k)) some within = below_some L (suc k) (omega arith) (omega (arith, within))

-- what each command of a list has all have
all_at : (P : Command → Type 0) (L : List Command)
    → ((i : ℕ) (v : Command) → command_at L i ≡ Some v → P v) → AllByRecursion P L
all_at P [] f = tt
all_at P (v ∷ L) f = (f (suc zero) v refl, all_at P L later')
  where
    later' : (i : ℕ) (u : Command) → command_at L i ≡ Some u → P u
    later' zero u at = absurd (cc at)
    later' (suc i) u at = f (suc (suc i)) u at

-- a node that holds what fits, and installs the state of a chosen list that reaches as far, holds what fits, and may
-- still send what it could
module _ (m : Meaning) (h : History) (n : ℕ) (node : NodeValue) (x : Holding) (sound : Sound h.genesis h.sent)
    (held : IsHeld m node h.genesis x) (fits : HoldingFits m h n x)
    (L : List Command) (w : WholeValue) (chosen : Chosen h.genesis h.sent L) (sums : SumsUp m h.genesis L w)
    (farther : executed node.learner ≤ length L)
    (window : length w.roster.sets ≡ alpha node.learner) where
  far : w.roster.executed ≡ length L
  far = executed_is m h.genesis L w sums

  ran : executed node.learner ≡ length x.paxos.done
  ran = executed_is m h.genesis x.paxos.done node.learner.whole held.follows.sums

  abbrev rest : List Pair
  rest = pairs_above w.roster.executed x.paxos.pairs

  abbrev paxos : PaxosState
  paxos = with_done x.paxos L rest

  -- what was decided at a position that L reaches stands there
  stands : (i : ℕ) (v : Command) → ChosenAt h.genesis h.sent i v → i ≤ length L → command_at L i ≡ Some v
  stands i v at within =
      let there = below_some L i (chosen_at_fits h.genesis h.sent i v at).0.0 within in
      there.1 ∙ ap Some (one_chosen h.genesis h.sent sound i there.0 v
      (entry_chosen h.genesis h.sent L chosen i there.0 there.1) at)

  knows : (e : Entry) → IsKnown x.paxos e → IsKnown paxos e
  knows (entry.Promise b) k = absurd k
  knows (entry.Vote y) k = absurd k
  knows (entry.Decided i v) k = elim (cases_lt (length L) i) [
    | inl above ↦ elim k [
      | inl pair ↦ inl (filter_has (λ (q : Pair). ltb w.roster.executed q.0) x.paxos.pairs (i, v) pair
          (lt-ltb w.roster.executed i (omega (arith, above, far))))
      | inr at ↦ absurd (omega (arith, above, farther, ran, command_within x.paxos.done i v at))
    ]
    | inr within ↦ inr (stands i v
        (elim k [
          | inl pair ↦ fits.paxos.stems.pairs i v pair
          | inr at ↦
              entry_chosen h.genesis h.sent x.paxos.done fits.paxos.stems.done i v at
        ]) within)
  ]

  install_followed : IsFollowed m h n x.paxos (with_learner node (installed w node.learner))
  install_followed = record {
    holding = record { paxos = paxos; waiting = x.waiting; gathered = None };
    held = record {
      acceptor = held.acceptor;
      follows = installed_follows m h.genesis x.paxos.done L x.paxos.pairs node.learner w held.follows sums;
      leads = λ k at.
          let t = held.leads k at in (
            t.0,
            t.1,
            subst (λ (a : ℕ). AgreesWithTerm w.roster.executed a t.0 k) (sym window)
                (later_leads (executed node.learner) w.roster.executed (alpha node.learner) t.0 k
                (omega (arith, farther, far)) t.2),
          );
      waiting = held.waiting;
      gathered = refl;
    };
    fits = record {
      paxos = change_fits h.genesis h.sent sound n x.paxos paxos fits.paxos
          (installs L rest chosen (omega (arith, fits.paxos.stems.snapshot, farther, ran))
          (λ p c. filter_from (λ (q : Pair). ltb w.roster.executed q.0) x.paxos.pairs p c));
      waiting = fits.waiting;
      proposals = fits.proposals;
      gathered = λ g at. absurd (cc at);
    };
    grows = record { acceptor = refl; term = λ t at. (t, at, refl, λ p c. c) };
    knows = knows;
  }

-- how the cluster of the node began is in its range
abbrev pub BeganWell : NodeValue → Type 0
BeganWell node = (genesis : Genesis) (n : ℕ) → node.header ≡ header_of genesis n → IsGenesis genesis

pub began_well : (own genesis : Genesis) (whose : HeaderValue) (n : ℕ) → own.cluster ≡ whose.cluster
    → own.alpha ≡ whose.alpha → own.members ≡ whose.members → IsGenesis own → whose ≡ header_of genesis n
    → IsGenesis genesis
began_well own genesis whose n cluster alpha_is members fits is =
    subst IsGenesis (same_genesis own genesis (cluster ∙ ap (λ (w : HeaderValue). w.cluster) is)
    (alpha_is ∙ ap (λ (w : HeaderValue). w.alpha) is) (members ∙ ap (λ (w : HeaderValue). w.members) is)) fits

-- the state of a text that is gathered is that of a chosen list
module _ (m : Meaning) (IsText : List ℕ → Type 0) (keeps : KeepsTexts IsText m) (genesis : Genesis)
    (sent : List Datagram) (began : IsGenesis genesis) (l : LearnerValue) (w : WholeValue) (may : MayInstall IsText l w)
    (slice : IsSlice genesis sent (text m genesis) may.gathered.position may.gathered.total 0 may.gathered.bytes) where
  pub installed_sums : (L : List Command) × Chosen genesis sent L
      × (length L ≡ may.gathered.position) × SumsUp m genesis L w
  installed_sums =
      let g : GatheredValue = may.gathered in
      let found = whole_slice genesis sent (text m genesis) g.position g.total g.bytes slice may.has.whole in
      let L : List Command = found.0 in
      let whole = states_fit IsText m keeps genesis L began
      (all_at IsCommand L (λ i v at. (chosen_fits genesis sent L found.1 i v at).1))
      (chosen_short genesis sent L found.1) in
      (L, found.1, found.2, one_packed IsText g.bytes w (whole_after m genesis L) may.unpacks.packs (whole, found.3))

installs_goes_on : (m : Meaning) (Heard : History → Type 0) (IsText : List ℕ → Type 0) → KeepsTexts IsText m
    → (w : WholeValue) (node : NodeValue) (out : OutboxValue) → BeganWell node → MayInstall IsText node.learner w
    → ActsSafely m Heard node (with_learner node (installed w node.learner)) out out
installs_goes_on m Heard IsText keeps w node out began may =
    let g : GatheredValue = may.gathered in
    change_goes_on m Heard node (with_learner node (installed w node.learner)) out refl refl (λ h n loose s heard.
    let slice = s.fits.gathered g (s.held.gathered ∙ may.has.gathered) in
    let found = installed_sums m IsText keeps h.genesis h.sent (began h.genesis n s.whose) node.learner w may slice in
    install_followed m h n node s.holding s.lawful.sound s.held s.fits found.0 w found.1 found.3
    (omega (arith, may.above, found.2)) may.unpacks.sets)

-- ---- a part is heard

pub gathers_goes_on : (m : Meaning) (from : ℕ) (IsText : List ℕ → Type 0) → KeepsTexts IsText m
    → (went : Bool) (p : PartValue) (old new : NodeValue) (out : OutboxValue) → BeganWell old
    → GathersPart IsText went p old new
    → ActsSafely m (Told from p) old new out out
gathers_goes_on m from IsText keeps went p old new out began k =
    let heard : NodeValue = with_learner old (hearing p old.learner) in
    subst (λ (node : NodeValue). ActsSafely m (Told from p) old node out out) (sym k.2)
    (then_goes_on m (Told from p) old heard (with_learner old k.0) out out out (hearing_goes_on m from p old out)
    (elim k.1 [
      | inl went_on ↦ subst (λ (l : LearnerValue). ActsSafely m (Told from p) heard (with_learner old l) out out)
          (sym went_on.1.2) (installs_goes_on m (Told from p) IsText keeps went_on.1.0 heard out began went_on.1.1)
      | inr (inl thrown) ↦ subst (λ (l : LearnerValue). ActsSafely m (Told from p) heard (with_learner old l) out out)
          (sym thrown.3) (throws_goes_on m (Told from p) heard out)
      | inr (inr none) ↦ subst (λ (l : LearnerValue). ActsSafely m (Told from p) heard (with_learner old l) out out)
          (sym none.2) (rests_here m (Told from p) heard out)
    ]))
