-- What a node holds that has just been revived: what its standing stands for, and what it ran of it.
use Rattle.std.proofs.Common.{◌≡◌, ℕ, zero, suc, ◌+◌, ◌<◌, ◌⊎◌, inl, inr, eqb, List, [], ◌∷◌, ◌++◌, take, drop, length}
use Rattle.std.proofs.Common.{Some, None, slice_get, Contains, refl, ap, sym, ◌∙◌, subst, arith, append_assoc}
use Rattle.std.proofs.Common.{append-nil, length-append}
use Rattle.std.specs.List.{AllByRecursion}
use Rattle.std.proofs.lemmas.Bool.{cases_Bool, eqb-true}
use Rattle.lk_types.specs.Commands.{IsCommand}
use Rattle.lk_types.specs.Geneses.{IsGenesis}
use Rattle.lk_types.proofs.Values.{same_genesis}
use Rattle.lk_disk.specs.Disk.{Disk, other}
use Rattle.lk_disk.specs.declared.device.Side.{Side}
use Rattle.lk_disk.specs.declared.device.Side.TheVariants.{A, B}
use Rattle.lk_store_format.specs.Standings.{HasHeader, StandsFor}
use Rattle.lk_store_format.specs.Values.{HeaderValue, StandingValue}
use Rattle.lk_store_format.specs.declared.stored.Stored.{Stored}
use Rattle.lk_log.specs.Images.{Image, IsDamaged, seen}
use Rattle.lk_log.specs.Rooms.{StaysWithin}
use Rattle.lk_log.specs.StoreValue.{StoreValue, pick, disks}
use Rattle.lk_log.specs.Stores.{Opens, NarrowsOrIsNew, IsWrong}
use Rattle.lk_log.specs.declared.fault.OpenFault.{OpenFault}
use Rattle.lk_log.specs.declared.fault.OpenFault.TheVariants as opening
use Rattle.lk_log.proofs.StoreLaws.{found_live, found_sound, one_standing, opens_found, opens_holds, seen_left}
use Rattle.lk_state.specs.Meanings.{Meaning, KeepsTexts}
use Rattle.lk_state.specs.Packed.{packed}
use Rattle.lk_state.specs.States.{WholeValue, whole_after}
use Rattle.lk_state.proofs.Wholes.{ran-whole_after, states_fit}
use Rattle.lk_agreement_laws.specs.Acceptors.{CoversSent}
use Rattle.lk_agreement_laws.specs.Datagrams.{NodeMessage}
use Rattle.lk_agreement_laws.specs.Chosen.{command_at, Chosen, ChosenAt}
use Rattle.lk_agreement_laws.specs.Nodes.{Stems, PaxosState}
use Rattle.lk_agreement_laws.proofs.Histories.{chosen_push, chosen_fits, chosen_short}
use Rattle.lk_learner.specs.Following.{AgreesWithList}
use Rattle.lk_learner.specs.Learners.{Pair}
use Rattle.lk_learner.proofs.Learnerships.{executed_is}
use Rattle.lk_node_interface.specs.declared.note.Note.{Note}
use Rattle.lk_node.specs.Entries.{EntriesFit}
use Rattle.lk_node_interface.specs.Faults.{fault_number, open_fault, IsNumberOfRevival}
use Rattle.lk_node_interface.specs.declared.fault.ReplicaFault.{ReplicaFault}
use Rattle.lk_node_interface.specs.declared.fault.ReplicaFault.TheVariants as fault
use Rattle.lk_node.specs.Histories.{History, Genesis, Command, Datagram, later, IsLawful}
use Rattle.lk_node.specs.Holdings.{Holding, HoldingFits}
use Rattle.lk_node.specs.Keeping.{ReplicaHolds}
use Rattle.lk_node.specs.Leavings.{header_of, acceptor_of, paxos_of, ImageFits, DisksFit, AllCover}
use Rattle.lk_node.specs.Calls.{LeavesFit, NodeFits}
use Rattle.lk_node.specs.NodeValue.{NodeValue}
use Rattle.lk_recovery.specs.Remembering.{ReplicaRemembers}
use Rattle.lk_recovery.specs.Revivals.{run_from, all_ran, notes_of, relearned, revived, MayRevive, Restores}
use Rattle.lk_recovery.proofs.Reaching.{run_decided, near_revives}
use Rattle.lk_node.specs.BorneOut.{text, IsOfNode, IsBorneOut}
use Rattle.lk_recovery.proofs.Images.{fit_entries, opening_fits, opening_covers}
use Rattle.lk_node.proofs.Nodes.{cons_cases, contains_more, window_is}
use Rattle.lk_node.specs.Reaching.{IsRestorable}

-- nothing more was sent
pub nothing_later : (m : Meaning) (h : History) (n : ℕ) (disks : Side → Disk) → DisksFit m h n disks → (k : ℕ)
    → DisksFit m (later h (take k [])) n disks
nothing_later m h n disks f k =
    subst (λ l. DisksFit m (record { genesis = h.genesis; sent = l; asked = h.asked }) n disks)
    (sym (ap (λ l. h.sent ++ l) (none k) ∙ append-nil h.sent)) f
  where
    none : (k : ℕ) → ◌≡◌ {A = List Datagram} (take k []) []
    none zero = refl
    none (suc k) = refl

-- what is held by an image alone, before anything of it is executed, fits
abbrev pub held_by : (m : Meaning) (h : History) (n : ℕ) (image : Image) → ImageFits m h n image → Holding
held_by m h n image f = record { paxos = paxos_of f.standing f.under; waiting = []; gathered = None }

pub held_fits : (m : Meaning) (h : History) (n : ℕ) (image : Image) (f : ImageFits m h n image)
    → HoldingFits m h n (held_by m h n image f)
held_fits m h n image f = record {
  paxos = record { covers = f.covers; stems = f.stems; term = λ t at. absurd (cc at) };
  waiting = λ r c. absurd (omega (arith, c.1));
  proposals = λ t at. absurd (cc at);
  gathered = λ g at. absurd (cc at);
}

-- where nothing is done, it goes on
pub stands_still : (m : Meaning) (h : History) (n : ℕ) (Shows : Holding → Type 0) (disks : Side → Disk)
    → NodeFits m h n Shows disks → LeavesFit m h n Shows disks [] []
stands_still m h n Shows disks f =
    record {
      holding = f.holding;
      shown = f.shown;
      fits = f.fits;
      may = λ d c. absurd (omega (arith, c.1));
      noted = λ x c. absurd (omega (arith, c.1));
      left = nothing_later m h n disks f.left;
    }

-- ---- lists

-- what each entry of a list has all have
all_at : (P : Command → Type 0) (L : List Command)
    → ((i : ℕ) (v : Command) → command_at L i ≡ Some v → P v) → AllByRecursion P L
all_at P [] f = tt
all_at P (v ∷ L) f = (f (suc zero) v refl, all_at P L later')
  where
    later' : (i : ℕ) (u : Command) → command_at L i ≡ Some u → P u
    later' zero u at = absurd (cc at)
    later' (suc i) u at = f (suc (suc i)) u at

got_behind : (L : List Command) (v : Command) (vs : List Command) → slice_get (L ++ v ∷ vs) (length L) ≡ Some v
got_behind [] v vs = refl
got_behind (u ∷ L) v vs = got_behind L v vs

before_all : (L vs : List Command) → take (length L) (L ++ vs) ≡ L
before_all [] vs = refl
before_all (u ∷ L) vs = ap (λ (l : List Command). u ∷ l) (before_all L vs)

behind_all : (L vs : List Command) → drop (length L) (L ++ vs) ≡ vs
behind_all [] vs = refl
behind_all (u ∷ L) vs = behind_all L vs

among_all : (n : ℕ) (ps : List Pair) (p : Pair) → Contains (drop n ps) p → Contains ps p
among_all zero ps p h = h
among_all (suc n) [] p h = h
among_all (suc n) (q ∷ qs) p h = contains_more q qs p (among_all n qs p h)

one_more : (L : List Command) (v : Command) → length (L ++ v ∷ []) ≡ length L + 1
one_more L v = length-append L (v ∷ [])

-- ---- what is run after a chosen list

module _ (m : Meaning) (genesis : Genesis) where
  sums_behind : (L vs : List Command) → all_ran m vs (whole_after m genesis L) ≡ whole_after m genesis (L ++ vs)
  sums_behind L [] = ap (whole_after m genesis) (sym (append-nil L))
  sums_behind L (v ∷ vs) =
      ap (all_ran m vs) (ran-whole_after m genesis L v) ∙ sums_behind (L ++ v ∷ []) vs
      ∙ ap (whole_after m genesis) (append_assoc L (v ∷ []) vs)

module _ (m : Meaning) (h : History) (lawful : IsLawful m h) where
  -- pairs that are chosen, run in order, make a longer chosen list
  run_chosen : (L : List Command) (ps : List Pair) → Chosen h.genesis h.sent L
      → ((i : ℕ) (v : Command) → Contains ps (i, v) → ChosenAt h.genesis h.sent i v)
      → Chosen h.genesis h.sent (L ++ run_from (length L) ps)
  run_chosen L [] chosen at = subst (Chosen h.genesis h.sent) (sym (append-nil L)) chosen
  run_chosen L (p ∷ ps) chosen at = elim (cases_Bool (eqb p.0 (length L + 1))) [
    | inl next ↦
        let is = eqb-true p.0 (length L + 1) next in
        let place : p.0 ≡ suc (length L) = omega (arith, is) in
        let here : ChosenAt h.genesis h.sent (suc (length L)) p.1 =
        subst (λ (i : ℕ). ChosenAt h.genesis h.sent i p.1) place (at p.0 p.1 (0, omega arith, refl)) in
        let more = run_chosen (L ++ p.1 ∷ []) ps (chosen_push h.genesis h.sent lawful.sound L p.1 chosen here)
        (λ i v c. at i v (contains_more p ps (i, v) c)) in
        let moved : Chosen h.genesis h.sent ((L ++ p.1 ∷ []) ++ run_from (length L + 1) ps) =
        subst (λ (e : ℕ). Chosen h.genesis h.sent ((L ++ p.1 ∷ []) ++ run_from e ps)) (one_more L p.1) more in
        rw next (subst (Chosen h.genesis h.sent) (append_assoc L (p.1 ∷ []) (run_from (length L + 1) ps)) moved)
    | inr other ↦ rw other (subst (Chosen h.genesis h.sent) (sym (append-nil L)) chosen)
  ]

  -- the list bears out each note
  notes_borne : (n : ℕ) (L vs : List Command) → Chosen h.genesis h.sent (L ++ vs) → (x : Note)
      → Contains (notes_of n (length L) vs) x → IsOfNode x × IsBorneOut m h x
  notes_borne n L [] chosen x c = absurd (omega (arith, c.1))
  notes_borne n L (v ∷ vs) chosen x c = elim (cons_cases _ (notes_of n (length L + 1) vs) x c) [
    | inl same ↦
        let place : length L + 1 ≡ suc (length L) = omega arith in
        subst (λ (y : Note). IsOfNode y × IsBorneOut m h y) same (
          tt,
          record {
            under = L ++ v ∷ vs;
            chosen = chosen;
            bears = ap (command_at (L ++ v ∷ vs)) place ∙ got_behind L v vs;
          },
        )
    | inr later' ↦
        notes_borne n (L ++ v ∷ []) vs (subst (Chosen h.genesis h.sent) (sym (append_assoc L (v ∷ []) vs)) chosen) x
        (subst (λ (e : ℕ). Contains (notes_of n e vs) x) (sym (one_more L v)) later')
  ]

-- a learner that has learned again follows the list with what it ran
follows_again : (m : Meaning) (genesis : Genesis) (under : List Command) (w : WholeValue) (ps : List Pair)
    → w ≡ whole_after m genesis under
    → AgreesWithList m genesis (under ++ run_from w.roster.executed ps) (relearned m w ps).pairs (relearned m w ps)
follows_again m genesis under w ps sums =
    let vs : List Command = run_from w.roster.executed ps in
    let e : w.roster.executed ≡ length under = executed_is m genesis under w sums in
    let n : length (under ++ vs) ≡ length under + length vs = length-append under vs in
    record {
      sums = ap (all_ran m vs) sums ∙ sums_behind m genesis under vs;
      within = omega (arith, e, n);
      text = ap packed sums ∙ ap (λ (L : List Command). packed (whole_after m genesis L))
          (sym (ap (λ (i : ℕ). take i (under ++ vs)) e ∙ before_all under vs));
      retained = sym (ap (λ (i : ℕ). drop i (under ++ vs)) e ∙ behind_all under vs);
      known = λ p h. h;
      kept = λ p h. h;
    }

-- ---- the call

-- what its entries stand for, the disks of each image that was there fit, so does what the node holds
module _ (m : Meaning) (IsText : List ℕ → Type 0) (keeps : KeepsTexts IsText m) (h : History) (n : ℕ)
    (old : Side → Disk) (store : StoreValue) (s : StandingValue) (node : NodeValue) (notes : List Note)
    (lawful : IsLawful m h) (fits : IsGenesis h.genesis)
    (o : Opens (seen old) (header_of h.genesis n) (text m h.genesis []) store s)
    (r : Restores m IsText (header_of h.genesis n) s node notes) (before : DisksFit m h n old)
    (named : store.header ≡ header_of h.genesis n) where
  entries : EntriesFit m h n o.entries
  entries = opens_found (EntriesFit m h n) old (header_of h.genesis n) (text m h.genesis []) store s o
      (fit_entries m h n old before)

  same : entries.standing ≡ s
  same = one_standing o.entries entries.standing s entries.stands o.stands

  abbrev under : List Command
  under = entries.under

  stems : Stems h.genesis h.sent (paxos_of s under)
  stems = subst (λ (t : StandingValue). Stems h.genesis h.sent (paxos_of t under)) same entries.stems

  place : length under ≡ s.position
  place = entries.position ∙ ap (λ (t : StandingValue). t.position) same

  -- what was unpacked sums up the list
  unpacked : r.whole ≡ whole_after m h.genesis under
  unpacked =
      let snapshot : s.snapshot ≡ text m h.genesis under = sym (ap (λ (t : StandingValue). t.snapshot) same)
      ∙ entries.snapshot in
      let whole = states_fit IsText m keeps h.genesis under fits
      (all_at IsCommand under (λ i v at. (chosen_fits h.genesis h.sent under stems.done i v at).1))
      (chosen_short h.genesis h.sent under stems.done) in
      r.only (whole_after m h.genesis under) (whole, snapshot)

  at : r.whole.roster.executed ≡ length under
  at = executed_is m h.genesis under r.whole unpacked

  abbrev ran : List Command
  ran = run_from r.whole.roster.executed s.pairs

  chosen : Chosen h.genesis h.sent (under ++ ran)
  chosen = subst (λ (e : ℕ). Chosen h.genesis h.sent (under ++ run_from e s.pairs)) (sym at)
      (run_chosen m h lawful under s.pairs stems.done stems.pairs)

  abbrev paxos : PaxosState
  paxos =
      record { acceptor = acceptor_of s; done = under ++ ran; pairs = (relearned m r.whole s.pairs).pairs; term = None }

  abbrev holding : Holding
  holding = record { paxos = paxos; waiting = []; gathered = None }

  holding_fits : HoldingFits m h n holding
  holding_fits =
      let longer : length (under ++ ran) ≡ length under + length ran = length-append under ran in
      record {
        paxos = record {
          covers = subst (λ (t : StandingValue). CoversSent h.genesis h.sent n (acceptor_of t)) same entries.covers;
          stems = record {
            votes = stems.votes;
            done = chosen;
            snapshot = omega (arith, longer, place);
            pairs = λ i v c. stems.pairs i v (among_all (length ran) s.pairs (i, v) c);
          };
          term = λ t is. absurd (cc is);
        };
        waiting = λ q c. absurd (omega (arith, c.1));
        proposals = λ t is. absurd (cc is);
        gathered = λ g is. absurd (cc is);
      }

  -- what the pairs reach is executed
  told : IsRestorable h.genesis.alpha s [] (revived m (header_of h.genesis n) s r.whole)
  told =
      let sums = (follows_again m h.genesis under r.whole s.pairs unpacked).sums in
      let far : (relearned m r.whole s.pairs).whole.roster.executed ≡ length (under ++ ran) =
      executed_is m h.genesis (under ++ ran) (relearned m r.whole s.pairs).whole sums in
      let longer : length (under ++ ran) ≡ length under + length ran = length-append under ran in
      record {
        near = tt;
        tells = record {
          some = fits.1.0;
          votes_ahead = refl;
          window = window_is m h.genesis (under ++ ran) (relearned m r.whole s.pairs).whole sums;
          above = omega (arith, far, longer, place);
          reached = λ i low most.
              let from : r.whole.roster.executed < i = omega (arith, low, at, place) in
              run_decided r.whole.roster.executed s.pairs i from (omega (arith, most, far, longer, at));
          kept = λ p c. (p.1, among_all (length ran) s.pairs p c);
        };
      }

  shown : ReplicaHolds m node store h.genesis n holding
  shown = subst (λ (k : NodeValue). ReplicaHolds m k store h.genesis n holding) (sym r.node_is) (record {
    whose = refl;
    keeps = record {
      entries = o.entries;
      loose = [];
      holds = opens_holds (seen old) (header_of h.genesis n) (text m h.genesis []) store s o named;
      decided = tt;
      header = o.header;
      standing = s;
      stands = o.stands;
      remembers = refl;
    };
    known = tt;
    held = record {
      acceptor = refl;
      follows = follows_again m h.genesis under r.whole s.pairs unpacked;
      leads = λ k is. absurd (cc is);
      waiting = refl;
      gathered = refl;
    };
    told = told;
  })

  pub revived_goes : DisksFit m h n (disks store)
      → LeavesFit m h n (ReplicaHolds m node store h.genesis n) (disks store) notes []
  revived_goes after = record {
    holding = holding;
    shown = shown;
    fits = holding_fits;
    may = λ d c. absurd (omega (arith, c.1));
    noted = λ x c.
        let k : s.position ≡ length under = sym place in
        let noted : notes ≡ notes_of n (length under) ran = r.notes_are
        ∙ (λ i. notes_of n (k i) (run_from (sym r.may.unpacks.executed i) s.pairs)) in
        notes_borne m h lawful n under ran chosen x (subst (λ (ns : List Note). Contains ns x) noted c);
    left = nothing_later m h n (disks store) after;
  }

-- whatever the disks have been through, the store keeps what the acceptor holds
pub revived_remembers : (m : Meaning) (IsText : List ℕ → Type 0) (genesis : Genesis) (n : ℕ) (old : Side → Disk)
    (store : StoreValue) (s : StandingValue) (node : NodeValue) (notes : List Note)
    → Opens (seen old) (header_of genesis n) (text m genesis []) store s
    → Restores m IsText (header_of genesis n) s node notes → store.header ≡ header_of genesis n
    → ReplicaRemembers node store genesis n
revived_remembers m IsText genesis n old store s node notes o r named =
    subst (λ (k : NodeValue). ReplicaRemembers k store genesis n) (sym r.node_is) (record {
      whose = refl;
      keeps = record {
        entries = o.entries;
        loose = [];
        holds = opens_holds (seen old) (header_of genesis n) (text m genesis []) store s o named;
        decided = tt;
        header = o.header;
        standing = s;
        stands = o.stands;
        remembers = refl;
      };
    })

-- ---- the device that a store gives back

pub picked : (live : Side) (d : Side → Disk) (a b : Disk) → d live ≡ a → d (other live) ≡ b
    → (s : Side) → d s ≡ pick live a b s
picked A d a b here there A = here
picked A d a b here there B = there
picked B d a b here there A = there
picked B d a b here there B = here

-- ---- whose cluster it is

-- a header names one genesis
pub whose_is : (g k : Genesis) (whose : HeaderValue) (n : ℕ) → g.cluster ≡ whose.cluster → g.alpha ≡ whose.alpha
    → g.members ≡ whose.members → whose ≡ header_of k n → g ≡ k
whose_is g k whose n cluster alpha members is =
    same_genesis g k (cluster ∙ ap (λ (w : HeaderValue). w.cluster) is) (alpha ∙ ap (λ (w : HeaderValue). w.alpha) is)
    (members ∙ ap (λ (w : HeaderValue). w.members) is)

pub own_header : (g : Genesis) (whose : HeaderValue) → g.cluster ≡ whose.cluster → g.alpha ≡ whose.alpha
    → g.members ≡ whose.members → whose ≡ header_of g whose.node
own_header g whose cluster alpha members =
    λ i. record { node = whose.node; cluster = sym cluster i; alpha = sym alpha i; members = sym members i }

-- ---- what an opening leaves, under this header

module _ (m : Meaning) (genesis : Genesis) (n : ℕ) (whose : HeaderValue) (zero' : List ℕ)
    (is : whose ≡ header_of genesis n) (begins : zero' ≡ text m genesis []) where
  narrowed : (old new : Side → Disk) → NarrowsOrIsNew old new whose zero'
      → NarrowsOrIsNew old new (header_of genesis n) (text m genesis [])
  narrowed old new narrows =
      subst (λ (w : HeaderValue). NarrowsOrIsNew old new w (text m genesis [])) is
      (subst (NarrowsOrIsNew old new whose) begins narrows)

  pub opened : (old : Side → Disk) (store : StoreValue) (s : StandingValue) → Opens (seen old) whose zero' store s
      → Opens (seen old) (header_of genesis n) (text m genesis []) store s
  opened old store s o = subst (λ (w : HeaderValue). Opens (seen old) w (text m genesis []) store s) is
      (subst (λ (t : List ℕ). Opens (seen old) whose t store s) begins o)

  pub opening_covers_as : (old new : Side → Disk) (x : NodeMessage) → NarrowsOrIsNew old new whose zero'
      → AllCover m genesis n old x → AllCover m genesis n new x
  opening_covers_as old new x narrows every = opening_covers m genesis n old new x (narrowed old new narrows) every

pub opening_fits_as : (m : Meaning) (h : History) (n : ℕ) (whose : HeaderValue) (zero' : List ℕ)
    → whose ≡ header_of h.genesis n → zero' ≡ text m h.genesis [] → (old new : Side → Disk)
    → NarrowsOrIsNew old new whose zero' → DisksFit m h n old → DisksFit m h n new
opening_fits_as m h n whose zero' is begins old new narrows before =
    opening_fits m h n old new (narrowed m h.genesis n whose zero' is begins old new narrows) before

-- the device that a store gives back has its disks
pub given_fit : (m : Meaning) (h : History) (n : ℕ) (store : StoreValue) (d : Side → Disk)
    → d store.live ≡ store.live_disk → d (other store.live) ≡ store.other_disk
    → DisksFit m h n (disks store) → DisksFit m h n d
given_fit m h n store d here there =
    subst (DisksFit m h n) (λ i s. sym (picked store.live d store.live_disk store.other_disk here there s) i)

pub given_cover : (m : Meaning) (genesis : Genesis) (n : ℕ) (x : NodeMessage) (store : StoreValue) (d : Side → Disk)
    → d store.live ≡ store.live_disk → d (other store.live) ≡ store.other_disk → AllCover m genesis n (disks store) x
    → AllCover m genesis n d x
given_cover m genesis n x store d here there =
    subst (λ (e : Side → Disk). AllCover m genesis n e x)
    (λ i s. sym (picked store.live d store.live_disk store.other_disk here there s) i)

pub given_room : (most : ℕ) (old : Side → Disk) (store : StoreValue) (d : Side → Disk) → d store.live ≡ store.live_disk
    → d (other store.live) ≡ store.other_disk → StaysWithin most old (disks store) → StaysWithin most old d
given_room most old store d here there =
    subst (StaysWithin most old) (λ i s. sym (picked store.live d store.live_disk store.other_disk here there s) i)

-- ---- disks that fit restart

-- a node may restart from what fits
pub fit_revives : (m : Meaning) (IsText : List ℕ → Type 0) (keeps : KeepsTexts IsText m) (h : History) (n : ℕ)
    (es : List Stored) (s : StandingValue) → IsGenesis h.genesis → EntriesFit m h n es → StandsFor es s
    → (w : WholeValue) × MayRevive IsText (header_of h.genesis n) s w
fit_revives m IsText keeps h n es s fits f stands =
    let same : f.standing ≡ s = one_standing es f.standing s f.stands stands in
    let w : WholeValue = whole_after m h.genesis f.under in
    let whole = states_fit IsText m keeps h.genesis f.under fits
    (all_at IsCommand f.under (λ i v at. (chosen_fits h.genesis h.sent f.under f.stems.done i v at).1))
    (chosen_short h.genesis h.sent f.under f.stems.done) in (
      w,
      subst (λ (t : StandingValue). MayRevive IsText (header_of h.genesis n) t w) same
          (near_revives IsText (header_of h.genesis n) f.standing w
          (record {
            packs = (whole, f.snapshot);
            executed = executed_is m h.genesis f.under w refl ∙ f.position;
            sets = window_is m h.genesis f.under w refl;
          }) f.stands.pairs_rise f.near),
    )

-- so what was opened does not refuse as damaged
pub restored_number : (m : Meaning) (IsText : List ℕ → Type 0) (keeps : KeepsTexts IsText m) (h : History) (n : ℕ)
    (old : Side → Disk) (whose : HeaderValue) (store : StoreValue) (s : StandingValue) (f : ReplicaFault)
    → IsGenesis h.genesis
    → whose ≡ header_of h.genesis n → Opens (seen old) (header_of h.genesis n) (text m h.genesis []) store s
    → DisksFit m h n old → (f ≡ fault.Damaged) ⊎ (f ≡ fault.NoMemory)
    → (f ≡ fault.Damaged → (w : WholeValue) → MayRevive IsText whose s w → ⊥) → IsNumberOfRevival (fault_number f)
restored_number m IsText keeps h n old whose store s f fits is o before only none = elim only [
  | inl damaged ↦
      let mine : EntriesFit m h n o.entries =
      opens_found (EntriesFit m h n) old (header_of h.genesis n) (text m h.genesis []) store s o
      (fit_entries m h n old before) in
      let may = fit_revives m IsText keeps h n o.entries s fits mine o.stands in
      absurd (none damaged may.0 (subst (λ (w : HeaderValue). MayRevive IsText w s may.0) (sym is) may.1))
  | inr memory ↦ inr (inl (ap fault_number memory))
]

-- they are not damaged
pub never_damaged : (m : Meaning) (h : History) (n : ℕ) (disks : Side → Disk) → DisksFit m h n disks
    → IsDamaged (seen disks) → ⊥
never_damaged m h n disks fits damaged =
    let f = (fits (seen disks) (seen_left disks)).stands in
    found_sound (seen disks) (header_of h.genesis n) (text m h.genesis []) f.entries f.found damaged

-- nor another's
pub never_wrong : (m : Meaning) (h : History) (n : ℕ) (disks : Side → Disk) → DisksFit m h n disks
    → IsWrong (seen disks) (header_of h.genesis n) → ⊥
never_wrong m h n disks fits wrong =
    let f = (fits (seen disks) (seen_left disks)).stands in
    wrong.2 (subst (λ (es : List Stored). HasHeader es (header_of h.genesis n))
    (found_live (seen disks) (header_of h.genesis n) (text m h.genesis []) f.entries wrong.0 wrong.1 f.found) f.header)

-- any other error of an opening is one of these
pub open_number : (f : OpenFault) → (f ≡ opening.Damaged → ⊥) → (f ≡ opening.WrongStore → ⊥)
    → IsNumberOfRevival (fault_number (open_fault f))
open_number opening.Device sound own = inl refl
open_number opening.NoMemory sound own = inr (inl refl)
open_number opening.Damaged sound own = absurd (sound refl)
open_number opening.WrongStore sound own = absurd (own refl)

-- ---- which refusal it is

pub wrong_only : (f : OpenFault) → fault_number (open_fault f) ≡ 10 → f ≡ opening.WrongStore
wrong_only opening.Device e = absurd (omega (arith, e))
wrong_only opening.NoMemory e = absurd (omega (arith, e))
wrong_only opening.Damaged e = absurd (omega (arith, e))
wrong_only opening.WrongStore e = refl

pub damaged_only : (f : ReplicaFault) → (f ≡ fault.Damaged) ⊎ (f ≡ fault.NoMemory)
    → fault_number f ≡ 9 → f ≡ fault.Damaged
damaged_only f (inl damaged) nine = damaged
damaged_only f (inr memory) nine = let e : 8 ≡ 9 = sym (ap fault_number memory) ∙ nine in absurd (omega (arith, e))
