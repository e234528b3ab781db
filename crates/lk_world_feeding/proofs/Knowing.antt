-- What is known of a node that is up in a world, and what a rebase that was due leaves of it.
use Rattle.std.proofs.Common.{◌≡◌, ◌∙◌, ◌⊎◌, inl, inr, ℕ, zero, suc, ◌-◌, ◌≤◌, ◌++◌, List, []}
use Rattle.std.proofs.Common.{◌∷◌, Some, length, take}
use Rattle.std.proofs.Common.{refl, ap, sym, subst, arith}
use Rattle.std.proofs.lemmas.Bool.{cases_Bool}
use Rattle.std.proofs.lemmas.List.{length-append, length-drop, length-take-le}
use Rattle.std.specs.List.{AllByRecursion}
use Rattle.lk_codec.proofs.Spellings.{length-eight}
use Rattle.lk_codec.specs.Fields.{eight, four}
use Rattle.lk_types.specs.declared.genesis.Genesis.{Genesis}
use Rattle.lk_types.specs.Commands.{IsCommand}
use Rattle.lk_types.specs.Geneses.{IsGenesis}
use Rattle.lk_agreement_laws.proofs.Histories.{chosen_fits, chosen_short, chosen_take}
use Rattle.lk_agreement_laws.specs.Chosen.{Chosen, Command, command_at}
use Rattle.lk_members.specs.Windows.{roster_after}
use Rattle.lk_state.specs.Packed.{IsWhole, packed, roster_text, sessions_text, sets_text}
use Rattle.lk_state.specs.States.{WholeValue, whole_after}
use Rattle.lk_learner.specs.Unpacking.{Unpacks}
use Rattle.lk_node.proofs.Nodes.{window_is}
use Rattle.lk_state.specs.Meanings.{Meaning}
use Rattle.lk_agreement_laws.specs.Snapshots.{IsSlice}
use Rattle.lk_learner.specs.Learners.{GatheredValue, alpha, executed}
use Rattle.lk_node.specs.BorneOut.{text}
use Rattle.lk_store_format.specs.Entries.{plain}
use Rattle.lk_node.specs.NewBases.{with_snapshot}
use Rattle.lk_node.specs.NodeValue.{NodeValue}
use Rattle.lk_node_interface.specs.Outboxes.{OutboxValue}
use Rattle.lk_progress.specs.Feeding.{MayServe}
use Rattle.lk_replica.specs.ReplicaValue.{ReplicaValue}
use Rattle.lk_sim.specs.WorldStates.{WorldState}
use Rattle.lk_replica.specs.Behaviours.{disks_by}
use Rattle.lk_sim.specs.Traces.{happened}
use Rattle.lk_sim_nodes.specs.SimNodes.{UpFits}
use Rattle.lk_world_progress.proofs.Noting.{genesis_fits, header_fits}
use Rattle.lk_world_progress.proofs.Stepping.{shown, up_fits}
use Rattle.lk_world_progress.specs.Stepping.{Holds, IsLeft, IsUpAs, Shows, behaviour}

-- ---- states

state_executed : (m : Meaning) (genesis : Genesis) (L : List Command)
    → (whole_after m genesis L).roster.executed ≡ length L
unfolding whole_after roster_after
state_executed m genesis L = refl

-- a packed text is not empty
some_text : (x : WholeValue) → 1 ≤ length (packed x)
some_text x = omega (
  arith,
  length-append (roster_text x.roster ++ sessions_text x.sessions) x.text,
  length-append (roster_text x.roster) (sessions_text x.sessions),
  length-append (eight x.roster.executed)
      (sets_text x.roster.sets ++ (four x.roster.greatest ++ eight x.roster.changed)),
  length-eight x.roster.executed,
)

-- ---- a node that is up

module _ (m : Meaning) (IsText : List ℕ → Type 0) (w : WorldState ReplicaValue) (holds : Holds m IsText w) (n : ℕ) where
  -- it knows the members alpha positions ahead
  pub window_alpha : (r : ReplicaValue) → IsUpAs w n r → alpha r.node.learner ≡ w.genesis.alpha
  window_alpha r c = (shown m IsText w holds n r c).1.told.tells.window

  pub has_window : (r : ReplicaValue) → IsUpAs w n r → 1 ≤ alpha r.node.learner
  has_window r c = let tells = (shown m IsText w holds n r c).1.told.tells in omega (arith, tells.some, tells.window)

  -- the genesis is in its range
  pub genesis_valid : (r : ReplicaValue) → IsUpAs w n r → IsGenesis w.genesis
  genesis_valid r c =
      let kept = (shown m IsText w holds n r c).1.keeps in
      genesis_fits w.genesis n
      (header_fits kept.entries (plain kept.loose) w.genesis n kept.header kept.holds.on.fit)

  -- it keeps the commands that it has executed after its snapshot, and that is not empty
  pub may_serve : (r : ReplicaValue) → IsUpAs w n r → MayServe r.node.learner
  may_serve r c =
      let h = shown m IsText w holds n r c in
      let follows = h.1.held.follows in
      let done : List Command = h.0.paxos.done in
      let reach : executed r.node.learner ≡ length done =
      ap (λ (x : WholeValue). x.roster.executed) follows.sums ∙ state_executed m w.genesis done in
      let rest : length r.node.learner.retained ≡ length done - r.node.learner.snapshot_position =
      ap length follows.retained ∙ length-drop r.node.learner.snapshot_position done in
      record {
        reaches = omega (arith, reach, rest, follows.within);
        some = subst (λ (t : List ℕ). 1 ≤ length t) (sym follows.text)
            (some_text (whole_after m w.genesis (take r.node.learner.snapshot_position done)));
      }

-- ---- its snapshot

-- a state after a list of valid commands is valid
abbrev pub StatesFit : Meaning → (List ℕ → Type 0) → Type 0
StatesFit m IsText = (genesis : Genesis) (L : List Command) → IsGenesis genesis → AllByRecursion IsCommand L
    → length L ≤ 281474976710656 → IsWhole IsText (whole_after m genesis L)

all_at : (P : Command → Type 0) (L : List Command)
    → ((i : ℕ) (v : Command) → command_at L i ≡ Some v → P v) → AllByRecursion P L
all_at P [] f = tt
all_at P (v ∷ L) f = (f (suc zero) v refl, all_at P L later')
  where
    later' : (i : ℕ) (u : Command) → command_at L i ≡ Some u → P u
    later' zero u e = absurd (cc e)
    later' (suc k) u e = f (suc (suc k)) u e

-- it is the packed text of the state after a chosen list
pub record HasSnapshot (m : Meaning) (w : WorldState ReplicaValue) (r : ReplicaValue) : Type 0 where
  pub under : List Command
  pub chosen : Chosen w.genesis w.sent under
  pub reaches : length under ≡ r.node.learner.snapshot_position
  pub is : r.node.learner.snapshot ≡ text m w.genesis under

module _ (m : Meaning) (IsText : List ℕ → Type 0) (w : WorldState ReplicaValue) (holds : Holds m IsText w) (n : ℕ)
    (r : ReplicaValue) (up : IsUpAs w n r) where
  abbrev fits : UpFits (Shows m) (disks_by (behaviour m IsText)) m (happened w.genesis w.sent w.trace)
      (holds.states n) n r
  fits = up_fits m IsText w holds n r up

  pub has_snapshot : HasSnapshot m w r
  has_snapshot =
      let done : List Command = fits.holding.paxos.done in
      let follows = fits.shown.held.follows in record {
        under = take r.node.learner.snapshot_position done;
        chosen = chosen_take w.genesis w.sent done r.node.learner.snapshot_position fits.fits.paxos.stems.done;
        reaches = length-take-le r.node.learner.snapshot_position done follows.within;
        is = follows.text;
      }

  -- what it has gathered of a snapshot is the beginning of such a text
  pub has_gathered : (g : GatheredValue) → r.node.learner.gathered ≡ Some g
      → IsSlice w.genesis w.sent (text m w.genesis) g.position g.total 0 g.bytes
  has_gathered g is = fits.fits.gathered g (fits.shown.held.gathered ∙ is)

  -- such a text is that of a state
  pub snapshot_unpacks : StatesFit m IsText → (x : WholeValue)
      × Unpacks IsText w.genesis.alpha r.node.learner.snapshot_position r.node.learner.snapshot x
  snapshot_unpacks fit =
      let s : HasSnapshot m w r = has_snapshot in (
        whole_after m w.genesis s.under,
        record {
          packs = (
            fit w.genesis s.under (genesis_valid m IsText w holds n r up)
                (all_at IsCommand s.under (λ i v at. (chosen_fits w.genesis w.sent s.under s.chosen i v at).1))
                (chosen_short w.genesis w.sent s.under s.chosen),
            s.is,
          );
          executed = state_executed m w.genesis s.under ∙ s.reaches;
          sets = window_is m w.genesis s.under (whole_after m w.genesis s.under) refl;
        },
      )

-- ---- what a step finds and leaves

pub left_is : (out : OutboxValue) (node : NodeValue) (r : ReplicaValue) → IsLeft out node r
    → (r.node ≡ node) ⊎ (r.node ≡ with_snapshot node)
left_is out node r left =
    elim (cases_Bool out.rebase) [ inl e ↦ inr (left.rebases e) | inr e ↦ inl (left.rests e) ]
