-- The clauses of a world, in the words of the guarantee.
use Rattle.std.proofs.Common.{◌≡◌, ℕ, suc, ◌+◌, ◌-◌, true, List, take, Contains, refl, ap, sym, ◌∙◌, arith}
use Rattle.std.specs.List.{list_all}
use Rattle.lk_types.specs.declared.genesis.Genesis.{Genesis}
use Rattle.lk_messages.specs.declared.message.NodeMessage.TheVariants as message
use Rattle.lk_members.specs.Effects.{Command, RequestValue, Request, is_older}
use Rattle.lk_members.proofs.Memberships.{in_effect_after}
use Rattle.lk_agreement_laws.specs.Datagrams.{Datagram}
use Rattle.lk_agreement_laws.specs.Chosen.{Chosen}
use Rattle.lk_locks.specs.Meaning.{table_meaning}
use Rattle.lk_node_interface.specs.declared.note.Note.{Note}
use Rattle.lk_node_interface.specs.declared.note.Note.TheVariants as note
use Rattle.lk_sim.specs.Explained.{Explains}
use Rattle.lk_sim.specs.Orders.{IsEffectiveAt, InOrder}
use Rattle.std.specs.Prelude.{Result, Ok, Err, OnOk, IfErr}
use Rattle.lk_disk.specs.Meters.{trapped}
use Rattle.lk_locks.specs.Packed.{IsTableText}
use Rattle.lk_replica.specs.Behaviours.{Behaviour, disks_by}
use Rattle.lk_replica.specs.Compacted.{CompactsTo}
use Rattle.lk_replica.specs.ReplicaValue.{ReplicaValue, device_of}
use Rattle.lk_replica.specs.Revived.{RevivesTo}
use Rattle.lk_replica.specs.Taking.{ComesTo}
use Rattle.lk_replica.specs.Together.{ComesToAll}
use Rattle.lk_sim.specs.Events.{IsExecuted}
use Rattle.lk_sim.specs.Events as doing
use Rattle.lk_sim.specs.Packed.{LeavesPackedState}
use Rattle.lk_sim.specs.Guarantees.{WorldGuarantee}
use Rattle.lk_sim.specs.Guarantees as world
use Rattle.lk_sim.specs.Runs.{Runs}
use Rattle.lk_sim.specs.WorldStates.{WorldState}
use Rattle.lk_sim_nodes.specs.SimNodes.{At}
use Rattle.lk_sim.specs.States.{SumsUpChosen}
use Rattle.lk_sim.specs.declared.end.RunEnd.{RunEnd}
use Rattle.lk_sim.specs.declared.event.Event.{Event}
use Rattle.lk_sim.specs.declared.event.Event.TheVariants as event
use Rattle.lk_sim_nodes.specs.declared.refused.Refused.{Refused}
use Rattle.lk_sim_nodes.specs.declared.sim_node.SimNode.{SimNode}
use Rattle.lk_guarantees.proofs.Doing.{is_done, refused, runs}
use Rattle.lk_guarantees.proofs.Executing.{has_executed, is_part}
use Rattle.lk_guarantees.proofs.Falling.{ends_by_device, runs_end}
use Rattle.lk_guarantees.proofs.Keeping.{has_snapshots, compacted, kept, covered, short}
use Rattle.lk_guarantees.proofs.Telling.{told}
use Rattle.lk_guarantees.specs.Guarantee as guarantee
use Rattle.lk_guarantees.specs.Plain.{at, TakesEffectAt}
use Rattle.lk_guarantees.specs.Events.{Compacts, EndsByDevice, IsDone, IsRefused, IsRun}
use Rattle.lk_guarantees.specs.Guarantee.{IsChosen, AreAsked, IsExplained, IsOrdered, HaveExecuted, HaveSnapshots}
use Rattle.lk_guarantees.specs.Guarantee.{MeetsGuarantee}
use Rattle.lk_guarantees.proofs.Effects.{leaves}
use Rattle.lk_guarantees.proofs.Quorums.{agreed, at_is, members_are, has_sent, is_chosen, chosen_is}
use Rattle.lk_guarantees.proofs.Explaining.{stands_at, all_fit, answered}

module _ (genesis : Genesis) (sent : List Datagram) (trace : List Note) where
  explains : (L : List Command) → Chosen genesis sent L → Explains table_meaning genesis sent trace L
      → guarantee.Explains genesis sent trace L
  explains L chosen x =
      let fit = all_fit genesis sent L chosen in
      record {
        asked = λ i r e. x.asked r (stands_at L i (Request r) e);
        ran = λ n i v c. at_is L i ∙ x.ran n i v c;
        known = λ n i set v c. omega (arith, (x.among n i set v c).0);
        among = λ n i set v c. (x.among n i set v c).1 ∙ sym (members_are genesis L i);
        counted = λ n i set v w c e. x.counted n i set v w c (sym (at_is L i) ∙ e);
        counted_once = λ n k i set other v w c d. x.counted_twice n k i set other v w c d;
        answered = λ n client number a c. answered genesis L client number a fit (x.answered n client number a c);
        told = λ n client number last c. let t = x.told n client number last c in
            (t.0, (t.1.0, answered genesis L client last t.1.0 fit t.1.1));
        decided = λ n k d v w s e f.
            let next : k + 1 ≡ suc k = omega arith in
            x.decided n k d v w (has_sent genesis sent n (message.Decided d) s)
            (sym (ap (at d.commands) next ∙ at_is d.commands (suc k)) ∙ e) (sym (at_is L (d.first + k)) ∙ f);
        parts = λ n p s. is_part genesis L p fit (x.parts n p (has_sent genesis sent n (message.Part p) s));
      }

  explained : (L : List Command) × Chosen genesis sent L × Explains table_meaning genesis sent trace L
      → IsExplained genesis sent trace
  explained e = (e.0, is_chosen genesis sent e.0 e.1, explains e.0 e.1 e.2)

  effective : (L : List Command) (i : ℕ) (r : RequestValue) → TakesEffectAt genesis L i r → IsEffectiveAt L i r
  effective L i r t =
      let front = take (i - 1) L in
      let older : list_all (is_older r) front ≡ true = (leaves genesis front).least r ∙ t.1 in
      (sym (at_is L i) ∙ t.0, rw older refl)

  effective_back : (L : List Command) (i : ℕ) (r : RequestValue) → IsEffectiveAt L i r → TakesEffectAt genesis L i r
  effective_back L i r c =
      let front = take (i - 1) L in
      (at_is L i ∙ c.0, sym ((leaves genesis front).least r) ∙ (in_effect_after front (Request r) r c.1).1)

  ordered : InOrder genesis sent trace → IsOrdered genesis sent trace
  ordered o front back parts n client number a answered_there r new L i chosen takes =
      let b = o front back parts n client number a answered_there r new L i (chosen_is genesis sent L chosen)
      (effective L i r takes) in
      (b.index, b.request, b.before, b.of_client, b.of_number, effective_back L b.index b.request b.effective)

-- ---- of the replica of the lock table

-- what it does in its calls
abbrev pub locks_behave : Behaviour ReplicaValue
locks_behave = record {
  memory = λ r. device_of r.store;
  with_trap = λ t r. record r { store = record r.store { meter = trapped t r.store.meter } };
  Takes = λ old i new came. ComesTo table_meaning IsTableText old i new came;
  TakesAll = λ old inputs new came. ComesToAll table_meaning IsTableText old inputs new came;
  Revives = λ device whose came. RevivesTo table_meaning IsTableText device whose came;
  Compacts = λ old new came. CompactsTo table_meaning old new came;
}

executed : (genesis : Genesis) (sim_nodes : List (SimNode ReplicaValue)) (sent : List Datagram)
    → ((k : ℕ) (s : SimNode ReplicaValue) → At sim_nodes k s
    → SumsUpChosen (λ r. r.node.learner.whole) (disks_by locks_behave) table_meaning genesis sent s)
    → HaveExecuted genesis sim_nodes sent
executed genesis sim_nodes sent all s here r up =
    let e = (all here.0 s (here.1, here.2)).executed r up in
    has_executed genesis sent r e.0 e.1 e.2

snapshots : (genesis : Genesis) (sim_nodes : List (SimNode ReplicaValue)) (sent : List Datagram)
    → ((k : ℕ) (s : SimNode ReplicaValue) → At sim_nodes k s
    → SumsUpChosen (λ r. r.node.learner.whole) (disks_by locks_behave) table_meaning genesis sent s)
    → HaveSnapshots genesis sim_nodes sent
snapshots genesis sim_nodes sent all s here = has_snapshots genesis sent s (all here.0 s (here.1, here.2))

asked : (genesis : Genesis) (sent : List Datagram) (trace : List Note)
    → ((L : List Command) → Chosen genesis sent L → (r : RequestValue) → Contains L (Request r)
    → Contains trace (note.Asked r)) → AreAsked genesis sent trace
asked genesis sent trace all L chosen i r e =
    all L (chosen_is genesis sent L chosen) r (stands_at L i (Request r) e)

used_once : (genesis : Genesis) (sent : List Datagram) → world.UsesBallotsOnce genesis sent
    → guarantee.UsesBallotsOnce genesis sent
used_once genesis sent u = record {
  own = λ n x says. u.own n x (has_sent genesis sent n (message.Accept x) says);
  once = λ n k i b v w says said.
      u.once b i v w (record { sender = n; has_sent = has_sent genesis sent n _ says })
      (record { sender = k; has_sent = has_sent genesis sent k _ said });
}

-- what is guaranteed of a world is the guarantee
pub guaranteed : (w : WorldState ReplicaValue)
    → WorldGuarantee locks_behave (λ r. r.node.learner.whole) table_meaning w → MeetsGuarantee w
guaranteed w p = record {
  explained = explained w.genesis w.sent w.trace p.explained;
  asked = asked w.genesis w.sent w.trace p.asked;
  agree = agreed w.genesis w.sent p.agree;
  ballots = used_once w.genesis w.sent p.ballots;
  executed = executed w.genesis w.sim_nodes w.sent p.states;
  told = told w.sent w.trace p.told;
  order = ordered w.genesis w.sent w.trace p.order;
  told_in_time = p.told_in_time;
  kept = kept w.genesis w.sim_nodes w.sent p.kept;
  covered = covered w.genesis w.sim_nodes w.sent p.covered;
  snapshots = snapshots w.genesis w.sim_nodes w.sent p.states;
  room = short w.sim_nodes p.room;
}

pub compacts : (e : Event) (w : WorldState ReplicaValue)
    → LeavesPackedState (λ r. r.node.learner.whole) (disks_by locks_behave) table_meaning e w → Compacts e w
compacts (event.Start n) w k = tt
compacts (event.Restart n) w k = tt
compacts (event.Tick n) w k = tt
compacts (event.Nudge n reason) w k = tt
compacts (event.Compact n) w k = λ e. compacted w n (k e)
compacts (event.Client n r) w k = tt
compacts (event.Deliver i) w k = tt
compacts (event.Group n group_inputs) w k = tt
compacts (event.Inject n bytes) w k = tt
compacts (event.Stop n x y) w k = tt
compacts (event.FailAt n count) w k = tt
compacts (event.Arm n count bytes) w k = tt

pub on_ok : {A E : Type 0} (P Q : Type 0) (r : Result A E) → (P → Q) → OnOk r P → OnOk r Q
on_ok P Q (Ok x) f p = f p
on_ok P Q (Err e) f p = tt

pub if_err : {A E : Type 0} (P Q : E → Type 0) (r : Result A E) → ((e : E) → P e → Q e) → IfErr r P → IfErr r Q
if_err P Q (Ok x) f p = tt
if_err P Q (Err e) f p = f e p

pub done : (old new : WorldState ReplicaValue) (e : Event) → IsExecuted locks_behave old e new → IsDone old e new
done = is_done locks_behave (λ r. refl) (λ t r. refl) (λ r o q came k. k) (λ r given q came k. k)
    (λ device whose came k. k)

pub ends : (old new : WorldState ReplicaValue) (e : Event) → IsExecuted locks_behave old e new → EndsByDevice new.ended
ends old new e d = ends_by_device old new locks_behave e d.1

pub runs_end_so : (old : WorldState ReplicaValue) (events : List Event) (how : RunEnd) (new : WorldState ReplicaValue)
    → Runs locks_behave old events how new → EndsByDevice old.ended → EndsByDevice new.ended
runs_end_so = runs_end locks_behave

pub not_done : (old new : WorldState ReplicaValue) (e : Event) (r : Refused)
    → doing.IsRefused locks_behave old e r new → IsRefused old e r new
not_done = refused locks_behave (λ r. refl) (λ t r. refl) (λ r o q came k. k) (λ r given q came k. k)
    (λ device whose came k. k)

pub ran : (old : WorldState ReplicaValue) (events : List Event) (how : RunEnd) (new : WorldState ReplicaValue)
    → Runs locks_behave old events how new → IsRun old events how new
ran = runs locks_behave (λ r. refl) (λ t r. refl) (λ r o q came k. k) (λ r given q came k. k) (λ device whose came k. k)
