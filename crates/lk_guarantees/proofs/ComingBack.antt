-- A node of a world that is down comes back.
use Rattle.std.proofs.Common.{◌≡◌, ℕ, ◌-◌, ◌==◌, ◌||◌, Bool, true, false, if◌then◌else◌, Option, Some, None, slice_get}
use Rattle.std.proofs.Common.{Contains, refl, ap, sym, ◌∙◌, subst, inl, inr}
use Rattle.std.specs.Prelude.{MatchBool, is_some}
use Rattle.lk_types.specs.Geneses.{IsGenesis}
use Rattle.lk_types.specs.declared.genesis.Genesis.{Genesis}
use Rattle.lk_memory_disk.specs.Memory.{Memory, disk_of}
use Rattle.lk_disk.specs.Meters.{CallsSucceed, start, call, read, Breaks, called, asked, is_failing}
use Rattle.lk_disk.specs.Meters.{is_unread, is_blown}
use Rattle.lk_disk.specs.Meters.{fuse_after, fuse_at, stopping}
use Rattle.lk_disk.specs.Traps.{fails_next, stops_next, trap_after, armed_for}
use Rattle.lk_disk.specs.declared.meter.Meter.{Meter}
use Rattle.lk_disk.specs.declared.trap.Trap.{Trap}
use Rattle.lk_disk.specs.declared.trap.Trap.TheVariants.{Off}
use Rattle.lk_log.specs.Images.{seen}
use Rattle.lk_node_interface.specs.Faults.{RefusedAfter}
use Rattle.lk_recovery.specs.Revivals.{IsLastOld}
use Rattle.lk_replica.specs.ReplicaValue.{ReplicaValue}
use Rattle.lk_sim.specs.WorldStates.{WorldState}
use Rattle.lk_sim_nodes.specs.declared.end.End.TheVariants.{Fault}
use Rattle.lk_sim.specs.declared.event.Event.TheVariants as event
use Rattle.lk_sim_nodes.specs.declared.refused.Refused.{Refused}
use Rattle.lk_sim_nodes.specs.declared.refused.Refused.TheVariants.{NoSuchNode, NotUp, AlreadyUp, NoSuchDatagram}
use Rattle.lk_sim_nodes.specs.declared.refused.Refused.TheVariants.{Forged, WorldFull, WorldMemory}
use Rattle.lk_sim_nodes.specs.declared.sim_node.SimNode.{SimNode}
use Rattle.lk_sim_nodes.specs.declared.sim_node.RunState.{RunState}
use Rattle.lk_sim_nodes.specs.declared.sim_node.RunState.TheVariants.{Down}
use Rattle.lk_guarantees.specs.ComingBack.{IsQuiet, IsBack, ComesBack}
use Rattle.lk_guarantees.specs.Events.{HasCause, IsUp, EndsOn, IsRestarted, IsNotRestarted, IsDone, IsReachable}
use Rattle.lk_guarantees.specs.Guarantee.{MeetsGuarantee}
use Rattle.lk_guarantees.proofs.Restoring.{is_excused}
use Rattle.lk_guarantees.proofs.Apart.{Apart, one_sim_node, read_there, not_up, reachable_apart}

-- ---- a device that nothing makes fail

quiet_called : (m : Meter) → IsQuiet m → IsQuiet (called m)
quiet_called m q = (
  ap (λ (t : Trap). trap_after t) q.0,
  ap (λ (t : Trap). fuse_at (stops_next t) m.fuse) q.0 ∙ ap (λ (f : Option ℕ). fuse_after f) q.1,
  q.2,
)

quiet_asked : (m : Meter) → IsQuiet m → IsQuiet (asked m)
quiet_asked m q = (q.0, q.1, ap (λ (n : ℕ). n - 1) q.2)

quiet_after : (m : Meter) → IsQuiet m → {n : Meter} (k : ℕ) → CallsSucceed m n k → IsQuiet n
quiet_after m q _ start = q
quiet_after m q _ (call {n} {k} before passed) = quiet_called n (quiet_after m q k before)
quiet_after m q _ (read {n} {k} before passed) = quiet_asked n (quiet_after m q k before)

not_failing : (m : Meter) → IsQuiet m → is_failing m ≡ true → ⊥
not_failing m q failing =
    let by_trap : is_failing m ≡ ((fails_next Off || is_blown m.fuse) || is_some (stops_next Off)) =
    ap (λ (t : Trap). (fails_next t || is_blown m.fuse) || is_some (stops_next t)) q.0 in
    let by_fuse : ((fails_next Off || is_blown m.fuse) || is_some (stops_next Off)) ≡ false =
    ap (λ (f : Option ℕ). (fails_next Off || is_blown f) || is_some (stops_next Off)) q.1 in
    let clash : true ≡ false = sym failing ∙ by_trap ∙ by_fuse in
    cc clash

not_unread : (m : Meter) → IsQuiet m → is_unread m ≡ true → ⊥
not_unread m q unread =
    let clash : true ≡ false = sym unread ∙ ap (λ (n : ℕ). n == 1) q.2 in
    cc clash

unbroken : (m n : Meter) → IsQuiet m → n.starved ≡ false → Breaks m n → ⊥
unbroken m n q fed b =
    let last : IsQuiet b.last = quiet_after m q b.count b.calls_succeed in
    elim b.broke [
      | inl failed ↦ not_failing b.last last failed.0
      | inr (inl starved) ↦ (let clash : true ≡ false = ap (λ (x : Meter). x.starved) (sym starved) ∙ fed in cc clash)
      | inr (inr unread) ↦ not_unread b.last last unread.0
    ]

by_kind : (is_device : Bool) (m n : Meter) → IsQuiet m → n.starved ≡ false
    → MatchBool is_device (Breaks m n) ((k : ℕ) × CallsSucceed m n k) → (is_device ≡ true → ⊥) × IsQuiet n
by_kind true m n q fed by = absurd (unbroken m n q fed by)
by_kind false m n q fed by = (λ e. cc e, quiet_after m q by.0 by.1)

-- it is still quiet, and none of its calls has failed
still_quiet : (number : ℕ) (m n : Meter) → IsQuiet m → n.starved ≡ false → RefusedAfter number m n
    → (number ≡ 7 → ⊥) × IsQuiet n
still_quiet number m n q fed by =
    let k = by_kind (number == 7) m n q fed by in
    (λ e. k.0 (ap (λ (x : ℕ). x == 7) e), k.1)

none_armed : (sprung : Bool) → (if sprung then armed_for Off else None) ≡ None
none_armed true = refl
none_armed false = refl

not_stopping : (m : Meter) → IsQuiet m → stopping m ≡ None
not_stopping m q = ap (λ (t : Trap). if m.sprung then armed_for t else None) q.0 ∙ none_armed m.sprung

-- ---- a world

module _ (world : WorldState ReplicaValue) (fits : IsGenesis world.genesis) (p : MeetsGuarantee world)
    (apart : Apart world.sim_nodes) (n : ℕ) (device : Memory)
    (down : Contains world.sim_nodes (record { number = n; run_state = Down device })) where
  abbrev sim_node : SimNode ReplicaValue
  sim_node = record { number = n; run_state = Down device }

  only_memory : (why : Refused) → HasCause world (event.Restart n) why → why ≡ WorldMemory
  only_memory NoSuchNode cause = absurd (cause.2 (sim_node, down, sym cause.1))
  only_memory NotUp cause = absurd cause
  only_memory AlreadyUp cause =
      absurd (not_up world.sim_nodes apart n down.0 device (read_there world.sim_nodes sim_node down) cause)
  only_memory NoSuchDatagram cause = absurd cause
  only_memory Forged cause = absurd cause
  only_memory WorldFull cause = absurd cause
  only_memory WorldMemory cause = refl

  -- it is this device from which the node restarts
  same_device : (index : ℕ) (other : Memory)
      → slice_get world.sim_nodes index ≡ Some (record { number = n; run_state = Down other }) → other ≡ device
  same_device index other here =
      lives other device (ap (λ (s : SimNode ReplicaValue). s.run_state)
      (one_sim_node world.sim_nodes apart index down.0 (record { number = n; run_state = Down other }) sim_node here
      (read_there world.sim_nodes sim_node down) refl))
    where
      lives : (other device : Memory) → ◌≡◌ {A = RunState ReplicaValue} (Down other) (Down device) → other ≡ device
      lives other device e = cc e

  module _ (new : WorldState ReplicaValue) (done : IsDone world (event.Restart n) new) where
    is_up : IsRestarted world n new → IsUp new.sim_nodes n
    is_up r = let up = done.up r.none_ended in subst (IsUp new.sim_nodes) up.1 up.2

    module _ (f : IsNotRestarted world n new) where
      quiet_left : IsQuiet device.meter → (f.number ≡ 7 → ⊥) × IsQuiet f.left.meter
      quiet_left q = still_quiet f.number f.device.meter f.left.meter
          (subst (λ (d : Memory). IsQuiet d.meter) (sym (same_device f.index f.device f.was_down)) q)
          f.not_starved f.fails.calls

      of_device : f.device ≡ device
      of_device = same_device f.index f.device f.was_down

      by_number : new.ended ≡ Some (Fault n f.number) → IsBack n device new
      by_number ended =
          let x = is_excused world fits p n f.device
          (subst (λ (d : Memory). Contains world.sim_nodes (record {
            number = n;
            run_state =
                Down d;
          })) (sym of_device) down)
          f.number f.left f.fails in
          elim x.excused [
            | inl seven ↦ inr (inl (
              ended ∙ ap (λ (k : ℕ). Some (Fault n k)) seven,
              (f.left, subst (λ (d : Memory). Breaks d.meter f.left.meter) of_device (x.failed seven)),
            ))
            | inr (inl eight) ↦ absurd (f.no_memory eight)
            | inr (inr eleven) ↦ inr (inr (inr (
              ended ∙ ap (λ (k : ℕ). Some (Fault n k)) eleven.0,
              subst (λ (d : Memory). IsLastOld (seen (disk_of d))) of_device eleven.1,
            )))
          ]

      by_end : (o : Option ℕ) → stopping f.left.meter ≡ o
          → EndsOn o n f.number f.left f.rest new.ended → IsBack n device new
      by_end None is ends = by_number ends.0
      by_end (Some bytes) is ends =
          inr (inr (inl (ends.0, λ q. some_none bytes (sym is ∙ not_stopping f.left.meter (quiet_left q).1))))
        where
          some_none : (bytes : ℕ) → Some bytes ≡ None → ⊥
          some_none bytes e = cc e

    is_back : IsBack n device new
    is_back = elim done.restarts [ inl r ↦ inl (is_up r) | inr f ↦ by_end f (stopping f.left.meter) refl f.ends ]

pub comes_back : (genesis : Genesis) (world : WorldState ReplicaValue) → IsGenesis world.genesis
    → IsReachable genesis world → MeetsGuarantee world → ComesBack world
comes_back genesis world fits reached p =
    let apart = reachable_apart genesis world reached in
    record {
      excused = λ n device down number left r. is_excused world fits p n device down number left r;
      refused = λ n device down why new refused. only_memory world fits p apart n device down why refused.cause;
      back = λ n device down new done. is_back world fits p apart n device down new done;
    }
