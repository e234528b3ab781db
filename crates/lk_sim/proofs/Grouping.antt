-- A node takes several inputs, one after another, before it sends: what is then added keeps all that holds of the
-- world.
use Rattle.std.proofs.Common.{◌≡◌, ℕ, List, [], ◌∷◌, ◌++◌, set, refl, ap, sym, ◌∙◌, subst, append_assoc}
use Rattle.std.proofs.lemmas.List.Elements.{Contains-append_left}
use Rattle.lk_disk.specs.Disk.{Disk}
use Rattle.lk_disk.specs.declared.device.Side.{Side}
use Rattle.lk_state.specs.Meanings.{Meaning}
use Rattle.lk_node_interface.specs.declared.note.Note.{Note}
use Rattle.lk_node_interface.specs.declared.input.Input.{Input}
use Rattle.lk_node_interface.specs.declared.input.Input.TheVariants.{Tick, Nudge, Datagram as Heard}
use Rattle.lk_node.specs.Calls.{InputFits, LeavesFit}
use Rattle.lk_node.specs.Histories.{Genesis, Datagram}
use Rattle.lk_node.specs.Holdings.{Holding}
pub use Rattle.lk_replica.specs.Together.{Said, sent_of, said_by_steps, EachLeavesFit}
pub use Rattle.lk_replica.proofs.TakenTogether.{goes_all}
pub use Rattle.lk_sim.specs.Groups.{WasSentTo, WereSentTo, AreNotesOf}
use Rattle.lk_sim.specs.Events.{AreAllOfNodes}
use Rattle.lk_sim_nodes.specs.SimNodes.{At}
use Rattle.lk_sim.specs.Traces.{happened}
use Rattle.lk_sim.specs.Worlds.{WorldInvariant}
use Rattle.lk_sim_nodes.specs.declared.sim_node.SimNode.{SimNode}
use Rattle.lk_sim_nodes.specs.declared.sim_node.RunState.TheVariants.{Up}
use Rattle.lk_sim_nodes.proofs.Fitting.{node_fits}
use Rattle.lk_sim.proofs.Given.{set_twice}
use Rattle.lk_sim.proofs.Hearing.{heard_sent}
use Rattle.lk_sim.proofs.Lists.{at_set_here}
use Rattle.lk_sim.proofs.Sending.{goes_on}
use Rattle.lk_sim_nodes.proofs.Shortness.{stepped_short}
use Rattle.lk_sim.proofs.Explaining.{lawful}

still_sent_to : (sent more : List Datagram) (is : List Input) → WereSentTo sent is → WereSentTo (sent ++ more) is
still_sent_to sent more [] w = tt
still_sent_to sent more (Tick ∷ is) w = (tt, still_sent_to sent more is w.1)
still_sent_to sent more (Nudge reason ∷ is) w = (tt, still_sent_to sent more is w.1)
still_sent_to sent more (Heard bytes ∷ is) w =
    ((w.0.0, Contains-append_left sent more w.0.0 w.0.1, w.0.2), still_sent_to sent more is w.1)

abbrev sim_node_with : {R : Type 0} → ℕ → R → SimNode R
sim_node_with n r = record { number = n; run_state = Up r }

module _ {R : Type 0} (Shows : R → Genesis → ℕ → Holding → Type 0) (disks : R → Side → Disk) (m : Meaning)
    (genesis : Genesis) (i : ℕ) where
  pub group_holds : (is : List Input) (r q : R) (said : List Said) (sim_nodes : List (SimNode R)) (sent : List Datagram)
      (trace notes : List Note) (s : SimNode R)
      → WorldInvariant Shows disks m genesis sim_nodes sent trace → At sim_nodes i s → s.run_state ≡ Up r
      → WereSentTo sent is
      → EachLeavesFit Shows disks m s.number r is q said → AreNotesOf said notes
      → WorldInvariant Shows disks m genesis (set sim_nodes i (sim_node_with s.number q)) (sent ++ sent_of said) (trace
      ++ notes)
  group_holds [] r q said sim_nodes sent trace notes s w at up were goes told =
      let none : notes ≡ [] = subst (λ (l : List Said). AreNotesOf l notes) goes.0 told in
      let u = (w.as_sim_nodes i s at).up r up in
      let g : LeavesFit m (happened genesis sent trace) s.number (Shows q genesis s.number) (disks q) [] [] =
      goes.1 (happened genesis sent trace)
      (node_fits Shows disks m (happened genesis sent trace) (w.states s.number) s.number r
      (lawful Shows disks m genesis sim_nodes sent trace w) u) in
      let last = goes_on Shows disks m genesis sim_nodes sent trace w i s
      (sim_node_with s.number q) at q refl refl [] [] [] g refl (stepped_short (disks r) (disks q) goes.2 u.room) in
      subst (λ (l : List Said). WorldInvariant Shows disks m genesis (set sim_nodes i (sim_node_with s.number q)) (sent
      ++ sent_of l)
      (trace ++ notes)) (sym goes.0)
      (subst (λ l. WorldInvariant Shows disks m genesis (set sim_nodes i (sim_node_with s.number q)) (sent ++ [])
      (trace ++ l))
      (sym none) last)
  group_holds (x ∷ is) r q said sim_nodes sent trace notes s w at up were goes told =
      let mid = goes.0 in
      let one = goes.1 in
      let rest = goes.2 in
      let names : AreNotesOf (one ∷ rest) notes = subst (λ (l : List Said). AreNotesOf l notes) goes.3 told in
      let h = happened genesis sent trace in
      let u = (w.as_sim_nodes i s at).up r up in
      let g : LeavesFit m h s.number (Shows mid genesis s.number) (disks mid) one.0 one.1 =
      goes.4 h (node_fits Shows disks m h (w.states s.number) s.number r
      (lawful Shows disks m genesis sim_nodes sent trace w) u) (fits x were.0) in
      let next = goes_on Shows disks m genesis sim_nodes sent trace w i s
      (sim_node_with s.number mid) at mid refl refl one.0 names.0 one.1 g names.2
      (stepped_short (disks r) (disks mid) goes.5 u.room) in
      let all = group_holds is mid q rest (set sim_nodes i (sim_node_with s.number mid)) (sent ++ one.1)
      (trace ++ (one.0 ++ names.0)) names.1 (sim_node_with s.number mid) next
      (at_set_here sim_nodes i (sim_node_with s.number mid) at.0) refl
      (still_sent_to sent one.1 is were.1) goes.6 names.4 in
      let sent_is : (sent ++ one.1) ++ sent_of rest ≡ sent ++ sent_of said = append_assoc sent one.1 (sent_of rest)
      ∙ ap (λ (l : List Said). sent ++ sent_of l) (sym goes.3) in
      let trace_is : (trace ++ (one.0 ++ names.0)) ++ names.1 ≡ trace ++ notes =
      append_assoc trace (one.0 ++ names.0) names.1 ∙ ap (λ l. trace ++ l) (sym names.3) in
      subst (λ z. WorldInvariant Shows disks m genesis z (sent ++ sent_of said) (trace ++ notes))
      (set_twice sim_nodes i (sim_node_with s.number mid) (sim_node_with s.number q))
      (subst (λ z. WorldInvariant Shows disks m genesis
      (set (set sim_nodes i (sim_node_with s.number mid)) i (sim_node_with s.number q)) z
      (trace ++ notes)) sent_is
      (subst (λ z. WorldInvariant Shows disks m genesis
      (set (set sim_nodes i (sim_node_with s.number mid)) i (sim_node_with s.number q))
      ((sent ++ one.1) ++ sent_of rest) z) trace_is all))
    where
      fits : (x : Input) → WasSentTo sent x → InputFits (happened genesis sent trace) x
      fits Tick was = tt
      fits (Nudge reason) was = tt
      fits (Heard bytes) was = heard_sent Shows disks m genesis sim_nodes sent trace w was.0 was.1 bytes was.2

  -- each step notes what is its own
  pub group_own : (is : List Input) (r q : R) (said : List Said) (sim_nodes : List (SimNode R)) (sent : List Datagram)
      (trace notes : List Note) (s : SimNode R)
      → WorldInvariant Shows disks m genesis sim_nodes sent trace → At sim_nodes i s → s.run_state ≡ Up r
      → WereSentTo sent is
      → EachLeavesFit Shows disks m s.number r is q said → AreNotesOf said notes → AreAllOfNodes said
  group_own [] r q said sim_nodes sent trace notes s w at up were goes told =
      subst (λ (l : List Said). AreAllOfNodes l) (sym goes.0) tt
  group_own (x ∷ is) r q said sim_nodes sent trace notes s w at up were goes told =
      let mid = goes.0 in
      let one = goes.1 in
      let rest = goes.2 in
      let names : AreNotesOf (one ∷ rest) notes = subst (λ (l : List Said). AreNotesOf l notes) goes.3 told in
      let h = happened genesis sent trace in
      let u = (w.as_sim_nodes i s at).up r up in
      let g : LeavesFit m h s.number (Shows mid genesis s.number) (disks mid) one.0 one.1 =
      goes.4 h (node_fits Shows disks m h (w.states s.number) s.number r
      (lawful Shows disks m genesis sim_nodes sent trace w) u) (fits x were.0) in
      let next = goes_on Shows disks m genesis sim_nodes sent trace w i s
      (sim_node_with s.number mid) at mid refl refl one.0 names.0 one.1 g names.2
      (stepped_short (disks r) (disks mid) goes.5 u.room) in
      let all = group_own is mid q rest (set sim_nodes i (sim_node_with s.number mid)) (sent ++ one.1)
      (trace ++ (one.0 ++ names.0)) names.1 (sim_node_with s.number mid) next
      (at_set_here sim_nodes i (sim_node_with s.number mid) at.0) refl
      (still_sent_to sent one.1 is were.1) goes.6 names.4 in
      subst (λ (l : List Said). AreAllOfNodes l) (sym goes.3) ((λ n c. (g.noted n c).0), all)
    where
      fits : (x : Input) → WasSentTo sent x → InputFits (happened genesis sent trace) x
      fits Tick was = tt
      fits (Nudge reason) was = tt
      fits (Heard bytes) was = heard_sent Shows disks m genesis sim_nodes sent trace w was.0 was.1 bytes was.2
