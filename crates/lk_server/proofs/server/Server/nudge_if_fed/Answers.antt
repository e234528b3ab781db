use Rattle.std.proofs.Common.{rules, ◌≡◌, ◌∷◌, [], ◌++◌, None, true, inl, inr, refl, subst, sym}
use Rattle.lk_node_interface.specs.declared.input.Input.TheVariants.{Nudge}
use Rattle.lk_node_interface.specs.declared.nudge_reason.NudgeReason.TheVariants.{Fed}
use Rattle.lk_server.specs.StepNotes.{NotesInput, noted}
use Rattle.lk_server.specs.Servers.{ServerValue}
use Rattle.lk_server.proofs.Carrying.{if_ok_on}
use Rattle.lk_server.proofs.server.Server.nudge_if_fed.Goals as goal

pub returns-then-not-is_fed-clause-gathers : goal.returns-then-not-is_fed-clause-gathers
returns-then-not-is_fed-clause-gathers g c = λ start timed was. (timed, inl refl, was)

pub returns-clause-gathers : goal.returns-clause-gathers
returns-clause-gathers g c =
    if_ok_on c.add_input-nudged.result (λ more start timed was. (
      timed ++ None ∷ [],
      inr refl,
      subst
          (λ (s : ServerValue _).
          g.R.ServerReplica.Gathers start (timed ++ None ∷ []) c.add_input-nudged.new.group s.replica)
          (sym c.self-2.view_is) (more start timed was),
    )) c.add_input-nudged.ensures.gathers

pub returns-clause-nudges : goal.returns-clause-nudges
returns-clause-nudges g c =
    let r = g.R.ServerReplica in
    let fed : c.args.self.now.fed ≡ true = search rules in
    if_ok_on c.add_input-nudged.result (λ takes. inl (
      fed,
      record {
        takes = subst (λ (s : ServerValue _). r.Takes c.args.self.now.replica c.args.group.now (Nudge Fed) s.replica
            c.add_input-nudged.new.group) (sym c.self-2.view_is) takes;
        mid = noted c.add_input-nudged.new.self;
        notes = subst (λ (s : ServerValue _). NotesInput r.KeepsDigest r.HasStatus None c.args.self.now.replica
            s.replica (noted c.args.self.now) (noted c.add_input-nudged.new.self)) (sym c.self-2.view_is)
            c.add_input-nudged.ensures.notes;
        is = λ i. record {
          digest = (c.self-2.view_is i).digest;
          fed = c.none-self-inside.ensures i;
          quiet = (c.self-2.view_is i).quiet;
          ticks = (c.self-2.view_is i).ticks;
          withheld = (c.self-2.view_is i).withheld;
          cluster = (c.self-2.view_is i).cluster;
          pace = (c.self-2.view_is i).pace;
          deaf = (c.self-2.view_is i).addresses.deaf;
        };
      },
    )) c.add_input-nudged.ensures.takes
