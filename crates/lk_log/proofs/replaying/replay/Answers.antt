use Rattle.std.proofs.Common.{◌++◌, ◌∷◌, [], List, sym, subst}
use Rattle.std.specs.List.{AllByRecursion}
use Rattle.lk_store_format.specs.Entries.{IsStored}
use Rattle.lk_store_format.specs.Standings.{Rises}
use Rattle.lk_store_format.specs.declared.stored.Stored.{Stored}
use Rattle.lk_store_format.proofs.StandingLaws.{StandsSoFar, so_far_base, so_far_plain, rises_alone, rises_with}
use Rattle.lk_log.proofs.replaying.replay.Goals as goal

pub loop-entry-preserved-in-Base : goal.loop-entry-preserved-in-Base
loop-entry-preserved-in-Base c =
    let left = subst (λ (l : List Stored). AllByRecursion IsStored l) c.in-Some.ensures.steps.0
    c.loop-entry.invariant.2 in (
      subst (λ (e : Stored). StandsSoFar (c.loop-entry.yielded ++ e ∷ []) c.of_base-standing.result) (sym c.in-Base.is)
          (so_far_base c.loop-entry.yielded c.in-Base.base c.of_base-standing.result c.of_base-standing.ensures),
      rises_alone c.in-Base.base c.of_base-standing.result c.of_base-standing.ensures
          (subst IsStored c.in-Base.is left.0),
      left.1,
    )

pub loop-entry-preserved : goal.loop-entry-preserved
loop-entry-preserved c =
    let left = subst (λ (l : List Stored). AllByRecursion IsStored l) c.in-Some.ensures.steps.0
    c.loop-entry.invariant.2 in (
      subst (λ (e : Stored). StandsSoFar (c.loop-entry.yielded ++ e ∷ []) c.add.new.standing) (sym c.in-Plain.is)
          (so_far_plain c.loop-entry.yielded c.in-Plain.entry c.loop-entry.standing c.add.new.standing
          c.in_ok-add-in-Plain.ensures.ok c.loop-entry.invariant.0),
      subst Rises (sym c.in_ok-add-in-Plain.ensures.ok)
          (rises_with c.in-Plain.entry c.loop-entry.standing c.loop-entry.invariant.1),
      left.1,
    )
