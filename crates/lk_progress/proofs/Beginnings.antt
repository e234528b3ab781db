-- A new cluster is quiet.
use Rattle.std.proofs.Common.{◌≡◌, ◌∙◌, inl, ℕ, zero, suc, ◌+◌, ◌-◌, ◌≤◌, ◌==◌, true, false, Option, Some}
use Rattle.std.proofs.Common.{List, [], ◌∷◌, length, take, min, refl, ap, sym, subst, arith}
use Rattle.std.proofs.Common.{nat_lt, nat_le, ◌&&◌}
use Rattle.std.specs.List.{position}
use Rattle.std.specs.Prelude.{slice_get}
use Rattle.lk_leader.specs.Proposing.{AreMembersAt}
use Rattle.lk_members.proofs.Memberships.{length_of_window, set_of_window, roster_after-begin}
use Rattle.lk_members.specs.Effects.{Command, effects, positioned}
use Rattle.lk_members.specs.Rosters.{members, roster_of}
use Rattle.lk_members.specs.Windows.{RosterValue, roster_after}
use Rattle.lk_node.specs.Nearness.{AreNear}
use Rattle.lk_node_interface.specs.Recipients.{index_in}
use Rattle.lk_node_interface.specs.Ticks.{is_enough}
use Rattle.lk_progress.specs.Beginnings.{new_node, NewClustersAreQuiet}
use Rattle.lk_state.specs.Meanings.{Meaning}
use Rattle.lk_state.specs.States.{whole_after}
use Rattle.lk_types.specs.declared.genesis.Genesis.{Genesis}
use Rattle.lk_types.specs.declared.member.Member.{Member}

module _ (m : Meaning) (genesis : Genesis) where
  abbrev roster : RosterValue
  roster = (whole_after m genesis []).roster

  pub roster_is : roster ≡ roster_after genesis []
  unfolding whole_after
  roster_is = refl

  nothing_executed : roster.executed ≡ 0
  nothing_executed = ap (λ (v : RosterValue). v.executed) (roster_is ∙ roster_after-begin genesis)

  pub nothing_changed : roster.changed ≡ 0
  nothing_changed = ap (λ (v : RosterValue). v.changed) (roster_is ∙ roster_after-begin genesis)

  pub window : length roster.sets ≡ genesis.alpha
  window = length_of_window genesis [] roster roster_is

take_none : (k : ℕ) → ◌≡◌ {A = List Command} (take k []) []
take_none zero = refl
take_none (suc k) = refl

pub first_members : (genesis : Genesis) (i : ℕ) → members genesis [] i ≡ genesis.members
unfolding members roster_of effects positioned
first_members genesis i = ap (λ (l : List Command). (roster_of genesis l).members) (take_none (i - genesis.alpha))

module _ (m : Meaning) (genesis : Genesis) (some : 1 ≤ genesis.alpha) where
  first_set : slice_get (roster m genesis).sets 0 ≡ Some genesis.members
  first_set = set_of_window genesis [] (roster m genesis) 0 (roster_is m genesis) (omega (arith, some))
      ∙ ap (λ (s : List Member). Some s) (first_members genesis 1)

  members_at : AreMembersAt (roster m genesis) ((roster m genesis).executed + 1) genesis.members
  members_at =
      let e : (roster m genesis).executed + 1 - ((roster m genesis).executed + 1) ≡ 0 = omega arith in
      (omega arith, subst (λ (i : ℕ). slice_get (roster m genesis).sets i ≡ Some genesis.members) (sym e) first_set)

  near : (n ticks : ℕ) → AreNear (new_node m genesis n ticks).acceptor (new_node m genesis n ticks).learner
  near n ticks = record {
    alpha_is = sym (window m genesis);
    snapshot = omega arith;
    votes = λ v c. absurd (omega (arith, c.1));
  }

place_in : (sets : List (List Member)) (set : List Member) (n : ℕ) → slice_get sets 0 ≡ Some set
    → index_in sets n ≡ position (λ m. m.node == n) set
place_in [] set n at = absurd (cc at)
place_in (s ∷ sets) set n at =
    let is : s ≡ set = (let e : Some s ≡ Some set = at in cc e) in
    ap (λ (x : List Member). position (λ m. m.node == n) x) is

pub starts_quietly : NewClustersAreQuiet
starts_quietly m genesis n index ticks due = record {
  candidate = record {
    due = record {
      idle = refl;
      waited = subst (λ (o : Option ℕ). is_enough (min (ticks + 1) 28) o ≡ true)
          (sym (place_in (roster m genesis).sets genesis.members n (first_set m genesis some) ∙ due.place)) due.waited;
      round = omega arith;
      position = omega (arith, nothing_executed m genesis);
    };
    members = members_at m genesis some;
    waiting = refl;
    known = λ v c. omega (arith, c.1);
    unchanged = subst (λ (i : ℕ). (nat_lt 0 i && nat_le ((roster m genesis).executed + 1)
        (i + length (roster m genesis).sets)) ≡ false) (sym (nothing_changed m genesis)) refl;
    near = near m genesis some n ticks;
    votes = λ v c. absurd (omega (arith, c.1));
  };
  others = λ k passed. record {
    near = near m genesis some k passed;
    ballot = inl (inl (omega arith));
    behind = omega (arith, nothing_executed m genesis);
    within = omega (arith, nothing_executed m genesis, window m genesis, some);
    votes = λ v c. absurd (omega (arith, c.1));
  };
}
  where
    some : 1 ≤ genesis.alpha
    some = due.valid.1.0
