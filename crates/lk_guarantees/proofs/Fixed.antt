-- Lists in which nobody joins or leaves.
use Rattle.std.proofs.Common.{◌≡◌, ℕ, zero, suc, ◌-◌, false, List, [], ◌∷◌, take, fold, refl, ◌∙◌, inl, inr}
use Rattle.std.specs.List.{list_any}
use Rattle.std.proofs.lemmas.Bool.{cases_Bool, or_parts}
use Rattle.lk_types.specs.declared.command.Command.{Command}
use Rattle.lk_types.specs.declared.command.Command.TheVariants.{Noop, Request}
use Rattle.lk_types.specs.declared.command.Op.{Op}
use Rattle.lk_types.specs.declared.command.Op.TheVariants.{Table, Join, Leave, Raise}
use Rattle.lk_types.specs.declared.genesis.Genesis.{Genesis}
use Rattle.lk_guarantees.specs.Plain.{State, execute, takes_effect, after_one, begin, after, changes, asks_change}
use Rattle.lk_guarantees.specs.Plain.{FixedUnlessChanged}

op_fixed : (client : ℕ) (op : Op) (s : State) → changes op ≡ false → (execute client op s).1.members ≡ s.members
op_fixed client (Table body) s e = refl
op_fixed client (Join node port) s e = absurd cc
op_fixed client (Leave node) s e = absurd cc
op_fixed client Raise s e = elim (cases_Bool s.raised) [ inl is ↦ rw is refl | inr not_yet ↦ rw not_yet refl ]

one_fixed : (s : State) (c : Command) → asks_change c ≡ false → (after_one s c).members ≡ s.members
one_fixed s Noop e = refl
one_fixed s (Request r) e = elim (cases_Bool (takes_effect s r)) [
  | inl takes ↦ rw takes (op_fixed r.client r.op s e)
  | inr none ↦ rw none refl
]

all_fixed : (n : ℕ) (L : List Command) (s : State) → list_any asks_change L ≡ false
    → (fold after_one s (take n L)).members ≡ s.members
all_fixed zero L s e = refl
all_fixed (suc n) [] s e = refl
all_fixed (suc n) (c ∷ L) s e =
    let parts = or_parts (asks_change c) (list_any asks_change L) e in
    all_fixed n L (after_one s c) parts.1 ∙ one_fixed s c parts.0

pub fixed_members : (genesis : Genesis) (L : List Command) → FixedUnlessChanged genesis L
unfolding after
fixed_members genesis L e i = all_fixed (i - genesis.alpha) L (begin genesis) e
