-- What stands after one command more is a roster, and what a cluster begins with.
use Rattle.std.proofs.Common.{◌≡◌, ℕ, zero, suc, ◌+◌, ◌-◌, ◌<◌, ◌≤◌, Bool, true, false, cond, not, eqb, nat_le, List}
use Rattle.std.proofs.Common.{[], ◌∷◌, ◌++◌, length, filter, get_or, Some, refl, sym, subst, arith, length-append}
use Rattle.std.specs.List.{AllByRecursion}
use Rattle.std.proofs.lemmas.Bool.{leb-false}
use Rattle.lk_types.specs.Ranges.{IsNode}
use Rattle.lk_types.specs.Commands.{IsOp}
use Rattle.lk_types.specs.Rosters.{IsMember}
use Rattle.lk_types.specs.Geneses.{IsGenesis}
use Rattle.lk_types.specs.declared.answer.Answer.TheVariants.{Used, Full, Joined, NotMember, Last, Left}
use Rattle.lk_members.specs.Rosters.{Member, Genesis, Op, Table, Join, Leave, Raise, is_granted, is_member, is_nobody}
use Rattle.lk_members.specs.Rosters.{others, greatest_node}
use Rattle.lk_members.specs.Sets.{IsSet, newest}
use Rattle.lk_members.specs.Windows.{RosterValue, IsRoster, sets_from, roster_after, newest_roster, moved}
use Rattle.lk_members.specs.Windows.{moved_unchanged, changed_by}
use Rattle.lk_members.proofs.SetLaws.{IsRoster-moved, newest-at_most, AllByRecursion-push, AreMembers-push}
use Rattle.lk_members.proofs.SetLaws.{nodes_below-push, AreMembers-others, nodes_below-others}
use Rattle.lk_members.proofs.WindowLaws.{members-begin, length-sets_from, are_at_most-begin, roster_after-begin}

all_at : {X : Type 0} (P : X → Type 0) (xs : List X) (k : ℕ) (d : X) → AllByRecursion P xs
    → k < length xs → P (get_or xs k d)
all_at P [] k d all lt = absurd (omega (arith, lt))
all_at P (x ∷ xs) zero d all lt = all.0
all_at P (x ∷ xs) (suc k) d all lt = all_at P xs k d all.1 (omega (arith, lt))

all_filter : {X : Type 0} (P : X → Type 0) (q : X → Bool) (xs : List X) → AllByRecursion P xs
    → AllByRecursion P (filter q xs)
all_filter P q [] all = tt
all_filter P q (x ∷ xs) all = by_test (q x) (all_filter P q xs all.1)
  where
    by_test : (t : Bool) → AllByRecursion P (filter q xs) → AllByRecursion P (cond t (x ∷ filter q xs) (filter q xs))
    by_test true rest = (all.0, rest)
    by_test false rest = rest

newest_fits : (v : RosterValue) → IsRoster v → IsSet (newest v.sets)
newest_fits v r = all_at IsSet v.sets (length v.sets - 1) [] r.sets.1 (omega (arith, r.some_set))

-- one position on without a change
pub passed_fits : (v : RosterValue) → IsRoster v → v.executed < 281474976710656 → IsRoster (moved_unchanged v)
passed_fits v r lt = IsRoster-moved v (v.executed + 1) v.greatest v.changed (newest v.sets) r (omega (arith, lt))
    (newest_fits v r) (newest-at_most v r) (omega arith) r.greatest r.changed

-- one position on with a join or a leave
pub changed_fits : (op : Op) (v : RosterValue) → IsOp op → IsRoster v → v.executed < 281474976710656
    → IsRoster (changed_by op v)
changed_fits (Table body) v o r lt = passed_fits v r lt
changed_fits (Join node port) v o r lt = by_number (nat_le node v.greatest) refl
  where
    by_number : (t : Bool) → nat_le node v.greatest ≡ t
        → IsRoster (moved (cond (is_granted
        (Some (cond t Used (cond (nat_le 7 (length (newest v.sets))) Full Joined))))
        (record { members = newest v.sets ++ record { node = node; port = port } ∷ []; greatest = node })
        (newest_roster v))
        (cond (is_granted (Some (cond t Used (cond (nat_le 7 (length (newest v.sets))) Full Joined))))
        (v.executed + 1) v.changed) v)
    by_number true e = passed_fits v r lt
    by_number false e = by_room (nat_le 7 (length (newest v.sets))) refl
      where
        above : v.greatest < node
        above = leb-false node v.greatest e

        by_room : (t : Bool) → nat_le 7 (length (newest v.sets)) ≡ t
            → IsRoster (moved (cond (is_granted (Some (cond t Full Joined)))
            (record { members = newest v.sets ++ record { node = node; port = port } ∷ []; greatest = node })
            (newest_roster v))
            (cond (is_granted (Some (cond t Full Joined))) (v.executed + 1) v.changed) v)
        by_room true f = passed_fits v r lt
        by_room false f =
            let s = newest_fits v r in
            let m : Member = record { node = node; port = port } in
            let room : length (newest v.sets) < 7 = leb-false 7 (length (newest v.sets)) f in
            let longer : length (newest v.sets ++ m ∷ []) ≡ length (newest v.sets) + 1 =
            length-append (newest v.sets) (m ∷ []) in
            IsRoster-moved v (v.executed + 1) node (v.executed + 1) (newest v.sets ++ m ∷ []) r (omega (arith, lt)) (
              (
                (omega (arith, longer)),
                (omega (arith, longer, room)),
                AreMembers-push v.greatest (newest v.sets) m s.0 room (newest-at_most v r) above,
              ),
              AllByRecursion-push IsMember (newest v.sets) m s.1 (o.0, o.1),
            )
            (nodes_below-push v.greatest (newest v.sets) m (newest-at_most v r) above)
            (omega (arith, above)) o.0 (omega (arith, lt))
changed_fits Raise v o r lt = passed_fits v r lt
changed_fits (Leave node) v o r lt = by_member (not (is_member node (newest v.sets)))
  where
    by_member : (t : Bool)
        → IsRoster (moved (cond (is_granted
        (Some (cond t NotMember (cond (is_nobody (others node (newest v.sets))) Last Left))))
        (record { members = others node (newest v.sets); greatest = v.greatest }) (newest_roster v))
        (cond (is_granted (Some (cond t NotMember (cond (is_nobody (others node (newest v.sets))) Last Left))))
        (v.executed + 1) v.changed) v)
    by_member true = passed_fits v r lt
    by_member false = by_rest (is_nobody (others node (newest v.sets))) refl
      where
        by_rest : (t : Bool) → is_nobody (others node (newest v.sets)) ≡ t
            → IsRoster (moved (cond (is_granted (Some (cond t Last Left)))
            (record { members = others node (newest v.sets); greatest = v.greatest }) (newest_roster v))
            (cond (is_granted (Some (cond t Last Left))) (v.executed + 1) v.changed) v)
        by_rest true e = passed_fits v r lt
        by_rest false e =
            let s = newest_fits v r in
            IsRoster-moved v (v.executed + 1) v.greatest (v.executed + 1)
            (others node (newest v.sets)) r (omega (arith, lt)) (
              AreMembers-others node (newest v.sets) s.0 e,
              all_filter IsMember (λ m. not (eqb m.node node)) (newest v.sets) s.1,
            )
            (nodes_below-others v.greatest node (newest v.sets) (newest-at_most v r))
            (omega arith) r.greatest (omega (arith, lt))

-- ---- before any command

greatest_at_most : (ms : List Member) → AllByRecursion IsMember ms → greatest_node ms ≤ 2147483648
greatest_at_most [] all = omega arith
greatest_at_most (m ∷ ms) all = omega (arith, all.0.0.1, greatest_at_most ms all.1)

greatest_fits : (ms : List Member) → 1 ≤ length ms → AllByRecursion IsMember ms → IsNode (greatest_node ms)
greatest_fits [] some all = absurd (omega (arith, some))
greatest_fits (m ∷ ms) some all = (omega (arith, all.0.0.0), greatest_at_most (m ∷ ms) all)

first_sets_fit : (genesis : Genesis) (i n : ℕ) → IsSet genesis.members → AllByRecursion IsSet (sets_from genesis [] i n)
first_sets_fit genesis i zero fits = tt
first_sets_fit genesis i (suc n) fits =
    (subst IsSet (sym (members-begin genesis i)) fits, first_sets_fit genesis (i + 1) n fits)

-- the roster that a cluster begins with
pub first_fits : (genesis : Genesis) → IsGenesis genesis → IsRoster (roster_after genesis [])
first_fits genesis fits =
    let many = length-sets_from genesis [] 1 genesis.alpha in
    rw (roster_after-begin genesis) (record {
      executed = omega arith;
      sets = (omega (arith, many, fits.1.1), first_sets_fit genesis 1 genesis.alpha (fits.2, fits.3));
      some_set = omega (arith, many, fits.1.0);
      greatest = greatest_fits genesis.members fits.2.0 fits.3;
      bound = are_at_most-begin genesis 1 genesis.alpha;
      changed = omega arith;
    })
