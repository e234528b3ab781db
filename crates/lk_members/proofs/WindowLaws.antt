-- What a roster tells, after one entry more.
use Rattle.std.proofs.Common.{◌≡◌, ℕ, zero, suc, ◌+◌, ◌-◌, ◌<◌, ◌≤◌, true, false, cond, List, [], ◌∷◌, ◌++◌, length}
use Rattle.std.proofs.Common.{take, drop, get_or, Option, Some, None, refl, ap, subst, sym, ◌∙◌, nat_le, arith, add-one}
use Rattle.std.proofs.Common.{length-append}
use Rattle.std.specs.Prelude.{slice_get}
use Rattle.std.specs.List.{list_all}
use Rattle.std.proofs.Math.Seq.{take-length, take-nil}
use Rattle.std.proofs.lemmas.Bool.{and_from}
use Rattle.std.proofs.lemmas.List.{take-append-le}
use Rattle.std.proofs.lemmas.Option.{slice_get_within, get_or_from_slice_get}
use Rattle.lk_members.specs.Effects.{Command, RequestValue, Request, in_effect, positioned, effects}
use Rattle.lk_members.specs.Rosters.{Member, Genesis, PlainRoster, Op, Answer, Table, Join, Leave, Raise, greatest_node}
use Rattle.lk_members.specs.Rosters.{next_roster, roster_answer, is_granted, is_granted_change, members, roster_of}
use Rattle.lk_members.specs.Rosters.{last_change}
use Rattle.lk_members.specs.Sets.{newest, are_at_most}
use Rattle.lk_members.specs.Windows.{RosterValue, sets_from, roster_after, newest_roster, moved, moved_unchanged}
use Rattle.lk_members.specs.Windows.{changed_by}
use Rattle.lk_members.proofs.SetLaws.{at_most_greatest}
use Rattle.lk_members.proofs.Pushes.{roster_behind, roster_of-push, last_change-push}

-- the members of a position hang on the entries alpha positions before it
pub members_stay : (genesis : Genesis) (L rest : List Command) (i : ℕ) → i ≤ length L + genesis.alpha
    → members genesis (L ++ rest) i ≡ members genesis L i
unfolding members
members_stay genesis L rest i h =
    let le : i - genesis.alpha ≤ length L = omega arith in
    ap (λ (l : List Command). (roster_of genesis l).members) (take-append-le (i - genesis.alpha) L rest le)

-- the last known set is that of the whole list
pub members-newest : (genesis : Genesis) (L : List Command) (i : ℕ) → i ≡ length L + genesis.alpha
    → members genesis L i ≡ (roster_of genesis L).members
unfolding members
members-newest genesis L i e =
    let at : i - genesis.alpha ≡ length L = omega arith in
    ap (λ (l : List Command). (roster_of genesis l).members) (ap (λ (n : ℕ). take n L) at ∙ take-length L)

pub length-sets_from : (genesis : Genesis) (L : List Command) (i n : ℕ) → length (sets_from genesis L i n) ≡ n
length-sets_from genesis L i zero = refl
length-sets_from genesis L i (suc n) = ap suc (length-sets_from genesis L (i + 1) n)

pub sets_from-snoc : (genesis : Genesis) (L : List Command) (i n : ℕ)
    → sets_from genesis L i (suc n) ≡ sets_from genesis L i n ++ members genesis L (i + n) ∷ []
sets_from-snoc genesis L i zero = let e : i ≡ i + 0 = omega arith in ap (λ (k : ℕ). members genesis L k ∷ []) e
sets_from-snoc genesis L i (suc n) =
    let e : i + 1 + n ≡ i + suc n = omega arith in
    ap (λ (sets : List (List Member)). members genesis L i ∷ sets)
    (sets_from-snoc genesis L (i + 1) n ∙ ap (λ (k : ℕ). sets_from genesis L (i + 1) n ++ members genesis L k ∷ []) e)

sets_from-append : (genesis : Genesis) (L rest : List Command) (i n : ℕ) → i + n ≤ length L + genesis.alpha + 1
    → sets_from genesis (L ++ rest) i n ≡ sets_from genesis L i n
sets_from-append genesis L rest i zero h = refl
sets_from-append genesis L rest i (suc n) h =
    let first = members_stay genesis L rest i (omega arith) in
    let more = sets_from-append genesis L rest (i + 1) n (omega arith) in
    cc

pub get_or-sets_from : (genesis : Genesis) (L : List Command) (i n k : ℕ) (d : List Member) → k < n
    → get_or (sets_from genesis L i n) k d ≡ members genesis L (i + k)
get_or-sets_from genesis L i zero k d h = absurd (omega arith)
get_or-sets_from genesis L i (suc n) zero d h = let e : i ≡ i + 0 = omega arith in ap (members genesis L) e
get_or-sets_from genesis L i (suc n) (suc k) d h =
    let e : i + 1 + k ≡ i + suc k = omega arith in
    get_or-sets_from genesis L (i + 1) n k d (omega arith) ∙ ap (members genesis L) e

-- the window of the list, for any count of positions ahead
windows : (genesis : Genesis) (L : List Command) (c : Command) (n : ℕ) → genesis.alpha ≡ n → 0 < n
    → sets_from genesis (L ++ c ∷ []) (length (L ++ c ∷ []) + 1) n ≡ drop 1 (sets_from genesis L (length L + 1) n)
    ++ (roster_of genesis (L ++ c ∷ [])).members ∷ []
windows genesis L c zero e h = absurd (omega arith)
windows genesis L c (suc n) e h =
    let K : List Command = L ++ c ∷ [] in
    let len : length K ≡ length L + 1 = length-append L (c ∷ []) in
    let more = sets_from-snoc genesis K (length K + 1) n in
    let same = sets_from-append genesis L (c ∷ []) (length K + 1) n (omega arith) in
    let start : length K + 1 ≡ length L + 1 + 1 = omega arith in
    let same_start = ap (λ (i : ℕ). sets_from genesis L i n) start in
    let last = members-newest genesis K (length K + 1 + n) (omega arith) in
    cc

newest_is : (genesis : Genesis) (L : List Command) → 0 < genesis.alpha
    → newest (sets_from genesis L (length L + 1) genesis.alpha) ≡ (roster_of genesis L).members
newest_is genesis L h =
    let len = length-sets_from genesis L (length L + 1) genesis.alpha in
    let lt : genesis.alpha - 1 < genesis.alpha = omega arith in
    ap (λ (n : ℕ). get_or (sets_from genesis L (length L + 1) genesis.alpha) (n - 1) []) len
    ∙ get_or-sets_from genesis L (length L + 1) genesis.alpha (genesis.alpha - 1) [] lt
    ∙ members-newest genesis L (length L + 1 + (genesis.alpha - 1)) (omega arith)

-- the roster that the window of a list ends with is the list's
pub newest_roster-roster_after : (genesis : Genesis) (L : List Command) → 0 < genesis.alpha
    → newest_roster (roster_after genesis L) ≡ roster_of genesis L
unfolding roster_after
newest_roster-roster_after genesis L h =
    ap (λ (ms : List Member). let r : PlainRoster =
    record { members = ms; greatest = (roster_of genesis L).greatest } in r) (newest_is genesis L h)

-- one entry more
pub roster_after-push : (genesis : Genesis) (L : List Command) (c : Command) → 0 < genesis.alpha
    → roster_after genesis (L ++ c ∷ [])
    ≡ moved (roster_behind (newest_roster (roster_after genesis L)) (in_effect L c))
    (cond (is_granted_change (newest_roster (roster_after genesis L)) (in_effect L c)) (length L + 1)
    (last_change genesis L)) (roster_after genesis L)
unfolding roster_after
roster_after-push genesis L c h =
    let K : List Command = L ++ c ∷ [] in
    let len : length K ≡ length L + 1 = length-append L (c ∷ []) in
    let plain : PlainRoster = newest_roster (roster_after genesis L) in
    let plain_is : plain ≡ roster_of genesis L = newest_roster-roster_after genesis L h in
    let sets = windows genesis L c genesis.alpha refl h in
    let behind : roster_of genesis K ≡ roster_behind plain (in_effect L c) = roster_of-push genesis L c
    ∙ ap (λ (r : PlainRoster). roster_behind r (in_effect L c)) (sym plain_is) in
    let changed : last_change genesis K
    ≡ cond (is_granted_change plain (in_effect L c)) (length L + 1) (last_change genesis L) =
    last_change-push genesis L c
    ∙ ap (λ (r : PlainRoster). cond (is_granted_change r (in_effect L c)) (length L + 1) (last_change genesis L))
    (sym plain_is) in
    let rest : List (List Member) = drop 1 (sets_from genesis L (length L + 1) genesis.alpha) in
    let sets_is : sets_from genesis K (length K + 1) genesis.alpha ≡ rest
    ++ (roster_behind plain (in_effect L c)).members ∷ [] =
    sets ∙ ap (λ (r : PlainRoster). rest ++ r.members ∷ []) behind in
    let greatest_is : (roster_of genesis K).greatest ≡ (roster_behind plain (in_effect L c)).greatest =
    ap (λ (r : PlainRoster). r.greatest) behind in
    cc

behind_no_grant : (r : PlainRoster) (op : Op) → is_granted (roster_answer r op) ≡ false → next_roster r op ≡ r
behind_no_grant r (Table body) e = refl
behind_no_grant r (Join node port) e = rw e refl
behind_no_grant r (Leave node) e = rw e refl
behind_no_grant r Raise e = refl

no_grant : (r : PlainRoster) (o : Option RequestValue) → is_granted_change r o ≡ false → roster_behind r o ≡ r
no_grant r None e = refl
no_grant r (Some q) e = behind_no_grant r q.op e

-- an entry that is granted no change
pub unchanged-sums_up : (genesis : Genesis) (L : List Command) (c : Command) → 0 < genesis.alpha
    → is_granted_change (roster_of genesis L) (in_effect L c) ≡ false
    → moved_unchanged (roster_after genesis L) ≡ roster_after genesis (L ++ c ∷ [])
unfolding roster_after
unchanged-sums_up genesis L c h none =
    let plain : PlainRoster = newest_roster (roster_after genesis L) in
    let plain_is : plain ≡ roster_of genesis L = newest_roster-roster_after genesis L h in
    let none_here : is_granted_change plain (in_effect L c) ≡ false = rw plain_is none in
    let step = roster_after-push genesis L c h in
    let stays = no_grant plain (in_effect L c) none_here in
    sym (step ∙ rw (stays, none_here) refl)

-- what a join or a leave is answered
pub change_answered : (v : RosterValue) (op known : Op) (answer : Answer) → op ≡ known
    → roster_answer (newest_roster v) known ≡ Some answer
    → (genesis : Genesis) (L : List Command) → v ≡ roster_after genesis L
    → roster_answer (roster_of genesis L) op ≡ Some answer
change_answered v op known answer is told genesis L e =
    let plain : newest_roster v ≡ roster_of genesis L = ap newest_roster e
    ∙ newest_roster-roster_after genesis L genesis.in_range.0 in
    rw (is, ← plain) told

-- a join or a leave that takes effect
pub change_sums_up : (v w : RosterValue) (op known : Op) → op ≡ known → w ≡ changed_by known v
    → (genesis : Genesis) (L : List Command) (r : RequestValue) → v ≡ roster_after genesis L → r.op ≡ op
    → in_effect L (Request r) ≡ Some r → w ≡ roster_after genesis (L ++ Request r ∷ [])
unfolding roster_after
change_sums_up v w op known is next genesis L r e same counts =
    let push : roster_after genesis (L ++ Request r ∷ []) ≡ changed_by r.op (roster_after genesis L) =
    roster_after-push genesis L (Request r) genesis.in_range.0 ∙ rw counts refl in
    next ∙ ap (λ (o : Op). changed_by o v) (sym (same ∙ is)) ∙ ap (changed_by r.op) e ∙ sym push

-- the set at an index of the window is that of the position
pub sets_from-get : (genesis : Genesis) (L : List Command) (i k : ℕ) (set : List Member) (sets : List (List Member))
    → sets ≡ (roster_after genesis L).sets → slice_get sets k ≡ Some set → i ≡ length L + 1 + k
    → set ≡ members genesis L i
unfolding roster_after
sets_from-get genesis L i k set sets e at is =
    let all : List (List Member) = sets_from genesis L (length L + 1) genesis.alpha in
    let here : slice_get all k ≡ Some set = subst (λ (s : List (List Member)). slice_get s k ≡ Some set) e at in
    let within : k < genesis.alpha =
    omega (arith, slice_get_within all k set here, length-sets_from genesis L (length L + 1) genesis.alpha) in
    sym (get_or_from_slice_get all k set [] here) ∙ get_or-sets_from genesis L (length L + 1) genesis.alpha k [] within
    ∙ ap (members genesis L) (sym is)

pub members-begin : (genesis : Genesis) (i : ℕ) → members genesis [] i ≡ genesis.members
unfolding members roster_of effects positioned
members-begin genesis i = ap (λ (l : List Command). (roster_of genesis l).members) (take-nil (i - genesis.alpha))

-- one more set of a cluster that has executed nothing
pub begins-push : (genesis : Genesis) (n : ℕ)
    → sets_from genesis [] 1 (n + 1) ≡ sets_from genesis [] 1 n ++ genesis.members ∷ []
begins-push genesis n = ap (sets_from genesis [] 1) (add-one n) ∙ sets_from-snoc genesis [] 1 n
    ∙ ap (λ (ms : List Member). sets_from genesis [] 1 n ++ ms ∷ []) (members-begin genesis (1 + n))

pub are_at_most-begin : (genesis : Genesis) (i n : ℕ)
    → are_at_most (greatest_node genesis.members) (sets_from genesis [] i n) ≡ true
are_at_most-begin genesis i zero = refl
are_at_most-begin genesis i (suc n) =
    let all = λ (s : List Member). list_all (λ m. nat_le m.node (greatest_node genesis.members)) s in
    and_from (all (members genesis [] i))
    (are_at_most (greatest_node genesis.members) (sets_from genesis [] (i + 1) n))
    (ap all (members-begin genesis i) ∙ at_most_greatest genesis.members) (are_at_most-begin genesis (i + 1) n)

-- what stands before anything is run
pub roster_after-begin : (genesis : Genesis)
    → roster_after genesis []
    ≡ record {
      executed = 0;
      sets = sets_from genesis [] 1 genesis.alpha;
      greatest = greatest_node genesis.members;
      changed = 0;
    }
unfolding roster_after roster_of effects positioned last_change
roster_after-begin genesis = refl

-- the set that decides a position is at its index of the window
pub get-sets_from : (genesis : Genesis) (L : List Command) (i n k : ℕ) → k < n
    → slice_get (sets_from genesis L i n) k ≡ Some (members genesis L (i + k))
get-sets_from genesis L i zero k h = absurd (omega arith)
get-sets_from genesis L i (suc n) zero h = let e : i ≡ i + 0 = omega arith in
    ap (λ (j : ℕ). Some (members genesis L j)) e
get-sets_from genesis L i (suc n) (suc k) h =
    let e : i + 1 + k ≡ i + suc k = omega arith in
    get-sets_from genesis L (i + 1) n k (omega arith) ∙ ap (λ (j : ℕ). Some (members genesis L j)) e

pub length_of_window : (genesis : Genesis) (L : List Command) (v : RosterValue) → v ≡ roster_after genesis L
    → length v.sets ≡ genesis.alpha
unfolding roster_after
length_of_window genesis L v e =
    ap (λ (w : RosterValue). length w.sets) e ∙ length-sets_from genesis L (length L + 1) genesis.alpha

pub set_of_window : (genesis : Genesis) (L : List Command) (v : RosterValue) (k : ℕ)
    → v ≡ roster_after genesis L → k < genesis.alpha
    → slice_get v.sets k ≡ Some (members genesis L (length L + 1 + k))
unfolding roster_after
set_of_window genesis L v k e h =
    ap (λ (w : RosterValue). slice_get w.sets k) e ∙ get-sets_from genesis L (length L + 1) genesis.alpha k h
