-- The test is right: it holds exactly where the cluster is served.
use Rattle.std.proofs.Common.{◌≡◌, ◌⊎◌, ◌<◌, ◌*◌, ℕ, Bool, true, false, ◌&&◌, ◌||◌, List, [], ◌∷◌, length, Option, Some}
use Rattle.std.proofs.Common.{None, refl, sym, ap, subst, ◌∙◌, inl, inr}
use Rattle.std.specs.Prelude.{nat_eq}
use Rattle.std.specs.Cmp.Lexicographic.{pointwise}
use Rattle.std.specs.List.{AllByRecursion}
use Rattle.std.proofs.lemmas.Bool.{ltb-true, lt-ltb}
use lib.Pointwise.{bytes_decides}
use Rattle.lk_probe.specs.declared.probe.Report.{Report}
use Rattle.lk_probe.specs.Grammar.{heard_of}
use Rattle.lk_status.specs.Verdicts.{IsAmong, has_followers, IsServed, some_leads, all_name, one_genesis, is_served}
use Rattle.lk_status.specs.Verdicts.{hears_enough, HearsMajority, is_enough}
use Rattle.lk_status.specs.States.{one_state}
use Rattle.lk_status.proofs.Agreeing.{agree_to, agree_from}

both_true : (a b : Bool) → (a && b) ≡ true → (a ≡ true) × (b ≡ true)
both_true true b e = (refl, e)
both_true false b e = absurd cc

either_true : (a b : Bool) → (a || b) ≡ true → (a ≡ true) ⊎ (b ≡ true)
either_true true b e = inl refl
either_true false b e = inr e

or_true : (a b : Bool) → b ≡ true → (a || b) ≡ true
or_true true b e = refl
or_true false b e = e

-- ---- who leads

-- one of these leads with a majority of those
record Leads (leaders rs : List Report) : Type 0 where
  leader : Report
  is_there : IsAmong leader leaders
  leads : leader.status.leadership.leads ≡ true
  hears : hears_enough leader ≡ true
  majority : has_followers leader rs ≡ true

leads_to : (leaders rs : List Report) → some_leads leaders rs ≡ true → Leads leaders rs
leads_to [] rs e = absurd cc
leads_to (r ∷ leaders) rs e =
    elim (either_true (r.status.leadership.leads && hears_enough r && has_followers r rs) (some_leads leaders rs) e) [
      | inl this ↦
          let both = both_true (r.status.leadership.leads && hears_enough r) (has_followers r rs) this in
          let first = both_true r.status.leadership.leads (hears_enough r) both.0 in
          record { leader = r; is_there = inl refl; leads = first.0; hears = first.1; majority = both.1 }
      | inr others ↦ let more = leads_to leaders rs others in
          record {
            leader = more.leader;
            is_there = inr more.is_there;
            leads = more.leads;
            hears = more.hears;
            majority = more.majority;
          }
    ]

leads_from : (leaders rs : List Report) (r : Report) → IsAmong r leaders → r.status.leadership.leads ≡ true
    → hears_enough r ≡ true → has_followers r rs ≡ true → some_leads leaders rs ≡ true
leads_from [] rs r there leads hears majority = absurd there
leads_from (other ∷ leaders) rs r (inl same) leads hears majority = rw (sym same, leads, hears, majority) refl
leads_from (other ∷ leaders) rs r (inr there) leads hears majority =
    or_true (other.status.leadership.leads && hears_enough other && has_followers other rs) (some_leads leaders rs)
    (leads_from leaders rs r there leads hears majority)

-- ---- whom it hears

-- the test of a report is right
heard_to : (r : Report) → hears_enough r ≡ true → HearsMajority r
heard_to r e heard is =
    let enough : is_enough (Some heard) (length r.status.members) ≡ true =
    subst (λ (o : Option ℕ). is_enough o (length r.status.members) ≡ true) is e in
    ltb-true _ _ enough

enough_of : (o : Option ℕ) (count : ℕ) → ((heard : ℕ) → o ≡ Some heard → count < 2 * heard) → is_enough o count ≡ true
enough_of None count many = refl
enough_of (Some heard) count many = lt-ltb _ _ (many heard refl)

heard_from : (r : Report) → HearsMajority r → hears_enough r ≡ true
heard_from r many = enough_of (heard_of r.reach) (length r.status.members) many

-- ---- which genesis is told

abbrev genesis_of : Report → List ℕ
genesis_of r = r.status.identity.genesis

tells_to : (genesis : List ℕ) (rs : List Report) → all_name genesis rs ≡ true
    → AllByRecursion (λ (r : Report). genesis_of r ≡ genesis) rs
tells_to genesis [] e = tt
tells_to genesis (r ∷ rs) e =
    let both = both_true (pointwise nat_eq (genesis_of r) genesis) (all_name genesis rs) e in
    ((bytes_decides (genesis_of r) genesis).0 both.0, tells_to genesis rs both.1)

tells_from : (genesis : List ℕ) (rs : List Report) → AllByRecursion (λ (r : Report). genesis_of r ≡ genesis) rs
    → all_name genesis rs ≡ true
tells_from genesis [] all = refl
tells_from genesis (r ∷ rs) all = rw ((bytes_decides (genesis_of r) genesis).1 all.0, tells_from genesis rs all.1) refl

of_one : (genesis : List ℕ) (rs : List Report) (r : Report)
    → AllByRecursion (λ (r : Report). genesis_of r ≡ genesis) rs → IsAmong r rs → genesis_of r ≡ genesis
of_one genesis [] r all there = absurd there
of_one genesis (other ∷ rs) r all (inl same) = ap genesis_of same ∙ all.0
of_one genesis (other ∷ rs) r all (inr there) = of_one genesis rs r all.1 there

as_one : (g h : List ℕ) (rs : List Report) → g ≡ h → AllByRecursion (λ (r : Report). genesis_of r ≡ g) rs
    → AllByRecursion (λ (r : Report). genesis_of r ≡ h) rs
as_one g h rs e all = subst (λ (w : List ℕ). AllByRecursion (λ (r : Report). genesis_of r ≡ w) rs) e all

one_to : (rs : List Report) (leader : Report) → IsAmong leader rs → one_genesis rs ≡ true
    → AllByRecursion (λ (r : Report). genesis_of r ≡ genesis_of leader) rs
one_to [] leader there e = absurd there
one_to (r ∷ rs) leader there e =
    let all = tells_to (genesis_of r) (r ∷ rs) e in
    as_one (genesis_of r) (genesis_of leader) (r ∷ rs) (sym (of_one (genesis_of r) (r ∷ rs) leader all there)) all

one_from : (rs : List Report) (leader : Report)
    → AllByRecursion (λ (r : Report). genesis_of r ≡ genesis_of leader) rs → one_genesis rs ≡ true
one_from [] leader all = refl
one_from (r ∷ rs) leader all =
    tells_from (genesis_of r) (r ∷ rs) (as_one (genesis_of leader) (genesis_of r) (r ∷ rs) (sym all.0) all)

-- ---- both

pub is_right : (rs : List Report) → is_served rs ≡ true → IsServed rs
is_right rs e =
    let all = both_true (some_leads rs rs && one_genesis rs) (one_state rs) e in
    let both = both_true (some_leads rs rs) (one_genesis rs) all.0 in
    let it = leads_to rs rs both.0 in
    record {
      leader = it.leader;
      is_there = it.is_there;
      leads = it.leads;
      majority = ltb-true _ _ it.majority;
      hears = heard_to it.leader it.hears;
      one_genesis = one_to rs it.leader it.is_there both.1;
      one_state = agree_to rs all.1;
    }

pub is_shown : (rs : List Report) → IsServed rs → is_served rs ≡ true
is_shown rs s =
    rw (
      leads_from rs rs s.leader s.is_there s.leads (heard_from s.leader s.hears) (lt-ltb _ _ s.majority),
      one_from rs s.leader s.one_genesis,
      agree_from rs s.one_state,
    ) refl
