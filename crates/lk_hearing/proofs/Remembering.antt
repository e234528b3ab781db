-- What a node remembers tells whom it hears by all that happened.
use Rattle.std.proofs.Common.{◌≡◌, ◌⊎◌, ◌<◌, ◌≤◌, ◌-◌, ◌==◌, ℕ, zero, suc, Bool, true, false, ◌||◌, List, [], ◌∷◌, ◌++◌}
use Rattle.std.proofs.Common.{Option, Some, None, map, take, replicate, refl, sym, ap, ◌∙◌, subst, inl, inr, arith}
use Rattle.std.proofs.lemmas.Bool.{cases_Bool, eqb-true, ltb-true, lt-ltb}
use Rattle.std.proofs.lemmas.List.{take-map}
use Rattle.lk_hearing.specs.Histories.{Came, History, remembered, count_sent, NoReply, FirstReply, IsHeardIn}
use Rattle.lk_hearing.specs.Probes.{Entries, answered_at, counts_for, having_heard, hears, is_recent, is_reply}
use Rattle.lk_hearing.specs.declared.hearing.Asked.{Asked}
use Rattle.lk_hearing.specs.declared.hearing.SentProbe.{SentProbe}
use Rattle.lk_hearing.proofs.Heard.{both_true, either_true, or_true, same}

-- a probe to which nothing has replied yet, and one whose first reply came in that period
abbrev fresh : SentProbe → Asked
fresh p = record { probe = p; replied = None }

abbrev replied_in : SentProbe → ℕ → Asked
replied_in p period = record { probe = p; replied = Some period }

-- ---- an entry after what followed, the last first

abbrev marked : History → Option Asked → Option Asked
marked [] e = e
marked (inl q ∷ since) e = marked since e
marked (inr c ∷ since) e = answered_at c.reply c.period (marked since e)

marked_none : (since : History) → marked since None ≡ None
marked_none [] = refl
marked_none (inl q ∷ since) = marked_none since
marked_none (inr c ∷ since) = ap (answered_at c.reply c.period) (marked_none since)

-- one report more, before all of these
marked_more : (since : History) (c : Came) (e : Option Asked)
    → marked (since ++ inr c ∷ []) e ≡ marked since (answered_at c.reply c.period e)
marked_more [] c e = refl
marked_more (inl q ∷ since) c e = marked_more since c e
marked_more (inr d ∷ since) c e = ap (answered_at d.reply d.period) (marked_more since c e)

none_marks : (p : SentProbe) (since : History) → NoReply p since → marked since (Some (fresh p)) ≡ Some (fresh p)
none_marks p [] none = refl
none_marks p (inl q ∷ since) none = none_marks p since none
none_marks p (inr c ∷ since) none =
    ap (answered_at c.reply c.period) (none_marks p since none.1)
    ∙ rw none.0 refl

first_marks : (p : SentProbe) (since : History) (period : ℕ) → FirstReply p since period
    → marked since (Some (fresh p)) ≡ Some (replied_in p period)
first_marks p [] period first = absurd first
first_marks p (inl q ∷ since) period first = first_marks p since period first
first_marks p (inr c ∷ since) period (inl earlier) =
    ap (answered_at c.reply c.period) (first_marks p since period earlier)
first_marks p (inr c ∷ since) period (inr this) =
    ap (answered_at c.reply c.period) (none_marks p since this.1)
    ∙ rw this.0 (ap (λ (n : ℕ). let x : Option Asked = Some (replied_in p n) in x) (sym this.2))

-- something has replied to it or nothing
replied_or_not : (p : SentProbe) (since : History) → NoReply p since ⊎ ((period : ℕ) × FirstReply p since period)
replied_or_not p [] = inl tt
replied_or_not p (inl q ∷ since) = replied_or_not p since
replied_or_not p (inr c ∷ since) = elim (replied_or_not p since) [
  | inr earlier ↦ inr (earlier.0, inl earlier.1)
  | inl none ↦ elim (cases_Bool (is_reply c.reply p)) [
    | inl replies ↦ inr (c.period, inr (replies, none, refl))
    | inr passes ↦ inl (passes, none)
  ]
]

-- ---- entries after what followed

abbrev any_marked : ℕ → ℕ → History → Entries → Bool
any_marked node now since [] = false
any_marked node now since (e ∷ es) = counts_for node now (marked since e) || any_marked node now since es

all_hear : (node now : ℕ) (es : Entries) → any_marked node now [] es ≡ hears node now es
all_hear node now [] = refl
all_hear node now (e ∷ es) = ap (λ (b : Bool). counts_for node now e || b) (all_hear node now es)

none_hear : (node now k n : ℕ) (since : History) → any_marked node now since (take k (replicate n None)) ≡ false
none_hear node now zero n since = refl
none_hear node now (suc k) zero since = refl
none_hear node now (suc k) (suc n) since = rw (marked_none since) (none_hear node now k n since)

heard_more : (node now k : ℕ) (since : History) (c : Came) (es : Entries)
    → any_marked node now since (take k (having_heard c.reply c.period es))
    ≡ any_marked node now (since ++ inr c ∷ []) (take k es)
heard_more node now zero since c es = refl
heard_more node now (suc k) since c [] = refl
heard_more node now (suc k) since c (e ∷ es) =
    rw (marked_more since c e)
    (ap (λ (b : Bool). counts_for node now (marked since (answered_at c.reply c.period e)) || b)
    (heard_more node now k since c es))

take_less : {X : Type 0} (k n : ℕ) (xs : List X) → k ≤ n → take k (take n xs) ≡ take k xs
take_less zero n xs h = refl
take_less (suc k) zero xs h = absurd (omega (arith, h))
take_less (suc k) (suc n) [] h = refl
take_less {X} (suc k) (suc n) (x ∷ xs) h = ap (λ (l : List X). x ∷ l) (take_less k n xs (omega (arith, h)))

-- no more than 112 are remembered
whole : (h : History) → take 112 (remembered h) ≡ remembered h
whole [] = refl
whole (inl p ∷ before) =
    ap (λ (l : Entries). Some (fresh p) ∷ l) (take_less 111 111 (remembered before) (omega arith))
whole (inr c ∷ before) =
    take-map (answered_at c.reply c.period) 112 (remembered before)
    ∙ ap (λ (l : Entries). map (answered_at c.reply c.period) l) (whole before)

-- ---- one of these probes counts, of which so many are remembered, with what followed all of them
record Found (node now k : ℕ) (since history : History) : Type 0 where
  mid : History
  probe : SentProbe
  before : History
  are : history ≡ mid ++ inl probe ∷ before
  few : count_sent mid < k
  counts : counts_for node now (marked since (marked mid (Some (fresh probe)))) ≡ true

to_found : (node now k : ℕ) (since history : History) → k ≤ 112
    → any_marked node now since (take k (remembered history)) ≡ true → Found node now k since history
to_found node now k since [] few e =
    absurd (let both : false ≡ true = sym (none_hear node now k 112 since) ∙ e in cc both)
to_found node now zero since (inl p ∷ before) few e = absurd (cc e)
to_found node now (suc k) since (inl p ∷ before) few e =
    elim (either_true (counts_for node now (marked since (Some (fresh p))))
    (any_marked node now since (take k (take 111 (remembered before)))) e) [
      | inl this ↦
          record { mid = []; probe = p; before = before; are = refl; few = omega arith; counts = this }
      | inr more ↦
          let h = to_found node now k since before (omega (arith, few))
          (sym (ap (λ (l : Entries). any_marked node now since l) (take_less k 111 (remembered before)
          (omega (arith, few)))) ∙ more) in
          record {
            mid = inl p ∷ h.mid;
            probe = h.probe;
            before = h.before;
            are = ap (λ (l : History). inl p ∷ l) h.are;
            few = omega (arith, h.few);
            counts = h.counts;
          }
    ]
to_found node now k since (inr c ∷ before) few e =
    let h = to_found node now k (since ++ inr c ∷ []) before few
    (sym (heard_more node now k since c (remembered before)) ∙ e) in
    record {
      mid = inr c ∷ h.mid;
      probe = h.probe;
      before = h.before;
      are = ap (λ (l : History). inr c ∷ l) h.are;
      few = h.few;
      counts = ap (counts_for node now) (sym (marked_more since c (marked h.mid (Some (fresh h.probe))))) ∙ h.counts;
    }

from_found : (node now k : ℕ) (since mid : History) (probe : SentProbe) (before : History) → k ≤ 112
    → count_sent mid < k → counts_for node now (marked since (marked mid (Some (fresh probe)))) ≡ true
    → any_marked node now since (take k (remembered (mid ++ inl probe ∷ before))) ≡ true
from_found node now zero since [] probe before most few counts = absurd (omega (arith, few))
from_found node now (suc k) since [] probe before most few counts = rw counts refl
from_found node now zero since (inl p ∷ mid) probe before most few counts = absurd (omega (arith, few))
from_found node now (suc k) since (inl p ∷ mid) probe before most few counts =
    or_true (counts_for node now (marked since (Some (fresh p))))
    (any_marked node now since (take k (take 111 (remembered (mid ++ inl probe ∷ before)))))
    (ap (λ (l : Entries). any_marked node now since l)
    (take_less k 111 (remembered (mid ++ inl probe ∷ before)) (omega (arith, most)))
    ∙ from_found node now k since mid probe before (omega (arith, most)) (omega (arith, few)) counts)
from_found node now k since (inr c ∷ mid) probe before most few counts =
    heard_more node now k since c (remembered (mid ++ inl probe ∷ before))
    ∙ from_found node now k (since ++ inr c ∷ []) mid probe before most few
    (ap (counts_for node now) (marked_more since c (marked mid (Some (fresh probe)))) ∙ counts)

-- ---- the probe counts where its first reply is recent

counts_first : (node now : ℕ) (p : SentProbe) (since : History)
    → counts_for node now (marked since (Some (fresh p))) ≡ true
    → (p.node ≡ node) × ((period : ℕ) × FirstReply p since period × (now - period < 8))
counts_first node now p since counts = elim (replied_or_not p since) [
  | inl none ↦
      let both = both_true (p.node == node) false (sym (ap (counts_for node now) (none_marks p since none)) ∙ counts) in
      absurd (cc both.1)
  | inr first ↦
      let both = both_true (p.node == node) (is_recent now (Some first.0))
      (sym (ap (counts_for node now) (first_marks p since first.0 first.1)) ∙ counts) in
      (eqb-true _ _ both.0, (first.0, first.1, ltb-true _ _ both.1))
]

first_counts : (node now : ℕ) (p : SentProbe) (since : History) (period : ℕ) → p.node ≡ node
    → FirstReply p since period → now - period < 8 → counts_for node now (marked since (Some (fresh p))) ≡ true
first_counts node now p since period to first recent =
    ap (counts_for node now) (first_marks p since period first) ∙ rw (to, same node) (lt-ltb _ _ recent)

pub to_heard_in : (node now : ℕ) (h : History) → hears node now (remembered h) ≡ true → IsHeardIn node now h
to_heard_in node now h e =
    let f = to_found node now 112 [] h (omega arith)
    (ap (any_marked node now []) (whole h) ∙ all_hear node now (remembered h) ∙ e) in
    let is = counts_first node now f.probe f.mid f.counts in
    record {
      since = f.mid;
      probe = f.probe;
      before = f.before;
      are = f.are;
      few = f.few;
      to = is.0;
      period = is.1.0;
      first = is.1.1;
      recent = is.1.2;
    }

pub from_heard_in : (node now : ℕ) (h : History) → IsHeardIn node now h → hears node now (remembered h) ≡ true
from_heard_in node now h is =
    let all = is.since ++ inl is.probe ∷ is.before in
    subst (λ (x : History). hears node now (remembered x) ≡ true) (sym is.are)
    (sym (all_hear node now (remembered all)) ∙ sym (ap (any_marked node now []) (whole all))
    ∙ from_found node now 112 [] is.since is.probe is.before (omega arith) is.few
    (first_counts node now is.probe is.since is.period is.to is.first is.recent))
