-- A node to which nothing but ticks comes counts them, until they are enough: then it begins a ballot, and goes on
-- having a term.
use Rattle.std.proofs.Common.{◌≡◌, ◌∙◌, ℕ, ◌+◌, ◌*◌, ◌<◌, ◌≤◌, ◌⊎◌, inl, inr, true, false, List, [], ◌∷◌, Option, Some}
use Rattle.std.proofs.Common.{None, refl, sym, ap, subst, arith}
use Rattle.std.proofs.lemmas.Bool.Decides.{nat_tests}
use Rattle.lk_types.specs.BallotValue.{BallotValue}
use Rattle.lk_types.specs.declared.vote.Vote.{Vote}
use Rattle.lk_leader.specs.Terms.{TermValue, begun}
use Rattle.lk_node_interface.specs.Outboxes.{OutboxValue, nothing}
use Rattle.lk_node_interface.specs.Ticks.{is_enough}
use Rattle.lk_node.specs.Beginning.{next_ballot, beginning, BeginsBallot}
use Rattle.lk_node.specs.Leading.{having_proposed, ProposesAll, ProposesVote}
use Rattle.lk_node.specs.NodeValue.{NodeValue}
use Rattle.lk_node.specs.Reminding.{Ticks}
use Rattle.lk_node.specs.Waiting.{ticked, index_of, BeginsWhereDue}
use Rattle.lk_progress.specs.Ticking.{TakesTicks, no_tick, one_more, HasTerm, MayBegin, IsOutsider}
use Rattle.lk_progress.specs.Ticking.{StaysSilent}

-- it has no term after this many ticks: it has counted them, and they are not enough
record Waits (index k : ℕ) (node : NodeValue) : Type 0 where
  may : MayBegin node index
  idle : node.leader.term ≡ None
  counted : k ≤ node.ticks
  early : (k ≡ 0) ⊎ (node.ticks < 4 + 4 * index)

-- ---- a term goes on

proposed_term : (old : NodeValue) (x : Vote) (p : ProposesVote old x) → HasTerm (having_proposed old x p)
proposed_term old x p = (p.term.ballot, (_, refl, refl))

proposes_term : (xs : List Vote) (old new : NodeValue) (before out : OutboxValue) → ProposesAll xs old new before out
    → HasTerm old → HasTerm new
proposes_term [] old new before out all term = subst HasTerm (sym all.1) term
proposes_term (x ∷ xs) old new before out all term =
    proposes_term xs (having_proposed old x all.0) new _ out all.1 (proposed_term old x all.0)

none_has_term : (node : NodeValue) → node.leader.term ≡ None → HasTerm node → ⊥
none_has_term node none term = cc (sym none ∙ term.1.1)

term_stays : (mid new : NodeValue) (out : OutboxValue) → Ticks mid new out → HasTerm mid → HasTerm new
term_stays mid new out (inl reminds) term =
    proposes_term reminds.2.proposes.0 mid new _ _ reminds.2.proposes.1 term
term_stays mid new out (inr waits) term = absurd (none_has_term mid waits.0 term)

-- ---- one more tick

begun_term : (b : BallotValue) (old new : NodeValue) (out : OutboxValue) → BeginsBallot b old new out → HasTerm new
begun_term b old new out begins =
    let has : HasTerm (beginning b old) = (b, (begun b, refl, refl)) in subst HasTerm (sym begins.becomes) has

late : (ticks index : ℕ) → is_enough ticks (Some index) ≡ false → ticks < 4 + 4 * index
late ticks index e = grind (arith, nat_tests)

still_early : (mid : NodeValue) (index k : ℕ) → Waits index k mid
    → is_enough (ticked mid).ticks (index_of (ticked mid)) ≡ false → Waits index (k + 1) (ticked mid)
still_early mid index k w e =
    let early : (ticked mid).ticks < 4 + 4 * index = late (ticked mid).ticks index
    (subst (λ (o : Option ℕ). is_enough (ticked mid).ticks o ≡ false) w.may.member e) in
    record {
      may = record { member = w.may.member; few = w.may.few; round = w.may.round };
      idle = w.idle;
      counted = omega (arith, w.counted, w.may.few, early);
      early = inr early;
    }

waits_more : (mid new : NodeValue) (out : OutboxValue) (index k : ℕ) → Waits index k mid
    → BeginsWhereDue (ticked mid) new out → Waits index (k + 1) new ⊎ HasTerm new
waits_more mid new out index k w (inl begins) = inr (begun_term (next_ballot (ticked mid)) _ new out begins.1)
waits_more mid new out index k w (inr (inl few, same, silent)) =
    inl (subst (Waits index (k + 1)) (sym same) (still_early mid index k w few))
waits_more mid new out index k w (inr (inr last, same, silent)) = absurd (omega (arith, last, w.may.round))

tick_more : (mid new : NodeValue) (out : OutboxValue) (index k : ℕ) → Waits index k mid → Ticks mid new out
    → Waits index (k + 1) new ⊎ HasTerm new
tick_more mid new out index k w (inl reminds) = absurd (none_has_term mid w.idle (reminds.0, reminds.1))
tick_more mid new out index k w (inr waits) = waits_more mid new out index k w waits.1

-- ---- all of them

at_first : (first : NodeValue) (index : ℕ) → MayBegin first index → (o : Option TermValue) → first.leader.term ≡ o
    → Waits index 0 first ⊎ HasTerm first
at_first first index may None is = inl (record { may = may; idle = is; counted = omega arith; early = inl refl })
at_first first index may (Some t) is = inr (t.ballot, (t, is, refl))

after : (first : NodeValue) (index k : ℕ) (last : NodeValue) → MayBegin first index → TakesTicks first k last
    → Waits index k last ⊎ HasTerm last
after first index _ _ may no_tick = at_first first index may first.leader.term refl
after first index _ new may (one_more out so_far tick) =
    elim (after first index _ _ may so_far) [
      | inl waits ↦ tick_more _ new out index _ waits tick
      | inr term ↦ inr (term_stays _ new out tick term)
    ]

pub ticks_elect : (first last : NodeValue) (index k : ℕ) → MayBegin first index → TakesTicks first k last
    → 4 + 4 * index ≤ k → HasTerm last
ticks_elect first last index k may run enough =
    elim (after first index k last may run) [ inl waits ↦ absurd (too_many waits) | inr term ↦ term ]
  where
    too_many : Waits index k last → ⊥
    too_many w = elim w.early [ inl none ↦ omega (arith, none, enough) | inr early ↦ omega (arith, early, w.counted) ]

-- ---- whoever is no member

never_enough : (ticks : ℕ) (o : Option ℕ) → o ≡ None → is_enough ticks o ≡ true → ⊥
never_enough ticks None e enough = cc enough
never_enough ticks (Some index) e enough = cc e

rests_outside : (old new : NodeValue) (out : OutboxValue) → IsOutsider old → new ≡ ticked old → out ≡ nothing
    → StaysSilent new out
rests_outside old new out o same silent =
    let still : IsOutsider (ticked old) = record { idle = o.idle; outside = o.outside } in
    record { still = subst IsOutsider (sym same) still; no_envelopes = ap (λ (x : OutboxValue). x.envelopes) silent }

pub outsider_silent : (old new : NodeValue) (out : OutboxValue) → IsOutsider old → Ticks old new out
    → StaysSilent new out
outsider_silent old new out o (inl reminds) = absurd (none_has_term old o.idle (reminds.0, reminds.1))
outsider_silent old new out o (inr waits) = elim waits.1 [
  | inl begins ↦ absurd (never_enough (ticked old).ticks (index_of (ticked old)) o.outside begins.0)
  | inr rests ↦ rests_outside old new out o rests.1 rests.2
]
