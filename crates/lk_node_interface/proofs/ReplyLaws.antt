-- What a client is told of a request that is not new.
use Rattle.std.proofs.Common.{◌≡◌, ℕ, ◌≤◌, ◌<◌, inl, inr, true, false, Option, Some, None, refl, subst, arith, nat_lt}
use Rattle.std.proofs.Common.{eqb}
use Rattle.std.proofs.lemmas.Bool.{cases_Bool, eqb-true, eq-eqb, lt-ltb, ltb-false, ltb-true}
use Rattle.lk_types.specs.declared.answer.Answer.{Answer}
use Rattle.lk_messages.specs.declared.message.NodeMessage.{NodeMessage}
use Rattle.lk_messages.specs.declared.message.NodeMessage.TheVariants as kinds
use Rattle.lk_state.specs.Runs.{seen_as}
use Rattle.lk_state.specs.declared.session.Session.{Session}
use Rattle.lk_state.specs.declared.whole.Seen.{Seen}
use Rattle.lk_state.specs.declared.whole.Seen.TheVariants as seen
use Rattle.lk_state.proofs.Wholes.{passed_is}
use Rattle.lk_node_interface.specs.KeptReplies.{kept_reply, session_reply}

-- what a number is told that the last one has passed
abbrev passed_by : ℕ → ℕ → ℕ → NodeMessage
passed_by client number last = kinds.Passed (record { client = client; number = number; last = last })

some_is : (a b : NodeMessage) → Some a ≡ Some b → a ≡ b
some_is a b e = cc

-- a reply to the number of the last one has its answer
pub answer_same : (client number : ℕ) (a : Answer) (reply : NodeMessage)
    → kept_reply client number (seen.Same a) ≡ Some reply
    → kinds.Answer (record { client = client; number = number; answer = a }) ≡ reply
answer_same client number a reply e = some_is _ reply e

-- a reply to a number that was passed tells the last one
pub passed_same : (client number last : ℕ) (reply : NodeMessage)
    → kept_reply client number (seen.Passed last) ≡ Some reply → passed_by client number last ≡ reply
passed_same client number last reply e =
    elim (cases_Bool (nat_lt number last)) [
      | inl below ↦ (let same : Some (passed_by client number last) ≡ Some reply = rw below at e in some_is _ _ same)
      | inr other ↦ (let bad : None ≡ Some reply = rw other at e in absurd cc)
    ]

-- one with none is new
pub none_is_new : (o : Option Session) (client number : ℕ) → kept_reply client number (seen_as o number) ≡ None
    → seen_as o number ≡ seen.New
none_is_new o client number e = by_seen (seen_as o number) refl e
  where
    by_seen : (x : Seen) → seen_as o number ≡ x → kept_reply client number x ≡ None → x ≡ seen.New
    by_seen seen.New is none = refl
    by_seen (seen.Same a) is none = absurd (cc none)
    by_seen (seen.Passed last) is none =
        let s = passed_is o number last is in
        let below : number < last = subst (λ (n : ℕ). number < n) s.2 s.3 in
        let bad : Some (passed_by client number last) ≡ None = rw (lt-ltb number last below) at none in
        absurd cc

-- a waiting number that a session has reached is told of it
pub reached_is_told : (s : Session) (number : ℕ) → number ≤ s.number
    → kept_reply s.client number (seen_as (Some s) number) ≡ Some (session_reply s number)
reached_is_told s number le =
    elim (cases_Bool (nat_lt number s.number)) [
      | inl below ↦ rw (other below, below, below) refl
      | inr above ↦ (let same : number ≡ s.number = omega (arith, le, ltb-false number s.number above) in
          rw (equal same, above) refl)
    ]
  where
    equal : number ≡ s.number → eqb number s.number ≡ true
    equal same = eq-eqb number s.number same

    other : nat_lt number s.number ≡ true → eqb number s.number ≡ false
    other below =
        elim (cases_Bool (eqb number s.number)) [
          | inl is ↦
              (let bad : ⊥ = omega (arith, eqb-true number s.number is, ltb-true number s.number below) in absurd bad)
          | inr isnt ↦ isnt
        ]
