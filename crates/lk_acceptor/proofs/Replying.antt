-- What an acceptor replies it may send and is covered, what it writes bears that out, and there is one reply.
use Rattle.std.proofs.Common.{◌≡◌, ℕ, ◌<◌, ◌≤◌, ◌⊎◌, inl, inr, Bool, true, false, cond, List, Contains, Option, Some}
use Rattle.std.proofs.Common.{None, refl, sym, ap, subst, ◌∙◌}
use Rattle.std.proofs.lemmas.Bool.{lt-ltb}
use Rattle.lk_types.specs.BallotValue.{BallotValue}
use Rattle.lk_types.specs.Ballots.{IsBelow, IsAtMost, is_below}
use Rattle.lk_types.specs.declared.entry.Entry.{Entry}
use Rattle.lk_types.specs.declared.entry.Entry.TheVariants as entry
use Rattle.lk_types.specs.declared.vote.Vote.{Vote}
use Rattle.lk_types.proofs.Values.{test_of_below}
use Rattle.lk_agreement_laws.specs.Acceptors.{AcceptorState, Covers}
use Rattle.lk_agreement_laws.specs.Changes.{with_promise}
use Rattle.lk_agreement_laws.specs.Datagrams.{Genesis, Datagram}
use Rattle.lk_agreement_laws.specs.Nodes.{PaxosState, MayPromise, MaySend}
use Rattle.lk_agreement_laws.proofs.Histories.{below_self, filtered_may_promise}
use Rattle.lk_acceptor.specs.AcceptorValue.{AcceptorValue}
use Rattle.lk_acceptor.specs.Replies.{Refuses, RepliesToPrepare, RepliesToAccept}
use Rattle.lk_acceptor.specs.States.{IsOrdered, greater, with_vote, acceptor_with, with_written}
use Rattle.lk_store_format.specs.VoteLists.{votes_with}
use Rattle.lk_acceptor.specs.VoteLists.{votes_from}
use Rattle.lk_acceptor.specs.declared.response.Response.{Response}
use Rattle.lk_acceptor.proofs.Keeping.{still_kept, takes_vote}

state_of : {a new : AcceptorValue} → new ≡ a → new.state ≡ a.state
state_of e = ap (λ (v : AcceptorValue). v.state) e

-- ---- it may be sent

module _ (genesis : Genesis) (sent : List Datagram) (w : PaxosState) where
  pub prepare_may : (a : AcceptorValue) (e : ℕ) (b : BallotValue) (first : ℕ) (r : Response) (new : AcceptorValue)
      → RepliesToPrepare a e b first r new → w.acceptor ≡ new.state → MaySend genesis sent w r.reply
  prepare_may a e b first r new (inl yes') held =
      subst (MaySend genesis sent w) (sym yes'.1.reply)
      (subst (λ (s : AcceptorState). MayPromise s
      (record { ballot = b; first = first; votes = votes_from first a.state.votes }))
      (sym (held ∙ state_of yes'.1.state))
      (filtered_may_promise (with_promise a.state b)
      (record { ballot = b; first = first; votes = votes_from first a.state.votes }) refl yes'.0.above refl))
  prepare_may a e b first r new (inr no') held = subst (MaySend genesis sent w) (sym no'.1.reply) tt

  pub accept_may : (a : AcceptorValue) (e : ℕ) (x : Vote) (r : Response) (new : AcceptorValue) → IsOrdered a.state
      → RepliesToAccept a e x r new → w.acceptor ≡ new.state → MaySend genesis sent w r.reply
  accept_may a e x r new k (inl yes') held =
      subst (MaySend genesis sent w) (sym yes'.1.reply)
      (subst (λ (s : AcceptorState). (s.promised ≡ x.ballot) × Contains s.votes x) (sym (held ∙ state_of yes'.1.state))
      (refl, (takes_vote a.state x k yes'.0.ballot yes'.0.agree).kept))
  accept_may a e x r new k (inr no') held = subst (MaySend genesis sent w) (sym no'.1.reply) tt

-- ---- it is covered

pub prepare_covered : (a : AcceptorValue) (e : ℕ) (b : BallotValue) (first : ℕ) (r : Response) (new : AcceptorValue)
    → RepliesToPrepare a e b first r new → Covers new.state r.reply
prepare_covered a e b first r new (inl yes') =
    subst (Covers new.state) (sym yes'.1.reply) (inr (sym (ap (λ (v : AcceptorValue). v.state.promised) yes'.1.state)))
prepare_covered a e b first r new (inr no') = subst (Covers new.state) (sym no'.1.reply) tt

pub accept_covered : (a : AcceptorValue) (e : ℕ) (x : Vote) (r : Response) (new : AcceptorValue) → IsOrdered a.state
    → RepliesToAccept a e x r new → Covers new.state r.reply
accept_covered a e x r new k (inl yes') =
    subst (Covers new.state) (sym yes'.1.reply)
    (subst (λ (s : AcceptorState). IsAtMost x.ballot s.promised
    × ((x.position ≤ s.snapshot_position)
    ⊎ ((y : Vote) × Contains s.votes y × (y.position ≡ x.position)
    × (IsBelow x.ballot y.ballot ⊎ ((y.ballot ≡ x.ballot) × (y.command ≡ x.command))))))
    (sym (state_of yes'.1.state))
    (inr refl, inr (x, (takes_vote a.state x k yes'.0.ballot yes'.0.agree).kept, refl, inr (refl, refl))))
accept_covered a e x r new k (inr no') = subst (Covers new.state) (sym no'.1.reply) tt

-- ---- what is written bears it out

greater_right : (b c : BallotValue) → IsAtMost b c → greater b c ≡ c
greater_right b c (inl below) = ap (λ (t : Bool). cond t c b) (test_of_below b c below)
greater_right b c (inr same) = by_test (is_below b c)
  where
    by_test : (t : Bool) → cond t c b ≡ c
    by_test true = refl
    by_test false = same

pub own_written : (s : AcceptorState) (b : BallotValue) → IsBelow s.promised b
    → with_promise s b ≡ acceptor_with (entry.Promise b) s
own_written s b below = ap (with_promise s) (sym (greater_right s.promised b (inl below)))

pub vote_written : (s : AcceptorState) (x : Vote) → IsAtMost s.promised x.ballot → s.snapshot_position < x.position
    → with_vote s x ≡ acceptor_with (entry.Vote x) s
vote_written s x most above = λ i. record {
  promised = sym (greater_right s.promised x.ballot most) i;
  votes =
      sym (ap (λ (t : Bool). cond t (votes_with x s.votes) s.votes) (lt-ltb s.snapshot_position x.position above)) i;
  snapshot_position = s.snapshot_position;
}

written_is : (s : AcceptorState) (o p : Option Entry) → o ≡ p → with_written p s ≡ with_written o s
written_is s o p e = ap (λ (q : Option Entry). with_written q s) (sym e)

pub prepare_written : (a : AcceptorValue) (e : ℕ) (b : BallotValue) (first : ℕ) (r : Response) (new : AcceptorValue)
    → RepliesToPrepare a e b first r new → new.state ≡ with_written r.entry a.state
prepare_written a e b first r new (inl yes') = elim yes'.1.entry [
  | inl above ↦ state_of yes'.1.state ∙ own_written a.state b above.0
      ∙ written_is a.state r.entry (Some (entry.Promise b)) above.1
  | inr same ↦ state_of yes'.1.state ∙ ap (with_promise a.state) (sym same.0) ∙ written_is a.state r.entry None same.1
]
prepare_written a e b first r new (inr no') = state_of no'.1.state ∙ written_is a.state r.entry None no'.1.entry

pub accept_written : (a : AcceptorValue) (e : ℕ) (x : Vote) (r : Response) (new : AcceptorValue) → IsOrdered a.state
    → RepliesToAccept a e x r new → new.state ≡ with_written r.entry a.state
accept_written a e x r new k (inl yes') = elim yes'.1.entry [
  | inl listed ↦
      state_of yes'.1.state ∙ still_kept a.state x k yes'.0.ballot listed.0 ∙ written_is a.state r.entry None listed.1
  | inr fresh ↦ state_of yes'.1.state ∙ vote_written a.state x yes'.0.ballot yes'.0.above
      ∙ written_is a.state r.entry (Some (entry.Vote x)) fresh.1
]
accept_written a e x r new k (inr no') = state_of no'.1.state ∙ written_is a.state r.entry None no'.1.entry

-- ---- there is one reply

same_response : (r q : Response) → r.reply ≡ q.reply → r.entry ≡ q.entry → r ≡ q
same_response r q a b = λ i. record { reply = a i; entry = b i }

either_entry : (r q : Response) (P Q : Type 0) (o p : Option Entry) → (P → Q → ⊥)
    → (P × (r.entry ≡ o)) ⊎ (Q × (r.entry ≡ p)) → (P × (q.entry ≡ o)) ⊎ (Q × (q.entry ≡ p)) → r.entry ≡ q.entry
either_entry r q P Q o p apart (inl f) (inl g) = f.1 ∙ sym g.1
either_entry r q P Q o p apart (inl f) (inr g) = absurd (apart f.0 g.0)
either_entry r q P Q o p apart (inr f) (inl g) = absurd (apart g.0 f.0)
either_entry r q P Q o p apart (inr f) (inr g) = f.1 ∙ sym g.1

refused_once : (a : AcceptorValue) (e : ℕ) (b : BallotValue) (r q : Response) (new other : AcceptorValue)
    → Refuses a e b r new → Refuses a e b q other → (r ≡ q) × (new ≡ other)
refused_once a e b r q new other f g =
    (same_response r q (f.reply ∙ sym g.reply) (f.entry ∙ sym g.entry), f.state ∙ sym g.state)

pub prepare_once : (a : AcceptorValue) (e : ℕ) (b : BallotValue) (first : ℕ) (r q : Response)
    (new other : AcceptorValue) → RepliesToPrepare a e b first r new → RepliesToPrepare a e b first q other
    → (r ≡ q) × (new ≡ other)
prepare_once a e b first r q new other (inl f) (inl g) = (
  same_response r q (f.1.reply ∙ sym g.1.reply)
      (either_entry r q (IsBelow a.state.promised b)
      (a.state.promised ≡ b) _ _ (λ lt same. below_self b (subst (λ (c : BallotValue). IsBelow c b) same lt)) f.1.entry
      g.1.entry),
  f.1.state ∙ sym g.1.state,
)
prepare_once a e b first r q new other (inl f) (inr g) = absurd (g.0 f.0)
prepare_once a e b first r q new other (inr f) (inl g) = absurd (f.0 g.0)
prepare_once a e b first r q new other (inr f) (inr g) = refused_once a e b r q new other f.1 g.1

pub accept_once : (a : AcceptorValue) (e : ℕ) (x : Vote) (r q : Response) (new other : AcceptorValue)
    → RepliesToAccept a e x r new → RepliesToAccept a e x q other → (r ≡ q) × (new ≡ other)
accept_once a e x r q new other (inl f) (inl g) = (
  same_response r q (f.1.reply ∙ sym g.1.reply)
      (either_entry r q (Contains a.state.votes x)
      (Contains a.state.votes x → ⊥) _ _ (λ listed no'. no' listed) f.1.entry g.1.entry),
  f.1.state ∙ sym g.1.state,
)
accept_once a e x r q new other (inl f) (inr g) = absurd (g.0 f.0)
accept_once a e x r q new other (inr f) (inl g) = absurd (f.0 g.0)
accept_once a e x r q new other (inr f) (inr g) = refused_once a e x.ballot r q new other f.1 g.1
