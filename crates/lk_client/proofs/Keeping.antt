-- A client that asks its places in turn keeps the rule: it has sent its request alone, and returns what a datagram
-- says.
use Rattle.std.proofs.Common.{◌≡◌, ◌∙◌, ◌++◌, ◌<◌, ◌≤◌, List, ℕ, Option, Some, None, [], ◌∷◌, length, take, arith}
use Rattle.std.proofs.Common.{append_assoc, append-nil, ap, sym, subst, inl, inr}
use Rattle.std.specs.Prelude.{Result, Ok, Err, IfOk, OnErr, IfSome}
use Rattle.std.specs.List.{AllByRecursion}
use Rattle.std.specs.declared.net.socket_addr.SocketAddr.{SocketAddr}
use Rattle.lk_transport.specs.Chains.{Chain}
use Rattle.lk_client.specs.Questions.{Endpoint, Asker, IsAsked, IsReply, HearsNext, followed_to, ended_by, SendsOnce}
use Rattle.lk_client.specs.Questions.{SendsEach, Receives, WaitsFor, Tries, TriesInVain, TriesUntil, Exchanges}
use Rattle.lk_client.specs.Questions.{own_place}
use Rattle.lk_client.specs.Rules.{SendsOnly, IsReplied, KeepsRule, AsksInTurn}
use Rattle.lk_client.specs.declared.destination.Place.{Place}
use Rattle.lk_client.specs.declared.question.Heard.{Heard}
use Rattle.lk_client.specs.declared.question.Heard.TheVariants.{Nothing, Other, Reply}
use Rattle.lk_client.specs.declared.question.Question.{Question}
use Rattle.lk_client.specs.declared.reply.Reply.{Reply as ReplyValue}
use Rattle.lk_client.specs.declared.reply.Reply.TheVariants.{Answer, Passed, Elsewhere}

-- ---- what was sent is the request alone

abbrev Datagrams : Type 0
Datagrams = List (SocketAddr × List ℕ)

pub all_both : {A : Type 0} (P : A → Type 0) (first second : List A) → AllByRecursion P first → AllByRecursion P second
    → AllByRecursion P (first ++ second)
all_both P [] second one two = two
all_both P (x ∷ xs) second one two = (one.0, all_both P xs second one.1 two)

only_nothing : (q : Question) (old new : Datagrams) → new ≡ old → SendsOnly q old new
only_nothing q old new same = record { more = []; behind = same ∙ sym (append-nil old); same = tt }

only_both : {q : Question} {old mid new : Datagrams} → SendsOnly q old mid → SendsOnly q mid new → SendsOnly q old new
only_both {q = q} {old = old} one two = record {
  more = one.more ++ two.more;
  behind = two.behind ∙ ap (λ (l : Datagrams). l ++ two.more) one.behind ∙ append_assoc old one.more two.more;
  same = all_both (λ (d : SocketAddr × List ℕ). IsAsked q d.1) one.more two.more one.same two.same;
}

only_once : (q : Question) (endpoint : Endpoint) (bytes : List ℕ) (old : Datagrams) (f : ℕ) (new : Datagrams) (g : ℕ)
    → IsAsked q bytes → SendsOnce endpoint bytes old f new g
    → SendsOnly q old new
only_once q endpoint bytes old f new g asked (inl s) =
    record { more = (s.0, bytes) ∷ []; behind = s.2; same = (asked, tt) }
only_once q endpoint bytes old f new g asked (inr none) = only_nothing q old new none.0

only_each : (q : Question) (endpoints : List Endpoint) (bytes : List ℕ) (old : Datagrams) (f : ℕ) (new : Datagrams)
    (g : ℕ)
    → IsAsked q bytes → SendsEach endpoints bytes old f new g
    → SendsOnly q old new
only_each q [] bytes old f new g asked s = only_nothing q old new s.0
only_each q (endpoint ∷ endpoints) bytes old f new g asked s =
    only_both (only_once q endpoint bytes old f s.0 s.1 asked s.2) (only_each q endpoints bytes s.0 s.1 new g asked s.3)

module _ {S : Type 0} (sent : S → List (SocketAddr × List ℕ)) (failures : S → ℕ)
    (next : S → Option (SocketAddr × List ℕ)) (q : Question) where
  pub only_receive : {bytes : List ℕ} {told : Option ReplyValue} {old new : Asker S} → IsAsked q bytes
      → Receives sent failures next q bytes told old new
      → SendsOnly q (sent old.socket) (sent new.socket)
  only_receive {bytes = bytes} {old = old} {new = new} asked r =
      only_each q (followed_to q.destination r.heard old.followed) bytes (sent old.socket) (failures old.socket)
      (sent new.socket) (failures new.socket) asked r.sends

  only_receives : (bytes : List ℕ) (first : Asker S) (states : List (Asker S)) (last : Asker S) → IsAsked q bytes
      → Chain (Receives sent failures next q bytes None) first states last
      → SendsOnly q (sent first.socket) (sent last.socket)
  only_receives bytes first [] last asked c =
      only_nothing q (sent first.socket) (sent last.socket) (ap (λ (s : Asker S). sent s.socket) c)
  only_receives bytes first (state ∷ states) last asked c =
      only_both (only_receive asked c.0) (only_receives bytes state states last asked c.1)

  only_waits : (most : ℕ) (bytes : List ℕ) (told : Option ReplyValue) (old new : Asker S) → IsAsked q bytes
      → WaitsFor sent failures next q most bytes told old new
      → SendsOnly q (sent old.socket) (sent new.socket)
  only_waits most bytes None old new asked w = only_receives bytes old w.states new asked w.chain
  only_waits most bytes (Some reply) old new asked w =
      only_both (only_receives bytes old w.3.states w.2 asked w.3.chain) (only_receive asked w.4)

  only_tries : {most : ℕ} {place : Place} {bytes : List ℕ} {told : Option ReplyValue} {old new : Asker S}
      → IsAsked q bytes
      → Tries sent failures next q most place bytes told old new
      → SendsOnly q (sent old.socket) (sent new.socket)
  only_tries {most = most} {place = place} {bytes = bytes} {told = told} {old = old} {new = new} asked t =
      only_both (only_once q (place.address, place.port) bytes (sent old.socket) (failures old.socket)
      (sent t.asked_on)
      (failures t.asked_on) asked t.asks)
      (only_waits most bytes told (record { socket = t.asked_on; followed = old.followed }) new asked t.waits)

  only_vain : (most : ℕ) (places : List Place) (bytes : List ℕ) (old new : Asker S) → IsAsked q bytes
      → TriesInVain sent failures next q most places bytes old new
      → SendsOnly q (sent old.socket) (sent new.socket)
  only_vain most [] bytes old new asked v =
      only_nothing q (sent old.socket) (sent new.socket) (ap (λ (s : Asker S). sent s.socket) v)
  only_vain most (place ∷ places) bytes old new asked v =
      only_both (only_tries asked v.1) (only_vain most places bytes v.0 new asked v.2)

  only_until : (most : ℕ) (places : List Place) (bytes : List ℕ) (told : Option ReplyValue) (old new : Asker S)
      → IsAsked q bytes
      → TriesUntil sent failures next q most places bytes told old new
      → SendsOnly q (sent old.socket) (sent new.socket)
  only_until most places bytes None old new asked u = only_vain most places bytes old new asked u
  only_until most places bytes (Some reply) old new asked u =
      only_both (only_vain most (take u.0 places) bytes old u.3 asked u.4) (only_tries asked u.5)

-- ---- what is returned was said by a datagram

some_same : (x y : ReplyValue) → Some x ≡ Some y → x ≡ y
some_same x y e = cc e

module _ {S : Type 0} (sent : S → List (SocketAddr × List ℕ)) (failures : S → ℕ)
    (next : S → Option (SocketAddr × List ℕ)) (q : Question) where
  replied_by : (reply : ReplyValue) (heard : Heard) (bytes : List ℕ) (old new : Asker S) → Some reply ≡ ended_by heard
      → HearsNext q (next old.socket) heard
      → SendsEach (followed_to q.destination heard old.followed) bytes (sent old.socket) (failures old.socket)
      (sent new.socket) (failures new.socket)
      → IsReplied sent next q reply new.socket
  replied_by reply (Reply (Answer a)) bytes old new is hears sends = record {
    last = old.socket;
    datagram = hears.0;
    came = hears.1;
    says = subst (λ (r : ReplyValue). IsReply q hears.0.1 r) (sym (some_same reply (Answer a) is)) hears.2;
    silent = sends.0;
  }
  replied_by reply (Reply (Passed greater)) bytes old new is hears sends = record {
    last = old.socket;
    datagram = hears.0;
    came = hears.1;
    says = subst (λ (r : ReplyValue). IsReply q hears.0.1 r) (sym (some_same reply (Passed greater) is)) hears.2;
    silent = sends.0;
  }
  replied_by reply (Reply (Elsewhere m)) bytes old new is hears sends = absurd (cc is)
  replied_by reply Nothing bytes old new is hears sends = absurd (cc is)
  replied_by reply Other bytes old new is hears sends = absurd (cc is)

  pub replied : {reply : ReplyValue} {bytes : List ℕ} {old new : Asker S}
      → Receives sent failures next q bytes (Some reply) old new → IsReplied sent next q reply new.socket
  replied {reply = reply} {bytes = bytes} {old = old} {new = new} r =
      replied_by reply r.heard bytes old new r.tells r.hears r.sends

  ends_until : (most : ℕ) (places : List Place) (bytes : List ℕ) (told : Option ReplyValue) (old new : Asker S)
      → TriesUntil sent failures next q most places bytes told old new
      → IfSome told (λ (reply : ReplyValue). IsReplied sent next q reply new.socket)
  ends_until most places bytes None old new u = tt
  ends_until most places bytes (Some reply) old new u = replied u.5.waits.4

  -- ---- the rule

  keeps_rule : {most : ℕ} {places : List Place} {told : Option ReplyValue} {old new : S}
      → Exchanges sent failures next q most places told old new
      → KeepsRule sent failures next q most places told old new
  keeps_rule {most = most} {places = places} {told = told} {old = old} {new = new} e =
      let first : Asker S = record { socket = old; followed = 0 } in
      let last : Asker S = record { socket = new; followed = e.followed } in
      record {
        same = only_until sent failures next q most places e.bytes told first last e.spelled e.tries;
        in_turn = e;
        ends = ends_until most places e.bytes told first last e.tries;
      }

  -- of an exchange that is over, whether it fails or not
  pub all_same : {E : Type 0} (most : ℕ) (places : List Place) (old new : S) (result : Result (Option ReplyValue) E)
      → OnErr result (new ≡ old)
      → IfOk result (λ (told : Option ReplyValue). Exchanges sent failures next q most places told old new)
      → SendsOnly q (sent old) (sent new)
  all_same most places old new (Ok told) failed e = (keeps_rule e).same
  all_same most places old new (Err fault) failed e = only_nothing q (sent old) (sent new) (ap sent failed)

  all_keep : {E : Type 0} (most : ℕ) (places : List Place) (old new : S) (result : Result (Option ReplyValue) E)
      → IfOk result (λ (told : Option ReplyValue). Exchanges sent failures next q most places told old new)
      → IfOk result (λ (told : Option ReplyValue). KeepsRule sent failures next q most places told old new)
  all_keep most places old new (Ok told) e = keeps_rule e
  all_keep most places old new (Err fault) e = tt

  -- by its turns: none, or several
  pub asks_alone : {E : Type 0} (turns : List Place) (own : Place) (old new : S)
      (result : Result (Option ReplyValue) E)
      → own ≡ own_place q → length turns < 1
      → IfOk result (λ (told : Option ReplyValue). Exchanges sent failures next q 50 (own ∷ []) told old new)
      → IfOk result (λ (told : Option ReplyValue). AsksInTurn sent failures next q turns told old new)
  asks_alone [] own old new result is none e =
      subst (λ (p : Place). IfOk result (λ (told : Option ReplyValue).
      KeepsRule sent failures next q 50 (p ∷ []) told old new)) is (all_keep 50 (own ∷ []) old new result e)
  asks_alone (place ∷ places) own old new result is none e = absurd (omega (arith, none))

  pub asks_several : {E : Type 0} (turns : List Place) (old new : S) (result : Result (Option ReplyValue) E)
      → 1 ≤ length turns
      → IfOk result (λ (told : Option ReplyValue). Exchanges sent failures next q 5 turns told old new)
      → IfOk result (λ (told : Option ReplyValue). AsksInTurn sent failures next q turns told old new)
  asks_several [] old new result some e = absurd (omega (arith, some))
  asks_several (place ∷ places) old new result some e = all_keep 5 (place ∷ places) old new result e
