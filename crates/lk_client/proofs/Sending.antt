-- What is sent one after another, in datagrams of one kind.
use Rattle.std.proofs.Common.{◌≡◌, ◌∙◌, ◌++◌, Bool, List, ℕ, [], ◌∷◌, true}
use Rattle.std.proofs.Common.{append_assoc, append-nil, ap, sym, subst, inl, inr}
use Rattle.std.specs.List.{AllByRecursion}
use Rattle.std.specs.declared.net.socket_addr.SocketAddr.{SocketAddr}
use Rattle.lk_client.specs.Questions.{Endpoint, IsAsked, SendsOnce, SendsEach}
use Rattle.lk_client.specs.Rules.{SendsOnly}
use Rattle.lk_client.specs.Waits.{IsOwnWatch, IsWatchOf, SendsAll}
use Rattle.lk_client.specs.declared.question.Question.{Question}
use Rattle.lk_client.proofs.Keeping.{all_both}

abbrev Datagrams : Type 0
Datagrams = List (SocketAddr × List ℕ)

all_as : {A : Type 0} {P Q : A → Type 0} (xs : List A) → ((x : A) → P x → Q x) → AllByRecursion P xs
    → AllByRecursion Q xs
all_as [] more all = tt
all_as (x ∷ xs) more all = (more x all.0, all_as xs more all.1)

module _ {Is : List ℕ → Type 0} where
  pub sends_nothing : {old new : Datagrams} → new ≡ old → SendsAll Is old new
  sends_nothing {old = old} same = record { more = []; behind = same ∙ sym (append-nil old); all = tt }

  pub sends_both : {old mid new : Datagrams} → SendsAll Is old mid → SendsAll Is mid new → SendsAll Is old new
  sends_both {old = old} one two = record {
    more = one.more ++ two.more;
    behind = two.behind ∙ ap (λ (l : Datagrams). l ++ two.more) one.behind ∙ append_assoc old one.more two.more;
    all = all_both (λ (d : SocketAddr × List ℕ). Is d.1) one.more two.more one.all two.all;
  }

  -- what is sent from there on, where nothing was before
  pub sends_from : {old mid new : Datagrams} → mid ≡ old → SendsAll Is mid new → SendsAll Is old new
  sends_from {new = new} same sends = subst (λ (l : Datagrams). SendsAll Is l new) same sends

  -- what is sent up to there, where nothing is after
  pub sends_to : {old mid new : Datagrams} → new ≡ mid → SendsAll Is old mid → SendsAll Is old new
  sends_to {old = old} same sends = subst (λ (l : Datagrams). SendsAll Is old l) (sym same) sends

  pub sends_as : {Other : List ℕ → Type 0} {old new : Datagrams} → ((bytes : List ℕ) → Is bytes → Other bytes)
      → SendsAll Is old new → SendsAll Other old new
  sends_as more sends = record {
    more = sends.more;
    behind = sends.behind;
    all = all_as sends.more (λ d is. more d.1 is) sends.all;
  }

  pub sends_once : (endpoint : Endpoint) (bytes : List ℕ) (old : Datagrams) (f : ℕ) (new : Datagrams) (g : ℕ)
      → Is bytes → SendsOnce endpoint bytes old f new g → SendsAll Is old new
  sends_once endpoint bytes old f new g is (inl s) = record { more = (s.0, bytes) ∷ []; behind = s.2; all = (is, tt) }
  sends_once endpoint bytes old f new g is (inr none) = sends_nothing none.0

  pub sends_each : (endpoints : List Endpoint) (bytes : List ℕ) (old : Datagrams) (f : ℕ) (new : Datagrams) (g : ℕ)
      → Is bytes → SendsEach endpoints bytes old f new g → SendsAll Is old new
  sends_each [] bytes old f new g is s = sends_nothing s.0
  sends_each (endpoint ∷ endpoints) bytes old f new g is s =
      sends_both (sends_once endpoint bytes old f s.0 s.1 is s.2) (sends_each endpoints bytes s.0 s.1 new g is s.3)

-- the requests of a question
pub only_sends : {q : Question} {old new : Datagrams} → SendsOnly q old new → SendsAll (IsAsked q) old new
only_sends only = record { more = only.more; behind = only.behind; all = only.same }

-- the watches of a client, if it watches
pub own_sends : (is : Bool) (q : Question) (old new : Datagrams) → SendsAll (IsOwnWatch is q) old new
    → SendsAll (IsWatchOf q) old new
own_sends is q old new sends = sends_as (λ bytes watch. watch.1) sends

-- and by a client that watches
pub sends_own : (is : Bool) (q : Question) (old new : Datagrams) → is ≡ true → SendsAll (IsWatchOf q) old new
    → SendsAll (IsOwnWatch is q) old new
sends_own is q old new watching sends = sends_as (λ bytes watch. (watching, watch)) sends
