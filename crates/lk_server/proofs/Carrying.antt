-- What became of the envelopes of a group.
use Rattle.std.proofs.Common.{◌≡◌, ℕ, Bool, true, false, List, [], ◌∷◌, ◌++◌, Option, sym, ap, ◌∙◌, subst, append_assoc}
use Rattle.std.proofs.Common.{append-nil, inl, inr}
use Rattle.std.specs.Prelude.{Result, Ok, Err, IfOk, OnOk, OnErr}
use Rattle.lk_node_interface.specs.Envelopes.{EnvelopeValue}
use Rattle.lk_replica.specs.Groups.{GroupValue}
use Rattle.lk_replica.specs.Posts.{CarriesAll, GivesEnvelopes}
use Rattle.lk_address_book.specs.Addresses.{AddressBook}
use Rattle.lk_server_replica.specs.Groups.{Sayings, Gatherings}
use Rattle.lk_server.specs.Gatherings.{DeliversAllEnvelopes, SaysNothing}
use Rattle.lk_transport.specs.Posts.{SocketPostValue, SendState, Becomes, CarriesEnvelope, send_state_of}
use Rattle.lk_server.specs.Servers.{ServerValue, Grows, send_state_at}

-- what stands whatever became of a call stands after a refusal
pub on_err : {T E P : Type 0} (r : Result T E) → P → OnErr r P
on_err (Ok x) p = tt
on_err (Err e) p = p

-- what follows of what stands after a refusal
pub if_err_on : {T E P Q : Type 0} (r : Result T E) → (P → Q) → OnErr r P → OnErr r Q
if_err_on (Ok x) f p = tt
if_err_on (Err e) f p = f p

-- what follows of what stands where a call went on
pub if_ok_on : {T E P Q : Type 0} (r : Result T E) → (P → Q) → OnOk r P → OnOk r Q
if_ok_on (Ok x) f p = f p
if_ok_on (Err e) f p = tt

pub if_ok_weaker : {T E : Type 0} {P Q : T → Type 0} (r : Result T E) → ((x : T) → P x → Q x) → IfOk r P → IfOk r Q
if_ok_weaker (Ok x) f p = f x p
if_ok_weaker (Err e) f p = tt

-- what would make it true is not so
pub apart_by : {P : Type 0} {b : Bool} → b ≡ false → (P → b ≡ true) → P → ⊥
apart_by isnt gives p = let both : false ≡ true = sym isnt ∙ gives p in cc both

pub if_ok_both : {T E : Type 0} {P Q W : T → Type 0} (r : Result T E) → ((x : T) → P x → Q x → W x)
    → IfOk r P → IfOk r Q → IfOk r W
if_ok_both (Ok x) f p q = f x p q
if_ok_both (Err e) f p q = tt

pub if_ok_four : {T E : Type 0} {P Q U V W : T → Type 0} (r : Result T E) → ((x : T) → P x → Q x → U x → V x → W x)
    → IfOk r P → IfOk r Q → IfOk r U → IfOk r V → IfOk r W
if_ok_four (Ok x) f p q u v = f x p q u v
if_ok_four (Err e) f p q u v = tt

-- of a post nothing else changes
pub same_node : (observable : Type 0) (old new : SocketPostValue) (envelopes : List EnvelopeValue)
    → CarriesAll (CarriesEnvelope observable) old envelopes new → new.node ≡ old.node
same_node observable old new [] all = ap (λ (p : SocketPostValue). p.node) all
same_node observable old new (l ∷ envelopes) all = same_node observable all.1 new envelopes all.3 ∙ all.2.node

pub same_coming : (observable : Type 0) (old new : SocketPostValue) (envelopes : List EnvelopeValue)
    → CarriesAll (CarriesEnvelope observable) old envelopes new → observable → new.incoming ≡ old.incoming
same_coming observable old new [] all t = ap (λ (p : SocketPostValue). p.incoming) all
same_coming observable old new (l ∷ envelopes) all t =
    same_coming observable all.1 new envelopes all.3 t ∙ all.2.still t

pub same_addresses : (observable : Type 0) (old new : SocketPostValue) (envelopes : List EnvelopeValue)
    → CarriesAll (CarriesEnvelope observable) old envelopes new → new.addresses ≡ old.addresses
same_addresses observable old new [] all = ap (λ (p : SocketPostValue). p.addresses) all
same_addresses observable old new (l ∷ envelopes) all = same_addresses observable all.1 new envelopes all.3
    ∙ all.2.addresses

pub trays : (observable : Type 0) (node : ℕ) (book : AddressBook) (old new : SocketPostValue)
    (envelopes : List EnvelopeValue)
    → node ≡ old.node → book ≡ old.addresses →
    CarriesAll (CarriesEnvelope observable) old envelopes new
    → CarriesAll (Becomes observable node book) (send_state_of old) envelopes (send_state_of new)
trays observable node book old new [] whose by all = ap send_state_of all
trays observable node book old new (l ∷ envelopes) whose by all = (
  all.0,
  send_state_of all.1,
  subst (λ (n : ℕ). Becomes observable n book (send_state_of old) l all.0 (send_state_of all.1)) (sym whose)
      (subst (λ (b : AddressBook). Becomes observable old.node b (send_state_of old) l all.0 (send_state_of all.1))
      (sym by) all.2.becomes),
  trays observable node book all.1 new envelopes (whose ∙ sym all.2.node) (by ∙ sym all.2.addresses) all.3,
)

-- the envelopes that are kept stand behind those that were
grows_one : (observable : Type 0) (node : ℕ) (book : AddressBook) (old new : SendState) (l : EnvelopeValue)
    (is_sent : Bool)
    → Becomes observable node book old l is_sent new → Grows old.loopback new.loopback
grows_one observable node book old new l true (inl keeps) = record { added = l ∷ []; is = keeps.loopback }
grows_one observable node book old new l true (inr sends) = record {
  added = [];
  is = sends.loopback
      ∙ sym (append-nil old.loopback);
}
grows_one observable node book old new l false loses = record {
  added = [];
  is = loses.loopback
      ∙ sym (append-nil old.loopback);
}

pub grows_on : {old mid new : List EnvelopeValue} → Grows old mid → Grows mid new → Grows old new
grows_on {old = old} a b =
    record { added = a.added ++ b.added; is = b.is ∙ ap (λ l. l ++ b.added) a.is ∙ append_assoc old a.added b.added }

pub grows_by : (observable : Type 0) (node : ℕ) (book : AddressBook) (old new : SendState)
    (envelopes : List EnvelopeValue)
    → CarriesAll (Becomes observable node book) old envelopes new → Grows old.loopback new.loopback
grows_by observable node book old new [] all =
    record { added = []; is = ap (λ (t : SendState). t.loopback) all ∙ sym (append-nil old.loopback) }
grows_by observable node book old new (l ∷ envelopes) all =
    grows_on (grows_one observable node book old all.1 l all.0 all.2)
    (grows_by observable node book all.1 new envelopes all.3)

-- whatever has become of a call, the post is that node's, and has these addresses; and the same is to come
pub same_post : (observable : Type 0) {T E : Type 0} (r : Result T E) (H : List EnvelopeValue → Type 0)
    (before after : SocketPostValue) → OnOk r (GivesEnvelopes (CarriesEnvelope observable) before after H)
    → OnErr r (after
    ≡ before)
    → (after.node ≡ before.node) × (after.addresses ≡ before.addresses) × (observable → after.incoming
    ≡ before.incoming)
same_post observable (Ok x) H before after gives unsent = (
  same_node observable before after gives.envelopes gives.carried,
  same_addresses observable before after gives.envelopes gives.carried,
  same_coming observable before after gives.envelopes gives.carried,
)
same_post observable (Err e) H before after gives unsent = (
  ap (λ (p : SocketPostValue). p.node) unsent,
  ap (λ (p : SocketPostValue). p.addresses) unsent,
  λ t. ap (λ (p : SocketPostValue). p.incoming) unsent,
)

module _ {R : Type 0} (S : Sayings R) (G : Gatherings R) (observable : Type 0) (old new : ServerValue R)
    (before after : SocketPostValue) (group : GroupValue) where
  -- the end of a group
  pub hands_on_all : {T E : Type 0} (mine : R) → mine ≡ old.replica → (r : Result T E)
      → OnOk r (GivesEnvelopes (CarriesEnvelope observable) before after
      (λ envelopes. (first : R) (given : List (Option (List ℕ))) → G first given group mine
      → S first given envelopes new.replica))
      → new.node ≡ before.node → new.addresses ≡ before.addresses → send_state_of before
      ≡ send_state_at old.loopback old
      → send_state_of after ≡ send_state_at new.loopback new → OnOk r
      (DeliversAllEnvelopes S G observable group old new)
  hands_on_all mine is (Err e) said whose by first last = tt
  hands_on_all mine is (Ok x) said whose by begun last = λ from given was sent failures.
      let all = trays observable new.node new.addresses before after said.envelopes whose by said.carried in
      let met = subst (λ (t : SendState). CarriesAll (Becomes observable new.node new.addresses) t said.envelopes
      (send_state_of after))
      begun all in
      let carried = subst (λ (t : SendState). CarriesAll (Becomes observable new.node new.addresses)
      (send_state_at old.loopback old) said.envelopes t) last met in
      let same : send_state_at old.loopback old ≡ send_state_at old.loopback from =
      λ i. record { loopback = old.loopback; sent = sym sent i; failures = sym failures i } in
      record {
        envelopes = said.envelopes;
        says = said.holds from.replica given (subst (λ (x : R). G from.replica given group x) (sym is) was);
        kept = grows_by observable new.node new.addresses (send_state_at old.loopback old)
            (send_state_at new.loopback new) said.envelopes carried;
        carried = subst (λ (t : SendState). CarriesAll (Becomes observable new.node new.addresses) t said.envelopes
            (send_state_at new.loopback new)) same carried;
      }

  -- one that was refused
  pub says_nothing : {T E : Type 0} (r : Result T E)
      → OnErr r ((first : R) (given : List (Option (List ℕ))) → G first given group old.replica
      → S first given [] new.replica) → OnErr r (after ≡ before)
      → send_state_of before ≡ send_state_at old.loopback old → send_state_of after
      ≡ send_state_at new.loopback new
      → OnErr r (SaysNothing S G group old new)
  says_nothing (Ok x) silent unsent first last = tt
  says_nothing (Err e) silent unsent first last =
      let same : send_state_at new.loopback new ≡ send_state_at old.loopback old = sym last
      ∙ ap send_state_of unsent ∙ first in
      record {
        silent = silent;
        loopback = ap (λ (t : SendState). t.loopback) same;
        sent = ap (λ (t : SendState). t.sent) same;
        failures = ap (λ (t : SendState). t.failures) same;
      }
