-- A watch that goes to each place that gets it, one after another.
use Rattle.std.proofs.Common.{◌≡◌, ◌∙◌, ◌++◌, List, ℕ, Bool, true, false, [], ◌∷◌, ap, append_assoc, append-nil}
use Rattle.std.proofs.Common.{refl, sym, subst}
use Rattle.std.specs.Prelude.{if◌then◌else◌}
use Rattle.std.specs.declared.net.socket_addr.SocketAddr.{SocketAddr}
use Rattle.lk_client.specs.Questions.{Endpoint, SendsEach, SendsOnce}
use Rattle.lk_client.specs.Watches.{due_endpoints, endpoint_if_due, is_due}
use Rattle.lk_client.specs.declared.notices.WatchedPlace.{WatchedPlace}

abbrev Datagrams : Type 0
Datagrams = List (SocketAddr × List ℕ)

-- some endpoints, and then others
each_both : (bytes : List ℕ) (endpoints more : List Endpoint) (old : Datagrams) (f : ℕ) (mid : Datagrams) (h : ℕ)
    (new : Datagrams) (g : ℕ)
    → SendsEach endpoints bytes old f mid h → SendsEach more bytes mid h new g
    → SendsEach (endpoints ++ more) bytes old f new g
each_both bytes [] more old f mid h new g one two =
    subst (λ (l : Datagrams). SendsEach more bytes l f new g) one.0
    (subst (λ (n : ℕ). SendsEach more bytes mid n new g) one.1 two)
each_both bytes (first ∷ endpoints) more old f mid h new g one two =
    (one.0, one.1, one.2, each_both bytes endpoints more one.0 one.1 mid h new g one.3 two)

due_more : (ps : List WatchedPlace) (p : WatchedPlace)
    → due_endpoints (ps ++ p ∷ []) ≡ due_endpoints ps ++ endpoint_if_due p
due_more [] p = append-nil (endpoint_if_due p)
due_more (q ∷ ps) p =
    ap (λ (l : List Endpoint). endpoint_if_due q ++ l) (due_more ps p)
    ∙ sym (append_assoc (endpoint_if_due q) (due_endpoints ps) (endpoint_if_due p))

-- a place that gets the watch, or does not
one_if : (bytes : List ℕ) (is : Bool) (endpoint : Endpoint) (old : Datagrams) (f : ℕ) (new : Datagrams) (g : ℕ)
    → (is ≡ true → SendsOnce endpoint bytes old f new g) → (is ≡ false → (new ≡ old) × (g ≡ f))
    → SendsEach (if is then endpoint ∷ [] else []) bytes old f new g
one_if bytes true endpoint old f new g due none = (new, g, due refl, (refl, refl))
one_if bytes false endpoint old f new g due none = none refl

-- one place more
pub place_more : {further : List WatchedPlace} (bytes : List ℕ) (ps : List WatchedPlace) (p : WatchedPlace)
    (old : Datagrams) (f : ℕ) (mid : Datagrams) (h : ℕ) (new : Datagrams) (g : ℕ) → further ≡ ps ++ p ∷ []
    → SendsEach (due_endpoints ps) bytes old f mid h
    → (is_due p ≡ true → SendsOnce (p.place.address, p.place.port) bytes mid h new g)
    → (is_due p ≡ false → (new ≡ mid) × (g ≡ h))
    → SendsEach (due_endpoints further) bytes old f new g
place_more bytes ps p old f mid h new g is passed due none =
    subst (λ (l : List Endpoint). SendsEach l bytes old f new g) (sym (ap due_endpoints is ∙ due_more ps p))
    (each_both bytes (due_endpoints ps) (endpoint_if_due p) old f mid h new g passed
    (one_if bytes (is_due p) (p.place.address, p.place.port) mid h new g due none))
