-- What is kept of the frames that came: the first probe and the first report.
use Rattle.std.proofs.Common.{◌≡◌, true, false, List, [], ◌∷◌, ◌++◌, ℕ, Option, Some, None, refl, ap, sym, ◌∙◌, subst}
use Rattle.std.proofs.Common.{subst₂, append_assoc}
use Rattle.std.specs.declared.net.socket_addr.SocketAddr.{SocketAddr}
use Rattle.lk_probe.specs.Grammar.{padded, SpellsProbe, SpellsReport}
use Rattle.lk_probe.specs.declared.probe.Probe.{Probe}
use Rattle.lk_probe.specs.declared.probe.Report.{Report}
use Rattle.lk_probe.specs.declared.reported.Reported.{Reported}
use Rattle.lk_auth.specs.Seals.{heard}
use Rattle.lk_auth.specs.declared.seals.Seals.{Seals}
use Rattle.lk_pacing.specs.declared.turn_input.TurnInput.{TurnInput}
use Rattle.lk_pacing.specs.declared.turn_input.TurnInput.TheVariants.{Nothing, Filtered, Something}
use Rattle.lk_transport.specs.Askers.{BringsProbe}
use Rattle.lk_transport.specs.ReceiveBuffers.{BufferValue}
use Rattle.lk_transport.specs.Streams.{listed}
use Rattle.lk_transport.specs.Inquiring.{IsReportedBy}
use Rattle.lk_transport.specs.Watches.{BringsWatch}
use Rattle.lk_transport.specs.declared.received_watch.ReceivedWatch.{ReceivedWatch}
use Rattle.lk_watch.specs.Grammar.{SpellsWatch}
use Rattle.lk_watch.specs.declared.watch.Watch.{Watch}
use Rattle.lk_transport.specs.Kept.{BringNothing, BringsFirst, IsFirstOf, KeepsFirst, KeepsFirstOf, KeepsLast}
use Rattle.lk_transport.specs.Kept.{KeepsOf, OnlyLastBrings}
use Rattle.lk_address_book.specs.Filters.{is_beside_protocol}
use Rattle.lk_transport.specs.declared.received_probe.ReceivedProbe.{ReceivedProbe}

-- ---- a frame

-- a probe stands beside the protocol, and so does a report
is_aside : (p : Probe) (bytes : List ℕ) → SpellsProbe p bytes → is_beside_protocol bytes ≡ true
unfolding padded
is_aside p bytes spelled = ap is_beside_protocol spelled.1

tells_aside : (r : Report) (bytes : List ℕ) → SpellsReport r bytes → is_beside_protocol bytes ≡ true
unfolding padded
tells_aside r bytes spelled = ap is_beside_protocol spelled.1

-- and so does a watch
watches_aside : (w : Watch) (bytes : List ℕ) → SpellsWatch w bytes → is_beside_protocol bytes ≡ true
watches_aside w bytes spelled = ap is_beside_protocol spelled.1

-- so nobody asks by what a replica is given, it tells nothing, and nobody watches by it
asks_nothing : (s : Seals) (d : SocketAddr × List ℕ) → is_beside_protocol (heard s d.1) ≡ false → BringsProbe s d None
asks_nothing s d apart p asks = let both : false ≡ true = sym apart ∙ is_aside p (heard s d.1) asks.spelled in cc both

tells_nothing : (s : Seals) (d : SocketAddr × List ℕ) → is_beside_protocol (heard s d.1) ≡ false
    → IsReportedBy s d None
tells_nothing s d apart sealed r spelled answers =
    let both : false ≡ true = sym apart ∙ tells_aside r (heard s d.1) spelled in cc both

watches_nothing : (s : Seals) (d : SocketAddr × List ℕ) → is_beside_protocol (heard s d.1) ≡ false
    → BringsWatch s d None
watches_nothing s d apart w carries =
    let both : false ≡ true = sym apart ∙ watches_aside w (heard s d.1) carries.spelled in cc both

module _ {K : Type 0} (Brings : SocketAddr × List ℕ → Option K → Type 0) where
  -- of one that brings nothing
  first_apart : (old : Option K) (d : SocketAddr × List ℕ) → Brings d None → KeepsFirstOf Brings old (d ∷ []) old
  first_apart None d none = (none, tt)
  first_apart (Some k) d none = refl

  first_still : (old : Option K) (d : SocketAddr × List ℕ) → Brings d None → KeepsFirst Brings (Some d) old old
  first_still None d none = none
  first_still (Some k) d none = refl

  first_one : (old new : Option K) (d : SocketAddr × List ℕ) → KeepsFirst Brings (Some d) old new
      → KeepsFirstOf Brings old (d ∷ []) new
  first_one (Some k) new d kept = kept
  first_one None None d kept = (kept, tt)
  first_one None (Some k) d kept = record { before = []; frame = d; after = []; are = refl; none = tt; brings = kept }

  -- ---- frames

  -- of none
  first_none : (old : Option K) → KeepsFirstOf Brings old [] old
  first_none None = tt
  first_none (Some k) = refl

  none_more : (xs ys : List (SocketAddr × List ℕ)) → BringNothing Brings xs → BringNothing Brings ys
      → BringNothing Brings (xs ++ ys)
  none_more [] ys a b = b
  none_more (x ∷ xs) ys a b = (a.0, none_more xs ys a.1 b)

  first_then : (xs ys : List (SocketAddr × List ℕ)) (k : K) → BringsFirst Brings xs k → BringsFirst Brings (xs ++ ys) k
  first_then xs ys k f = record {
    before = f.before;
    frame = f.frame;
    after = f.after ++ ys;
    are = ap (λ (l : List (SocketAddr × List ℕ)). l ++ ys) f.are ∙ append_assoc f.before (f.frame ∷ f.after) ys;
    none = f.none;
    brings = f.brings;
  }

  then_first : (xs ys : List (SocketAddr × List ℕ)) (k : K) → BringNothing Brings xs → BringsFirst Brings ys k
      → BringsFirst Brings (xs ++ ys) k
  then_first xs ys k none f = record {
    before = xs ++ f.before;
    frame = f.frame;
    after = f.after;
    are = ap (λ (l : List (SocketAddr × List ℕ)). xs ++ l) f.are ∙ sym (append_assoc xs f.before (f.frame ∷ f.after));
    none = none_more xs f.before none f.none;
    brings = f.brings;
  }

  -- of more of them
  first_more : (xs ys : List (SocketAddr × List ℕ)) (old mid new : Option K) → KeepsFirstOf Brings old xs mid
      → KeepsFirstOf Brings mid ys new → KeepsFirstOf Brings old (xs ++ ys) new
  first_more xs ys (Some k) mid new one two = subst (λ (o : Option K). KeepsFirstOf Brings o ys new) one two
  first_more xs ys None (Some k) new one two =
      subst (λ (o : Option K). IsFirstOf Brings (xs ++ ys) o) (sym two) (first_then xs ys k one)
  first_more xs ys None None None one two = none_more xs ys one two
  first_more xs ys None None (Some k) one two = then_first xs ys k one two

  -- where none is kept in the end none was brought
  brought_none : (xs : List (SocketAddr × List ℕ)) (old mid : Option K) → KeepsFirstOf Brings old xs mid → old ≡ None
      → mid ≡ None → BringNothing Brings xs
  brought_none xs (Some k) mid kept was is = absurd (cc was)
  brought_none xs None (Some k) kept was is = absurd (cc is)
  brought_none xs None None kept was is = kept

-- none of these but the last brings one
last_more : (s : Seals) (xs ys : List (SocketAddr × List ℕ)) → BringNothing (BringsProbe s) xs
    → BringNothing (IsReportedBy s) xs → BringNothing (BringsWatch s) xs → OnlyLastBrings s ys
    → OnlyLastBrings s (xs ++ ys)
last_more s [] ys asks tells watches last = last
last_more s (x ∷ []) [] asks tells watches last = tt
last_more s (x ∷ []) (y ∷ ys) asks tells watches last = ((asks.0, tells.0, watches.0), last)
last_more s (x ∷ x2 ∷ xs) ys asks tells watches last =
    ((asks.0, tells.0, watches.0), last_more s (x2 ∷ xs) ys asks.1 tells.1 watches.1 last)

-- ---- what a buffer keeps

-- more frames, by the same seals
pub keeps_more : (s t : Seals) (xs ys : List (SocketAddr × List ℕ)) (old mid new : BufferValue)
    → t ≡ s → KeepsOf s xs old mid → KeepsOf t ys mid new
    → (old.asked ≡ None → old.reported ≡ None → old.watched ≡ None
    → (mid.asked ≡ None) × (mid.reported ≡ None) × (mid.watched ≡ None))
    → KeepsOf s (xs ++ ys) old new
keeps_more s t xs ys old mid new seals one two none =
    let next : KeepsOf s ys mid new = subst (λ (z : Seals). KeepsOf z ys mid new) seals two in
    record {
      asked = first_more (BringsProbe s) xs ys old.asked mid.asked new.asked one.asked next.asked;
      reported = first_more (IsReportedBy s) xs ys old.reported mid.reported new.reported one.reported next.reported;
      watched = first_more (BringsWatch s) xs ys old.watched mid.watched new.watched one.watched next.watched;
      last = λ unasked untold unwatched.
          let still = none unasked untold unwatched in
          last_more s xs ys (brought_none (BringsProbe s) xs old.asked mid.asked one.asked unasked still.0)
          (brought_none (IsReportedBy s) xs old.reported mid.reported one.reported untold still.1)
          (brought_none (BringsWatch s) xs old.watched mid.watched one.watched unwatched still.2)
          (next.last still.0 still.1 still.2);
    }

-- no frame more
pub keeps_on : (s : Seals) (xs : List (SocketAddr × List ℕ)) (old mid new : BufferValue)
    → KeepsOf s xs old mid → new.asked ≡ mid.asked → new.reported ≡ mid.reported → new.watched ≡ mid.watched
    → KeepsOf s xs old new
keeps_on s xs old mid new kept asked reported watched = record {
  asked = subst (λ (a : Option ReceivedProbe). KeepsFirstOf (BringsProbe s) old.asked xs a) (sym asked) kept.asked;
  reported =
      subst (λ (r : Option Reported). KeepsFirstOf (IsReportedBy s) old.reported xs r) (sym reported) kept.reported;
  watched =
      subst (λ (w : Option ReceivedWatch). KeepsFirstOf (BringsWatch s) old.watched xs w) (sym watched) kept.watched;
  last = kept.last;
}

-- as it did
pub keeps_still : (s : Seals) (old new : BufferValue) → new.asked ≡ old.asked
    → new.reported ≡ old.reported → new.watched ≡ old.watched → KeepsOf s [] old new
keeps_still s old new asked reported watched =
    keeps_on s [] old old new
    (record {
      asked = first_none (BringsProbe s) old.asked;
      reported = first_none
          (IsReportedBy s) old.reported;
      watched = first_none (BringsWatch s) old.watched;
      last = λ unasked untold unwatched. tt;
    }) asked
    reported watched

-- of a frame that a replica is given
pub keeps_given : (s : Seals) (d : SocketAddr × List ℕ) (old new : BufferValue)
    → is_beside_protocol (heard s d.1) ≡ false → new.asked ≡ old.asked → new.reported ≡ old.reported
    → new.watched ≡ old.watched → KeepsOf s (d ∷ []) old new
keeps_given s d old new apart asked reported watched = keeps_on s (d ∷ []) old old new (record {
  asked = first_apart (BringsProbe s) old.asked d (asks_nothing s d apart);
  reported = first_apart (IsReportedBy s) old.reported d (tells_nothing s d apart);
  watched = first_apart (BringsWatch s) old.watched d (watches_nothing s d apart);
  last = λ unasked untold unwatched. tt;
}) asked reported watched

-- of one that stands beside the protocol
pub keeps_beside : (s t : Seals) (d : SocketAddr × List ℕ) (old mid new : BufferValue) → t ≡ s
    → mid.asked ≡ old.asked → mid.reported ≡ old.reported → mid.watched ≡ old.watched → mid.last ≡ Some d
    → KeepsLast t mid new → KeepsOf s (d ∷ []) old new
keeps_beside s t d old mid new seals asked reported watched is keeps =
    let kept : KeepsLast s mid new = subst (λ (z : Seals). KeepsLast z mid new) seals keeps in
    record {
      asked = first_one (BringsProbe s) old.asked new.asked d
          (subst₂ (λ (l : Option (SocketAddr × List ℕ)) (a : Option ReceivedProbe). KeepsFirst
          (BringsProbe s) l a new.asked) is asked kept.asked);
      reported = first_one (IsReportedBy s) old.reported new.reported d
          (subst₂ (λ (l : Option (SocketAddr × List ℕ)) (r : Option Reported). KeepsFirst
          (IsReportedBy s) l r new.reported) is reported kept.reported);
      watched = first_one (BringsWatch s) old.watched new.watched d
          (subst₂ (λ (l : Option (SocketAddr × List ℕ)) (w : Option ReceivedWatch). KeepsFirst
          (BringsWatch s) l w new.watched) is watched kept.watched);
      last = λ unasked untold unwatched. tt;
    }

-- of one that is neither a probe nor a report
pub keeps_strange : (s : Seals) (d : SocketAddr × List ℕ) (old : BufferValue) → old.last ≡ Some d
    → is_beside_protocol (heard s d.1) ≡ false → KeepsLast s old old
keeps_strange s d old is apart = record {
  last = refl;
  asked = subst (λ (l : Option (SocketAddr × List ℕ)). KeepsFirst (BringsProbe s) l old.asked old.asked) (sym is)
      (first_still (BringsProbe s) old.asked d (asks_nothing s d apart));
  reported = subst (λ (l : Option (SocketAddr × List ℕ)). KeepsFirst (IsReportedBy s) l old.reported old.reported)
      (sym is) (first_still (IsReportedBy s) old.reported d (tells_nothing s d apart));
  watched = subst (λ (l : Option (SocketAddr × List ℕ)). KeepsFirst (BringsWatch s) l old.watched old.watched)
      (sym is) (first_still (BringsWatch s) old.watched d (watches_nothing s d apart));
}

-- of what came last, where a replica is given nothing of it
pub keeps_found : (s t : Seals) (found : TurnInput) (old mid new : BufferValue) → t ≡ s
    → mid.asked ≡ old.asked → mid.reported ≡ old.reported → mid.watched ≡ old.watched
    → (found ≡ Nothing → mid.last ≡ None)
    → (found ≡ Filtered → (d : SocketAddr × List ℕ) × (mid.last ≡ Some d))
    → (found ≡ Filtered → KeepsLast t mid new)
    → ((found ≡ Filtered → ⊥) → new ≡ mid) → (found ≡ Something → ⊥) → KeepsOf s (listed mid.last) old new
keeps_found s t Nothing old mid new seals asked reported watched nothing beside kept rest apart =
    let same = rest (λ is. cc is) in
    subst (λ (l : List (SocketAddr × List ℕ)). KeepsOf s l old new) (sym (ap listed (nothing refl)))
    (keeps_still s old new (ap (λ (b : BufferValue). b.asked) same ∙ asked)
    (ap (λ (b : BufferValue). b.reported) same ∙ reported) (ap (λ (b : BufferValue). b.watched) same ∙ watched))
keeps_found s t Filtered old mid new seals asked reported watched nothing beside kept rest apart =
    let b = beside refl in
    subst (λ (l : List (SocketAddr × List ℕ)). KeepsOf s l old new) (sym (ap listed b.1))
    (keeps_beside s t b.0 old mid new seals asked reported watched b.1 (kept refl))
keeps_found s t Something old mid new seals asked reported watched nothing beside kept rest apart = absurd (apart refl)
