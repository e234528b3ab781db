-- What a server has taken into a group, one datagram after another.
use Rattle.std.proofs.Common.{◌≡◌, ◌≢◌, ℕ, zero, suc, ◌+◌, ◌≤◌, true, false, List, [], ◌∷◌, ◌++◌, length, map, take}
use Rattle.std.proofs.Common.{drop, Option, Some, None, refl, sym, ap, ◌∙◌, subst, subst₂, append_assoc, append-nil}
use Rattle.std.proofs.Common.{length-append, inl, inr, arith}
use Rattle.std.proofs.lemmas.Bool.{cases_Bool}
use Rattle.std.proofs.lemmas.List.{map-append, take_all}
use Rattle.std.specs.declared.net.socket_addr.SocketAddr.{SocketAddr}
use Rattle.lk_node_interface.specs.Envelopes.{EnvelopeValue}
use Rattle.lk_replica.specs.Groups.{GroupValue}
use Rattle.lk_address_book.specs.Addresses.{AddressBook, Filter, filter_of, IsSameFilter}
use Rattle.lk_server_replica.specs.Groups.{Sayings, Gatherings, GathersMore, SaysNoMore}
use Rattle.lk_server.specs.Gatherings.{AddsAll, EndsWithin, AddsLoopback, EndsLoopback, AddsHeard, EndsHeard}
use Rattle.lk_server.specs.Gatherings.{AddsFromSocket}
use Rattle.lk_server.specs.Gatherings.{EndsSocket, AreFound, Finds}
use Rattle.lk_pacing.specs.declared.turn_input.TurnInput.{TurnInput}
use Rattle.lk_pacing.specs.declared.turn_input.TurnInput.TheVariants.{Nothing, Filtered, Something}
use Rattle.lk_transport.specs.Streams.{Stream, Receives, ComeWithin, listed}
use Rattle.lk_transport.proofs.Streaming.{come_none, come_more, come_wider}
use Rattle.lk_address_book.specs.Senders.{RecordsSender, RecordsSenders}
use Rattle.lk_address_book.specs.Filters.{is_filtered_out, opened_as, filtered, all_filtered}
use Rattle.lk_pacing.specs.Paces.{ticks_after}
use Rattle.lk_pacing.specs.declared.pace.Pace.{Pace}
use Rattle.lk_server.specs.Servers.{ServerValue, one_more, one_more_tick, ticks_behind, inputs, all_inputs, all_ticks}
use Rattle.lk_server.specs.Servers.{counted, datagrams_in}

-- ---- lists

pub all_more : (pace : Pace) (received : ℕ) (xs ys : List (List ℕ))
    → all_inputs pace received (xs ++ ys) ≡ all_inputs pace received xs ++ all_inputs pace (counted received xs) ys
all_more pace received [] ys = refl
all_more pace received (x ∷ xs) ys =
    ap (λ (l : List (Option (List ℕ))). inputs pace (one_more received) x ++ l)
    (all_more pace (one_more received) xs ys)
    ∙ sym (append_assoc (inputs pace (one_more received) x) (all_inputs pace (one_more received) xs)
    (all_inputs pace (counted (one_more received) xs) ys))

pub counted_more : (received : ℕ) (xs ys : List (List ℕ))
    → counted received (xs ++ ys) ≡ counted (counted received xs) ys
counted_more received [] ys = refl
counted_more received (x ∷ xs) ys = counted_more (one_more received) xs ys

pub ticks_more : (ticks : ℕ) (xs ys : List (Option (List ℕ)))
    → all_ticks ticks (xs ++ ys) ≡ all_ticks (all_ticks ticks xs) ys
ticks_more ticks [] ys = refl
ticks_more ticks (x ∷ xs) ys = ticks_more (ticks_behind ticks x) xs ys

alone : (pace : Pace) (n : ℕ) (bytes : List ℕ) → ticks_after pace n ≡ false
    → inputs pace n bytes ++ [] ≡ Some bytes ∷ []
alone pace n bytes e = rw e refl

with_tick : (pace : Pace) (n : ℕ) (bytes : List ℕ) → ticks_after pace n ≡ true
    → inputs pace n bytes ++ [] ≡ Some bytes ∷ None ∷ []
with_tick pace n bytes e = rw e refl

-- the first of what is given at a datagram is its bytes
bytes_first : (pace : Pace) (n : ℕ) (bytes : List ℕ)
    → (rest : List (Option (List ℕ))) × (inputs pace n bytes ++ [] ≡ (Some bytes ∷ []) ++ rest)
bytes_first pace n bytes =
    elim (cases_Bool (ticks_after pace n))
    [ inl e ↦ (None ∷ [], with_tick pace n bytes e) | inr e ↦ ([], alone pace n bytes e) ]

pub taken_more : (s : Filter) (xs ys : List (SocketAddr × List ℕ))
    → all_filtered s (xs ++ ys) ≡ all_filtered s xs ++ all_filtered s ys
taken_more s [] ys = refl
taken_more s (x ∷ xs) ys =
    ap (λ (l : List (SocketAddr × List ℕ)). filtered s x ++ l) (taken_more s xs ys)
    ∙ sym (append_assoc (filtered s x) (all_filtered s xs) (all_filtered s ys))

-- no more is taken than came
one_at_most : (s : Filter) (d : SocketAddr × List ℕ) → length (filtered s d) ≤ 1
one_at_most s d = elim (cases_Bool (is_filtered_out s d)) [ inl e ↦ rw e (omega arith) | inr e ↦ rw e (omega arith) ]

pub long_as : (s : Filter) (xs : List (SocketAddr × List ℕ)) → length (all_filtered s xs) ≤ length xs
long_as s [] = omega arith
long_as s (x ∷ xs) = omega (arith, length-append (filtered s x) (all_filtered s xs), one_at_most s x, long_as s xs)

kept_whole : (s : Filter) (x : SocketAddr × List ℕ) → is_filtered_out s x ≡ false → filtered s x ≡ opened_as s x ∷ []
kept_whole s x e = rw e refl

set_aside : (s : Filter) (x : SocketAddr × List ℕ) → is_filtered_out s x ≡ true → filtered s x ≡ []
set_aside s x e = rw e refl

-- what is taken of a frame alone
pub taken_one : (s : Filter) (d x : SocketAddr × List ℕ) → opened_as s d ≡ x → is_filtered_out s d ≡ false
    → all_filtered s (d ∷ []) ≡ x ∷ []
taken_one s d x is apart =
    ap (λ (l : List (SocketAddr × List ℕ)). l ++ []) (kept_whole s d apart)
    ∙ ap (λ (c : SocketAddr × List ℕ). c ∷ []) is

pub taken_none : (s : Filter) (d : SocketAddr × List ℕ) → is_filtered_out s d ≡ true → all_filtered s (d ∷ []) ≡ []
taken_none s d is = ap (λ (l : List (SocketAddr × List ℕ)). l ++ []) (set_aside s d is)

pub taken_first : (s : Filter) (d : SocketAddr × List ℕ) (more : List (SocketAddr × List ℕ))
    → is_filtered_out s d ≡ false → all_filtered s (d ∷ more) ≡ opened_as s d ∷ all_filtered s more
taken_first s d more is = ap (λ (l : List (SocketAddr × List ℕ)). l ++ all_filtered s more) (kept_whole s d is)

abbrev bytes_of : EnvelopeValue → List ℕ
bytes_of l = l.bytes

-- one more envelope
pub own_more : (taken : List EnvelopeValue) (l : EnvelopeValue)
    → datagrams_in taken [] ++ l.bytes ∷ [] ≡ datagrams_in (taken ++ l ∷ []) []
own_more taken l =
    ap (λ (ds : List (List ℕ)). ds ++ l.bytes ∷ []) (append-nil (map bytes_of taken))
    ∙ sym (map-append bytes_of taken (l ∷ [])) ∙ sym (append-nil (map bytes_of (taken ++ l ∷ [])))

-- more frames
pub heard_more : (s : Filter) (xs ys : List (SocketAddr × List ℕ))
    → datagrams_in [] (all_filtered s xs) ++ datagrams_in [] (all_filtered s ys)
    ≡ datagrams_in [] (all_filtered s (xs ++ ys))
heard_more s xs ys =
    sym (map-append (λ (c : SocketAddr × List ℕ). c.1) (all_filtered s xs) (all_filtered s ys))
    ∙ ap (λ (cs : List (SocketAddr × List ℕ)). map (λ (c : SocketAddr × List ℕ). c.1) cs) (sym (taken_more s xs ys))

take_front : {X : Type 0} (xs ys : List X) → take (length xs) (xs ++ ys) ≡ xs
take_front [] ys = none ys
  where
    none : {X : Type 0} (ys : List X) → take 0 ys ≡ []
    none [] = refl
    none (y ∷ ys) = refl
take_front (x ∷ xs) ys = ap (λ l. x ∷ l) (take_front xs ys)

drop_front : {X : Type 0} (xs ys : List X) → drop (length xs) (xs ++ ys) ≡ ys
drop_front [] ys = none ys
  where
    none : {X : Type 0} (ys : List X) → drop 0 ys ≡ ys
    none [] = refl
    none (y ∷ ys) = refl
drop_front (x ∷ xs) ys = drop_front xs ys

drop_all : {X : Type 0} (n : ℕ) (xs : List X) → length xs ≤ n → drop n xs ≡ []
drop_all zero [] le = refl
drop_all zero (x ∷ xs) le = absurd (omega (arith, le))
drop_all (suc n) [] le = refl
drop_all (suc n) (x ∷ xs) le = drop_all n xs (omega (arith, le))

-- so many envelopes were taken
pub own_full : (loopback taken left : List EnvelopeValue) (n : ℕ) → loopback ≡ taken ++ left → length taken ≡ n
    → (take n loopback ≡ taken) × (drop n loopback ≡ left)
own_full loopback taken left n parts long = (
  subst₂ (λ (k : ℕ) (o : List EnvelopeValue). take k o ≡ taken) long (sym parts) (take_front taken left),
  subst₂ (λ (k : ℕ) (o : List EnvelopeValue). drop k o ≡ left) long (sym parts) (drop_front taken left),
)

-- all of them were
pub own_all : (loopback taken left : List EnvelopeValue) (n : ℕ) → loopback ≡ taken ++ left → left ≡ []
    → length taken ≤ n
    → (take n loopback ≡ taken) × (drop n loopback ≡ left)
own_all loopback taken left n parts none short =
    let is : loopback ≡ taken = parts ∙ ap (λ (l : List EnvelopeValue). taken ++ l) none ∙ append-nil taken in (
      subst (λ (o : List EnvelopeValue). take n o ≡ taken) (sym is) (take_all n taken short),
      subst (λ (o : List EnvelopeValue). drop n o ≡ left) (sym is) (drop_all n taken short ∙ sym none),
    )

pub some_own : (loopback taken left : List EnvelopeValue) (l : EnvelopeValue) → loopback
    ≡ (taken ++ l ∷ []) ++ left → loopback ≢ []
some_own loopback taken left l parts none =
    omega (arith, ap length (sym none ∙ parts), length-append (taken ++ l ∷ []) left, length-append taken (l ∷ []))

-- what was heard, one datagram after another
pub hears_more : (cluster : ℕ) (xs ys : List (SocketAddr × List ℕ)) (old mid new : AddressBook)
    → RecordsSenders cluster xs old mid → RecordsSenders cluster ys mid new → RecordsSenders cluster (xs ++ ys) old new
hears_more cluster [] ys old mid new a b = subst (λ (k : AddressBook). RecordsSenders cluster ys k new) a b
hears_more cluster (x ∷ xs) ys old mid new a b = (a.0, a.1, hears_more cluster xs ys a.0 mid new a.2 b)

pub same_network : (old mid new : AddressBook) → IsSameFilter old mid → IsSameFilter mid new → IsSameFilter old new
same_network old mid new a b = (b.0 ∙ a.0, b.1 ∙ a.1)

-- these frames came, where nothing was received behind them
come_as : {R : Type 0} (most : ℕ) (e : Option (SocketAddr × List ℕ)) (frames : List (SocketAddr × List ℕ))
    (old mid new : ServerValue R) → listed e ≡ frames → new.incoming ≡ mid.incoming
    → ComeWithin most (listed e) old.incoming mid.incoming → ComeWithin most frames old.incoming new.incoming
come_as most e frames old mid new are same =
    subst₂ (λ (fs : List (SocketAddr × List ℕ)) (s : Stream). ComeWithin most fs old.incoming s) are (sym same)

-- no frame came
pub none_came : {R : Type 0} (observable : Type 0) (e : Option (SocketAddr × List ℕ)) (old mid new : ServerValue R)
    → e ≡ None → (observable → ComeWithin 2 (listed e) old.incoming mid.incoming)
    → mid ≡ record old { incoming = mid.incoming } → new ≡ mid
    → (observable → ComeWithin 2 [] old.incoming new.incoming) × (record new { incoming = old.incoming } ≡ old)
none_came {R} observable e old mid new is comes others same = (
  λ t. come_as 2 e [] old mid new (ap listed is) (ap (λ (s : ServerValue R). s.incoming) same) (comes t),
  ap (λ (s : ServerValue R). record s { incoming = old.incoming }) (same ∙ others),
)

-- what is given by a server that was the same
inputs_from : {R : Type 0} (old begun : ServerValue R) (xs : List (List ℕ)) → begun.pace ≡ old.pace
    → begun.received ≡ old.received → all_inputs begun.pace begun.received xs ≡ all_inputs old.pace old.received xs
inputs_from old begun xs pace received = λ i. all_inputs (pace i) (received i) xs

-- what is given after some datagrams
later : {R : Type 0} (old mid : ServerValue R) (xs ys : List (List ℕ)) → mid.pace ≡ old.pace
    → mid.received ≡ counted old.received xs
    → all_inputs old.pace old.received xs ++ all_inputs mid.pace mid.received ys
    ≡ all_inputs old.pace old.received (xs ++ ys)
later old mid xs ys pace count =
    (λ i. all_inputs old.pace old.received xs ++ all_inputs (pace i) (count i) ys)
    ∙ sym (all_more old.pace old.received xs ys)

-- what was taken of a frame stood beside the protocol no more when only what was to come has changed
pub still_not_out : {R : Type 0} (old mid : ServerValue R) (frame : SocketAddr × List ℕ)
    → mid ≡ record old { incoming = mid.incoming } → is_filtered_out (filter_of mid.addresses) frame ≡ false
    → is_filtered_out (filter_of old.addresses) frame ≡ false
still_not_out {R} old mid frame others apart =
    subst (λ (s : Filter). is_filtered_out s frame ≡ false)
    (ap (λ (s : ServerValue R). filter_of s.addresses) others) apart

-- a replica is given nothing of what was found
pub found_none : (s : Filter) (found : TurnInput) (frames : List (SocketAddr × List ℕ)) → AreFound s found frames
    → all_filtered s frames ≡ []
found_none s Nothing frames none = ap (λ (l : List (SocketAddr × List ℕ)). all_filtered s l) none
found_none s Filtered frames one =
    ap (λ (l : List (SocketAddr × List ℕ)). all_filtered s l) one.1 ∙ taken_none s one.0 one.2
found_none s Something frames never = absurd never

-- it is one frame at most
pub found_few : (s : Filter) (found : TurnInput) (frames : List (SocketAddr × List ℕ))
    → AreFound s found frames → length frames ≤ 64
found_few s Nothing frames none = omega (arith, ap length none)
found_few s Filtered frames one = omega (arith, ap length one.1)
found_few s Something frames never = absurd never

-- what was found at the socket, where a replica is given nothing of it
pub finds : {R : Type 0} (observable : Type 0) (found : TurnInput) (e : Option (SocketAddr × List ℕ))
    (group now : GroupValue) (old mid new : ServerValue R)
    → (observable → Receives e old.incoming mid.incoming) → mid ≡ record old { incoming = mid.incoming }
    → (found ≡ Nothing → (e ≡ None) × (new ≡ mid) × (now ≡ group))
    → (found ≡ Filtered → (frame : SocketAddr × List ℕ) × (e ≡ Some frame)
    × (is_filtered_out (filter_of mid.addresses) frame ≡ true) × (new ≡ mid) × (now ≡ group))
    → (found ≡ Something → ⊥) → Finds observable found (listed e) old new × (now ≡ group)
finds {R} observable Nothing e group now old mid new comes others nothing beside apart =
    let n = nothing refl in (
      record {
        are = ap listed n.0;
        comes = λ t. (e, refl, subst (λ (s : ServerValue R). Receives e old.incoming s.incoming) (sym n.1) (comes t));
        same = ap (λ (s : ServerValue R). record s { incoming = old.incoming }) (n.1 ∙ others);
      },
      n.2,
    )
finds {R} observable Filtered e group now old mid new comes others nothing beside apart =
    let b = beside refl in
    let is : is_filtered_out (filter_of old.addresses) b.0 ≡ true =
    subst (λ (s : Filter). is_filtered_out s b.0 ≡ true)
    (ap (λ (s : ServerValue R). filter_of s.addresses) others) b.2 in (
      record {
        are = (b.0, ap listed b.1, is);
        comes = λ t. (e, refl, subst (λ (s : ServerValue R). Receives e old.incoming s.incoming) (sym b.3) (comes t));
        same = ap (λ (s : ServerValue R). record s { incoming = old.incoming }) (b.3 ∙ others);
      },
      b.4,
    )
finds observable Something e group now old mid new comes others nothing beside apart = absurd (apart refl)

-- ---- what goes on

module _ {R : Type 0} (G : Gatherings R) where
  -- given to a replica that is the same
  pub gathers_from : (more : List (Option (List ℕ))) (group now : GroupValue) (old begun new : R) → begun ≡ old
      → GathersMore G more group now begun new → GathersMore G more group now old new
  gathers_from more group now old begun new same gathers =
      subst (λ (r : R). GathersMore G more group now r new) same gathers

  -- nothing is taken
  pub takes_nothing : (group now : GroupValue) (old new : ServerValue R) → now ≡ group → new ≡ old
      → AddsAll G [] group now old new
  takes_nothing group now old new is same = record {
    gathers = λ first given was.
        subst (λ (l : List (Option (List ℕ))). G first l now new.replica) (sym (append-nil given))
        (subst₂ (λ (x : GroupValue) (s : ServerValue R). G first given x s.replica) (sym is) (sym same) was);
    counted = ap (λ (s : ServerValue R). s.received) same;
    ticks = ap (λ (s : ServerValue R). s.ticks) same;
    pace = ap (λ (s : ServerValue R). s.pace) same;
  }

  -- a datagram
  pub takes_one : (bytes : List ℕ) (group now : GroupValue) (old new : ServerValue R)
      → GathersMore G (Some bytes ∷ []) group now old.replica new.replica
      → new.received ≡ one_more old.received → new.pace ≡ old.pace
      → ticks_after new.pace new.received ≡ false → new.ticks ≡ old.ticks
      → AddsAll G (bytes ∷ []) group now old new
  takes_one bytes group now old new gathers count pace is untimed = record {
    gathers = subst (λ (l : List (Option (List ℕ))). GathersMore G l group now old.replica new.replica)
        (sym (alone old.pace (one_more old.received) bytes
        (subst₂ (λ (p : Pace) (n : ℕ). ticks_after p n ≡ false) pace count is))) gathers;
    counted = count;
    ticks = untimed
        ∙ sym (ap (λ (l : List (Option (List ℕ))). all_ticks old.ticks l)
        (alone old.pace (one_more old.received) bytes
        (subst₂ (λ (p : Pace) (n : ℕ). ticks_after p n ≡ false) pace count is)));
    pace = pace;
  }

  -- and a tick after it
  pub takes_tick : (bytes : List ℕ) (group one now : GroupValue) (old new : ServerValue R) (mid : R)
      → GathersMore G (Some bytes ∷ []) group one old.replica mid → GathersMore G (None ∷ []) one now mid new.replica
      → new.received ≡ one_more old.received → new.pace ≡ old.pace → ticks_after new.pace new.received ≡ true
      → (before : ℕ) → before ≡ old.ticks → new.ticks ≡ one_more_tick before → AddsAll G (bytes ∷ []) group now old new
  takes_tick bytes group one now old new mid gathers ticks count pace is before untimed timed = record {
    gathers = subst (λ (l : List (Option (List ℕ))). GathersMore G l group now old.replica new.replica)
        (sym (with_tick old.pace (one_more old.received) bytes
        (subst₂ (λ (p : Pace) (n : ℕ). ticks_after p n ≡ true) pace count is)))
        (λ first given was. subst (λ (l : List (Option (List ℕ))). G first l now new.replica)
        (append_assoc given (Some bytes ∷ []) (None ∷ []))
        (ticks first (given ++ Some bytes ∷ []) (gathers first given was)));
    counted = count;
    ticks = timed ∙ ap (λ (n : ℕ). one_more_tick n) untimed
        ∙ sym (ap (λ (l : List (Option (List ℕ))). all_ticks old.ticks l)
        (with_tick old.pace (one_more old.received) bytes
        (subst₂ (λ (p : Pace) (n : ℕ). ticks_after p n ≡ true) pace count is)));
    pace = pace;
  }

  -- datagrams, and more
  pub takes_more : (xs ys : List (List ℕ)) (group one now : GroupValue) (old mid new : ServerValue R)
      → AddsAll G xs group one old mid → AddsAll G ys one now mid new → AddsAll G (xs ++ ys) group now old new
  takes_more xs ys group one now old mid new a b = record {
    gathers = λ first given was.
        subst (λ (l : List (Option (List ℕ))). G first l now new.replica)
        (append_assoc given (all_inputs old.pace old.received xs) (all_inputs mid.pace mid.received ys)
        ∙ ap (λ (l : List (Option (List ℕ))). given ++ l) (later old mid xs ys a.pace a.counted))
        (b.gathers first (given ++ all_inputs old.pace old.received xs) (a.gathers first given was));
    counted = b.counted ∙ ap (λ (n : ℕ). counted n ys) a.counted ∙ sym (counted_more old.received xs ys);
    ticks = b.ticks ∙ ap (λ (n : ℕ). all_ticks n (all_inputs mid.pace mid.received ys)) a.ticks
        ∙ sym (ticks_more old.ticks (all_inputs old.pace old.received xs) (all_inputs mid.pace mid.received ys))
        ∙ ap (λ (l : List (Option (List ℕ))). all_ticks old.ticks l) (later old mid xs ys a.pace a.counted);
    pace = b.pace ∙ a.pace;
  }

  -- of a server that was the same
  pub takes_from : (xs : List (List ℕ)) (group now : GroupValue) (old begun new : ServerValue R)
      → begun.replica ≡ old.replica → begun.received ≡ old.received → begun.pace ≡ old.pace → begun.ticks ≡ old.ticks
      → AddsAll G xs group now begun new → AddsAll G xs group now old new
  takes_from xs group now old begun new replica received pace time t = record {
    gathers = subst₂ (λ (r : R) (l : List (Option (List ℕ))). GathersMore G l group now r new.replica) replica
        (inputs_from old begun xs pace received) t.gathers;
    counted = t.counted ∙ ap (λ (n : ℕ). counted n xs) received;
    ticks = t.ticks ∙ (λ i. all_ticks (time i) (inputs_from old begun xs pace received i));
    pace = t.pace ∙ pace;
  }

  pub socket_more : (observable : Type 0) (most more : ℕ) (xs ys : List (SocketAddr × List ℕ))
      (group one now : GroupValue) (old mid new : ServerValue R) → mid.cluster ≡ old.cluster
      → AddsFromSocket G observable most xs group one old mid → AddsFromSocket G observable more ys one now mid new
      → AddsFromSocket G observable (most + more) (xs ++ ys) group now old new
  socket_more observable most more xs ys group one now old mid new cluster a b =
      let filter = a.adds.network.1 in
      record {
        adds = record {
          adds = subst (λ (ds : List (List ℕ)). AddsAll G ds group now old new)
              (heard_more (filter_of old.addresses) xs ys)
              (takes_more (datagrams_in [] (all_filtered (filter_of old.addresses) xs))
              (datagrams_in [] (all_filtered (filter_of old.addresses) ys)) group one now old mid new a.adds.adds
              (subst (λ (s : Filter). AddsAll G (datagrams_in [] (all_filtered s ys)) one now mid new) filter
              b.adds.adds));
          heard = subst (λ (cs : List (SocketAddr × List ℕ)). RecordsSenders old.cluster cs old.addresses new.addresses)
              (sym (taken_more (filter_of old.addresses) xs ys))
              (hears_more old.cluster (all_filtered (filter_of old.addresses) xs)
              (all_filtered (filter_of old.addresses) ys) old.addresses mid.addresses new.addresses a.adds.heard
              (subst₂ (λ (n : ℕ) (s : Filter). RecordsSenders n (all_filtered s ys) mid.addresses new.addresses)
              cluster filter b.adds.heard));
          network = same_network old.addresses mid.addresses new.addresses a.adds.network b.adds.network;
        };
        comes = λ t. come_more (a.comes t) (b.comes t);
      }

  -- in as many receives or fewer
  pub socket_wider : (observable : Type 0) (most more : ℕ) (frames : List (SocketAddr × List ℕ))
      (group now : GroupValue) (old new : ServerValue R) → most ≤ more
      → AddsFromSocket G observable most frames group now old new
      → AddsFromSocket G observable more frames group now old new
  socket_wider observable most more frames group now old new le a =
      record { adds = a.adds; comes = λ t. come_wider le (a.comes t) }

  -- a frame of which this was taken
  pub heard_one : (frame x : SocketAddr × List ℕ) (group now : GroupValue) (old mid new : ServerValue R)
      → opened_as (filter_of old.addresses) frame ≡ x → is_filtered_out (filter_of old.addresses) frame ≡ false
      → RecordsSender old.cluster x.1 x.0 old.addresses mid.addresses → IsSameFilter old.addresses mid.addresses
      → new.addresses ≡ mid.addresses → mid.replica ≡ old.replica → mid.received ≡ old.received
      → mid.pace ≡ old.pace → mid.ticks ≡ old.ticks
      → AddsAll G (x.1 ∷ []) group now mid new → AddsHeard G (frame ∷ []) group now old new
  heard_one frame x group now old mid new is apart hears network book replica received pace time adds = record {
    adds = subst (λ (cs : List (SocketAddr × List ℕ)). AddsAll G (datagrams_in [] cs) group now old new)
        (sym (taken_one (filter_of old.addresses) frame x is apart))
        (takes_from (x.1 ∷ []) group now old mid new replica received pace time adds);
    heard = subst (λ (cs : List (SocketAddr × List ℕ)). RecordsSenders old.cluster cs old.addresses new.addresses)
        (sym (taken_one (filter_of old.addresses) frame x is apart)) (mid.addresses, hears, book);
    network = subst (λ (b : AddressBook). IsSameFilter old.addresses b) (sym book) network;
  }

  -- nothing is taken of a frame that stands beside the protocol
  pub socket_beside : (observable : Type 0) (most : ℕ) (e : Option (SocketAddr × List ℕ)) (frame : SocketAddr × List ℕ)
      (group now : GroupValue) (old mid new : ServerValue R) → e ≡ Some frame
      → (observable → ComeWithin most (listed e) old.incoming mid.incoming)
      → mid ≡ record old { incoming = mid.incoming }
      → is_filtered_out (filter_of mid.addresses) frame ≡ true
      → new ≡ mid → now ≡ group → AddsFromSocket G observable most (frame ∷ []) group now old new
  socket_beside observable most e frame group now old mid new is comes others beside same still =
      let as_was : new ≡ record old { incoming = mid.incoming } = same ∙ others in
      let aside : is_filtered_out (filter_of old.addresses) frame ≡ true =
      subst (λ (s : Filter). is_filtered_out s frame ≡ true)
      (ap (λ (s : ServerValue R). filter_of s.addresses) others) beside in
      let gone = taken_none (filter_of old.addresses) frame aside in
      let book : new.addresses ≡ old.addresses = ap (λ (s : ServerValue R). s.addresses) as_was in
      record {
        adds = record {
          adds =
              subst (λ (cs : List (SocketAddr × List ℕ)). AddsAll G (datagrams_in [] cs) group now old new) (sym gone)
              (takes_from [] group now old mid new (ap (λ (s : ServerValue R). s.replica) others)
              (ap (λ (s : ServerValue R). s.received) others) (ap (λ (s : ServerValue R). s.pace) others)
              (ap (λ (s : ServerValue R). s.ticks) others) (takes_nothing group now mid new still same));
          heard = subst (λ (cs : List (SocketAddr × List ℕ)). RecordsSenders old.cluster cs old.addresses new.addresses)
              (sym gone) book;
          network = (ap (λ (b : AddressBook). b.hosts) book, ap (λ (b : AddressBook). filter_of b) book);
        };
        comes = λ t. come_as most e (frame ∷ []) old mid new (ap listed is)
            (ap (λ (s : ServerValue R). s.incoming) same) (comes t);
      }

  -- it came from the socket
  pub socket_one : (observable : Type 0) (most : ℕ) (e : Option (SocketAddr × List ℕ)) (frame : SocketAddr × List ℕ)
      (group now : GroupValue) (old mid new : ServerValue R) → e ≡ Some frame
      → (observable → ComeWithin most (listed e) old.incoming mid.incoming)
      → mid ≡ record old { incoming = mid.incoming } → new.incoming ≡ mid.incoming
      → AddsHeard G (frame ∷ []) group now mid new → AddsFromSocket G observable most (frame ∷ []) group now old new
  socket_one observable most e frame group now old mid new is comes others incoming heard =
      let h = subst (λ (s : ServerValue R). AddsHeard G (frame ∷ []) group now s new) others heard in
      record {
        adds = record {
          adds =
              record {
                gathers = h.adds.gathers;
                counted = h.adds.counted;
                ticks = h.adds.ticks;
                pace = h.adds.pace;
              };
          heard = h.heard;
          network = h.network;
        };
        comes = λ t. come_as most e (frame ∷ []) old mid new (ap listed is) incoming (comes t);
      }

  -- no frame
  pub socket_nothing : (observable : Type 0) (group now : GroupValue) (old new : ServerValue R) → now ≡ group → new
      ≡ old
      → AddsFromSocket G observable 0 [] group now old new
  socket_nothing observable group now old new is same = record {
    adds = record {
      adds = takes_nothing group now old new is same;
      heard = ap (λ (s : ServerValue R). s.addresses) same;
      network =
          (ap (λ (s : ServerValue R). s.addresses.hosts) same, ap (λ (s : ServerValue R). filter_of s.addresses) same);
    };
    comes = λ t. come_none 0 old.incoming new.incoming (ap (λ (s : ServerValue R). s.incoming) same);
  }

  -- and no further one
  pub socket_still : (observable : Type 0) (most : ℕ) (xs : List (SocketAddr × List ℕ)) (group one now : GroupValue)
      (old mid new : ServerValue R) → AddsFromSocket G observable most xs group one old mid → now ≡ one
      → record new { incoming = mid.incoming } ≡ mid → (observable → ComeWithin 2 [] mid.incoming new.incoming)
      → AddsFromSocket G observable (most + 2) xs group now old new
  socket_still observable most xs group one now old mid new a is same none =
      let book : new.addresses ≡ mid.addresses = ap (λ (s : ServerValue R). s.addresses) same in
      record {
        adds = record {
          adds = record {
            gathers = subst₂ (λ (x : GroupValue) (r : R). GathersMore G
                (all_inputs old.pace old.received (datagrams_in [] (all_filtered (filter_of old.addresses) xs))) group
                x old.replica r) (sym is) (sym (ap (λ (s : ServerValue R). s.replica) same)) a.adds.adds.gathers;
            counted = ap (λ (s : ServerValue R). s.received) same ∙ a.adds.adds.counted;
            ticks = ap (λ (s : ServerValue R). s.ticks) same ∙ a.adds.adds.ticks;
            pace = ap (λ (s : ServerValue R). s.pace) same ∙ a.adds.adds.pace;
          };
          heard = subst (λ (b : AddressBook). RecordsSenders old.cluster
              (all_filtered (filter_of old.addresses) xs) old.addresses b) (sym book) a.adds.heard;
          network = subst (λ (b : AddressBook). IsSameFilter old.addresses b) (sym book) a.adds.network;
        };
        comes = λ t. subst
            (λ (fs : List (SocketAddr × List ℕ)). ComeWithin (most + 2) fs old.incoming new.incoming)
            (append-nil xs) (come_more (a.comes t) (none t));
      }

  -- all envelopes that waited were taken
  pub own_stops : (taken : List EnvelopeValue) (group one now : GroupValue) (old mid new : ServerValue R)
      → old.loopback ≡ taken ++ mid.loopback → length taken ≤ 63
      → AddsAll G (datagrams_in taken []) group one old mid
      → mid.loopback ≡ [] → new ≡ mid → now ≡ one → AddsLoopback G 63 group now old new
  own_stops taken group one now old mid new parts few t none same is =
      let all = own_all old.loopback taken mid.loopback 63 parts none few in
      record {
        adds = subst (λ (ls : List EnvelopeValue). AddsAll G (datagrams_in ls []) group now old new) (sym all.0)
            (subst₂ (λ (x : GroupValue) (s : ServerValue R). AddsAll G (datagrams_in taken []) group x old s) (sym is)
            (sym same) t);
        left = ap (λ (s : ServerValue R). s.loopback) same ∙ sym all.1;
      }

  -- so many were
  pub own_fills : (taken : List EnvelopeValue) (group now : GroupValue) (old new : ServerValue R)
      → old.loopback ≡ taken ++ new.loopback → length taken ≡ 63
      → AddsAll G (datagrams_in taken []) group now old new
      → AddsLoopback G 63 group now old new
  own_fills taken group now old new parts many t =
      let all = own_full old.loopback taken new.loopback 63 parts many in
      record {
        adds = subst (λ (ls : List EnvelopeValue). AddsAll G (datagrams_in ls []) group now old new)
            (sym all.0) t;
        left = sym all.1;
      }

  -- one more
  pub own_goes : (taken : List EnvelopeValue) (l : EnvelopeValue) (group one now : GroupValue)
      (old mid new : ServerValue R) → AddsAll G (datagrams_in taken []) group one old mid
      → AddsAll G (l.bytes ∷ []) one now mid new
      → AddsAll G (datagrams_in (taken ++ l ∷ []) []) group now old new
  own_goes taken l group one now old mid new a b =
      subst (λ (ds : List (List ℕ)). AddsAll G ds group now old new) (own_more taken l)
      (takes_more (datagrams_in taken []) (l.bytes ∷ []) group one now old mid new a b)

-- ---- what ends it

module _ {R : Type 0} (S : Sayings R) (G : Gatherings R) where
  -- said by a replica that was the same
  pub silent_from : (more : List (Option (List ℕ))) (group : GroupValue) (old begun new : R) → begun ≡ old
      → SaysNoMore S G more group begun new → SaysNoMore S G more group old new
  silent_from more group old begun new same silent = subst (λ (r : R). SaysNoMore S G more group r new) same silent

  -- a datagram has ended it, whether a tick was to follow or not
  pub ends_one : (bytes : List ℕ) (group : GroupValue) (old new : ServerValue R)
      → SaysNoMore S G (Some bytes ∷ []) group old.replica new.replica → new.ticks ≡ old.ticks
      → EndsWithin S G (bytes ∷ []) group old new
  ends_one bytes group old new silent untimed =
      record {
        given = Some bytes ∷ [];
        front = bytes_first old.pace (one_more old.received) bytes;
        silent = silent;
        ticks = untimed;
      }

  -- the tick after it
  pub ends_tick : (bytes : List ℕ) (group one : GroupValue) (old new : ServerValue R) (mid : R) (received : ℕ)
      (pace : Pace) → GathersMore G (Some bytes ∷ []) group one old.replica mid
      → SaysNoMore S G (None ∷ []) one mid new.replica
      → received ≡ one_more old.received → pace ≡ old.pace → ticks_after pace received ≡ true
      → (before : ℕ) → before ≡ old.ticks → new.ticks ≡ one_more_tick before → EndsWithin S G (bytes ∷ []) group old new
  ends_tick bytes group one old new mid received pace gathers silent count same is before untimed timed = record {
    given = Some bytes ∷ None ∷ [];
    front = (
      [],
      with_tick old.pace (one_more old.received) bytes
          (subst₂ (λ (p : Pace) (n : ℕ). ticks_after p n ≡ true) same count is),
    );
    silent = λ first given was. subst (λ (l : List (Option (List ℕ))). S first l [] new.replica)
        (append_assoc given (Some bytes ∷ []) (None ∷ []))
        (silent first (given ++ Some bytes ∷ []) (gathers first given was));
    ticks = timed ∙ ap (λ (n : ℕ). one_more_tick n) untimed;
  }

  pub ends_more : (xs ys : List (List ℕ)) (group one : GroupValue) (old mid new : ServerValue R)
      → AddsAll G xs group one old mid → EndsWithin S G ys one mid new → EndsWithin S G (xs ++ ys) group old new
  ends_more xs ys group one old mid new a e = record {
    given = all_inputs old.pace old.received xs ++ e.given;
    front = (
      e.front.0,
      sym (later old mid xs ys a.pace a.counted)
          ∙ ap (λ (l : List (Option (List ℕ))). all_inputs old.pace old.received xs ++ l) e.front.1
          ∙ sym (append_assoc (all_inputs old.pace old.received xs) e.given e.front.0),
    );
    silent = λ first given was.
        subst (λ (l : List (Option (List ℕ))). S first l [] new.replica)
        (append_assoc given (all_inputs old.pace old.received xs) e.given)
        (e.silent first (given ++ all_inputs old.pace old.received xs) (a.gathers first given was));
    ticks = e.ticks ∙ ap (λ (n : ℕ). all_ticks n e.given) a.ticks
        ∙ sym (ticks_more old.ticks (all_inputs old.pace old.received xs) e.given);
  }

  pub ends_from : (xs : List (List ℕ)) (group : GroupValue) (old begun new : ServerValue R)
      → begun.replica ≡ old.replica → begun.received ≡ old.received → begun.pace ≡ old.pace → begun.ticks ≡ old.ticks
      → EndsWithin S G xs group begun new → EndsWithin S G xs group old new
  ends_from xs group old begun new replica received pace time e = record {
    given = e.given;
    front = (e.front.0, sym (inputs_from old begun xs pace received) ∙ e.front.1);
    silent = subst (λ (r : R). SaysNoMore S G e.given group r new.replica) replica e.silent;
    ticks = e.ticks ∙ ap (λ (n : ℕ). all_ticks n e.given) time;
  }

  pub ends_heard : (frame x : SocketAddr × List ℕ) (group : GroupValue) (old mid new : ServerValue R)
      → opened_as (filter_of old.addresses) frame ≡ x → is_filtered_out (filter_of old.addresses) frame ≡ false
      → RecordsSender old.cluster x.1 x.0 old.addresses mid.addresses → IsSameFilter old.addresses mid.addresses
      → new.addresses ≡ mid.addresses → mid.replica ≡ old.replica → mid.received ≡ old.received
      → mid.pace ≡ old.pace → mid.ticks ≡ old.ticks
      → EndsWithin S G (x.1 ∷ []) group mid new → EndsHeard S G (frame ∷ []) group old new
  ends_heard frame x group old mid new is apart hears network book replica received pace time ends = record {
    ends = subst (λ (cs : List (SocketAddr × List ℕ)). EndsWithin S G (datagrams_in [] cs) group old new)
        (sym (taken_one (filter_of old.addresses) frame x is apart))
        (ends_from (x.1 ∷ []) group old mid new replica received pace time ends);
    heard = subst (λ (cs : List (SocketAddr × List ℕ)). RecordsSenders old.cluster cs old.addresses new.addresses)
        (sym (taken_one (filter_of old.addresses) frame x is apart)) (mid.addresses, hears, book);
    network = subst (λ (b : AddressBook). IsSameFilter old.addresses b) (sym book) network;
  }

  pub ends_socket : (observable : Type 0) (most : ℕ) (e : Option (SocketAddr × List ℕ)) (frame : SocketAddr × List ℕ)
      (group : GroupValue) (old mid new : ServerValue R) → e ≡ Some frame
      → (observable → ComeWithin most (listed e) old.incoming mid.incoming)
      → mid ≡ record old { incoming = mid.incoming } → new.incoming ≡ mid.incoming
      → EndsHeard S G (frame ∷ []) group mid new → EndsSocket S G observable most (frame ∷ []) group old new
  ends_socket observable most e frame group old mid new is comes others incoming ends =
      let h = subst (λ (s : ServerValue R). EndsHeard S G (frame ∷ []) group s new) others ends in
      record {
        ends = record {
          ends = record {
            given = h.ends.given;
            front = h.ends.front;
            silent = h.ends.silent;
            ticks = h.ends.ticks;
          };
          heard = h.heard;
          network = h.network;
        };
        comes = λ t. come_as most e (frame ∷ []) old mid new (ap listed is) incoming (comes t);
      }

  pub ends_further : (observable : Type 0) (most more all : ℕ) (xs ys : List (SocketAddr × List ℕ))
      (group one : GroupValue) (old mid new : ServerValue R) → mid.cluster ≡ old.cluster → most + more ≤ all
      → AddsFromSocket G observable most xs group one old mid → EndsSocket S G observable more ys one mid new
      → EndsSocket S G observable all (xs ++ ys) group old new
  ends_further observable most more all xs ys group one old mid new cluster le a b =
      let filter = a.adds.network.1 in
      record {
        ends = record {
          ends = subst (λ (ds : List (List ℕ)). EndsWithin S G ds group old new)
              (heard_more (filter_of old.addresses) xs ys)
              (ends_more (datagrams_in [] (all_filtered (filter_of old.addresses) xs))
              (datagrams_in [] (all_filtered (filter_of old.addresses) ys)) group one old mid new a.adds.adds
              (subst (λ (s : Filter). EndsWithin S G (datagrams_in [] (all_filtered s ys)) one mid new) filter
              b.ends.ends));
          heard = subst (λ (cs : List (SocketAddr × List ℕ)). RecordsSenders old.cluster cs old.addresses new.addresses)
              (sym (taken_more (filter_of old.addresses) xs ys))
              (hears_more old.cluster (all_filtered (filter_of old.addresses) xs)
              (all_filtered (filter_of old.addresses) ys) old.addresses mid.addresses new.addresses a.adds.heard
              (subst₂ (λ (n : ℕ) (s : Filter). RecordsSenders n (all_filtered s ys) mid.addresses new.addresses)
              cluster filter b.ends.heard));
          network = same_network old.addresses mid.addresses new.addresses a.adds.network b.ends.network;
        };
        comes = λ t. come_wider le (come_more (a.comes t) (b.comes t));
      }

  -- an envelope has ended it
  pub own_breaks : (taken : List EnvelopeValue) (l : EnvelopeValue) (group one : GroupValue)
      (old mid new : ServerValue R)
      → old.loopback ≡ taken ++ mid.loopback → length taken + 1 ≤ 63 → mid.loopback ≡ l ∷ new.loopback
      → AddsAll G (datagrams_in taken []) group one old mid → EndsWithin S G (l.bytes ∷ []) one mid new
      → EndsLoopback S G 63 group old new
  own_breaks taken l group one old mid new parts few first a e =
      let all_parts : old.loopback ≡ (taken ++ l ∷ []) ++ new.loopback = parts
      ∙ ap (λ (o : List EnvelopeValue). taken ++ o) first
      ∙ sym (append_assoc taken (l ∷ []) new.loopback) in
      let all = own_full old.loopback (taken ++ l ∷ []) new.loopback (length (taken ++ l ∷ [])) all_parts refl in
      record {
        count = length (taken ++ l ∷ []);
        at_most = omega (arith, few, length-append taken (l ∷ []));
        some = λ is. absurd (omega (arith, is, length-append taken (l ∷ [])));
        waited = some_own old.loopback taken new.loopback l all_parts;
        ends = subst (λ (ls : List EnvelopeValue). EndsWithin S G (datagrams_in ls []) group old new) (sym all.0)
            (subst (λ (ds : List (List ℕ)). EndsWithin S G ds group old new) (own_more taken l)
            (ends_more (datagrams_in taken []) (l.bytes ∷ []) group one old mid new a e));
        left = sym all.1;
      }
