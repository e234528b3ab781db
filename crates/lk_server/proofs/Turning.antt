-- A turn, by what was taken in it.
use Rattle.std.proofs.Common.{◌≡◌, ◌≢◌, ◌++◌, ℕ, zero, suc, ◌≤◌, ◌+◌, ◌%◌, min, Bool, true, false, List, [], ◌∷◌}
use Rattle.std.proofs.Common.{length, map, take}
use Rattle.std.proofs.Common.{drop, Option, Some, None, inl, inr, refl, ap, sym, ◌∙◌, subst, subst₂, append-nil}
use Rattle.std.proofs.Common.{append_assoc, arith}
use Rattle.std.specs.Prelude.{Result, Ok, Err, OnOk, OnErr}
use Rattle.std.specs.declared.net.socket_addr.SocketAddr.{SocketAddr}
use Rattle.lk_node_interface.specs.Envelopes.{EnvelopeValue}
use Rattle.lk_replica.specs.Groups.{GroupValue}
use Rattle.lk_address_book.specs.Addresses.{AddressBook, Filter, filter_of, IsSameFilter}
use Rattle.lk_server_replica.specs.Groups.{Sayings, Gatherings, GathersMore, SaysNoMore}
use Rattle.lk_server.specs.Gatherings.{AreFound, Finds, AddsAll, EndsWithin, AddsLoopback, EndsLoopback}
use Rattle.lk_server.specs.Gatherings.{AddsHeard, EndsHeard, AddsWaiting, AddsGroup, EndsGroup, DeliversAllEnvelopes}
use Rattle.lk_server.specs.Gatherings.{ChangesAtInput, ChangesInGroup, GathersNudge, SaysNothing}
use Rattle.lk_pacing.specs.Paces.{MayFollow}
use Rattle.lk_auth.specs.Seals.{heard}
use Rattle.lk_address_book.specs.Senders.{RecordsSenders}
use Rattle.lk_address_book.specs.Filters.{is_filtered_out, all_filtered}
use Rattle.lk_transport.specs.Streams.{Stream, Receives, ReceivesOne, frames_in, listed}
use Rattle.lk_transport.proofs.Streaming.{receives_frames, come_none, come_first}
use Rattle.lk_server.specs.Servers.{ServerValue, DeliversEnvelopes, DeliversNothing, HasReceived, IsSameServer, Turn}
use Rattle.lk_server.specs.Servers.{LastTurn}
use Rattle.lk_server.specs.Servers.{IsIdle, Given, GivenPrefix, EnvelopesFirst, all_inputs, all_ticks, counted}
use Rattle.lk_server.specs.Servers.{datagrams_in, one_more, MayWithhold, Withholding}
use Rattle.lk_server.specs.Servers.{ReceivesGroup, one_more_tick}
use Rattle.lk_pacing.specs.declared.turn_input.TurnInput.{TurnInput}
use Rattle.lk_pacing.specs.declared.turn_input.TurnInput.TheVariants.{Nothing, Filtered, Something}
use Rattle.lk_pacing.specs.declared.pace.Pace.{Pace}
use Rattle.lk_pacing.specs.declared.pace.Pace.TheVariants.{Datagrams, Clock}
use Rattle.lk_server.proofs.Gatherings.{takes_more, ends_more, ticks_more, long_as, taken_more, taken_first, found_none}
use Rattle.lk_server.proofs.Gatherings.{found_few}

-- no tick may follow, however they go
no_tick : (pace : Pace) → MayFollow pace []
no_tick Datagrams = refl
no_tick Clock = inl refl

-- by the clock one may
one_tick : (pace : Pace) → pace ≡ Clock → MayFollow pace (None ∷ [])
one_tick pace is = subst (λ (p : Pace). MayFollow p (None ∷ [])) (sym is) (inr refl)

-- where something was taken, that may be given, and then ticks that may follow
given_then : (pace : Pace) (received : ℕ) (ds : List (List ℕ)) (ticks : List (Option (List ℕ))) → MayFollow pace ticks
    → ds ≢ [] → Given pace received ds (all_inputs pace received ds ++ ticks)
given_then pace received [] ticks may some = absurd (some refl)
given_then pace received (d ∷ ds) ticks may some = (ticks, may, refl)

given_some : (pace : Pace) (received : ℕ) (ds : List (List ℕ)) → ds ≢ []
    → Given pace received ds (all_inputs pace received ds)
given_some pace received ds some =
    subst (λ (g : List (Option (List ℕ))). Given pace received ds g) (append-nil (all_inputs pace received ds))
    (given_then pace received ds [] (no_tick pace) some)

-- all of what may be given is a beginning of it
given_all : (pace : Pace) (received : ℕ) (ds : List (List ℕ)) (given : List (Option (List ℕ)))
    → Given pace received ds given → GivenPrefix pace received ds given
given_all pace received ds given may = record { whole = given; may = may; front = ([], sym (append-nil given)) }

-- where nothing is taken a tick may be given
given_none : (pace : Pace) (received : ℕ) (ds : List (List ℕ)) → ds ≡ [] → Given pace received ds (None ∷ [])
given_none pace received ds none = subst (λ (l : List (List ℕ)). Given pace received l (None ∷ [])) (sym none) refl

-- by the clock no datagram brings a tick
no_ticks : (pace : Pace) (received ticks : ℕ) (ds : List (List ℕ)) → pace ≡ Clock
    → all_ticks ticks (all_inputs pace received ds) ≡ ticks
no_ticks Clock received ticks [] is = refl
no_ticks Clock received ticks (d ∷ ds) is = no_ticks Clock (one_more received) ticks ds is
no_ticks Datagrams received ticks ds is = absurd (cc is)

-- ---- ticks that are withheld

-- a server may withhold one where another may that is in the same period
may_from : {R : Type 0} (old mid : ServerValue R) → mid.pace ≡ old.pace → mid.addresses.deaf ≡ old.addresses.deaf
    → mid.ticks ≡ old.ticks → mid.withheld ≡ old.withheld → MayWithhold mid → MayWithhold old
may_from old mid pace deaf ticks withheld m = record {
  withholds = record { clock = sym pace ∙ m.withholds.clock; deaf = sym deaf ∙ m.withholds.deaf };
  no_nudge = subst₂ (λ (t w : ℕ). one_more_tick (min (t + w) 18446744073709551615) % 31 ≢ 0) ticks withheld m.no_nudge;
}

-- none was due
pub none_withheld : {R : Type 0} (old new : ServerValue R) (ds : List (List ℕ)) → new.withheld ≡ old.withheld
    → new.ticks ≡ all_ticks old.ticks (all_inputs old.pace old.received ds) → Withholding old new
none_withheld old new ds withheld ticks =
    inr (withheld, λ m. ticks ∙ no_ticks old.pace old.received old.ticks ds m.withholds.clock)

-- one was
one_withheld : {R : Type 0} (old mid new : ServerValue R) (ds : List (List ℕ)) → mid.pace ≡ old.pace
    → mid.addresses.deaf ≡ old.addresses.deaf → mid.withheld ≡ old.withheld
    → mid.ticks ≡ all_ticks old.ticks (all_inputs old.pace old.received ds)
    → new ≡ record mid { withheld = one_more_tick mid.withheld; quiet = new.quiet } → MayWithhold mid
    → Withholding old new
one_withheld {R} old mid new ds pace deaf withheld ticks same m =
    let still : mid.ticks ≡ old.ticks =
    ticks ∙ no_ticks old.pace old.received old.ticks ds (sym pace ∙ m.withholds.clock) in
    inl (
      may_from old mid pace deaf still withheld m,
      ap (λ (s : ServerValue R). s.withheld) same ∙ ap (λ (n : ℕ). one_more_tick n) withheld,
      ap (λ (s : ServerValue R). s.ticks) same ∙ still,
    )

-- one that was given had not to be withheld
one_given : {R : Type 0} (old mid new : ServerValue R) (ds : List (List ℕ)) → mid.pace ≡ old.pace
    → mid.addresses.deaf ≡ old.addresses.deaf → mid.withheld ≡ old.withheld
    → mid.ticks ≡ all_ticks old.ticks (all_inputs old.pace old.received ds) → new.withheld ≡ mid.withheld
    → (MayWithhold mid → ⊥) → Withholding old new
one_given old mid new ds pace deaf withheld ticks kept none =
    inr (
      kept ∙ withheld,
      λ m. absurd (none (may_from mid old (sym pace) (sym deaf)
          (sym (ticks ∙ no_ticks old.pace old.received old.ticks ds m.withholds.clock)) (sym withheld) m)),
    )

-- and further on nothing is withheld
withholding_on : {R : Type 0} (old mid new : ServerValue R) → new.ticks ≡ mid.ticks → new.withheld ≡ mid.withheld
    → Withholding old mid → Withholding old new
withholding_on old mid new ticks withheld w = elim w [
  | inl one ↦ inl (one.0, withheld ∙ one.1, ticks ∙ one.2)
  | inr none ↦ inr (withheld ∙ none.0, λ m. ticks ∙ none.1 m)
]

-- what comes after a first one is something
pub some_datagrams : (s : Filter) (loopback : List EnvelopeValue) (d : SocketAddr × List ℕ)
    (more : List (SocketAddr × List ℕ)) → loopback ≡ [] → is_filtered_out s d ≡ false
    → datagrams_in loopback (all_filtered s (d ∷ more)) ≢ []
some_datagrams s loopback d more none apart is =
    let both : heard s.seals d.1 ∷ map (λ (x : SocketAddr × List ℕ). x.1) (all_filtered s more) ≡ [] =
    sym (ap (λ (o : List EnvelopeValue). datagrams_in o (all_filtered s (d ∷ more))) none
    ∙ ap (λ (cs : List (SocketAddr × List ℕ)). datagrams_in [] cs) (taken_first s d more apart)) ∙ is in
    cc both

-- of no envelopes none are taken
take_none : (n : ℕ) (loopback : List EnvelopeValue) → loopback ≡ [] → take n loopback ≡ []
take_none zero [] none = refl
take_none (suc n) [] none = refl
take_none n (l ∷ loopback) none = absurd (cc none)

-- it is the same server of which nothing else has changed
pub same_by : {R : Type 0} (old new : ServerValue R)
    → new ≡ record old {
      replica = new.replica;
      failed = new.failed;
      digest = new.digest;
      quiet = new.quiet;
      fed = new.fed;
      received = new.received;
      ticks = new.ticks;
      withheld = new.withheld;
      loopback = new.loopback;
      addresses = new.addresses;
      incoming = new.incoming;
    } → IsSameServer old new
same_by old new others = record {
  cluster = ap (λ (s : ServerValue _). s.cluster) others;
  node = ap (λ (s : ServerValue _). s.node) others;
  pace = ap (λ (s : ServerValue _). s.pace) others;
  queue = ap (λ (s : ServerValue _). s.waiting.queue) others;
  aged = ap (λ (s : ServerValue _). s.waiting.aged) others;
  spoke = ap (λ (s : ServerValue _). s.waiting.spoke) others;
  served = ap (λ (s : ServerValue _). s.waiting.served) others;
}

pub same_in_group : {R : Type 0} (old new : ServerValue R) → ChangesInGroup old new → IsSameServer old new
same_in_group old new others = record {
  cluster = ap (λ (s : ServerValue _). s.cluster) others;
  node = ap (λ (s : ServerValue _). s.node) others;
  pace = ap (λ (s : ServerValue _). s.pace) others;
  queue = ap (λ (s : ServerValue _). s.waiting.queue) others;
  aged = ap (λ (s : ServerValue _). s.waiting.aged) others;
  spoke = ap (λ (s : ServerValue _). s.waiting.spoke) others;
  served = ap (λ (s : ServerValue _). s.waiting.served) others;
}

pub same_at_input : {R : Type 0} (old new : ServerValue R) → ChangesAtInput old new → IsSameServer old new
same_at_input {R} old new changed = record {
  cluster = ap (λ (s : ServerValue R). s.cluster) changed;
  node = ap (λ (s : ServerValue R). s.node) changed;
  pace = ap (λ (s : ServerValue R). s.pace) changed;
  queue = ap (λ (s : ServerValue R). s.waiting.queue) changed;
  aged = ap (λ (s : ServerValue R). s.waiting.aged) changed;
  spoke = ap (λ (s : ServerValue R). s.waiting.spoke) changed;
  served = ap (λ (s : ServerValue R). s.waiting.served) changed;
}

-- one receive is all that a turn receives
group_of_one : (frames : List (SocketAddr × List ℕ)) (old new : Stream) → ReceivesOne frames old new
    → ReceivesGroup frames old new
group_of_one frames old new r =
    subst (λ (fs : List (SocketAddr × List ℕ)). ReceivesGroup fs old new) (sym r.1) (only r.0 r.2)
  where
    only : (found : Option (SocketAddr × List ℕ)) → Receives found old new → ReceivesGroup (listed found) old new
    only None r = r
    only (Some d) r = (new, r, come_none 2 new new refl)

-- the frames of a turn are the first of those to come
group_first : (frames : List (SocketAddr × List ℕ)) (old new : Stream) → ReceivesGroup frames old new
    → frames_in old ≡ frames ++ frames_in new
group_first [] old new r = receives_frames None old new r
group_first (first ∷ further) old new r =
    receives_frames (Some first) old r.0 r.1
    ∙ ap (λ (l : List (SocketAddr × List ℕ)). first ∷ l) (come_first r.2)

-- what is taken of the frames that came is what may be taken
received_first : {R : Type 0} (observable : Type 0) (frames : List (SocketAddr × List ℕ)) (old new : ServerValue R)
    → HasReceived observable frames old new → EnvelopesFirst observable (all_filtered
    (filter_of old.addresses) frames) old
received_first observable frames old new r = record {
  alone = elim r.alone [
    | inl none ↦ inl none
    | inr none ↦
        inr (ap (λ (l : List (SocketAddr × List ℕ)). all_filtered (filter_of old.addresses) l) none)
  ];
  few = omega (arith, r.few, long_as (filter_of old.addresses) frames);
  comes = λ telling empty. (
    all_filtered (filter_of old.addresses) (frames_in new.incoming),
    ap (λ (l : List (SocketAddr × List ℕ)). all_filtered (filter_of old.addresses) l)
        (group_first frames old.incoming new.incoming (r.comes telling empty))
        ∙ taken_more (filter_of old.addresses) frames (frames_in new.incoming),
  );
}

-- and what is to come is the same behind it
pub received_on : {R : Type 0} (observable : Type 0) (frames : List (SocketAddr × List ℕ)) (old mid new : ServerValue R)
    → (observable → new.incoming ≡ mid.incoming) → HasReceived observable frames old mid
    → HasReceived observable frames old new
received_on observable frames old mid new still r = record {
  alone = r.alone;
  few = r.few;
  waits = λ telling some. still telling ∙ r.waits telling some;
  comes = λ telling empty. subst (λ (s : Stream). ReceivesGroup frames old.incoming s) (sym (still telling))
      (r.comes telling empty);
}

module _ {R : Type 0} (S : Sayings R) (G : Gatherings R) (observable : Type 0) where
  -- ---- what is taken

  -- frames of the socket, where no envelope of the node to itself waits
  pub socket_group : (frame : SocketAddr × List ℕ) (frames : List (SocketAddr × List ℕ)) (group now : GroupValue)
      (old new : ServerValue R) → old.loopback ≡ [] → new.loopback ≡ old.loopback → length frames ≤ 63
      → is_filtered_out (filter_of old.addresses) frame ≡ false
      → (observable → ReceivesGroup (frame ∷ frames) old.incoming new.incoming)
      → AddsHeard G (frame ∷ frames) group now old new → AddsWaiting G observable (frame ∷ frames) group now old new
  socket_group frame frames group now old new none loopback few apart comes t = record {
    received = record {
      alone = inl none;
      few = omega (arith, few);
      waits = λ telling some. absurd (some none);
      comes = λ telling empty. comes telling;
    };
    adds = subst (λ (o : List EnvelopeValue). AddsAll G
        (datagrams_in (take 64 o) (all_filtered (filter_of old.addresses) (frame ∷ frames))) group now old new)
        (sym none) t.adds;
    some = some_datagrams (filter_of old.addresses) (take 64 old.loopback) frame frames
        (ap (λ (o : List EnvelopeValue). take 64 o) none) apart;
    left = loopback ∙ none ∙ sym (ap (λ (o : List EnvelopeValue). drop 64 o) none);
    heard = t.heard;
    network = t.network;
  }

  pub socket_ends : (frame : SocketAddr × List ℕ) (frames : List (SocketAddr × List ℕ)) (group : GroupValue)
      (old new : ServerValue R) → old.loopback ≡ [] → new.loopback ≡ old.loopback → length frames ≤ 63
      → is_filtered_out (filter_of old.addresses) frame ≡ false
      → (observable → ReceivesGroup (frame ∷ frames) old.incoming new.incoming)
      → EndsHeard S G (frame ∷ frames) group old new → EndsGroup S G observable (frame ∷ frames) group old new
  socket_ends frame frames group old new none loopback few apart comes t =
      let e = subst (λ (o : List EnvelopeValue). EndsWithin S G
      (datagrams_in (take 0 o) (all_filtered (filter_of old.addresses) (frame ∷ frames))) group old new)
      (sym none) t.ends in
      record {
        received = record {
          alone = inl none;
          few = omega (arith, few);
          waits = λ telling some. absurd (some none);
          comes = λ telling empty. comes telling;
        };
        count = 0;
        envelopes = record { at_most = omega arith; some = λ is. none };
        given = e.given;
        first = record {
          whole = all_inputs old.pace old.received
              (datagrams_in (take 0 old.loopback) (all_filtered (filter_of old.addresses) (frame ∷ frames)));
          may = given_some old.pace old.received
              (datagrams_in (take 0 old.loopback) (all_filtered (filter_of old.addresses) (frame ∷ frames)))
              (some_datagrams (filter_of old.addresses) (take 0 old.loopback) frame frames
              (ap (λ (o : List EnvelopeValue). take 0 o) none) apart);
          front = e.front;
        };
        silent = e.silent;
        ticks = e.ticks;
        left = loopback ∙ none ∙ sym (ap (λ (o : List EnvelopeValue). drop 0 o) none);
        heard = t.heard;
        network = t.network;
      }

  -- envelopes of the node to itself: a first one, and further ones
  own_received : (l : EnvelopeValue) (rest : List EnvelopeValue) (old new : ServerValue R) → old.loopback ≡ l ∷ rest
      → new.incoming ≡ old.incoming → HasReceived observable [] old new
  own_received l rest old new loopback still = record {
    alone = inr refl;
    few = omega arith;
    waits = λ telling some. still;
    comes = λ telling empty. absurd (let both : l ∷ rest ≡ [] = sym loopback ∙ empty in cc both);
  }

  pub own_group : (l : EnvelopeValue) (group one now : GroupValue) (old mid new : ServerValue R) → old.loopback
      ≡ l ∷ mid.loopback
      → new.addresses ≡ old.addresses → new.incoming ≡ old.incoming
      → AddsAll G (l.bytes ∷ []) group one old mid → AddsLoopback G 63 one now mid new
      → AddsWaiting G observable [] group now old new
  own_group l group one now old mid new loopback book still first further = record {
    received = own_received l mid.loopback old new loopback still;
    adds = subst (λ (o : List EnvelopeValue). AddsAll G (datagrams_in (take 64 o) []) group now old new)
        (sym loopback)
        (takes_more G (l.bytes ∷ []) (datagrams_in
        (take 63 mid.loopback) []) group one now old mid new first further.adds);
    some = λ is. let both : l.bytes ∷ datagrams_in (take 63 mid.loopback) [] ≡ [] =
        sym (ap (λ (o : List EnvelopeValue). datagrams_in (take 64 o) []) loopback) ∙ is in cc both;
    left = further.left ∙ sym (ap (λ (o : List EnvelopeValue). drop 64 o) loopback);
    heard = book;
    network = (ap (λ (b : AddressBook). b.hosts) book, ap (λ (b : AddressBook). filter_of b) book);
  }

  -- so many of them have ended it
  own_ends_at : (count : ℕ) (l : EnvelopeValue) (rest : List EnvelopeValue) (group : GroupValue)
      (old new : ServerValue R)
      → old.loopback ≡ l ∷ rest → new.addresses ≡ old.addresses → new.incoming ≡ old.incoming → suc count ≤ 64
      → EndsWithin S G (datagrams_in (take (suc count) (l ∷ rest)) []) group old new
      → new.loopback ≡ drop (suc count) (l ∷ rest) → EndsGroup S G observable [] group old new
  own_ends_at count l rest group old new loopback book still few ends left =
      let e = subst (λ (o : List EnvelopeValue). EndsWithin S G (datagrams_in (take (suc count) o) []) group old new)
      (sym loopback) ends in
      record {
        received = own_received l rest old new loopback still;
        count = suc count;
        envelopes = record { at_most = few; some = λ is. absurd (omega (arith, is)) };
        given = e.given;
        first = record {
          whole = all_inputs old.pace old.received (datagrams_in (take (suc count) old.loopback) []);
          may = given_some old.pace old.received (datagrams_in (take (suc count) old.loopback) [])
              (λ is. let both : l.bytes ∷ datagrams_in (take count rest) [] ≡ [] =
              sym (ap (λ (o : List EnvelopeValue). datagrams_in (take (suc count) o) []) loopback) ∙ is in cc both);
          front = e.front;
        };
        silent = e.silent;
        ticks = e.ticks;
        left = left ∙ sym (ap (λ (o : List EnvelopeValue). drop (suc count) o) loopback);
        heard = book;
        network = (ap (λ (b : AddressBook). b.hosts) book, ap (λ (b : AddressBook). filter_of b) book);
      }

  -- the first has
  pub own_ends_first : (l : EnvelopeValue) (group : GroupValue) (old new : ServerValue R) → old.loopback
      ≡ l ∷ new.loopback
      → new.addresses ≡ old.addresses → new.incoming ≡ old.incoming
      → EndsWithin S G (l.bytes ∷ []) group old new → EndsGroup S G observable [] group old new
  own_ends_first l group old new loopback book still ends =
      own_ends_at 0 l new.loopback group old new loopback book still (omega arith)
      (subst (λ (o : List EnvelopeValue). EndsWithin S G (datagrams_in (l ∷ o) []) group old new)
      (sym (none new.loopback)) ends) (sym (all new.loopback))
    where
      none : (o : List EnvelopeValue) → take 0 o ≡ []
      none [] = refl
      none (x ∷ o) = refl

      all : (o : List EnvelopeValue) → drop 0 o ≡ o
      all [] = refl
      all (x ∷ o) = refl

  -- a further one has
  pub own_ends : (l : EnvelopeValue) (group one : GroupValue) (old mid new : ServerValue R) → old.loopback
      ≡ l ∷ mid.loopback
      → new.addresses ≡ old.addresses → new.incoming ≡ old.incoming
      → AddsAll G (l.bytes ∷ []) group one old mid → EndsLoopback S G 63 one mid new
      → EndsGroup S G observable [] group old new
  own_ends l group one old mid new loopback book still first further =
      own_ends_at further.count l mid.loopback group old new loopback book still (omega (arith, further.at_most))
      (ends_more S G (l.bytes ∷ [])
      (datagrams_in (take further.count mid.loopback) []) group one old mid new first further.ends) further.left

  -- ---- the tick of a turn

  -- none is given: what waits is all
  given_none_more : (frames : List (SocketAddr × List ℕ)) (group now : GroupValue) (old mid new : ServerValue R)
      → AddsWaiting G observable frames group now old mid
      → new ≡ record mid { withheld = new.withheld; quiet = new.quiet }
      → Withholding old new → AddsGroup G observable frames group now old new
  given_none_more frames group now old mid new t same w =
      let ds = datagrams_in (take 64 old.loopback) (all_filtered (filter_of old.addresses) frames) in
      record {
        received = received_on observable frames old mid new (λ telling. ap (λ (s : ServerValue R). s.incoming) same)
            t.received;
        given = all_inputs old.pace old.received ds;
        may = given_some old.pace old.received ds t.some;
        gathers = subst (λ (r : R). GathersMore G (all_inputs old.pace old.received ds) group now old.replica r)
            (sym (ap (λ (s : ServerValue R). s.replica) same)) t.adds.gathers;
        counted = ap (λ (s : ServerValue R). s.received) same ∙ t.adds.counted;
        ticks = ap (λ (s : ServerValue R). s.ticks) same ∙ t.adds.ticks;
        withholds = w;
        left = ap (λ (s : ServerValue R). s.loopback) same ∙ t.left;
        heard = subst (λ (b : AddressBook). RecordsSenders old.cluster
            (all_filtered (filter_of old.addresses) frames) old.addresses b)
            (sym (ap (λ (s : ServerValue R). s.addresses) same)) t.heard;
        network = subst (λ (b : AddressBook). IsSameFilter old.addresses b)
            (sym (ap (λ (s : ServerValue R). s.addresses) same)) t.network;
      }

  -- none is due
  pub without_tick : (frames : List (SocketAddr × List ℕ)) (group now : GroupValue) (old new : ServerValue R)
      → new.withheld ≡ old.withheld → AddsWaiting G observable frames group now old new
      → AddsGroup G observable frames group now old new
  without_tick frames group now old new withheld t =
      given_none_more frames group now old new new t refl
      (none_withheld old new (datagrams_in (take 64 old.loopback) (all_filtered (filter_of old.addresses) frames))
      withheld t.adds.ticks)

  -- one is, behind what waits
  module _ (frames : List (SocketAddr × List ℕ)) (group one : GroupValue) (old mid new : ServerValue R)
      (clock : old.pace ≡ Clock) (t : AddsWaiting G observable frames group one old mid)
      (kept : mid.withheld ≡ old.withheld) (none : MayWithhold mid → ⊥)
      (same : new ≡ record mid {
        replica = new.replica;
        failed = new.failed;
        digest = new.digest;
        quiet = new.quiet;
        fed = new.fed;
        ticks = new.ticks;
      }) where
    abbrev waited : List (List ℕ)
    waited = datagrams_in (take 64 old.loopback) (all_filtered (filter_of old.addresses) frames)

    abbrev ticked : List (Option (List ℕ))
    ticked = all_inputs old.pace old.received waited ++ None ∷ []

    may_tick : Given old.pace old.received waited ticked
    may_tick = given_then old.pace old.received waited (None ∷ []) (one_tick old.pace clock) t.some

    tick_received : HasReceived observable frames old new
    tick_received =
        received_on observable frames old mid new (λ telling. ap (λ (s : ServerValue R). s.incoming) same) t.received

    tick_left : new.loopback ≡ drop 64 old.loopback
    tick_left = ap (λ (s : ServerValue R). s.loopback) same ∙ t.left

    tick_heard : RecordsSenders old.cluster (all_filtered (filter_of old.addresses) frames) old.addresses new.addresses
    tick_heard = subst (λ (b : AddressBook). RecordsSenders old.cluster
        (all_filtered (filter_of old.addresses) frames) old.addresses b)
        (sym (ap (λ (s : ServerValue R). s.addresses) same)) t.heard

    tick_outside : IsSameFilter old.addresses new.addresses
    tick_outside = subst (λ (b : AddressBook). IsSameFilter old.addresses b)
        (sym (ap (λ (s : ServerValue R). s.addresses) same)) t.network

    tick_counted : new.ticks ≡ one_more_tick mid.ticks → new.ticks ≡ all_ticks old.ticks ticked
    tick_counted timed = timed ∙ ap (λ (n : ℕ). one_more_tick n) t.adds.ticks
        ∙ sym (ticks_more old.ticks (all_inputs old.pace old.received waited) (None ∷ []))

    pub tick_behind : (now : GroupValue) → new.ticks ≡ one_more_tick mid.ticks
        → GathersMore G (None ∷ []) one now mid.replica new.replica → AddsGroup G observable frames group now old new
    tick_behind now timed ticks = record {
      received = tick_received;
      given = ticked;
      may = may_tick;
      gathers = λ first given was.
          subst (λ (l : List (Option (List ℕ))). G first l now new.replica)
          (append_assoc given (all_inputs old.pace old.received waited) (None ∷ []))
          (ticks first (given ++ all_inputs old.pace old.received waited) (t.adds.gathers first given was));
      counted = ap (λ (s : ServerValue R). s.received) same ∙ t.adds.counted;
      ticks = tick_counted timed;
      withholds = one_given old mid new waited t.adds.pace (ap (λ (f : Filter). f.deaf) t.network.1) kept t.adds.ticks
          (ap (λ (s : ServerValue R). s.withheld) same) none;
      left = tick_left;
      heard = tick_heard;
      network = tick_outside;
    }

    -- it has ended it
    pub tick_ends_behind : new.ticks ≡ one_more_tick mid.ticks → SaysNoMore S G (None ∷ []) one mid.replica new.replica
        → EndsGroup S G observable frames group old new
    tick_ends_behind timed silent = record {
      received = tick_received;
      count = 64;
      envelopes = record { at_most = omega arith; some = λ is. absurd (omega (arith, is)) };
      given = ticked;
      first = given_all old.pace old.received waited ticked may_tick;
      silent = λ first given was.
          subst (λ (l : List (Option (List ℕ))). S first l [] new.replica)
          (append_assoc given (all_inputs old.pace old.received waited) (None ∷ []))
          (silent first (given ++ all_inputs old.pace old.received waited) (t.adds.gathers first given was));
      ticks = tick_counted timed;
      left = tick_left;
      heard = tick_heard;
      network = tick_outside;
    }

  -- where nothing of these frames is taken, one receive is all
  found_received : (found : TurnInput) (frames : List (SocketAddr × List ℕ)) (old mid : ServerValue R)
      → old.loopback ≡ [] → Finds observable found frames old mid → HasReceived observable frames old mid
  found_received found frames old mid loopback f = record {
    alone = inl loopback;
    few = found_few (filter_of old.addresses) found frames f.are;
    waits = λ telling some. absurd (some loopback);
    comes = λ telling empty. group_of_one frames old.incoming mid.incoming (f.comes telling);
  }

  -- it is alone: a replica is given nothing of what came in these frames
  module _ (found : TurnInput) (frames : List (SocketAddr × List ℕ)) (group one : GroupValue)
      (old mid new : ServerValue R) (loopback : old.loopback ≡ []) (f : Finds observable found frames old mid)
      (begun : one ≡ group) (none : MayWithhold mid → ⊥)
      (same : new ≡ record mid {
        replica = new.replica;
        failed = new.failed;
        digest = new.digest;
        quiet = new.quiet;
        fed = new.fed;
        ticks = new.ticks;
      }) where
    none_taken : all_filtered (filter_of old.addresses) frames ≡ []
    none_taken = found_none (filter_of old.addresses) found frames f.are

    mine : mid.replica ≡ old.replica
    mine = ap (λ (s : ServerValue R). s.replica) f.same

    own_is : (n : ℕ) → take n old.loopback ≡ []
    own_is n = take_none n old.loopback loopback

    no_datagrams : (n : ℕ) → datagrams_in (take n old.loopback) (all_filtered (filter_of old.addresses) frames) ≡ []
    no_datagrams n = ap (λ (cs : List (SocketAddr × List ℕ)). datagrams_in (take n old.loopback) cs) none_taken
        ∙ ap (λ (o : List EnvelopeValue). datagrams_in o []) (own_is n)

    alone_received : HasReceived observable frames old new
    alone_received =
        received_on observable frames old mid new (λ telling. ap (λ (s : ServerValue R). s.incoming) same)
        (found_received found frames old mid loopback f)

    alone_book : new.addresses ≡ old.addresses
    alone_book = ap (λ (s : ServerValue R). s.addresses) same ∙ ap (λ (s : ServerValue R). s.addresses) f.same

    alone_heard : RecordsSenders old.cluster (all_filtered (filter_of old.addresses) frames) old.addresses new.addresses
    alone_heard = subst (λ (cs : List (SocketAddr × List ℕ)). RecordsSenders old.cluster cs old.addresses new.addresses)
        (sym none_taken) alone_book

    alone_outside : IsSameFilter old.addresses new.addresses
    alone_outside = (ap (λ (b : AddressBook). b.hosts) alone_book, ap (λ (b : AddressBook). filter_of b) alone_book)

    alone_own : new.loopback ≡ []
    alone_own = ap (λ (s : ServerValue R). s.loopback) same ∙ ap (λ (s : ServerValue R). s.loopback) f.same
        ∙ loopback

    alone_counted : new.ticks ≡ one_more_tick mid.ticks → new.ticks ≡ all_ticks old.ticks (None ∷ [])
    alone_counted timed = timed ∙ ap (λ (n : ℕ). one_more_tick n) (ap (λ (s : ServerValue R). s.ticks) f.same)

    pub tick_alone : (now : GroupValue) → new.ticks ≡ one_more_tick mid.ticks
        → GathersMore G (None ∷ []) one now mid.replica new.replica → AddsGroup G observable frames group now old new
    tick_alone now timed ticks = record {
      received = alone_received;
      given = None ∷ [];
      may = given_none old.pace old.received
          (datagrams_in (take 64 old.loopback) (all_filtered (filter_of old.addresses) frames)) (no_datagrams 64);
      gathers = subst₂ (λ (x : GroupValue) (r : R). GathersMore G (None ∷ []) x now r new.replica) begun mine ticks;
      counted = ap (λ (s : ServerValue R). s.received) same ∙ ap (λ (s : ServerValue R). s.received) f.same
          ∙ sym (ap (λ (ds : List (List ℕ)). counted old.received ds) (no_datagrams 64));
      ticks = alone_counted timed;
      withholds = one_given old mid new [] (ap (λ (s : ServerValue R). s.pace) f.same)
          (ap (λ (s : ServerValue R). s.addresses.deaf) f.same) (ap (λ (s : ServerValue R). s.withheld) f.same)
          (ap (λ (s : ServerValue R). s.ticks) f.same) (ap (λ (s : ServerValue R). s.withheld) same) none;
      left = alone_own ∙ sym (ap (λ (o : List EnvelopeValue). drop 64 o) loopback);
      heard = alone_heard;
      network = alone_outside;
    }

    pub tick_ends_alone : new.ticks ≡ one_more_tick mid.ticks → SaysNoMore S G (None ∷ []) one mid.replica new.replica
        → EndsGroup S G observable frames group old new
    tick_ends_alone timed silent = record {
      received = alone_received;
      count = 64;
      envelopes = record { at_most = omega arith; some = λ is. absurd (omega (arith, is)) };
      given = None ∷ [];
      first = given_all old.pace old.received
          (datagrams_in (take 64 old.loopback) (all_filtered (filter_of old.addresses) frames)) (None ∷ [])
          (given_none old.pace old.received
          (datagrams_in (take 64 old.loopback) (all_filtered (filter_of old.addresses) frames)) (no_datagrams 64));
      silent = subst₂ (λ (x : GroupValue) (r : R). SaysNoMore S G (None ∷ []) x r new.replica) begun mine silent;
      ticks = alone_counted timed;
      left = alone_own ∙ sym (ap (λ (o : List EnvelopeValue). drop 64 o) loopback);
      heard = alone_heard;
      network = alone_outside;
    }

  -- no tick is due, and nothing waits that a replica is given
  by_clock : (s : Filter) (pace : Pace) (found : TurnInput) (frames : List (SocketAddr × List ℕ)) (due : Bool)
      → due ≡ false → (pace ≡ Datagrams → found ≡ Nothing → due ≡ true) → AreFound s found frames
      → frames ≡ [] → pace ≡ Clock
  by_clock s Clock found frames due isnt nothing are empty = refl
  by_clock s Datagrams Nothing frames due isnt nothing are empty = absurd (cc (isnt, nothing refl refl))
  by_clock s Datagrams Filtered frames due isnt nothing are empty =
      absurd (let both : are.0 ∷ [] ≡ [] = sym are.1 ∙ empty in cc both)
  by_clock s Datagrams Something frames due isnt nothing are empty = absurd are

  -- a tick is due behind what waits by the clock alone
  clock_of : (pace : Pace) (due : Bool) → due ≡ true → (pace ≡ Datagrams → due ≡ false) → pace ≡ Clock
  clock_of Clock due is_so given = refl
  clock_of Datagrams due is_so given = absurd (cc (is_so, given refl))

  -- `Keeps` says what is kept of the frames that came
  module _ (Keeps : List (SocketAddr × List ℕ) → Type 0) where
    -- this was found, and nothing of it was taken
    abbrev pub HasFound : TurnInput → GroupValue → GroupValue → ServerValue R → ServerValue R → Type 0
    HasFound found group one old mid =
        (old.loopback ≡ []) × (frames : List (SocketAddr × List ℕ)) × Finds observable found frames old mid
        × (one ≡ group) × Keeps frames

    -- this waited, and was taken
    abbrev pub HasWaiting : GroupValue → GroupValue → ServerValue R → ServerValue R → Type 0
    HasWaiting group one old mid =
        (frames : List (SocketAddr × List ℕ)) × AddsWaiting G observable frames group one old mid × Keeps frames

    -- this was taken in a turn
    abbrev pub HasTaken : GroupValue → GroupValue → ServerValue R → ServerValue R → Type 0
    HasTaken group now old new =
        (frames : List (SocketAddr × List ℕ)) × AddsGroup G observable frames group now old new × Keeps frames

    -- no tick is due
    pub untimely_takes : (group one : GroupValue) (old mid : ServerValue R) → mid.withheld ≡ old.withheld
        → HasWaiting group one old mid → HasTaken group one old mid
    untimely_takes group one old mid withheld t = (t.0, without_tick t.0 group one old mid withheld t.1, t.2)

    -- one is, and is withheld
    pub withheld_takes : (group one : GroupValue) (old mid new : ServerValue R) → mid.withheld ≡ old.withheld
        → new ≡ record mid { withheld = one_more_tick mid.withheld; quiet = new.quiet } → MayWithhold mid
        → HasWaiting group one old mid → HasTaken group one old new
    withheld_takes group one old mid new withheld same m t = (
      t.0,
      given_none_more t.0 group one old mid new t.1
          (subst (λ (n : ℕ). new ≡ record mid { withheld = n; quiet = new.quiet })
          (sym (ap (λ (s : ServerValue R). s.withheld) same)) same)
          (one_withheld old mid new
          (datagrams_in (take 64 old.loopback) (all_filtered (filter_of old.addresses) t.0)) t.1.adds.pace
          (ap (λ (f : Filter). f.deaf) t.1.network.1) withheld t.1.adds.ticks same m),
      t.2,
    )

    -- the same where nothing of it was taken
    pub withheld_rests : (found : TurnInput) (group one : GroupValue) (old mid new : ServerValue R)
        → new ≡ record mid { withheld = one_more_tick mid.withheld; quiet = new.quiet } → MayWithhold mid
        → HasFound found group one old mid
        → (frames : List (SocketAddr × List ℕ)) × HasReceived observable frames old new
        × IsIdle observable frames old new × Keeps frames
    withheld_rests found group one old mid new same m n = (
      n.1,
      received_on observable n.1 old mid new (λ telling. ap (λ (s : ServerValue R). s.incoming) same)
          (found_received found n.1 old mid n.0 n.2),
      record {
        loopback = n.0;
        none = found_none (filter_of old.addresses) found n.1 n.2.are;
        clock = λ empty. sym (ap (λ (s : ServerValue R). s.pace) n.2.same) ∙ m.withholds.clock;
        comes = λ telling. subst (λ (s : Stream). ReceivesOne n.1 old.incoming s)
            (sym (ap (λ (s : ServerValue R). s.incoming) same)) (n.2.comes telling);
        withholds = one_withheld old mid new [] (ap (λ (s : ServerValue R). s.pace) n.2.same)
            (ap (λ (s : ServerValue R). s.addresses.deaf) n.2.same) (ap (λ (s : ServerValue R). s.withheld) n.2.same)
            (ap (λ (s : ServerValue R). s.ticks) n.2.same) same m;
        same =
            ap (λ (s : ServerValue R). record s {
              incoming = old.incoming;
              withheld = old.withheld;
              quiet = old.quiet;
            }) same
            ∙ ap (λ (s : ServerValue R). record s { withheld = old.withheld; quiet = old.quiet }) n.2.same;
      },
      n.4,
    )

    pub untimely_rests : (found : TurnInput) (due : Bool) (group one : GroupValue) (old mid : ServerValue R)
        → mid.pace ≡ old.pace → due ≡ false → (mid.pace ≡ Datagrams → found ≡ Nothing → due ≡ true)
        → HasFound found group one old mid
        → (frames : List (SocketAddr × List ℕ)) × HasReceived observable frames old mid
        × IsIdle observable frames old mid × Keeps frames
    untimely_rests found due group one old mid pace isnt nothing n = (
      n.1,
      found_received found n.1 old mid n.0 n.2,
      record {
        loopback = n.0;
        none = found_none (filter_of old.addresses) found n.1 n.2.are;
        clock =
            λ empty. sym pace ∙ by_clock (filter_of old.addresses) mid.pace found n.1 due isnt nothing n.2.are empty;
        comes = n.2.comes;
        withholds = none_withheld old mid [] (ap (λ (s : ServerValue R). s.withheld) n.2.same)
            (ap (λ (s : ServerValue R). s.ticks) n.2.same);
        same = ap (λ (s : ServerValue R). record s { withheld = old.withheld; quiet = old.quiet }) n.2.same;
      },
      n.4,
    )

    -- one is
    module _ (due : Bool) (group one : GroupValue) (old mid new : ServerValue R) (pace : mid.pace ≡ old.pace)
        (is_so : due ≡ true) (kept : mid.withheld ≡ old.withheld) (unheld : MayWithhold mid → ⊥)
        (same : new ≡ record mid {
          replica = new.replica;
          failed = new.failed;
          digest = new.digest;
          quiet = new.quiet;
          fed = new.fed;
          ticks = new.ticks;
        })
        (timed : new.ticks ≡ one_more_tick mid.ticks) where
      pub tick_turn : (found : TurnInput) (now : GroupValue) → (found ≡ Something → HasWaiting group one old mid)
          → ((found ≡ Something → ⊥) → HasFound found group one old mid)
          → (mid.pace ≡ Datagrams → found ≡ Something → due ≡ false)
          → GathersMore G (None ∷ []) one now mid.replica new.replica → HasTaken group now old new
      tick_turn Something now adds none given ticks =
          let t = adds refl in (
            t.0,
            tick_behind t.0 group one old mid new
                (sym pace ∙ clock_of mid.pace due is_so (λ is. given is refl)) t.1 kept unheld same now timed ticks,
            t.2,
          )
      tick_turn Nothing now adds none given ticks = let n = none (λ is. cc is) in
          (n.1, tick_alone Nothing n.1 group one old mid new n.0 n.2 n.3 unheld same now timed ticks, n.4)
      tick_turn Filtered now adds none given ticks = let n = none (λ is. cc is) in
          (n.1, tick_alone Filtered n.1 group one old mid new n.0 n.2 n.3 unheld same now timed ticks, n.4)

      pub tick_turn_ends : (found : TurnInput) → (found ≡ Something → HasWaiting group one old mid)
          → ((found ≡ Something → ⊥) → HasFound found group one old mid)
          → (mid.pace ≡ Datagrams → found ≡ Something → due ≡ false)
          → SaysNoMore S G (None ∷ []) one mid.replica new.replica
          → (frames : List (SocketAddr × List ℕ)) × EndsGroup S G observable frames group old new
      tick_turn_ends Something adds none given silent =
          let t = adds refl in (
            t.0,
            tick_ends_behind t.0 group one old mid new
                (sym pace ∙ clock_of mid.pace due is_so (λ is. given is refl)) t.1 kept unheld same timed silent,
          )
      tick_turn_ends Nothing adds none given silent = let n = none (λ is. cc is) in
          (n.1, tick_ends_alone Nothing n.1 group one old mid new n.0 n.2 n.3 unheld same timed silent)
      tick_turn_ends Filtered adds none given silent = let n = none (λ is. cc is) in
          (n.1, tick_ends_alone Filtered n.1 group one old mid new n.0 n.2 n.3 unheld same timed silent)

  -- ---- what is handed on

  -- a replica that says nothing more
  abbrev pub hands_none : (given : List (Option (List ℕ))) (loopback : List EnvelopeValue) (old new : ServerValue R)
      → DeliversNothing S given loopback old new → DeliversEnvelopes S observable given loopback old new
  hands_none given loopback old new h = record {
    envelopes = [];
    says = h.says;
    kept = record { added = []; is = h.loopback ∙ sym (append-nil loopback) };
    carried = λ i. record { loopback = h.loopback i; sent = h.sent i; failures = h.failures i };
  }

  -- ---- a turn

  -- it is the same server, a step further
  same_further : (old mid new : ServerValue R) → IsSameServer old mid → IsSameServer mid new → IsSameServer old new
  same_further old mid new first same = record {
    cluster = same.cluster ∙ first.cluster;
    node = same.node ∙ first.node;
    pace = same.pace ∙ first.pace;
    queue = same.queue ∙ first.queue;
    aged = same.aged ∙ first.aged;
    spoke = same.spoke ∙ first.spoke;
    served = same.served ∙ first.served;
  }

  pub turn_of : (frames : List (SocketAddr × List ℕ)) (group one now : GroupValue) (old mid nudged new : ServerValue R)
      → G old.replica [] group old.replica → AddsGroup G observable frames group one old mid
      → GathersNudge G one now mid.replica nudged.replica → ChangesAtInput mid nudged
      → DeliversAllEnvelopes S G observable now nudged new
      → mid.sent ≡ old.sent → mid.socket_failures ≡ old.socket_failures → IsSameServer old mid
      → new.addresses ≡ nudged.addresses → new.received ≡ nudged.received → new.ticks ≡ nudged.ticks
      → new.withheld ≡ nudged.withheld → IsSameServer nudged new → new.failed ≡ false
      → Turn S observable (all_filtered (filter_of old.addresses) frames) old new
  turn_of frames group one now old mid nudged new begins t n changed hands sent failures first book received untimed
      unheld then lives =
      let g = n old.replica t.given (t.gathers old.replica [] begins) in record {
        envelopes_first = received_first observable frames old mid t.received;
        timed = t.given;
        may = t.may;
        given = g.0;
        nudged = g.1;
        hands_on = subst (λ (loopback : List EnvelopeValue). DeliversEnvelopes S observable g.0 loopback old new)
            (ap (λ (s : ServerValue R). s.loopback) changed ∙ t.left)
            (hands old g.0 g.2 (sym (ap (λ (s : ServerValue R). s.sent) changed ∙ sent))
            (sym (ap (λ (s : ServerValue R). s.socket_failures) changed ∙ failures)));
        counted = received ∙ ap (λ (s : ServerValue R). s.received) changed ∙ t.counted;
        ticks = untimed ∙ ap (λ (s : ServerValue R). s.ticks) changed ∙ t.ticks;
        withholds = withholding_on old mid new (untimed ∙ ap (λ (s : ServerValue R). s.ticks) changed)
            (unheld ∙ ap (λ (s : ServerValue R). s.withheld) changed) t.withholds;
        heard = subst (λ (b : AddressBook). RecordsSenders old.cluster
            (all_filtered (filter_of old.addresses) frames) old.addresses b)
            (sym (book ∙ ap (λ (s : ServerValue R). s.addresses) changed)) t.heard;
        same = same_further old mid new first (same_further mid nudged new (same_at_input mid nudged changed) then);
        alive = lives;
      }

  -- the end of the group has ended it
  pub last_of : (frames : List (SocketAddr × List ℕ)) (group one now : GroupValue) (old mid nudged new : ServerValue R)
      → G old.replica [] group old.replica → AddsGroup G observable frames group one old mid
      → GathersNudge G one now mid.replica nudged.replica → ChangesAtInput mid nudged
      → SaysNothing S G now nudged new
      → mid.sent ≡ old.sent → mid.socket_failures ≡ old.socket_failures → IsSameServer old mid
      → new.addresses ≡ nudged.addresses → new.ticks ≡ nudged.ticks → IsSameServer nudged new → new.failed ≡ true
      → LastTurn S observable (all_filtered (filter_of old.addresses) frames) old new
  last_of frames group one now old mid nudged new begins t n changed none sent failures first book untimed then
      ended =
      let g = n old.replica t.given (t.gathers old.replica [] begins) in record {
        envelopes_first = received_first observable frames old mid t.received;
        count = 64;
        envelopes = record { at_most = omega arith; some = λ is. absurd (omega (arith, is)) };
        timed = t.given;
        first = given_all old.pace old.received
            (datagrams_in (take 64 old.loopback) (all_filtered (filter_of old.addresses) frames)) t.given t.may;
        given = g.0;
        nudged = g.1;
        after_all = inr t.may;
        hands_on = hands_none g.0 (drop 64 old.loopback) old new (record {
          says = none.silent old.replica g.0 g.2;
          loopback = none.loopback ∙ ap (λ (s : ServerValue R). s.loopback) changed ∙ t.left;
          sent = none.sent ∙ ap (λ (s : ServerValue R). s.sent) changed ∙ sent;
          failures = none.failures ∙ ap (λ (s : ServerValue R). s.socket_failures) changed ∙ failures;
        });
        silent = refl;
        ticks = untimed ∙ ap (λ (s : ServerValue R). s.ticks) changed ∙ t.ticks;
        heard = subst (λ (b : AddressBook). RecordsSenders old.cluster
            (all_filtered (filter_of old.addresses) frames) old.addresses b)
            (sym (book ∙ ap (λ (s : ServerValue R). s.addresses) changed)) t.heard;
        same = same_further old mid new first (same_further mid nudged new (same_at_input mid nudged changed) then);
        ended = ended;
      }

  -- the nudge has ended it
  pub last_at_nudge : (frames : List (SocketAddr × List ℕ)) (group one : GroupValue) (old mid new : ServerValue R)
      → G old.replica [] group old.replica → AddsGroup G observable frames group one old mid
      → SaysNoMore S G (None ∷ []) one mid.replica new.replica → ChangesAtInput mid new
      → mid.sent ≡ old.sent → mid.socket_failures ≡ old.socket_failures → IsSameServer old mid → new.failed ≡ true
      → LastTurn S observable (all_filtered (filter_of old.addresses) frames) old new
  last_at_nudge frames group one old mid new begins t silent changed sent failures first ended = record {
    envelopes_first = received_first observable frames old mid t.received;
    count = 64;
    envelopes = record { at_most = omega arith; some = λ is. absurd (omega (arith, is)) };
    timed = t.given;
    first = given_all old.pace old.received
        (datagrams_in (take 64 old.loopback) (all_filtered (filter_of old.addresses) frames)) t.given t.may;
    given = t.given ++ None ∷ [];
    nudged = inr refl;
    after_all = inr t.may;
    hands_on = hands_none (t.given ++ None ∷ []) (drop 64 old.loopback) old new (record {
      says = silent old.replica t.given (t.gathers old.replica [] begins);
      loopback = ap (λ (s : ServerValue R). s.loopback) changed ∙ t.left;
      sent = ap (λ (s : ServerValue R). s.sent) changed ∙ sent;
      failures = ap (λ (s : ServerValue R). s.socket_failures) changed ∙ failures;
    });
    silent = refl;
    ticks = ap (λ (s : ServerValue R). s.ticks) changed ∙ t.ticks;
    heard = subst (λ (b : AddressBook). RecordsSenders old.cluster
        (all_filtered (filter_of old.addresses) frames) old.addresses b)
        (sym (ap (λ (s : ServerValue R). s.addresses) changed)) t.heard;
    same = same_further old mid new first (same_at_input mid new changed);
    ended = ended;
  }

  -- one of its inputs has
  pub last_within : (frames : List (SocketAddr × List ℕ)) (group : GroupValue) (old new : ServerValue R)
      → G old.replica [] group old.replica → EndsGroup S G observable frames group old new
      → new.sent ≡ old.sent → new.socket_failures ≡ old.socket_failures → IsSameServer old new → new.failed ≡ true
      → LastTurn S observable (all_filtered (filter_of old.addresses) frames) old new
  last_within frames group old new begins e sent failures same ended = record {
    envelopes_first = received_first observable frames old new e.received;
    count = e.count;
    envelopes = e.envelopes;
    timed = e.given;
    first = e.first;
    given = e.given;
    nudged = inl refl;
    after_all = inl refl;
    hands_on = hands_none e.given (drop e.count old.loopback) old new
        (record { says = e.silent old.replica [] begins; loopback = e.left; sent = sent; failures = failures });
    silent = refl;
    ticks = e.ticks;
    heard = e.heard;
    same = same;
    ended = ended;
  }

  -- ---- a tick

  pub tick_of : {T E : Type 0} (r : Result T E) (group now : GroupValue) (old mid new : ServerValue R)
      → G old.replica [] group old.replica → GathersMore G (None ∷ []) group now old.replica mid.replica
      → mid.loopback ≡ old.loopback → mid.sent ≡ old.sent → mid.socket_failures ≡ old.socket_failures
      → OnOk r (DeliversAllEnvelopes S G observable now mid new) → OnOk r (DeliversEnvelopes S observable
      (None ∷ []) old.loopback old new)
  tick_of (Ok x) group now old mid new begins gathers loopback sent failures hands =
      subst (λ (o : List EnvelopeValue). DeliversEnvelopes S observable (None ∷ []) o old new) loopback
      (hands old (None ∷ []) (gathers old.replica [] begins) (sym sent) (sym failures))
  tick_of (Err e) group now old mid new begins gathers loopback sent failures hands = tt

  pub tick_ends : {T E : Type 0} (r : Result T E) (group now : GroupValue) (old mid new : ServerValue R)
      → G old.replica [] group old.replica → GathersMore G (None ∷ []) group now old.replica mid.replica
      → mid.loopback ≡ old.loopback → mid.sent ≡ old.sent → mid.socket_failures ≡ old.socket_failures
      → OnErr r (SaysNothing S G now mid new) → OnErr r (DeliversNothing S (None ∷ []) old.loopback old new)
  tick_ends (Ok x) group now old mid new begins gathers loopback sent failures none = tt
  tick_ends (Err e) group now old mid new begins gathers loopback sent failures none = record {
    says = none.silent old.replica (None ∷ []) (gathers old.replica [] begins);
    loopback = none.loopback ∙ loopback;
    sent = none.sent ∙ sent;
    failures = none.failures ∙ failures;
  }

  -- the tick itself has ended it
  pub tick_silent : (group : GroupValue) (old new : ServerValue R) → G old.replica [] group old.replica
      → SaysNoMore S G (None ∷ []) group old.replica new.replica
      → new.loopback ≡ old.loopback → new.sent ≡ old.sent → new.socket_failures ≡ old.socket_failures
      → DeliversNothing S (None ∷ []) old.loopback old new
  tick_silent group old new begins silent loopback sent failures =
      record { says = silent old.replica [] begins; loopback = loopback; sent = sent; failures = failures }
