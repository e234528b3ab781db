-- A network that carries between sockets delivers what the nodes have given to be sent.
use Rattle.std.proofs.Common.{◌≡◌, ◌⊎◌, ℕ, true, false, Bool, Option, Some, None, List, [], ◌∷◌, ◌++◌, inl, inr, refl}
use Rattle.std.proofs.Common.{ap, sym, ◌∙◌, subst, length, drop, Contains, append_assoc, append-nil}
use Rattle.std.proofs.Common.{arith}
use Rattle.std.proofs.lemmas.Bool.{cases_Bool}
use Rattle.std.proofs.lemmas.List.{drop_at}
use Rattle.std.proofs.lemmas.List.Elements.{Contains-append_left, Contains-append_right, Contains-append_cases}
use Rattle.std.proofs.lemmas.List.Elements.{Contains-push, Contains-push_cases}
use Rattle.std.specs.List.{AllByRecursion}
use Rattle.std.specs.Prelude.{nat_eq, ◌==◌}
use Rattle.std.specs.Cmp.Lexicographic.{pointwise}
use Rattle.std.specs.declared.net.socket_addr.SocketAddr.{SocketAddr}
use Rattle.lk_types.specs.declared.genesis.Genesis.{Genesis}
use Rattle.lk_types.specs.declared.member.Member.{Member}
use Rattle.lk_hearing.specs.Probes.{having_begun, is_round_due}
use Rattle.lk_pacing.specs.declared.pace.Pace.{Pace}
use Rattle.lk_pacing.specs.declared.pace.Pace.TheVariants.{Datagrams, Clock}
use Rattle.lk_messages.specs.Grammar.{Spells}
use Rattle.lk_messages.specs.declared.message.Message.{Message}
use Rattle.lk_node_interface.specs.Envelopes.{EnvelopeValue, batch_of, datagram_of}
use Rattle.lk_node_interface.specs.declared.to.To.{To}
use Rattle.lk_node_interface.specs.declared.to.To.TheVariants.{Node, Client}
use Rattle.lk_node.specs.Histories.{Datagram}
use Rattle.lk_probe.specs.Grammar.{padded, SpellsProbe, SpellsReport}
use Rattle.lk_probe.specs.declared.probe.Probe.{Probe}
use Rattle.lk_probe.specs.declared.probe.Report.{Report}
use Rattle.lk_probe.specs.declared.reported.Reported.{Reported}
use Rattle.lk_auth.specs.Clients.{client_keys}
use Rattle.lk_auth.specs.Seals.{key_list, to_node, replying, framed_by, heard, heard_with}
use Rattle.lk_auth.specs.declared.seals.Seals.{Seals}
use Rattle.lk_replica.specs.Posts.{CarriesAll}
use Rattle.lk_replica.specs.ReplicaValue.{ReplicaValue}
use Rattle.lk_address_book.specs.Addresses.{AddressBook, Filter, filter_of}
use Rattle.lk_transport.specs.Askers.{asker, frame_for, keys_to, Replies, SendsTo}
use Rattle.lk_transport.specs.Inquiring.{SendsProbe, question_by}
use Rattle.lk_transport.specs.Listening.{HearsIf, HearsKept, ProbesAt, ProbesOther, ProbesMembers, ProbesIf}
use Rattle.lk_transport.specs.Listening.{SendsSealedProbe, asks_state, member_probe}
use Rattle.lk_transport.specs.Posts.{SendState, Becomes, Loses, frame_of, keys_for, carried}
use Rattle.lk_address_book.specs.Filters.{all_filtered}
use Rattle.lk_address_book.specs.Filters.{is_filtered_out, is_beside_protocol}
use Rattle.lk_transport.specs.declared.received_probe.ReceivedProbe.{ReceivedProbe}
use Rattle.lk_server.specs.Premises.{IsNoNodeMessage}
use Rattle.lk_server.specs.ProbeHandling.{HandlesProbes, ListensFor}
use Rattle.lk_server.specs.WatchHandling.{HandlesWatches}
use Rattle.lk_server_replica.specs.Tables.{members_of, table_of}
use Rattle.lk_transport.specs.Watches.{SendsNotice, SendsNotices, notice_by}
use Rattle.lk_transport.specs.declared.received_watch.ReceivedWatch.{ReceivedWatch}
use Rattle.lk_watch.specs.Grammar.{SpellsNotice}
use Rattle.lk_watch.specs.declared.notice.Notice.{Notice}
use Rattle.lk_watch.specs.declared.waiter.Envelope.{Envelope}
use Rattle.lk_server.specs.Probes.{RepliesToKept}
use Rattle.lk_server.specs.Servers.{ServerValue, Turn, LastTurn, IsIdle, periods, send_state_at}
use Rattle.lk_server_replica.specs.Showing.{IsShown}
use Rattle.lk_node_process.specs.Turns.{DoesTurnWith, envelopes_in}
use Rattle.lk_sim_nodes.specs.declared.sim_node.RunState.{RunState}
use Rattle.lk_cluster_theorems.specs.Carrying.{HasNoKey, WasPosted, sent_since, IsBrought, Brings, posts_in, AllBrought}
use Rattle.lk_cluster_theorems.specs.Clusters.{WasGiven, OnlyDelivers}
use Rattle.lk_cluster_theorems.specs.Processes.{SaysIfHonest, IsMove, Move, envelopes_by, MayArrive, MayAllArrive}
use Rattle.lk_cluster_theorems.specs.Processes.{TurnsNode, EndsNode}
use Rattle.lk_cluster_theorems.proofs.Keeping.{in_map, watches_change}
use Rattle.lk_cluster_theorems.proofs.Sealing.{no_message}

abbrev Frame : Type 0
Frame = SocketAddr × List ℕ

-- ---- without a key

-- what is sent for a datagram is the datagram
frame_is : (s : Seals) → HasNoKey s → (to : To) (bytes : List ℕ) → frame_of s to bytes ≡ bytes
frame_is s none (Client c) bytes =
    ap (λ (keys : List (List ℕ)). framed_by (client_keys c keys) (replying s.cluster c) bytes) none.1
frame_is s none (Node n port) bytes =
    ap (λ (keys : List (List ℕ)). framed_by keys (to_node s n) bytes) none.0

report_is : (s : Seals) → HasNoKey s → (to : Option To) (bytes : List ℕ) → frame_for s to bytes ≡ bytes
report_is s none None bytes = refl
report_is s none (Some to) bytes = frame_is s none to bytes

-- what is taken of a frame is the frame
heard_is : (s : Seals) → HasNoKey s → (frame : List ℕ) → heard s frame ≡ frame
heard_is s none frame = ap (λ (keys : List (List ℕ)). heard_with keys s frame) none.0

-- ---- what a socket sends in a turn: copies of the envelopes, and no node's messages

-- a datagram stands for an envelope among these, or is no node's message
abbrev IsPost : List EnvelopeValue → Frame → Type 0
IsPost envelopes d = ((l : EnvelopeValue) × Contains envelopes l × (l.bytes ≡ d.1)) ⊎ IsNoNodeMessage d.1

-- a socket that had sent the first datagrams has sent the second, and each further one is such a post
abbrev PostsOnly : List EnvelopeValue → List Frame → List Frame → Type 0
PostsOnly envelopes old new =
    (more : List Frame) × (new ≡ old ++ more) × ((d : Frame) → Contains more d → IsPost envelopes d)

nothing_in : {X : Type 0} (x : X) → Contains [] x → ⊥
nothing_in x found = omega (arith, found.1)

posts_none : (envelopes : List EnvelopeValue) (old new : List Frame) → new ≡ old → PostsOnly envelopes old new
posts_none envelopes old new same = ([], same ∙ sym (append-nil old), λ d found. absurd (nothing_in d found))

only_post : (envelopes : List EnvelopeValue) (d : Frame) → IsPost envelopes d → (x : Frame) → Contains (d ∷ []) x
    → IsPost envelopes x
only_post envelopes d is x found = elim (Contains-push_cases [] d x found) [
  | inl none ↦ absurd (nothing_in x none)
  | inr same ↦ subst (IsPost envelopes) same is
]

posts_one : (envelopes : List EnvelopeValue) (old new : List Frame) (d : Frame) → new ≡ old ++ d ∷ []
    → IsPost envelopes d → PostsOnly envelopes old new
posts_one envelopes old new d one is = (d ∷ [], one, only_post envelopes d is)

posts_both : (envelopes : List EnvelopeValue) (old mid new : List Frame) → PostsOnly envelopes old mid
    → PostsOnly envelopes mid new → PostsOnly envelopes old new
posts_both envelopes old mid new p q = (
  p.0 ++ q.0,
  q.1 ∙ ap (λ (l : List Frame). l ++ q.0) p.1 ∙ append_assoc old p.0 q.0,
  λ d found. elim (Contains-append_cases p.0 q.0 d found) [ inl early ↦ p.2 d early | inr late ↦ q.2 d late ],
)

-- of more envelopes
post_of_more : (l : EnvelopeValue) (envelopes : List EnvelopeValue) (d : Frame) → IsPost envelopes d
    → IsPost (l ∷ envelopes) d
post_of_more l envelopes d (inl one) = inl (one.0, Contains-append_right (l ∷ []) envelopes one.0 one.1, one.2)
post_of_more l envelopes d (inr free) = inr free

posts_of_more : (l : EnvelopeValue) (envelopes : List EnvelopeValue) (old new : List Frame)
    → PostsOnly envelopes old new
    → PostsOnly (l ∷ envelopes) old new
posts_of_more l envelopes old new p = (p.0, p.1, λ d found. post_of_more l envelopes d (p.2 d found))

module _ (observable : Type 0) (shown : observable) where
  module _ (node : ℕ) (book : AddressBook) (none : HasNoKey book.seals) where
    -- the fate of an envelope
    sends_post : (l : EnvelopeValue) (envelopes : List EnvelopeValue) (address : Option SocketAddr)
        (old new : SendState)
        → new.sent ≡ old.sent ++ carried address (frame_of book.seals l.to l.bytes)
        → PostsOnly (l ∷ envelopes) old.sent new.sent
    sends_post l envelopes None old new sent = posts_none (l ∷ envelopes) old.sent new.sent (sent ∙ append-nil old.sent)
    sends_post l envelopes (Some address) old new sent =
        posts_one (l ∷ envelopes) old.sent new.sent (address, frame_of book.seals l.to l.bytes) sent
        (inl (
          l,
          Contains-append_left (l ∷ []) envelopes l (Contains-push [] l),
          sym (frame_is book.seals none l.to l.bytes),
        ))

    becomes_post : (l : EnvelopeValue) (envelopes : List EnvelopeValue) (is_sent : Bool) (old new : SendState)
        → Becomes observable node book old l is_sent new → PostsOnly (l ∷ envelopes) old.sent new.sent
    becomes_post l envelopes true old new (inl keeps) = posts_none (l ∷ envelopes) old.sent new.sent keeps.sent
    becomes_post l envelopes true old new (inr sends) =
        let to = sends.sent shown in
        sends_post l envelopes to.0 old new to.2
    becomes_post l envelopes false old new loses = posts_none (l ∷ envelopes) old.sent new.sent (loses.sent shown)

    envelopes_post : (envelopes : List EnvelopeValue) (old new : SendState)
        → CarriesAll (Becomes observable node book) old envelopes new → PostsOnly envelopes old.sent new.sent
    envelopes_post [] old new all = posts_none [] old.sent new.sent (ap (λ (s : SendState). s.sent) all)
    envelopes_post (l ∷ envelopes) old new all =
        posts_both (l ∷ envelopes) old.sent all.1.sent new.sent (becomes_post l envelopes all.0 old all.1 all.2)
        (posts_of_more l envelopes all.1.sent new.sent (envelopes_post envelopes all.1 new all.3))

  -- ---- probes and reports

  is_no_message : (bytes : List ℕ) → is_beside_protocol bytes ≡ true → IsNoNodeMessage bytes
  is_no_message bytes beside m spelled = absurd (no_message bytes m spelled beside)

  probe_is_none : (p : Probe) (bytes : List ℕ) → SpellsProbe p bytes → IsNoNodeMessage bytes
  unfolding padded
  probe_is_none p bytes spelled = is_no_message bytes (ap is_beside_protocol spelled.1)

  report_is_none : (r : Report) (bytes : List ℕ) → SpellsReport r bytes → IsNoNodeMessage bytes
  unfolding padded
  report_is_none r bytes spelled = is_no_message bytes (ap is_beside_protocol spelled.1)

  beside_posts : (envelopes : List EnvelopeValue) (address : SocketAddr) (frame : List ℕ) (keys : List (List ℕ))
      (old new : SendState) → IsNoNodeMessage frame
      → SendsTo observable address frame old new ⊎ Loses observable keys old new
      → PostsOnly envelopes old.sent new.sent
  beside_posts envelopes address frame keys old new free (inl sends) =
      posts_one envelopes old.sent new.sent (address, frame) (sends.sent shown) (inr free)
  beside_posts envelopes address frame keys old new free (inr loses) =
      posts_none envelopes old.sent new.sent (loses.sent shown)

  reply_posts : (envelopes : List EnvelopeValue) (asked : Option ReceivedProbe) (old new : ServerValue ReplicaValue)
      → HasNoKey old.addresses.seals → RepliesToKept IsShown observable asked old new
      → PostsOnly envelopes old.sent new.sent
  reply_posts envelopes None old new none same =
      posts_none envelopes old.sent new.sent (ap (λ (s : ServerValue ReplicaValue). s.sent) same)
  reply_posts envelopes (Some a) old new none r =
      beside_posts envelopes r.address (frame_for old.addresses.seals (asker a.probe) r.bytes)
      (keys_to old.addresses.seals (asker a.probe)) (send_state_at old.loopback old) (send_state_at new.loopback new)
      (subst IsNoNodeMessage (sym (report_is old.addresses.seals none (asker a.probe) r.bytes))
      (report_is_none r.reports.report r.bytes r.reports.spelled)) r.replies

  question_posts : (envelopes : List EnvelopeValue) (p : Probe) (address : Option SocketAddr) (old new : SendState)
      → SendsProbe observable p address old new → PostsOnly envelopes old.sent new.sent
  question_posts envelopes p None old new same =
      posts_none envelopes old.sent new.sent (ap (λ (s : SendState). s.sent) same)
  question_posts envelopes p (Some address) old new sends =
      beside_posts envelopes address sends.0 [] old new (probe_is_none p sends.0 sends.1) sends.2

  -- probes to the members

  sealed_probe_posts : (envelopes : List EnvelopeValue) (s : Seals) (none : HasNoKey s) (to : To) (p : Probe)
      (address : SocketAddr) (old new : SendState) → SendsSealedProbe observable s to p address old new
      → PostsOnly envelopes old.sent new.sent
  sealed_probe_posts envelopes s none to p address old new sends =
      beside_posts envelopes address (frame_of s to sends.0) (keys_for s to) old new
      (subst IsNoNodeMessage (sym (frame_is s none to sends.0)) (probe_is_none p sends.0 sends.1)) sends.2

  probe_at_posts : (envelopes : List EnvelopeValue) (node : ℕ) (asks : Bool) (m : Member) (token : ℕ)
      (address : Option SocketAddr) (old new : AddressBook) (before after : SendState) → HasNoKey old.seals
      → ProbesAt observable node asks m token address old new before after
      → (new.seals ≡ old.seals) × PostsOnly envelopes before.sent after.sent
  probe_at_posts envelopes node asks m token None old new before after none p = (
    ap (λ (b : AddressBook). b.seals) p.0,
    posts_none envelopes before.sent after.sent (ap (λ (s : SendState). s.sent) p.1),
  )
  probe_at_posts envelopes node asks m token (Some address) old new before after none p = (
    ap (λ (b : AddressBook). b.seals) p.0,
    sealed_probe_posts envelopes old.seals none (Node m.node m.port) (member_probe old.seals node asks token) address
        before after p.1,
  )

  member_posts : (envelopes : List EnvelopeValue) (is_own : Bool) (node : ℕ) (asks : Bool) (m : Member) (token : ℕ)
      (old new : AddressBook) (before after : SendState) → HasNoKey old.seals
      → ProbesOther is_own observable node asks m token old new before after
      → (new.seals ≡ old.seals) × PostsOnly envelopes before.sent after.sent
  member_posts envelopes true node asks m token old new before after none p = (
    ap (λ (b : AddressBook). b.seals) p.0,
    posts_none envelopes before.sent after.sent (ap (λ (s : SendState). s.sent) p.1),
  )
  member_posts envelopes false node asks m token old new before after none p =
      probe_at_posts envelopes node asks m token p.0 old new before after none p.2

  members_posts : (envelopes : List EnvelopeValue) (node : ℕ) (asks : Bool) (ms : List Member) (old new : AddressBook)
      (before after : SendState) → HasNoKey old.seals → ProbesMembers observable node asks ms old new before after
      → PostsOnly envelopes before.sent after.sent
  members_posts envelopes node asks [] old new before after none p =
      posts_none envelopes before.sent after.sent (ap (λ (s : SendState). s.sent) p.1)
  members_posts envelopes node asks (m ∷ ms) old new before after none p =
      let one = member_posts envelopes (m.node == node) node asks m p.0 old p.1 before p.2 none p.3 in
      posts_both envelopes before.sent p.2.sent after.sent one.1
      (members_posts envelopes node asks ms p.1 new p.2 after (subst HasNoKey (sym one.0) none) p.4)

  round_posts : (envelopes : List EnvelopeValue) (is_due : Bool) (node now : ℕ) (ms : List Member)
      (old new : AddressBook)
      (before after : SendState) → HasNoKey old.seals → ProbesIf is_due observable node now ms old new before after
      → PostsOnly envelopes before.sent after.sent
  round_posts envelopes true node now ms old new before after none p =
      members_posts envelopes node (asks_state now) ms (record old {
        hearing =
            having_begun now old.hearing;
      }) new before
      after none p
  round_posts envelopes false node now ms old new before after none p =
      posts_none envelopes before.sent after.sent (ap (λ (s : SendState). s.sent) p.1)

  -- what is heard changes no key
  heard_if : (is : Bool) (now : ℕ) (r : Reported) (old new : AddressBook) → HearsIf is now r old new
      → new.seals ≡ old.seals
  heard_if true now r old new h = ap (λ (b : AddressBook). b.seals) h
  heard_if false now r old new h = ap (λ (b : AddressBook). b.seals) h

  heard_keys : (now : ℕ) (r : Option Reported) (old new : AddressBook) → HearsKept now r old new
      → new.seals ≡ old.seals
  heard_keys now None old new h = ap (λ (b : AddressBook). b.seals) h
  heard_keys now (Some r) old new h = heard_if (pointwise nat_eq r.reporter.genesis old.seals.genesis) now r old new h

  listens_posts : (envelopes : List EnvelopeValue) (told : Option Reported) (old : ServerValue ReplicaValue)
      (book new : AddressBook) (before after : SendState) (pace : Pace) → HasNoKey book.seals
      → ListensFor members_of observable told old book new before after pace → PostsOnly envelopes
      before.sent after.sent
  listens_posts envelopes told old book new before after Datagrams none l =
      posts_none envelopes before.sent after.sent (ap (λ (s : SendState). s.sent) l.1)
  listens_posts envelopes told old book new before after Clock none l =
      round_posts envelopes (is_round_due (periods old) l.heard.hearing) old.node (periods old)
      (members_of old.replica) l.heard l.probed before after
      (subst HasNoKey (sym (heard_keys (periods old) told book l.heard l.hears)) none) l.probes

  handled_posts : (envelopes : List EnvelopeValue) (asked : Option ReceivedProbe) (told : Option Reported)
      (old new : ServerValue ReplicaValue) → HasNoKey old.addresses.seals
      → HandlesProbes IsShown members_of observable asked told old new → PostsOnly envelopes old.sent new.sent
  handled_posts envelopes asked told old new none h =
      posts_both envelopes old.sent h.replied.sent new.sent
      (reply_posts envelopes asked old h.replied none h.replies)
      (posts_both envelopes h.replied.sent h.between.sent new.sent
      (question_posts envelopes (question_by h.learned.seals old.node) h.asks.address
      (send_state_at h.replied.loopback h.replied) h.between h.asks.sends)
      (listens_posts envelopes told old h.questioned new.addresses h.between (send_state_at new.loopback new) old.pace
      (subst HasNoKey (sym h.keys) none) h.listens))

  -- ---- notices

  notice_is_none : (n : Notice) (bytes : List ℕ) → SpellsNotice n bytes → IsNoNodeMessage bytes
  notice_is_none n bytes spelled = is_no_message bytes (ap is_beside_protocol spelled.1)

  notice_posts : (envelopes : List EnvelopeValue) (s : Seals) (none : HasNoKey s) (node : ℕ) (envelope : Envelope)
      (old new : SendState) → SendsNotice observable s node envelope old new → PostsOnly envelopes old.sent new.sent
  notice_posts envelopes s none node envelope old new x =
      let to = Client envelope.ticket.client in
      beside_posts envelopes envelope.to (frame_of s to x.bytes) (keys_for s to) old new
      (subst IsNoNodeMessage (sym (frame_is s none to x.bytes))
      (notice_is_none (notice_by s node envelope) x.bytes x.spelled)) x.sends

  notices_posts : (envelopes : List EnvelopeValue) (s : Seals) (none : HasNoKey s) (node : ℕ) (notices : List Envelope)
      (old new : SendState) → SendsNotices observable s node notices old new → PostsOnly envelopes old.sent new.sent
  notices_posts envelopes s none node [] old new same =
      posts_none envelopes old.sent new.sent (ap (λ (t : SendState). t.sent) same)
  notices_posts envelopes s none node (envelope ∷ notices) old new x =
      posts_both envelopes old.sent x.0.sent new.sent (notice_posts envelopes s none node envelope old x.0 x.1)
      (notices_posts envelopes s none node notices x.0 new x.2)

  watched_posts : (envelopes : List EnvelopeValue) (watched : Option ReceivedWatch) (old new : ServerValue ReplicaValue)
      → HasNoKey old.addresses.seals → HandlesWatches table_of IsShown observable watched old new
      → PostsOnly envelopes old.sent new.sent
  watched_posts envelopes watched old new none (inl quiet) =
      posts_none envelopes old.sent new.sent (ap (λ (s : ServerValue ReplicaValue). s.sent) quiet.same)
  watched_posts envelopes watched old new none (inr x) =
      notices_posts envelopes old.addresses.seals none old.node (x.answers ++ x.told) (send_state_at old.loopback old)
      (send_state_at new.loopback new) x.sends

  -- ---- a turn

  module _ (Says : ReplicaValue → List (Option (List ℕ)) → List EnvelopeValue → ReplicaValue → Type 0) where
    given_posts : (came frames : List Frame) (old new : ServerValue ReplicaValue) → HasNoKey new.addresses.seals
        → (turn : Turn Says observable came old new ⊎ IsIdle observable frames old new)
        → PostsOnly (envelopes_in Says observable turn) old.sent new.sent
    given_posts came frames old new none (inl turn) =
        envelopes_post new.node new.addresses none turn.hands_on.envelopes (send_state_at (drop 64 old.loopback) old)
        (send_state_at new.loopback new) turn.hands_on.carried
    given_posts came frames old new none (inr idle) =
        posts_none [] old.sent new.sent (ap (λ (s : ServerValue ReplicaValue). s.sent) idle.same)

    turn_posts : (After : ServerValue ReplicaValue → Type 0) (old new : ServerValue ReplicaValue)
        → HasNoKey old.addresses.seals → (x : DoesTurnWith Says observable None None None After old new)
        → PostsOnly (envelopes_in Says observable x.turn) old.sent new.sent
    turn_posts After old new none x =
        let beside : x.acts.probed.addresses.seals ≡ x.mid.addresses.seals = x.acts.probes.network.1 in
        let last : new.addresses.seals ≡ x.acts.probed.addresses.seals =
        ap (λ (s : ServerValue ReplicaValue). s.addresses.seals) x.acts.hosts
        ∙ ap (λ (s : ServerValue ReplicaValue). s.addresses.seals) x.acts.joined
        ∙ ap (λ (s : ServerValue ReplicaValue). s.addresses.seals)
        (watches_change x.watched x.acts.probed x.acts.told x.acts.watches) in
        let quiet : new.sent ≡ x.acts.told.sent =
        ap (λ (s : ServerValue ReplicaValue). s.sent) x.acts.hosts
        ∙ ap (λ (s : ServerValue ReplicaValue). s.sent) x.acts.joined in
        let kept : x.mid.addresses.seals ≡ old.addresses.seals = sym (last ∙ beside) ∙ x.network.1 in
        let no_key : HasNoKey x.mid.addresses.seals = subst HasNoKey (sym kept) none in
        let envelopes = envelopes_in Says observable x.turn in
        subst (λ (sent : List Frame). PostsOnly envelopes old.sent sent) (sym quiet)
        (posts_both envelopes old.sent x.mid.sent x.acts.told.sent (given_posts x.came x.frames old x.mid no_key x.turn)
        (posts_both envelopes x.mid.sent x.acts.probed.sent x.acts.told.sent
        (handled_posts envelopes x.asked x.reported x.mid x.acts.probed no_key x.acts.probes)
        (watched_posts envelopes x.watched x.acts.probed x.acts.told (subst HasNoKey (sym beside) no_key)
        x.acts.watches)))

    last_posts : (came : List Frame) (old new : ServerValue ReplicaValue)
        → (turn : LastTurn Says observable came old new) → PostsOnly turn.hands_on.envelopes old.sent new.sent
    last_posts came old new turn =
        let before = send_state_at (drop turn.count old.loopback) old in
        let after = send_state_at new.loopback new in
        let none : after ≡ before =
        subst (λ (envelopes : List EnvelopeValue).
        CarriesAll (Becomes observable new.node new.addresses) before envelopes after) turn.silent
        turn.hands_on.carried in
        posts_none turn.hands_on.envelopes old.sent new.sent (ap (λ (s : SendState). s.sent) none)

-- ---- what has been sent, and what the sockets have sent of it

-- each of these is a copy of a datagram of a node, or no node's message
abbrev AreKnown : List Datagram → List Frame → Type 0
AreKnown sent posted = (d : Frame) → Contains posted d → WasGiven sent d.1 ⊎ IsNoNodeMessage d.1

given_later : (sent more : List Datagram) (bytes : List ℕ) → WasGiven sent bytes ⊎ IsNoNodeMessage bytes
    → WasGiven (sent ++ more) bytes ⊎ IsNoNodeMessage bytes
given_later sent more bytes (inl given) = inl (given.0, Contains-append_left sent more given.0 given.1, given.2)
given_later sent more bytes (inr free) = inr free

post_known : (sent : List Datagram) (n : ℕ) (envelopes : List EnvelopeValue) (d : Frame) → IsPost envelopes d
    → WasGiven (sent ++ batch_of n envelopes) d.1 ⊎ IsNoNodeMessage d.1
post_known sent n envelopes d (inl one) =
    inl (
      datagram_of n one.0,
      Contains-append_right sent (batch_of n envelopes) (datagram_of n one.0)
          (in_map (datagram_of n) envelopes one.0 one.1),
      one.2,
    )
post_known sent n envelopes d (inr free) = inr free

known_after : (sent : List Datagram) (posted : List Frame) → AreKnown sent posted → (n : ℕ)
    (envelopes : List EnvelopeValue) (old new : List Frame) → PostsOnly envelopes old new
    → AreKnown (sent ++ batch_of n envelopes) (posted ++ drop (length old) new)
known_after sent posted known n envelopes old new p d found =
    let since : drop (length old) new ≡ p.0 = ap (drop (length old)) p.1 ∙ drop_at old p.0 (length old) refl in
    elim (Contains-append_cases posted p.0 d (subst (λ (more : List Frame). Contains (posted ++ more) d) since found)) [
      | inl early ↦ given_later sent (batch_of n envelopes) d.1 (known d early)
      | inr late ↦ post_known sent n envelopes d (p.2 d late)
    ]

known_still : (sent : List Datagram) (posted : List Frame) → AreKnown sent posted → AreKnown (sent ++ []) (posted ++ [])
known_still sent posted known d found = elim (Contains-append_cases posted [] d found) [
  | inl early ↦ given_later sent [] d.1 (known d early)
  | inr none ↦ absurd (nothing_in d none)
]

-- what is brought was given
brought_given : (sent : List Datagram) (posted : List Frame) → AreKnown sent posted → (bytes : List ℕ)
    → WasPosted posted bytes ⊎ IsNoNodeMessage bytes → WasGiven sent bytes ⊎ IsNoNodeMessage bytes
brought_given sent posted known bytes (inl one) =
    subst (λ (x : List ℕ). WasGiven sent x ⊎ IsNoNodeMessage x) one.2 (known one.0 one.1)
brought_given sent posted known bytes (inr free) = inr free

taken_given : (sent : List Datagram) (posted : List Frame) → AreKnown sent posted → (f : Filter) → HasNoKey f.seals
    → (frames : List Frame) → AllByRecursion (λ (d : Frame). WasPosted posted d.1 ⊎ IsNoNodeMessage d.1) frames
    → AllByRecursion (λ (d : Frame). WasGiven sent d.1 ⊎ IsNoNodeMessage d.1) (all_filtered f frames)
taken_given sent posted known f none [] brought = tt
taken_given sent posted known f none (frame ∷ frames) brought =
    let rest = taken_given sent posted known f none frames brought.1 in
    let here = subst (λ (x : List ℕ). WasGiven sent x ⊎ IsNoNodeMessage x) (sym (heard_is f.seals none frame.1))
    (brought_given sent posted known frame.1 brought.0) in
    elim (cases_Bool (is_filtered_out f frame)) [ inl e ↦ rw e rest | inr e ↦ rw e (here, rest) ]

module _ (Metered observable Honest : Type 0) (genesis : Genesis) (shown : observable) where
  module _ (sent : List Datagram) (posted : List Frame) (known : AreKnown sent posted) where
    comes_given : (server : ServerValue ReplicaValue) (frames came : List Frame) → IsBrought posted server frames
        → came ≡ all_filtered (filter_of server.addresses) frames → OnlyDelivers genesis sent server came
    comes_given server frames came is opened =
        subst (λ (l : List Frame). OnlyDelivers genesis sent server l) (sym opened)
        (taken_given sent posted known (filter_of server.addresses) is.no_key frames is.brought)

    module _ (n : ℕ) (old new : RunState (ServerValue ReplicaValue)) where
      move_given : (does : IsMove Metered observable Honest genesis n old new)
          → Brings Metered observable Honest genesis posted does
          → MayArrive Metered observable Honest genesis OnlyDelivers sent does
      move_given (inl x) is = tt
      move_given (inr (inl x)) is = tt
      move_given (inr (inr (inl x))) is = comes_given x.server x.turn.frames x.turn.came is x.turn.opened
      move_given (inr (inr (inr (inl x)))) is = comes_given x.server x.turn.frames x.turn.came is x.turn.opened
      move_given (inr (inr (inr (inr (inl x))))) is = comes_given x.server x.frames x.came is x.opened
      move_given (inr (inr (inr (inr (inr x))))) is = tt

      turns_known : (After : ServerValue ReplicaValue → Type 0)
          (x : TurnsNode Metered observable Honest genesis n old new After)
          → IsBrought posted x.server x.turn.frames
          → AreKnown (sent ++ batch_of n (envelopes_in (SaysIfHonest Metered Honest) observable x.turn.turn))
          (posted ++ sent_since x.server x.after)
      turns_known After x is =
          known_after sent posted known n (envelopes_in (SaysIfHonest Metered Honest) observable x.turn.turn)
          x.server.sent x.after.sent
          (turn_posts observable shown (SaysIfHonest Metered Honest) After x.server x.after is.no_key x.turn)

      move_known : (does : IsMove Metered observable Honest genesis n old new)
          → Brings Metered observable Honest genesis posted does
          → AreKnown (sent ++ batch_of n (envelopes_by Metered observable Honest genesis does))
          (posted ++ posts_in Metered observable Honest genesis does)
      move_known (inl x) is = known_still sent posted known
      move_known (inr (inl x)) is = known_still sent posted known
      move_known (inr (inr (inl x))) is = turns_known _ x is
      move_known (inr (inr (inr (inl x)))) is = turns_known _ x is
      move_known (inr (inr (inr (inr (inl x))))) is =
          known_after sent posted known n x.turn.hands_on.envelopes x.server.sent x.after.sent
          (last_posts observable shown (SaysIfHonest Metered Honest) x.came x.server x.after x.turn)
      move_known (inr (inr (inr (inr (inr x))))) is = known_still sent posted known

  all_given : (sent : List Datagram) (posted : List Frame) → AreKnown sent posted
      → (moves : List (Move Metered observable Honest genesis))
      → AllBrought Metered observable Honest genesis posted moves
      → MayAllArrive Metered observable Honest genesis OnlyDelivers sent moves
  all_given sent posted known [] brought = tt
  all_given sent posted known (m ∷ moves) brought = (
    move_given sent posted known m.number m.before m.after m.does brought.0,
    all_given (sent ++ batch_of m.number (envelopes_by Metered observable Honest genesis m.does))
        (posted ++ posts_in Metered observable Honest genesis m.does)
        (move_known sent posted known m.number m.before m.after m.does brought.0) moves brought.1,
  )

  -- from the start
  pub carries_all : (moves : List (Move Metered observable Honest genesis))
      → AllBrought Metered observable Honest genesis [] moves
      → MayAllArrive Metered observable Honest genesis OnlyDelivers [] moves
  carries_all moves brought = all_given [] [] (λ d found. absurd (nothing_in d found)) moves brought
