-- The turns of a server, one after another, and one more.
use Rattle.std.proofs.Common.{◌≡◌, ◌∙◌, ◌⊎◌, ◌<◌, ℕ, List, Option, Result, Ok, Err, inl, inr, refl, subst, sym, ap}
use Rattle.std.proofs.Common.{arith}
use Rattle.std.specs.declared.net.socket_addr.SocketAddr.{SocketAddr}
use Rattle.std.specs.Prelude.{OnOk, OnErr, IfErr, IsErrAnd, MatchResult}
use Rattle.lk_disk.specs.Disk.{Disk}
use Rattle.lk_disk.specs.declared.device.Side.{Side}
use Rattle.lk_store_format.specs.Values.{HeaderValue}
use Rattle.lk_recovery.specs.Revivals.{IsRefusedFor}
use Rattle.lk_state.specs.Meanings.{Meaning}
use Rattle.lk_node_interface.specs.Envelopes.{EnvelopeValue}
use Rattle.lk_replica.specs.ReplicaValue.{ReplicaValue}
use Rattle.lk_address_book.specs.Addresses.{AddressBook, IsNetworkAfter, IsSameNetwork, filter_of}
use Rattle.lk_address_book.specs.Hosts.{hosts_after}
use Rattle.lk_address_book.specs.declared.hosts.Hosts.{Hosts}
use Rattle.lk_address_book.specs.declared.hosts.HostNews.{HostNews}
use Rattle.lk_address_book.specs.declared.hosts.HostNews.TheVariants.{Nothing, Read, Unusable}
use Rattle.lk_transport.specs.ReceiveBuffers.{BufferValue}
use Rattle.lk_transport.specs.Kept.{KeepsOf}
use Rattle.lk_address_book.specs.Filters.{all_filtered}
use Rattle.lk_server_replica.specs.Sayings.{SaysOf}
use Rattle.lk_server.specs.Servers.{ServerValue, HasReceived, TurnOrIdle as ServerTurn, LastTurn}
use Rattle.lk_server.specs.ProbeHandling.{HandlesProbes}
use Rattle.lk_server.specs.WatchHandling.{HandlesWatches}
use Rattle.lk_server_replica.specs.Showing.{IsShown}
use Rattle.lk_server_replica.specs.Tables.{greatest_of, members_of, table_of}
use Rattle.lk_node_setup.specs.HostWatches.{AreHosts, FindsHosts}
use Rattle.lk_node_setup.specs.Named.{AreHostsIn}
use Rattle.lk_probe.specs.declared.reported.Reported.{Reported}
use Rattle.lk_transport.specs.declared.received_probe.ReceivedProbe.{ReceivedProbe}
use Rattle.lk_transport.specs.declared.received_watch.ReceivedWatch.{ReceivedWatch}
use Rattle.lk_transport.specs.Chains.{Repeats}
use Rattle.lk_node_process.specs.Revivals.{IsRestartRefused, StaysDown}
use Rattle.lk_node_process.specs.Turns.{ActsBeside, DoesTurn, DoesTurnWith, EndsByStranger, EndsTurn, BreaksOff}
use Rattle.lk_node_process.specs.Turns.{BreaksOffByStranger, KnowsJoined, TakesHosts, TellsFailure}

-- what a replica on a device says, where that is honest
abbrev pub SaysOn : Type 0 → Type 0 → Meaning → (List ℕ → Type 0) → ReplicaValue → List (Option (List ℕ))
    → List EnvelopeValue → ReplicaValue → Type 0
SaysOn honest metered m IsText old given envelopes new = honest → SaysOf m IsText metered old given envelopes new

-- what stands whatever became of a call stands after a refusal
pub on_err : {T E P : Type 0} (r : Result T E) → P → OnErr r P
on_err (Ok x) p = tt
on_err (Err e) p = p

module _ {Says : ReplicaValue → List (Option (List ℕ)) → List EnvelopeValue → ReplicaValue → Type 0}
    {observable : Type 0}
    {count : ℕ} {first last new : ServerValue ReplicaValue} where
  -- one ended the replica, or was the last
  pub turns_end : (most : ℕ) → count < most → Repeats (DoesTurn Says observable) count first last
      → EndsTurn Says observable last new ⊎ EndsByStranger Says observable last new
      → BreaksOff Says observable most first new ⊎ BreaksOffByStranger Says observable most first new
  turns_end most fewer so_far (inl ends) =
      inl (record { count = count; fewer = fewer; last = last; turns = so_far; ends = ends })
  turns_end most fewer so_far (inr leave) =
      inr (record { count = count; fewer = fewer; last = last; turns = so_far; leave = leave })

-- a turn that ended the replica
pub turn_ended : {Says : ReplicaValue → List (Option (List ℕ)) → List EnvelopeValue → ReplicaValue → Type 0}
    {observable : Type 0} (frames : List (SocketAddr × List ℕ)) (old new : ServerValue ReplicaValue)
    → HasReceived observable frames old new → LastTurn Says observable (all_filtered
    (filter_of old.addresses) frames) old new
    → IsSameNetwork old.addresses new.addresses → TellsFailure new → EndsTurn Says observable old new
turn_ended frames old new received turn network failure =
    record {
      frames = frames;
      came = all_filtered (filter_of old.addresses) frames;
      opened = refl;
      received = received;
      turn = turn;
      network = network;
      failure = failure;
    }

-- a turn, and what the server does beside the protocol after it
pub turn_taken : {Says : ReplicaValue → List (Option (List ℕ)) → List EnvelopeValue → ReplicaValue → Type 0}
    {observable : Type 0} (After : ServerValue ReplicaValue → Type 0) (frames : List (SocketAddr × List ℕ))
    (kept left : BufferValue)
    (old mid new : ServerValue ReplicaValue) → HasReceived observable frames old mid
    → ServerTurn Says observable frames old mid
    → KeepsOf old.addresses.seals frames kept left
    → (news : HostNews) → ActsBeside observable news left.asked left.reported left.watched mid new
    → IsSameNetwork old.addresses mid.addresses → IsNetworkAfter news mid.addresses new.addresses → TellsFailure new
    → After new → DoesTurnWith Says observable kept.asked kept.reported kept.watched After old new
turn_taken After frames kept left old mid new received turn keeps news acts network held failure becomes = record {
  frames = frames;
  came = all_filtered (filter_of old.addresses) frames;
  opened = refl;
  received = received;
  mid = mid;
  turn = turn;
  asked = left.asked;
  first_asked = keeps.asked;
  last = keeps.last;
  reported = left.reported;
  first_reported = keeps.reported;
  watched = left.watched;
  first_watched = keeps.watched;
  news = news;
  acts = acts;
  network = (held.0 ∙ ap (hosts_after news) network.0, held.1 ∙ network.1, held.2 ∙ network.2);
  failure = failure;
  becomes = becomes;
}

-- what the server does beside the protocol, if the watch that was left is the one that was kept, and what is observed
-- last changes nothing
module _ (observable : Type 0) (news : HostNews) (asked : Option ReceivedProbe) (reported : Option Reported)
    (kept left : Option ReceivedWatch) (old probed told noted hosted new : ServerValue ReplicaValue)
    (same : new ≡ hosted) where
  pub acts_beside : HandlesProbes IsShown members_of observable asked reported old probed → left ≡ kept
      → HandlesWatches table_of IsShown observable left probed told → KnowsJoined told noted
      → TakesHosts news noted hosted → ActsBeside observable news asked reported kept old new
  acts_beside probes is_kept watches joined hosts =
      subst (λ (s : ServerValue ReplicaValue). ActsBeside observable news asked reported kept old s) (sym same)
      (record {
        probed = probed;
        probes = probes;
        told = told;
        watches = subst (λ (w : Option ReceivedWatch). HandlesWatches table_of IsShown observable w probed told)
            is_kept watches;
        noted = noted;
        joined = joined;
        hosts = hosts;
      })

-- where nodes live then: where they did before the probes were handled, or where the news says
pub network_after : (news : HostNews) (old probed told noted hosted new : ServerValue ReplicaValue)
    → IsSameNetwork old.addresses probed.addresses → told.addresses ≡ probed.addresses → KnowsJoined told noted
    → TakesHosts news noted hosted → new ≡ hosted → IsNetworkAfter news old.addresses new.addresses
network_after news old probed told noted hosted new network quiet joined hosts same =
    let seen : noted.addresses ≡ record probed.addresses { joined = greatest_of told.replica } =
    ap (λ (s : ServerValue ReplicaValue). s.addresses) joined
    ∙ ap (λ (b : AddressBook). record b { joined = greatest_of told.replica }) quiet in
    let all : new.addresses ≡ record probed.addresses {
      joined = greatest_of told.replica;
      hosts = hosts_after news probed.addresses.hosts;
    } =
    ap (λ (s : ServerValue ReplicaValue). s.addresses) (same ∙ hosts)
    ∙ ap (λ (b : AddressBook). record b { hosts = hosts_after news b.hosts }) seen in (
      ap (λ (b : AddressBook). b.hosts) all ∙ ap (hosts_after news) network.0,
      ap (λ (b : AddressBook). b.seals) all ∙ network.1,
      ap (λ (b : AddressBook). b.admins) all ∙ network.2,
    )

-- ---- where nodes live

module _ (is_text : List ℕ → List ℕ → Type 0) (path : Option (List ℕ)) where
  -- what was found is where they live now
  pub hosts_found : (news : HostNews) (old new : Hosts) → FindsHosts is_text path news → new ≡ hosts_after news old
      → AreHosts is_text path old new
  hosts_found Nothing old new finds is = inl is
  hosts_found (Read found) old new finds is = inr (subst (λ (h : Hosts). AreHostsIn is_text path h) (sym is) finds)
  hosts_found Unusable old new finds is = inl is

  -- so it is after two steps
  pub hosts_more : (old mid new : Hosts) → AreHosts is_text path old mid → AreHosts is_text path mid new
      → AreHosts is_text path old new
  hosts_more old mid new (inl same) (inl is) = inl (is ∙ same)
  hosts_more old mid new (inr found) (inl is) =
      inr (subst (λ (h : Hosts). AreHostsIn is_text path h) (sym is) found)
  hosts_more old mid new before (inr found) = inr found

-- one of both stands, however a call ends
pub on_either : {T E P Q : Type 0} (r : Result T E) → OnOk r P → OnErr r Q → P ⊎ Q
on_either (Ok x) p q = inl p
on_either (Err e) p q = inr q

-- what follows of what stands after a refusal
pub on_err_weaker : {T E P Q : Type 0} (r : Result T E) → (P → Q) → OnErr r P → OnErr r Q
on_err_weaker (Ok x) f p = tt
on_err_weaker (Err e) f p = f p

-- what stands of an error stands of a refusal with it
pub if_err_is : {T E : Type 0} (P : E → Type 0) (r : Result T E) (e : E) → IsErrAnd r (λ y. y ≡ e) → P e → IfErr r P
if_err_is P (Ok x) e is p = tt
if_err_is P (Err y) e is p = subst P (sym is) p

-- a status that is 0 after a call and 1 after its failure: at 0 stands what stands of the call, at 1 what stands of the
-- failure
module _ {T E A : Type 0} {status : ℕ} where
  pub at_zero : (r : Result T E) → MatchResult r (λ _. status ≡ 0) (λ _. status ≡ 1) → OnOk r A → status ≡ 0 → A
  at_zero (Ok x) is a zero = a
  at_zero (Err e) is a zero = absurd (omega (arith, is, zero))

  pub at_one : (r : Result T E) → MatchResult r (λ _. status ≡ 0) (λ _. status ≡ 1) → OnErr r A → status ≡ 1 → A
  at_one (Ok x) is a one = absurd (omega (arith, is, one))
  at_one (Err e) is a one = a

-- a restart failed so, whichever equal disks are named
pub refused_leaving : {m : Meaning} {IsText : List ℕ → Type 0} {honest : Type 0} {old left now : Side → Disk}
    {header : HeaderValue} {number : ℕ} → (honest → (s : Side) → now s ≡ left s)
    → IsRestartRefused m IsText honest old header number left → IsRestartRefused m IsText honest old header number now
refused_leaving {m = m} {IsText = IsText} {old = old} {header = header} {number = number} same refused = record {
  among = refused.among;
  cause = λ h. subst (λ (d : Side → Disk). IsRefusedFor m IsText old header number d) (λ i s. sym (same h s) i)
      (refused.cause h);
  stays_down = λ h. subst (λ (d : Side → Disk). StaysDown m header old d) (λ i s. sym (same h s) i)
      (refused.stays_down h);
  comes_back = refused.comes_back;
}
