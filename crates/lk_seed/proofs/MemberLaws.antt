-- The only member stays one, whatever it takes.
use Rattle.std.proofs.Common.{◌≡◌, ◌∙◌, ℕ, Bool, List, [], ◌∷◌, ◌++◌, ◌<◌, true, inl, inr, refl, ap}
use Rattle.std.proofs.Common.{subst, sym, arith, get_or, length}
use Rattle.std.specs.Prelude.{All, Contains, Ok, filter, remove}
use Rattle.std.proofs.lemmas.List.Elements.{All-append, All-weaker, All-filter, All-contains_itself, filter_passes}
use Rattle.std.proofs.lemmas.List.Elements.{All-head, All-tail, All-nil, Contains-append_left, Contains-append_right}
use Rattle.lk_types.specs.declared.command.Op.TheVariants.{Table}
use Rattle.lk_memory_disk.specs.Memory.{empty, Memory}
use Rattle.lk_messages.specs.Grammar.{Spells}
use Rattle.lk_messages.specs.declared.message.Content.TheVariants as content
use Rattle.lk_locks.specs.Bodies.{spelling}
use Rattle.lk_locks.specs.declared.body.Body.{Body}
use Rattle.lk_store_format.specs.Values.{HeaderValue}
use Rattle.lk_locks.specs.Meaning.{table_meaning}
use Rattle.lk_locks.specs.Packed.{IsTableText}
use Rattle.lk_node.specs.Histories.{Datagram}
use Rattle.lk_node_interface.specs.declared.input.Input.{Input}
use Rattle.lk_node_interface.specs.declared.input.Input.TheVariants.{Datagram as Heard}
use Rattle.lk_node_interface.specs.declared.note.Note.{Note}
use Rattle.lk_replica.specs.Compacted.{CompactsTo}
use Rattle.lk_replica.specs.ReplicaValue.{ReplicaValue, device_of}
use Rattle.lk_replica.specs.Revived.{RevivesTo}
use Rattle.lk_replica.specs.Taking.{ComesTo}
use Rattle.lk_seed.specs.Histories.{AreOfRequest, Becomes, HasTaken, IsMember, IsOfGrant, IsOwn, MayReach}
use Rattle.lk_seed.specs.Histories.{is_to, own_of}
use Rattle.lk_seed.specs.Histories.Becomes.{begins, takes}
use Rattle.lk_seed.specs.MemberValue.{MemberValue}
use Rattle.lk_seed.specs.Seedings.{AreLeftBy}
use Rattle.lk_seed.specs.declared.wanted.Wanted.{Wanted}

-- what it had sent itself it still has, and what it sends itself comes to it
pub own_more : (node : ℕ) (sent more envelopes : List Datagram) → All (IsOwn node sent) envelopes
    → All (IsOwn node (sent ++ more)) (envelopes ++ own_of node more)
own_more node sent more envelopes own =
    let to_it : Datagram → Bool = λ d. is_to node d.to in
    All-append (IsOwn node (sent ++ more)) envelopes (filter to_it more)
    (All-weaker (IsOwn node sent) (IsOwn node (sent ++ more)) (λ d o. record {
      was_sent = Contains-append_left sent more d o.was_sent;
      to_itself = o.to_itself;
    }) envelopes own)
    (λ k d short. record {
      was_sent = All-filter to_it (Contains (sent ++ more)) more
          (All-weaker (Contains more) (Contains (sent ++ more)) (λ x h. Contains-append_right sent more x h) more
          (All-contains_itself more)) k d short;
      to_itself = filter_passes to_it more k d short;
    })

-- it goes on as the member
pub goes_on : (header : HeaderValue) (wanted : List Wanted) (old new : MemberValue)
    (member : IsMember header wanted old) → HasTaken header wanted member.sent old new → IsMember header wanted new
goes_on header wanted old new member taken = record {
  whose = taken.whose;
  sent = member.sent ++ taken.more;
  becomes = taken.becomes;
  own = subst (All (IsOwn header.node (member.sent ++ taken.more))) (sym taken.envelopes)
      (own_more header.node member.sent taken.more old.envelopes member.own);
}

pub begun : (header : HeaderValue) (wanted : List Wanted) (m : MemberValue) (notes : List Note)
    → RevivesTo table_meaning IsTableText empty header (Ok (m.replica, notes)) → m.header ≡ header
    → m.envelopes ≡ [] → IsMember header wanted m
begun header wanted m notes revives whose none = record {
  whose = whose;
  sent = [];
  becomes = begins m.replica notes revives;
  own = subst (All (IsOwn header.node [])) (sym none) (All-nil (IsOwn header.node []));
}

pub has_taken : (header : HeaderValue) (wanted : List Wanted) (sent : List Datagram) (old new : MemberValue) (i : Input)
    (notes : List Note) (more : List Datagram) → old.header ≡ header → Becomes header wanted old.replica sent
    → MayReach header wanted sent i → ComesTo table_meaning IsTableText old.replica i new.replica (Ok (notes, more))
    → new.envelopes ≡ old.envelopes ++ own_of old.header.node more → new.header ≡ old.header
    → HasTaken header wanted sent old new
has_taken header wanted sent old new i notes more is was may came envelopes whose = record {
  more = more;
  becomes = takes old.replica new.replica sent more i notes was may came;
  envelopes = subst (λ (h : HeaderValue). new.envelopes ≡ old.envelopes ++ own_of h.node more) is envelopes;
  whose = whose ∙ is;
}

head_and_rest : (d : Datagram) (ds : List Datagram) → 0 < length ds → d ≡ get_or ds 0 d → ds ≡ d ∷ remove ds 0
head_and_rest d [] some is = absurd (omega (arith, some))
head_and_rest d (x ∷ xs) some is = ap (λ (y : Datagram). y ∷ xs) (sym is)

-- after the first envelope that waits was delivered
pub has_delivered : (header : HeaderValue) (wanted : List Wanted) (old mid new : MemberValue) (d : Datagram)
    → IsMember header wanted old → 0 < length old.envelopes → d ≡ get_or old.envelopes 0 d
    → mid.envelopes ≡ remove old.envelopes 0 → mid.header ≡ old.header → mid.replica ≡ old.replica
    → ((sent : List Datagram) → mid.header ≡ header → Becomes header wanted mid.replica sent
    → MayReach header wanted sent (Heard d.bytes) → HasTaken header wanted sent mid new)
    → IsMember header wanted new
has_delivered header wanted old mid new d member some is rest whose same taken =
    let own : All (IsOwn header.node member.sent) (d ∷ remove old.envelopes 0) =
    subst (All (IsOwn header.node member.sent)) (head_and_rest d old.envelopes some is) member.own in
    let still : IsMember header wanted mid = record {
      whose = whose ∙ member.whose;
      sent = member.sent;
      becomes = subst (λ (r : ReplicaValue). Becomes header wanted r member.sent) (sym same) member.becomes;
      own = subst (All (IsOwn header.node member.sent)) (sym rest)
          (All-tail (IsOwn header.node member.sent) d (remove old.envelopes 0) own);
    } in
    goes_on header wanted mid new still
    (taken member.sent still.whose still.becomes
    (inr (d, All-head (IsOwn header.node member.sent) d (remove old.envelopes 0) own, refl)))

-- after a request was taken
pub has_asked : (header : HeaderValue) (wanted : List Wanted) (old mid new : MemberValue) (bytes : List ℕ)
    → IsMember header wanted old → mid.header ≡ old.header → mid.replica ≡ old.replica → mid.envelopes ≡ old.envelopes
    → AreOfRequest old.header.cluster wanted bytes
    → ((sent : List Datagram) → mid.header ≡ header → Becomes header wanted mid.replica sent
    → MayReach header wanted sent (Heard bytes) → HasTaken header wanted sent mid new)
    → IsMember header wanted new
has_asked header wanted old mid new bytes member whose same envelopes asks taken =
    let still : IsMember header wanted mid = record {
      whose = whose ∙ member.whose;
      sent = member.sent;
      becomes = subst (λ (r : ReplicaValue). Becomes header wanted r member.sent) (sym same) member.becomes;
      own = subst (All (IsOwn header.node member.sent)) (sym envelopes) member.own;
    } in
    goes_on header wanted mid new still
    (taken member.sent still.whose still.becomes
    (inl (subst (λ (h : HeaderValue). AreOfRequest h.cluster wanted bytes) member.whose asks)))

-- what it leaves once it has rebased
pub left_by : (header : HeaderValue) (wanted : List Wanted) (m : MemberValue) (last : ReplicaValue) (disks : Memory)
    → IsMember header wanted m → CompactsTo table_meaning m.replica last (Ok tt) → disks ≡ device_of last.store
    → AreLeftBy header wanted disks
left_by header wanted m last disks member compacts are = record {
  replica = m.replica;
  sent = member.sent;
  becomes = member.becomes;
  last = last;
  compacts = compacts;
  are = are;
}

-- the bytes of the next request
pub of_request : (cluster number : ℕ) (wanted : List Wanted) (body : Body) (bytes : List ℕ) → IsOfGrant wanted body
    → Spells (record {
      cluster = cluster;
      content = content.Request (record { client = 256; number = number; op = Table (spelling body) });
    }) bytes
    → AreOfRequest cluster wanted bytes
of_request cluster number wanted body bytes of_grant spelled = record {
  number = number;
  body = body;
  of_grant = of_grant;
  spelled = spelled;
}
