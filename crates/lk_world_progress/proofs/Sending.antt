-- What a node of a world sends, as a datagram of the next one.
use Rattle.std.proofs.Common.{◌≡◌, ℕ, List, Contains, sym, subst}
use Rattle.lk_types.specs.declared.genesis.Genesis.{Genesis}
use Rattle.lk_messages.specs.Grammar.{spelling}
use Rattle.lk_messages.specs.declared.message.Content.TheVariants as content
use Rattle.lk_messages.specs.declared.message.NodeMessage.{NodeMessage}
use Rattle.lk_agreement_laws.specs.Datagrams.{said_by}
use Rattle.lk_agreement_laws.specs.declared.party.Party.TheVariants as party
use Rattle.lk_state.specs.Meanings.{Meaning}
use Rattle.lk_store_format.specs.Values.{HeaderValue}
use Rattle.lk_node_interface.specs.Envelopes.{datagram_of}
use Rattle.lk_node.specs.Leavings.{header_of}
use Rattle.lk_node.specs.NodeValue.{NodeValue}
use Rattle.lk_node.specs.Telling.{envelope_to}
use Rattle.lk_replica.specs.ReplicaValue.{ReplicaValue}
use Rattle.lk_sim.specs.WorldStates.{WorldState}
use Rattle.lk_world_progress.proofs.Stepping.{has_header}
use Rattle.lk_world_progress.specs.Balloting.{HasSentTo}
use Rattle.lk_world_progress.specs.Stepping.{Holds, IsUpAs}

pub sent_as : (old new : WorldState ReplicaValue) (n k : ℕ) (node : NodeValue) (y : NodeMessage)
    → node.header ≡ header_of old.genesis n → new.genesis ≡ old.genesis
    → Contains new.sent (datagram_of n (envelope_to node y k)) → HasSentTo new n k y
sent_as old new n k node y header genesis c =
    subst (λ (g : Genesis). Contains new.sent
    (record { from = party.Node n; to = party.Node k; bytes = spelling (said_by g n y) })) (sym genesis)
    (subst (λ (h : HeaderValue). Contains new.sent (record {
      from = party.Node n;
      to = party.Node k;
      bytes = spelling (record { cluster = h.cluster; content = content.Node h.node y });
    })) header c)

pub has_sent : (m : Meaning) (IsText : List ℕ → Type 0) (old new : WorldState ReplicaValue) (n k : ℕ) (q : ReplicaValue)
    (y : NodeMessage) → Holds m IsText old → IsUpAs old n q → new.genesis ≡ old.genesis
    → Contains new.sent (datagram_of n (envelope_to q.node y k)) → HasSentTo new n k y
has_sent m IsText old new n k q y holds up genesis c =
    sent_as old new n k q.node y (has_header m IsText old holds n q up) genesis c
