-- What a node may be handed.
use Rattle.std.proofs.Common.{◌≡◌, ℕ, zero, suc, List, ◌∷◌, [], ◌++◌, slice_get, arith, append-nil, Option, Some, None}
use Rattle.std.proofs.Common.{Contains, refl, ap, sym, ◌∙◌, subst}
use Rattle.lk_disk.specs.Disk.{Disk}
use Rattle.lk_disk.specs.declared.device.Side.{Side}
use Rattle.lk_messages.specs.Grammar.{Spells}
use Rattle.lk_messages.specs.declared.message.Message.{Message}
use Rattle.lk_messages.specs.declared.message.Content.TheVariants as content
use Rattle.lk_messages.proofs.Spellings.{one_message}
use Rattle.lk_state.specs.Meanings.{Meaning}
use Rattle.lk_agreement_laws.specs.Datagrams.{NodeMessage, said_by}
use Rattle.lk_agreement_laws.proofs.Histories.{heard_was_sent, contains_more}
use Rattle.lk_node_interface.specs.declared.note.Note.{Note}
use Rattle.lk_node_interface.specs.declared.note.Note.TheVariants as note
use Rattle.lk_node.specs.Histories.{History, Genesis, Datagram, RequestValue, IsHeard}
use Rattle.lk_node.specs.Holdings.{Holding}
use Rattle.lk_sim.specs.Heard.{Reads, IsRequestIn, IsForged}
use Rattle.lk_sim.specs.Traces.{asked_in, happened, asked_note}
use Rattle.lk_sim.specs.Refusals.{datagram_at}
use Rattle.lk_sim.specs.Worlds.{WorldInvariant}
use Rattle.lk_sim_nodes.specs.declared.sim_node.SimNode.{SimNode}
use Rattle.lk_sim.proofs.Asking.{asked_last}

-- a datagram of the list
pub heard_sent : {R : Type 0} (Shows : R → Genesis → ℕ → Holding → Type 0) (disks : R → Side → Disk) (m : Meaning)
    (genesis : Genesis) (sim_nodes : List (SimNode R)) (sent : List Datagram) (trace : List Note)
    → WorldInvariant Shows disks m genesis sim_nodes sent trace → (d : Datagram) → Contains sent d → (bytes : List ℕ)
    → bytes ≡ d.bytes → IsHeard (happened genesis sent trace) bytes
heard_sent Shows disks m genesis sim_nodes sent trace w d c bytes e = record {
  said = λ n x said. heard_was_sent genesis sent w.world.sound d c n x
      (subst (λ b. Spells (said_by genesis n x) b) e said);
  asked = λ r said. w.requests d r genesis.cluster c
      (subst (λ b. Spells (record { cluster = genesis.cluster; content = content.Request r }) b) e said);
}

got : {X : Type 0} (xs : List X) (k : ℕ) (x : X) → slice_get xs k ≡ Some x → Contains xs x
got [] k x e = absurd cc
got (y ∷ xs) zero x e = (0, omega arith, cc e)
got (y ∷ xs) (suc k) x e = contains_more y xs x (got xs k x e)

pub datagram_listed : (sent : List Datagram) (k : ℕ) (d : Datagram) → datagram_at sent k ≡ Some d → Contains sent d
datagram_listed sent zero d e = absurd cc
datagram_listed sent (suc k) d e = got sent k d e

one_some : {X : Type 0} (o : Option X) (x y : X) → o ≡ Some x → o ≡ Some y → x ≡ y
one_some o x y a b = cc (a, b)

-- one datagram stands at a place
pub one_datagram : (sent : List Datagram) (k : ℕ) (d e : Datagram) → datagram_at sent k ≡ Some d
    → datagram_at sent k ≡ Some e → d ≡ e
one_datagram sent k d e a b = one_some (datagram_at sent k) d e a b

-- where nothing more was asked
pub heard_delivered : {R : Type 0} (Shows : R → Genesis → ℕ → Holding → Type 0) (disks : R → Side → Disk) (m : Meaning)
    (genesis : Genesis) (sim_nodes : List (SimNode R)) (sent : List Datagram) (trace : List Note)
    → WorldInvariant Shows disks m genesis sim_nodes sent trace → (k : ℕ) (d : Datagram) → datagram_at sent k ≡ Some d
    → (bytes : List ℕ) → bytes ≡ d.bytes → IsHeard (happened genesis sent (trace ++ [])) bytes
heard_delivered Shows disks m genesis sim_nodes sent trace w k d at bytes e =
    subst (λ l. IsHeard (happened genesis sent l) bytes) (sym (append-nil trace))
    (heard_sent Shows disks m genesis sim_nodes sent trace w d (datagram_listed sent k d at) bytes e)

nobody : (n : ℕ) (x : NodeMessage) (r : RequestValue) → content.Node n x ≡ content.Request r → ⊥
nobody n x r e = cc e

same_request : (q r : RequestValue) → content.Request q ≡ content.Request r → q ≡ r
same_request q r e = cc e

same_some : (q r : RequestValue) → Some q ≡ Some r → q ≡ r
same_some q r e = cc e

-- a request that was just asked
pub heard_request : (genesis : Genesis) (sent : List Datagram) (trace all : List Note) (bytes : List ℕ)
    (r : RequestValue) → Reads bytes (Some r) → all ≡ trace ++ note.Asked r ∷ []
    → IsHeard (happened genesis sent all) bytes
heard_request genesis sent trace all bytes r reads e = record {
  said = λ n x said. let q = reads (said_by genesis n x) said in absurd (nobody n x q.0 q.1);
  asked = λ q said. let p = reads (record { cluster = genesis.cluster; content = content.Request q }) said in
      subst (λ l. Contains (asked_in l) q) (sym e)
      (subst (λ z. Contains (asked_in (trace ++ note.Asked r ∷ [])) z)
      (same_some r p.0 p.2 ∙ sym (same_request q p.0 p.1)) (asked_last trace r));
}

-- bytes that spell nothing
pub heard_nothing : (h : History) (bytes : List ℕ) → Reads bytes None → IsHeard h bytes
heard_nothing h bytes reads = record {
  said = λ n x said. absurd (cc ((reads (said_by h.genesis n x) said).2));
  asked = λ q said. absurd
      (cc ((reads (record { cluster = h.genesis.cluster; content = content.Request q }) said).2));
}

-- what was read, and nothing else, is spelled
pub reads_request : (bytes : List ℕ) (x : Message) (r : RequestValue) → Spells x bytes
    → x.content ≡ content.Request r → Reads bytes (Some r)
reads_request bytes x r s e y t = (r, ap (λ (z : Message). z.content) (one_message y x bytes t s) ∙ e, refl)

pub reads_nothing : (bytes : List ℕ) → ((x : Message) → Spells x bytes → ⊥) → Reads bytes None
reads_nothing bytes none x s = absurd (none x s)

-- what is asked may be heard, once it is noted, and is not forged
pub heard_asked : (genesis : Genesis) (sent : List Datagram) (trace : List Note) (bytes : List ℕ)
    (o : Option RequestValue) → IsRequestIn bytes o → IsHeard (happened genesis sent (trace ++ asked_note o)) bytes
heard_asked genesis sent trace bytes None a = heard_nothing (happened genesis sent (trace ++ [])) bytes a.only
heard_asked genesis sent trace bytes (Some r) a =
    heard_request genesis sent trace (trace ++ note.Asked r ∷ []) bytes r a.only refl

pub asked_unforged : (bytes : List ℕ) (o : Option RequestValue) → IsRequestIn bytes o → IsForged bytes → ⊥
asked_unforged bytes o a f = let r = a.only f.message f.spelled in f.of_node r.0 r.1

pub asks_request : (bytes : List ℕ) (x : Message) (r : RequestValue) → Spells x bytes
    → x.content ≡ content.Request r → IsRequestIn bytes (Some r)
asks_request bytes x r s e = record {
  only = reads_request bytes x r s e;
  spelled = λ q is. (x.cluster, subst (λ (z : Message). Spells z bytes) (same x r q e (same_some r q is)) s);
}
  where
    same : (x : Message) (r q : RequestValue) → x.content ≡ content.Request r → r ≡ q
        → x ≡ record { cluster = x.cluster; content = content.Request q }
    same x r q e f = ap (λ c. record { cluster = x.cluster; content = c }) (e ∙ ap content.Request f)

pub asks_nothing : (bytes : List ℕ) → ((x : Message) → Spells x bytes → ⊥) → IsRequestIn bytes None
asks_nothing bytes none = record { only = reads_nothing bytes none; spelled = λ q is. absurd (cc is) }
