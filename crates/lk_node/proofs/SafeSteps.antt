-- How the parts of a step go on with one another.
use Rattle.std.proofs.Common.{◌≡◌, ℕ, inl, inr, true, List, [], ◌∷◌, ◌++◌, Contains, refl, ◌∙◌, ap, subst}
use Rattle.std.proofs.lemmas.List.Elements.{Contains-append_cases}
use Rattle.lk_types.specs.declared.entry.Entry.{Entry}
use Rattle.lk_messages.specs.Grammar.{Spells, spelling, IsMessage}
use Rattle.lk_messages.specs.declared.message.Content.{Content}
use Rattle.lk_messages.specs.declared.message.Content.TheVariants as content
use Rattle.lk_messages.specs.declared.message.Message.{Message}
use Rattle.lk_messages.specs.declared.message.NodeMessage.{NodeMessage}
use Rattle.lk_store_format.specs.Values.{HeaderValue}
use Rattle.lk_state.specs.Meanings.{Meaning}
use Rattle.lk_agreement_laws.specs.Acceptors.{Covers}
use Rattle.lk_agreement_laws.specs.Datagrams.{said_by}
use Rattle.lk_agreement_laws.specs.Nodes.{MaySend}
use Rattle.lk_node_interface.specs.Envelopes.{EnvelopeValue, datagram_of, batch_of}
use Rattle.lk_node_interface.specs.Outboxes.{OutboxValue, nothing, with_envelope, with_note}
use Rattle.lk_node_interface.specs.Saying.{saying}
use Rattle.lk_node_interface.specs.declared.note.Note.{Note}
use Rattle.lk_node_interface.specs.declared.to.To.{To}
use Rattle.lk_node.specs.Calls.{MayGo}
use Rattle.lk_node.specs.Histories.{History, Genesis, IsHeard}
use Rattle.lk_node.specs.Leavings.{header_of}
use Rattle.lk_node.specs.NodeValue.{NodeValue}
use Rattle.lk_node.specs.BorneOut.{MessageIsBorneOut, IsOfNode, IsBorneOut}
use Rattle.lk_node.specs.SafeSteps.{IsNeitherPromiseNorVote, IsCoveredEnvelope, IsSafeStep, ActsSafely}
use Rattle.lk_node.specs.Steps.{WasHeard}
use Rattle.lk_node.proofs.Lists.{only}

-- nothing is done
pub rests_here : (m : Meaning) (Heard : History → Type 0) (node : NodeValue) (out : OutboxValue)
    → ActsSafely m Heard node node out out
rests_here m Heard node out = record { binds = λ first b. b; continues = λ h n loose s heard. s }

-- one part after another
pub then_goes_on : (m : Meaning) (Heard : History → Type 0) (a b c : NodeValue) (x y z : OutboxValue)
    → ActsSafely m Heard a b x y → ActsSafely m Heard b c y z → ActsSafely m Heard a c x z
then_goes_on m Heard a b c x y z f g = record {
  binds = λ first k. g.binds first (f.binds first k);
  continues = λ h n loose s heard. g.continues h n loose (f.continues h n loose s heard) heard;
}

-- a part that heard less
pub heard_goes_on : (m : Meaning) (Heard Had : History → Type 0) (old new : NodeValue) (before after : OutboxValue)
    → ((h : History) (n : ℕ) (loose : List Entry) → IsSafeStep m h n loose old before → Heard h → Had h)
    → ActsSafely m Had old new before after → ActsSafely m Heard old new before after
heard_goes_on m Heard Had old new before after has f =
    record { binds = f.binds; continues = λ h n loose s heard. f.continues h n loose s (has h n loose s heard) }

-- the datagram of an envelope is the node's
pub envelope_spelled : (genesis : Genesis) (n : ℕ) (whose : HeaderValue) (message : NodeMessage) (bytes : List ℕ)
    → whose ≡ header_of genesis n → IsMessage (saying whose message) → bytes ≡ spelling (saying whose message)
    → Spells (said_by genesis n message) bytes
envelope_spelled genesis n whose message bytes is fits spelled =
    subst (λ (w : HeaderValue). IsMessage (saying w message) × (bytes ≡ spelling (saying w message))) is (fits, spelled)

pub mapped_append : (n : ℕ) (xs : List EnvelopeValue) (l : EnvelopeValue)
    → batch_of n (xs ++ l ∷ []) ≡ batch_of n xs ++ datagram_of n l ∷ []
mapped_append n [] l = refl
mapped_append n (x ∷ xs) l = ap (λ ds. datagram_of n x ∷ ds) (mapped_append n xs l)

abbrev envelope : NodeValue → To → NodeMessage → EnvelopeValue
envelope node to message = record { to = to; bytes = spelling (saying node.header message) }

-- an envelope of a message that the node may send, and that its acceptor covers
pub says : (m : Meaning) (Heard : History → Type 0) (node : NodeValue) (out : OutboxValue) (to : To)
    (message : NodeMessage) → IsMessage (saying node.header message) → Covers node.acceptor.state message
    → (out.rebase ≡ true → IsNeitherPromiseNorVote message)
    → ((h : History) (n : ℕ) (loose : List Entry) (s : IsSafeStep m h n loose node out) → Heard h
    → MaySend h.genesis h.sent s.holding.paxos message × MessageIsBorneOut m h message)
    → ActsSafely m Heard node node out (with_envelope (envelope node to message) out)
says m Heard node out to message fits covers neither may = record {
  binds = λ first b. record {
    header = b.header;
    written = b.written;
    unsynced = b.unsynced;
    still = b.still;
    tells = λ l c. elim (Contains-append_cases out.envelopes (envelope node to message ∷ []) l c) [
      | inl before ↦ b.tells l before
      | inr now ↦ subst (IsCoveredEnvelope node.header node.acceptor.state out.rebase) (only
          (envelope node to message) l now)
          (record { message = message; fits = fits; bytes = refl; covers = covers; rebased = neither })
    ];
  };
  continues = λ h n loose s heard. record {
    lawful = s.lawful;
    whose = s.whose;
    holding = s.holding;
    held = s.held;
    fits = s.fits;
    rests = s.rests;
    known = s.known;
    known_unsynced = s.known_unsynced;
    may = λ d c. elim (Contains-append_cases (batch_of n out.envelopes)
        (datagram_of n (envelope node to message) ∷ []) d
        (subst (λ ds. Contains ds d) (mapped_append n out.envelopes (envelope node to message)) c)) [
          | inl before ↦ s.may d before
          | inr now ↦ subst (MayGo m h n s.holding.paxos)
              (only (datagram_of n (envelope node to message)) d now) (record {
                message = message;
                from = refl;
                spelled =
                    envelope_spelled h.genesis n node.header message
                    (spelling (saying node.header message)) s.whose fits refl;
                may = (may h n loose s heard).0;
                borne_out = (may h n loose s heard).1;
              })
        ];
    noted = s.noted;
  };
}

-- ---- what was heard

heard_content : (h : History) (n : ℕ) (whose : HeaderValue) (msg : Message) (bytes : List ℕ)
    → whose ≡ header_of h.genesis n → Spells msg bytes → msg.cluster ≡ whose.cluster
    → IsHeard h bytes → WasHeard h msg.content
heard_content h n whose msg bytes is spelled same heard = by_content msg.content spelled
  where
    cluster_is : msg.cluster ≡ h.genesis.cluster
    cluster_is = same ∙ ap (λ (w : HeaderValue). w.cluster) is

    by_content : (c : Content) → Spells (record { cluster = msg.cluster; content = c }) bytes → WasHeard h c
    by_content (content.Request r) k =
        heard.asked r (subst
        (λ (cluster : ℕ). Spells (record { cluster = cluster; content = content.Request r }) bytes) cluster_is k)
    by_content (content.Node from x) k =
        heard.said from x (subst
        (λ (cluster : ℕ). Spells (record { cluster = cluster; content = content.Node from x }) bytes) cluster_is k)

-- what goes on by what a message says goes on by its bytes
pub bytes_go_on : (m : Meaning) (old new : NodeValue) (out : OutboxValue) (msg : Message) (bytes : List ℕ)
    → Spells msg bytes → msg.cluster ≡ old.header.cluster
    → ActsSafely m (λ h. WasHeard h msg.content) old new nothing out
    → ActsSafely m (λ h. IsHeard h bytes) old new nothing out
bytes_go_on m old new out msg bytes spelled same f =
    heard_goes_on m (λ h. IsHeard h bytes) (λ h. WasHeard h msg.content) old new nothing out
    (λ h n loose s heard. heard_content h n old.header msg bytes s.whose spelled same heard) f

-- ---- notes

-- a note that a chosen list bears out
pub notes : (m : Meaning) (Heard : History → Type 0) (node : NodeValue) (out : OutboxValue) (x : Note) → IsOfNode x
    → ((h : History) (n : ℕ) (loose : List Entry) (s : IsSafeStep m h n loose node out) → Heard h → IsBorneOut m h x)
    → ActsSafely m Heard node node out (with_note x out)
notes m Heard node out x own bears = record {
  binds = λ first b. record {
    header = b.header;
    written = b.written;
    unsynced = b.unsynced;
    still = b.still;
    tells = b.tells;
  };
  continues = λ h n loose s heard. record {
    lawful = s.lawful;
    whose = s.whose;
    holding = s.holding;
    held = s.held;
    fits = s.fits;
    rests = s.rests;
    known = s.known;
    known_unsynced = s.known_unsynced;
    may = s.may;
    noted = λ y c. elim (Contains-append_cases out.notes (x ∷ []) y c) [
      | inl before ↦ s.noted y before
      | inr now ↦ subst (λ (z : Note). IsOfNode z × IsBorneOut m h z) (only x y now) (own, bears h n loose s heard)
    ];
  };
}
