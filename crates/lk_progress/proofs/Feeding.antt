-- Who is asked sends, and who is sent commands executes them.
use Rattle.std.proofs.Common.{◌≡◌, ℕ, ◌+◌, ◌-◌, ◌<◌, ◌≤◌, ◌⊎◌, inl, inr, List, [], ◌∷◌, length, drop, sym}
use Rattle.std.proofs.Common.{subst, Contains, arith}
use Rattle.std.proofs.lemmas.List.{length-take, length-drop}
use Rattle.std.proofs.lemmas.List.Elements.{Contains-push, Contains-append_right}
use Rattle.lk_messages.specs.Values.{PartValue}
use Rattle.lk_messages.specs.declared.message.Content.TheVariants as content
use Rattle.lk_messages.specs.declared.message.NodeMessage.{NodeMessage}
use Rattle.lk_messages.specs.declared.message.NodeMessage.TheVariants as kinds
use Rattle.lk_learner.specs.Learners.{LearnerValue, executed, IsRetained, decided_from, wanted}
use Rattle.lk_learner.specs.Parts.{AreParts, start_of}
use Rattle.lk_state.specs.Meanings.{Meaning}
use Rattle.lk_node_interface.specs.Envelopes.{EnvelopeValue}
use Rattle.lk_node_interface.specs.Outboxes.{OutboxValue, nothing}
use Rattle.lk_node.proofs.Nodes.{map_has}
use Rattle.lk_node.specs.CatchingUp.{FeedsParts, Feeds, ClosesGap, AsksOn, AsksWhereMore, HandlesLead}
use Rattle.lk_node.specs.NodeValue.{NodeValue}
use Rattle.lk_node.specs.Replying.{SaysAlone}
use Rattle.lk_node.specs.Saying.{to_node}
use Rattle.lk_node.specs.Telling.{envelope_to}
use Rattle.lk_progress.proofs.Hearing.{Handled, handled, still_told}
use Rattle.lk_progress.specs.Feeding.{SendsCommands, SendsSnapshot, Sends, WantIsAnswered, LaggingNodeIsFed, Asks}
use Rattle.lk_progress.specs.Feeding.{LaggingNodeAsks, FollowerAsks, MayServe}

-- ---- what is sent

said_alone : (node : NodeValue) (message : NodeMessage) (other : ℕ) (out : OutboxValue)
    → SaysAlone node (to_node node other) message out → Contains out.envelopes (envelope_to node message other)
said_alone node message other out k =
    subst (λ (o : OutboxValue). Contains o.envelopes (envelope_to node message other)) (sym k.1)
    (Contains-push nothing.envelopes (envelope_to node message other))

how_many : (first : ℕ) (l : LearnerValue) → MayServe l → IsRetained l first
    → (length (decided_from first l).commands ≡ 16) ⊎ (first + length (decided_from first l).commands ≡ executed l + 1)
how_many first l f is =
    let k : ℕ = first - (l.snapshot_position + 1) in
    let rest = length-drop k l.retained in
    let len = length-take 16 (drop k l.retained) in
    grind (arith, rest, len, f.reaches, is.0, is.1)

sends_commands : (node : NodeValue) (other first : ℕ) (out : OutboxValue) → MayServe node.learner
    → IsRetained node.learner first
    → SaysAlone node (to_node node other) (kinds.Decided (decided_from first node.learner)) out
    → SendsCommands node other first out
sends_commands node other first out f is says =
    record {
      kept = is;
      many = how_many first node.learner f is;
      told =
          said_alone node (kinds.Decided (decided_from first node.learner)) other out says;
    }

-- a text that is not empty has a byte at its start
pub start_below : (offset : ℕ) (text : List ℕ) → 1 ≤ length text → start_of offset text < length text
start_below offset text some = grind (arith)

some_parts : (position start : ℕ) (text : List ℕ) (parts : List PartValue) → AreParts position text start parts
    → start < length text → 1 ≤ length parts
some_parts position start text [] are below =
    elim are.all [ inl eight ↦ absurd (cc eight) | inr all ↦ omega (arith, all, below) ]
some_parts position start text (p ∷ parts) are below = omega arith

sends_snapshot : (node : NodeValue) (other first offset : ℕ) (out : OutboxValue) → MayServe node.learner
    → first ≤ node.learner.snapshot_position → FeedsParts node other offset out
    → SendsSnapshot node other first offset out
sends_snapshot node other first offset out f is feeds = record {
  replaced = is;
  parts = feeds.parts;
  are = feeds.are;
  some = some_parts _ _ _ feeds.parts feeds.are (start_below offset node.learner.snapshot f.some);
  told = λ p c. subst (λ (o : OutboxValue). Contains o.envelopes (envelope_to node (kinds.Part p) other))
      (sym feeds.comes_to)
      (Contains-append_right nothing.envelopes _ _
      (map_has (λ (q : PartValue). envelope_to node (kinds.Part q) other) feeds.parts p c));
}

feeds_sends : (node : NodeValue) (other first offset : ℕ) (out : OutboxValue) → MayServe node.learner
    → first ≤ executed node.learner → Feeds node other first offset out → Sends node other first offset out
feeds_sends node other first offset out f there (inl k) = inl (sends_commands node other first out f k.0 k.1)
feeds_sends node other first offset out f there (inr (inl k)) =
    inr (sends_snapshot node other first offset out f k.0 k.1)
feeds_sends node other first offset out f there (inr (inr k)) = absurd (omega (arith, there, k.0))

-- more envelopes take none back
sends_still : (node : NodeValue) (other first offset : ℕ) (before out : OutboxValue)
    → ((l : EnvelopeValue) → Contains before.envelopes l → Contains out.envelopes l) → Sends node other first
    offset before
    → Sends node other first offset out
sends_still node other first offset before out more (inl k) =
    inl (record { kept = k.kept; many = k.many; told = more _ k.told })
sends_still node other first offset before out more (inr k) =
    inr (record {
      replaced = k.replaced;
      parts = k.parts;
      are = k.are;
      some = k.some;
      told = λ p c. more _ (k.told p c);
    })

pub asks_on : (node : NodeValue) (other : ℕ) (out : OutboxValue) → executed node.learner < 281474976710656
    → AsksOn node other out → Asks node other out
asks_on node other out less (inl k) = said_alone node (kinds.Want (wanted node.learner)) other out k.1
asks_on node other out less (inr k) = absurd (omega (arith, less, k.0))

-- ---- each message

pub want_answered : (m : Meaning) (IsText : List ℕ → Type 0) → WantIsAnswered m IsText
want_answered m IsText old new from want out f takes there =
    let k : Handled m IsText old (content.Node from (kinds.Want want)) new out = handled m IsText old _ new out takes in
    sends_still old from want.first want.offset k.first out (still_told m IsText old _ new out k)
    (feeds_sends old from want.first want.offset k.first f there k.handles.1)

pub nack_fed : (m : Meaning) (IsText : List ℕ → Type 0) → LaggingNodeIsFed m IsText
nack_fed m IsText old new from nack out f takes less =
    let k : Handled m IsText old (content.Node from (kinds.Nack nack)) new out = handled m IsText old _ new out takes in
    sends_still old from (nack.executed + 1) 0 k.first out (still_told m IsText old _ new out k)
    (closes k.first k.handles.1)
  where
    closes : (first : OutboxValue) → ClosesGap old from nack.executed first → Sends old from (nack.executed + 1) 0 first
    closes first (inl more) = absurd (omega (arith, more.0, less))
    closes first (inr (inl feeds)) = feeds_sends old from (nack.executed + 1) 0 first f (omega (arith, less)) feeds.1
    closes first (inr (inr same)) = absurd (omega (arith, same.0, less))

pub nack_asks : (m : Meaning) (IsText : List ℕ → Type 0) → LaggingNodeAsks m IsText
nack_asks m IsText old new from nack out takes less =
    let k : Handled m IsText old (content.Node from (kinds.Nack nack)) new out = handled m IsText old _ new out takes in
    still_told m IsText old _ new out k _ (closes k.first k.handles.1)
  where
    closes : (first : OutboxValue) → ClosesGap old from nack.executed first → Asks old from first
    closes first (inl more) = asks_on old from first (omega (arith, less, takes.spells.0.1.1.2)) more.1
    closes first (inr (inl feeds)) = absurd (omega (arith, feeds.0, less))
    closes first (inr (inr same)) = absurd (omega (arith, same.0, less))

pub lead_asks : (m : Meaning) (IsText : List ℕ → Type 0) → FollowerAsks m IsText
lead_asks m IsText old new from b theirs out takes follows less =
    let k : Handled m IsText old (content.Node from (kinds.Lead b theirs)) new out =
    handled m IsText old _ new out takes in
    still_told m IsText old _ new out k _ (hears k.mid k.first k.handles)
  where
    more : (first : OutboxValue) → AsksWhereMore old from theirs first → Asks old from first
    more first (inl asks) = asks_on old from first (omega (arith, less, takes.spells.0.1.1.1)) asks.1
    more first (inr none) = absurd (omega (arith, none.0, less))

    hears : (mid : NodeValue) (first : OutboxValue) → HandlesLead old from b theirs mid first → Asks old from first
    hears mid first (inl refused) = absurd (cc (refused.0, follows))
    hears mid first (inr followed) = more first followed.2
