-- What a node learns and executes goes on: it rests on what was chosen, and the node knows it.
use Rattle.std.proofs.Common.{get_or, ◌≡◌, ℕ, ◌+◌, ◌-◌, ◌<◌, ◌≤◌, inl, inr, Bool, true, false, ◌||◌, ◌&&◌, nat_le}
use Rattle.std.proofs.Common.{length, List, [], ◌∷◌, ◌++◌, Some, Contains, drop, refl, sym, ◌∙◌, ap, subst, subst₂}
use Rattle.std.proofs.Common.{arith}
use Rattle.std.specs.Prelude.{slice_get, Option, None, IfSome}
use Rattle.std.specs.List.{AllByRecursion}
use Rattle.std.proofs.Math.Numerals.{suc-eq-add-one}
use Rattle.std.proofs.Math.Seq.{drop-cons}
use Rattle.std.proofs.lemmas.List.{length-drop}
use Rattle.std.proofs.lemmas.Bool.{and_parts, leb-true}
use Rattle.std.proofs.lemmas.Option.{slice_get-get_or}
use Rattle.std.proofs.lemmas.List.Elements.{Contains-append_left}
use Rattle.lk_types.specs.declared.command.Command.{Command}
use Rattle.lk_types.specs.declared.entry.Entry.{Entry}
use Rattle.lk_types.specs.declared.entry.Entry.TheVariants as entry
use Rattle.lk_messages.specs.Values.{DecidedValue, IsDecided}
use Rattle.lk_messages.specs.declared.message.NodeMessage.TheVariants as kinds
use Rattle.lk_state.specs.Meanings.{Meaning}
use Rattle.lk_agreement_laws.specs.Acceptors.{AcceptorState}
use Rattle.lk_agreement_laws.specs.Changes.{with_done}
use Rattle.lk_agreement_laws.specs.Chosen.{ChosenAt}
use Rattle.lk_agreement_laws.specs.Datagrams.{HasSent}
use Rattle.lk_agreement_laws.specs.Nodes.{Pair, PaxosState}
use Rattle.lk_agreement_laws.proofs.Histories.{change_fits}
use Rattle.lk_acceptor.specs.States.{acceptor_with}
use Rattle.lk_learner.specs.Learners.{IsWanted, keeping}
use Rattle.lk_learner.proofs.Learnerships.{with_has, keeping_follows, learning_changes}
use Rattle.lk_node_interface.specs.Outboxes.{OutboxValue, with_entry}
use Rattle.lk_node.specs.Entries.{Rests}
use Rattle.lk_node.specs.Executing.{RunsAll}
use Rattle.lk_node.specs.Histories.{History}
use Rattle.lk_node.specs.DecidedPairs.{LearnsPair, LearnsFirst, LearnsPairs, one_more}
use Rattle.lk_node.specs.Keeping.{IsDecidedEntry, IsKnown}
use Rattle.lk_node.specs.Learning.{with_learner, Learns}
use Rattle.lk_node.specs.NodeValue.{NodeValue}
use Rattle.lk_node.specs.SafeSteps.{with_entries, IsSafeStep, ActsSafely}
use Rattle.lk_node.proofs.Changing.{change_goes_on}
use Rattle.lk_node.proofs.SafeSteps.{rests_here, then_goes_on, heard_goes_on}

-- ---- entries

all_push : (P : Entry → Type 0) (es : List Entry) (e : Entry) → AllByRecursion P es → P e
    → AllByRecursion P (es ++ e ∷ [])
all_push P [] e a p = (p, tt)
all_push P (x ∷ es) e a p = (a.0, all_push P es e a.1 p)

pushed : (es : List Entry) (e : Entry) (s : AcceptorState)
    → with_entries (es ++ e ∷ []) s ≡ acceptor_with e (with_entries es s)
pushed [] e s = refl
pushed (x ∷ es) e s = pushed es e (acceptor_with x s)

unsynced_before : (sync : Bool) → (sync || false) ≡ false → sync ≡ false
unsynced_before false e = refl
unsynced_before true e = absurd (cc e)

-- an entry of a decided command that is chosen, and that the learner keeps
pub writes_decided : (m : Meaning) (Heard : History → Type 0) (node : NodeValue) (out : OutboxValue) (i : ℕ)
    (v : Command) → Contains node.learner.pairs (i, v)
    → ((h : History) (n : ℕ) (loose : List Entry) → IsSafeStep m h n loose node out → Heard h
    → ChosenAt h.genesis h.sent i v)
    → ActsSafely m Heard node node out (with_entry (entry.Decided i v) out)
writes_decided m Heard node out i v kept chosen = record {
  binds = λ first b. record {
    header = b.header;
    written = b.written ∙ sym (pushed out.entries (entry.Decided i v) first.acceptor.state);
    unsynced = λ e. all_push IsDecidedEntry out.entries (entry.Decided i v) (b.unsynced
        (unsynced_before out.sync e)) tt;
    still = b.still;
    tells = b.tells;
  };
  continues = λ h n loose s heard. record {
    lawful = s.lawful;
    whose = s.whose;
    holding = s.holding;
    held = s.held;
    fits = s.fits;
    rests = all_push (Rests h) out.entries (entry.Decided i v) s.rests (chosen h n loose s heard);
    known = s.known;
    known_unsynced = λ e. all_push (IsKnown s.holding.paxos) out.entries (entry.Decided i v) (s.known_unsynced
        (unsynced_before out.sync e))
        (inl (s.held.follows.known (i, v) kept));
    may = s.may;
    noted = s.noted;
  };
}

-- ---- a pair is kept

knows_more : (w : PaxosState) (p : Pair) (e : Entry) → IsKnown w e → IsKnown (with_done w w.done (w.pairs ++ p ∷ [])) e
knows_more w p (entry.Promise b) k = k
knows_more w p (entry.Vote x) k = k
knows_more w p (entry.Decided i c) (inl pair) = inl (Contains-append_left w.pairs (p ∷ []) (i, c) pair)
knows_more w p (entry.Decided i c) (inr done) = inr done

keeps_goes_on : (m : Meaning) (Heard : History → Type 0) (node : NodeValue) (out : OutboxValue) (i : ℕ) (v : Command)
    → ((h : History) (n : ℕ) (loose : List Entry) → IsSafeStep m h n loose node out → Heard h
    → ChosenAt h.genesis h.sent i v)
    → ActsSafely m Heard node (with_learner node (keeping (i, v) node.learner)) out out
keeps_goes_on m Heard node out i v chosen =
    change_goes_on m Heard node (with_learner node (keeping (i, v) node.learner)) out refl refl (λ h n loose s heard.
    let w : PaxosState = s.holding.paxos in
    record {
      holding = record {
        paxos = with_done w w.done (w.pairs ++ (i, v) ∷ []);
        waiting = s.holding.waiting;
        gathered = s.holding.gathered;
      };
      held = record {
        acceptor = s.held.acceptor;
        follows = keeping_follows m h.genesis w.done w.pairs node.learner (i, v) s.held.follows;
        leads = s.held.leads;
        waiting = s.held.waiting;
        gathered = s.held.gathered;
      };
      fits = record {
        paxos = change_fits h.genesis h.sent s.lawful.sound n w (with_done w w.done (w.pairs ++ (i, v) ∷ []))
            s.fits.paxos
            (learning_changes h.genesis h.sent n w i v (chosen h n loose s heard));
        waiting = s.fits.waiting;
        proposals = s.fits.proposals;
        gathered = s.fits.gathered;
      };
      grows = record { acceptor = refl; term = λ t at. (t, at, refl, λ p c. c) };
      knows = knows_more w (i, v);
    })

-- a pair that is chosen, wherever the learner keeps it, is written
pub learns_goes_on : (m : Meaning) (i : ℕ) (v : Command) (old new : NodeValue) (before after : OutboxValue)
    → Learns (i, v) old before new after
    → ActsSafely m (λ h. ChosenAt h.genesis h.sent i v) old new before after
learns_goes_on m i v old new before after (inl wanted) =
    let kept : NodeValue = with_learner old (keeping (i, v) old.learner) in
    let Heard : History → Type 0 = λ (h : History). ChosenAt h.genesis h.sent i v in
    subst₂ (λ (node : NodeValue) (o : OutboxValue). ActsSafely m Heard old node before o) (sym wanted.1) (sym wanted.2)
    (then_goes_on m Heard old kept kept before before (with_entry (entry.Decided i v) before)
    (keeps_goes_on m Heard old before i v (λ h n loose s heard. heard))
    (writes_decided m Heard kept before i v (with_has (i, v) old.learner.pairs) (λ h n loose s heard. heard)))
learns_goes_on m i v old new before after (inr other) =
    let Heard : History → Type 0 = λ (h : History). ChosenAt h.genesis h.sent i v in
    subst₂ (λ (node : NodeValue) (o : OutboxValue). ActsSafely m Heard old node before o) (sym other.1) (sym other.2)
    (rests_here m Heard old before)

-- ---- and executed

-- a command is chosen at the position, by what was sent
abbrev pub Chooses : ℕ → Command → History → Type 0
Chooses i v h = ChosenAt h.genesis h.sent i v

-- it heard no more than what it needs
pub yet_to_accept : (m : Meaning) (Heard : History → Type 0) (old new : NodeValue) (before after : OutboxValue)
    → ActsSafely m (λ h. Unit {0}) old new before after → ActsSafely m Heard old new before after
yet_to_accept m Heard old new before after f =
    heard_goes_on m Heard (λ h. Unit {0}) old new before after (λ h n loose s heard. tt) f

pub pair_goes_on : (m : Meaning) (i : ℕ) (v : Command) (old mid new : NodeValue) (before between after : OutboxValue)
    → ActsSafely m (Chooses i v) old mid before between
    → ActsSafely m (λ h. Unit {0}) mid new between after → ActsSafely m (Chooses i v) old new before after
pair_goes_on m i v old mid new before between after f g =
    then_goes_on m (Chooses i v) old mid new before between after f (yet_to_accept m (Chooses i v) mid new
    between after g)

-- a command whose position is not wanted is stepped over, and what can be is executed: so it is taken
pub stepped_over : (m : Meaning) (position : ℕ) (commands : List Command) (left : Option (List Command))
    (old new : NodeValue) (before after : OutboxValue)
    → (IsWanted old.learner position → ⊥) → RunsAll m old before new after
    → ActsSafely m (λ h. Unit {0}) old new before after
    → IfSome left (λ others. (v : Command) × (commands ≡ v ∷ others))
    → IfSome left (λ others. LearnsFirst m position commands others old before new after)
stepped_over m position commands None old new before after other runs goes_on skips = tt
stepped_over m position commands (Some others) old new before after other runs goes_on skips =
    record {
      command = skips.0;
      stands = skips.1;
      learns = record { learned = old; written = before; learns = inr (other, refl, refl); runs = runs };
      goes_on = yet_to_accept m (Chooses position skips.0) old new before after goes_on;
    }

-- ---- pairs that are told

abbrev Told : ℕ → DecidedValue → History → Type 0
Told from d h = HasSent h.genesis h.sent from (kinds.Decided d)

pub told_goes_on : (m : Meaning) (from : ℕ) (d : DecidedValue) (k i : ℕ) (v : Command) (first old new : NodeValue)
    (begun before after : OutboxValue) → i ≡ d.first + k → slice_get d.commands k ≡ Some v
    → ActsSafely m (Told from d) first old begun before → ActsSafely m (Chooses i v) old new before after
    → ActsSafely m (Told from d) first new begun after
told_goes_on m from d k i v first old new begun before after is at f g =
    then_goes_on m (Told from d) first old new begun before after f
    (heard_goes_on m (Told from d) (Chooses i v) old new before after
    (λ h n loose s heard. subst (λ (j : ℕ). ChosenAt h.genesis h.sent j v) (sym is)
    (s.lawful.sound.told from d heard k v at)) g)

pub takes_more : (m : Meaning) (d : DecidedValue) (k i : ℕ) (v : Command) (first old new : NodeValue)
    (begun before after : OutboxValue) → i ≡ d.first + k → slice_get d.commands k ≡ Some v
    → LearnsPairs m d.first d.commands first begun k old before → LearnsPair m (i, v) old before new after
    → LearnsPairs m d.first d.commands first begun (k + 1) new after
takes_more m d k i v first old new begun before after is at so_far one =
    one_more v so_far at (subst (λ (j : ℕ). LearnsPair m (j, v) old before new after) is one)

-- each position is in its range
pub within_range : (d : DecidedValue) (k : ℕ) → IsDecided d → k < length d.commands → d.first + k ≤ 281474976710656
within_range d k fits less =
    let vs : List Command = d.commands in
    let some : Bool = nat_le 1 (length vs) in
    let few : Bool = nat_le (length vs) 16 in
    let near : Bool = nat_le (d.first + length vs) 281474976710657 in
    let last = leb-true (d.first + length vs) 281474976710657 (and_parts (some && few) near fits.2).1 in
    omega (arith, last, less)

-- the element that a loop reads
pub element : {X : Type 0} (vs ws : List X) (k : ℕ) (v : X) → vs ≡ ws → k < length vs → v ≡ get_or vs k v
    → slice_get ws k ≡ Some v
element vs ws k v same less is = ap (λ l. slice_get l k) (sym same) ∙ slice_get-get_or vs k v less ∙ ap Some (sym is)

-- the element that a walk comes to, and what it leaves
pub walked : {X : Type 0} (vs rest others : List X) (k : ℕ) (v : X) → rest ≡ drop k vs → k < length vs
    → rest ≡ v ∷ others → (slice_get vs k ≡ Some v) × (others ≡ drop (k + 1) vs)
walked vs rest others k v at_ less is =
    let both_ : v ∷ others ≡ get_or vs k v ∷ drop (k + 1) vs = sym is ∙ at_ ∙ drop-cons vs k v less
    ∙ ap (λ (n : ℕ). get_or vs k v ∷ drop n vs) (suc-eq-add-one k) in
    let one : get_or vs k v ≡ v = cc in
    (slice_get-get_or vs k v less ∙ ap Some one, cc)

-- a walk does not end before the last one
module _ {X : Type 0} where
  pub not_walked : (vs rest : List X) (k : ℕ) → rest ≡ drop k vs → k < length vs → rest ≡ [] → ⊥
  not_walked vs rest k at_ less is =
      let n : length (drop k vs) ≡ length vs - k = length-drop k vs in
      let none : length (drop k vs) ≡ 0 = ap (λ (l : List X). length l) (sym at_ ∙ is) in
      omega (arith, n, none, less)
