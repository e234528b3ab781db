-- What a trace tells of a leader that takes replies: how far it has executed since.
use Rattle.std.proofs.Common.{◌≡◌, ◌∙◌, inl, inr, ℕ, ◌-◌, ◌≤◌, ◌++◌, List, [], ◌∷◌, length, drop, take, refl, ap, sym}
use Rattle.std.proofs.Common.{subst, append_assoc, append-nil, arith}
use Rattle.std.specs.Prelude.{⊤}
use Rattle.std.proofs.lemmas.Bool.{cases_Bool}
use Rattle.std.proofs.lemmas.List.{take_all, length-drop}
use Rattle.lk_disk.specs.declared.trap.Trap.{Trap}
use Rattle.lk_disk.specs.declared.trap.Trap.TheVariants.{Off, Fail, Arm}
use Rattle.lk_types.specs.declared.vote.Vote.{Vote}
use Rattle.lk_store_format.specs.Values.{HeaderValue}
use Rattle.lk_messages.specs.Grammar.{Spells}
use Rattle.lk_messages.specs.declared.message.Content.{Content}
use Rattle.lk_messages.specs.declared.message.Content.TheVariants as content
use Rattle.lk_messages.specs.declared.message.NodeMessage.{NodeMessage}
use Rattle.lk_messages.specs.declared.message.NodeMessage.TheVariants as kinds
use Rattle.lk_agreement_laws.specs.Datagrams.{Datagram}
use Rattle.lk_agreement_laws.specs.declared.party.Party.TheVariants as party
use Rattle.lk_state.specs.Meanings.{Meaning}
use Rattle.lk_learner.specs.Learners.{alpha, executed}
use Rattle.lk_node_interface.specs.Envelopes.{EnvelopeValue}
use Rattle.lk_node_interface.specs.declared.input.Input.{Input}
use Rattle.lk_node_interface.specs.declared.input.Input.TheVariants.{Datagram as Heard}
use Rattle.lk_node_interface.specs.declared.note.Note.{Note}
use Rattle.lk_node.specs.Leavings.{header_of}
use Rattle.lk_node.specs.NodeValue.{NodeValue}
use Rattle.lk_progress.specs.Deciding.{acceptances}
use Rattle.lk_replica.specs.ReplicaValue.{ReplicaValue, device_of}
use Rattle.lk_replica.specs.Taking.{IsTaken, IsTakenAs}
use Rattle.lk_sim.specs.Events.{GoesOn, IsGiven}
use Rattle.lk_sim.specs.WorldStates.{WorldState}
use Rattle.lk_sim_nodes.specs.Sends.{after_sends, counting}
use Rattle.lk_sim_nodes.specs.Told.{NotesReplies, told_by, told_by_node}
use Rattle.lk_sim_nodes.specs.declared.sim_node.RunState.TheVariants.{Up}
use Rattle.lk_world_progress.proofs.Balloting.{found_has}
use Rattle.lk_world_progress.proofs.Delivering.{TakesFrom, heard_from}
use Rattle.lk_world_progress.proofs.Stepping.{found_header, has_header, is_there, one_replica, shown, was_there}
use Rattle.lk_world_progress.specs.Delivering.{Hears, HearsInTurn}
use Rattle.lk_world_progress.specs.Stepping.{Holds, IsFound, IsUpAs, behaviour}
use Rattle.lk_healing.proofs.Places.{same_some}
use Rattle.lk_healing.proofs.Runs.{acceptance_runs, last_ran_both}
use Rattle.lk_healing.specs.Fills.{last_ran}

-- ---- what was told besides

node_runs : (n e k : ℕ) (x : NodeMessage) → last_ran n e (told_by_node k x) ≡ e
node_runs n e k (kinds.Prepare b first) = refl
node_runs n e k (kinds.Promise p) = refl
node_runs n e k (kinds.Accept x) = refl
node_runs n e k (kinds.Accepted x) = refl
node_runs n e k (kinds.Nack j) = refl
node_runs n e k (kinds.Decided d) = refl
node_runs n e k (kinds.Want w) = refl
node_runs n e k (kinds.Part p) = refl
node_runs n e k (kinds.Answer a) = refl
node_runs n e k (kinds.Elsewhere a) = refl
node_runs n e k (kinds.Passed p) = refl
node_runs n e k (kinds.Lead b i) = refl

content_runs : (n e : ℕ) (x : Content) → last_ran n e (told_by x) ≡ e
content_runs n e (content.Request r) = refl
content_runs n e (content.Node k x) = node_runs n e k x

replies_run : (n e : ℕ) (ds : List Datagram) (notes : List Note) → NotesReplies ds notes → last_ran n e notes ≡ e
replies_run n e [] notes none = ap (last_ran n e) none
replies_run n e (d ∷ ds) notes k =
    ap (last_ran n e) k.3 ∙ last_ran_both n e (told_by k.0.content) k.1
    ∙ ap (λ (i : ℕ). last_ran n i k.1) (content_runs n e k.0.content) ∙ replies_run n e ds k.1 k.4

-- ---- one reply

counted : (m : Meaning) (IsText : List ℕ → Type 0) (t : Trap) (sends : ℕ) (r : ReplicaValue)
    → (counting (behaviour m IsText) t sends r).node ≡ r.node
counted m IsText Off sends r = refl
counted m IsText (Fail count) sends r = refl
counted m IsText (Arm count bytes) sends r = refl

same_node : (n k : ℕ) → party.Node n ≡ party.Node k → n ≡ k
same_node n k e = cc e

-- since the first world, as many notes were added, and they tell how far the node has executed
pub record HasNotes (n : ℕ) (old : WorldState ReplicaValue) (r : ReplicaValue) (new : WorldState ReplicaValue)
    (q : ReplicaValue) : Type 0 where
  pub more : List Note
  pub trace : new.trace ≡ old.trace ++ more
  pub tells : executed q.node.learner ≡ last_ran n (executed r.node.learner) more

module _ (m : Meaning) (IsText : List ℕ → Type 0) (x from : ℕ) (v : Vote) (old new : WorldState ReplicaValue)
    (h : Hears m IsText x (content.Node from (kinds.Accepted v)) old new) (r : ReplicaValue)
    (up : IsUpAs old x r) where
  abbrev bytes : List ℕ
  bytes = h.datagram.bytes

  given : IsGiven (behaviour m IsText) old new x (Heard h.datagram.bytes) []
  given =
      let d = h.goes.done.1 in
      let one : d.datagram ≡ h.datagram = same_some d.datagram h.datagram (sym d.stands ∙ h.stands) in
      let whose : d.node ≡ x = same_node d.node x
      (sym d.bound ∙ ap (λ (y : Datagram). y.to) one ∙ h.bound) in
      subst (λ (j : ℕ). IsGiven (behaviour m IsText) old new j (Heard h.datagram.bytes) []) whose
      (subst (λ (i : Input). IsGiven (behaviour m IsText) old new d.node i [])
      (ap (λ (y : Datagram). Heard y.bytes) one) d.given)

  module _ (g : GoesOn (behaviour m IsText) old new given.replica given.next (Heard h.datagram.bytes) []) where
    is_taken : IsTakenAs m IsText given.replica (Heard h.datagram.bytes) g.replica g.notes g.batch
    is_taken = g.takes

    taken : IsTaken m IsText ⊤ given.replica (Heard h.datagram.bytes) g.replica g.notes
        (λ (ls : List EnvelopeValue). ls ≡ is_taken.envelopes)
    taken = is_taken.taken

    was : IsUpAs old x given.replica
    was = was_there old new x given.sim_node given.next given.number given.replaces (Up given.replica) given.up

    same : given.replica ≡ r
    same = one_replica m IsText old h.goes.before x given.replica r was up

    found : IsFound given.replica taken.mid
    found = record {
      due = λ d. (taken.rebases.due d).becomes;
      rests = λ d. (taken.rebases.rests d).0;
    }

    header : taken.mid.header ≡ header_of old.genesis x
    header = found_header given.replica taken.mid found ∙ has_header m IsText old h.goes.before x given.replica was

    some : 1 ≤ alpha taken.mid.learner
    some =
        let told = (shown m IsText old h.goes.before x given.replica was).1.told.tells in
        found_has given.replica taken.mid found (λ node. 1 ≤ alpha node.learner) (λ q. q)
        (omega (arith, told.some, told.window))

    stepped : executed taken.stepped.learner ≡ last_ran x (executed r.node.learner) taken.out.notes
    stepped = acceptance_runs m IsText from v taken.mid taken.stepped taken.out (record {
      bytes = h.datagram.bytes;
      spells = subst (λ (c : ℕ). Spells (record { cluster = c; content = content.Node from (kinds.Accepted v) })
          h.datagram.bytes) (sym (ap (λ (w : HeaderValue). w.cluster) header)) h.spelled;
      step = taken.steps;
    }) some ∙ (λ i. last_ran (ap (λ (w : HeaderValue). w.node) header i) (began i) taken.out.notes)
      where
        began : executed taken.mid.learner ≡ executed r.node.learner
        began = found_has given.replica taken.mid found
            (λ node. executed node.learner ≡ executed given.replica.node.learner) (λ q. q) refl
            ∙ ap (λ (q : ReplicaValue). executed q.node.learner) same

    written : executed g.replica.node.learner ≡ executed taken.stepped.learner
    written = elim (cases_Bool taken.out.rebase) [
      | inl e ↦ ap (λ (node : NodeValue). executed node.learner) (taken.writes.rebases e).becomes
      | inr e ↦ ap (λ (node : NodeValue). executed node.learner) (taken.writes.puts e).0
    ]

    abbrev after : ReplicaValue
    after = after_sends (behaviour m IsText) (length g.batch) g.replica

    after_is : executed after.node.learner ≡ executed g.replica.node.learner
    after_is = ap (λ (node : NodeValue). executed node.learner)
        (counted m IsText (device_of g.replica.store).meter.trap (length g.batch) g.replica)

    goes_noting : (q : ReplicaValue) → IsUpAs new x q → HasNotes x old r new q
    goes_noting q there = record {
      more = g.notes ++ g.told;
      trace = g.adds.trace;
      tells = ap (λ (y : ReplicaValue). executed y.node.learner) (one_replica m IsText new h.goes.after x q after there
          (is_there old new x given.sim_node given.next given.number given.replaces (Up after) g.up))
          ∙ after_is ∙ written ∙ stepped ∙ ap (last_ran x (executed r.node.learner)) (sym taken.noted)
          ∙ sym (last_ran_both x (executed r.node.learner) g.notes g.told
          ∙ replies_run x (last_ran x (executed r.node.learner) g.notes) g.batch g.told g.tells);
    }

  pub one_noted : (q : ReplicaValue) → IsUpAs new x q → HasNotes x old r new q
  one_noted q there = elim given.comes_to [
    | inl g ↦ goes_noting g q there
    | inr (inl g) ↦ absurd (cc (sym h.goes.alive ∙ g.ended))
    | inr (inr g) ↦ absurd (cc (sym h.goes.alive ∙ g.ended))
  ]

-- ---- one after another

module _ (m : Meaning) (IsText : List ℕ → Type 0) (x : ℕ) (v : Vote) where
  pub turn_noted : (ns : List ℕ) (old new : WorldState ReplicaValue) → Holds m IsText old
      → HearsInTurn m IsText x (acceptances ns v) old new → (r : ReplicaValue) → IsUpAs old x r → (q : ReplicaValue)
      → IsUpAs new x q → HasNotes x old r new q
  turn_noted [] old new holds same r up q there = record {
    more = [];
    trace = ap (λ (w : WorldState ReplicaValue). w.trace) same ∙ sym (append-nil old.trace);
    tells = ap (λ (y : ReplicaValue). executed y.node.learner) (one_replica m IsText old holds x q r
        (subst (λ (w : WorldState ReplicaValue). IsUpAs w x q) same there) up);
  }
  turn_noted (n ∷ ns) old new holds turn r up q there =
      let s : TakesFrom m IsText x (content.Node n (kinds.Accepted v)) old turn.0 =
      heard_from m IsText x (content.Node n (kinds.Accepted v)) old turn.0 turn.1 in
      let one : HasNotes x old r turn.0 s.after =
      one_noted m IsText x n v old turn.0 turn.1 r up s.after s.is in
      let rest : HasNotes x turn.0 s.after new q =
      turn_noted ns turn.0 new turn.1.goes.after turn.2 s.after s.is q there in
      record {
        more = one.more ++ rest.more;
        trace = rest.trace ∙ ap (λ (l : List Note). l ++ rest.more) one.trace
            ∙ append_assoc old.trace one.more rest.more;
        tells = rest.tells ∙ ap (λ (i : ℕ). last_ran x i rest.more) one.tells
            ∙ sym (last_ran_both x (executed r.node.learner) one.more rest.more);
      }

-- what stands behind the notes of before
pub drop_front : (xs ys zs : List Note) → zs ≡ xs ++ ys → drop (length xs) zs ≡ ys
drop_front xs ys zs e = ap (drop (length xs)) e ∙ behind xs
  where
    behind : (ws : List Note) → drop (length ws) (ws ++ ys) ≡ ys
    behind [] = refl
    behind (w ∷ ws) = behind ws

-- as the code takes it
rest_behind : (k : ℕ) (zs : List Note) → take (length zs - k) (drop k zs) ≡ drop k zs
rest_behind k zs = take_all (length zs - k) (drop k zs) (omega (arith, length-drop k zs))

pub ran_is : (x result before next : ℕ) (first second old new : List Note) → first ≡ old → second ≡ new
    → before ≡ next
    → result ≡ last_ran x (before - 1) (take (length second - length first) (drop (length first) second))
    → result ≡ last_ran x (next - 1) (drop (length old) new)
ran_is x result before next first second old new a b p e =
    e ∙ ap (last_ran x (before - 1)) (rest_behind (length first) second)
    ∙ (λ i. last_ran x (p i - 1) (drop (length (a i)) (b i)))
