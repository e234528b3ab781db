-- What a datagram tells a client is noted, and so it is explained.
use Rattle.std.proofs.Common.{◌≡◌, Bool, false, filter, List, [], ◌∷◌, Contains, refl, sym, subst, inl, inr, arith}
use Rattle.std.proofs.lemmas.Bool.{cases_Bool}
use Rattle.lk_types.specs.declared.command.Command.{Command}
use Rattle.lk_types.specs.declared.genesis.Genesis.{Genesis}
use Rattle.lk_messages.specs.Grammar.{Spells}
use Rattle.lk_messages.specs.declared.message.Content.{Content}
use Rattle.lk_messages.specs.declared.message.Content.TheVariants as content
use Rattle.lk_messages.specs.declared.message.Message.{Message}
use Rattle.lk_messages.specs.declared.message.NodeMessage.TheVariants as message
use Rattle.lk_messages.proofs.Spellings.{one_message}
use Rattle.lk_agreement_laws.specs.Datagrams.{Datagram}
use Rattle.lk_agreement_laws.proofs.Histories.{cons_cases, contains_more}
use Rattle.lk_node_interface.specs.declared.note.Note.{Note}
use Rattle.lk_node_interface.specs.declared.note.Note.TheVariants as note
use Rattle.lk_sim_nodes.specs.Told.{told_by}
use Rattle.lk_guarantees.specs.Guarantee.{is_reply, AreReplies, nothing_more, an_answer, a_pass, no_reply, is_told}
use Rattle.lk_guarantees.specs.Guarantee.{AreTold}
use Rattle.lk_guarantees.specs.Guarantee.{Explains}
use Rattle.lk_guarantees.specs.Replies.{ExplainsReplies}

told_none : (x : Content) → is_reply x ≡ false → told_by x ≡ []
told_none (content.Request r) e = refl
told_none (content.Node n (message.Prepare b first)) e = refl
told_none (content.Node n (message.Promise p)) e = refl
told_none (content.Node n (message.Accept v)) e = refl
told_none (content.Node n (message.Accepted v)) e = refl
told_none (content.Node n (message.Nack x)) e = refl
told_none (content.Node n (message.Decided d)) e = refl
told_none (content.Node n (message.Want w)) e = refl
told_none (content.Node n (message.Part p)) e = refl
told_none (content.Node n (message.Answer a)) e = absurd (cc e)
told_none (content.Node n (message.Elsewhere x)) e = refl
told_none (content.Node n (message.Passed p)) e = absurd (cc e)
told_none (content.Node n (message.Lead b executed)) e = refl

-- what a datagram tells is told by each message that it spells
same_told : (m k : Message) (d x : Datagram) (y : Note) → Spells k d.bytes → Spells m x.bytes → d ≡ x
    → Contains (told_by m.content) y → Contains (told_by k.content) y
same_told m k d x y spelled said same c =
    let one : k ≡ m = one_message k m x.bytes (subst (λ (z : Datagram). Spells k z.bytes) same spelled) said in
    subst (λ (z : Message). Contains (told_by z.content) y) (sym one) c

first_of : (y z : Note) (notes : List Note) → Contains (z ∷ []) y → Contains (z ∷ notes) y
first_of y z notes c =
    elim (cons_cases z [] y c) [ inl e ↦ (0, omega arith, e) | inr none ↦ absurd (omega (arith, none.1)) ]

-- it stands among the notes
noted : (ds : List Datagram) (notes : List Note) → AreReplies ds notes → (x : Datagram) → Contains ds x → (m : Message)
    → Spells m x.bytes → (y : Note) → Contains (told_by m.content) y → Contains notes y
noted all notes nothing_more x c m said y t = absurd (omega (arith, c.1))
noted all notes (an_answer {datagrams = ds} {notes = rest} d cluster node a spelled later) x c m said y t =
    elim (cons_cases d ds x c) [
      | inl here ↦ first_of y (note.Answered node a.client a.number a.answer) rest
          (same_told m (record { cluster = cluster; content = content.Node node (message.Answer a) })
          d x y spelled said here t)
      | inr more ↦
          contains_more (note.Answered node a.client a.number a.answer) rest y (noted ds rest later x more m said y t)
    ]
noted all notes (a_pass {datagrams = ds} {notes = rest} d cluster node p spelled later) x c m said y t =
    elim (cons_cases d ds x c) [
      | inl here ↦ first_of y (note.Told node p.client p.number p.last) rest
          (same_told m (record { cluster = cluster; content = content.Node node (message.Passed p) })
          d x y spelled said here t)
      | inr more ↦
          contains_more (note.Told node p.client p.number p.last) rest y (noted ds rest later x more m said y t)
    ]
noted all notes (no_reply {datagrams = ds} {notes = rest} d k spelled none later) x c m said y t =
    elim (cons_cases d ds x c) [
      | inl here ↦ (let empty =
          subst (λ (l : List Note). Contains l y) (told_none k.content none)
          (same_told m k d x y spelled said here t) in absurd (omega (arith, empty.1)))
      | inr more ↦ noted ds rest later x more m said y t
    ]

filtered : (p : Note → Bool) (xs : List Note) (y : Note) → Contains (filter p xs) y → Contains xs y
filtered p [] y c = c
filtered p (x ∷ xs) y c = elim (cases_Bool (p x)) [
  | inl kept ↦ elim (cons_cases x (filter p xs) y (rw kept at c)) [
    | inl e ↦ (0, omega arith, e)
    | inr later ↦ contains_more x xs y (filtered p xs y later)
  ]
  | inr left ↦ contains_more x xs y (filtered p xs y (rw left at c))
]

pub replies_explained : (genesis : Genesis) (sent : List Datagram) (trace : List Note) (L : List Command)
    → AreTold sent trace → Explains genesis sent trace L → ExplainsReplies genesis sent L
replies_explained genesis sent trace L told x = record {
  answers = λ node a s. x.answered node a.client a.number a.answer
      (filtered is_told trace (note.Answered node a.client a.number a.answer)
      (noted sent (filter is_told trace) told s.datagram s.is_sent
      (record { cluster = genesis.cluster; content = content.Node node (message.Answer a) }) s.in_words
      (note.Answered node a.client a.number a.answer) (0, omega arith, refl)));
  passes = λ node p s. (x.told node p.client p.number p.last
      (filtered is_told trace (note.Told node p.client p.number p.last)
      (noted sent (filter is_told trace) told s.datagram s.is_sent
      (record { cluster = genesis.cluster; content = content.Node node (message.Passed p) }) s.in_words
      (note.Told node p.client p.number p.last) (0, omega arith, refl)))).1;
}
