-- Answers and passes, by the datagrams and by the trace.
use Rattle.std.proofs.Common.{◌≡◌, ℕ, List, [], ◌∷◌, ◌++◌, Contains, refl, ap, sym, ◌∙◌, subst, inl, inr, arith}
use Rattle.std.proofs.Common.{append_assoc}
use Rattle.std.proofs.lemmas.List.Elements.{Contains-append_cases}
use Rattle.lk_messages.specs.Grammar.{Spells}
use Rattle.lk_messages.specs.declared.message.Content.{Content}
use Rattle.lk_messages.specs.declared.message.Content.TheVariants as content
use Rattle.lk_messages.specs.declared.message.Message.{Message}
use Rattle.lk_messages.specs.declared.message.NodeMessage.{NodeMessage}
use Rattle.lk_messages.specs.declared.message.NodeMessage.TheVariants as kinds
use Rattle.lk_state.specs.Meanings.{Meaning}
use Rattle.lk_agreement_laws.specs.Datagrams.{said_by}
use Rattle.lk_agreement_laws.proofs.Histories.{only, contains_more}
use Rattle.lk_node_interface.specs.declared.note.Note.{Note}
use Rattle.lk_node_interface.specs.declared.note.Note.TheVariants as note
use Rattle.lk_node.specs.Histories.{History, Datagram, Command}
use Rattle.lk_node.specs.BorneOut.{IsOfNode, BearsOut, BearsOutMessage}
use Rattle.lk_sim_nodes.specs.Told.{told_by_node, told_by, NotesReplies}
use Rattle.lk_sim.specs.Traces.{told_of, told_in}

pub told_in-append : (xs ys : List Note) → told_in (xs ++ ys) ≡ told_in xs ++ told_in ys
told_in-append [] ys = refl
told_in-append (x ∷ xs) ys =
    ap (λ l. told_of x ++ l) (told_in-append xs ys) ∙ sym (append_assoc (told_of x) (told_in xs) (told_in ys))

none_told : (x : Note) → IsOfNode x → told_of x ≡ []
none_told (note.Asked r) f = absurd f
none_told (note.Counted node i set v) f = refl
none_told (note.Ran node i v) f = refl
none_told (note.Answered node client number answer) f = absurd f
none_told (note.Told node client number last) f = absurd f

pub told_in-of_node : (xs : List Note) → ((x : Note) → Contains xs x → IsOfNode x) → told_in xs ≡ []
told_in-of_node [] f = refl
told_in-of_node (x ∷ xs) f =
    ap (λ l. l ++ told_in xs) (none_told x (f x (0, omega arith, refl)))
    ∙ told_in-of_node xs (λ y c. f y (contains_more x xs y c))

all_told : (c : Content) → told_in (told_by c) ≡ told_by c
all_told (content.Request r) = refl
all_told (content.Node n (kinds.Answer a)) = refl
all_told (content.Node n (kinds.Passed p)) = refl
all_told (content.Node n (kinds.Prepare b first)) = refl
all_told (content.Node n (kinds.Promise p)) = refl
all_told (content.Node n (kinds.Accept v)) = refl
all_told (content.Node n (kinds.Accepted v)) = refl
all_told (content.Node n (kinds.Nack k)) = refl
all_told (content.Node n (kinds.Decided d)) = refl
all_told (content.Node n (kinds.Want k)) = refl
all_told (content.Node n (kinds.Part p)) = refl
all_told (content.Node n (kinds.Elsewhere e)) = refl
all_told (content.Node n (kinds.Lead b e)) = refl

pub told_in-tells : (ds : List Datagram) (xs : List Note) → NotesReplies ds xs → told_in xs ≡ xs
told_in-tells [] xs t = ap told_in t ∙ sym t
told_in-tells (d ∷ ds) xs t =
    ap told_in t.3 ∙ told_in-append (told_by t.0.content) t.1 ∙ ap (λ l. l ++ told_in t.1) (all_told t.0.content)
    ∙ ap (λ l. told_by t.0.content ++ l) (told_in-tells ds t.1 t.4) ∙ sym t.3

-- the datagram of a note
pub told_from : (ds : List Datagram) (xs : List Note) → NotesReplies ds xs → (x : Note) → Contains xs x
    → (d : Datagram) × (m : Message) × Contains ds d × Spells m d.bytes × Contains (told_by m.content) x
told_from [] xs t x c = absurd (omega (arith, (subst (λ l. Contains l x) t c).1))
told_from (d ∷ ds) xs t x c =
    elim (Contains-append_cases (told_by t.0.content) t.1 x (subst (λ l. Contains l x) t.3 c)) [
      | inl here ↦ (d, t.0, (0, omega arith, refl), t.2, here)
      | inr rest ↦ (let a = told_from ds t.1 t.4 x rest in (a.0, a.1, contains_more d ds a.0 a.2, a.3, a.4))
    ]

-- a list that bears out a message of this cluster bears out its note
pub bears_told : (m : Meaning) (h : History) (L : List Command) (n : ℕ) (y : NodeMessage) (bytes : List ℕ)
    → Spells (said_by h.genesis n y) bytes → BearsOutMessage m h L y
    → (x : Note) → Contains (told_by_node n y) x → BearsOut m h L x
bears_told m h L n (kinds.Answer a) bytes s b x c = subst (λ z. BearsOut m h L z) (only _ x c) b
bears_told m h L n (kinds.Passed p) bytes s b x c =
    subst (λ z. BearsOut m h L z) (only (note.Told n p.client p.number p.last) x c) (s.0.1.1.3, b)
bears_told m h L n (kinds.Prepare k first) bytes s b x c = absurd (omega (arith, c.1))
bears_told m h L n (kinds.Promise p) bytes s b x c = absurd (omega (arith, c.1))
bears_told m h L n (kinds.Accept v) bytes s b x c = absurd (omega (arith, c.1))
bears_told m h L n (kinds.Accepted v) bytes s b x c = absurd (omega (arith, c.1))
bears_told m h L n (kinds.Nack k) bytes s b x c = absurd (omega (arith, c.1))
bears_told m h L n (kinds.Decided d) bytes s b x c = absurd (omega (arith, c.1))
bears_told m h L n (kinds.Want k) bytes s b x c = absurd (omega (arith, c.1))
bears_told m h L n (kinds.Part p) bytes s b x c = absurd (omega (arith, c.1))
bears_told m h L n (kinds.Elsewhere e) bytes s b x c = absurd (omega (arith, c.1))
bears_told m h L n (kinds.Lead k e) bytes s b x c = absurd (omega (arith, c.1))
