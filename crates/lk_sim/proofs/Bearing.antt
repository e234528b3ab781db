-- A longer list bears out as much, and one chosen list bears out all.
use Rattle.std.proofs.Common.{◌≡◌, ℕ, zero, suc, List, [], ◌∷◌, ◌++◌, length, take, drop, Some, slice_get, Contains}
use Rattle.std.proofs.Common.{refl, ap, sym, ◌∙◌, subst, inl, inr, arith, append_assoc, append-nil, length-append}
use Rattle.std.proofs.lemmas.List.{take-append-le}
use Rattle.lk_messages.specs.declared.message.NodeMessage.{NodeMessage}
use Rattle.lk_messages.specs.declared.message.NodeMessage.TheVariants as kinds
use Rattle.lk_messages.specs.Values.{PartValue}
use Rattle.lk_members.proofs.Memberships.{members_stay}
use Rattle.lk_state.specs.Meanings.{Meaning}
use Rattle.lk_state.proofs.Wholes.{replies_stay}
use Rattle.lk_agreement_laws.specs.Chosen.{command_at, Chosen, IsPrefix}
use Rattle.lk_agreement_laws.specs.Soundness.{Sound}
use Rattle.lk_agreement_laws.proofs.Histories.{chosen_agree}
use Rattle.lk_agreement_laws.proofs.Histories.{cons_cases, contains_more}
use Rattle.lk_node_interface.specs.declared.note.Note.{Note}
use Rattle.lk_node_interface.specs.declared.note.Note.TheVariants as note
use Rattle.lk_node.specs.Histories.{History, Genesis, Datagram, Command}
use Rattle.lk_node.specs.BorneOut.{text, BearsOut, BearsOutPart, BearsOutMessage}

get_front : {X : Type 0} (xs ys : List X) (k : ℕ) (v : X) → slice_get xs k ≡ Some v → slice_get (xs ++ ys) k ≡ Some v
get_front [] ys k v h = absurd cc
get_front (x ∷ xs) ys zero v h = h
get_front (x ∷ xs) ys (suc k) v h = get_front xs ys k v h

pub command_longer : (L rest : List Command) (i : ℕ) (v : Command) → command_at L i ≡ Some v
    → command_at (L ++ rest) i ≡ Some v
command_longer L rest zero v at = absurd cc
command_longer L rest (suc k) v at = get_front L rest k v at

part_longer : (m : Meaning) (genesis : Genesis) (L rest : List Command) (p : PartValue) → BearsOutPart m genesis L p
    → BearsOutPart m genesis (L ++ rest) p
part_longer m genesis L rest p b =
    let same : take p.position (L ++ rest) ≡ take p.position L = take-append-le p.position L rest b.reaches in
    record {
      reaches = omega (arith, b.reaches, length-append L rest);
      total = ap (λ l. length (text m genesis l)) same ∙ b.total;
      slice = b.slice ∙ ap (λ l. take (length p.bytes) (drop p.offset (text m genesis l))) (sym same);
    }

pub bears_longer : (m : Meaning) (h : History) (L rest : List Command) (x : Note) → BearsOut m h L x
    → BearsOut m h (L ++ rest) x
bears_longer m h L rest (note.Asked r) b = b
bears_longer m h L rest (note.Counted node i set v) b =
    (omega (arith, b.0, length-append L rest), b.1 ∙ sym (members_stay h.genesis L rest i b.0), b.2)
bears_longer m h L rest (note.Ran node i v) b = command_longer L rest i v b
bears_longer m h L rest (note.Answered node client number a) b = replies_stay m h.genesis L rest client number a b
bears_longer m h L rest (note.Told node client number last) b =
    (b.0, (b.1.0, replies_stay m h.genesis L rest client last b.1.0 b.1.1))

pub message_longer : (m : Meaning) (h : History) (L rest : List Command) (x : NodeMessage) → BearsOutMessage m h L x
    → BearsOutMessage m h (L ++ rest) x
message_longer m h L rest (kinds.Answer a) b = replies_stay m h.genesis L rest a.client a.number a.answer b
message_longer m h L rest (kinds.Passed p) b = (b.0, replies_stay m h.genesis L rest p.client p.last b.0 b.1)
message_longer m h L rest (kinds.Part p) b = part_longer m h.genesis L rest p b
message_longer m h L rest (kinds.Prepare c first) b = b
message_longer m h L rest (kinds.Promise p) b = b
message_longer m h L rest (kinds.Accept v) b = b
message_longer m h L rest (kinds.Accepted v) b = b
message_longer m h L rest (kinds.Nack k) b = b
message_longer m h L rest (kinds.Decided d) b = b
message_longer m h L rest (kinds.Want w) b = b
message_longer m h L rest (kinds.Elsewhere e) b = b
message_longer m h L rest (kinds.Lead c e) b = b

pub begins_all : {X : Type 0} (Bears : List Command → X → Type 0)
    → ((L rest : List Command) (x : X) → Bears L x → Bears (L ++ rest) x) → (L M : List Command) → IsPrefix L M
    → (x : X) → Bears L x → Bears M x
begins_all Bears longer L M b x is = subst (λ l. Bears l x) b.1 (longer L b.0 x is)

begins_on : (L M N : List Command) → IsPrefix L M → IsPrefix M N → IsPrefix L N
begins_on L M N b c = (b.0 ++ c.0, sym (append_assoc L b.0 c.0) ∙ ap (λ l. l ++ c.0) b.1 ∙ c.1)

-- of things that are each borne out by some chosen list all are borne out by one, which goes on a given one
module _ (genesis : Genesis) (sent : List Datagram) (sound : Sound genesis sent) where
  longest : (L K : List Command) → Chosen genesis sent L → Chosen genesis sent K
      → (M : List Command) × Chosen genesis sent M × IsPrefix L M × IsPrefix K M
  longest L K l k = elim (chosen_agree genesis sent sound L K l k) [
    | inl b ↦ (K, k, b, ([], append-nil K))
    | inr b ↦ (L, l, ([], append-nil L), b)
  ]

  pub all_borne : {X : Type 0} (Bears : List Command → X → Type 0)
      → ((L rest : List Command) (x : X) → Bears L x → Bears (L ++ rest) x)
      → (xs : List X) → ((x : X) → Contains xs x → (K : List Command) × Chosen genesis sent K × Bears K x)
      → (L : List Command) → Chosen genesis sent L
      → (M : List Command) × Chosen genesis sent M × IsPrefix L M × ((x : X) → Contains xs x → Bears M x)
  all_borne Bears longer [] each L l = (L, l, ([], append-nil L), λ x c. absurd (omega (arith, c.1)))
  all_borne Bears longer (y ∷ ys) each L l =
      let k = each y (0, omega arith, refl) in
      let m = longest L k.0 l k.1 in
      let rest = all_borne Bears longer ys (λ x c. each x (contains_more y ys x c)) m.0 m.1 in (
        rest.0,
        rest.1,
        begins_on L m.0 rest.0 m.2 rest.2,
        λ x c. elim (cons_cases y ys x c) [
          | inl e ↦ subst (λ z. Bears rest.0 z) e
              (begins_all Bears longer m.0 rest.0 rest.2 y (begins_all Bears longer k.0 m.0 m.3 y k.2))
          | inr old ↦ rest.3 x old
        ],
      )
