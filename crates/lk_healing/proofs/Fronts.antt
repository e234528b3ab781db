-- Whatever an Accept proposes, its front tells the cluster, the sender, the ballot and the position.
use Rattle.std.proofs.Common.{◌≡◌, ℕ, ◌<◌, ◌^◌, ◌++◌, List, [], ◌∷◌, Contains, ap, sym, subst, arith, inl, inr}
use Rattle.lk_types.specs.Ballots.{IsRealBallot}
use Rattle.lk_types.specs.Ranges.{IsCount, IsNode}
use Rattle.lk_types.specs.declared.vote.Vote.{Vote}
use Rattle.lk_codec.proofs.Spellings.{Reads, ballot_reads, both_reads, count_reads, eight_reads, four_reads, one_front}
use Rattle.lk_codec.specs.FieldReading.{read_ballot, read_count, read_eight, read_four}
use Rattle.lk_codec.specs.Fields.{ballot, command, eight, four}
use Rattle.lk_codec.specs.Parser.{both}
use Rattle.lk_messages.specs.Grammar.{IsMessage, Spells, node_kind, proposal, spelling}
use Rattle.lk_messages.specs.declared.message.Content.{Content}
use Rattle.lk_messages.specs.declared.message.Content.TheVariants as content
use Rattle.lk_messages.specs.declared.message.Message.{Message}
use Rattle.lk_messages.specs.declared.message.NodeMessage.TheVariants as kinds
use Rattle.lk_agreement_laws.proofs.Histories.{cons_cases}
use Rattle.lk_agreement_laws.specs.Datagrams.{Datagram}
use Rattle.lk_node_interface.specs.declared.note.Note.{Note}
use Rattle.lk_sim_nodes.specs.Told.{NotesReplies}

-- each datagram of a world spells a message
pub spells_some : (ds : List Datagram) (notes : List Note) → NotesReplies ds notes → (d : Datagram) → Contains ds d
    → (y : Message) × Spells y d.bytes
spells_some [] notes k d c = absurd (omega (arith, c.1))
spells_some (e ∷ ds) notes k d c = elim (cons_cases e ds d c) [
  | inl is ↦ (k.0, subst (λ (f : Datagram). Spells k.0 f.bytes) is k.2)
  | inr later ↦ spells_some ds k.1 k.4 d later
]

heads : (a b : ℕ) (xs ys : List ℕ) → 76 ∷ 75 ∷ 1 ∷ a ∷ xs ≡ 76 ∷ 75 ∷ 1 ∷ b ∷ ys → (a ≡ b) × (xs ≡ ys)
heads a b xs ys e = (cc e, cc e)

-- the cluster and the sender
sender_reads : Reads (both read_eight read_four) (λ (h : ℕ × ℕ). eight h.0 ++ four h.1)
    (λ (h : ℕ × ℕ). (h.0 < 2 ^ 64) × (h.1 < 2 ^ 32))
sender_reads = both_reads read_eight eight (λ n. n < 2 ^ 64) read_four four (λ n. n < 2 ^ 32) eight_reads four_reads

module _ (cluster x : ℕ) (v : Vote) (valid : cluster < 2 ^ 64) (node : IsNode x) (real : IsRealBallot v.ballot)
    (count : IsCount v.position) where
  abbrev bytes : List ℕ
  bytes = spelling (record { cluster = cluster; content = content.Node x (kinds.Accept v) })

  -- an Accept of a vote like this
  pub record IsAcceptLike (y : Message) : Type 0 where
    pub vote : Vote
    pub position : vote.position ≡ v.position
    pub ballot : vote.ballot ≡ v.ballot
    pub is : y ≡ record { cluster = cluster; content = content.Node x (kinds.Accept vote) }

  fields_alike : (u : Vote) → IsRealBallot u.ballot → IsCount u.position → proposal v ≡ proposal u
      → (u.position ≡ v.position) × (u.ballot ≡ v.ballot)
  fields_alike u b i e =
      let first = one_front read_ballot ballot IsRealBallot ballot_reads v.ballot u.ballot
      (eight v.position ++ command v.command) (eight u.position ++ command u.command) real b e in
      let second = one_front read_count eight IsCount count_reads v.position u.position (command v.command)
      (command u.command) count i first.1 in
      (sym second.0, sym first.0)

  by_content : (other : ℕ) (c : Content) → IsMessage (record { cluster = other; content = c })
      → bytes ≡ spelling (record { cluster = other; content = c })
      → IsAcceptLike (record { cluster = other; content = c })
  by_content other (content.Request r) fits e =
      let k = (heads 3 9 _ _ e).0 in absurd (omega (arith, k))
  by_content other (content.Node n (kinds.Accept u)) fits e =
      let tail = (heads 3 3 ((eight cluster ++ four x) ++ proposal v) ((eight other ++ four n) ++ proposal u) e).1 in
      let one : ℕ × ℕ = (cluster, x) in
      let two : ℕ × ℕ = (other, n) in
      let front = one_front (both read_eight read_four) (λ (h : ℕ × ℕ). eight h.0 ++ four h.1)
      (λ (h : ℕ × ℕ). (h.0 < 2 ^ 64) × (h.1 < 2 ^ 32)) sender_reads one two (proposal v) (proposal u)
      (valid, omega (arith, node.1)) (fits.0, omega (arith, fits.1.0.1)) tail in
      let same = fields_alike u fits.1.1.1 fits.1.1.0 front.1 in
      record {
        vote = u;
        position = same.0;
        ballot = same.1;
        is = λ i. record {
          cluster = (sym (ap (λ (h : ℕ × ℕ). h.0) front.0)) i;
          content = content.Node ((sym (ap (λ (h : ℕ × ℕ). h.1) front.0)) i) (kinds.Accept u);
        };
      }
  by_content other (content.Node n y) fits e =
      let k = (heads 3 (node_kind y) _ _ e).0 in absurd (omega (arith, k))

  pub accept_like : (y : Message) → Spells y bytes → IsAcceptLike y
  accept_like y s = by_content y.cluster y.content s.0 s.1
