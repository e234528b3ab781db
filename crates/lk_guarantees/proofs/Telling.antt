-- What was answered is noted: in the words of the guarantee.
use Rattle.std.proofs.Common.{◌≡◌, ℕ, List, [], ◌∷◌, ◌++◌, filter, refl, ap, subst, sym}
use Rattle.lk_messages.specs.Grammar.{Spells}
use Rattle.lk_messages.specs.declared.message.Content.{Content}
use Rattle.lk_messages.specs.declared.message.Content.TheVariants as content
use Rattle.lk_messages.specs.declared.message.NodeMessage.{NodeMessage}
use Rattle.lk_messages.specs.declared.message.NodeMessage.TheVariants as message
use Rattle.lk_agreement_laws.specs.Datagrams.{Datagram}
use Rattle.lk_node_interface.specs.declared.note.Note.{Note}
use Rattle.lk_node_interface.specs.declared.note.Note.TheVariants as note
use Rattle.lk_sim_nodes.specs.Told.{told_by_node, told_by, NotesReplies}
use Rattle.lk_sim.specs.Traces.{told_in}
use Rattle.lk_guarantees.specs.Guarantee.{AreReplies, nothing_more, an_answer, a_pass, no_reply, is_told, AreTold}

by_node : (d : Datagram) (ds : List Datagram) (rest : List Note) (cluster node : ℕ) (x : NodeMessage)
    → Spells (record { cluster = cluster; content = content.Node node x }) d.bytes → AreReplies ds rest
    → AreReplies (d ∷ ds) (told_by_node node x ++ rest)
by_node d ds rest cluster node (message.Prepare b first) spelled later =
    no_reply d (record { cluster = cluster; content = content.Node node (message.Prepare b first) }) spelled refl later
by_node d ds rest cluster node (message.Promise p) spelled later =
    no_reply d (record { cluster = cluster; content = content.Node node (message.Promise p) }) spelled refl later
by_node d ds rest cluster node (message.Accept v) spelled later =
    no_reply d (record { cluster = cluster; content = content.Node node (message.Accept v) }) spelled refl later
by_node d ds rest cluster node (message.Accepted v) spelled later =
    no_reply d (record { cluster = cluster; content = content.Node node (message.Accepted v) }) spelled refl later
by_node d ds rest cluster node (message.Nack x) spelled later =
    no_reply d (record { cluster = cluster; content = content.Node node (message.Nack x) }) spelled refl later
by_node d ds rest cluster node (message.Decided x) spelled later =
    no_reply d (record { cluster = cluster; content = content.Node node (message.Decided x) }) spelled refl later
by_node d ds rest cluster node (message.Want x) spelled later =
    no_reply d (record { cluster = cluster; content = content.Node node (message.Want x) }) spelled refl later
by_node d ds rest cluster node (message.Part x) spelled later =
    no_reply d (record { cluster = cluster; content = content.Node node (message.Part x) }) spelled refl later
by_node d ds rest cluster node (message.Answer a) spelled later = an_answer d cluster node a spelled later
by_node d ds rest cluster node (message.Elsewhere x) spelled later =
    no_reply d (record { cluster = cluster; content = content.Node node (message.Elsewhere x) }) spelled refl later
by_node d ds rest cluster node (message.Passed p) spelled later = a_pass d cluster node p spelled later
by_node d ds rest cluster node (message.Lead b n) spelled later =
    no_reply d (record { cluster = cluster; content = content.Node node (message.Lead b n) }) spelled refl later

by_content : (d : Datagram) (ds : List Datagram) (rest : List Note) (cluster : ℕ) (x : Content)
    → Spells (record { cluster = cluster; content = x }) d.bytes → AreReplies ds rest
    → AreReplies (d ∷ ds) (told_by x ++ rest)
by_content d ds rest cluster (content.Request r) spelled later =
    no_reply d (record { cluster = cluster; content = content.Request r }) spelled refl later
by_content d ds rest cluster (content.Node node x) spelled later = by_node d ds rest cluster node x spelled later

pub replies : (sent : List Datagram) (notes : List Note) → NotesReplies sent notes → AreReplies sent notes
replies [] notes e = subst (AreReplies []) (sym e) nothing_more
replies (d ∷ ds) notes t =
    subst (AreReplies (d ∷ ds)) (sym t.3) (by_content d ds t.1 t.0.cluster t.0.content t.2 (replies ds t.1 t.4))

told_is : (trace : List Note) → told_in trace ≡ filter is_told trace
told_is [] = refl
told_is (note.Asked r ∷ xs) = told_is xs
told_is (note.Counted node i set v ∷ xs) = told_is xs
told_is (note.Ran node i v ∷ xs) = told_is xs
told_is (note.Answered node client number a ∷ xs) =
    ap (λ (ys : List Note). note.Answered node client number a ∷ ys) (told_is xs)
told_is (note.Told node client number last ∷ xs) =
    ap (λ (ys : List Note). note.Told node client number last ∷ ys) (told_is xs)

pub told : (sent : List Datagram) (trace : List Note) → NotesReplies sent (told_in trace) → AreTold sent trace
told sent trace t = subst (AreReplies sent) (told_is trace) (replies sent (told_in trace) t)
