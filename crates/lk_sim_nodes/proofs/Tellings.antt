-- Answers and passes, by the datagrams.
use Rattle.std.proofs.Common.{◌≡◌, ℕ, zero, suc, List, [], ◌∷◌, ◌++◌, take, Some, slice_get, ap, sym, ◌∙◌, subst}
use Rattle.std.proofs.Common.{append_assoc}
use Rattle.lk_node_interface.specs.declared.note.Note.{Note}
use Rattle.lk_node.specs.Histories.{Datagram}
use Rattle.lk_sim_nodes.specs.Told.{told_by, NotesReplies}

pub take_next : {X : Type 0} (L : List X) (k : ℕ) (v : X) → slice_get L k ≡ Some v → take (suc k) L ≡ take k L ++ v ∷ []
take_next [] k v h = absurd cc
take_next (x ∷ L) zero v h = cc
take_next (x ∷ L) (suc k) v h = ap (λ l. x ∷ l) (take_next L k v h)

pub tells_append : (a b : List Datagram) (x y : List Note) → NotesReplies a x → NotesReplies b y
    → NotesReplies (a ++ b) (x ++ y)
tells_append [] b x y s t = subst (λ l. NotesReplies b (l ++ y)) (sym s) t
tells_append (d ∷ a) b x y s t =
    (s.0, s.1 ++ y, s.2, ap (λ l. l ++ y) s.3 ∙ append_assoc (told_by s.0.content) s.1 y, tells_append a b s.1 y s.4 t)

-- one datagram more
pub tells_next : (ds : List Datagram) (i : ℕ) (d : Datagram) (x y : List Note) → slice_get ds i ≡ Some d
    → NotesReplies (take i ds) x → NotesReplies (d ∷ []) y → NotesReplies (take (suc i) ds) (x ++ y)
tells_next ds i d x y at s t =
    subst (λ l. NotesReplies l (x ++ y)) (sym (take_next ds i d at)) (tells_append (take i ds) (d ∷ []) x y s t)
