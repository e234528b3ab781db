-- What a trace says of the requests that were asked, and of what was answered.
use Rattle.std.specs.Prelude.{List, [], ◌∷◌, ◌++◌, Option, Some, None}
use Rattle.lk_node_interface.specs.declared.note.Note.{Note}
use Rattle.lk_node_interface.specs.declared.note.Note.TheVariants as note
use Rattle.lk_node.specs.Histories.{History, Genesis, Datagram, RequestValue}

-- the request of the note
abbrev pub asked_by : Note → List RequestValue
asked_by (note.Asked r) = r ∷ []
asked_by (note.Counted node i set v) = []
asked_by (note.Ran node i v) = []
asked_by (note.Answered node client number answer) = []
asked_by (note.Told node client number last) = []

-- the requests that were asked, in order
abbrev pub asked_in : List Note → List RequestValue
asked_in [] = []
asked_in (x ∷ xs) = asked_by x ++ asked_in xs

-- what has happened, as far as safety is concerned
abbrev pub happened : Genesis → List Datagram → List Note → History
happened genesis sent trace = record { genesis = genesis; sent = sent; asked = asked_in trace }

-- ---- what was answered and told

-- the note itself, if it is of an answer or a pass
abbrev pub told_of : Note → List Note
told_of (note.Asked r) = []
told_of (note.Counted node i set v) = []
told_of (note.Ran node i v) = []
told_of (note.Answered node client number answer) = note.Answered node client number answer ∷ []
told_of (note.Told node client number last) = note.Told node client number last ∷ []

-- the answers and passes among the notes
abbrev pub told_in : List Note → List Note
told_in [] = []
told_in (x ∷ xs) = told_of x ++ told_in xs

-- a request that was just asked is noted
abbrev pub asked_note : Option RequestValue → List Note
asked_note None = []
asked_note (Some r) = note.Asked r ∷ []
