-- Room in a world's trace for the note of a request.
use Rattle.std.specs.Prelude.{◌<◌, Option, Some, None, Vec, vec_len, vec_capacity}
use Rattle.std.specs.Global.{Global}
use Rattle.lk_node_interface.specs.declared.note.Note.{Note}
use Rattle.lk_node.specs.Histories.{RequestValue}

-- the trace has room for the note of a request that is asked, if there is one
abbrev pub HasNoteRoom : Option RequestValue → Vec Note Global → Type 0
HasNoteRoom None trace = Unit {0}
HasNoteRoom (Some r) trace = vec_len trace < vec_capacity trace
