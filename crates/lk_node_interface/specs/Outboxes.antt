-- What a contract sees of the result of a step.
use Rattle.std.specs.Prelude.{Bool, true, false, ◌||◌, Option, Some, None, List, [], ◌∷◌, ◌++◌}
use Rattle.lk_types.specs.declared.entry.Entry.{Entry}
use Rattle.lk_types.specs.declared.entry.Entry.TheVariants.{Promise, Vote, Decided}
use Rattle.lk_node_interface.specs.Envelopes.{EnvelopeValue}
use Rattle.lk_node_interface.specs.declared.note.Note.{Note}

-- whether the store is rebased to what the node then holds, in place of the entries, the entries to write, whether
-- they are synced before anything is sent, the notes, and the envelopes, in order
pub record OutboxValue : Type 0 where
  pub rebase : Bool
  pub entries : List Entry
  pub sync : Bool
  pub notes : List Note
  pub envelopes : List EnvelopeValue

abbrev pub nothing : OutboxValue
nothing = record { rebase = false; entries = []; sync = false; notes = []; envelopes = [] }

-- with the store rebased
abbrev pub with_rebase : OutboxValue → OutboxValue
with_rebase o = record { rebase = true; entries = o.entries; sync = o.sync; notes = o.notes; envelopes = o.envelopes }

-- with one more envelope
abbrev pub with_envelope : EnvelopeValue → OutboxValue → OutboxValue
with_envelope l o =
    record { rebase = o.rebase; entries = o.entries; sync = o.sync; notes = o.notes; envelopes = o.envelopes ++ l ∷ [] }

-- with these envelopes added
abbrev pub with_envelopes : List EnvelopeValue → OutboxValue → OutboxValue
with_envelopes ls o =
    record { rebase = o.rebase; entries = o.entries; sync = o.sync; notes = o.notes; envelopes = o.envelopes ++ ls }

-- the entry is synced before anything is sent: a promise and a vote are
abbrev pub is_synced : Entry → Bool
is_synced (Promise b) = true
is_synced (Vote x) = true
is_synced (Decided i c) = false

-- with one more entry
abbrev pub with_entry : Entry → OutboxValue → OutboxValue
with_entry e o = record {
  rebase = o.rebase;
  entries = o.entries ++ e ∷ [];
  sync = o.sync || is_synced e;
  notes = o.notes;
  envelopes = o.envelopes;
}

-- with the entry, if there is one
abbrev pub with_optional : Option Entry → OutboxValue → OutboxValue
with_optional None o = o
with_optional (Some e) o = with_entry e o

-- with one more note
abbrev pub with_note : Note → OutboxValue → OutboxValue
with_note x o =
    record { rebase = o.rebase; entries = o.entries; sync = o.sync; notes = o.notes ++ x ∷ []; envelopes = o.envelopes }
