-- The count stands there, and the sessions so far.
use Rattle.std.proofs.Common.{◌≡◌, ◌++◌, length, take}
use Rattle.std.specs.List.{flat_map}
use Rattle.lk_codec.specs.Fields.{two}
use Rattle.lk_state.specs.Packed.{session_text}
use Rattle.lk_state.proofs.packing.put_sessions.Given as goal

abbrev pub invariant-loop-session : goal.invariant-loop-session
invariant-loop-session l =
    l.out.items ≡ l.fn.out.items ++ (two (length l.sessions) ++ flat_map session_text (take l.session-index l.sessions))
