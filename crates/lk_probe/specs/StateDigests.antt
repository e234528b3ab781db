-- When two digests show that two nodes have executed other commands.
use Rattle.std.specs.Prelude.{nat_eq, ◌==◌, not, ◌&&◌, Bool}
use Rattle.std.specs.Cmp.Lexicographic.{pointwise}
use Rattle.lk_probe.specs.declared.state_digest.StateDigest.{StateDigest}

-- both were taken, and of one position
abbrev pub are_comparable : StateDigest → StateDigest → Bool
are_comparable d e = not (d.position == 0) && d.position == e.position

-- they were taken of one position, and differ
abbrev pub do_differ : StateDigest → StateDigest → Bool
do_differ d e = are_comparable d e && not (pointwise nat_eq d.digest e.digest)
