-- At which port the genesis names a node.
use Rattle.std.specs.Prelude.{ℕ, ◌==◌, if◌then◌else◌, Option, Some, None}
use Rattle.lk_store_format.specs.Values.{HeaderValue}
use Rattle.lk_members.specs.Ports.{port_in}

-- a port that is there and is another one than this
abbrev pub other_than : ℕ → Option ℕ → Option ℕ
other_than port None = None
other_than port (Some named) = if named == port then None else Some named

-- the port that the genesis of a header gives its node, if that is another one than this
abbrev pub misnamed : HeaderValue → ℕ → Option ℕ
misnamed header port = other_than port (port_in header.node header.members)
