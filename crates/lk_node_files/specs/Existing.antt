-- That there is a store.
use Rattle.std.specs.Prelude.{List}
use Rattle.lk_log.specs.Images.{Image, IsLive}
use Rattle.lk_store_format.specs.declared.stored.Stored.{Stored}

-- one of the files is live, with some entries
abbrev pub HasStore : Image → Type 0
HasStore image = (entries : List Stored) × IsLive image entries
