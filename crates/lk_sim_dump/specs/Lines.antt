-- The line that is printed of a disk.
use Rattle.std.specs.Prelude.{ℕ, List, ◌∷◌, ◌++◌, codes}
use Rattle.std.specs.Fmt.{decimal}

-- how many of the disk's bytes are synced
abbrev pub disk_line : List ℕ → ℕ → ℕ → List ℕ
disk_line name synced written =
    codes "disk " ++ (name ++ (32 ∷ (decimal synced ++ (codes " of " ++ (decimal written ++ codes " bytes synced\n")))))
