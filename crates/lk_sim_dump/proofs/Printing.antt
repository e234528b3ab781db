-- One text after another.
use Rattle.std.proofs.Common.{◌++◌, ℕ, List, Option, Some, None}
use Rattle.std.specs.Prelude.{Result, Ok, Err, IfSome, OnOk}
use Rattle.std.specs.Io.KnownBytes.{Appends}
use Rattle.lk_replica.specs.Behaviours.{Behaviour}
use Rattle.lk_script.specs.Endings.{PrintsAll, SetsUp}
use Rattle.lk_script.specs.declared.mode.Mode.{Mode}
use Rattle.lk_types.proofs.Appending.{appends_more}

-- what a script prints, and then what is printed after it
pub prints_more : {R T E : Type 0} (b : Behaviour R) (mode : Mode R) (r : Result T E)
    (remaining old mid new : Option (List ℕ))
    → IfSome remaining (λ script. (text : List ℕ) × SetsUp b script text mode × Appends old mid text)
    → OnOk r ((more : List ℕ) × Appends mid new more)
    → OnOk r (IfSome remaining
    (λ script. (text : List ℕ) × (more : List ℕ) × PrintsAll b script text × Appends old new (text ++ more)))
prints_more b mode (Ok x) None old mid new first second = tt
prints_more b mode (Ok x) (Some script) old mid new first second =
    (first.0, second.0, first.1.0, appends_more old mid new first.0 second.0 first.2 second.1)
prints_more b mode (Err e) remaining old mid new first second = tt
