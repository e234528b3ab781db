-- Whether a lock table was raised.
use Rattle.std.specs.Prelude.{◌≡◌, ◌↔◌, ℕ, Bool, List, IsTrue}
use Rattle.lk_types.specs.declared.answer.Answer.TheVariants.{AlreadyRaised}
use Rattle.lk_state.specs.Meanings.{Meaning, Raising}
use Rattle.lk_state.specs.Packed.{Packs}
use Rattle.lk_state.specs.States.{WholeValue}

-- a machine of this packed text was raised before: it answers a further Raise with AlreadyRaised
abbrev pub WasRaised : Meaning → List ℕ → Type 0
WasRaised m text = m.answer 1 Raising text ≡ AlreadyRaised

-- `told` is whether the machine in the state that these bytes pack was raised
abbrev pub TellsRaised : Meaning → (List ℕ → Type 0) → List ℕ → Bool → Type 0
TellsRaised m IsText bytes told = (w : WholeValue) → Packs IsText w bytes → (IsTrue told ↔ WasRaised m w.text)
