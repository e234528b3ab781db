-- What is read is what the bytes pack, and nothing else is packed there.
use Rattle.std.proofs.Common.{◌≡◌, ◌∙◌, ℕ, Result, Ok, Err, List, refl, ap, sym, arith, inl, inr}
use Rattle.std.proofs.lemmas.Result.{err_from_is_err_and}
use Rattle.lk_state.specs.declared.machine.UnpackFault.{UnpackFault}
use Rattle.lk_state.specs.declared.machine.UnpackFault.TheVariants.{NotPacked, NoMemory}
use Rattle.lk_state.specs.States.{WholeValue}
use Rattle.lk_state.proofs.PackedLaws.{unpacked, no_front, one_front}
use Rattle.lk_state.proofs.whole.Whole.unpack.Goals as goal

abbrev done : WholeValue → Result WholeValue UnpackFault
done w = Ok w

abbrev failed : UnpackFault → Result WholeValue UnpackFault
failed e = Err e

abbrev refusal : (T : Type 0) → UnpackFault → Result T UnpackFault
refusal T e = Err e

-- the machine's bytes were packed, so memory was refused
is_memory : (e : UnpackFault) → (e ≡ NotPacked → ⊥) → e ≡ NoMemory
is_memory NotPacked h = absurd (h refl)
is_memory NoMemory h = refl

failed_so : (e k : UnpackFault) → failed e ≡ failed k → e ≡ k
failed_so e k h = cc

pub returns-in_default-clause-only : goal.returns-in_default-clause-only
returns-in_default-clause-only g c =
    λ w p. absurd (no_front g.M.Machine.IsText c.args.bytes.now w c.in_default.ensures p)

pub returns-in_default-clause-not_packed : goal.returns-in_default-clause-not_packed
returns-in_default-clause-not_packed g c =
    λ _ w p. no_front g.M.Machine.IsText c.args.bytes.now w c.in_default.ensures p

pub returns-in_err-machine-clause-only : goal.returns-in_err-machine-clause-only
returns-in_err-machine-clause-only g c = λ w p.
    let same = one_front g.M.Machine.IsText c.args.bytes.now c.in-Some.rest.now c.in-Some.roster
    c.in-Some.sessions w c.in-Some.ensures p in
    let known : g.M.Machine.IsText c.in-Some.rest.now = rw (ap (λ (x : WholeValue). x.text) same) p.0.text in
    let refused = c.in_err-machine.ensures.not_packed in
    let told = err_from_is_err_and c.from_residual.result c.from_residual.ensures.1 in
    let memory : c.in_err-machine.field-0.0 ≡ NoMemory =
    is_memory c.in_err-machine.field-0.0 (λ h. refused (ap (refusal g.row.M.Denot) h) known) in
    inr (told.1 ∙ ap failed (told.2 ∙ memory))

pub returns-in_err-machine-clause-not_packed : goal.returns-in_err-machine-clause-not_packed
returns-in_err-machine-clause-not_packed g c = λ e w p.
    let same = one_front g.M.Machine.IsText c.args.bytes.now c.in-Some.rest.now c.in-Some.roster
    c.in-Some.sessions w c.in-Some.ensures p in
    let known : g.M.Machine.IsText c.in-Some.rest.now = rw (ap (λ (x : WholeValue). x.text) same) p.0.text in
    let refused = c.in_err-machine.ensures.not_packed in
    let told = err_from_is_err_and c.from_residual.result c.from_residual.ensures.1 in
    let bad : told.0 ≡ NotPacked = failed_so told.0 NotPacked (sym told.1 ∙ e) in
    refused (ap (refusal g.row.M.Denot) (sym told.2 ∙ bad)) known

pub returns-clause-ok : goal.returns-clause-ok
returns-clause-ok g c =
    unpacked g.M.Machine.IsText c.args.bytes.now c.in-Some.rest.now
    (g.M.Machine.text c.in_ok-machine.machine) c.in-Some.roster c.in-Some.sessions
    (λ i. omega (arith, c.type_inv.bytes i)) c.in-Some.ensures c.in_ok-machine.ensures.ok c.in_ok-machine.ensures.packed

pub returns-clause-only : goal.returns-clause-only
returns-clause-only g c = λ w p.
    let same = one_front g.M.Machine.IsText c.args.bytes.now c.in-Some.rest.now c.in-Some.roster
    c.in-Some.sessions w c.in-Some.ensures p in
    let made : List ℕ → WholeValue =
    λ t. record { roster = c.in-Some.roster; sessions = c.in-Some.sessions; text = t } in
    inl (ap done (ap made c.in_ok-machine.ensures.ok ∙ same))
