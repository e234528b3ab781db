use Rattle.std.proofs.Common.{arith}
use Rattle.lk_bundle.proofs.SecondLetters.{bundle_letter, message_letter, probe_letter, report_letter, frame_letter}
use Rattle.lk_bundle.proofs.laws.is_nothing_else.Goals as goal

pub returns-clause-message : goal.returns-clause-message
returns-clause-message c = λ ds m bytes b s. omega (arith, bundle_letter ds bytes b, message_letter m bytes s)

pub returns-clause-probe : goal.returns-clause-probe
returns-clause-probe c = λ ds p bytes b s. omega (arith, bundle_letter ds bytes b, probe_letter p bytes s)

pub returns-clause-report : goal.returns-clause-report
returns-clause-report c = λ ds r bytes b s. omega (arith, bundle_letter ds bytes b, report_letter r bytes s)

pub returns-clause-frame : goal.returns-clause-frame
returns-clause-frame c = λ ds key s d bytes b e. omega (arith, bundle_letter ds bytes b, frame_letter key s d bytes e)
