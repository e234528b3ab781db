use Rattle.std.proofs.Common.{arith}
use Rattle.lk_watch.proofs.DatagramLaws.{notice_letters, message_letter, probe_letter, report_letter, bundle_letter}
use Rattle.lk_watch.proofs.DatagramLaws.{frame_letter}
use Rattle.lk_watch.proofs.laws.notice_is_nothing_else.Goals as goal

pub returns-clause-message : goal.returns-clause-message
returns-clause-message c = λ n m bytes s t. omega (arith, (notice_letters n bytes s).0, message_letter m bytes t)

pub returns-clause-probe : goal.returns-clause-probe
returns-clause-probe c = λ n p bytes s t. omega (arith, (notice_letters n bytes s).0, probe_letter p bytes t)

pub returns-clause-report : goal.returns-clause-report
returns-clause-report c = λ n r bytes s t. omega (arith, (notice_letters n bytes s).0, report_letter r bytes t)

pub returns-clause-bundle : goal.returns-clause-bundle
returns-clause-bundle c = λ n ds bytes s t. omega (arith, (notice_letters n bytes s).0, bundle_letter ds bytes t)

pub returns-clause-frame : goal.returns-clause-frame
returns-clause-frame c = λ n key scope d bytes s t.
    omega (arith, (notice_letters n bytes s).0, frame_letter key scope d bytes t)
