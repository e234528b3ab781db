use Rattle.std.proofs.Common.{arith}
use Rattle.lk_watch.proofs.DatagramLaws.{watch_letters, notice_letters, message_letter, probe_letter, report_letter}
use Rattle.lk_watch.proofs.DatagramLaws.{bundle_letter, frame_letter}
use Rattle.lk_watch.proofs.laws.watch_is_nothing_else.Goals as goal

pub returns-clause-notice : goal.returns-clause-notice
returns-clause-notice c = λ w n bytes s t. omega (arith, (watch_letters w bytes s).1, (notice_letters n bytes t).1)

pub returns-clause-message : goal.returns-clause-message
returns-clause-message c = λ w m bytes s t. omega (arith, (watch_letters w bytes s).0, message_letter m bytes t)

pub returns-clause-probe : goal.returns-clause-probe
returns-clause-probe c = λ w p bytes s t. omega (arith, (watch_letters w bytes s).0, probe_letter p bytes t)

pub returns-clause-report : goal.returns-clause-report
returns-clause-report c = λ w r bytes s t. omega (arith, (watch_letters w bytes s).0, report_letter r bytes t)

pub returns-clause-bundle : goal.returns-clause-bundle
returns-clause-bundle c = λ w ds bytes s t. omega (arith, (watch_letters w bytes s).0, bundle_letter ds bytes t)

pub returns-clause-frame : goal.returns-clause-frame
returns-clause-frame c = λ w key scope d bytes s t.
    omega (arith, (watch_letters w bytes s).0, frame_letter key scope d bytes t)
