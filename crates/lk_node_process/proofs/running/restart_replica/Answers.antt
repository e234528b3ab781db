use Rattle.lk_node_process.proofs.Turning.{if_err_is}
use Rattle.lk_node_process.proofs.running.restart_replica.Goals as goal

pub returns-clause-comes_up : goal.returns-clause-comes_up
returns-clause-comes_up g c honest =
    let up = c.in_ok-revived.ensures in
    record {
      notes = c.in_ok-revived.revived.notes.items;
      goes = λ h n whose lawful fit. up.fits honest h n whose lawful fit;
      room = up.room honest;
    }

pub returns-in_err-revived-clause-refused : goal.returns-in_err-revived-clause-refused
returns-in_err-revived-clause-refused g c =
    let looked = c.in_err-revived.ensures in
    let left = c.in_err-revived.field-0.0 in
    if_err_is _ c.from_residual.result left c.from_residual.ensures.1 (record {
      among = (looked.cause.0, looked.cause.1);
      cause = λ honest. looked.refused honest;
      stays_down = λ honest. record {
        fits = λ h n whose lawful fit. (looked.fits honest h n whose lawful fit).1;
        room = looked.room honest;
      };
      comes_back = λ honest h n whose lawful fit. (looked.fits honest h n whose lawful fit).0;
    })
