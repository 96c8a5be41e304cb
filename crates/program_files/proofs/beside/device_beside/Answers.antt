use Rattle.std.proofs.lemmas.Result.{err_from_is_err_and}
use Rattle.program_files.proofs.beside.device_beside.Goals as goal

pub returns : goal.returns
returns g c =
    let done = c.in_ok-device_in.ensures in
    record {
      told = done.told;
      shown = done.shown;
      opened = done.opened;
      synced = done.synced;
      failures = done.failures;
    }

pub returns-in_err-taken : goal.returns-in_err-taken
returns-in_err-taken g c =
    rw (err_from_is_err_and c.from_residual.result c.from_residual.ensures.1).1
    (record { told = tt; shown = tt; opened = tt; synced = tt; failures = tt })

pub returns-in_err-device_in : goal.returns-in_err-device_in
returns-in_err-device_in g c =
    rw (err_from_is_err_and c.from_residual-in_err-device_in.result c.from_residual-in_err-device_in.ensures.1).1
    (record { told = tt; shown = tt; opened = tt; synced = tt; failures = tt })
