use Rattle.std.proofs.lemmas.Result.{err_from_is_err_and}
use Rattle.store_file.proofs.draft.fill.Goals as goal

pub returns : goal.returns
returns g c =
    let done = c.in_ok-new.ensures in
    record { zeros = done.zeros; synced = done.synced; failures = done.failures; sound = done.sound }

pub returns-in_err-file : goal.returns-in_err-file
returns-in_err-file g c =
    rw (err_from_is_err_and c.from_residual.result c.from_residual.ensures.1).1
    (record { zeros = tt; synced = tt; failures = tt; sound = tt })

pub returns-in_err-own : goal.returns-in_err-own
returns-in_err-own g c =
    rw (err_from_is_err_and c.from_residual-in_err-own.result c.from_residual-in_err-own.ensures.1).1
    (record { zeros = tt; synced = tt; failures = tt; sound = tt })

pub returns-in_err-clear : goal.returns-in_err-clear
returns-in_err-clear g c =
    rw (err_from_is_err_and c.from_residual-in_err-clear.result c.from_residual-in_err-clear.ensures.1).1
    (record { zeros = tt; synced = tt; failures = tt; sound = tt })

pub returns-in_err-sync_folder : goal.returns-in_err-sync_folder
returns-in_err-sync_folder g c =
    rw (err_from_is_err_and c.from_residual-in_err-sync_folder.result c.from_residual-in_err-sync_folder.ensures.1).1
    (record { zeros = tt; synced = tt; failures = tt; sound = tt })

pub returns-in_err-new : goal.returns-in_err-new
returns-in_err-new g c =
    rw (err_from_is_err_and c.from_residual-in_err-new.result c.from_residual-in_err-new.ensures.1).1
    (record { zeros = tt; synced = tt; failures = tt; sound = tt })
