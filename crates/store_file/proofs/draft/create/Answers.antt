use Rattle.std.proofs.Common.{arith}
use Rattle.std.proofs.lemmas.Result.{err_from_is_err_and}
use Rattle.store_file.proofs.draft.create.Goals as goal

pub returns-then-sectors-eq0 : goal.returns-then-sectors-eq0
returns-then-sectors-eq0 g c = record { zeros = tt; synced = tt; failures = tt; sound = tt; fits = tt }

pub returns-then-branch : goal.returns-then-branch
returns-then-branch g c = record { zeros = tt; synced = tt; failures = tt; sound = tt; fits = tt }

pub returns-in-Ok : goal.returns-in-Ok
returns-in-Ok g c =
    let done = c.in-Ok.ensures in
    record { zeros = done.zeros; synced = done.synced; failures = done.failures; sound = done.sound; fits = (omega arith, omega arith) }

pub returns : goal.returns
returns g c = record { zeros = tt; synced = tt; failures = tt; sound = tt; fits = tt }

pub returns-in_err-is_there : goal.returns-in_err-is_there
returns-in_err-is_there g c =
    rw (err_from_is_err_and c.from_residual.result c.from_residual.ensures.1).1
    (record { zeros = tt; synced = tt; failures = tt; sound = tt; fits = tt })

pub returns-in_err-draft : goal.returns-in_err-draft
returns-in_err-draft g c =
    rw (err_from_is_err_and c.from_residual-in_err-draft.result c.from_residual-in_err-draft.ensures.1).1
    (record { zeros = tt; synced = tt; failures = tt; sound = tt; fits = tt })

pub returns-in_err-file : goal.returns-in_err-file
returns-in_err-file g c =
    rw (err_from_is_err_and c.from_residual-in_err-file.result c.from_residual-in_err-file.ensures.1).1
    (record { zeros = tt; synced = tt; failures = tt; sound = tt; fits = tt })
