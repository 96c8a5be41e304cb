use Rattle.std.proofs.Common.{◌∙◌, Err, ap}
use Rattle.std.proofs.lemmas.Result.{err_from_is_err_and}
use Rattle.nsf.specs.Files.{IsNoDevice, IsOfFile}
use Rattle.nsf.specs.declared.files.FileError.{FileError}
use Rattle.nsf.specs.declared.files.FileError.TheVariants.{File, Store}
use Rattle.nsf.proofs.files.open_or_create.Goals as goal

no_device : (e : FileError) → IsOfFile e → IsNoDevice e
no_device (File e) is = tt
no_device (Store e) is = absurd is

pub returns-in_err-number_at : goal.returns-in_err-number_at
returns-in_err-number_at g c =
    let p = err_from_is_err_and c.from_residual.result c.from_residual.ensures.1 in
    rw p.1 (record { synced = tt; failures = tt; refused = no_device _ p.2 })

pub returns-in_err-open-in-Some : goal.returns-in_err-open-in-Some
returns-in_err-open-in-Some g c =
    let p = err_from_is_err_and c.from_residual-in_err-open-in-Some.result c.from_residual-in_err-open-in-Some.ensures.1 in
    rw (p.1 ∙ ap Err p.2) (record { synced = tt; failures = tt; refused = tt })

pub returns-in_ok-open-in-Some : goal.returns-in_ok-open-in-Some
returns-in_ok-open-in-Some g c = record { synced = c.in_ok-open-in-Some.ensures.synced; failures = c.in_ok-open-in-Some.ensures.failures; refused = tt }

pub returns-in-None : goal.returns-in-None
returns-in-None g c =
    let made = c.create_store.ensures in
    record { synced = made.synced; failures = made.failures; refused = made.refused }
