use Rattle.std.proofs.Common.{◌∙◌, Err, ap, arith, length}
use Rattle.std.proofs.Math.ListN.{length-replicate}
use Rattle.std.proofs.lemmas.Result.{err_from_is_err_and}
use Rattle.nsf.proofs.files.create_store.Goals as goal

pub returns-in_err-disk : goal.returns-in_err-disk
returns-in_err-disk g c =
    let p = err_from_is_err_and c.from_residual.result c.from_residual.ensures.1 in
    rw (p.1 ∙ ap Err p.2) (record { openable = tt; formatted = tt; synced = tt; failures = tt; fits = tt; refused = tt })

pub finish-requires : goal.finish-requires
finish-requires g c =
    let sectors = ap length c.in_ok-disk.ensures.zeros ∙ length-replicate c.sectors.result _ in
    record { room = omega (arith, sectors, c.sectors.ensures) }

pub returns-in-Ok : goal.returns-in-Ok
returns-in-Ok g c =
    let done = c.in-Ok.ensures in
    let made = c.in_ok-disk.ensures in
    record {
      openable = done.openable;
      formatted = done.formatted;
      synced = done.synced;
      failures = done.failures ∙ made.failures;
      fits = omega (arith, made.fits.1, c.sectors.ensures);
      refused = tt;
    }

pub returns-in-Err : goal.returns-in-Err
returns-in-Err g c = record { openable = tt; formatted = tt; synced = tt; failures = tt; fits = tt; refused = c.in-Err.ensures.refused }
