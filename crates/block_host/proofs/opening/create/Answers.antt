use Rattle.std.proofs.Common.{arith}
use Rattle.std.proofs.lemmas.Result.{err_from_is_err_and}
use Rattle.block_host.proofs.opening.create.Goals as goal

pub returns-in-Ok : goal.returns-in-Ok
returns-in-Ok g c =
    let done = c.in-Ok.ensures in
    let fits = c.in_ok-disk.ensures.fits in
    record {
      zeros = done.zeros;
      fits = (omega (arith, fits.0), omega (arith, fits.1));
      synced = done.synced;
      moment = done.moment;
      failures = done.failures;
      back = done.back;
      sound = done.sound;
    }

pub returns-in_err-disk : goal.returns-in_err-disk
returns-in_err-disk g c =
    rw (err_from_is_err_and c.from_residual.result c.from_residual.ensures.1).1
    (record { zeros = tt; fits = tt; synced = tt; moment = tt; failures = tt; back = tt; sound = tt })
