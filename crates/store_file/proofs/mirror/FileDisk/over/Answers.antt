use Rattle.std.proofs.Common.{length, ◌∙◌, ap}
use Rattle.std.proofs.Math.ListN.{length-replicate}
use Rattle.std.proofs.lemmas.Result.{err_from_is_err_and}
use Rattle.sector_device.specs.Disk.{Disk}
use Rattle.sector_device.specs.Values.{zero_sector}
use Rattle.store_file.proofs.mirror.FileDisk.over.Goals as goal

pub returns : goal.returns
returns g c =
    let made = c.in_ok-disk.ensures in
    let loaded = c.load.ensures in
    let done = c.settle.ensures in
    record {
      sectors = ap (λ (d : Disk). length d.content) done.disk ∙ loaded.size ∙ ap length made.zeros
          ∙ length-replicate c.args.sectors zero_sector;
      synced = λ k. ap (λ (d : Disk). d.unsynced k) done.disk;
      failures = done.failures ∙ loaded.failures ∙ made.failures;
      sound = done.failed ∙ loaded.failed ∙ made.sound;
    }

pub returns-in-Err : goal.returns-in-Err
returns-in-Err g c = record { sectors = tt; synced = tt; failures = tt; sound = tt }

pub returns-in_err-disk : goal.returns-in_err-disk
returns-in_err-disk g c =
    rw (err_from_is_err_and c.from_residual.result c.from_residual.ensures.1).1
    (record { sectors = tt; synced = tt; failures = tt; sound = tt })
