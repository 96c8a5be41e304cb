use Rattle.std.proofs.Common.{◌∙◌, ap}
use Rattle.std.proofs.lemmas.Result.{err_from_is_err_and}
use Rattle.sector_device.specs.Disk.{Disk}
use Rattle.block_device.specs.BlocksPast.{BlocksPast}
use Rattle.block_host.specs.Kinds.{are_blocks, show_blocks}
use Rattle.block_host.proofs.kinds.read_device.Goals as goal

pub returns-then-not-branch : goal.returns-then-not-branch
returns-then-not-branch g c =
    let done = c.in_ok-disk.ensures in
    let read = c.with_below-read.ensures in
    record {
      told = ap (λ (d : Disk). are_blocks d.content) read.disk ∙ done.told;
      shown = tt;
      read = tt;
      plan = tt;
      sound = read.failed ∙ done.sound;
      synced = λ k. ap (λ (d : Disk). d.unsynced k) read.disk ∙ done.synced k;
      failures = read.failures ∙ done.failures;
    }

pub uncompared_in-requires : goal.uncompared_in-requires
uncompared_in-requires g c =
    let done = c.in_ok-file.ensures in
    let below = c.with_below-below.ensures in
    record {
      synced = λ n. ap (λ (p : BlocksPast). p.file.loose n) below.past ∙ done.synced n;
      moment = ap (λ (p : BlocksPast). p.moment) below.past ∙ done.moment;
      failures = below.failures ∙ done.failures;
    }

pub returns : goal.returns
returns g c =
    let done = c.in_ok-uncompared_in.ensures in
    record {
      told = tt;
      shown = ap show_blocks (done.first ∙ ap (λ (p : BlocksPast). p.file.content) c.with_below-below.ensures.past)
          ∙ c.in_ok-file.ensures.shown;
      read = done.read;
      plan = done.told;
      sound = tt;
      synced = done.synced;
      failures = done.failures;
    }

pub returns-in_err-taken : goal.returns-in_err-taken
returns-in_err-taken g c =
    rw (err_from_is_err_and c.from_residual.result c.from_residual.ensures.1).1
    (record { told = tt; shown = tt; read = tt; plan = tt; sound = tt; synced = tt; failures = tt })

pub returns-in_err-shows_blocks : goal.returns-in_err-shows_blocks
returns-in_err-shows_blocks g c =
    rw (err_from_is_err_and c.from_residual-in_err-shows_blocks.result c.from_residual-in_err-shows_blocks.ensures.1).1
    (record { told = tt; shown = tt; read = tt; plan = tt; sound = tt; synced = tt; failures = tt })

pub returns-in_err-disk : goal.returns-in_err-disk
returns-in_err-disk g c =
    rw (err_from_is_err_and c.from_residual-in_err-disk.result c.from_residual-in_err-disk.ensures.1).1
    (record { told = tt; shown = tt; read = tt; plan = tt; sound = tt; synced = tt; failures = tt })

pub returns-in_err-file : goal.returns-in_err-file
returns-in_err-file g c =
    rw (err_from_is_err_and c.from_residual-in_err-file.result c.from_residual-in_err-file.ensures.1).1
    (record { told = tt; shown = tt; read = tt; plan = tt; sound = tt; synced = tt; failures = tt })

pub returns-in_err-uncompared_in : goal.returns-in_err-uncompared_in
returns-in_err-uncompared_in g c =
    rw (err_from_is_err_and c.from_residual-in_err-uncompared_in.result c.from_residual-in_err-uncompared_in.ensures.1).1
    (record { told = tt; shown = tt; read = tt; plan = tt; sound = tt; synced = tt; failures = tt })
