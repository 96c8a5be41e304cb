use Rattle.std.proofs.Common.{ℕ, ◌∙◌, ap, replicate}
use Rattle.std.proofs.lemmas.Result.{err_from_is_err_and}
use Rattle.sector_device.specs.Values.{zero_sector}
use Rattle.program_files.proofs.making.create_device.Goals as goal

pub returns-then-has_blocks : goal.returns-then-has_blocks
returns-then-has_blocks g c =
    let done = c.in_ok-disk.ensures in
    record {
      zeros = done.zeros ∙ ap (λ (n : ℕ). replicate n zero_sector) c.in_ok-plan.ensures.sectors;
      synced = done.synced;
      failures = done.failures;
      plain = tt;
      blocks = c.if-has_blocks.true;
    }

pub returns : goal.returns
returns g c =
    let done = c.in_ok-disk-2.ensures in
    record {
      zeros = done.zeros ∙ ap (λ (n : ℕ). replicate n zero_sector) c.sectors.ensures;
      synced = done.synced;
      failures = done.failures;
      plain = c.if-has_blocks.false;
      blocks = tt;
    }

pub returns-in_err-plan : goal.returns-in_err-plan
returns-in_err-plan g c =
    rw (err_from_is_err_and c.from_residual.result c.from_residual.ensures.1).1
    (record { zeros = tt; synced = tt; failures = tt; plain = tt; blocks = tt })

pub returns-in_err-disk : goal.returns-in_err-disk
returns-in_err-disk g c =
    rw (err_from_is_err_and c.from_residual-in_err-disk.result c.from_residual-in_err-disk.ensures.1).1
    (record { zeros = tt; synced = tt; failures = tt; plain = tt; blocks = tt })

pub returns-in_err-disk-2 : goal.returns-in_err-disk-2
returns-in_err-disk-2 g c =
    rw (err_from_is_err_and c.from_residual-in_err-disk-2.result c.from_residual-in_err-disk-2.ensures.1).1
    (record { zeros = tt; synced = tt; failures = tt; plain = tt; blocks = tt })
