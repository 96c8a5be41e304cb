use Rattle.std.proofs.Common.{◌∙◌, ap}
use Rattle.std.proofs.lemmas.Result.{err_from_is_err_and}
use Rattle.block_host.specs.Kinds.{show_blocks}
use Rattle.block_host.proofs.kinds.held_in.Goals as goal

pub returns-then-not-branch : goal.returns-then-not-branch
returns-then-not-branch g c =
    let done = c.in_ok-plain_in.ensures in
    record {
      told = done.told;
      shown = tt;
      read = tt;
      plan = tt;
      sound = done.sound;
      synced = done.synced;
      failures = done.failures;
    }

pub uncompared_in-requires : goal.uncompared_in-requires
uncompared_in-requires g c =
    let done = c.in_ok-below.ensures in record { synced = done.synced; moment = done.moment; failures = done.failures }

pub returns : goal.returns
returns g c =
    let done = c.in_ok-uncompared_in.ensures in
    record {
      told = tt;
      shown = ap show_blocks done.first ∙ c.in_ok-below.ensures.shown;
      read = done.read;
      plan = done.told;
      sound = tt;
      synced = done.synced;
      failures = done.failures;
    }

pub returns-in_err-shows_blocks : goal.returns-in_err-shows_blocks
returns-in_err-shows_blocks g c =
    rw (err_from_is_err_and c.from_residual.result c.from_residual.ensures.1).1
    (record { told = tt; shown = tt; read = tt; plan = tt; sound = tt; synced = tt; failures = tt })

pub returns-in_err-plain_in : goal.returns-in_err-plain_in
returns-in_err-plain_in g c =
    rw (err_from_is_err_and c.from_residual-in_err-plain_in.result c.from_residual-in_err-plain_in.ensures.1).1
    (record { told = tt; shown = tt; read = tt; plan = tt; sound = tt; synced = tt; failures = tt })

pub returns-in_err-below : goal.returns-in_err-below
returns-in_err-below g c =
    rw (err_from_is_err_and c.from_residual-in_err-below.result c.from_residual-in_err-below.ensures.1).1
    (record { told = tt; shown = tt; read = tt; plan = tt; sound = tt; synced = tt; failures = tt })

pub returns-in_err-uncompared_in : goal.returns-in_err-uncompared_in
returns-in_err-uncompared_in g c =
    rw (err_from_is_err_and c.from_residual-in_err-uncompared_in.result c.from_residual-in_err-uncompared_in.ensures.1).1
    (record { told = tt; shown = tt; read = tt; plan = tt; sound = tt; synced = tt; failures = tt })
