use Rattle.std.proofs.Common.{◌∙◌, Err, ap}
use Rattle.std.proofs.lemmas.Result.{err_from_is_err_and}
use Rattle.block_host.proofs.Devices.{has_room, made_back, why_none}
use Rattle.block_host.proofs.opening.create_disk.Goals as goal

pub returns-in-Err : goal.returns-in-Err
returns-in-Err g c =
    let done = c.in-Err.ensures in
    let made = c.in_ok-below.ensures in
    record {
      plan = tt;
      still = tt;
      headers = tt;
      zeros = tt;
      synced = tt;
      good = tt;
      failures = tt;
      written_back = tt;
      refused = λ error is. why_none c.in-Err.refused.error error is done.header
          (λ short. done.too_short short (has_room c.args.plan _ c.file_blocks.result c.requires c.file_blocks.ensures made.zeros))
          done.batch done.undamaged;
      undamaged = λ n same. cc;
    }

pub returns-in-Ok : goal.returns-in-Ok
returns-in-Ok g c =
    let done = c.in-Ok.ensures in
    let made = c.in_ok-below.ensures in
    record {
      plan = done.plan;
      still = done.still;
      headers = done.headers;
      zeros = done.content;
      synced = done.synced;
      good = done.good;
      failures = done.failures ∙ made.failures;
      written_back = made_back c.args.plan c.in_ok-below.below c.in-Ok.disk made.moment made.back done.written_back;
      refused = tt;
      undamaged = tt;
    }

pub returns-in_err-below : goal.returns-in_err-below
returns-in_err-below g c =
    let p = err_from_is_err_and c.from_residual.result c.from_residual.ensures.1 in
    rw (p.1 ∙ ap Err p.2) (record {
      plan = tt;
      still = tt;
      headers = tt;
      zeros = tt;
      synced = tt;
      good = tt;
      failures = tt;
      written_back = tt;
      refused = λ error same. cc;
      undamaged = λ n same. cc;
    })
