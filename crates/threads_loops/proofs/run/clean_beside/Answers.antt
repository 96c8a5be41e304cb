use Rattle.std.proofs.Common.{refl}
use Rattle.threads_loops.proofs.run.clean_beside.Goals as goal

pub returns-in-Ok-build_beside : goal.returns-in-Ok-build_beside
returns-in-Ok-build_beside g c =
    let is = c.in-Ok-build_beside.ensures in
    let kept = (rw (c.ran.ensures, c.in-Ok.ensures.started) at c.join.ensures) in
    record {
      not_run = tt;
      clients = is.clients;
      builder = is.builder;
      cleaner = kept.1;
    }

pub returns-in-Err-build_beside : goal.returns-in-Err-build_beside
returns-in-Err-build_beside g c =
    let is = c.in-Err-build_beside.ensures in
    let kept = (rw (c.called_off.ensures, c.in-Ok.ensures.started) at c.join-in-Err-build_beside.ensures) in
    record {
      not_run = (is.not_run.0, kept.0, is.not_run.1);
      clients = tt;
      builder = tt;
      cleaner = tt;
    }

pub returns-in-Err : goal.returns-in-Err
returns-in-Err g c = record {
  not_run = (refl, c.in-Err.ensures.back, refl);
  clients = tt;
  builder = tt;
  cleaner = tt;
}
