use Rattle.std.proofs.Common.{refl}
use Rattle.threads_loops.proofs.run.flush_beside.Goals as goal

pub returns-in-Ok-clean_beside : goal.returns-in-Ok-clean_beside
returns-in-Ok-clean_beside g c =
    let is = c.in-Ok-clean_beside.ensures in
    let kept = (rw (c.ran.ensures, c.in-Ok.ensures.started) at c.join.ensures) in
    rw c.all_ran.ensures (record {
      not_run = tt;
      clients = is.clients;
      flusher = kept.1;
      builder = is.builder;
      cleaner = is.cleaner;
    })

pub returns-in-Err-clean_beside : goal.returns-in-Err-clean_beside
returns-in-Err-clean_beside g c =
    let is = c.in-Err-clean_beside.ensures in
    let kept = (rw (c.called_off.ensures, c.in-Ok.ensures.started) at c.join-in-Err-clean_beside.ensures) in
    record {
      not_run = (kept.0, is.not_run.0, is.not_run.1, is.not_run.2);
      clients = tt;
      flusher = tt;
      builder = tt;
      cleaner = tt;
    }

pub returns-in-Err : goal.returns-in-Err
returns-in-Err g c = record {
  not_run = (c.in-Err.ensures.back, refl, refl, refl);
  clients = tt;
  flusher = tt;
  builder = tt;
  cleaner = tt;
}
