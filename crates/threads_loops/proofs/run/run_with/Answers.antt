use Rattle.threads_loops.proofs.Steps.{built_on, stopped_ends, told_reason}
use Rattle.threads_loops.proofs.run.run_with.Goals as goal

pub tell-told-requires : goal.tell-told-requires
tell-told-requires g c = stopped_ends g.B.Group.site.opened

pub returns-in-Ok : goal.returns-in-Ok
returns-in-Ok g c =
    let o = g.B.Group.site.opened in
    let last = c.in-Ok.ran in
    let is = c.in-Ok.ensures in
    let all = c.ended_by.result in
    let ended = c.ended_by.ensures in
    rw ended.same (record {
      not_run = tt;
      clients = is.clients;
      goes_on = is.flusher.goes_on;
      through = is.flusher.through;
      sound = is.flusher.sound;
      failed = is.flusher.failed;
      builder = built_on o c.args.build last.build last.completed c.tell-told.result.error all.built is.builder c.tell-told.ensures.ends ended.ok ended.err;
      cleaner = is.cleaner;
      told = c.tell-told.ensures.here;
      reason = told_reason last.completed c.tell-told.result.error all.built ended.ok ended.err;
    })

pub returns-in-Err : goal.returns-in-Err
returns-in-Err g c = record {
  not_run = c.in-Err.ensures.not_run;
  clients = tt;
  goes_on = tt;
  through = tt;
  sound = tt;
  failed = tt;
  builder = tt;
  cleaner = tt;
  told = tt;
  reason = tt;
}
