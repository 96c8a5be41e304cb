use Rattle.std.proofs.Common.{◌∙◌, Err, ap, inl}
use Rattle.std.proofs.lemmas.Result.{err_from_is_err_and, on_ok_weaker}
use Rattle.locked_core.specs.Locked.{locked_of}
use Rattle.threads_lifetime.proofs.Going.{writes_by_taking, writes_then}
use Rattle.threads_lifetime.proofs.Taking.{begins_as}
use Rattle.threads_lifetime.proofs.writing.write_out.Goals as goal

pub write_groups-requires : goal.write_groups-requires
write_groups-requires g c = record {
  board = c.requires.board;
  all = c.in_ok-taken.ensures.all;
  none_waits = c.in_ok-taken.ensures.none_waits;
}

pub returns-in_err-taken : goal.returns-in_err-taken
returns-in_err-taken g c =
    let is = c.hand_in_all-taken.ensures in
    let p = err_from_is_err_and c.from_residual.result c.from_residual.ensures.1 in
    rw (p.1 ∙ ap Err p.2) (record {
      writes = writes_by_taking g.D.Device.past_of g.D.Device.failures g.B.Group.site.opened c.args.flush.now c.hand_in_all-taken.new.flush
          c.stands.ensures is.taken;
      beginning = is.beginning;
      popped = is.popped;
      all = tt;
      none_waits = tt;
      synced = tt;
      book = is.book;
      sound = tt;
      err = inl c.in_err-taken.ensures.no_memory;
    })

pub returns : goal.returns
returns g c =
    let past_of = g.D.Device.past_of in
    let failures = g.D.Device.failures in
    let o = g.B.Group.site.opened in
    let old = c.args.flush.now in
    let mid = c.hand_in_all-taken.new.flush in
    let new = c.write_groups.new.flush in
    let first = c.hand_in_all-taken.ensures in
    let is = c.write_groups.ensures in
    record {
      writes = writes_then past_of failures o old mid new (writes_by_taking past_of failures o old mid c.stands.ensures first.taken) is.writes;
      beginning = begins_as mid.handed new.handed (locked_of c.hand_in_all-taken.new.locked).pushed is.handed first.beginning;
      popped = first.popped;
      all = on_ok_weaker c.write_groups.result (λ sound. is.handed ∙ c.in_ok-taken.ensures.all) is.sound;
      none_waits = on_ok_weaker c.write_groups.result (λ sound. c.in_ok-taken.ensures.none_waits) is.sound;
      synced = is.synced;
      book = first.book;
      sound = is.sound;
      err = is.err;
    }
