use Rattle.std.proofs.Common.{◌∙◌, Err, Ok, OnOk, Result, ap, inl}
use Rattle.std.proofs.lemmas.Result.{err_from_is_err_and, IfErr-weaker}
use Rattle.threads_lifetime.proofs.closing.close.Goals as goal

on_ok : {T E P : Type 0} (r : Result T E) → P → OnOk r P
on_ok (Ok x) p = p
on_ok (Err e) p = tt

pub write_out-requires : goal.write_out-requires
write_out-requires g c = record { queue = c.requires.queue; board = c.requires.board }

pub returns-in_err-write_out : goal.returns-in_err-write_out
returns-in_err-write_out g c =
    let is = c.write_out.ensures in
    let p = err_from_is_err_and c.from_residual.result c.from_residual.ensures.1 in
    rw (p.1 ∙ ap Err p.2) (record {
      writes = is.writes;
      beginning = is.beginning;
      popped = is.popped;
      all = tt;
      none_waits = tt;
      synced = tt;
      given = tt;
      gathered = tt;
      book = is.book;
      sound = tt;
      err = c.in_err-write_out.ensures.err;
    })

pub returns : goal.returns
returns g c =
    let is = c.write_out.ensures in
    let well = c.in_ok-write_out.ensures in
    let r = c.gather_commits.result in
    record {
      writes = is.writes;
      beginning = is.beginning;
      popped = is.popped;
      all = on_ok r well.all;
      none_waits = on_ok r well.none_waits;
      synced = on_ok r well.synced;
      given = c.gather_commits.ensures.given;
      gathered = c.gather_commits.ensures.ok;
      book = is.book;
      sound = on_ok r well.sound;
      err = IfErr-weaker r _ _ (λ e none. inl none) c.gather_commits.ensures.no_memory;
    }
