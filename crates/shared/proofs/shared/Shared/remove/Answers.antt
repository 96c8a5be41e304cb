use Rattle.std.proofs.lemmas.Result.{err_from_is_err_and}
use Rattle.shared.proofs.shared.Shared.remove.Goals as goal

pub returns-in_err-removed : goal.returns-in_err-removed
returns-in_err-removed g c =
    let p = err_from_is_err_and c.from_residual.result c.from_residual.ensures.1 in
    let is = c.in_err-removed.ensures in
    rw (p.1, p.2) (record {
      committed = tt;
      made = tt;
      refused = is.refused;
      nothing_stays = is.nothing_stays;
      left = is.left;
      why_left = is.why_left;
      seat = c.make.ensures.seat;
    })

pub returns : goal.returns
returns g c = record {
  committed = c.in_ok-removed.ensures.committed;
  made = c.in_ok-removed.ensures.made;
  refused = tt;
  nothing_stays = tt;
  left = tt;
  why_left = tt;
  seat = c.make.ensures.seat;
}
