use Rattle.std.proofs.Common.{ap, is_some, sym, ◌∙◌}
use Rattle.std.proofs.lemmas.Result.{err_from_is_err_and}
use Rattle.core_parts.specs.Private.{is_unroomy}
use Rattle.core_parts.specs.Parts.{parts_of}
use Rattle.core_parts.proofs.Changing.{may_touch, untouchable}
use Rattle.core_parts.proofs.parts.CoreParts.row_for.Goals as goal

pub returns-in_err-check_touch : goal.returns-in_err-check_touch
returns-in_err-check_touch g c =
    let p = err_from_is_err_and c.from_residual.result c.from_residual.ensures.1 in
    rw (p.1, p.2) (record {
      found = tt;
      may = tt;
      number = tt;
      err = untouchable (parts_of c.args.self.now) c.args.txn c.args.rid _ (sym c.in_err-check_touch.ensures);
    })

pub returns-in_err-number : goal.returns-in_err-number
returns-in_err-number g c =
    let p = err_from_is_err_and c.from_residual-in_err-number.result c.from_residual-in_err-number.ensures.1 in
    let may = may_touch (parts_of c.args.self.now) c.args.txn c.args.rid (sym c.in_ok-check_touch.ensures) in
    rw (p.1, p.2) (record {
      found = tt;
      may = tt;
      number = tt;
      err = is_unroomy may.0 may.1 c.in_ok-old.old (sym c.get.ensures.row ∙ c.in_ok-old.ensures.ok_part) c.in_err-number.ensures.err;
    })

pub returns : goal.returns
returns g c = record {
  found = sym c.get.ensures.row ∙ c.in_ok-old.ensures.ok_part;
  may = record {
    able = (may_touch (parts_of c.args.self.now) c.args.txn c.args.rid (sym c.in_ok-check_touch.ensures)).0;
    free = sym c.in_ok-check_touch.ensures;
    inside = (c.get.ensures.inside (ap is_some c.in_ok-old.ensures.ok_part)).0;
    fits = c.in_ok-number.ensures.fits;
    numbered = c.in_ok-number.ensures.numbered.0;
  };
  number = c.in_ok-number.ensures.numbered.1;
  err = tt;
}
