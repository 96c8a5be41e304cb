use Rattle.std.proofs.Common.{refl, sym, ◌≡◌}
use Rattle.std.proofs.lemmas.Result.{err_from_is_err_and}
use Rattle.record_values.specs.declared.error.Error.TheVariants.{HeapFull, NoMemory}
use Rattle.core_parts.specs.Parts.{parts_of}
use Rattle.core_parts.proofs.Inserting.{able, insert_unable, insert_unplaced, insert_unroomy, may_start, unable}
use Rattle.core_parts.proofs.Checking.{unable_by_state, unroomy_by_state}
use Rattle.core_parts.proofs.parts.CoreParts.place_for.Goals as goal

pub returns-in_err-check_change : goal.returns-in_err-check_change
returns-in_err-check_change g c =
    let p = err_from_is_err_and c.from_residual.result c.from_residual.ensures.1 in
    let v = parts_of c.args.self.now in
    let why = unable v c.args.txn c.in_err-check_change.field-0.0 (sym c.in_err-check_change.ensures) in
    rw (p.1, p.2) (record {
      refused = λ row. insert_unable v c.args.txn row c.requires _ why;
      by_state = unable_by_state v _ c.args.txn why;
      place = tt;
      may = tt;
      number = tt;
    })

pub returns-in_err-rid : goal.returns-in_err-rid
returns-in_err-rid g c =
    let p = err_from_is_err_and c.from_residual-in_err-rid.result c.from_residual-in_err-rid.ensures.1 in
    let v = parts_of c.args.self.now in
    rw (p.1, p.2, c.in_err-rid.ensures.heap_full) (record {
      refused = λ row. insert_unplaced v c.args.txn row c.requires (able v c.args.txn (sym c.in_ok-check_change.ensures))
          (c.in_err-rid.ensures.none refl);
      by_state = λ lack. let other : HeapFull ≡ NoMemory = lack in absurd cc;
      place = tt;
      may = tt;
      number = tt;
    })

pub returns-in_err-number : goal.returns-in_err-number
returns-in_err-number g c =
    let p = err_from_is_err_and c.from_residual-in_err-number.result c.from_residual-in_err-number.ensures.1 in
    let v = parts_of c.args.self.now in
    let place = c.in_ok-rid.ensures.place in
    rw (p.1, p.2) (record {
      refused = λ row. insert_unroomy v c.args.txn row c.requires (able v c.args.txn (sym c.in_ok-check_change.ensures)) c.in_ok-rid.rid place _
          c.in_err-number.ensures.err;
      by_state = unroomy_by_state v _ c.in_err-number.ensures.err;
      place = tt;
      may = tt;
      number = tt;
    })

pub returns : goal.returns
returns g c =
    let v = parts_of c.args.self.now in
    let place = c.in_ok-rid.ensures.place in
    record {
      refused = tt;
      by_state = tt;
      place = place;
      may = may_start v c.args.txn c.in_ok-rid.rid (sym c.in_ok-check_change.ensures) place c.in_ok-number.ensures.fits c.in_ok-number.ensures.numbered.0;
      number = c.in_ok-number.ensures.numbered.1;
    }
