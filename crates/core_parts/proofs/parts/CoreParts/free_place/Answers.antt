use Rattle.std.proofs.Common.{refl}
use Rattle.std.proofs.lemmas.Result.{err_from_is_err_and}
use Rattle.core_parts.specs.Parts.{parts_of}
use Rattle.core_parts.proofs.Inserting.{is_unheld_place, no_empty_place, no_place, place_by}
use Rattle.core_parts.proofs.parts.CoreParts.free_place.Goals as goal

pub returns-in_err-least_empty : goal.returns-in_err-least_empty
returns-in_err-least_empty g c =
    let p = err_from_is_err_and c.from_residual.result c.from_residual.ensures.1 in
    rw (p.1, p.2) (record {
      place = tt;
      none = λ e. no_empty_place (parts_of c.args.self.now) (c.in_err-least_empty.ensures.full refl);
      heap_full = c.in_err-least_empty.ensures.heap_full;
    })

pub returns-then-are_held_before : goal.returns-then-are_held_before
returns-then-are_held_before g c = record {
  place = is_unheld_place (parts_of c.args.self.now) c.in_ok-least_empty.least_empty c.in_ok-least_empty.ensures.free c.in_ok-least_empty.ensures.least
      (c.are_held_before.ensures.unheld c.if-are_held_before.true);
  none = λ e. absurd cc;
  heap_full = tt;
}

pub returns-clause-place : goal.returns-clause-place
returns-clause-place g c =
    place_by (parts_of c.args.self.now) c.held_rows.result.now c.held_rows.ensures c.least_free-2.result
    c.least_free-2.ensures.free c.least_free-2.ensures.least

pub returns-clause-none : goal.returns-clause-none
returns-clause-none g c = λ e. no_place (parts_of c.args.self.now) c.held_rows.result.now c.held_rows.ensures (c.least_free-2.ensures.full e)
