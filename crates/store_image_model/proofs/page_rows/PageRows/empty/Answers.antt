use Rattle.std.proofs.Common.{List, Option, length, inl, ap}
use Rattle.record_values.specs.declared.row.Row.{Row}
use Rattle.store_image_model.specs.Slots.{rows_from}
use Rattle.store_image_model.proofs.page_rows.PageRows.empty.Goals as goal

pub invariant_of-result : goal.invariant_of-result
invariant_of-result g c = inl (ap length c.new.ensures.items)

pub returns : goal.returns
returns g c = ap (λ (xs : List (Option Row)). rows_from 0 0 xs) c.new.ensures.items
