use Rattle.std.proofs.Common.{List, Option, sym, ap, ◌∙◌}
use Rattle.std.specs.FinMap.{empty}
use Rattle.record_values.specs.Maps.{set_at, set_at-get, rid_exact}
use Rattle.record_values.specs.Values.{Place}
use Rattle.record_values.specs.Orders.{rid_cmp}
use Rattle.record_values.specs.declared.row.Row.{Row}
use Rattle.model.specs.Table.{Table}
use Rattle.model.proofs.ExtendedLaws.{extended_more}
use Rattle.model.specs.Extended.{table_of}
use Rattle.store_image_half.proofs.read.add_row.Goals as goal

pub returns-in_ok-push-in-Some : goal.returns-in_ok-push-in-Some
returns-in_ok-push-in-Some g c =
    let rows : List (Place × Row) = c.args.rows.now.items in
    ap table_of c.in_ok-push-in-Some.ensures.items
    ∙ extended_more (empty {R = rid_cmp}) rows c.args.rid c.in-Some.row
    ∙ ap (λ (o : Option Row). set_at (table_of rows) c.args.rid o) (sym c.in-Some.is)

pub returns-in-None : goal.returns-in-None
returns-in-None g c =
    let rows : Table = table_of c.args.rows.now.items in
    sym (set_at-get rid_exact rows c.args.rid) ∙ ap (λ (o : Option Row). set_at rows c.args.rid o) (c.requires ∙ sym c.in-None.is)
