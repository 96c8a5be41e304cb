use Rattle.std.proofs.Common.{sym, ap, subst, ◌∙◌}
use Rattle.std.proofs.lemmas.Iterator.{YieldsList-from_slice, items_from_drains}
use Rattle.std.proofs.lemmas.Iterator.Consumers.{YieldsList-at, YieldsList-from_copied}
use Rattle.std.proofs.lemmas.List.{map-id}
use Rattle.std.specs.BTreeMap.{IsFromIterResult}
use Rattle.record_values.specs.Orders.{rid_cmp}
use Rattle.record_values.specs.Maps.{rid_exact}
use Rattle.model.specs.Extended.{extended}
use Rattle.model.proofs.ExtendedLaws.{extended_map}
use Rattle.model.proofs.row_map.RowMap.extend.Goals as goal

pub returns : goal.returns
returns g c =
    let rows = c.args.rows.now in
    let ran = c.in_ok-others.ensures.ran in
    let road = YieldsList-at ran.2 (YieldsList-from_copied {s = c.copied.result}
    (YieldsList-at c.copied.ensures.source (YieldsList-from_slice {s = c.iter.result} rows c.iter.ensures.rest))) in
    let items = sym (map-id ran.1) ∙ items_from_drains ran.1 ran.3 road in
    let made = subst (λ xs. IsFromIterResult rid_cmp xs c.in_ok-others.others) items ran.4 in
    extended_map rid_exact c.self.inside.rows.entries c.in_ok-others.others.entries c.append.new.self.entries rows made.0 made.1
    c.in_ok-append.ensures.inserts_all.0
    ∙ ap (λ m. extended m rows) c.self.view_is
