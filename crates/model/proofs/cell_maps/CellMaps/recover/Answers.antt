use Rattle.std.proofs.Common.{Bool, ap, ◌∙◌}
use Rattle.std.specs.FinMap as map
use Rattle.model.specs.Given.{all_entries_reverted}
use Rattle.model.proofs.cell_maps.CellMaps.recover.Goals as goal

pub returns : goal.returns
returns g c =
    let was = c.args.self in
    let entries = c.in_ok-take_back_entries.ensures
    ∙ ap (λ (b : Bool). all_entries_reverted b was.entries (map.entries was.lists)) c.is_indexed.ensures in
    λ i. record { table = c.in_ok-take_back_rows.ensures i; entries = entries i; life = was.life; last = c.args.last }
