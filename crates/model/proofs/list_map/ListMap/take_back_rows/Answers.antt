use Rattle.std.proofs.Common.{◌∙◌, ap}
use Rattle.model.proofs.MapLaws.{each_reverted, reverted-entries}
use Rattle.model.proofs.list_map.ListMap.take_back_rows.Goals as goal

pub loop-changes-init : goal.loop-changes-init
loop-changes-init g c =
    ap (each_reverted c.args.rows) (c.into_iter-changes-iterator.ensures.into_iter_gives ∙ c.values-changes-items.ensures.rest)
    ∙ reverted-entries c.args.rows c.self.inside.lists.entries c.args.self.now c.values-changes-items.ensures.ordered c.self.view_is
