use Rattle.std.proofs.Common.{◌∙◌, ap}
use Rattle.model.proofs.MapLaws.{each_entries_reverted, entries_reverted-entries}
use Rattle.model.proofs.list_map.ListMap.take_back_entries.Goals as goal

pub loop-changes-init : goal.loop-changes-init
loop-changes-init g c =
    ap (each_entries_reverted c.args.indexed c.args.entries) (c.into_iter-changes-iterator.ensures.into_iter_gives ∙ c.values-changes-items.ensures.rest)
    ∙ entries_reverted-entries c.args.indexed c.args.entries c.self.inside.lists.entries c.args.self.now c.values-changes-items.ensures.ordered c.self.view_is
