use Rattle.std.proofs.Common.{ap, ◌∙◌, None}
use Rattle.record_values.specs.Maps.{set_at}
use Rattle.model.proofs.MapLaws.{list_there, one_list_set}
use Rattle.model.proofs.list_map.ListMap.remove.Goals as goal

pub returns-clause-was : goal.returns-clause-was
returns-clause-was g c = list_there c.self.inside.lists.entries c.args.txn c.args.self.now c.remove.result c.self.view_is c.remove.ensures.value

pub returns-clause-gone : goal.returns-clause-gone
returns-clause-gone g c =
    one_list_set c.self.inside.lists.entries c.remove.new.self.entries c.args.txn None c.remove.ensures.updates.0
    ∙ ap (λ m. set_at m c.args.txn None) c.self.view_is
