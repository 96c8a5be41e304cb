use Rattle.std.proofs.Common.{sym, ◌∙◌}
use Rattle.record_values.specs.Maps.{pair_exact}
use Rattle.model.proofs.AboveLaws.{ranged_above, ranged_all}
use Rattle.model.proofs.entry_map.EntryMap.all_above.Goals as goal

pub returns-in-Some : goal.returns-in-Some
returns-in-Some g c =
    c.range.ensures.between tt
    ∙ sym (ranged_above pair_exact c.self.inside.marks.entries c.args.self.now c.args.pair c.in-Some.pair c.range.ensures.ordered c.self.view_is c.in-Some.is)

pub returns-in-None : goal.returns-in-None
returns-in-None g c =
    c.range-in-None.ensures.between tt
    ∙ sym (ranged_all pair_exact c.self.inside.marks.entries c.args.self.now c.args.pair c.range-in-None.ensures.ordered c.self.view_is c.in-None.is)
