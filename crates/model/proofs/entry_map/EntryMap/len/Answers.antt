use Rattle.std.proofs.Common.{sym, ◌∙◌}
use Rattle.record_values.specs.Maps.{pair_exact}
use Rattle.model.proofs.MapLaws.{ordered_len}
use Rattle.model.proofs.entry_map.EntryMap.len.Goals as goal

pub returns : goal.returns
returns g c = c.len.ensures.len ∙ sym (ordered_len pair_exact c.self.inside.marks.entries c.args.self.now c.len.ensures.ordered c.self.view_is)
