use Rattle.std.proofs.Common.{ap, sym, ◌∙◌}
use Rattle.std.specs.Prelude.{slice_get}
use Rattle.record_values.specs.Maps.{pair_exact}
use Rattle.model.proofs.MapLaws.{ordered_entries}
use Rattle.model.proofs.entry_map.EntryMap.first.Goals as goal

pub returns-in_err-pair : goal.returns-in_err-pair
returns-in_err-pair g c =
    c.from_residual.ensures
    ∙ ap (λ es. slice_get es 0) (sym (ordered_entries pair_exact c.self.inside.marks.entries c.args.self.now c.iter.ensures.ordered c.self.view_is
    ∙ sym c.iter.ensures.rest ∙ c.in_err-pair.ensures.steps.0))

pub returns : goal.returns
returns g c =
    ap (λ es. slice_get es 0) (sym (ordered_entries pair_exact c.self.inside.marks.entries c.args.self.now c.iter.ensures.ordered c.self.view_is
    ∙ sym c.iter.ensures.rest ∙ c.in_ok-pair.ensures.steps))
