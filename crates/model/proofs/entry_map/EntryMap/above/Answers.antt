use Rattle.std.proofs.Common.{ap, sym, ◌∙◌}
use Rattle.std.specs.Prelude.{slice_get}
use Rattle.record_values.specs.Maps.{pair_exact}
use Rattle.model.proofs.AboveLaws.{ranged_above}
use Rattle.model.proofs.entry_map.EntryMap.above.Goals as goal

pub returns-in_err-pair : goal.returns-in_err-pair
returns-in_err-pair g c =
    c.from_residual.ensures
    ∙ ap (λ es. slice_get es 0) (sym
    (ranged_above pair_exact c.self.inside.marks.entries c.args.self.now c.args.pair c.in-Some.start c.range.ensures.ordered c.self.view_is c.in-Some.is
    ∙ sym (c.range.ensures.between tt) ∙ c.in_err-pair.ensures.steps.0))

pub returns : goal.returns
returns g c =
    ap (λ es. slice_get es 0) (sym
    (ranged_above pair_exact c.self.inside.marks.entries c.args.self.now c.args.pair c.in-Some.start c.range.ensures.ordered c.self.view_is c.in-Some.is
    ∙ sym (c.range.ensures.between tt) ∙ c.in_ok-pair.ensures.steps))
