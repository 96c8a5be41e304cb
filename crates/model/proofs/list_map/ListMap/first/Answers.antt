use Rattle.std.proofs.Common.{Some, ap, sym, ◌∙◌}
use Rattle.std.specs.Prelude.{slice_get, option_map}
use Rattle.model.specs.Lists.{listed}
use Rattle.model.proofs.MapLaws.{entries-listed}
use Rattle.model.proofs.list_map.ListMap.first.Goals as goal

pub returns-in_err-txn : goal.returns-in_err-txn
returns-in_err-txn g c =
    ap (option_map (λ l. (l.0, l.1.now))) c.from_residual.ensures
    ∙ ap (λ es. slice_get es 0) (sym (entries-listed c.self.inside.lists.entries c.args.self.now c.iter.ensures.ordered c.self.view_is
    ∙ ap listed (sym c.iter.ensures.rest ∙ c.in_err-txn.ensures.steps.0)))

pub returns : goal.returns
returns g c =
    ap (λ items. Some (c.in_ok-txn.txn.now, items)) c.deref.ensures.value
    ∙ ap (λ es. slice_get es 0) (sym (entries-listed c.self.inside.lists.entries c.args.self.now c.iter.ensures.ordered c.self.view_is
    ∙ ap listed (sym c.iter.ensures.rest ∙ c.in_ok-txn.ensures.steps)))
