use Rattle.std.proofs.Common.{sym, ap, ◌∙◌, arith}
use Rattle.std.proofs.lemmas.List.{drop_all}
use Rattle.std.proofs.lemmas.Result.{err_from_is_err_and}
use Rattle.record_values.specs.Entries.{Index}
use Rattle.model.specs.Given.{entries_reverted}
use Rattle.model.proofs.MapLaws.{entries_one_more}
use Rattle.model.proofs.entry_map.EntryMap.revert.Goals as goal

pub loop-change-preserved : goal.loop-change-preserved
loop-change-preserved g c =
    let indexed = c.args.indexed in
    let now = c.loop-change.self in
    let rest = c.next.new.self.iter.rest.now in
    ap (λ (x : Index). entries_reverted indexed x rest) c.in_ok-take_back.ensures
    ∙ sym (entries_one_more indexed now rest c.in-Some.change.now)
    ∙ sym (ap (entries_reverted indexed now) c.in-Some.ensures.steps)
    ∙ c.loop-change.invariant

pub returns : goal.returns
returns g c =
    let rest = c.loop-change.change-iterator.iter.rest.now in
    ap (entries_reverted c.args.indexed c.loop-change.self) (sym (drop_all 0 rest (omega (arith, c.in-None.ensures.steps.0)))) ∙ c.loop-change.invariant

pub returns-in_err-take_back : goal.returns-in_err-take_back
returns-in_err-take_back g c = rw (err_from_is_err_and c.from_residual.result c.from_residual.ensures.1).1 tt
