use Rattle.std.proofs.Common.{sym, ap, ◌∙◌, arith}
use Rattle.std.proofs.lemmas.List.{drop_all}
use Rattle.std.proofs.lemmas.Result.{err_from_is_err_and}
use Rattle.records.specs.ChangeValue.{ChangeValue}
use Rattle.records.specs.Spelling.{old_row}
use Rattle.model.specs.Table.{Table}
use Rattle.record_values.specs.Maps.{set_at}
use Rattle.model.specs.Cells.{reverted}
use Rattle.model.proofs.CellsLaws.{reverted_one_more}
use Rattle.model.proofs.row_map.RowMap.revert.Goals as goal

pub loop-change-preserved : goal.loop-change-preserved
loop-change-preserved g c =
    let now = c.loop-change.self in
    let rest = c.next.new.self.iter.rest.now in
    let was = ap (set_at now c.change.inside.rid) c.old.ensures ∙ ap (λ (x : ChangeValue). set_at now x.rid (old_row x.rows)) c.change.view_is in
    ap (λ (x : Table). reverted x rest) (c.in_ok-set.ensures.ok ∙ was)
    ∙ sym (reverted_one_more now rest c.in-Some.change.now)
    ∙ sym (ap (reverted now) c.in-Some.ensures.steps)
    ∙ c.loop-change.invariant

pub returns : goal.returns
returns g c =
    let rest = c.loop-change.change-iterator.iter.rest.now in
    ap (reverted c.loop-change.self) (sym (drop_all 0 rest (omega (arith, c.in-None.ensures.steps.0)))) ∙ c.loop-change.invariant

pub returns-in_err-set : goal.returns-in_err-set
returns-in_err-set g c = rw (err_from_is_err_and c.from_residual.result c.from_residual.ensures.1).1 tt
