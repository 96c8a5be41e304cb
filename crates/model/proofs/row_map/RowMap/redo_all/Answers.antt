use Rattle.std.proofs.Common.{◌+◌, drop, sym, ap, ◌∙◌}
use Rattle.std.proofs.lemmas.List.{at_drop_more, at_drop_all}
use Rattle.std.proofs.lemmas.Result.{err_from_is_err_and}
use Rattle.records.specs.RecordValue.{RecordValue}
use Rattle.model.specs.Table.{Table}
use Rattle.model.specs.Cells.{rows_after, rows_by}
use Rattle.model.proofs.row_map.RowMap.redo_all.Goals as goal

pub loop-record-preserved : goal.loop-record-preserved
loop-record-preserved g c =
    let now = c.loop-record.self in
    let records = c.args.records.now in
    let i = c.loop-record.record-index in
    let item = c.record-item in
    ap (λ (s : Table). rows_after s (drop (i + 1) records)) c.in_ok-redo.ensures.ok
    ∙ ap (λ (r : RecordValue). rows_after (rows_by now r.action) (drop (i + 1) records)) (c.record.view_is ∙ item.is)
    ∙ sym (at_drop_more (rows_after now) records i item.result c.loop-record-test.true)
    ∙ c.loop-record.invariant

pub returns : goal.returns
returns g c =
    sym (at_drop_all (rows_after (c.loop-record.self)) c.args.records.now c.loop-record.record-index c.loop-record-test.false)
    ∙ c.loop-record.invariant

pub returns-in_err-redo : goal.returns-in_err-redo
returns-in_err-redo g c = rw (err_from_is_err_and c.from_residual.result c.from_residual.ensures.1).1 tt
