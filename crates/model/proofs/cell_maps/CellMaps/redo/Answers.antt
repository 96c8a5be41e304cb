use Rattle.std.proofs.Common.{◌+◌, drop, sym, ap, ◌∙◌}
use Rattle.std.proofs.lemmas.List.{at_drop_more, at_drop_all}
use Rattle.std.proofs.lemmas.Result.{err_from_is_err_and}
use Rattle.records.specs.RecordValue.{RecordValue}
use Rattle.model.specs.Redo.{cells_of}
use Rattle.model.specs.Cells.{Cells, cells_after, set_by}
use Rattle.model.proofs.cell_maps.CellMaps.redo.Goals as goal

pub loop-record-preserved : goal.loop-record-preserved
loop-record-preserved g c =
    let now = cells_of c.loop-record.self in
    let records = c.args.records.now in
    let i = c.loop-record.record-index in
    let item = c.record-item in
    ap (λ (s : Cells). cells_after s (drop (i + 1) records)) c.in_ok-redo_one.ensures.ok
    ∙ ap (λ (r : RecordValue). cells_after (set_by now r.action) (drop (i + 1) records)) (c.record.view_is ∙ item.is)
    ∙ sym (at_drop_more (cells_after now) records i item.result c.loop-record-test.true)
    ∙ c.loop-record.invariant

pub returns : goal.returns
returns g c =
    sym (at_drop_all (cells_after (cells_of c.loop-record.self)) c.args.records.now c.loop-record.record-index c.loop-record-test.false)
    ∙ c.loop-record.invariant

pub returns-in_err-redo_one : goal.returns-in_err-redo_one
returns-in_err-redo_one g c = rw (err_from_is_err_and c.from_residual.result c.from_residual.ensures.1).1 tt
