use Rattle.std.proofs.Common.{Some, add-one, ap, drop, false, length, refl, slice_get, suc, sym, true, ◌∙◌, ◌≡◌, ◌≢◌}
use Rattle.std.proofs.lemmas.Option.{slice_get_read}
use Rattle.std.specs.FinMap.{get}
use Rattle.records.specs.ChangeValue.{ChangeValue}
use Rattle.records.specs.Spelling.{old_row}
use Rattle.model.specs.Cells.{reverted}
use Rattle.core_committed.proofs.Reverted.{are_same, drop_here, first_back, later_back, place_is, place_not}
use Rattle.core_committed.proofs.rows.taken_back.Goals as goal

pub returns-then-eq : goal.returns-then-eq
returns-then-eq c = λ rows is.
    let changes = c.args.changes.now in
    let i = c.loop-change.change-index in
    let r : ChangeValue = c.change-item.result in
    let here : slice_get changes i ≡ Some r = slice_get_read changes (length changes) i r refl c.loop-change-test.true c.change-item.is in
    let same : are_same c.change.inside.rid c.args.rid ≡ true = cc in
    let place : r.rid ≡ c.args.rid = sym (ap (λ (x : ChangeValue). x.rid) c.change.view_is) ∙ place_is c.change.inside.rid c.args.rid same in
    c.old.ensures ∙ ap (λ (x : ChangeValue). old_row x.rows) c.change.view_is
    ∙ sym (first_back rows r (drop (suc i) changes) c.args.rid place)
    ∙ ap (λ cs. get (reverted rows cs) c.args.rid) (sym (drop_here changes i r here))
    ∙ c.loop-change.invariant rows

pub loop-change-preserved : goal.loop-change-preserved
loop-change-preserved c = λ rows.
    let changes = c.args.changes.now in
    let i = c.loop-change.change-index in
    let r : ChangeValue = c.change-item.result in
    let here : slice_get changes i ≡ Some r = slice_get_read changes (length changes) i r refl c.loop-change-test.true c.change-item.is in
    let other : are_same c.change.inside.rid c.args.rid ≡ false = cc in
    let apart : r.rid ≢ c.args.rid = λ same. place_not c.change.inside.rid c.args.rid other (ap (λ (x : ChangeValue). x.rid) c.change.view_is ∙ same) in
    ap (λ n. get (reverted rows (drop n changes)) c.args.rid) (add-one i)
    ∙ sym (later_back rows r (drop (suc i) changes) c.args.rid apart)
    ∙ ap (λ cs. get (reverted rows cs) c.args.rid) (sym (drop_here changes i r here))
    ∙ c.loop-change.invariant rows
