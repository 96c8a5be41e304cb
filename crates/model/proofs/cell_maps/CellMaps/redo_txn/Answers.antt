use Rattle.std.proofs.Common.{◌≡◌, List, Option, sym, ap, ◌∙◌}
use Rattle.records.specs.ChangeValue.{ChangeValue}
use Rattle.model.specs.Cells.{Cells, Pending, list_by, list_of, with_list}
use Rattle.model.proofs.MapLaws.{changed_there, put_back_again}
use Rattle.model.proofs.cell_maps.CellMaps.redo_txn.Goals as goal

pub put_back-requires : goal.put_back-requires
put_back-requires g c none =
    let lists : Pending = c.args.self.now.lists in
    let other : Option (List ChangeValue) = list_by (list_of lists c.args.txn) c.args.action.now in
    let is : c.set_part.new.self.lists ≡ with_list lists c.args.txn other = ap (λ (x : Cells). x.pending) c.in-Err.ensures.err ∙ c.in_ok-was.ensures.ok in
    c.in-Err.ensures.step (list_of lists c.args.txn) (sym (changed_there lists c.set_part.new.self.lists c.args.txn other is) ∙ none)

pub returns-in-Err-clause-err : goal.returns-in-Err-clause-err
returns-in-Err-clause-err g c =
    let lists : Pending = c.args.self.now.lists in
    let other : Option (List ChangeValue) = list_by (list_of lists c.args.txn) c.args.action.now in
    let err = c.in-Err.ensures.err in
    let is : c.set_part.new.self.lists ≡ with_list lists c.args.txn other = ap (λ (x : Cells). x.pending) err ∙ c.in_ok-was.ensures.ok in
    let back : c.put_back.new.self ≡ lists =
    put_back_again lists c.set_part.new.self.lists c.put_back.new.self c.args.txn other _ c.in_ok-was.ensures.was is c.put_back.ensures in
    λ i. record { rows = (err i).rows; entries = (err i).entries; pending = back i; life = (err i).life }
