use Rattle.std.proofs.Common.{◌≡◌, ℕ, ◌≤◌, List, length, Some, sym, ap, ◌∙◌, arith}
use Rattle.std.specs.Prelude.{slice_get}
use Rattle.std.specs.Option.{option_map}
use Rattle.std.specs.FinMap.{entries}
use Rattle.records.specs.ChangeValue.{ChangeValue}
use Rattle.store_image_half.proofs.Writing.{list_short}
use Rattle.store_image_half.proofs.whole.head_behind.Goals as goal

pub overflow_cast-result : goal.overflow_cast-result
overflow_cast-result g c =
    let cells = g.S.CellSource.cells c.args.source.now in
    let n : ℕ = c.requires.reached.0 in
    let list : ℕ × List ChangeValue = (c.in-Some.list.0, c.in-Some.list.1.now) in
    let there : slice_get (entries cells.pending) n ≡ Some list = sym (c.requires.reached.1 _ c.list_behind.ensures)
    ∙ ap (option_map (λ l. (l.0, l.1.now))) c.in-Some.is in
    let short : length list.1 ≤ 64 = list_short c.args.geometry cells c.requires.fits n list there in
    omega (arith, short)
