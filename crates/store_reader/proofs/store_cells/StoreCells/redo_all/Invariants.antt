use Rattle.std.proofs.Common.{◌≡◌, take}
use Rattle.model.specs.Following.{AreFollowing}
use Rattle.store_reader.specs.Store.{after_records}
use Rattle.store_reader.proofs.store_cells.StoreCells.redo_all.Given as goal

abbrev pub invariant-loop-index : goal.invariant-loop-index
invariant-loop-index g l = record {
  following : AreFollowing l.fn.self.geometry.pages l.fn.self.last l.fn.self.cells (take l.index l.records);
  reached : l.self ≡ after_records l.fn.self (take l.index l.records);
}
