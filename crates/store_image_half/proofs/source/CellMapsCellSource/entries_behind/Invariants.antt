use Rattle.std.proofs.Common.{◌≡◌, ℕ, ◌<◌, None, drop, length, get_or}
use Rattle.std.specs.Prelude.{slice_get}
use Rattle.model.specs.Above.{entries_above}
use Rattle.store_image_half.proofs.source.CellMapsCellSource.entries_behind.Given as goal

abbrev pub invariant-loop-place : goal.invariant-loop-place
invariant-loop-place g l = record {
  count : length l.found ≡ 8;
  found : (i : ℕ) → i < l.place → get_or l.found i None ≡ slice_get (entries_above l.self.entries l.fn.pair) i;
  rest : l.rest ≡ drop l.place (entries_above l.self.entries l.fn.pair);
}
