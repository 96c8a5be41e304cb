use Rattle.std.proofs.Common.{◌≡◌, ℕ, ◌<◌, ◌≤◌, Option, Some, None}
use Rattle.std.specs.Prelude.{slice_get}
use Rattle.record_values.specs.declared.rid.TheConstants.{SLOTS_PER_PAGE}
use Rattle.record_values.specs.declared.row.Row.{Row}
use Rattle.record_values.specs.declared.version.Version.TheVariants.{Two}
use Rattle.store_image_half.specs.Layout.{row_of}
use Rattle.store_image_half.specs.Image.{HasEdges, IsRow}
use Rattle.store_image_half.proofs.page.put_rows.Given as goal

abbrev pub invariant-loop-slot : goal.invariant-loop-slot
invariant-loop-slot l = record {
  edges : HasEdges Two l.initial.page → HasEdges Two l.page;
  rows : (k : ℕ) (o : Option Row) → k < l.slot → slice_get l.rows k ≡ Some o → IsRow (row_of Two l.page k) o;
  rest : (k : ℕ) → l.slot ≤ k → k < SLOTS_PER_PAGE → IsRow (row_of Two l.page k) None;
}
