use Rattle.std.proofs.Common.{◌≡◌, ◌<◌, ℕ, length}
use Rattle.std.specs.List.{All}
use Rattle.model.proofs.PageLaws.{place, IsShown, IsRowOf}
use Rattle.model.proofs.row_map.RowMap.page.Given as goal

abbrev pub invariant-loop-rid : goal.invariant-loop-rid
invariant-loop-rid g l = record {
  count : length l.rows ≡ 63;
  inside : All (IsRowOf l.page l.self) l.rid-iterator;
  shown : (slot : ℕ) → slot < 63 → IsShown l.self l.rid-iterator l.rows (place l.page slot);
}
