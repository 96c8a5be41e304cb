-- How many rows and entries a core holds, as it tells.
use Rattle.std.specs.FinMap.{len}
use Rattle.std.specs.Prelude.{◌-◌, ◌≡◌}
use Rattle.core_parts.specs.Counts.{live_in, marked_in}
use Rattle.core_parts.specs.View.{CoreValue}
use Rattle.nsf_core.specs.declared.counts.Counts.{Counts}

-- so many rows and entries, and so many of them marked; the others are visible
pub record AreCounts (v : CoreValue) (counts : Counts) : Type 0 where
  pub rows : counts.rows ≡ len v.heap.rows
  pub entries : counts.entries ≡ len v.index.entries
  pub marked : counts.marked ≡ marked_in v.index.entries
  pub visible : counts.entries - counts.marked ≡ live_in v.index.entries
