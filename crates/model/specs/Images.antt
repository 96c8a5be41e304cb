-- An image that is copied piece by piece while records are made.
use Rattle.std.specs.Prelude.{◌≡◌, ◌≤◌, List, take, ℕ}
use Rattle.std.specs.FinMap as map
use Rattle.records.specs.RecordValue.{RecordValue}
use Rattle.record_values.specs.Values.{Place}
use Rattle.record_values.specs.declared.pair.Pair.{Pair}
use Rattle.model.specs.Cells.{Cells, cells_after}

-- Since these cells stood the records of the log were made. The image has the lists and the life of these cells, and
-- each row and each entry as it was when some of the records were made, at most the first m.
pub record IsCopied (cells : Cells) (log : List RecordValue) (m : ℕ) (image : Cells) : Type 0 where
  pub pending : image.pending ≡ cells.pending
  pub life : image.life ≡ cells.life
  pub rows : (q : Place) → (n : ℕ) × (n ≤ m) × (map.get image.rows q ≡ map.get (cells_after cells (take n log)).rows q)
  pub entries : (p : Pair) → (n : ℕ) × (n ≤ m)
      × (map.get image.entries p ≡ map.get (cells_after cells (take n log)).entries p)
