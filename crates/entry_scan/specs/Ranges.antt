-- Ranges of keys.
use Rattle.std.specs.Prelude.{Bool, List, length, slice_index, ℕ, ◌<◌, ◌≤◌}
use Rattle.std.specs.BTreeMap.Range.{range_contains}
use Rattle.std.specs.Cmp.Lexicographic.{slice_cmp}
use Rattle.std.specs.Ordering.{nat_cmp}
use Rattle.std.specs.declared.ops.Bound.TheVariants.{Included}
use Rattle.record_values.specs.declared.key.TheConstants.{KEY_MAX}
use Rattle.entry_scan.specs.declared.range.KeyRange.{KeyRange}

-- whether the range has the key, in the order of bytes
abbrev pub is_within : KeyRange → List ℕ → Bool
is_within range key = range_contains (slice_cmp nat_cmp) range.from range.to key

-- the range that has this key alone
abbrev pub only : List ℕ → KeyRange
only key = record { from = Included key; to = Included key }

-- what a key is: bytes, and no more than a key may have
pub record IsKey (key : List ℕ) : Type 0 where
  pub bytes : (i : ℕ) → slice_index key i < 256
  pub fits : length key ≤ KEY_MAX
