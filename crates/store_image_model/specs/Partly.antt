-- An image that is copied in steps: the pages in order, and then the entries in order, some of them at a time.
use Rattle.std.specs.Prelude.{◌≡◌, ◌≢◌, ℕ, ◌≤◌, ◌<◌, List, ◌++◌, take, Option, Some, None}
use Rattle.std.specs.FinMap as map
use Rattle.std.specs.FinMap.{FinMap}
use Rattle.std.specs.declared.cmp.Ordering.{Ordering}
use Rattle.std.specs.declared.cmp.Ordering.TheVariants.{Greater}
use Rattle.record_values.specs.Values.{Place}
use Rattle.record_values.specs.Orders.{pair_cmp}
use Rattle.records.specs.RecordValue.{RecordValue}
use Rattle.record_values.specs.declared.row.Row.{Row}
use Rattle.record_values.specs.declared.pair.Pair.{Pair}
use Rattle.record_values.specs.declared.pair.Mark.{Mark}
use Rattle.model.specs.Table.{Table}
use Rattle.record_values.specs.Entries.{Index}
use Rattle.model.specs.Cells.{Cells, cells_after}

-- since these cells stood, the row of this place was this one after some records of the log, at most the first m
abbrev pub WasRow : Cells → List RecordValue → ℕ → Place → Option Row → Type 0
WasRow cells log m q row = (n : ℕ) × (n ≤ m) × (row ≡ map.get (cells_after cells (take n log)).rows q)

-- and so was the entry of this pair
abbrev pub WasEntry : Cells → List RecordValue → ℕ → Pair → Option Mark → Type 0
WasEntry cells log m pair mark = (n : ℕ) × (n ≤ m) × (mark ≡ map.get (cells_after cells (take n log)).entries pair)

-- the pair is at most this one; where there is none, no pair is
abbrev pub IsUpTo : Option Pair → Pair → Type 0
IsUpTo None pair = ⊥
IsUpTo (Some highest) pair = pair_cmp pair highest ≢ Greater

-- what the first map has, and else the second
abbrev pub joined : {K X : Type 0} {R : K → K → Ordering} → FinMap R X → FinMap R X → FinMap R X
joined {K} {X} {R} m n = map.from_entries {R = R} (map.entries m ++ map.entries n)

-- Copied so far, while at most the first m records of the log were made: the rows of the first pages, and the entries
-- up to the highest pair.
pub record IsPartlyCopied (cells : Cells) (log : List RecordValue) (m pages : ℕ) (highest : Option Pair) (rows : Table)
    (entries : Index) : Type 0 where
  pub rows-were : (q : Place) → q.page < pages → WasRow cells log m q (map.get rows q)
  pub rows-rest : (q : Place) → pages ≤ q.page → map.get rows q ≡ None
  pub entries-were : (pair : Pair) → IsUpTo highest pair → WasEntry cells log m pair (map.get entries pair)
  pub entries-rest : (pair : Pair) → ¬ IsUpTo highest pair → map.get entries pair ≡ None

-- the rows of one page of these cells
pub record ArePageRows (cells : Cells) (page : ℕ) (rows : Table) : Type 0 where
  pub there : (q : Place) → q.page ≡ page → map.get rows q ≡ map.get cells.rows q
  pub elsewhere : (q : Place) → q.page ≢ page → map.get rows q ≡ None

-- the entries of these cells above one pair and up to another
pub record AreNextEntries (cells : Cells) (above highest : Option Pair) (entries : Index) : Type 0 where
  pub further : (pair : Pair) → IsUpTo above pair → IsUpTo highest pair
  pub there : (pair : Pair) → ¬ IsUpTo above pair → IsUpTo highest pair
      → map.get entries pair ≡ map.get cells.entries pair
  pub below : (pair : Pair) → IsUpTo above pair → map.get entries pair ≡ None
  pub past : (pair : Pair) → ¬ IsUpTo highest pair → map.get entries pair ≡ None

-- all entries of these cells above a pair
pub record AreLastEntries (cells : Cells) (above : Option Pair) (entries : Index) : Type 0 where
  pub there : (pair : Pair) → ¬ IsUpTo above pair → map.get entries pair ≡ map.get cells.entries pair
  pub below : (pair : Pair) → IsUpTo above pair → map.get entries pair ≡ None
