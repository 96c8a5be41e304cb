-- A range that is read backward.
use Rattle.std.specs.Prelude.{Bool, Err, IfErr, IfOk, List, None, Option, Result, Some, [], filter, reverse, take}
use Rattle.std.specs.Prelude.{true, ℕ, ◌++◌, ◌∷◌, ◌≡◌, ◌↔◌}
use Rattle.std.specs.Ordering.{is_lt}
use Rattle.record_values.specs.Orders.{pair_cmp}
use Rattle.record_values.specs.declared.error.Error.{Error}
use Rattle.record_values.specs.declared.error.Error.TheVariants.{NoIndex, NoMemory, NotBuilt}
use Rattle.record_values.specs.declared.pair.Pair.{Pair}
use Rattle.model.specs.Following.{IsBuilding}
use Rattle.record_values.specs.Entries.{Index}
use Rattle.model.specs.declared.life.Life.{Life}
use Rattle.model.specs.declared.life.Life.TheVariants.{Absent, Complete}
use Rattle.core_scan.specs.Visible.{next_after, visible}
use Rattle.core_scan.specs.declared.range.KeyRange.{KeyRange}
use Rattle.core_scan.specs.declared.reading.Page.{Page}

-- whether a pair comes before this one: every pair does where there is none
abbrev pub is_before : Option Pair → Pair → Bool
is_before None p = true
is_before (Some end) p = is_lt (pair_cmp p end)

-- what is left of the range before a pair, the last pair first; all of it where none is given
abbrev pub left_before : Index → KeyRange → Option Pair → List Pair
left_before index range before = reverse (filter (is_before before) (visible index range))

-- An index with these entries, which is so far, answers this where a page of the range before a pair is asked for: the
-- last pairs of what is left, the last one first, so many at most, and the pair before which to go on. Or it isn't
-- there, or not built, or there is no memory.
pub record IsPageBackOf {A : Type 0} (entries : Index) (life : Life) (range : KeyRange) (before : Option Pair)
    (limit : ℕ) (answer : Result (Page A) Error) : Type 0 where
  pub pairs : IfOk answer (λ page. page.pairs.items ≡ take limit (left_before entries range before))
  pub next : IfOk answer (λ page. page.next ≡ next_after before limit (left_before entries range before))
  pub no_index : (answer ≡ Err NoIndex) ↔ (life ≡ Absent)
  pub not_built : (answer ≡ Err NotBuilt) ↔ IsBuilding life
  pub no_memory : life ≡ Complete → IfErr answer (λ e. e ≡ NoMemory)

-- A range is read backward before a pair until nothing is left. The index was so at each page, in turn, and the pages
-- had these pairs: the last page has all that was left, and before any other the next one goes on.
pub data ReadingBack (range : KeyRange) : Option Pair → List Index → List Pair → Type 0 where
  last : (before : Option Pair) (index : Index) → ReadingBack range before (index ∷ []) (left_before index range before)
  more : (before : Option Pair) (index : Index) (limit : ℕ) (next : Pair) (seen : List Index) (pairs : List Pair)
      → next_after before limit (left_before index range before) ≡ Some next → ReadingBack range (Some next) seen pairs
      → ReadingBack range before (index ∷ seen) (take limit (left_before index range before) ++ pairs)
