-- What a scan and a count answer.
use Rattle.std.specs.Prelude.{Err, IfErr, IfOk, IsOk, Option, Result, length, min, take, ℕ, ◌-◌, ◌^◌, ◌≡◌, ◌↔◌}
use Rattle.record_values.specs.declared.error.Error.{Error}
use Rattle.record_values.specs.declared.error.Error.TheVariants.{NoIndex, NoMemory, NotBuilt}
use Rattle.record_values.specs.declared.pair.Pair.{Pair}
use Rattle.model.specs.Following.{IsBuilding}
use Rattle.record_values.specs.Entries.{Index}
use Rattle.model.specs.declared.life.Life.{Life}
use Rattle.model.specs.declared.life.Life.TheVariants.{Absent, Complete}
use Rattle.core_scan.specs.Visible.{left_of, next_after, visible}
use Rattle.core_scan.specs.declared.range.KeyRange.{KeyRange}
use Rattle.core_scan.specs.declared.reading.Page.{Page}

-- An index with these entries, which is so far, answers this where a page of the range behind a pair is asked for: the
-- first pairs of what is left, so many at most, and the pair behind which to go on. Or it isn't there, or not built, or
-- there is no memory.
pub record IsPageOf {A : Type 0} (entries : Index) (life : Life) (range : KeyRange) (after : Option Pair) (limit : ℕ)
    (answer : Result (Page A) Error) : Type 0 where
  pub pairs : IfOk answer (λ page. page.pairs.items ≡ take limit (left_of entries range after))
  pub next : IfOk answer (λ page. page.next ≡ next_after after limit (left_of entries range after))
  pub no_index : (answer ≡ Err NoIndex) ↔ (life ≡ Absent)
  pub not_built : (answer ≡ Err NotBuilt) ↔ IsBuilding life
  pub no_memory : life ≡ Complete → IfErr answer (λ e. e ≡ NoMemory)

-- And this, where it is asked how many visible pairs the range has: as many as there are, as far as 64 bits count.
pub record IsCountOf (entries : Index) (life : Life) (range : KeyRange) (answer : Result ℕ Error) : Type 0 where
  pub count : IfOk answer (λ n. n ≡ min (length (visible entries range)) (2 ^ 64 - 1))
  pub no_index : (answer ≡ Err NoIndex) ↔ (life ≡ Absent)
  pub not_built : (answer ≡ Err NotBuilt) ↔ IsBuilding life
  pub complete : life ≡ Complete → IsOk answer
