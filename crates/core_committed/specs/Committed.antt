-- What is committed of a core, as an index.
use Rattle.std.specs.FinMap.{entries, from_sorted, get}
use Rattle.std.specs.Prelude.{Err, IfErr, IfOk, List, Result, if◌then◌else◌, map, ℕ, ◌≡◌, ◌↔◌}
use Rattle.std.specs.declared.ops.Bound.TheVariants.{Included}
use Rattle.std.specs.declared.vec.Vec.{Vec}
use Rattle.record_values.specs.Values.{Place}
use Rattle.record_values.specs.declared.error.Error.{Error}
use Rattle.record_values.specs.declared.error.Error.TheVariants.{NoIndex, NoMemory, NotBuilt}
use Rattle.record_values.specs.declared.pair.Mark.{Mark}
use Rattle.record_values.specs.declared.pair.Mark.TheVariants.{Live, Marked}
use Rattle.record_values.specs.declared.pair.Pair.{Pair}
use Rattle.model.specs.Following.{IsBuilding}
use Rattle.model.specs.Table.{Table}
use Rattle.record_values.specs.Entries.{Index}
use Rattle.model.specs.declared.life.Life.TheVariants.{Absent, Complete}
use Rattle.core_model.specs.Steps.{is_pair_of}
use Rattle.core_parts.specs.View.{CoreValue}
use Rattle.core_laws.specs.Holds.{committed_rows}
use Rattle.core_scan.specs.Visible.{visible}
use Rattle.core_scan.specs.declared.range.KeyRange.{KeyRange}

-- live where the pair is that of a row of the table
abbrev pub mark_in : Table → Pair → Mark
mark_in table p = if is_pair_of (get table p.rid) p then Live else Marked

-- The index as if no transaction were active: each entry stands as it does, and those are live whose pairs are of
-- committed rows.
unfoldable pub committed_index : CoreValue → Index
committed_index v = from_sorted (map (λ e. (e.0, mark_in (committed_rows v) e.0)) (entries v.index.entries))

-- the range that has this key alone
abbrev pub only : List ℕ → KeyRange
only key = record { from = Included key; to = Included key }

-- A core answers this where it is asked for the places of the committed rows with a key: those, in order. Or the index
-- isn't there, or not built, or there is no memory.
pub record ArePlacesOf {A : Type 0} (v : CoreValue) (key : List ℕ) (answer : Result (Vec Place A) Error) : Type 0 where
  pub found : IfOk answer (λ rids. rids.items ≡ map (λ p. p.rid) (visible (committed_index v) (only key)))
  pub no_index : (answer ≡ Err NoIndex) ↔ (v.life ≡ Absent)
  pub not_built : (answer ≡ Err NotBuilt) ↔ IsBuilding v.life
  pub no_memory : v.life ≡ Complete → IfErr answer (λ e. e ≡ NoMemory)
