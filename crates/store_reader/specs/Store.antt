-- What clauses see of the cells of a store.
use Rattle.std.specs.Prelude.{◌≡◌, ℕ, ◌+◌, Bool, true, false, List, Option, length, ◌⊎◌, refl}
use Rattle.std.proofs.Common.{inl, inr}
use Rattle.std.specs.Coded.{Coded, code_by, coded×, coded⊎, coded_ℕ, coded_bool, coded_list, coded_option}
use Rattle.std.specs.FinMap as map
use Rattle.records.specs.Codes.{coded_change}
use Rattle.record_values.specs.Codes.{coded_mark, coded_pair, coded_rid, coded_row}
use Rattle.record_values.specs.GeometryValue.{GeometryValue}
use Rattle.records.specs.RecordValue.{RecordValue}
use Rattle.record_values.specs.declared.pair.Pair.{Pair}
use Rattle.model.specs.declared.life.Life.{Life}
use Rattle.model.specs.declared.life.Life.TheVariants.{Absent, Building, Complete}
use Rattle.model.specs.Cells.{Cells, Pending, cells_after, set_by}
use Rattle.model.specs.Following.{CanFollow}
use Rattle.model.specs.Table.{Table}
use Rattle.record_values.specs.Entries.{Index}

-- the cells of a store of this geometry, which records up to the number `last` have left
pub record StoreValue : Type 0 where
  pub geometry : GeometryValue
  pub cells : Cells
  pub last : ℕ

-- the cells of an image that record `last` left
abbrev pub store_of : GeometryValue → ℕ → Cells → StoreValue
store_of geometry last cells = record { geometry = geometry; cells = cells; last = last }

-- no row, no entry and no transaction
abbrev pub IsBare : Cells → Type 0
IsBare cells = (cells.rows ≡ map.empty) × (cells.entries ≡ map.empty) × (cells.pending ≡ map.empty)

-- ---- records

-- the record can come next
abbrev pub CanRedo : StoreValue → RecordValue → Type 0
CanRedo v r = CanFollow v.geometry.pages v.last v.cells r

-- the store's cells after this record
abbrev pub after_record : StoreValue → RecordValue → StoreValue
after_record v r = record v { cells = set_by v.cells r.action; last = r.number }

-- after records with the next numbers, the first of them first
abbrev pub after_records : StoreValue → List RecordValue → StoreValue
after_records v records = record v { cells = cells_after v.cells records; last = v.last + length records }

-- ---- codes

-- how the logic stores a geometry
abbrev coded_geometry : Coded GeometryValue
coded_geometry = code_by (ℕ × (ℕ × ℕ)) (coded× coded_ℕ (coded× coded_ℕ coded_ℕ)) (λ g. (g.pages, (g.entries, g.slots)))
    (λ p. record { pages = p.0; entries = p.1.0; slots = p.1.1 }) (λ _. refl)

-- a life as one of three cases
abbrev life_in : Life → Bool ⊎ Option Pair
life_in Absent = inl false
life_in (Building highest) = inr highest
life_in Complete = inl true

-- and back
abbrev life_out : Bool ⊎ Option Pair → Life
life_out (inl false) = Absent
life_out (inl true) = Complete
life_out (inr highest) = Building highest

-- there and back is the same life
abbrev life_back : (l : Life) → life_out (life_in l) ≡ l
life_back Absent = refl
life_back (Building highest) = refl
life_back Complete = refl

-- how it stores a life
abbrev coded_life : Coded Life
coded_life = code_by (Bool ⊎ Option Pair) (coded⊎ coded_bool (coded_option coded_pair)) life_in life_out life_back

-- how it stores cells
abbrev pub coded_cells : Coded Cells
coded_cells = code_by (Table × (Index × (Pending × Life)))
    (coded× (map.code coded_rid coded_row) (coded× (map.code coded_pair coded_mark)
    (coded× (map.code coded_ℕ (coded_list coded_change)) coded_life)))
    (λ c. (c.rows, (c.entries, (c.pending, c.life)))) (λ p.
    record { rows = p.0; entries = p.1.0; pending = p.1.1.0; life = p.1.1.1 }) (λ _. refl)

-- how it stores all of it
abbrev pub coded_store : Coded StoreValue
coded_store = code_by (GeometryValue × (Cells × ℕ)) (coded× coded_geometry (coded× coded_cells coded_ℕ)) (λ v.
    (v.geometry, (v.cells, v.last))) (λ p. record { geometry = p.0; cells = p.1.0; last = p.1.1 }) (λ _. refl)
