-- What an export prints.
use Rattle.std.specs.Prelude.{ℕ, zero, suc, List, [], ◌++◌, ◌≡◌, ◌⊎◌}
use Rattle.std.specs.FinMap as map
use Rattle.std.specs.List.{flat_map}
use Rattle.std.specs.Option.{option_map_or}
use Rattle.std.specs.declared.ops.Bound.TheVariants.{Unbounded}
use Rattle.record_values.specs.Values.{Place}
use Rattle.record_values.specs.declared.error.Error.TheVariants.{NoIndex, NoMemory, NotBuilt}
use Rattle.record_values.specs.declared.pair.Pair.{Pair}
use Rattle.record_values.specs.declared.rid.TheConstants.{SLOTS_PER_PAGE}
use Rattle.record_values.specs.declared.row.Row.{Row}
use Rattle.model.specs.Following.{IsBuilding}
use Rattle.model.specs.Table.{Table}
use Rattle.model.specs.declared.life.Life.{Life}
use Rattle.model.specs.declared.life.Life.TheVariants.{Absent, Complete}
use Rattle.core_parts.specs.View.{CoreValue}
use Rattle.core_scan.specs.Visible.{visible}
use Rattle.core_scan.specs.declared.range.KeyRange.{KeyRange}
use Rattle.program_rows.specs.Objects.{json_of_row}
use Rattle.program_rows.specs.Reading.{IsReadError}
use Rattle.program_rows.specs.Rows.{line_of_row, own_header}
use Rattle.program_rows.specs.declared.error.RowsError.{RowsError}
use Rattle.program_rows.specs.declared.error.RowsError.TheVariants.{Store, Text}
use Rattle.program_rows.specs.declared.exporting.Format.{Format}
use Rattle.program_rows.specs.declared.exporting.Format.TheVariants.{Fields, Json}

-- why rows aren't printed: their text can't be written, or there was no memory
abbrev pub IsNotPrinted : RowsError → Type 0
IsNotPrinted (Text e) = IsReadError e
IsNotPrinted (Store e) = ⊥

-- why they aren't in the order of an index that is so far: that; or it isn't there, or not built
abbrev pub IsNotInOrder : Life → RowsError → Type 0
IsNotInOrder life (Text e) = IsReadError e
IsNotInOrder life (Store e) = ((e ≡ NoIndex) × (life ≡ Absent)) ⊎ ((e ≡ NotBuilt) × IsBuilding life)
    ⊎ ((e ≡ NoMemory) × (life ≡ Complete))

-- the line of a row, as fields or as an object
abbrev pub line_by : Format → Row → List ℕ
line_by Fields row = line_of_row row
line_by Json row = json_of_row row

-- the line of the row at a place, if one is there
abbrev pub row_record : Format → Table → Place → List ℕ
row_record format rows place = option_map_or (line_by format) (map.get rows place) []

-- the lines of the rows in the first slots of a page
unfoldable pub slot_records : Format → Table → (page slots : ℕ) → List ℕ
slot_records format rows page zero = []
slot_records format rows page (suc slot) =
    slot_records format rows page slot ++ row_record format rows (record { page = page; slot = slot })

-- the lines of the rows in the first pages
unfoldable pub page_records : Format → Table → (pages : ℕ) → List ℕ
page_records format rows zero = []
page_records format rows (suc page) = page_records format rows page ++ slot_records format rows page SLOTS_PER_PAGE

-- the header, and the rows in the order of their places; and the same as objects, which need no header
abbrev pub text_by_place : CoreValue → List ℕ
text_by_place core = own_header ++ page_records Fields core.heap.rows core.heap.pages

abbrev pub json_by_place : CoreValue → List ℕ
json_by_place core = page_records Json core.heap.rows core.heap.pages

-- the lines of the rows of these pairs
abbrev pub pair_records : Format → Table → List Pair → List ℕ
pair_records format rows pairs = flat_map (λ pair. row_record format rows pair.rid) pairs

abbrev pub all_keys : KeyRange
all_keys = record { from = Unbounded; to = Unbounded }

-- the lines of the rows of the visible pairs in the order of these
abbrev pub visible_records : Format → CoreValue → List ℕ
visible_records format core = pair_records format core.heap.rows (visible core.index.entries all_keys)

-- the header, and the rows in that order; and the same as objects
abbrev pub text_by_key : CoreValue → List ℕ
text_by_key core = own_header ++ visible_records Fields core

abbrev pub json_by_key : CoreValue → List ℕ
json_by_key core = visible_records Json core
