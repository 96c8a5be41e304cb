-- What a dump prints.
use Rattle.std.specs.Prelude.{ℕ, zero, suc, List, [], ◌++◌}
use Rattle.std.specs.FinMap as map
use Rattle.std.specs.List.{flat_map}
use Rattle.std.specs.Option.{option_map_or}
use Rattle.record_values.specs.Values.{Place}
use Rattle.record_values.specs.declared.rid.TheConstants.{SLOTS_PER_PAGE}
use Rattle.model.specs.Table.{Table}
use Rattle.record_values.specs.Entries.{Index}
use Rattle.program_commands.specs.Store.{rows_of, pages_of, entries_of, life_of}
use Rattle.program_values.specs.Texts.{line_of}
use Rattle.program_values.specs.declared.answer.Answer.TheVariants.{RowAt, Entry, Life}
use Rattle.program_commands.specs.declared.store.Store.{Store}

-- the line of the row at a place, if one is there
abbrev pub row_line : Table → Place → List ℕ
row_line rows place = option_map_or (λ row. line_of (RowAt place row)) (map.get rows place) []

-- the lines of the rows in the first slots of a page
unfoldable pub slot_lines : Table → (page slots : ℕ) → List ℕ
slot_lines rows page zero = []
slot_lines rows page (suc slot) = slot_lines rows page slot ++ row_line rows (record { page = page; slot = slot })

-- the lines of the rows in the first pages
unfoldable pub page_lines : Table → (pages : ℕ) → List ℕ
page_lines rows zero = []
page_lines rows (suc page) = page_lines rows page ++ slot_lines rows page SLOTS_PER_PAGE

-- the lines of the entries, in the order of their pairs
abbrev pub entry_lines : Index → List ℕ
entry_lines index = flat_map (λ entry. line_of (Entry entry.0 entry.1)) (map.entries index)

-- the rows, in the order of their places, then the entries of the index, and how far it is
abbrev pub dump_text : {D : Type 0} → Store D → List ℕ
dump_text s = page_lines (rows_of s) (pages_of s) ++ entry_lines (entries_of s) ++ line_of (Life (life_of s))
