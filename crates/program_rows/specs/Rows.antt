-- Rows as records of comma-separated fields.
use Rattle.std.specs.Prelude.{Err, List, None, Ok, Option, Result, Some, [], if◌then◌else◌, length}
use Rattle.std.specs.Prelude.{codes, nat_eq, nat_lt, ℕ, ◌∷◌}
use Rattle.csv.specs.Records.{field_at}
use Rattle.csv.specs.Writing.{default_writer, row_text}
use Rattle.record_values.specs.declared.key.TheConstants.{BODY_MAX, KEY_MAX}
use Rattle.record_values.specs.declared.row.Row.{Row}
use Rattle.program_rows.specs.declared.rows.Columns.{Columns}
use Rattle.program_rows.specs.declared.rows.RowError.{RowError}
use Rattle.program_rows.specs.declared.rows.RowError.TheVariants.{BodyTooLong, KeyTooLong, NoBody, NoKey, OtherFields}

-- the fields of a row's record, and the columns that they stand in
abbrev pub fields_of_row : Row → List (List ℕ)
fields_of_row row = row.key ∷ row.body ∷ []

abbrev pub own_columns : Columns
own_columns = record { key = 0; body = 1 }

-- the row with this key and this body, if there is one: what is lacking is told first, and the key before the body
abbrev pub row_with : Option (List ℕ) → Option (List ℕ) → Result Row RowError
row_with None body = Err NoKey
row_with (Some key) None = Err NoBody
row_with (Some key) (Some body) = if nat_lt KEY_MAX (length key) then Err KeyTooLong
    else (if nat_lt BODY_MAX (length body) then Err BodyTooLong else Ok (record { key = key; body = body }))

-- the row of a record with these fields
abbrev pub row_in : Columns → List (List ℕ) → Result Row RowError
row_in columns fields = row_with (field_at fields columns.key) (field_at fields columns.body)

-- the same under a header of so many fields
abbrev pub row_under : Columns → ℕ → List (List ℕ) → Result Row RowError
row_under columns wanted fields =
    if nat_eq (length fields) wanted then row_in columns fields else Err (OtherFields (length fields) wanted)

-- the line of a row's record, and the header's
abbrev pub line_of_row : Row → List ℕ
line_of_row row = row_text default_writer (fields_of_row row)

abbrev pub own_header : List ℕ
own_header = row_text default_writer (codes "key" ∷ codes "body" ∷ [])
