-- What a reader of rows reads of a text.
use Rattle.std.specs.Prelude.{Bool, Err, List, MatchResult, codes, None, Ok, Option}
use Rattle.std.specs.Prelude.{Result, Some, false, length, option_map}
use Rattle.std.specs.Prelude.{true, ℕ, ⊤, ◌≡◌, ◌⊎◌}
use Rattle.csv.specs.Reading.{ReadsNext, Ready, default_config, has_failed, is_flexible, reader_config, reader_source}
use Rattle.csv.specs.Reading.{reader_state, reader_trim, source_of, strip_bom}
use Rattle.csv.specs.declared.parser.State.TheVariants.{StartRecord}
use Rattle.csv.specs.declared.reader.Reader.{Reader}
use Rattle.csv.specs.declared.reader.Trim.TheVariants as trimmed
use Rattle.record_values.specs.declared.row.Row.{Row}
use Rattle.program_rows.specs.Headers.{AreNamed, IsLacking, IsLackingDefault}
use Rattle.program_quotes.specs.Quotes.{is_cut_off, is_too_long, source_under}
use Rattle.program_rows.specs.Rows.{row_under}
use Rattle.program_rows.specs.declared.columns.HeaderError.{HeaderError}
use Rattle.program_rows.specs.declared.columns.HeaderError.TheVariants.{Missing, NoBody, NoKey, NoNames, OpenQuote}
use Rattle.program_rows.specs.declared.columns.HeaderError.TheVariants as fault
use Rattle.program_rows.specs.declared.error.TextError.{TextError}
use Rattle.program_rows.specs.declared.error.TextError.TheVariants.{Header, Io, NoMemory}
use Rattle.program_rows.specs.declared.reading.Came.{Came}
use Rattle.program_rows.specs.declared.reading.Came.TheVariants.{Cut, End, Record, TooLong}
use Rattle.program_rows.specs.declared.reading.ColumnNames.{ColumnNames}
use Rattle.program_rows.specs.declared.reading.RowReader.{RowReader}
use Rattle.program_rows.specs.declared.rows.Columns.{Columns}
use Rattle.program_rows.specs.declared.rows.RowError.{RowError}
use Rattle.program_rows.specs.declared.rows.RowError.TheVariants as row
use Rattle.program_quotes.specs.declared.source.Watched.{Watched}

-- The reader gives each record of its text as it is: with the usual marks, the first one too, none of its fields
-- trimmed, and of any length.
pub record IsPlain {S : Type 0} (reader : Reader S) : Type 0 where
  pub marks : reader_config reader ≡ default_config
  pub untrimmed : reader_trim reader ≡ trimmed.None
  pub flexible : is_flexible reader ≡ true
  pub ready : Ready reader

-- the columns of these names, or without names those of the default ones; or what the header lacks
abbrev pub AreChosen : List (List ℕ) → Option ColumnNames → Result Columns HeaderError → Type 0
AreChosen header None result = MatchResult result
    (AreNamed header (codes "key") (codes "body")) (IsLackingDefault header)
AreChosen header (Some names) result = MatchResult result
    (AreNamed header names.key.now names.body.now) (IsLacking header names.key.now names.body.now)

module _ {R : Type 0} where
  -- the reader of records below
  abbrev pub reader_of : RowReader R → Reader (Watched R)
  reader_of r = r.reader

  -- where a row's key and body stand in a record, how many fields that has, and the line in which the last one begins
  abbrev pub columns_of : RowReader R → Columns
  columns_of r = r.columns

  abbrev pub fields_in : RowReader R → ℕ
  fields_in r = r.fields

  abbrev pub line_in : RowReader R → ℕ
  line_in r = r.line

  -- no record is read any more
  abbrev pub has_ended : RowReader R → Bool
  has_ended r = has_failed (reader_of r)

-- the text couldn't be read, or written; or there was no memory
abbrev pub IsReadError : TextError → Type 0
IsReadError (Header e) = ⊥
IsReadError (Io e) = ⊤
IsReadError NoMemory = ⊤

-- The text ended inside a quote, and no more is read of it.
pub record IsCut {R : Type 0} (reader : Reader (Watched R)) : Type 0 where
  pub in_quote : is_cut_off (reader_source reader) ≡ true
  pub ended : has_failed reader ≡ true

-- The text has a record that is too long, and no more is read of it.
pub record IsLong {R : Type 0} (reader : Reader (Watched R)) : Type 0 where
  pub long : is_too_long (reader_source reader) ≡ true
  pub ended : has_failed reader ≡ true

-- Neither is so.
pub record IsWhole {R : Type 0} (source : Watched R) : Type 0 where
  pub closed : is_cut_off source ≡ false
  pub short : is_too_long source ≡ false

-- which of the two is so of a source
abbrev pub IsCutOrLong : {R : Type 0} → Watched R → Came → Type 0
IsCutOrLong source Cut = is_cut_off source ≡ true
IsCutOrLong source TooLong = is_too_long source ≡ true
IsCutOrLong source other = ⊥

module _ {R : Type 0} (remaining : R → Option (List ℕ)) where
  -- the bytes that a watched source has left, where they are known
  abbrev pub bytes_of : Watched R → Option (List ℕ)
  bytes_of w = remaining (source_under w)

  -- The next record of the text has these fields; or none was found, and the text has none. Where its bytes are known,
  -- the reader stands right behind that record.
  pub record ReadsOne (found : Bool) (fields : List (List ℕ)) (old new : Reader (Watched R)) : Type 0 where
    pub next : ReadsNext default_config (reader_state old) (source_of bytes_of old) (source_of bytes_of new)
        found fields (reader_state new)
    pub goes_on : IsPlain new

  -- what a read came to
  abbrev pub CameTo : Came → List (List ℕ) → Reader (Watched R) → Reader (Watched R) → Type 0
  CameTo Record fields old new = ReadsOne true fields old new
  CameTo End fields old new = ReadsOne false fields old new
  CameTo Cut fields old new = IsCut new
  CameTo TooLong fields old new = IsLong new

  -- the reader stands at the start of this source's text
  pub record BeginsAt (source : R) (reader : Reader (Watched R)) : Type 0 where
    pub plain : IsPlain reader
    pub start : reader_state reader ≡ StartRecord
    pub text : source_of bytes_of reader ≡ option_map strip_bom (remaining source)

  -- why a header wasn't read, or gives no columns
  abbrev pub LacksColumns : Option ColumnNames → HeaderError → Reader (Watched R) → Reader (Watched R) → Type 0
  LacksColumns names e old new = (header : List (List ℕ)) × ReadsOne true header old new
      × AreChosen header names (Err e)

  abbrev pub IsNoHeader : Option ColumnNames → TextError → Reader (Watched R) → Reader (Watched R) → Type 0
  IsNoHeader names (Header Missing) old new = (fields : List (List ℕ)) × ReadsOne false fields old new
  IsNoHeader names (Header OpenQuote) old new = IsCut new
  IsNoHeader names (Header NoKey) old new = LacksColumns names NoKey old new
  IsNoHeader names (Header NoBody) old new = LacksColumns names NoBody old new
  IsNoHeader names (Header NoNames) old new = LacksColumns names NoNames old new
  IsNoHeader names (Header fault.TooLong) old new = IsLong new
  IsNoHeader names (Io error) old new = IsWhole (reader_source new)
  IsNoHeader names NoMemory old new = IsWhole (reader_source new)

  -- The first record of the source's text, its header, was read, and gives the columns. So many fields it has.
  pub record StandsBehindHeader (source : R) (names : Option ColumnNames) (rows : RowReader R) : Type 0 where
    pub first : Reader (Watched R)
    pub begins : BeginsAt source first
    pub header : List (List ℕ)
    pub reads : ReadsOne true header first (reader_of rows)
    pub columns : AreChosen header names (Ok (columns_of rows))
    pub fields : fields_in rows ≡ length header

  -- the source has no header, or one that gives no columns
  pub record HasNoHeader (source : R) (names : Option ColumnNames) (e : TextError) : Type 0 where
    pub first : Reader (Watched R)
    pub begins : BeginsAt source first
    pub last : Reader (Watched R)
    pub refused : IsNoHeader names e first last

  -- The next record gives this row, or has none for this reason; or the text ends inside a quote, or it is too long.
  abbrev pub Gives : Result Row RowError → RowReader R → RowReader R → Type 0
  Gives found old new =
      ((fields : List (List ℕ)) × ReadsOne true fields (reader_of old) (reader_of new)
      × (found ≡ row_under (columns_of old) (fields_in old) fields))
      ⊎ ((found ≡ Err row.OpenQuote) × IsCut (reader_of new))
      ⊎ ((found ≡ Err row.RecordTooLong) × IsLong (reader_of new))

  -- The same, if there is a further record.
  abbrev pub GivesNext : Option (Result Row RowError) → RowReader R → RowReader R → Type 0
  GivesNext None old new = (fields : List (List ℕ)) × ReadsOne false fields (reader_of old) (reader_of new)
  GivesNext (Some found) old new = Gives found old new
