-- How a group of records is spelled in the seven sectors behind a gate.
use Rattle.std.specs.Prelude.{◌≡◌, ℕ, ◌≤◌, ◌-◌, List, ◌++◌, length, replicate, All}
use Rattle.std.specs.List.{flat_map}
use Rattle.records.specs.RecordValue.{RecordValue}
use Rattle.record_values.specs.declared.version.Version.{Version}
use Rattle.record_values.specs.declared.version.Version.TheVariants.{Two}
use Rattle.records.specs.Spelling.{spelling, u16, FitsIn}
use Rattle.gate_log.specs.declared.group.TheConstants.{GROUP_MAX}

-- the records, spelled one after the other
unfoldable pub spellings : List RecordValue → List ℕ
spellings records = flat_map spelling records

-- two numbers of two bytes: how many records there are, and how many bytes they take
unfoldable pub header : ℕ → ℕ → List ℕ
header count len = u16 count ++ u16 len

-- the records can be one group: there is one at least, and they take no more bytes than a group has for them
pub record FitsGroup (records : List RecordValue) : Type 0 where
  pub some : 1 ≤ length records
  pub short : length (spellings records) ≤ GROUP_MAX

-- the body is this group of records of a version of the format: the header, the records, and zeros to the end
pub record IsGroupIn (v : Version) (records : List RecordValue) (body : List ℕ) : Type 0 where
  pub fits : FitsGroup records
  pub each : All (FitsIn v) records
  pub spelled : body ≡ header (length records) (length (spellings records))
      ++ (spellings records ++ replicate (GROUP_MAX - length (spellings records)) 0)

-- of version 2, which is written
abbrev pub IsGroup : List RecordValue → List ℕ → Type 0
IsGroup records body = IsGroupIn Two records body

-- the body is some group
abbrev pub IsSpelledGroup : List ℕ → Type 0
IsSpelledGroup body = (records : List RecordValue) × IsGroup records body
