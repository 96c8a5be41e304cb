-- The columns of rows, as a header names them.
use Rattle.std.specs.Prelude.{List, Some, codes, ℕ, ◌<◌, ◌≡◌, ◌≢◌}
use Rattle.csv.specs.Records.{field_at}
use Rattle.program_rows.specs.declared.columns.HeaderError.{HeaderError}
use Rattle.program_rows.specs.declared.columns.HeaderError.TheVariants.{NoBody, NoKey, NoNames}
use Rattle.program_rows.specs.declared.rows.Columns.{Columns}

-- the first field with this name is in this column
pub record IsColumn (fields : List (List ℕ)) (name : List ℕ) (column : ℕ) : Type 0 where
  pub here : field_at fields column ≡ Some name
  pub first : (m : ℕ) → m < column → field_at fields m ≢ Some name

-- no field has this name
abbrev pub HasNone : List (List ℕ) → List ℕ → Type 0
HasNone fields name = (m : ℕ) → field_at fields m ≢ Some name

-- some field has this name
abbrev pub HasColumn : List (List ℕ) → List ℕ → Type 0
HasColumn fields name = (column : ℕ) × IsColumn fields name column

-- the columns have these names, and each is the first one that does
pub record AreNamed (fields : List (List ℕ)) (key body : List ℕ) (columns : Columns) : Type 0 where
  pub key_column : IsColumn fields key columns.key
  pub body_column : IsColumn fields body columns.body

-- what is lacking where one of the names is in no column: the key is told first
abbrev pub IsLacking : List (List ℕ) → (key body : List ℕ) → HeaderError → Type 0
IsLacking fields key body NoKey = HasNone fields key
IsLacking fields key body NoBody = HasNone fields body
IsLacking fields key body other = ⊥

-- what is lacking of the columns `key` and `body`: the other one is there, or neither is
abbrev pub IsLackingDefault : List (List ℕ) → HeaderError → Type 0
IsLackingDefault fields NoKey = HasNone fields (codes "key") × HasColumn fields (codes "body")
IsLackingDefault fields NoBody = HasNone fields (codes "body") × HasColumn fields (codes "key")
IsLackingDefault fields NoNames = HasNone fields (codes "key") × HasNone fields (codes "body")
IsLackingDefault fields other = ⊥
