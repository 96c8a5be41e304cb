-- What contracts see of a half of a session, and of the halves of all.
use Rattle.threads_sessions.specs.Values.{SessionValue, empty_session}
use Rattle.std.specs.Prelude.{◌≡◌, ℕ, List, Some, slice_get}
use Rattle.atomic_table.specs.Seated.{TableId}

-- of which registry it is, the number of the session, and the session that it shows
pub record HalfValue : Type 0 where
  pub table : TableId
  pub number : ℕ
  pub session : SessionValue

-- what makes halves: of which registry it is, and the number of the next session
pub record MakerValue : Type 0 where
  pub table : TableId
  pub next : ℕ

-- each half stands at its number
abbrev pub IsBook : TableId → List HalfValue → Type 0
IsBook z halves = (k : ℕ) (h : HalfValue) → slice_get halves k ≡ Some h → (h.table ≡ z) × (h.number ≡ k)

-- the session that a half shows
abbrev pub shown : HalfValue → SessionValue
shown h = h.session

-- the halves of new sessions, each at its number
abbrev pub IsNew : TableId → List HalfValue → Type 0
IsNew z halves = (k : ℕ) (h : HalfValue) → slice_get halves k ≡ Some h
    → h ≡ record { table = z; number = k; session = empty_session }
