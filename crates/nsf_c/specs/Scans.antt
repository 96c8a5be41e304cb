-- What C asks for of the index in order, and what it is told.
use Rattle.std.specs.Prelude.{Bool, true, false, ◌≡◌, ◌⊎◌, ◌<◌, ◌≤◌, ℕ, List, [], ◌∷◌, length}
use Rattle.std.specs.Prelude.{Option, Some, None, Result, Ok, Err}
use Rattle.std.specs.declared.alloc.Global.{Global}
use Rattle.std.specs.declared.ops.Bound.{Bound}
use Rattle.std.specs.declared.ops.Bound.TheVariants.{Excluded, Included, Unbounded}
use Rattle.record_values.specs.declared.error.Error.{Error}
use Rattle.record_values.specs.declared.key.TheConstants.{KEY_MAX}
use Rattle.record_values.specs.declared.pair.Pair.{Pair}
use Rattle.record_values.specs.declared.rid.TheConstants.{SLOTS_PER_PAGE}
use Rattle.record_values.specs.Refusals.{number_of}
use Rattle.record_values.specs.Entries.{Index}
use Rattle.core_parts.specs.View.{CoreValue}
use Rattle.core_scan.specs.Answered.{IsPageOf}
use Rattle.core_scan.specs.Backward.{IsPageBackOf}
use Rattle.core_scan.specs.declared.range.KeyRange.{KeyRange}
use Rattle.core_scan.specs.declared.reading.Page.{Page}
use Rattle.core_committed.specs.Committed.{committed_index}
use Rattle.nsf_c.specs.declared.bounds.Bounds.{Bounds}
use Rattle.nsf_c.specs.declared.told.Told.{Told}
use Rattle.nsf_c.specs.Told.{paired, plain}

-- ---- what is asked for

-- a bound of this kind, with this key where it has one
abbrev pub IsBound : ℕ → List ℕ → Bound (List ℕ) → Type 0
IsBound k key Unbounded = k ≡ 0
IsBound k key (Included at) = (k ≡ 1) × (at ≡ key) × (length key ≤ KEY_MAX)
IsBound k key (Excluded at) = (k ≡ 2) × (at ≡ key) × (length key ≤ KEY_MAX)

-- why there is no such bound, by the number of the refusal: no bound has the kind, or the key is too long
abbrev pub IsNoBound : ℕ → List ℕ → ℕ → Type 0
IsNoBound k key n = ((n ≡ 24) × (2 < k)) ⊎ ((n ≡ 14) × (0 < k) × (k ≤ 2) × (KEY_MAX < length key))

-- no number is a reason
abbrev pub IsFine : (ℕ → Type 0) → Type 0
IsFine Bad = (n : ℕ) → ¬ Bad n

-- the pair from which to go on, where there is one
abbrev pub IsGivenPair : Bounds → List ℕ → Option Pair → Type 0
IsGivenPair b key None = b.goes_on ≡ 0
IsGivenPair b key (Some p) = (b.goes_on ≡ 1) × (p ≡ record { key = key; rid = record { page = b.page; slot = b.slot } })
    × (length key ≤ KEY_MAX) × (b.slot < SLOTS_PER_PAGE)

-- why there is no such pair: it isn't said whether there is one; its key is too long; or it isn't, and its slot is on
-- no page
abbrev pub IsNoPair : Bounds → List ℕ → ℕ → Type 0
IsNoPair b key n = ((n ≡ 24) × (1 < b.goes_on)) ⊎ ((n ≡ 14) × (b.goes_on ≡ 1) × (KEY_MAX < length key))
    ⊎ ((n ≡ 10) × (b.goes_on ≡ 1) × (length key ≤ KEY_MAX) × (SLOTS_PER_PAGE ≤ b.slot))

-- a yes or a no, as C asks for it
abbrev pub IsFlag : ℕ → Bool → Type 0
IsFlag n flag = ((n ≡ 0) × (flag ≡ false)) ⊎ ((n ≡ 1) × (flag ≡ true))

-- the index as is committed, or as transactions see it
abbrev pub index_read : Bool → CoreValue → Index
index_read true v = committed_index v
index_read false v = v.index.entries

-- which of the two is read
abbrev pub IsRead : Bounds → CoreValue → Index → Type 0
IsRead b v index = (is_committed : Bool) × IsFlag b.committed is_committed × (index ≡ index_read is_committed v)

-- why bounds and pair are none: the first of these, in this order
abbrev pub IsNoRange : Bounds → List ℕ → List ℕ → List ℕ → ℕ → Type 0
IsNoRange b from to given n =
    IsNoBound b.from from n
    ⊎ (IsNoBound b.to to n × IsFine (IsNoBound b.from from))
    ⊎ (IsNoPair b given n × IsFine (IsNoBound b.from from) × IsFine (IsNoBound b.to to))

-- why nothing is asked for: that, or else that no index is read so
abbrev pub IsNoScan : Bounds → List ℕ → List ℕ → List ℕ → ℕ → Type 0
IsNoScan b from to behind n = IsNoRange b from to behind n
    ⊎ ((n ≡ 24) × (1 < b.committed) × IsFine (IsNoRange b from to behind))

-- and why nothing is asked for backward: what is committed isn't read so
abbrev pub IsNoScanBack : Bounds → List ℕ → List ℕ → List ℕ → ℕ → Type 0
IsNoScanBack b from to ahead n = IsNoRange b from to ahead n
    ⊎ ((n ≡ 24) × (0 < b.committed) × IsFine (IsNoRange b from to ahead))

-- ---- what is told

-- told of the first of these pairs, or that there is none
abbrev pub shown : List Pair → Told
shown [] = plain 31 0
shown (p ∷ ps) = paired 30 0 p

-- a page is told, or why there is none
abbrev pub TellsPage : Result (Page Global) Error → ℕ → Told → Type 0
TellsPage (Ok page) status told = (status ≡ 0) × (told ≡ shown page.pairs.items)
TellsPage (Err e) status told = (status ≡ number_of e) × (told ≡ plain 0 0)

-- What is asked for is a range, and perhaps a pair behind which to go on: the first pair there is told, or why none is.
pub record IsShown (b : Bounds) (from to behind : List ℕ) (status : ℕ) (told : Told) (v : CoreValue) : Type 0 where
  pub range : KeyRange
  pub after : Option Pair
  pub index : Index
  pub answer : Result (Page Global) Error
  pub begins : IsBound b.from from range.from
  pub ends : IsBound b.to to range.to
  pub goes_on : IsGivenPair b behind after
  pub reads : IsRead b v index
  pub page : IsPageOf index v.life range after 1 answer
  pub tells : TellsPage answer status told

-- It isn't, and nothing is told.
abbrev pub IsNotShown : Bounds → List ℕ → List ℕ → List ℕ → ℕ → Told → Type 0
IsNotShown b from to behind status told = IsNoScan b from to behind status × (told ≡ plain 0 0)

-- What is asked for is a range, and perhaps a pair before which to go on: the last pair there is told, or why none is.
pub record IsShownBack (b : Bounds) (from to ahead : List ℕ) (status : ℕ) (told : Told) (v : CoreValue) : Type 0 where
  pub range : KeyRange
  pub before : Option Pair
  pub answer : Result (Page Global) Error
  pub begins : IsBound b.from from range.from
  pub ends : IsBound b.to to range.to
  pub goes_on : IsGivenPair b ahead before
  pub uncommitted : b.committed ≡ 0
  pub page : IsPageBackOf v.index.entries v.life range before 1 answer
  pub tells : TellsPage answer status told

-- It isn't, and nothing is told.
abbrev pub IsNotShownBack : Bounds → List ℕ → List ℕ → List ℕ → ℕ → Told → Type 0
IsNotShownBack b from to ahead status told = IsNoScanBack b from to ahead status × (told ≡ plain 0 0)
