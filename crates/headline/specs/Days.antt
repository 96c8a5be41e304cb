-- The days of a store, from one stop to the next: what was asked and answered in each, and what was kept of it.
use Rattle.std.specs.List.{All}
use Rattle.std.specs.Prelude.{◌≡◌, ◌⊎◌, true, if◌then◌else◌, ◌<◌, ◌≤◌, ◌-◌, ℕ, List, [], ◌∷◌, ◌++◌, length, take}
use Rattle.std.specs.Prelude.{Result, Ok, Err}
use Rattle.std.specs.declared.vec.Vec.{Vec}
use Rattle.record_values.specs.GeometryValue.{GeometryValue}
use Rattle.record_values.specs.declared.error.Error.{Error}
use Rattle.record_values.specs.declared.error.Error.TheVariants.{DeviceFailed, NoMemory}
use Rattle.model.specs.History.{Item, life_after, table_after}
use Rattle.core_model.specs.Histories.{no_writes}
use Rattle.core_model.specs.Served.{IsMadeOf}
use Rattle.sector_device.specs.DevicePast.{Rises}
use Rattle.restart.specs.declared.event.Reply.{Reply}
use Rattle.restart.specs.declared.parts.EngineParts.{EngineParts}
use Rattle.restart.specs.Lawful.{AreLawful}
use Rattle.restart.specs.History.{core_calls}
use Rattle.restart.specs.Parts.{core_of, device_of}
use Rattle.restart.specs.Store.{over}
use Rattle.headline.specs.declared.day.Day.{Day}
use Rattle.headline.specs.AtRest.{AtRest, IsOpenedOver, given_of}
use Rattle.headline.specs.Told.{acknowledged, told_over}

-- the replies of a day, or why nothing was served
abbrev pub Answer : Type 0 → Type 0
Answer M = Result (Vec (Reply M) M) Error

-- The store was opened, and each request of the day had a lawful reply. Records were kept up to a last one, which the
-- day began with or made. Each that was acknowledged before the store stopped is among them. (A day that ends within
-- stopped before its last reply.) Of what the replies tell, just the items up to that record were kept. The store is
-- what the records that were made with these replies, up to that record, make of what it was: so its entries are,
-- marked ones too.
pub record IsServed {D M : Type 0} (failures : D → ℕ) (geometry : GeometryValue) (old : AtRest) (day : Day M)
    (replies : List (Reply M)) (new : AtRest) : Type 0 where
  pub opened : EngineParts D M
  pub begins : IsOpenedOver failures geometry old opened
  pub closed : EngineParts D M
  pub lawful : AreLawful failures day.requests.items replies opened closed
  pub count : new.failed ≡ failures (device_of closed)
  pub kept : List Item
  pub lost : List Item
  pub told : told_over no_writes day.requests.items replies ≡ kept ++ lost
  pub before : All (λ (item : Item). item.number ≤ new.last) kept
  pub behind : All (λ (item : Item). new.last < item.number) lost
  pub safe : acknowledged (if day.within then take (length replies - 1) replies else replies) ≤ new.last
  pub later : old.last ≤ new.last
  pub made : new.last ≤ (core_of closed).last
  pub rows : new.rows ≡ table_after old.rows kept
  pub life : new.life ≡ life_after old.life kept
  pub records : IsMadeOf (over geometry (given_of old)) (core_calls day.requests.items replies) (given_of new)

-- why a store wasn't opened: there was no memory, or a call of the device failed
abbrev pub IsUnopened : Error → (before now : ℕ) → Type 0
IsUnopened e before now = ((e ≡ NoMemory) × (now ≡ before)) ⊎ ((e ≡ DeviceFailed) × Rises before now)

-- What a day with this answer made of the store. It was served. Or the store stopped within its opening: nothing was
-- asked, and it rests as it did. (The stop may have undone what the opening had read unsynced. So the store that was
-- opened may be another that the days before could leave.) Or nothing was served, and it rests so, but for its device's
-- count of failures.
abbrev pub IsDay : {D M : Type 0} → (D → ℕ) → GeometryValue → AtRest → Day M → Answer M → AtRest → Type 0
IsDay failures geometry old day (Ok replies) new = IsServed failures geometry old day replies.items new
    ⊎ ((day.within ≡ true) × (day.requests.items ≡ []) × (replies.items ≡ []) × (new ≡ old))
IsDay _ _ old _ (Err e) new = (new ≡ record old { failed = new.failed }) × IsUnopened e old.failed new.failed

-- what these days, one after another, made of it
abbrev pub AreDays : {D M : Type 0} → (D → ℕ) → GeometryValue → AtRest → List (Day M) → List (Answer M) → AtRest
    → Type 0
AreDays failures geometry old [] [] new = new ≡ old
AreDays failures geometry old (day ∷ days) (answer ∷ answers) new = (mid : AtRest)
    × IsDay failures geometry old day answer mid × AreDays failures geometry mid days answers new
AreDays failures geometry old days answers new = ⊥
