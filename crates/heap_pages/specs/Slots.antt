-- What clauses see of a page.
use Rattle.std.specs.Prelude.{◌≡◌, ℕ, zero, suc, ◌+◌, ◌<◌, Bool, false, List, [], ◌∷◌, Option, Some, None, slice_get}
use Rattle.std.specs.Ordering.{nat_cmp}
use Rattle.std.specs.FinMap.{FinMap, code, get, from_sorted}
use Rattle.std.specs.Coded.{Coded, coded_ℕ}
use Rattle.record_values.specs.Values.{Place}
use Rattle.record_values.specs.Codes.{coded_row}
use Rattle.record_values.specs.declared.rid.TheConstants.{SLOTS_PER_PAGE}
use Rattle.record_values.specs.declared.row.Row.{Row}

-- the rows of a page, each in its slot
abbrev pub Slots : Type 0
Slots = FinMap nat_cmp Row

-- how the logic stores the slots of a page
abbrev pub coded_slots : Coded Slots
coded_slots = code coded_ℕ coded_row

-- the rows of these slots, the first of which is slot i
abbrev pub slot_entries : ℕ → List (Option Row) → List (ℕ × Row)
slot_entries i [] = []
slot_entries i (None ∷ slots) = slot_entries (i + 1) slots
slot_entries i (Some row ∷ slots) = (i, row) ∷ slot_entries (i + 1) slots

-- the rows of these slots, counted from 0
abbrev pub page_of : List (Option Row) → Slots
page_of slots = from_sorted (slot_entries 0 slots)

-- the row or none in each of n slots, the first of which is slot i
abbrev pub slots_from : Slots → ℕ → ℕ → List (Option Row)
slots_from page i zero = []
slots_from page i (suc n) = get page i ∷ slots_from page (i + 1) n

-- the row or none in each slot of a page
unfoldable pub slots_of : Slots → List (Option Row)
slots_of page = slots_from page 0 SLOTS_PER_PAGE

-- the slot is empty and not held
abbrev pub IsFreeSlot : Slots → List Bool → ℕ → Type 0
IsFreeSlot page held s = (get page s ≡ None) × (slice_get held s ≡ Some false)

-- no slot below n is free
abbrev pub NoneFree : ℕ → Slots → List Bool → Type 0
NoneFree n page held = (s : ℕ) → s < n → ¬ IsFreeSlot page held s

-- the slot is free, and none before it is
pub record IsFirstFree (page : Slots) (held : List Bool) (s : ℕ) : Type 0 where
  pub inside : s < SLOTS_PER_PAGE
  pub free : IsFreeSlot page held s
  pub first : NoneFree s page held
