-- What clauses see of an index.
use Rattle.std.proofs.Common.{refl}
use Rattle.std.specs.Coded.{Coded, code_by, coded_bool, coded_list, coded_option, coded_ℕ, coded×}
use Rattle.std.specs.FinMap as map
use Rattle.std.specs.Prelude.{Bool, List, None, Option, false, true, ℕ, ◌≡◌, ◌≤◌, ◌⊎◌}
use Rattle.record_values.specs.declared.error.Error.{Error}
use Rattle.record_values.specs.Codes.{coded_mark, coded_pair}
use Rattle.record_values.specs.Entries.{Index}
use Rattle.record_values.specs.declared.pair.Pair.{Pair}
use Rattle.online_model.specs.Logs.{Cells}
use Rattle.online_model.specs.declared.life.Life.{Life}
use Rattle.online_model.specs.declared.life.Life.TheVariants.{Building, Complete}
use Rattle.online_model.specs.World.{highest_of}
use Rattle.sorted_scan.specs.Scans.{ScanValue, begun}

-- the entries, how many there may be, how far the index is built, what the builder has read and not attempted yet, and
-- how many pairs it attempted since the last checkpoint
pub record IndexValue : Type 0 where
  pub entries : Index
  pub capacity : ℕ
  pub life : Life
  pub scan : ScanValue
  pub attempts : ℕ

-- what notes set: the entries and the life
abbrev pub held_by : IndexValue → Cells
held_by v = record { entries = v.entries; life = v.life }

-- an index that was just created
abbrev pub created : ℕ → ℕ → IndexValue
created capacity pages = record {
  entries = map.empty;
  capacity = capacity;
  life = Building None;
  scan = begun None pages;
  attempts = 0;
}

-- an index that was reopened: the builder begins above the checkpoint
abbrev pub reopened : IndexValue → ℕ → IndexValue
reopened v pages = record v { scan = begun (highest_of v.life) pages; attempts = 0 }

-- there are as many entries as there may be
abbrev pub IsFull : IndexValue → Type 0
IsFull v = v.capacity ≤ map.len v.entries

-- why an entry is not added
abbrev pub IsRefusal : IndexValue → Error → Type 0
IsRefusal v e = ((e ≡ Error.IndexFull) × IsFull v) ⊎ (e ≡ Error.NoMemory)

-- ---- how the logic stores it
abbrev life_coded : Life → Bool × Option Pair
life_coded (Building highest) = (true, highest)
life_coded Complete = (false, None)

abbrev life_of : Bool × Option Pair → Life
life_of (true, highest) = Building highest
life_of (false, highest) = Complete

abbrev life_back : (life : Life) → life_of (life_coded life) ≡ life
life_back (Building highest) = refl
life_back Complete = refl

abbrev pub coded_life : Coded Life
coded_life = code_by (Bool × Option Pair) (coded× coded_bool (coded_option coded_pair)) life_coded life_of life_back

abbrev pub coded_scan : Coded ScanValue
coded_scan = code_by (ℕ × (Option Pair × (Option ℕ × List Pair)))
    (coded× coded_ℕ (coded× (coded_option coded_pair) (coded× (coded_option coded_ℕ) (coded_list coded_pair))))
    (λ v. (v.pages, (v.last, (v.wanted, v.waiting))))
    (λ p. record { pages = p.0; last = p.1.0; wanted = p.1.1.0; waiting = p.1.1.1 }) (λ _. refl)

abbrev pub coded_index : Coded IndexValue
coded_index = code_by (Index × (ℕ × (Life × (ScanValue × ℕ))))
    (coded× (map.code coded_pair coded_mark) (coded× coded_ℕ (coded× coded_life (coded× coded_scan coded_ℕ))))
    (λ v. (v.entries, (v.capacity, (v.life, (v.scan, v.attempts)))))
    (λ p. record { entries = p.0; capacity = p.1.0; life = p.1.1.0; scan = p.1.1.1.0; attempts = p.1.1.1.1 })
    (λ _. refl)
