-- What a caller of a log may conclude: an image has one reading, and a log that was read stands for it.
use Rattle.std.proofs.Common.{◌≡◌, ℕ, List, [], ◌∷◌, ◌++◌, length, ◌∙◌, ap, refl, sym, append_assoc, append-nil}
use Rattle.sector_device.specs.Disk.{CrashState, sector}
use Rattle.records.specs.RecordValue.{RecordValue}
use Rattle.record_values.specs.declared.version.Version.{Version}
use Rattle.gate_log.specs.Area.{Area, Log, InArea, records_of, HoldsGroups, HoldsGroupsIn, StandsIn, IsFirstDamagedSlotIn}
use Rattle.gate_log.proofs.Areas as areas

-- an image holds one list of groups at most
pub one_reading : (v : Version) (area : Area) (image : CrashState) (a b : List (List RecordValue)) → HoldsGroupsIn v area image a → HoldsGroupsIn v area image b
    → a ≡ b
one_reading = areas.one_reading

-- it is damaged first at one sector at most
pub one_damage : (v : Version) (area : Area) (image : CrashState) (a b : ℕ) → IsFirstDamagedSlotIn v area image a → IsFirstDamagedSlotIn v area image b → a ≡ b
one_damage = areas.one_damage

-- where it is damaged it holds no groups
pub not_damaged : (v : Version) (area : Area) (image : CrashState) (sector : ℕ) (groups : List (List RecordValue)) → IsFirstDamagedSlotIn v area image sector
    → ¬ HoldsGroupsIn v area image groups
not_damaged = areas.not_damaged

-- a log that stands for some groups stands for any that its area holds
pub stands_for : (v : Version) (log : Log) (image : CrashState) (found groups : List (List RecordValue)) → StandsIn v log image found
    → HoldsGroupsIn v log.area image groups → StandsIn v log image groups
stands_for v log image found groups stands held = record {
  held = held;
  counted = stands.counted
      ∙ ap length (one_reading v log.area image found groups stands.held held);
}

-- ---- records of groups

pub records_of-append : (groups later : List (List RecordValue)) → records_of (groups ++ later) ≡ records_of groups ++ records_of later
records_of-append [] later = refl
records_of-append (group ∷ groups) later = ap (λ (t : List RecordValue). group ++ t) (records_of-append groups later)
    ∙ sym (append_assoc group (records_of groups) (records_of later))

pub records_of_one_more : (groups : List (List RecordValue)) (group : List RecordValue) → records_of (groups ++ group ∷ []) ≡ records_of groups ++ group
records_of_one_more groups group = records_of-append groups (group ∷ []) ∙ ap (λ (t : List RecordValue). records_of groups ++ t) (append-nil group)

-- what an image holds is told by the sectors of the area
pub told_by_its_sectors : (area : Area) (image other : CrashState) (groups : List (List RecordValue)) → length other ≡ length image
    → ((n : ℕ) → InArea area n → sector other n ≡ sector image n) → HoldsGroups area image groups → HoldsGroups area other groups
told_by_its_sectors = areas.holds_same
