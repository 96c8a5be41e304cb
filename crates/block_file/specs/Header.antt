-- The header of a file of blocks.
use Rattle.std.specs.Prelude.{◌≡◌, ℕ, ◌+◌, ◌/◌, ◌^◌, nat_lt, Bool, true, ◌&&◌, ◌==◌, if◌then◌else◌, List, take}
use Rattle.std.specs.Prelude.{Option, Some, None}
use Rattle.block_digest.specs.Digest.{digest}
use Rattle.block_device.specs.Blocks.{CrashFile, block}
use Rattle.block_device.specs.Words.{word}
use Rattle.block_journal.specs.Layout.{IsInside, found}
use Rattle.block_table.specs.Table.{kept_count}
use Rattle.block_file.specs.declared.plan.Plan.{Plan}

-- Where a device of so many sectors is: behind two headers the areas, the table, and the data.
abbrev pub plan_for : (sectors lead area : ℕ) → Plan
plan_for sectors lead area = record {
  shape = record { first = 2; area = area; kept = kept_count ((lead + sectors + 7) / 8) };
  blocks = (lead + sectors + 7) / 8;
  lead = lead;
  sectors = sectors;
}

-- whether there can be such a device
abbrev pub can_be : (sectors lead area : ℕ) → Bool
can_be sectors lead area = nat_lt sectors (2 ^ 60) && (nat_lt lead 8 && (nat_lt 2 area && nat_lt area 256))

-- a plan that a header can tell
pub record CanBeTold (p : Plan) : Type 0 where
  pub can : can_be p.sectors p.lead p.shape.area ≡ true
  pub same : p ≡ plan_for p.sectors p.lead p.shape.area

-- The first numbers of a header are the text `NSFBLOCK`, the version, which is 2, how many sectors the device has, how
-- many others are before the first one in its block, and how many blocks an area has. The last one is the digest of the
-- bytes before it.
abbrev pub is_header : List ℕ → Bool
is_header bytes = (word bytes 0 == 5643932008587412299)
    && ((word bytes 1 == 2) && (word bytes 511 == digest (take 4088 bytes)))

-- the plan that a block tells, if it is a header of a device that can be
abbrev pub told_by : List ℕ → Option Plan
told_by bytes =
    if is_header bytes && can_be (word bytes 2) (word bytes 3) (word bytes 4)
    then Some (plan_for (word bytes 2) (word bytes 3) (word bytes 4))
    else None

abbrev pub first_of : Option Plan → Option Plan → Option Plan
first_of (Some p) second = Some p
first_of None second = second

-- the plan that a file tells: in its first block, or else in the second one
abbrev pub plan_told : CrashFile → Option Plan
plan_told image = first_of (told_by (block image 0)) (told_by (block image 1))

-- both of its first blocks tell this plan
pub record TellTwice (p : Plan) (image : CrashFile) : Type 0 where
  pub first : told_by (block image 0) ≡ Some p
  pub second : told_by (block image 1) ≡ Some p

-- The crash file tells no plan that it has room for.
abbrev pub HasNoPlan : CrashFile → Type 0
HasNoPlan image = (p : Plan) → plan_told image ≡ Some p → ¬ IsInside p.shape image

-- The crash file ends before what its header tells.
abbrev pub IsCut : CrashFile → Type 0
IsCut image = (p : Plan) × (plan_told image ≡ Some p) × (¬ IsInside p.shape image)

-- The crash file tells a plan that it has room for, and neither area of its journal has a batch.
abbrev pub HasNoBatch : CrashFile → Type 0
HasNoBatch image = (p : Plan) × (plan_told image ≡ Some p) × IsInside p.shape image
    × (found p.shape image 0 ≡ None) × (found p.shape image 1 ≡ None)
