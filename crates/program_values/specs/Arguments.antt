-- What the arguments of the program ask for.
use Rattle.std.specs.Prelude.{ℕ, List, Option, Some, None, unwrap_or, codes, if◌then◌else◌}
use Rattle.std.specs.Str.{bytes_eq}
use Rattle.record_values.specs.declared.geometry.TheConstants.{ENTRIES_MIN, LOG_SLOTS_MIN}
use Rattle.sector_device.specs.declared.call.Fate.{Fate}
use Rattle.sector_device.specs.declared.call.Fate.TheVariants.{Old, New, Zero, Gate, Junk}
use Rattle.program_values.specs.declared.given.Arguments.{Arguments}
use Rattle.program_values.specs.declared.given.Options.{Options}

-- what is asked for, where any of it may be left out
abbrev pub with_defaults : Options → Arguments
with_defaults given = record {
  pages = unwrap_or given.pages 1;
  entries = unwrap_or given.entries ENTRIES_MIN;
  slots = unwrap_or given.slots LOG_SLOTS_MIN;
  sectors = given.sectors;
  stop = given.stop;
  fate = unwrap_or given.fate Old;
}

-- the fate of a name, where it is one
abbrev pub fate_of_name : List ℕ → Option Fate
fate_of_name name =
    if bytes_eq name (codes "old") then Some Old
    else if bytes_eq name (codes "new") then Some New
    else if bytes_eq name (codes "zero") then Some Zero
    else if bytes_eq name (codes "a5") then Some Gate
    else if bytes_eq name (codes "junk") then Some Junk
    else None
