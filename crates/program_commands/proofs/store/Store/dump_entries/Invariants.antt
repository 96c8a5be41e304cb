use Rattle.std.proofs.Common.{◌≡◌, ℕ, List, ◌++◌, length}
use Rattle.std.specs.FinMap as map
use Rattle.std.specs.Io.KnownBytes.{Appends}
use Rattle.std.specs.List.{flat_map}
use Rattle.program_commands.specs.Store.{entries_of}
use Rattle.program_commands.specs.Dump.{entry_lines}
use Rattle.program_commands.proofs.Entries.{later, line_of_entry}
use Rattle.program_commands.proofs.store.Store.dump_entries.Given as goal

-- the entries up to the last one are printed
abbrev pub invariant-loop-entry : goal.invariant-loop-entry
invariant-loop-entry g l =
    (done : List ℕ) × Appends (g.W.Write.contents l.initial.output) (g.W.Write.contents l.output) done
    × (done ++ flat_map line_of_entry (later l.last (map.entries (entries_of l.self))) ≡ entry_lines (entries_of l.self))

abbrev pub decreases-loop-entry : goal.decreases-loop-entry
decreases-loop-entry g l = length (later l.last (map.entries (entries_of l.self)))
