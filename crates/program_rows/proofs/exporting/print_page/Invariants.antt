use Rattle.std.specs.Io.KnownBytes.{Appends}
use Rattle.nsf_core.specs.Value.{value_of}
use Rattle.program_rows.specs.Exported.{slot_records}
use Rattle.program_rows.proofs.exporting.print_page.Given as goal

-- the slots so far are printed
abbrev pub invariant-loop-slot : goal.invariant-loop-slot
invariant-loop-slot g l = Appends (g.W.Write.contents l.initial.output) (g.W.Write.contents l.output)
    (slot_records l.format (value_of l.core).heap.rows l.page l.slot)
