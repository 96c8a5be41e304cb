use Rattle.std.specs.Io.KnownBytes.{Appends}
use Rattle.nsf_core.specs.Value.{value_of}
use Rattle.program_rows.specs.Exported.{page_records}
use Rattle.program_rows.proofs.exporting.print_pages.Given as goal

-- the pages so far are printed
abbrev pub invariant-loop-page : goal.invariant-loop-page
invariant-loop-page g l = Appends (g.W.Write.contents l.initial.output) (g.W.Write.contents l.output)
    (page_records l.format (value_of l.core).heap.rows l.page)
