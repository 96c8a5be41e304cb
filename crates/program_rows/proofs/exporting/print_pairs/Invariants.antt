use Rattle.std.proofs.Common.{take}
use Rattle.std.specs.Io.KnownBytes.{Appends}
use Rattle.nsf_core.specs.Value.{value_of}
use Rattle.program_rows.specs.Exported.{pair_records}
use Rattle.program_rows.proofs.exporting.print_pairs.Given as goal

-- the pairs so far are printed
abbrev pub invariant-loop-pair : goal.invariant-loop-pair
invariant-loop-pair g l = Appends (g.W.Write.contents l.initial.output) (g.W.Write.contents l.output)
    (pair_records l.format (value_of l.core).heap.rows (take l.pair-index l.pairs))
