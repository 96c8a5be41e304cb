use Rattle.std.proofs.Common.{◌≡◌, ◌++◌, ℕ, List}
use Rattle.std.specs.Io.KnownBytes.{Appends}
use Rattle.nsf_core.specs.Value.{value_of}
use Rattle.program_rows.specs.Exported.{all_keys, visible_records}
use Rattle.program_rows.proofs.PairRecords.{rest_count, rest_records}
use Rattle.program_rows.proofs.exporting.print_visible.Given as goal

-- the rows of the pairs so far are printed
abbrev pub invariant-loop-last : goal.invariant-loop-last
invariant-loop-last g l =
    let core = value_of l.core in
    (done : List ℕ) × Appends (g.W.Write.contents l.fn.output) (g.W.Write.contents l.output) done
    × (done ++ rest_records core.index.entries all_keys l.format core.heap.rows l.last ≡ visible_records l.format core)

abbrev pub decreases-loop-last : goal.decreases-loop-last
decreases-loop-last g l = rest_count (value_of l.core).index.entries all_keys l.last
