use Rattle.std.proofs.Common.{◌≡◌, ◌∙◌, ℕ, List, subst}
use Rattle.std.specs.Io.KnownBytes.{Appends}
use Rattle.nsf_core.specs.Value.{value_of}
use Rattle.program_rows.specs.Exported.{pair_records}
use Rattle.program_rows.proofs.exporting.print_pairs_at_once.Goals as goal

pub returns-clause-printed : goal.returns-clause-printed
returns-clause-printed g c =
    let contents = g.W.Write.contents in
    let printed : c.print_pairs.new.output.items ≡ pair_records c.args.format (value_of c.args.core.now).heap.rows c.args.pairs.now =
    rw c.new-text.ensures.items at c.in_ok-print_pairs.ensures.printed in
    subst (λ (bytes : List ℕ). Appends (contents c.args.output.now) (contents c.write_all.new.self) bytes)
    (c.as_slice.ensures.value ∙ printed) c.in_ok-write_all.ensures.bytes
