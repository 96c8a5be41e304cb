use Rattle.std.proofs.Common.{◌≡◌, ◌∙◌, ℕ, List, subst}
use Rattle.std.specs.Io.KnownBytes.{Appends}
use Rattle.record_values.specs.declared.rid.TheConstants.{SLOTS_PER_PAGE}
use Rattle.nsf_core.specs.Value.{value_of}
use Rattle.program_rows.specs.Exported.{slot_records}
use Rattle.program_rows.proofs.exporting.print_page_at_once.Goals as goal

pub returns-clause-printed : goal.returns-clause-printed
returns-clause-printed g c =
    let contents = g.W.Write.contents in
    let printed : c.print_page.new.output.items ≡ slot_records c.args.format (value_of c.args.core.now).heap.rows c.args.page SLOTS_PER_PAGE =
    rw c.new-text.ensures.items at c.in_ok-print_page.ensures.printed in
    subst (λ (bytes : List ℕ). Appends (contents c.args.output.now) (contents c.write_all.new.self) bytes)
    (c.as_slice.ensures.value ∙ printed) c.in_ok-write_all.ensures.bytes
