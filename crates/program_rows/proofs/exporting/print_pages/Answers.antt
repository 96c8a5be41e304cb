use Rattle.std.proofs.Common.{add-one}
use Rattle.std.proofs.KnownBytes.{Appends-nil, Appends-trans}
use Rattle.record_values.specs.declared.rid.TheConstants.{SLOTS_PER_PAGE}
use Rattle.nsf_core.specs.Value.{value_of}
use Rattle.program_rows.specs.Exported.{page_records, slot_records}
use Rattle.program_rows.proofs.exporting.print_pages.Goals as goal

pub loop-page-init : goal.loop-page-init
unfolding page_records
loop-page-init g c = Appends-nil (g.W.Write.contents c.args.output.now)

pub loop-page-preserved : goal.loop-page-preserved
unfolding page_records
loop-page-preserved g c =
    let rows = (value_of c.args.core.now).heap.rows in
    rw add-one
    (Appends-trans (g.W.Write.contents c.args.output.now) (g.W.Write.contents c.loop-page.output) (g.W.Write.contents c.print_page_at_once.new.output)
    (page_records c.args.format rows c.loop-page.page) (slot_records c.args.format rows c.loop-page.page SLOTS_PER_PAGE)
    c.loop-page.invariant c.in_ok-print_page_at_once.ensures.printed)
