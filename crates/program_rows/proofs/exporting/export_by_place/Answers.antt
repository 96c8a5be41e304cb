use Rattle.std.proofs.KnownBytes.{Appends-trans}
use Rattle.nsf_core.specs.Value.{value_of}
use Rattle.program_rows.specs.Exported.{page_records}
use Rattle.program_rows.specs.Rows.{own_header}
use Rattle.program_rows.specs.declared.exporting.Format.TheVariants.{Fields}
use Rattle.program_rows.proofs.exporting.export_by_place.Goals as goal

pub returns-clause-printed : goal.returns-clause-printed
returns-clause-printed g c =
    let contents = g.W.Write.contents in
    let heap = (value_of c.args.core.now).heap in
    Appends-trans (contents c.args.output.now) (contents c.print_header.new.output) (contents c.print_pages.new.output) own_header
    (page_records Fields heap.rows heap.pages) c.in_ok-print_header.ensures.printed c.in_ok-print_pages.ensures.printed
