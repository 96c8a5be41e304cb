use Rattle.std.proofs.Common.{add-one}
use Rattle.std.proofs.KnownBytes.{Appends-nil, Appends-trans}
use Rattle.record_values.specs.Values.{Place}
use Rattle.nsf_core.specs.Value.{value_of}
use Rattle.program_rows.specs.Exported.{row_record, slot_records}
use Rattle.program_rows.proofs.exporting.print_page.Goals as goal

pub loop-slot-init : goal.loop-slot-init
unfolding slot_records
loop-slot-init g c = Appends-nil (g.W.Write.contents c.args.output.now)

pub loop-slot-preserved : goal.loop-slot-preserved
unfolding slot_records
loop-slot-preserved g c =
    let rows = (value_of c.args.core.now).heap.rows in
    let place : Place = record { page = c.args.page; slot = c.loop-slot.slot } in
    rw add-one
    (Appends-trans (g.W.Write.contents c.args.output.now) (g.W.Write.contents c.loop-slot.output) (g.W.Write.contents c.print_row.new.output)
    (slot_records c.args.format rows c.args.page c.loop-slot.slot) (row_record c.args.format rows place)
    c.loop-slot.invariant c.in_ok-print_row.ensures.printed)
