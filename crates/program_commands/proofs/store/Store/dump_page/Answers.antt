use Rattle.std.proofs.Common.{add-one}
use Rattle.std.proofs.KnownBytes.{Appends-nil, Appends-trans}
use Rattle.record_values.specs.Values.{Place}
use Rattle.program_commands.specs.Store.{rows_of}
use Rattle.program_commands.specs.Dump.{row_line, slot_lines}
use Rattle.program_commands.proofs.store.Store.dump_page.Goals as goal

pub loop-slot-init : goal.loop-slot-init
unfolding slot_lines
loop-slot-init g c = Appends-nil (g.W.Write.contents c.args.output.now)

pub loop-slot-preserved : goal.loop-slot-preserved
unfolding slot_lines
loop-slot-preserved g c =
    let rows = rows_of c.args.self.now in
    let place : Place = record { page = c.args.page; slot = c.loop-slot.slot } in
    rw add-one
    (Appends-trans (g.W.Write.contents c.args.output.now) (g.W.Write.contents c.loop-slot.output) (g.W.Write.contents c.dump_row.new.output)
    (slot_lines rows c.args.page c.loop-slot.slot) (row_line rows place)
    c.loop-slot.invariant c.in_ok-dump_row.ensures)
