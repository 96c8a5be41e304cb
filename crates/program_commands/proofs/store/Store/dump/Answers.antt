use Rattle.std.proofs.Common.{add-one}
use Rattle.std.proofs.KnownBytes.{Appends-nil, Appends-trans}
use Rattle.record_values.specs.declared.rid.TheConstants.{SLOTS_PER_PAGE}
use Rattle.program_commands.specs.Store.{rows_of}
use Rattle.program_commands.specs.Dump.{slot_lines, page_lines}
use Rattle.program_commands.proofs.store.Store.dump.Goals as goal

pub loop-page-init : goal.loop-page-init
unfolding page_lines
loop-page-init g c = Appends-nil (g.W.Write.contents c.args.output.now)

pub loop-page-preserved : goal.loop-page-preserved
unfolding page_lines
loop-page-preserved g c =
    let rows = rows_of c.args.self.now in
    rw add-one
    (Appends-trans (g.W.Write.contents c.args.output.now) (g.W.Write.contents c.loop-page.output) (g.W.Write.contents c.dump_page.new.output)
    (page_lines rows c.loop-page.page) (slot_lines rows c.loop-page.page SLOTS_PER_PAGE)
    c.loop-page.invariant c.in_ok-dump_page.ensures)
