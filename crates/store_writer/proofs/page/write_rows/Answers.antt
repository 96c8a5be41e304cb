use Rattle.std.proofs.Common.{replicate, None}
use Rattle.record_values.specs.declared.rid.TheConstants.{SLOTS_PER_PAGE}
use Rattle.flip_image.specs.Layout.{other, header_sector}
use Rattle.store_writer.proofs.OnePage.{page_is, none_shown}
use Rattle.store_writer.proofs.page.write_rows.Goals as goal

pub returns-in-Some-clause-written : goal.returns-in-Some-clause-written
returns-in-Some-clause-written g c =
    page_is c.write_page.result (header_sector c.args.halves.geometry (other c.args.halves.current))
    (g.D.Device.past_of c.write_page.new.device).disk.content c.args.page c.args.rows.now
    c.in-Some.slots.now c.in-Some.ensures.slots c.write_page.ensures.edges c.write_page.ensures.written

pub returns-in-None-clause-written : goal.returns-in-None-clause-written
returns-in-None-clause-written g c =
    page_is c.write_page-in-None.result (header_sector c.args.halves.geometry (other c.args.halves.current))
    (g.D.Device.past_of c.write_page-in-None.new.device).disk.content c.args.page c.args.rows.now
    (replicate SLOTS_PER_PAGE None) (none_shown c.args.page c.args.rows.now (c.page.ensures.none c.in-None.is)) c.write_page-in-None.ensures.edges
    c.write_page-in-None.ensures.written
