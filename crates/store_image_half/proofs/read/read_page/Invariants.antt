use Rattle.std.proofs.Common.{◌≡◌}
use Rattle.store_image_half.specs.Steps.{HoldsSlots}
use Rattle.model.specs.Extended.{table_of}
use Rattle.store_image_half.proofs.read.read_page.Given as goal

abbrev pub invariant-loop-slot : goal.invariant-loop-slot
invariant-loop-slot g l = HoldsSlots l.version l.first (g.D.Device.past_of l.fn.device).disk.content l.page l.slot (table_of l.fn.rows.items)
    (table_of l.rows.items)
