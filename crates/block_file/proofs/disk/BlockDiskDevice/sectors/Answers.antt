use Rattle.std.proofs.Common.{sym}
use Rattle.block_table.specs.Checked.{data_now}
use Rattle.block_file.proofs.Patching.{length-sectors}
use Rattle.block_file.proofs.disk.BlockDiskDevice.sectors.Goals as goal

pub returns : goal.returns
returns g c =
    rw (← c.self.view_is) (
    let d = c.self.inside.parts in
    sym (length-sectors d.plan.lead d.plan.sectors (data_now g.B.Blocks.past_of d.now.checked)))
