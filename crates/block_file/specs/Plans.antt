-- Where a file has the sectors of a device.
use Rattle.std.specs.Prelude.{◌≡◌, ◌+◌, ◌*◌, ◌^◌, ◌<◌, ◌≤◌}
use Rattle.sector_device.specs.Disk.{CrashState}
use Rattle.block_device.specs.Blocks.{CrashFile}
use Rattle.block_journal.specs.Layout.{recovered}
use Rattle.block_table.specs.Table.{data_of, kept_count}
use Rattle.block_file.specs.declared.plan.Plan.{Plan}
use Rattle.block_file.specs.Sectors.{sectors_of}

-- The journal keeps the table and the data, whose blocks have room for the sectors, and a batch has room for a block of
-- data and one of the table.
pub record IsPlan (p : Plan) : Type 0 where
  pub kept : p.shape.kept ≡ kept_count p.blocks
  pub room : p.lead + p.sectors ≤ 8 * p.blocks
  pub small : p.lead + p.sectors < 2 ^ 64
  pub batch : 2 < p.shape.area

-- the sectors that a crash file of a file stands for
abbrev pub disk_image : Plan → CrashFile → CrashState
disk_image p image = sectors_of p.lead p.sectors (data_of p.blocks (recovered p.shape image))
