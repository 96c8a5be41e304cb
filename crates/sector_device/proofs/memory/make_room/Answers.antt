use Rattle.std.proofs.Common.{rules}
use Rattle.sector_device.proofs.memory.make_room.Goals as goal

pub returns-then-is_err-clause-counts : goal.returns-then-is_err-clause-counts
returns-then-is_err-clause-counts g c = search rules

pub returns-then-is_err-clause-counts_one : goal.returns-then-is_err-clause-counts_one
returns-then-is_err-clause-counts_one g c = search rules
