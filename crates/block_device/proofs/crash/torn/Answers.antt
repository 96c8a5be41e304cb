use Rattle.std.proofs.Common.{rules}
use Rattle.block_device.proofs.crash.torn.Goals as goal

pub returns-in-Old : goal.returns-in-Old
returns-in-Old c = search rules
