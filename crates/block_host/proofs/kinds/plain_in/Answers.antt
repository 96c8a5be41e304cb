use Rattle.std.proofs.Common.{rules}
use Rattle.block_host.proofs.kinds.plain_in.Goals as goal

pub returns-clause-told : goal.returns-clause-told
returns-clause-told g c = search rules
