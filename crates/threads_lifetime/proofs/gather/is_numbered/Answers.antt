use Rattle.std.proofs.Common.{rules}
use Rattle.threads_lifetime.proofs.gather.is_numbered.Goals as goal

pub returns-in-Some : goal.returns-in-Some
returns-in-Some g c = search rules
