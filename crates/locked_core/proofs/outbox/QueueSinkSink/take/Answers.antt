use Rattle.std.proofs.Common.{rules}
use Rattle.locked_core.proofs.outbox.QueueSinkSink.take.Goals as goal

pub returns-clause-taken : goal.returns-clause-taken
returns-clause-taken g c = search rules
