use Rattle.std.proofs.Common.{rules}
use Rattle.records.proofs.sink.VecRecordSink.take.Goals as goal

pub returns-clause-taken : goal.returns-clause-taken
returns-clause-taken g c = search rules
