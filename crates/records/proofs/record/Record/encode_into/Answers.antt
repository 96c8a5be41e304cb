use Rattle.std.proofs.Common.{rules}
use Rattle.records.proofs.record.Record.encode_into.Goals as goal

pub returns-in_err-put-clause-err : goal.returns-in_err-put-clause-err
returns-in_err-put-clause-err g c = search rules
