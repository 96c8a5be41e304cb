use Rattle.entry_scan.proofs.KeyOrder.{only_key}
use Rattle.entry_scan.proofs.range.KeyRange.only.Goals as goal

pub returns-clause-key : goal.returns-clause-key
returns-clause-key c = λ other. only_key c.args.key other
