use Rattle.std.proofs.Common.{[]}
use Rattle.csv.proofs.RoundTrip.{read-write-many}
use Rattle.program_rows.proofs.laws.each_line.Goals as goal

pub returns : goal.returns
returns c = λ row rest. read-write-many row.key row.body [] rest
