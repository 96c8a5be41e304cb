use Rattle.csv.specs.Records.{field_at}
use Rattle.program_rows.proofs.RowLemmas.{fits, gives}
use Rattle.program_rows.proofs.laws.each_row.Goals as goal

pub returns-clause-back : goal.returns-clause-back
unfolding field_at
returns-clause-back c = λ row one other. fits row.key row.body one other

pub returns-clause-forth : goal.returns-clause-forth
unfolding field_at
returns-clause-forth c = λ key body row is. gives key body row is
