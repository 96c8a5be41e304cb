use Rattle.program_rows.proofs.ObjectLemmas.{apart, read_back}
use Rattle.program_rows.proofs.laws.each_object.Goals as goal

pub returns-clause-read_back : goal.returns-clause-read_back
returns-clause-read_back c = read_back

pub returns-clause-apart : goal.returns-clause-apart
returns-clause-apart c = λ row other k b k' b' is. apart row other k b k' b' is
