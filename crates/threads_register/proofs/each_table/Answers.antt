use Rattle.threads_register.proofs.Sights.{tables}
use Rattle.threads_register.proofs.each_table.Goals as goal

pub returns : goal.returns
returns c = tables
