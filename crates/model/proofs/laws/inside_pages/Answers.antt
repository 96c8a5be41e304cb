use Rattle.model.proofs.InsideLaws.{recovered_inside, step_inside}
use Rattle.model.proofs.laws.inside_pages.Goals as goal

pub returns-clause-record : goal.returns-clause-record
returns-clause-record c = step_inside

pub returns-clause-recovered : goal.returns-clause-recovered
returns-clause-recovered c = recovered_inside
