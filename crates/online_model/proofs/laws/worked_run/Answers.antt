use Rattle.online_model.proofs.Example.{example, example_cleaned, example_created, example_placed, example_quiet}
use Rattle.online_model.proofs.laws.worked_run.Goals as goal

pub returns-clause-created : goal.returns-clause-created
returns-clause-created c = example_created

pub returns-clause-run : goal.returns-clause-run
returns-clause-run c = example

pub returns-clause-quiet : goal.returns-clause-quiet
returns-clause-quiet c = example_quiet

pub returns-clause-placed : goal.returns-clause-placed
returns-clause-placed c = example_placed

pub returns-clause-cleaned : goal.returns-clause-cleaned
returns-clause-cleaned c = example_cleaned
