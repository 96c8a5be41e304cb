use Rattle.core_model.proofs.Example.{example, example_opens, example_marked, example_complete}
use Rattle.core_model.proofs.undone_insertion_is_rejected.Goals as goal

pub returns-clause-opens : goal.returns-clause-opens
returns-clause-opens c = example_opens

pub returns-clause-run : goal.returns-clause-run
returns-clause-run c = example

pub returns-clause-marked : goal.returns-clause-marked
returns-clause-marked c = example_marked

pub returns-clause-complete : goal.returns-clause-complete
returns-clause-complete c = example_complete
