use Rattle.core_as_host.proofs.Steps.{created, reopens, run_goes, step_goes}
use Rattle.core_as_host.proofs.core_is_a_host.Goals as goal

pub returns-clause-begins : goal.returns-clause-begins
returns-clause-begins c = created

pub returns-clause-goes_on : goal.returns-clause-goes_on
returns-clause-goes_on c s w e i h = step_goes s w i.coherent h e

pub returns-clause-every_run : goal.returns-clause-every_run
returns-clause-every_run c = run_goes

pub returns-clause-reopens : goal.returns-clause-reopens
returns-clause-reopens c s w i h = reopens s i w h
