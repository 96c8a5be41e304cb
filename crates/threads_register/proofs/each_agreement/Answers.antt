use Rattle.threads_register.proofs.Served.{opens, pushes}
use Rattle.threads_register.proofs.Steps.{begin, create, drop, others, refusals}
use Rattle.threads_register.proofs.each_agreement.Goals as goal

pub returns-clause-opens : goal.returns-clause-opens
returns-clause-opens c = opens

pub returns-clause-pushed : goal.returns-clause-pushed
returns-clause-pushed c = pushes

pub returns-clause-others : goal.returns-clause-others
returns-clause-others c = others

pub returns-clause-refused : goal.returns-clause-refused
returns-clause-refused c = refusals

pub returns-clause-begin : goal.returns-clause-begin
returns-clause-begin c = begin

pub returns-clause-create : goal.returns-clause-create
returns-clause-create c = create

pub returns-clause-drop : goal.returns-clause-drop
returns-clause-drop c = drop
