use Rattle.core_laws.proofs.Standing.{all_calls}
use Rattle.core_laws.proofs.Holding.{holds, numbered, recovers, shows_rows}
use Rattle.core_laws.proofs.any_calls.Goals as goal

pub returns-clause-replied : goal.returns-clause-replied
returns-clause-replied c = all_calls

pub returns-clause-holds : goal.returns-clause-holds
returns-clause-holds c = λ o can v b pairs handed new calls. holds o can pairs handed new (all_calls o can v b pairs handed new calls)

pub returns-clause-complete : goal.returns-clause-complete
returns-clause-complete c = λ o can v b pairs handed new calls. shows_rows o can pairs handed new (all_calls o can v b pairs handed new calls)

pub returns-clause-numbers : goal.returns-clause-numbers
returns-clause-numbers c = λ o can v b pairs handed new calls. numbered o can pairs handed new (all_calls o can v b pairs handed new calls)

pub returns-clause-recovers : goal.returns-clause-recovers
returns-clause-recovers c = λ o can v b pairs handed new calls. recovers o can pairs handed new (all_calls o can v b pairs handed new calls)
