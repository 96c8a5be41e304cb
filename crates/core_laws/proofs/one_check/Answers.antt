use Rattle.core_laws.proofs.Checked.{check_apart, check_fine, check_one, check_refused}
use Rattle.core_laws.proofs.one_check.Goals as goal

pub returns-clause-one : goal.returns-clause-one
returns-clause-one c = λ v e error other safe. check_one v e safe error other

pub returns-clause-apart : goal.returns-clause-apart
returns-clause-apart c = λ v e error safe. check_apart v e safe error

pub returns-clause-refused : goal.returns-clause-refused
returns-clause-refused c = λ v new e error reply safe. check_refused v e safe new error reply

pub returns-clause-fine : goal.returns-clause-fine
returns-clause-fine c = λ v new e reply safe. check_fine v e safe new reply
